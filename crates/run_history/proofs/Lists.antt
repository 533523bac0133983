-- Lists with the same elements, each once.
use Rattle.std.proofs.Common.{◌≡◌, ℕ, ◌+◌, Bool, true, false, cond, List, [], ◌∷◌, ◌++◌, refl, sym, ap, ◌∙◌, subst}
use Rattle.std.proofs.Common.{arith, inl, inr, ◌⊎◌}
use Rattle.std.specs.List.{count_by, list_any}
use Rattle.tree_answers.proofs.Totals.{total, sum_total}
use Rattle.run_contents.proofs.Words.{any_in, in_any}
use Rattle.run_rules.specs.Past.{EachOnce, In}

-- an element with what stands before and behind it
split_in : {X : Type 0} (x : X) (ys : List X) → In x ys → (l : List X) × (r : List X) × (ys ≡ l ++ x ∷ r)
split_in x [] i = elim i [ ]
split_in x (y ∷ ys) (inl e) = ([], ys, ap (λ z. z ∷ ys) (sym e))
split_in x (y ∷ ys) (inr i) = let s = split_in x ys i in (y ∷ s.0, s.1, ap (λ zs. y ∷ zs) s.2)

total_split : {X : Type 0} (f : X → ℕ) (l : List X) (x : X) (r : List X) → total f (l ++ x ∷ r) ≡ f x + total f (l ++ r)
total_split f [] x r = refl
total_split f (y ∷ l) x r = let rest = total_split f l x r in omega (arith, rest)

in_more : {X : Type 0} (z : X) (l : List X) (x : X) (r : List X) → In z (l ++ r) → In z (l ++ x ∷ r)
in_more z [] x r i = inr i
in_more z (y ∷ l) x r (inl e) = inl e
in_more z (y ∷ l) x r (inr i) = inr (in_more z l x r i)

in_fewer : {X : Type 0} (z : X) (l : List X) (x : X) (r : List X) → In z (l ++ x ∷ r) → (z ≡ x) ⊎ In z (l ++ r)
in_fewer z [] x r i = i
in_fewer z (y ∷ l) x r (inl e) = inr (inl e)
in_fewer z (y ∷ l) x r (inr i) = elim (in_fewer z l x r i) [ inl e ↦ inl e | inr k ↦ inr (inr k) ]

in_middle : {X : Type 0} (l : List X) (x : X) (r : List X) → In x (l ++ x ∷ r)
in_middle [] x r = inl refl
in_middle (y ∷ l) x r = inr (in_middle l x r)

once_without : {X : Type 0} (l : List X) (x : X) (r : List X) → EachOnce (l ++ x ∷ r) → EachOnce (l ++ r) × (In x (l ++ r) → ⊥)
once_without [] x r o = (o.1, o.0)
once_without (y ∷ l) x r o =
    let k = once_without l x r o.1 in (
      (λ i. o.0 (in_more y l x r i), k.0),
      λ i. elim i [ inl e ↦ o.0 (subst (λ z. In z (l ++ x ∷ r)) e (in_middle l x r)) | inr j ↦ k.1 j ],
    )

pub same_total : {X : Type 0} (f : X → ℕ) (xs ys : List X) → EachOnce xs → EachOnce ys → ((z : X) → In z xs → In z ys) → ((z : X) → In z ys → In z xs)
    → total f xs ≡ total f ys
same_total f [] [] ox oy to back = refl
same_total f [] (y ∷ ys) ox oy to back = elim (back y (inl refl)) [ ]
same_total {X} f (x ∷ xs) ys ox oy to back = go (λ zs. same_total f xs zs ox.1) (split_in x ys (to x (inl refl)))
  where
    go : ((zs : List X) → EachOnce zs → ((z : X) → In z xs → In z zs) → ((z : X) → In z zs → In z xs) → total f xs ≡ total f zs)
        → ((l : List X) × (r : List X) × (ys ≡ l ++ x ∷ r)) → f x + total f xs ≡ total f ys
    go rest (l, r, is) =
        let less = once_without l x r (subst EachOnce is oy) in
        ap (λ n. f x + n) (rest (l ++ r) less.0
        (λ z i. elim (in_fewer z l x r (subst (In z) is (to z (inr i)))) [
          | inl e ↦ absurd (ox.0 (subst (λ w. In w xs) e i))
          | inr k ↦ k
        ])
        (λ z i. elim (back z (subst (In z) (sym is) (in_more z l x r i))) [
          | inl e ↦ absurd (less.1 (subst (λ w. In w (l ++ r)) e i))
          | inr k ↦ k
        ]))
        ∙ (sym (total_split f l x r) ∙ ap (total f) (sym is))

pub same_count : {X : Type 0} (p : X → Bool) (xs ys : List X) → EachOnce xs → EachOnce ys → ((z : X) → In z xs → In z ys) → ((z : X) → In z ys → In z xs)
    → count_by p xs ≡ count_by p ys
same_count p xs ys ox oy to back =
    sum_total (λ x. cond (p x) 1 0) xs ∙ (same_total (λ x. cond (p x) 1 0) xs ys ox oy to back ∙ sym (sum_total (λ x. cond (p x) 1 0) ys))

-- two tests with one meaning
pub same_bool : (x y : Bool) → (x ≡ true → y ≡ true) → (y ≡ true → x ≡ true) → x ≡ y
same_bool true y to back = sym (to refl)
same_bool false true to back = back refl
same_bool false false to back = refl

pub same_any : {X : Type 0} (p : X → Bool) (xs ys : List X) → ((z : X) → In z xs → In z ys) → ((z : X) → In z ys → In z xs) → list_any p xs ≡ list_any p ys
same_any p xs ys to back =
    same_bool (list_any p xs) (list_any p ys)
    (λ e. let k = any_in p xs e in in_any p ys k.0 (to k.0 k.1) k.2)
    (λ e. let k = any_in p ys e in in_any p xs k.0 (back k.0 k.1) k.2)
