-- Lists into which elements are put one after the other.
use Rattle.std.proofs.Common.{◌≡◌, ℕ, zero, suc, ◌+◌, ◌≤◌, Bool, true, List, [], ◌∷◌, ◌++◌, insert, Option, Some, None, refl, sym, ap, ◌∙◌, subst, arith, inl, inr, ◌⊎◌}
use Rattle.std.specs.Prelude.{fold}
use Rattle.std.specs.List.{list_all, filter_map, cons_option}
use Rattle.tree_answers.proofs.Totals.{total, total_insert}
use Rattle.service_starts.proofs.Standing.{In, in_either}

-- an element put at its place
abbrev pub put : {X : Type 0} → (List X → X → ℕ) → List X → X → List X
put place xs x = insert xs (place xs x) x

pub in_insert : {X : Type 0} (xs : List X) (i : ℕ) (x y : X) → In y (insert xs i x) → (x ≡ y) ⊎ In y xs
in_insert xs zero x y h = h
in_insert [] (suc i) x y h = h
in_insert (z ∷ xs) (suc i) x y (inl e) = inr (inl e)
in_insert (z ∷ xs) (suc i) x y (inr h) = elim (in_insert xs i x y h) [ inl e ↦ inl e | inr k ↦ inr (inr k) ]

pub insert_has : {X : Type 0} (xs : List X) (i : ℕ) (x y : X) → (x ≡ y) ⊎ In y xs → In y (insert xs i x)
insert_has xs zero x y h = h
insert_has [] (suc i) x y h = h
insert_has (z ∷ xs) (suc i) x y (inl e) = inr (insert_has xs i x y (inl e))
insert_has (z ∷ xs) (suc i) x y (inr (inl e)) = inl e
insert_has (z ∷ xs) (suc i) x y (inr (inr k)) = inr (insert_has xs i x y (inr k))

-- what stands among those that were put
pub in_puts : {X : Type 0} (place : List X → X → ℕ) (those xs : List X) (y : X) → In y (fold (put place) those xs) → In y those ⊎ In y xs
in_puts place those [] y h = inl h
in_puts place those (x ∷ xs) y h =
    elim (in_puts place (put place those x) xs y h)
    [ inl k ↦ elim (in_insert those (place those x) x y k) [ inl e ↦ inr (inl e) | inr j ↦ inl j ] | inr k ↦ inr (inr k) ]

pub puts_have : {X : Type 0} (place : List X → X → ℕ) (those xs : List X) (y : X) → In y those ⊎ In y xs → In y (fold (put place) those xs)
puts_have place those [] y (inl h) = h
puts_have place those [] y (inr h) = absurd h
puts_have place those (x ∷ xs) y (inl h) = puts_have place (put place those x) xs y (inl (insert_has those (place those x) x y (inr h)))
puts_have place those (x ∷ xs) y (inr (inl e)) = puts_have place (put place those x) xs y (inl (insert_has those (place those x) x y (inl e)))
puts_have place those (x ∷ xs) y (inr (inr h)) = puts_have place (put place those x) xs y (inr h)

-- what they count for
pub total_puts : {X : Type 0} (f : X → ℕ) (place : List X → X → ℕ) (those xs : List X) → total f (fold (put place) those xs) ≡ total f those + total f xs
total_puts f place those [] = omega arith
total_puts f place those (x ∷ xs) =
    let rest = total_puts f place (put place those x) xs in let here = total_insert f x (place those x) those in omega (arith, rest, here)

-- each two are apart, the earlier one from the later one
abbrev pub Pairs : {X : Type 0} → (X → X → Type 0) → List X → Type 0
Pairs {X} apart [] = Unit {0}
Pairs {X} apart (x ∷ xs) = ((y : X) → In y xs → apart x y) × Pairs apart xs

-- what each that is put keeps, all keep
pub puts_keep : {X : Type 0} (place : List X → X → ℕ) (keeps : List X → Type 0) (apart : X → X → Type 0)
    → ((those : List X) (x : X) → keeps those → ((y : X) → In y those → apart y x) → keeps (put place those x))
    → (those xs : List X) → keeps those → Pairs apart xs → ((y x : X) → In y those → In x xs → apart y x) → keeps (fold (put place) those xs)
puts_keep place keeps apart step those [] k p c = k
puts_keep place keeps apart step those (x ∷ xs) k p c =
    puts_keep place keeps apart step (put place those x) xs (step those x k (λ y h. c y x h (inl refl))) p.1
    (λ y z h j. elim (in_insert those (place those x) x y h) [ inl e ↦ subst (λ one. apart one z) e (p.0 z j) | inr i ↦ c y z i (inr j) ])

pub pairs_both : {X : Type 0} (apart : X → X → Type 0) (xs ys : List X) → Pairs apart xs → Pairs apart ys → ((x y : X) → In x xs → In y ys → apart x y) → Pairs apart (xs ++ ys)
pairs_both apart [] ys p q c = q
pairs_both apart (x ∷ xs) ys p q c =
    ((λ y h. elim (in_either xs ys y h) [ inl k ↦ p.0 y k | inr k ↦ c x y (inl refl) k ]), pairs_both apart xs ys p.1 q (λ z y h k. c z y (inr h) k))

-- two of them
pub pairs_case : {X : Type 0} (apart : X → X → Type 0) (xs : List X) → Pairs apart xs → (x y : X) → In x xs → In y xs → (x ≡ y) ⊎ (apart x y ⊎ apart y x)
pairs_case apart [] p x y h k = absurd h
pairs_case apart (z ∷ xs) p x y (inl e) (inl f) = inl (sym e ∙ f)
pairs_case apart (z ∷ xs) p x y (inl e) (inr k) = inr (inl (subst (λ one. apart one y) e (p.0 y k)))
pairs_case apart (z ∷ xs) p x y (inr h) (inl f) = inr (inr (subst (λ one. apart one x) f (p.0 x h)))
pairs_case apart (z ∷ xs) p x y (inr h) (inr k) = pairs_case apart xs p.1 x y h k

-- what is made of some
pub in_made : {X : Type 0} {Y : Type 0} (make : X → Option Y) (xs : List X) (y : Y) → In y (filter_map make xs) → (x : X) × In x xs × (make x ≡ Some y)
in_made make [] y h = absurd h
in_made {X = X} {Y = Y} make (x ∷ xs) y h = choice (make x) refl h (λ k. in_made make xs y k)
  where
    choice : (o : Option Y) → make x ≡ o → In y (cons_option o (filter_map make xs)) → (In y (filter_map make xs) → (z : X) × In z xs × (make z ≡ Some y)) → (z : X) × In z (x ∷ xs) × (make z ≡ Some y)
    choice None e k rest = let w = rest k in (w.0, inr w.1, w.2)
    choice (Some made) e (inl same) rest = (x, inl refl, e ∙ ap Some same)
    choice (Some made) e (inr k) rest = let w = rest k in (w.0, inr w.1, w.2)

pub made_in : {X : Type 0} {Y : Type 0} (make : X → Option Y) (xs : List X) (x : X) (y : Y) → In x xs → make x ≡ Some y → In y (filter_map make xs)
made_in make [] x y h e = absurd h
made_in make (z ∷ xs) x y (inl s) e = let made : make z ≡ Some y = ap make s ∙ e in rw made (inl refl)
made_in {X = X} {Y = Y} make (z ∷ xs) x y (inr h) e = choice (make z) (made_in make xs x y h e)
  where
    choice : (o : Option Y) → In y (filter_map make xs) → In y (cons_option o (filter_map make xs))
    choice None k = k
    choice (Some made) k = inr k

pub pairs_made : {X : Type 0} {Y : Type 0} (make : X → Option Y) (apart : X → X → Type 0) (those : Y → Y → Type 0) (xs : List X) → Pairs apart xs
    → ((a b : X) (x y : Y) → apart a b → In a xs → In b xs → make a ≡ Some x → make b ≡ Some y → those x y) → Pairs those (filter_map make xs)
pairs_made make apart those [] p h = tt
pairs_made {X = X} {Y = Y} make apart those (a ∷ xs) p h = choice (make a) refl (pairs_made make apart those xs p.1 (λ b c x y k i j. h b c x y k (inr i) (inr j)))
  where
    choice : (o : Option Y) → make a ≡ o → Pairs those (filter_map make xs) → Pairs those (cons_option o (filter_map make xs))
    choice None e rest = rest
    choice (Some x) e rest = ((λ y k. let w = in_made make xs y k in h a w.0 x y (p.0 w.0 w.1) (inl refl) (inr w.1) e w.2), rest)

-- what is said of each
pub all_of : {X : Type 0} (test : X → Bool) (xs : List X) → ((x : X) → In x xs → test x ≡ true) → list_all test xs ≡ true
all_of test [] h = refl
all_of test (x ∷ xs) h = let one : test x ≡ true = h x (inl refl) in let rest = all_of test xs (λ y k. h y (inr k)) in rw (one, rest) refl

-- what two parts of each count for
pub totals_both : {X : Type 0} {Y : Type 0} {Z : Type 0} (f : Y → ℕ) (make : X → Option Y) (g : Z → ℕ) (leave : X → Option Z) (h : X → ℕ) (xs : List X)
    → ((x : X) → In x xs → total f (cons_option (make x) []) + total g (cons_option (leave x) []) ≤ h x) → total f (filter_map make xs) + total g (filter_map leave xs) ≤ total h xs
totals_both f make g leave h [] k = omega arith
totals_both {X = X} {Y = Y} {Z = Z} f make g leave h (x ∷ xs) k =
    let here = k x (inl refl) in
    let rest = totals_both f make g leave h xs (λ y j. k y (inr j)) in
    let first = one f (make x) (filter_map make xs) in
    let second = one g (leave x) (filter_map leave xs) in
    omega (arith, here, rest, first, second)
  where
    one : {W : Type 0} (w : W → ℕ) (o : Option W) (those : List W) → total w (cons_option o those) ≡ total w (cons_option o []) + total w those
    one w None those = omega arith
    one w (Some v) those = omega arith
