-- The use of a label ends, and the call that ends it is answered in the step that begins it.
use Rattle.host_calls.specs.Looking.{ending_of}
use Rattle.host_labels.specs.Labels.{is_lock}
use Rattle.host_manager.proofs.OnceSaid.{once_append}
use Rattle.host_tables.proofs.Lists.{in_either, in_left, in_right}
use Rattle.run_rules.specs.Past.{EachOnce, In}
use Rattle.run_rules.specs.Tokens.{IsUseKind, end_call}
use Rattle.std.proofs.Common.{Bool, List, [], ap, append-nil, arith, cond, false, filter, flat_map, inl, inr, length}
use Rattle.std.proofs.Common.{map, not, refl, subst, sym, true, ℕ, ◌++◌, ◌∙◌, ◌∷◌, ◌≡◌, ◌≤◌, ◌⊎◌}
use Rattle.std.specs.Bool.{beq}
use Rattle.token_types.specs.declared.token.Kind.{Kind}
use Rattle.token_types.specs.declared.token.Kind.TheVariants.{Bytes, Lock, Opening, Status}
use Rattle.tree_calls.specs.declared.call.Call.{Call}

-- # Lists
pub one_only : {A : Type 0} (xs : List A) (x y : A) → length xs ≤ 1 → In x xs → In y xs → x ≡ y
one_only [] x y le i j = elim i [ ]
one_only (z ∷ []) x y le i j = elim i [
  | inl e ↦ elim j [ inl f ↦ e ∙ sym f | inr n ↦ elim n [ ] ]
  | inr n ↦ elim n [ ]
]
one_only (z ∷ w ∷ xs) x y le i j = absurd (omega (arith, le))

pub filters_alike : {A : Type 0} (p q : A → Bool) (xs : List A) → ((x : A) → In x xs → p x ≡ q x)
    → filter p xs ≡ filter q xs
filters_alike p q [] e = refl
filters_alike {A = A} p q (x ∷ xs) e =
    ap (λ (b : Bool). cond b (x ∷ filter p xs) (filter p xs)) (e x (inl refl))
    ∙ ap (λ (ys : List A). cond (q x) (x ∷ ys) ys) (filters_alike p q xs (λ y i. e y (inr i)))

once_tail : {A : Type 0} (xs ys : List A) → EachOnce (xs ++ ys) → EachOnce ys
once_tail [] ys e = e
once_tail (x ∷ xs) ys e = once_tail xs ys e.1

once_less : {A : Type 0} (xs ys zs : List A) → EachOnce (xs ++ ys) → EachOnce zs → ((z : A) → In z zs → In z ys)
    → EachOnce (xs ++ zs)
once_less [] ys zs e once fewer = once
once_less (x ∷ xs) ys zs e once fewer = (
  (λ i. e.0 (elim (in_either xs zs x i) [
    | inl j ↦ in_left xs ys x j
    | inr j ↦ in_right xs ys x (fewer x j)
  ])),
  once_less xs ys zs e.1 once fewer,
)

module _ {A B C : Type 0} (f : B → List C) (g : A → B) (p : A → Bool) (rest : List B) where
  fewer_mapped : (xs : List A) (z : C) → In z (flat_map f (map g (filter p xs) ++ rest))
      → In z (flat_map f (map g xs ++ rest))
  fewer_mapped [] z i = i
  fewer_mapped (x ∷ xs) z i = by_kept (p x) (λ j. fewer_mapped xs z j) i
    where
      by_kept : (b : Bool)
          → (In z (flat_map f (map g (filter p xs) ++ rest)) → In z (flat_map f (map g xs ++ rest)))
          → In z (flat_map f (map g (cond b (x ∷ filter p xs) (filter p xs)) ++ rest))
          → In z (f (g x) ++ flat_map f (map g xs ++ rest))
      by_kept true later j = elim (in_either (f (g x)) (flat_map f (map g (filter p xs) ++ rest)) z j) [
        | inl k ↦ in_left (f (g x)) (flat_map f (map g xs ++ rest)) z k
        | inr k ↦ in_right (f (g x)) (flat_map f (map g xs ++ rest)) z (later k)
      ]
      by_kept false later j = in_right (f (g x)) (flat_map f (map g xs ++ rest)) z (later j)

  pub once_filtered : (xs : List A) → EachOnce (flat_map f (map g xs ++ rest))
      → EachOnce (flat_map f (map g (filter p xs) ++ rest))
  once_filtered [] e = e
  once_filtered (x ∷ xs) e = by_kept (p x) (once_filtered xs (once_tail (f (g x)) (flat_map f (map g xs ++ rest)) e))
    where
      by_kept : (b : Bool) → EachOnce (flat_map f (map g (filter p xs) ++ rest))
          → EachOnce (flat_map f (map g (cond b (x ∷ filter p xs) (filter p xs)) ++ rest))
      by_kept true later =
          once_less (f (g x)) (flat_map f (map g xs ++ rest)) (flat_map f (map g (filter p xs) ++ rest)) e later
          (λ z i. fewer_mapped xs z i)
      by_kept false later = later

apart : {A : Type 0} (xs ys : List A) → EachOnce (xs ++ ys) → (z : A) → In z xs → In z ys → ⊥
apart [] ys e z i j = elim i [ ]
apart (x ∷ xs) ys e z (inl q) j = e.0 (in_right xs ys x (subst (λ w. In w ys) q j))
apart (x ∷ xs) ys e z (inr i) j = apart xs ys e.1 z i j

once_front : {A : Type 0} (xs ys : List A) → EachOnce (xs ++ ys) → EachOnce xs
once_front [] ys e = tt
once_front (x ∷ xs) ys e = ((λ i. e.0 (in_left xs ys x i)), once_front xs ys e.1)

module _ {B C : Type 0} (f : B → List C) where
  in_last : (bs : List B) (b : B) (z : C) → In z (flat_map f (bs ++ b ∷ []))
      → In z (flat_map f (bs ++ [])) ⊎ In z (f b)
  in_last [] b z i = elim (in_either (f b) [] z i) [ inl j ↦ inr j | inr n ↦ elim n [ ] ]
  in_last (a ∷ bs) b z i = elim (in_either (f a) (flat_map f (bs ++ b ∷ [])) z i) [
    | inl j ↦ inl (in_left (f a) (flat_map f (bs ++ [])) z j)
    | inr j ↦ elim (in_last bs b z j) [
      | inl k ↦ inl (in_right (f a) (flat_map f (bs ++ [])) z k)
      | inr k ↦ inr k
    ]
  ]

  once_last : (bs : List B) (b : B) → EachOnce (flat_map f (bs ++ [])) → EachOnce (f b)
      → ((z : C) → In z (f b) → In z (flat_map f (bs ++ [])) → ⊥) → EachOnce (flat_map f (bs ++ b ∷ []))
  once_last [] b e g none = subst EachOnce (sym (append-nil (f b))) g
  once_last (a ∷ bs) b e g none =
      once_append (f a) (flat_map f (bs ++ b ∷ [])) (once_front (f a) (flat_map f (bs ++ [])) e)
      (once_last bs b (once_tail (f a) (flat_map f (bs ++ [])) e) g
      (λ z i j. none z i (in_right (f a) (flat_map f (bs ++ [])) z j)))
      (λ z i j. elim (in_last bs b z j) [
        | inl k ↦ apart (f a) (flat_map f (bs ++ [])) e z i k
        | inr k ↦ none z k (in_left (f a) (flat_map f (bs ++ [])) z i)
      ])

module _ {A B C : Type 0} (f : B → List C) (g : A → B) (p : A → Bool) where
  in_mapped : (xs : List A) (u : A) (z : C) → In u xs → In z (f (g u)) → In z (flat_map f (map g xs ++ []))
  in_mapped [] u z i j = elim i [ ]
  in_mapped (x ∷ xs) u z (inl q) j =
      in_left (f (g x)) (flat_map f (map g xs ++ [])) z (subst (λ w. In z (f (g w))) q j)
  in_mapped (x ∷ xs) u z (inr i) j = in_right (f (g x)) (flat_map f (map g xs ++ [])) z (in_mapped xs u z i j)

  not_kept : (xs : List A) (u : A) → In u xs → p u ≡ false → EachOnce (flat_map f (map g xs ++ [])) → (z : C)
      → In z (f (g u)) → In z (flat_map f (map g (filter p xs) ++ [])) → ⊥
  not_kept [] u i n e z j k = elim i [ ]
  not_kept (x ∷ xs) u (inl q) n e z j k =
      let first : p x ≡ false = ap p (sym q) ∙ n in
      let rest = subst (λ (b : Bool). In z (flat_map f (map g (cond b (x ∷ filter p xs) (filter p xs)) ++ []))) first
      k in
      apart (f (g x)) (flat_map f (map g xs ++ [])) e z (subst (λ w. In z (f (g w))) q j)
      (fewer_mapped f g p [] xs z rest)
  not_kept (x ∷ xs) u (inr i) n e z j k =
      by_kept (p x) (λ l. not_kept xs u i n (once_tail (f (g x)) (flat_map f (map g xs ++ [])) e) z j l) k
    where
      by_kept : (b : Bool) → (In z (flat_map f (map g (filter p xs) ++ [])) → ⊥)
          → In z (flat_map f (map g (cond b (x ∷ filter p xs) (filter p xs)) ++ [])) → ⊥
      by_kept true later l = elim (in_either (f (g x)) (flat_map f (map g (filter p xs) ++ [])) z l) [
        | inl h ↦ apart (f (g x)) (flat_map f (map g xs ++ [])) e z h (in_mapped xs u z i j)
        | inr h ↦ later h
      ]
      by_kept false later l = later l

  -- one of a list stands at its end, and no more in it
  pub once_moved : (xs : List A) (u : A) → In u xs → p u ≡ false → EachOnce (f (g u))
      → EachOnce (flat_map f (map g xs ++ [])) → EachOnce (flat_map f (map g (filter p xs) ++ g u ∷ []))
  once_moved xs u i n one e = once_last f (map g (filter p xs)) (g u) (once_filtered f g p [] xs e) one
      (λ z j k. not_kept xs u i n e z j k)

pub map_parts : {A : Type 0} (f : A → A) (xs us : List A) (y : A) (vs : List A) → map f xs ≡ us ++ y ∷ vs
    → (ws : List A) × (x : A) × (zs : List A) × (xs ≡ ws ++ x ∷ zs) × (y ≡ f x) × (vs ≡ map f zs)
map_parts f [] [] y vs e = absurd (cc)
map_parts f [] (u ∷ us) y vs e = absurd (cc)
map_parts f (x ∷ xs) [] y vs e = ([], x, xs, refl, (let q = e in cc), (let q = e in cc))
map_parts {A = A} f (x ∷ xs) (u ∷ us) y vs e =
    let t : map f xs ≡ us ++ y ∷ vs = cc in
    let r = map_parts f xs us y vs t in
    (x ∷ r.0, r.1, r.2, ap (λ (zs : List A). x ∷ zs) r.3, r.4, r.5)

-- # The calls that end the use of labels
pub closes : Kind → Bool
closes (Opening kind) = true
closes _ = false

abbrev end_at : Bool → List ℕ → Call
end_at lock label = ending_of lock label

pub end_is : (k : Kind) (label : List ℕ) → IsUseKind k → end_call k label ≡ ending_of (is_lock k) label
end_is (Lock writing span) label u = refl
end_is (Opening kind) label u = refl
end_is (Bytes update span) label u = elim u [ ]
end_is (Status update) label u = elim u [ ]

pub closes_lock : (k : Kind) → IsUseKind k → not (closes k) ≡ is_lock k
unfolding closes
closes_lock (Lock writing span) u = refl
closes_lock (Opening kind) u = refl
closes_lock (Bytes update span) u = elim u [ ]
closes_lock (Status update) u = elim u [ ]

-- the label by the call that ends its use
pub same_end : (k : Kind) (l : List ℕ) (lock : Bool) (label : List ℕ) → end_call k l ≡ ending_of lock label
    → (not (closes k) ≡ lock) × (l ≡ label)
unfolding closes
same_end (Opening kind) l true label e = absurd (cc)
same_end (Opening kind) l false label e = (refl, let q = e in cc)
same_end (Lock writing span) l true label e = (refl, let q = e in cc)
same_end (Lock writing span) l false label e = absurd (cc)
same_end (Bytes update span) l true label e = (refl, let q = e in cc)
same_end (Bytes update span) l false label e = absurd (cc)
same_end (Status update) l true label e = (refl, let q = e in cc)
same_end (Status update) l false label e = absurd (cc)

pub modes : (a b : Bool) → beq a b ≡ true → a ≡ b
modes true true e = refl
modes true false e = absurd (cc)
modes false true e = absurd (cc)
modes false false e = refl

pub mode_same : (a b : Bool) → a ≡ b → beq a b ≡ true
mode_same true b e = subst (λ (x : Bool). beq true x ≡ true) e refl
mode_same false b e = subst (λ (x : Bool). beq false x ≡ true) e refl
