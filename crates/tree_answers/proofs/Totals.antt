-- Sums over lists.
use Rattle.std.proofs.Common.{◌≡◌, ℕ, zero, suc, ◌+◌, ◌≤◌, ◌||◌, Bool, true, false, not, cond, List, [], ◌∷◌, insert, filter, Some, refl, ap, ◌∙◌, arith, rules}
use Rattle.std.specs.Prelude.{slice_get, slice_set, sum_by}
use Rattle.std.specs.List.{list_any, list_all}
use Rattle.std.proofs.lemmas.List.Sums.{sum_by-cons}
use Rattle.tree_objects.proofs.Observed.{and_left, and_right}

abbrev pub total : {X : Type 0} → (X → ℕ) → List X → ℕ
total f [] = 0
total f (x ∷ xs) = f x + total f xs

pub sum_total : {X : Type 0} (f : X → ℕ) (xs : List X) → sum_by f xs ≡ total f xs
sum_total f [] = refl
sum_total f (x ∷ xs) = sum_by-cons f x xs ∙ ap (λ n. f x + n) (sum_total f xs)

pub total_insert : {X : Type 0} (f : X → ℕ) (x : X) (i : ℕ) (xs : List X) → total f (insert xs i x) ≡ f x + total f xs
total_insert f x zero xs = refl
total_insert f x (suc i) [] = refl
total_insert f x (suc i) (y ∷ ys) = let rest = total_insert f x i ys in omega (arith, rest)

-- one element is replaced
pub total_set : {X : Type 0} (f : X → ℕ) (xs : List X) (i : ℕ) (old new : X) → Some old ≡ slice_get xs i → total f (slice_set xs i new) + f old ≡ total f xs + f new
total_set f [] i old new h = absurd (search (rules, h))
total_set f (y ∷ ys) zero old new h = let same : f old ≡ f y = ap f (let s : old ≡ y = cc in s) in omega (arith, same)
total_set f (y ∷ ys) (suc i) old new h = let rest = total_set f ys i old new h in omega (arith, rest)

-- no element counts for more
pub total_less : {X : Type 0} (f g : X → ℕ) → ((x : X) → f x ≤ g x) → (xs : List X) → total f xs ≤ total g xs
total_less f g h [] = omega arith
total_less f g h (x ∷ xs) = let here = h x in let rest = total_less f g h xs in omega (arith, here, rest)

pub total_same : {X : Type 0} (q : X → Bool) (f g : X → ℕ) → ((x : X) → q x ≡ true → f x ≡ g x) → (xs : List X) → list_all q xs ≡ true → total f xs ≡ total g xs
total_same q f g h [] k = refl
total_same q f g h (x ∷ xs) k = let here = h x (and_left _ _ k) in let rest = total_same q f g h xs (and_right _ _ k) in omega (arith, here, rest)

-- those that pass a test count for no more
pub total_filter : {X : Type 0} (f : X → ℕ) (p : X → Bool) (xs : List X) → total f (filter p xs) ≤ total f xs
total_filter f p [] = omega arith
total_filter f p (x ∷ xs) =
    let rest = total_filter f p xs in
    elim (p x) as (λ t. total f (cond t (x ∷ filter p xs) (filter p xs)) ≤ f x + total f xs) [ true ↦ omega (arith, rest) | false ↦ omega (arith, rest) ]

-- one that goes counts for one
pub total_drop : {X : Type 0} (f : X → ℕ) (p : X → Bool) → ((x : X) → p x ≡ true → f x ≡ 1) → (xs : List X) → list_any p xs ≡ true → total f (filter (λ x. not (p x)) xs) + 1 ≤ total f xs
total_drop f p one [] h = absurd (search (rules, h))
total_drop f p one (x ∷ xs) h =
    let least = total_filter f (λ x. not (p x)) xs in
    elim (p x) as (λ t. p x ≡ t → (t || list_any p xs) ≡ true → total f (cond (not t) (x ∷ filter (λ x. not (p x)) xs) (filter (λ x. not (p x)) xs)) + 1 ≤ f x + total f xs) [
      | true ↦ λ e k. let here = one x e in omega (arith, here, least)
      | false ↦ λ e k. let rest = total_drop f p one xs k in omega (arith, rest)
    ] refl h
