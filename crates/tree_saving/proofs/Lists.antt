-- What holds of all elements of a list.
use Rattle.std.proofs.Common.{◌≡◌, ℕ, zero, suc, Bool, true, false, ◌||◌, cond, List, [], ◌∷◌, filter, map, Some, refl, sym, ap, ◌∙◌, rules}
use Rattle.std.specs.Prelude.{slice_get, slice_set, replicate}
use Rattle.std.specs.List.{list_all}
use Rattle.base_types.specs.Lists.{changed_at}
use Rattle.tree_objects.proofs.Observed.{and_left, and_right}
use Rattle.tree_objects.proofs.Rising.{and_both}

-- with one element changed
pub all_changed : {X : Type 0} (p : X → Bool) (f : X → X) (xs : List X) (i : ℕ) → ((x : X) → Some x ≡ slice_get xs i → p x ≡ true → p (f x) ≡ true) → list_all p xs ≡ true → list_all p (changed_at xs i f) ≡ true
all_changed p f [] i k h = refl
all_changed p f (x ∷ xs) zero k h = and_both _ _ (k x refl (and_left _ _ h)) (and_right _ _ h)
all_changed p f (x ∷ xs) (suc i) k h = and_both _ _ (and_left _ _ h) (all_changed p f xs i k (and_right _ _ h))

-- with another element at a place
pub all_set : {X : Type 0} (p : X → Bool) (xs : List X) (i : ℕ) (y : X) → p y ≡ true → list_all p xs ≡ true → list_all p (slice_set xs i y) ≡ true
all_set p [] i y k h = refl
all_set p (x ∷ xs) zero y k h = and_both _ _ k (and_right _ _ h)
all_set p (x ∷ xs) (suc i) y k h = and_both _ _ (and_left _ _ h) (all_set p xs i y k (and_right _ _ h))

-- with each element changed
pub all_mapped : {X : Type 0} (p q : X → Bool) (f : X → X) → ((x : X) → p x ≡ true → q (f x) ≡ true) → (xs : List X) → list_all p xs ≡ true → list_all q (map f xs) ≡ true
all_mapped p q f k [] h = refl
all_mapped p q f k (x ∷ xs) h = and_both _ _ (k x (and_left _ _ h)) (all_mapped p q f k xs (and_right _ _ h))

-- so many times one element
pub all_replicate : {X : Type 0} (p : X → Bool) (n : ℕ) (x : X) → p x ≡ true → list_all p (replicate n x) ≡ true
all_replicate p zero x h = refl
all_replicate p (suc n) x h = and_both _ _ h (all_replicate p n x h)

-- what passes a test passes it
pub all_passing : {X : Type 0} (test : X → Bool) (xs : List X) → list_all test (filter test xs) ≡ true
all_passing test [] = refl
all_passing test (x ∷ xs) =
    let rest = all_passing test xs in
    elim (test x) as (λ t. t ≡ test x → list_all test (cond t (x ∷ filter test xs) (filter test xs)) ≡ true)
    [ true ↦ λ e. and_both _ _ (sym e) rest | false ↦ λ e. rest ] refl

-- where nothing passes, nothing is left
pub filter_none : {X : Type 0} (p test : X → Bool) → ((x : X) → p x ≡ true → test x ≡ false) → (xs : List X) → list_all p xs ≡ true → filter test xs ≡ []
filter_none p test k [] h = refl
filter_none p test k (x ∷ xs) h = ap (λ t. cond t (x ∷ filter test xs) (filter test xs)) (k x (and_left _ _ h)) ∙ filter_none p test k xs (and_right _ _ h)

-- where all pass, all are left
pub filter_all : {X : Type 0} (p test : X → Bool) → ((x : X) → p x ≡ true → test x ≡ true) → (xs : List X) → list_all p xs ≡ true → filter test xs ≡ xs
filter_all p test k [] h = refl
filter_all p test k (x ∷ xs) h = ap (λ t. cond t (x ∷ filter test xs) (filter test xs)) (k x (and_left _ _ h)) ∙ ap (λ ys. x ∷ ys) (filter_all p test k xs (and_right _ _ h))

-- one of two
pub or_left : (a b : Bool) → a ≡ true → (a || b) ≡ true
or_left true b h = refl
or_left false b h = absurd (search (rules, h))

pub or_right : (a b : Bool) → b ≡ true → (a || b) ≡ true
or_right true b h = refl
or_right false b h = h
