use Rattle.std.proofs.Common.{◌≡◌, ℕ, zero, suc, List, [], ◌∷◌, set, refl, ap}
use Rattle.std.specs.Prelude.{Some, None, slice_get}
use Rattle.base_types.specs.Lists.{changed_at}

-- one value put at a place
pub set_changed : {X : Type 0} (xs : List X) (i : ℕ) (y : X) → set xs i y ≡ changed_at xs i (λ _. y)
set_changed [] i y = refl
set_changed (x ∷ xs) zero y = refl
set_changed (x ∷ xs) (suc i) y = ap (λ ys. x ∷ ys) (set_changed xs i y)

-- a change of what is found at a place
pub found_changed : {X : Type 0} (xs : List X) (i : ℕ) (x y : X) (f : X → X) → Some x ≡ slice_get xs i → y ≡ f x → set xs i y ≡ changed_at xs i f
found_changed [] i x y f h e = cc
found_changed (z ∷ zs) zero x y f h e =
    let same : x ≡ z = cc in ap (λ w. w ∷ zs) (rw (e, same) refl)
found_changed (z ∷ zs) (suc i) x y f h e = ap (λ ws. z ∷ ws) (found_changed zs i x y f h e)

-- what is found at a place, put there again
pub found_same : {X : Type 0} (xs : List X) (i : ℕ) (x : X) → Some x ≡ slice_get xs i → set xs i x ≡ xs
found_same [] i x h = refl
found_same (z ∷ zs) zero x h = let same : x ≡ z = cc in ap (λ w. w ∷ zs) same
found_same (z ∷ zs) (suc i) x h = ap (λ ws. z ∷ ws) (found_same zs i x h)

-- a change where nothing is found
pub none_changed : {X : Type 0} (xs : List X) (i : ℕ) (f : X → X) → None ≡ slice_get xs i → changed_at xs i f ≡ xs
none_changed [] i f h = refl
none_changed (z ∷ zs) zero f h = cc
none_changed (z ∷ zs) (suc i) f h = ap (λ ws. z ∷ ws) (none_changed zs i f h)

pub ruleset changes = (set_changed, found_changed, found_same, none_changed)
