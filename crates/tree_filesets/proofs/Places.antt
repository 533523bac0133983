-- What stands at the places of a list after a change of one.
use Rattle.std.proofs.Common.{◌≡◌, ◌≢◌, ℕ, zero, suc, List, [], ◌∷◌, length, refl, ap}
use Rattle.std.specs.Prelude.{slice_get}
use Rattle.std.specs.Option.{option_map, option_map_or}
use Rattle.base_types.specs.Lists.{changed_at}

pub get-changed_here : {X : Type 0} (xs : List X) (i : ℕ) (f : X → X) → slice_get (changed_at xs i f) i ≡ option_map f (slice_get xs i)
get-changed_here [] i f = refl
get-changed_here (x ∷ xs) zero f = refl
get-changed_here (x ∷ xs) (suc i) f = get-changed_here xs i f

pub get-changed_other : {X : Type 0} (xs : List X) (i j : ℕ) (f : X → X) → j ≢ i → slice_get (changed_at xs i f) j ≡ slice_get xs j
get-changed_other [] i j f h = refl
get-changed_other (x ∷ xs) zero zero f h = absurd (h refl)
get-changed_other (x ∷ xs) zero (suc j) f h = refl
get-changed_other (x ∷ xs) (suc i) zero f h = refl
get-changed_other (x ∷ xs) (suc i) (suc j) f h = get-changed_other xs i j f (λ e. h (ap suc e))

-- what a change leaves as it is
pub get-changed_same : {X : Type 0} (xs : List X) (i j : ℕ) (f : X → X) (u : X → ℕ) (d : ℕ) → ((x : X) → u (f x) ≡ u x) → option_map_or u (slice_get (changed_at xs i f) j) d ≡ option_map_or u (slice_get xs j) d
get-changed_same [] i j f u d h = refl
get-changed_same (x ∷ xs) zero zero f u d h = h x
get-changed_same (x ∷ xs) zero (suc j) f u d h = refl
get-changed_same (x ∷ xs) (suc i) zero f u d h = refl
get-changed_same (x ∷ xs) (suc i) (suc j) f u d h = get-changed_same xs i j f u d h

pub length-changed : {X : Type 0} (xs : List X) (i : ℕ) (f : X → X) → length (changed_at xs i f) ≡ length xs
length-changed [] i f = refl
length-changed (x ∷ xs) zero f = refl
length-changed (x ∷ xs) (suc i) f = ap suc (length-changed xs i f)
