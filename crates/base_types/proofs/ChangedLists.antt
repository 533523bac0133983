use Rattle.std.proofs.Common.{◌≡◌, ℕ, zero, suc, ◌<◌, ◌≤◌, List, [], ◌∷◌, length, get_or, set, refl, sym, ap, arith}
use Rattle.base_types.specs.Lists.{changed_at}

-- a change of the element that stands at a place
pub changed_inside : {X : Type 0} (xs : List X) (i : ℕ) (x : X) (f : X → X) → i < length xs → x ≡ get_or xs i x → changed_at xs i f ≡ set xs i (f x)
changed_inside [] i x f h e = absurd (omega arith)
changed_inside (y ∷ ys) zero x f h e = ap (λ z. f z ∷ ys) (sym e)
changed_inside (y ∷ ys) (suc i) x f h e = ap (λ zs. y ∷ zs) (changed_inside ys i x f (omega arith) e)

-- a change past the end
pub changed_past : {X : Type 0} (xs : List X) (i : ℕ) (f : X → X) → length xs ≤ i → changed_at xs i f ≡ xs
changed_past [] i f h = refl
changed_past (y ∷ ys) zero f h = absurd (omega arith)
changed_past (y ∷ ys) (suc i) f h = ap (λ zs. y ∷ zs) (changed_past ys i f (omega arith))

-- the same, for what the code wrote there
pub changed_to : {X : Type 0} (xs : List X) (i : ℕ) (x y : X) (f : X → X) → i < length xs → x ≡ get_or xs i x → y ≡ f x → set xs i y ≡ changed_at xs i f
changed_to xs i x y f h e w = rw w (sym (changed_inside xs i x f h e))

pub ruleset changes = (changed_to, changed_past)
