-- Names that are the same.
use Rattle.std.proofs.Common.{◌≡◌, ℕ, Bool, true, false, ◌&&◌, eqb, List, [], ◌∷◌, refl}
use Rattle.std.proofs.lemmas.Bool.{eqb-true}
use Rattle.base_types.specs.Name.{same_name}

both_true : (a b : Bool) → (a && b) ≡ true → (a ≡ true) × (b ≡ true)
both_true true true e = (refl, refl)
both_true true false e = absurd (cc)
both_true false b e = absurd (cc)

pub name_same : (a b : List ℕ) → same_name a b ≡ true → a ≡ b
name_same [] [] e = refl
name_same [] (y ∷ ys) e = absurd (cc)
name_same (x ∷ xs) [] e = absurd (cc)
name_same (x ∷ xs) (y ∷ ys) e =
    let t = both_true (eqb x y) (same_name xs ys) e in
    λ i. eqb-true x y t.0 i ∷ name_same xs ys t.1 i
