-- Tests that pass.
use Rattle.std.proofs.Common.{◌≡◌, refl, ◌∙◌, ap}
use Rattle.std.specs.Prelude.{Bool, true, false, ◌&&◌}

pub and_true : (b : Bool) → (b && true) ≡ b
and_true true = refl
and_true false = refl

-- the second of two tests passes
pub and_passes : (b t : Bool) → t ≡ true → (b && t) ≡ b
and_passes b t passes = ap (λ (s : Bool). b && s) passes ∙ and_true b

pub and_assoc : (a b c : Bool) → ((a && b) && c) ≡ (a && (b && c))
and_assoc true b c = refl
and_assoc false b c = refl

pub four_assoc : (a b c d e : Bool) → ((((a && b) && c) && d) && e) ≡ (a && (b && (c && (d && e))))
four_assoc false b c d e = refl
four_assoc true false c d e = refl
four_assoc true true false d e = refl
four_assoc true true true d e = refl
