-- Names that don't end alike differ.
use Rattle.std.proofs.Common.{◌≡◌, ℕ, Bool, true, false, List, refl, sym, ◌∙◌}
use Rattle.std.specs.Cmp.Lexicographic.{same_text}
use Rattle.base_types.specs.Name.{same_name}

-- where names don't end alike they aren't the same
pub ends_tell : (a b : List ℕ) (alike : Bool) → (a ≡ b → alike ≡ true) → alike ≡ false → false ≡ same_name a b
ends_tell a b alike f e = by_test (same_name a b) refl
  where
    by_test : (v : Bool) → same_name a b ≡ v → false ≡ same_name a b
    by_test true s = sym e ∙ f (same_text a b (sym s)) ∙ sym s
    by_test false s = sym s
