use Rattle.std.proofs.Common.{List, ap, arith, subst, ℕ, [], ◌∙◌, ◌∷◌}
use Rattle.host_tells.specs.Spoken.{Puts}
use Rattle.host_tells.proofs.Spelled.{rights_are}
use Rattle.host_tells.proofs.spelling.put_rights.Goals as goal

pub returns : goal.returns
returns c =
    subst (λ (bytes : List ℕ). Puts bytes c.args.at c.args.out.now c.put_byte.new.out c.put_byte.result)
    (ap (λ r. r ∷ []) c.bits.ensures
    ∙ rights_are c.args.rights (omega (arith, c.bits.ensures, c.bits.type_inv))) c.put_byte.ensures
