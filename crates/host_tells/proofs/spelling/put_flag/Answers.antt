use Rattle.std.proofs.Common.{List, ap, subst, ℕ, [], ◌∙◌, ◌∷◌}
use Rattle.host_tells.specs.Spoken.{Puts}
use Rattle.host_tells.proofs.Spelled.{flag_is}
use Rattle.host_tells.proofs.spelling.put_flag.Goals as goal

pub returns : goal.returns
returns c =
    subst (λ (bytes : List ℕ). Puts bytes c.args.at c.args.out.now c.put_byte.new.out c.put_byte.result)
    (ap (λ b. b ∷ []) c.flag_code.ensures ∙ flag_is c.args.flag) c.put_byte.ensures
