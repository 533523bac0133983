use Rattle.std.proofs.Common.{List, subst, ℕ, ◌∙◌}
use Rattle.host_tells.proofs.Room.{digits_are}
use Rattle.host_tells.proofs.Spelled.{long_is}
use Rattle.host_tells.specs.Spoken.{Puts}
use Rattle.host_tells.proofs.putting.put_number.Goals as goal

pub returns : goal.returns
returns c =
    subst (λ (bytes : List ℕ). Puts bytes c.args.at c.args.out.now c.put.new.out c.put.result)
    (c.to_be_bytes.ensures ∙ digits_are 4 c.args.number ∙ long_is c.args.number) c.put.ensures
