use Rattle.std.proofs.Common.{List, subst, ℕ, ◌∙◌}
use Rattle.host_tells.proofs.Room.{digits_are}
use Rattle.host_tells.specs.Spoken.{Puts}
use Rattle.host_tells.proofs.putting.put_short.Goals as goal

pub returns : goal.returns
returns c =
    subst (λ (bytes : List ℕ). Puts bytes c.args.at c.args.out.now c.put.new.out c.put.result)
    (c.to_be_bytes.ensures ∙ digits_are 2 c.args.number) c.put.ensures
