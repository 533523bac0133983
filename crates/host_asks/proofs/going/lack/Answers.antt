use Rattle.std.proofs.Common.{refl}
use Rattle.host_asks.proofs.going.lack.Goals as goal

pub returns : goal.returns
returns c =
    (refl, c.in_ok-ask_for.ensures)
