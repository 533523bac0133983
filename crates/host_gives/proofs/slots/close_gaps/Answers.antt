use Rattle.std.proofs.Common.{subst, sym}
use Rattle.host_gives.specs.Named.{AreNamed}
use Rattle.host_gives.proofs.Naming.{named_same}
use Rattle.host_gives.proofs.slots.close_gaps.Goals as goal

pub returns-clause-named : goal.returns-clause-named
returns-clause-named c are =
    subst (λ ys. AreNamed ys c.renew.new.self) c.as_slice.ensures
    (c.renew.ensures (subst (λ ys. AreNamed ys c.args.named.now) (sym c.as_slice.ensures)
    (named_same c.args.slots.now c.let_go.new.slots c.args.named.now c.let_go.ensures are)))
