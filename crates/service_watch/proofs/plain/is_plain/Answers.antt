use Rattle.std.proofs.Common.{false, true}
use Rattle.service_watch.proofs.Fitting.{do_fits, moves_fit}
use Rattle.service_watch.proofs.plain.is_plain.Goals as goal

pub returns-in-Do : goal.returns-in-Do
returns-in-Do c =
    do_fits c.has_name.result c.args.act.now c.in-Do.host c.in-Do.number c.in-Do.call c.in-Do.is c.has_name.ensures

pub returns-in-Leave : goal.returns-in-Leave
returns-in-Leave c = (
  λ no. absurd (cc),
  λ fits. absurd (moves_fit c.args.act.now c.in-Leave.is fits),
)

pub returns-in-Leave-2 : goal.returns-in-Leave-2
returns-in-Leave-2 c = (
  λ no. absurd (cc),
  λ fits. absurd (moves_fit c.args.act.now c.in-Leave.is fits),
)
