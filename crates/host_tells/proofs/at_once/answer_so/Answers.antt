use Rattle.std.proofs.Common.{refl}
use Rattle.host_tells.proofs.at_once.answer_so.Goals as goal

pub returns-in_err-count-clause-spells : goal.returns-in_err-count-clause-spells
returns-in_err-count-clause-spells c =
    rw c.from_residual.ensures (c.in_err-count.ensures c.args.call.now)

pub returns-in_err-count-clause-marks : goal.returns-in_err-count-clause-marks
returns-in_err-count-clause-marks c =
    rw c.from_residual.ensures refl

pub returns-clause-spells : goal.returns-clause-spells
returns-clause-spells c =
    c.in_ok-count.ensures c.args.call.now

pub returns-clause-marks : goal.returns-clause-marks
returns-clause-marks c =
    c.mark_used.ensures.marks
