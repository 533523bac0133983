use Rattle.std.proofs.Common.{◌≡◌, ◌++◌, drop}
use Rattle.script_output.specs.Reports.{lost_by}
use Rattle.script_output.proofs.report.push_losses_at.Given as goal

-- the losses so far, and those that are left
abbrev pub invariant-loop-loss : goal.invariant-loop-loss
invariant-loop-loss l = l.ordered ++ lost_by (drop l.loss-index l.loss-items) l.host l.server ≡ l.fn.ordered ++ lost_by l.losses l.host l.server
