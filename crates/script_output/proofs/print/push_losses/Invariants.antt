use Rattle.std.proofs.Common.{◌≡◌, ◌++◌, drop}
use Rattle.std.specs.List.{flat_map}
use Rattle.script_output.specs.Printed.{loss_line}
use Rattle.script_output.proofs.print.push_losses.Given as goal

-- the lines so far, and those that are left
abbrev pub invariant-loop-loss : goal.invariant-loop-loss
invariant-loop-loss l = l.out ++ flat_map loss_line (drop l.loss-index l.loss-items) ≡ l.fn.out ++ flat_map loss_line l.losses
