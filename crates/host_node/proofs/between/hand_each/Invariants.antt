use Rattle.std.proofs.Common.{◌≡◌, ◌++◌}
use Rattle.std.specs.Prelude.{OnOk}
use Rattle.host_node.proofs.between.hand_each.Given as goal

abbrev pub invariant-loop-step : goal.invariant-loop-step
invariant-loop-step l = OnOk l.done (l.steps.steps ≡ l.initial.steps.steps ++ l.yielded)
