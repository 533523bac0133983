use Rattle.std.proofs.Common.{◌≡◌, take}
use Rattle.hub_board.specs.Hubs.{tied}
use Rattle.hub_board.proofs.board.tie_all.Given as goal

abbrev pub invariant-loop-step : goal.invariant-loop-step
invariant-loop-step l = l.ties ≡ tied l.fn.ties (take l.step-index l.steps)
