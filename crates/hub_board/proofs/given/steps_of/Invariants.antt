use Rattle.std.proofs.Common.{◌≡◌}
use Rattle.hub_board.specs.Turning.{steps_of}
use Rattle.hub_board.proofs.given.steps_of.Given as goal

abbrev pub invariant-loop-turn : goal.invariant-loop-turn
invariant-loop-turn l = l.steps.items ≡ steps_of l.yielded
