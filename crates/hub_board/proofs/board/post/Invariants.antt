use Rattle.std.proofs.Common.{◌≡◌, take}
use Rattle.hub_board.specs.Hubs.{with_sent}
use Rattle.hub_board.proofs.board.post.Given as goal

abbrev pub invariant-loop-step : goal.invariant-loop-step
invariant-loop-step l =
    l.wire ≡ record { counted = l.fn.wire.counted; ready = with_sent l.fn.wire.counted (take l.step-index l.steps) }
