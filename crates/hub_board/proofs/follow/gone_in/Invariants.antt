use Rattle.std.proofs.Common.{◌≡◌, ◌≤◌, take}
use Rattle.hub_board.specs.Follows.{gone_in}
use Rattle.hub_board.proofs.follow.gone_in.Given as goal

abbrev pub invariant-loop-step : goal.invariant-loop-step
invariant-loop-step l = record {
  count : l.gone ≡ gone_in (take l.step-index l.steps);
  few : l.gone ≤ l.step-index;
}
