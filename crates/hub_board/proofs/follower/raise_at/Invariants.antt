use Rattle.std.proofs.Common.{◌≡◌, drop, map}
use Rattle.hub_board.specs.Follows.{mark_raised}
use Rattle.hub_board.specs.Waits.{AreWaiting}
use Rattle.hub_board.proofs.follower.raise_at.Given as goal

abbrev pub invariant-loop-place : goal.invariant-loop-place
invariant-loop-place l = record {
  same : map (mark_raised l.flag) l.marks ≡ map (mark_raised l.flag) l.fn.marks;
  left : AreWaiting l.flag l.marks (drop l.place-index l.places);
}
