use Rattle.std.proofs.Common.{take}
use Rattle.hub_board.specs.Waits.{AreKnown}
use Rattle.hub_board.proofs.follower.waits_of.Given as goal

abbrev pub invariant-loop-place : goal.invariant-loop-place
invariant-loop-place l = AreKnown (take l.place l.marks) l.waits
