use Rattle.std.proofs.Common.{◌≡◌, false, true}
use Rattle.hub_node.specs.Nodes.{Beginning}
use Rattle.hub_drive.specs.Seats.{EachAt, HasGone, IsAtRest, IsHere, IsIn, IsThrough, PairsAt}
use Rattle.hub_drive.proofs.Lists.{FirstAt}
use Rattle.hub_drive.proofs.rounds.turn_all.Given as goal

abbrev pub invariant-loop-k : goal.invariant-loop-k
invariant-loop-k g l = record {
  kept : EachAt (IsHere g.N.Node.stands l.hub) l.seats;
  through : (run : Beginning) → EachAt (IsIn g.N.Node.stands run l.hub) l.initial.seats → l.went.through ≡ true
      → FirstAt (IsThrough g.N.Node.stands run l.hub g.N.Node.tells) l.k l.seats;
  rests : (run : Beginning) → EachAt (IsIn g.N.Node.stands run l.hub) l.initial.seats → l.went.worked ≡ false
      → l.went.stopped ≡ false → FirstAt (IsAtRest g.N.Node.stands run l.hub g.N.Node.tells) l.k l.seats;
  gone : PairsAt (HasGone g.N.Node.stands g.N.Node.stays g.N.Node.failed g.N.Node.broken l.hub) l.initial.seats l.seats;
}
