use Rattle.hub_drive.specs.Seats.{EachAt, HasGone, IsHere, PairsAt}
use Rattle.hub_drive.proofs.rounds.turn_until.Given as goal

abbrev pub invariant-loop : goal.invariant-loop
invariant-loop g l = record {
  kept : EachAt (IsHere g.N.Node.stands l.hub) l.seats.items;
  gone : PairsAt (HasGone g.N.Node.stands g.N.Node.stays g.N.Node.failed g.N.Node.broken l.hub) l.initial.seats.items
      l.seats.items;
}
