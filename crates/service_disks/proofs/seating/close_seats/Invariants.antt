use Rattle.std.proofs.Common.{◌≤◌, ◌+◌, length}
use Rattle.std.specs.Prelude.{vec_capacity}
use Rattle.service_disks.proofs.Seated.{Unseating}
use Rattle.service_disks.proofs.seating.close_seats.Given as goal

abbrev pub invariant-loop-seat : goal.invariant-loop-seat
invariant-loop-seat g l = record {
  closing : Unseating l.initial.seats.items l.seats.items l.initial.disks.items l.disks.items;
  room : length l.disks.items + length l.seats.items ≤ vec_capacity l.disks;
  kept : vec_capacity l.initial.disks ≤ vec_capacity l.disks;
}

abbrev pub decreases-loop-seat : goal.decreases-loop-seat
decreases-loop-seat g l = length l.seats.items
