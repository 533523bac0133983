use Rattle.std.proofs.Common.{◌≤◌, ◌+◌, length}
use Rattle.std.specs.Prelude.{vec_capacity}
use Rattle.service_disks.proofs.Seated.{Seating}
use Rattle.service_disks.specs.Seats.{AreSeated}
use Rattle.service_disks.proofs.seating.seat_stores.Given as goal

abbrev pub invariant-loop-store : goal.invariant-loop-store
invariant-loop-store g l = record {
  seating : Seating l.initial.stores.items l.stores.items l.seats.items;
  rest : AreSeated g.D.Disk.tells g.D.Disk.view g.C.Count.disks l.stores.items;
  room : length l.seats.items + length l.stores.items ≤ vec_capacity l.seats;
}

abbrev pub decreases-loop-store : goal.decreases-loop-store
decreases-loop-store g l = length l.stores.items
