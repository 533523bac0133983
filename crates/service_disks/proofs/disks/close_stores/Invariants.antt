use Rattle.std.proofs.Common.{◌≤◌, ◌+◌, length}
use Rattle.std.specs.Prelude.{vec_capacity}
use Rattle.service_disks.proofs.Backing.{Closing}
use Rattle.service_disks.proofs.disks.close_stores.Given as goal

abbrev pub invariant-loop-store : goal.invariant-loop-store
invariant-loop-store g l = record {
  closing : Closing l.initial.stores.items l.stores.items l.initial.disks.items l.disks.items;
  room : length l.disks.items + length l.stores.items ≤ vec_capacity l.disks;
  kept : vec_capacity l.initial.disks ≤ vec_capacity l.disks;
}

abbrev pub decreases-loop-store : goal.decreases-loop-store
decreases-loop-store g l = length l.stores.items
