use Rattle.std.proofs.Common.{◌≡◌, ◌≤◌, length}
use Rattle.std.specs.Prelude.{vec_capacity}
use Rattle.service_disks.specs.Steps.{AreOpened}
use Rattle.service_disks.proofs.disks.open_disks.Given as goal

abbrev pub invariant-loop-k : goal.invariant-loop-k
invariant-loop-k g l = record {
  reached : AreOpened g.D.Disk.tells g.D.Disk.view l.roster l.stores.items l.initial.disks.items l.disks.items;
  counted : length l.stores.items ≡ l.k;
  room : vec_capacity l.initial.disks ≤ vec_capacity l.disks;
  stores_room : vec_capacity l.initial.stores ≤ vec_capacity l.stores;
}
