use Rattle.std.proofs.Common.{◌≡◌, ◌≤◌, List, length}
use Rattle.std.specs.Prelude.{vec_capacity}
use Rattle.service_disks.specs.Stores.{AreOpen}
use Rattle.service_disks.proofs.disks.add_memory.Given as goal

abbrev pub invariant-loop-k : goal.invariant-loop-k
invariant-loop-k g l = record {
  opened : (disks : List _) → AreOpen g.D.Disk.tells g.D.Disk.view l.roster 1 disks l.initial.stores.items → AreOpen g.D.Disk.tells g.D.Disk.view l.roster 1 disks l.stores.items;
  counted : length l.stores.items ≡ l.k;
  room : vec_capacity l.initial.stores ≤ vec_capacity l.stores;
}
