use Rattle.std.proofs.Common.{◌≡◌, ◌≤◌, length}
use Rattle.std.specs.Vec.{vec_len, vec_capacity}
use Rattle.base_types.specs.Crash.{IsQuiet}
use Rattle.disk_log.specs.Recovered.{AreOver}
use Rattle.disk_log.proofs.all_pages.settled_by.Given as goal

abbrev pub invariant-loop-place : goal.invariant-loop-place
invariant-loop-place g l =
    let start = g.D.Disk.view l.initial.disk in
    let now = g.D.Disk.view l.disk in
    record {
      over : g.D.Disk.tells → AreOver l.table start.image l.place l.pages.items;
      len : vec_len l.pages ≡ l.place;
      capacity : length l.table ≤ vec_capacity l.pages;
      quiet : IsQuiet start now;
      counted : start.faults ≤ now.faults;
    }
