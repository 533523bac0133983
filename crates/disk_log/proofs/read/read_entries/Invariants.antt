use Rattle.std.proofs.Common.{◌≡◌, ◌≤◌, ◌++◌}
use Rattle.std.specs.Vec.{vec_len, vec_capacity}
use Rattle.base_types.specs.Crash.{IsQuiet}
use Rattle.disk_layout.specs.Entry.{entries}
use Rattle.disk_log.specs.Append.{AllFit}
use Rattle.disk_log.proofs.Entering.{left}
use Rattle.disk_log.proofs.read.read_entries.Given as goal

abbrev pub invariant-loop-i : goal.invariant-loop-i
invariant-loop-i g l =
    let start = g.D.Disk.view l.initial.disk in
    let now = g.D.Disk.view l.disk in
    record {
      so_far : g.D.Disk.tells → l.found.items ++ left l.half start.image l.i ≡ entries l.half start.image;
      fits : AllFit l.half l.found.items;
      len : vec_len l.found ≡ l.i;
      capacity : vec_capacity l.found ≡ 2048;
      quiet : IsQuiet start now;
      counted : start.faults ≤ now.faults;
    }
