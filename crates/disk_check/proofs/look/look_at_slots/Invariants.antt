use Rattle.std.proofs.Common.{◌≡◌, ◌≤◌, length}
use Rattle.base_types.specs.Crash.{IsQuiet}
use Rattle.disk_judge.specs.Metadata.{over}
use Rattle.disk_check.specs.Found.{LooksAtSlots}
use Rattle.disk_check.proofs.look.look_at_slots.Given as goal

abbrev pub invariant-loop-slot : goal.invariant-loop-slot
invariant-loop-slot g l =
    let start = g.D.Disk.view l.initial.disk in
    let now = g.D.Disk.view l.disk in
    record {
      mapped : length l.found.mapped.items ≡ l.metadata.blocks;
      looks : g.D.Disk.tells → LooksAtSlots (over l.metadata start.image) l.slot l.initial.found l.found;
      quiet : IsQuiet start now;
      counted : start.faults ≤ now.faults;
    }
