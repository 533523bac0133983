use Rattle.std.proofs.Common.{◌≡◌, ◌≤◌, length}
use Rattle.base_types.specs.Crash.{IsQuiet}
use Rattle.disk_judge.specs.Metadata.{over}
use Rattle.disk_check.specs.Found.{LooksAt}
use Rattle.disk_judge.specs.Reach.{AreFromAnodes}
use Rattle.disk_check.proofs.look.look_at_anodes.Given as goal

abbrev pub invariant-loop-i : goal.invariant-loop-i
invariant-loop-i g l =
    let start = g.D.Disk.view l.initial.disk in
    let now = g.D.Disk.view l.disk in
    record {
      mapped : length l.found.mapped.items ≡ l.metadata.blocks;
      from : AreFromAnodes l.found.links.items;
      looks : g.D.Disk.tells → LooksAt (over l.metadata start.image) l.fn.slot l.i l.initial.found l.found;
      quiet : IsQuiet start now;
      counted : start.faults ≤ now.faults;
    }
