use Rattle.std.proofs.Common.{◌≤◌}
use Rattle.base_types.specs.Crash.{ChangesBy}
use Rattle.disk_layout.specs.Entry.{SameButGates}
use Rattle.disk_log.specs.Switch.{ClosesGates}
use Rattle.disk_log.proofs.switch.close_piece.Given as goal

abbrev pub invariant-loop-i : goal.invariant-loop-i
invariant-loop-i g l =
    let start = g.D.Disk.view l.initial.disk in
    let now = g.D.Disk.view l.disk in
    record {
      same : g.D.Disk.tells → SameButGates l.start l.first l.i start.image now.image;
      closed : g.D.Disk.tells → ClosesGates l.start l.first l.i now.image;
      changes : ChangesBy (SameButGates l.start l.first 64) start now;
      counted : start.faults ≤ now.faults;
    }
