use Rattle.std.proofs.Common.{◌≤◌, ◌*◌}
use Rattle.base_types.specs.Crash.{ChangesBy}
use Rattle.disk_layout.specs.Entry.{SameButGates}
use Rattle.disk_log.specs.Switch.{ClosesGates}
use Rattle.disk_log.proofs.switch.close_gates.Given as goal

abbrev pub invariant-loop-piece : goal.invariant-loop-piece
invariant-loop-piece g l =
    let start = g.D.Disk.view l.initial.disk in
    let now = g.D.Disk.view l.disk in
    record {
      same : g.D.Disk.tells → SameButGates l.start 0 2048 start.image now.image;
      closed : g.D.Disk.tells → ClosesGates l.start 0 (64 * l.piece) now.image;
      changes : ChangesBy (SameButGates l.start 0 2048) start now;
      counted : start.faults ≤ now.faults;
    }
