use Rattle.std.proofs.Common.{◌≡◌, ◌≤◌, ◌<◌, ◌+◌, ℕ}
use Rattle.base_types.specs.Crash.{ChangesBy}
use Rattle.disk_layout.specs.Entry.{gate_at, SameButGates}
use Rattle.disk_log.proofs.append.open_gates.Given as goal

abbrev pub invariant-loop-i : goal.invariant-loop-i
invariant-loop-i g l =
    let start = g.D.Disk.view l.initial.disk in
    let now = g.D.Disk.view l.disk in
    let Same = SameButGates l.half.start l.first l.count in
    record {
      same : g.D.Disk.tells → Same start.image now.image;
      done : g.D.Disk.tells → (k : ℕ) → k < l.i → gate_at l.half.start now.image (l.first + k) ≡ 1;
      changes : ChangesBy Same start now;
      counted : start.faults ≤ now.faults;
    }
