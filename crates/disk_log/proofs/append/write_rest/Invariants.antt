use Rattle.std.proofs.Common.{◌≡◌, ◌≤◌, ◌<◌, ◌+◌, ℕ, length, get_or}
use Rattle.base_types.specs.Crash.{ChangesBy}
use Rattle.disk_layout.specs.declared.entry.Entry.TheVariants.{End}
use Rattle.disk_layout.specs.Entry.{Stands, SameButThese, gate_at}
use Rattle.disk_log.proofs.append.write_rest.Given as goal

abbrev pub invariant-loop-i : goal.invariant-loop-i
invariant-loop-i g l =
    let start = g.D.Disk.view l.initial.disk in
    let now = g.D.Disk.view l.disk in
    let Same = SameButThese l.half.start l.first (length l.news) in
    record {
      same : g.D.Disk.tells → Same start.image now.image;
      done : g.D.Disk.tells → (k : ℕ) → k < l.i → Stands l.half (get_or l.news k (End 0)) now.image (l.first + k);
      opened : g.D.Disk.tells → (k : ℕ) → k < l.i → gate_at l.half.start now.image (l.first + k) ≡ 1;
      changes : ChangesBy Same start now;
      counted : start.faults ≤ now.faults;
    }
