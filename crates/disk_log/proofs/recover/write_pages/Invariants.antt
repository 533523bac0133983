use Rattle.std.proofs.Common.{◌≡◌, ◌≤◌, ◌<◌, ℕ, List, get_or, Some, None}
use Rattle.base_types.specs.Crash.{ChangesBy}
use Rattle.disk_layout.specs.Places.{in_place}
use Rattle.disk_layout.specs.Pages.{SameButPages}
use Rattle.disk_log.proofs.recover.write_pages.Given as goal

abbrev pub invariant-loop-place : goal.invariant-loop-place
invariant-loop-place g l =
    let start = g.D.Disk.view l.initial.disk in
    let now = g.D.Disk.view l.disk in
    let Same = SameButPages (λ (q : ℕ). get_or l.table q None ≡ None) in
    record {
      same : g.D.Disk.tells → Same start.image now.image;
      done : g.D.Disk.tells → (p : ℕ) (bytes : List ℕ) → p < l.place → get_or l.table p None ≡ Some bytes → in_place now.image p ≡ bytes;
      changes : ChangesBy Same start now;
      counted : start.faults ≤ now.faults;
    }
