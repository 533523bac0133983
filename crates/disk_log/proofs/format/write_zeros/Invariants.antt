use Rattle.std.proofs.Common.{◌≡◌, ◌≤◌, ◌<◌, ℕ}
use Rattle.base_types.specs.Crash.{ChangesBy}
use Rattle.disk_layout.specs.Places.{in_place, pages_end}
use Rattle.disk_log.specs.Format.{SameAround, SameLog}
use Rattle.disk_log.specs.Recovered.{blank_page}
use Rattle.disk_log.proofs.format.write_zeros.Given as goal

abbrev pub invariant-loop-page : goal.invariant-loop-page
invariant-loop-page g l =
    let start = g.D.Disk.view l.initial.disk in
    let now = g.D.Disk.view l.disk in
    record {
      done : g.D.Disk.tells → (p : ℕ) → p < l.page → in_place now.image p ≡ blank_page;
      same : g.D.Disk.tells → SameLog start.image now.image;
      changes : ChangesBy (SameAround (pages_end l.pages)) start now;
      counted : start.faults ≤ now.faults;
    }
