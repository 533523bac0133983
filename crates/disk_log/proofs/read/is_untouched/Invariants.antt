use Rattle.std.proofs.Common.{◌≡◌, ◌≤◌, ◌<◌, ◌*◌, ℕ, length}
use Rattle.base_types.specs.Crash.{IsQuiet}
use Rattle.base_types.specs.Image.{byte_at}
use Rattle.disk_log.proofs.read.is_untouched.Given as goal

abbrev pub invariant-loop-look : goal.invariant-loop-look
invariant-loop-look g l =
    let start = g.D.Disk.view l.fn.disk in
    let now = g.D.Disk.view l.disk in
    record {
      size : g.D.Disk.tells → l.length ≡ length start.image;
      zeros : g.D.Disk.tells → (k : ℕ) → k < 15872 * l.look → byte_at start.image k ≡ 0;
      quiet : IsQuiet start now;
      counted : start.faults ≤ now.faults;
    }
