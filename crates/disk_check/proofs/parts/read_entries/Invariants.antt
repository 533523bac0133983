use Rattle.std.proofs.Common.{◌≡◌, ◌≤◌, ℕ, ◌*◌, length}
use Rattle.base_types.specs.Crash.{IsQuiet}
use Rattle.disk_layout.specs.Numbers.{number_at}
use Rattle.disk_anode.specs.Node.{map_under}
use Rattle.disk_image.specs.Anodes.{first_bytes}
use Rattle.disk_judge.specs.Metadata.{over, anode_in}
use Rattle.disk_check.proofs.parts.read_entries.Given as goal

abbrev pub invariant-loop-n : goal.invariant-loop-n
invariant-loop-n g l =
    let start = g.D.Disk.view l.initial.disk in
    let now = g.D.Disk.view l.disk in
    record {
      size : length l.bytes.items ≡ 1024 * l.n;
      bytes : g.D.Disk.tells → (slot i : ℕ) → l.page ≡ anode_in l.metadata slot i → l.map ≡ map_under l.metadata.blocks start.image (number_at 4 72 l.page)
          → l.bytes.items ≡ first_bytes (over l.metadata start.image) slot i l.n;
      quiet : IsQuiet start now;
      counted : start.faults ≤ now.faults;
    }
