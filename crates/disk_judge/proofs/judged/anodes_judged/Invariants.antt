use Rattle.std.proofs.Common.{◌≡◌, ◌<◌, ◌+◌, ◌*◌, ℕ, length, get_or}
use Rattle.std.specs.Prelude.{false}
use Rattle.disk_image.specs.Anodes.{is_slot_anode}
use Rattle.disk_judge.specs.Metadata.{plain}
use Rattle.disk_judge.proofs.judged.anodes_judged.Given as goal

abbrev pub invariant-loop-k : goal.invariant-loop-k
invariant-loop-k l = record {
  size : length l.rights.items ≡ l.k;
  each : (slot i : ℕ) → 64 * slot + i < l.k → i < 64
      → get_or l.rights.items (64 * slot + i) false ≡ is_slot_anode (plain l.metadata) slot i;
}
