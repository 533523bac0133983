use Rattle.std.proofs.Common.{◌≡◌, ◌≤◌, ◌*◌, ℕ}
use Rattle.disk_image.specs.Joined.{total}
use Rattle.disk_image.specs.Counts.{promise_by}
use Rattle.disk_image.specs.Slots.{state_at}
use Rattle.disk_judge.specs.Metadata.{plain}
use Rattle.disk_judge.proofs.promise.promises.Given as goal

abbrev pub invariant-loop-slot : goal.invariant-loop-slot
invariant-loop-slot l = record {
  value : l.blocks ≡ total (λ (slot : ℕ). promise_by (state_at (plain l.metadata) slot) (plain l.metadata) slot) l.slot;
  few : l.blocks ≤ 4352 * l.slot;
}
