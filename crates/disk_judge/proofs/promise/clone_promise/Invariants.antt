use Rattle.std.proofs.Common.{◌≡◌, ◌≤◌, ◌*◌, ℕ}
use Rattle.disk_image.specs.Joined.{total}
use Rattle.disk_image.specs.Counts.{object_promise}
use Rattle.disk_judge.specs.Metadata.{anode_in}
use Rattle.disk_judge.proofs.promise.clone_promise.Given as goal

abbrev pub invariant-loop-i : goal.invariant-loop-i
invariant-loop-i l = record {
  value : l.blocks ≡ total (λ (i : ℕ). object_promise (anode_in l.metadata l.fn.slot i)) l.i;
  few : l.blocks ≤ 68 * l.i;
}
