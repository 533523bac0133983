use Rattle.std.proofs.Common.{◌≡◌, ◌≢◌, ◌⊎◌, ◌≤◌, ◌<◌, ℕ}
use Rattle.disk_anode.specs.Node.{pointer_of, pointer_at, SameFacts}
use Rattle.disk_anode.proofs.node.Node.up_to_length.Given as goal

abbrev pub invariant-loop-i : goal.invariant-loop-i
invariant-loop-i l = record {
  facts : SameFacts l.self l.node;
  done : (j : ℕ) → l.first ≤ j → j < l.i → pointer_of l.node (pointer_at j) ≡ 0;
  rest : (w : ℕ) → w < 68 → ((j : ℕ) → l.first ≤ j → j < 64 → w ≢ pointer_at j) → pointer_of l.node w ≡ pointer_of l.self w;
  fewer : (w : ℕ) → w < 68 → (pointer_of l.node w ≡ 0) ⊎ (pointer_of l.node w ≡ pointer_of l.self w);
}
