use Rattle.std.proofs.Common.{◌≡◌, ◌<◌, ℕ, List, length, get_or}
use Rattle.std.specs.Prelude.{false}
use Rattle.disk_image.specs.Counts.{uses_of, is_count_page}
use Rattle.disk_judge.specs.Metadata.{over}
use Rattle.disk_judge.specs.Marks.{AreMarks}
use Rattle.disk_judge.proofs.judged.counts_judged.Given as goal

abbrev pub invariant-loop-p : goal.invariant-loop-p
invariant-loop-p l = record {
  size : length l.rights.items ≡ l.p;
  each : (image : List ℕ) → AreMarks (uses_of (over l.metadata image)) l.metadata.blocks l.marks
      → (q : ℕ) → q < l.p → get_or l.rights.items q false ≡ is_count_page (over l.metadata image) q;
}
