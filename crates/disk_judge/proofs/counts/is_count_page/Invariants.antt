use Rattle.std.proofs.Common.{◌≡◌, ℕ, List}
use Rattle.std.specs.Prelude.{true}
use Rattle.disk_pages.specs.Words.{each_below}
use Rattle.disk_image.specs.Counts.{uses_of, is_count_place}
use Rattle.disk_judge.specs.Metadata.{over}
use Rattle.disk_judge.specs.Marks.{AreMarks}
use Rattle.disk_judge.proofs.counts.is_count_page.Given as goal

abbrev pub invariant-loop-k : goal.invariant-loop-k
invariant-loop-k l = (image : List ℕ) → AreMarks (uses_of (over l.metadata image)) l.metadata.blocks l.marks → each_below (is_count_place (over l.metadata image) l.fn.p) l.k ≡ true
