use Rattle.std.proofs.Common.{◌≡◌, ℕ, List}
use Rattle.std.specs.Prelude.{◌&&◌, true}
use Rattle.disk_pages.specs.Words.{each_below}
use Rattle.disk_image.specs.Aggregate.{names_block}
use Rattle.disk_image.specs.Anodes.{entry_pointer, is_directory_block}
use Rattle.disk_judge.specs.Metadata.{over, anode_in}
use Rattle.disk_check.specs.Parts.{AreParts}
use Rattle.disk_check.proofs.anode.is_readable.Given as goal

abbrev pub invariant-loop-n : goal.invariant-loop-n
invariant-loop-n l = (image : List ℕ) (slot i : ℕ) → l.page ≡ anode_in l.metadata slot i → AreParts (over l.metadata image) slot i l.parts
    → each_below (λ (n : ℕ). names_block (over l.metadata image) (entry_pointer (over l.metadata image) slot i n) && is_directory_block (over l.metadata image) slot i n) l.n ≡ true
