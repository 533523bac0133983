use Rattle.std.proofs.Common.{◌≡◌, ℕ, List, ◌++◌}
use Rattle.disk_image.specs.Joined.{joined}
use Rattle.disk_image.specs.Anodes.{directory_fault}
use Rattle.disk_judge.specs.Metadata.{over, anode_in}
use Rattle.disk_check.specs.Parts.{AreParts}
use Rattle.disk_check.proofs.anode.push_directory_faults.Given as goal

abbrev pub invariant-loop-n : goal.invariant-loop-n
invariant-loop-n l = (image : List ℕ) (slot i : ℕ) → l.page ≡ anode_in l.metadata slot i → AreParts (over l.metadata image) slot i l.parts
    → l.faults.items ≡ l.initial.faults.items ++ joined (directory_fault (over l.metadata image) slot i) l.n
