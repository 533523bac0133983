use Rattle.std.proofs.Common.{◌≡◌, ℕ, List, ◌++◌}
use Rattle.disk_image.specs.Joined.{listed}
use Rattle.disk_image.specs.Counts.{page_use}
use Rattle.disk_judge.specs.Metadata.{over, anode_in}
use Rattle.disk_judge.specs.declared.metadata.Metadata.{Metadata}
use Rattle.disk_check.proofs.anode.push_page_uses.Given as goal

abbrev pub invariant-loop-w : goal.invariant-loop-w
invariant-loop-w l = (metadata : Metadata) (image : List ℕ) (i : ℕ) → l.page ≡ anode_in metadata l.fn.slot i
    → l.uses.items ≡ l.initial.uses.items ++ listed (page_use (over metadata image) l.fn.slot i) l.w
