use Rattle.std.proofs.Common.{◌≡◌, ◌++◌, ℕ, List}
use Rattle.disk_image.specs.Joined.{listed}
use Rattle.disk_image.specs.Anodes.{link_of}
use Rattle.disk_judge.specs.Metadata.{over, anode_in}
use Rattle.disk_judge.specs.Reach.{AreFromAnodes}
use Rattle.disk_check.specs.Parts.{AreParts}
use Rattle.disk_check.proofs.anode.push_links.Given as goal

abbrev pub invariant-loop-e : goal.invariant-loop-e
invariant-loop-e l = record {
  links : (image : List ℕ) (slot : ℕ) → l.page ≡ anode_in l.metadata slot l.fn.i → AreParts (over l.metadata image) slot l.fn.i l.parts
      → l.links.items ≡ l.initial.links.items ++ listed (link_of (over l.metadata image) slot l.fn.i) l.e;
  from : AreFromAnodes l.initial.links.items → AreFromAnodes l.links.items;
}
