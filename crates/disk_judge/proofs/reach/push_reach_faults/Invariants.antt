use Rattle.std.proofs.Common.{◌≡◌, ℕ, List, ◌++◌}
use Rattle.disk_image.specs.Joined.{joined}
use Rattle.disk_image.specs.Reach.{links_of, reach_fault}
use Rattle.disk_judge.specs.Metadata.{over}
use Rattle.disk_judge.proofs.reach.push_reach_faults.Given as goal

abbrev pub invariant-loop-i : goal.invariant-loop-i
invariant-loop-i l = (image : List ℕ) → l.links ≡ links_of (over l.metadata image) l.fn.slot → l.faults.items ≡ l.initial.faults.items ++ joined (reach_fault (over l.metadata image) l.fn.slot) l.i
