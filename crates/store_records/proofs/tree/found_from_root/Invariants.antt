use Rattle.store_records.specs.Tree.{AreFound}
use Rattle.store_records.proofs.tree.found_from_root.Given as goal

-- the entries of the first ones were looked at
abbrev pub invariant-loop-next : goal.invariant-loop-next
invariant-loop-next l = AreFound l.anodes l.next l.found
