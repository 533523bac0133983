use Rattle.std.proofs.Common.{◌≡◌, ◌++◌, drop, map}
use Rattle.tree_filesets.specs.Founding.{anode_as_cloned}
use Rattle.tree_filesets.proofs.founding.anodes_as_cloned.Given as goal

-- the copies so far, and those of the anodes that are left
abbrev pub invariant-loop-anode : goal.invariant-loop-anode
invariant-loop-anode l = l.copies ++ map anode_as_cloned (drop l.anode-index l.anode-items) ≡ map anode_as_cloned l.anodes
