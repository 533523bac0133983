use Rattle.std.proofs.Common.{◌≡◌, ◌++◌, drop}
use Rattle.std.specs.Prelude.{flat_map}
use Rattle.tree_saving.specs.Stores.{fileset_stores, own_stores}
use Rattle.tree_saving.proofs.stores.own_stores.Given as goal

-- the entries so far, and those of the filesets that are left
abbrev pub invariant-loop-fileset : goal.invariant-loop-fileset
invariant-loop-fileset l = l.entries ++ flat_map (fileset_stores l.host) (drop l.fileset-index l.tree.filesets) ≡ own_stores l.host l.tree
