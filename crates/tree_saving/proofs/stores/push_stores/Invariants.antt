use Rattle.std.proofs.Common.{◌≡◌, ◌+◌, ◌++◌, drop}
use Rattle.tree_saving.specs.Stores.{anodes_stores, fileset_stores}
use Rattle.tree_saving.proofs.stores.push_stores.Given as goal

-- the entries so far, and those of the anodes that are left
abbrev pub invariant-loop-place : goal.invariant-loop-place
invariant-loop-place l =
    l.entries ++ anodes_stores l.host l.fileset.id (l.place + 1) (drop l.place l.fileset.anodes) ≡ l.fn.entries ++ fileset_stores l.host l.fileset
