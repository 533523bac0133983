use Rattle.std.proofs.Common.{◌≡◌, drop}
use Rattle.tree_filesets.specs.Walk.{walk}
use Rattle.tree_filesets.proofs.fileset.Fileset.walk.Given as goal

-- the rest of the path leads from here to where the whole leads from the root
abbrev pub invariant-loop-name : goal.invariant-loop-name
invariant-loop-name l = walk l.self.anodes l.user l.at (drop l.name-index l.path) ≡ walk l.self.anodes l.user 1 l.path
