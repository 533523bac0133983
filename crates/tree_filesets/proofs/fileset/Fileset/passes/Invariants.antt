use Rattle.std.proofs.Common.{◌≡◌, drop}
use Rattle.tree_filesets.specs.Walk.{passes}
use Rattle.tree_filesets.proofs.fileset.Fileset.passes.Given as goal

-- the rest of the way passes it where the whole does
abbrev pub invariant-loop-name : goal.invariant-loop-name
invariant-loop-name l = passes l.self.anodes l.user l.at (drop l.name-index l.path) l.anode ≡ passes l.self.anodes l.user 1 l.path l.anode
