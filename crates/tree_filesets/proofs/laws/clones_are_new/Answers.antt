use Rattle.tree_filesets.proofs.Moved.{clones_are_new}
use Rattle.tree_filesets.proofs.laws.clones_are_new.Goals as goal

pub returns : goal.returns
returns c = clones_are_new
