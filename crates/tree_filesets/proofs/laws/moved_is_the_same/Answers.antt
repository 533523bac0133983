use Rattle.tree_filesets.proofs.Moved.{moved_is_the_same}
use Rattle.tree_filesets.proofs.laws.moved_is_the_same.Goals as goal

pub returns : goal.returns
returns c = moved_is_the_same
