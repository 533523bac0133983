use Rattle.tree_objects.proofs.Lawful.{clone_holds_present}
use Rattle.tree_objects.proofs.laws.clone_law.Goals as goal

pub returns : goal.returns
returns c = clone_holds_present
