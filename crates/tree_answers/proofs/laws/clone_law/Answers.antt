use Rattle.tree_answers.proofs.Clones.{clones_stay}
use Rattle.tree_answers.proofs.laws.clone_law.Goals as goal

pub returns : goal.returns
returns c = clones_stay
