use Rattle.tree_objects.proofs.Lawful.{forget_shows}
use Rattle.tree_objects.proofs.laws.forget_law.Goals as goal

pub returns : goal.returns
returns c = forget_shows
