use Rattle.tree_objects.proofs.Lawful.{truncate_shows}
use Rattle.tree_objects.proofs.laws.truncate_law.Goals as goal

pub returns : goal.returns
returns c = truncate_shows
