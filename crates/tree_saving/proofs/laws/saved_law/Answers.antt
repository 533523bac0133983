use Rattle.tree_saving.proofs.Apart.{stays_saved}
use Rattle.tree_saving.proofs.laws.saved_law.Goals as goal

pub returns : goal.returns
returns c = stays_saved
