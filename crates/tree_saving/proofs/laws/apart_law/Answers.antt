use Rattle.tree_saving.proofs.Apart.{stays_apart}
use Rattle.tree_saving.proofs.laws.apart_law.Goals as goal

pub returns : goal.returns
returns c = stays_apart
