use Rattle.tree_saving.proofs.Apart.{roster_stays}
use Rattle.tree_saving.proofs.laws.roster_law.Goals as goal

pub returns : goal.returns
returns c = roster_stays
