use Rattle.tree_laws.proofs.TreeFates.{parts_change_so}
use Rattle.tree_laws.proofs.laws.part_law.Goals as goal

pub returns : goal.returns
returns c = parts_change_so
