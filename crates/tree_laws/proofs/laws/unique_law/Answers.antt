use Rattle.tree_laws.proofs.Uniques.{all_uniques_rise, roots_are_first}
use Rattle.tree_laws.proofs.laws.unique_law.Goals as goal

pub returns : goal.returns
returns c = record { rise = all_uniques_rise; roots = roots_are_first }
