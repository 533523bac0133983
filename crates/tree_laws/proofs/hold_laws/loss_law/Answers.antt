use Rattle.tree_laws.proofs.LostAt.{all_losses_are_exact}
use Rattle.tree_laws.proofs.hold_laws.loss_law.Goals as goal

pub returns : goal.returns
returns c = all_losses_are_exact
