use Rattle.tree_objects.proofs.Together.{spans_are_exact, spans_are_maximal}
use Rattle.tree_objects.proofs.laws.loss_law.Goals as goal

pub returns-clause-exact : goal.returns-clause-exact
returns-clause-exact c = spans_are_exact

pub returns-clause-maximal : goal.returns-clause-maximal
returns-clause-maximal c = spans_are_maximal
