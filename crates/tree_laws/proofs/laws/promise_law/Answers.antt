use Rattle.tree_laws.proofs.Promised.{promises_are_so}
use Rattle.tree_laws.proofs.laws.promise_law.Goals as goal

pub returns : goal.returns
returns c = promises_are_so
