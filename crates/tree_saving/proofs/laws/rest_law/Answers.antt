use Rattle.tree_saving.proofs.Apart.{saved_is_at_rest, starts_without}
use Rattle.tree_saving.proofs.laws.rest_law.Goals as goal

pub returns-clause-rest : goal.returns-clause-rest
returns-clause-rest c = saved_is_at_rest

pub returns-clause-start : goal.returns-clause-start
returns-clause-start c = starts_without
