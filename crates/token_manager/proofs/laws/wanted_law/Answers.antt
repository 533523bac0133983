use Rattle.token_manager.proofs.Wanting.{are_just_wanted, are_marked}
use Rattle.token_manager.proofs.laws.wanted_law.Goals as goal

pub returns-clause-wanted : goal.returns-clause-wanted
returns-clause-wanted c = are_just_wanted

pub returns-clause-marked : goal.returns-clause-marked
returns-clause-marked c = are_marked
