use Rattle.run_stores.proofs.Ends.{stores_follow}
use Rattle.run_stores.proofs.Firsts as lemmas
use Rattle.run_stores.proofs.laws.end_law.Goals as goal

pub returns-clause-first : goal.returns-clause-first
returns-clause-first c = lemmas.first_is_kept

pub returns-clause-last : goal.returns-clause-last
returns-clause-last c = lemmas.last_is_kept

pub returns-clause-run : goal.returns-clause-run
returns-clause-run c = stores_follow
