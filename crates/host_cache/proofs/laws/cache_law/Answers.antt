use Rattle.host_cache.proofs.ShownLaws.{written, told, dropped, used_law, oldest, none_oldest}
use Rattle.host_cache.proofs.Marked.{used_again}
use Rattle.host_cache.proofs.laws.cache_law.Goals as goal

pub returns-clause-written : goal.returns-clause-written
returns-clause-written c = written

pub returns-clause-told : goal.returns-clause-told
returns-clause-told c = told

pub returns-clause-dropped : goal.returns-clause-dropped
returns-clause-dropped c = dropped

pub returns-clause-used : goal.returns-clause-used
returns-clause-used c = used_law

pub returns-clause-again : goal.returns-clause-again
returns-clause-again c = used_again

pub returns-clause-oldest : goal.returns-clause-oldest
returns-clause-oldest c = oldest

pub returns-clause-none : goal.returns-clause-none
returns-clause-none c = none_oldest
