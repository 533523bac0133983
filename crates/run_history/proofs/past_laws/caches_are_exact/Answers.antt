use Rattle.run_history.proofs.Law.{caches_are_exact}
use Rattle.run_history.proofs.past_laws.caches_are_exact.Goals as goal

pub returns : goal.returns
returns c = caches_are_exact
