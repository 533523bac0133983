use Rattle.service_watch.proofs.Listed.{all_went}
use Rattle.service_watch.proofs.watching.unwatch.Goals as goal

pub returns-clause-gone : goal.returns-clause-gone
returns-clause-gone g c = λ told. all_went c.args.watched.items told
