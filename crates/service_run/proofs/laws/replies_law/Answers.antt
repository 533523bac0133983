use Rattle.service_run.proofs.Told.{replies_follow}
use Rattle.service_run.proofs.laws.replies_law.Goals as goal

pub returns : goal.returns
returns c = replies_follow
