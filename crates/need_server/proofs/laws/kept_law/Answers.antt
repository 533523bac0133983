use Rattle.need_server.proofs.Settled.{kept_is_settled}
use Rattle.need_server.proofs.laws.kept_law.Goals as goal

pub returns : goal.returns
returns c = kept_is_settled
