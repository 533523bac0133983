use Rattle.need_server.proofs.Uses.{uses_refuse_last}
use Rattle.need_server.proofs.laws.use_law.Goals as goal

pub returns : goal.returns
returns c = uses_refuse_last
