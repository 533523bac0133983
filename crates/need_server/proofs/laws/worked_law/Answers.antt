use Rattle.need_server.proofs.Worked.{worked_wants}
use Rattle.need_server.proofs.laws.worked_law.Goals as goal

pub returns : goal.returns
returns c = worked_wants
