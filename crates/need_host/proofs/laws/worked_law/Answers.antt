use Rattle.need_host.proofs.Worked.{worked_looks}
use Rattle.need_host.proofs.laws.worked_law.Goals as goal

pub returns : goal.returns
returns c = worked_looks
