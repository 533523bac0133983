use Rattle.service_starts.proofs.Ended.{moves_end}
use Rattle.service_starts.proofs.finish_laws.ended_law.Goals as goal

pub returns : goal.returns
returns c = moves_end
