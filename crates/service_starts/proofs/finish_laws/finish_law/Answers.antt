use Rattle.service_starts.proofs.Finished.{moves_finish}
use Rattle.service_starts.proofs.finish_laws.finish_law.Goals as goal

pub returns : goal.returns
returns c = moves_finish
