use Rattle.service_starts.proofs.StartFormed.{trees_start}
use Rattle.service_starts.proofs.start_laws.start_law.Goals as goal

pub returns : goal.returns
returns c = trees_start
