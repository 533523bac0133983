use Rattle.service_starts.proofs.Standing.{filesets_are_once}
use Rattle.service_starts.proofs.laws.once_law.Goals as goal

pub returns : goal.returns
returns c = filesets_are_once
