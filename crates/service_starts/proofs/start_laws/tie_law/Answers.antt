use Rattle.service_starts.proofs.Tied.{starts_are_kept}
use Rattle.service_starts.proofs.start_laws.tie_law.Goals as goal

pub returns : goal.returns
returns c = starts_are_kept
