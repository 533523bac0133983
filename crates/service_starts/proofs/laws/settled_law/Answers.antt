use Rattle.service_starts.proofs.Settles.{settles_once}
use Rattle.service_starts.proofs.laws.settled_law.Goals as goal

pub returns : goal.returns
returns c = settles_once
