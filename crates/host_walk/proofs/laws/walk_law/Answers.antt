use Rattle.host_walk.proofs.MarkedNeeds.{marks_are_needs}
use Rattle.host_walk.proofs.laws.walk_law.Goals as goal

pub returns : goal.returns
returns c = marks_are_needs
