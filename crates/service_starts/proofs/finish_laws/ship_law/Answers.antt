use Rattle.service_starts.proofs.Ended.{ships_are_told}
use Rattle.service_starts.proofs.finish_laws.ship_law.Goals as goal

pub returns : goal.returns
returns c = ships_are_told
