use Rattle.service_starts.proofs.SettledMoves.{stores_settle}
use Rattle.service_starts.proofs.start_laws.settle_law.Goals as goal

pub returns : goal.returns
returns c = stores_settle
