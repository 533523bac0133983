use Rattle.service_starts.proofs.Blank.{new_stores_start}
use Rattle.service_starts.proofs.start_laws.new_law.Goals as goal

pub returns : goal.returns
returns c = new_stores_start
