use Rattle.run_stores.proofs.Starting.{servers_start_so}
use Rattle.run_stores.proofs.laws.epoch_law.Goals as goal

pub returns : goal.returns
returns c = servers_start_so
