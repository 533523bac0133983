use Rattle.run_goes_on.proofs.Resting.{open_calls_stand_at_servers}
use Rattle.run_goes_on.proofs.laws.open_calls_stand_at_servers.Goals as goal

pub returns : goal.returns
returns c = open_calls_stand_at_servers
