use Rattle.run_goes_on.proofs.Resting.{hosts_come_to_their_end}
use Rattle.run_goes_on.proofs.laws.hosts_come_to_their_end.Goals as goal

pub returns : goal.returns
returns c = hosts_come_to_their_end
