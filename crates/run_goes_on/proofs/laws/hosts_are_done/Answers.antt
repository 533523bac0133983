use Rattle.run_goes_on.proofs.Done.{hosts_are_done}
use Rattle.run_goes_on.proofs.laws.hosts_are_done.Goals as goal

pub returns : goal.returns
returns c = hosts_are_done
