use Rattle.service_hosts.proofs.Unmoved.{unmoved_may_host}
use Rattle.service_hosts.proofs.homes.unmoved_law.Goals as goal

pub returns : goal.returns
returns c = unmoved_may_host
