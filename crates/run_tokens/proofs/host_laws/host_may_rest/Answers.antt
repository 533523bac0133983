use Rattle.run_tokens.proofs.host_laws.host_may_rest.Goals as goal
use Rattle.run_tokens.proofs.HostResting.{may_rest}

pub returns : goal.returns
returns c = may_rest
