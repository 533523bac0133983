use Rattle.run_tokens.proofs.server_laws.server_may_rest.Goals as goal
use Rattle.run_tokens.proofs.ServerResting.{may_rest}

pub returns : goal.returns
returns c = may_rest
