use Rattle.run_tokens.proofs.server_worked.a_server_serves.Goals as goal
use Rattle.run_tokens.proofs.ServerRunSteps.{meets_welcomes, meets_tells, meets_grants}

pub returns : goal.returns
returns c = record { welcomes = meets_welcomes; tells = meets_tells; grants = meets_grants }
