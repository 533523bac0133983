use Rattle.run_tokens.proofs.run_worked.a_run_is_admitted.Goals as goal
use Rattle.run_tokens.proofs.RunExample.{is_run}

pub returns : goal.returns
returns c = is_run
