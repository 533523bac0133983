use Rattle.run_tokens.proofs.worked.a_run_of_tokens_is_admitted.Goals as goal
use Rattle.run_tokens.proofs.Restart.{is_example}

pub returns : goal.returns
returns c = is_example
