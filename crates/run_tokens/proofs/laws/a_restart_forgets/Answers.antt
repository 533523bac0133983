use Rattle.run_tokens.proofs.laws.a_restart_forgets.Goals as goal
use Rattle.run_tokens.proofs.Forgetting.{forgetting}

pub returns : goal.returns
returns c = forgetting
