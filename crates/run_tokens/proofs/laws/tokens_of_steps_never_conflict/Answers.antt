use Rattle.run_tokens.proofs.laws.tokens_of_steps_never_conflict.Goals as goal
use Rattle.run_tokens.proofs.Law.{never_conflict}

pub returns : goal.returns
returns c = never_conflict
