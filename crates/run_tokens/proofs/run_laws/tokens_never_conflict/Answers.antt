use Rattle.run_tokens.proofs.run_laws.tokens_never_conflict.Goals as goal
use Rattle.run_tokens.proofs.TokenRun.{safe, apart}

pub returns : goal.returns
returns c = record { apart = apart; safe = safe }
