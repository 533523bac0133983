use Rattle.run_tokens.proofs.laws.a_doing_takes_effect.Goals as goal
use Rattle.run_tokens.proofs.Effects.{effects}

pub returns : goal.returns
returns c = effects
