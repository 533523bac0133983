use Rattle.run_tokens.proofs.server_laws.wants_are_served_in_turn.Goals as goal
use Rattle.run_tokens.proofs.Turning.{in_turn}

pub returns : goal.returns
returns c = in_turn
