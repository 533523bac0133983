use Rattle.run_parts.proofs.laws.a_step_is_its_doings.Goals as goal
use Rattle.run_parts.proofs.Served.{after_doings}

pub returns : goal.returns
returns c = after_doings
