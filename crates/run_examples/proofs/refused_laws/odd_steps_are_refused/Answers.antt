use Rattle.run_examples.proofs.Refused.{odd_steps}
use Rattle.run_examples.proofs.refused_laws.odd_steps_are_refused.Goals as goal

pub returns : goal.returns
returns c = odd_steps
