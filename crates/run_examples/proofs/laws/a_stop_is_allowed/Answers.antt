use Rattle.run_examples.proofs.Examples.{stops_meets}
use Rattle.run_examples.proofs.laws.a_stop_is_allowed.Goals as goal

pub returns : goal.returns
returns c = stops_meets
