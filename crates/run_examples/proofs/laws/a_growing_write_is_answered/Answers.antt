use Rattle.run_examples.proofs.Examples.{grows_lapse, grows_meets}
use Rattle.run_examples.proofs.laws.a_growing_write_is_answered.Goals as goal

pub returns : goal.returns
returns c = (grows_meets, grows_lapse)
