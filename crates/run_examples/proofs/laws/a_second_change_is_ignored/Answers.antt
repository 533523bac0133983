use Rattle.run_examples.proofs.ServerSteps.{second_meets, waiting_meets}
use Rattle.run_examples.proofs.laws.a_second_change_is_ignored.Goals as goal

pub returns : goal.returns
returns c = (second_meets, waiting_meets)
