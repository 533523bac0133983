use Rattle.run_examples.proofs.Examples.{bye_lapse, bye_meets, ends_lapse, ends_meets, hears_lapse, hears_meets}
use Rattle.run_examples.proofs.laws.an_end_is_allowed.Goals as goal

pub returns : goal.returns
returns c = ((ends_meets, ends_lapse), (bye_meets, bye_lapse), (hears_meets, hears_lapse))
