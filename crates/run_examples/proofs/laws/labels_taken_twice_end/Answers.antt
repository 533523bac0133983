use Rattle.run_examples.proofs.MoreExamples.{again_lapse, again_meets, relocks_lapse, relocks_meets, second_lapse, second_meets}
use Rattle.run_examples.proofs.laws.labels_taken_twice_end.Goals as goal

pub returns : goal.returns
returns c = ((relocks_meets, relocks_lapse), (second_meets, second_lapse), (again_meets, again_lapse))
