use Rattle.run_examples.proofs.MoreExamples.{frees_last_lapse, frees_last_meets, returns_lapse, returns_meets, unlocks_lapse, unlocks_meets}
use Rattle.run_examples.proofs.laws.a_use_is_ended.Goals as goal

pub returns : goal.returns
returns c = ((unlocks_meets, unlocks_lapse), (returns_meets, returns_lapse), (frees_last_meets, frees_last_lapse))
