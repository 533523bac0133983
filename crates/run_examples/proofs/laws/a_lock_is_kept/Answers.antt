use Rattle.run_examples.proofs.Examples.{freed_lapse, freed_meets, frees_lapse, frees_meets, keeps_lapse, keeps_meets, takes_lapse, takes_meets}
use Rattle.run_examples.proofs.laws.a_lock_is_kept.Goals as goal

pub returns : goal.returns
returns c = ((takes_meets, takes_lapse), (keeps_meets, keeps_lapse), (frees_meets, frees_lapse), (freed_meets, freed_lapse))
