use Rattle.run_examples.proofs.ServerExamples.{calls_lapse, calls_meets, grants_lapse, grants_meets}
use Rattle.run_examples.proofs.laws.a_blocked_fetch_is_granted.Goals as goal

pub returns : goal.returns
returns c = ((calls_meets, calls_lapse), (grants_meets, grants_lapse))
