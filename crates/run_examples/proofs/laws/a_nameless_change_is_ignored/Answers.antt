use Rattle.run_examples.proofs.ServerExamples.{nameless_lapse, nameless_meets}
use Rattle.run_examples.proofs.laws.a_nameless_change_is_ignored.Goals as goal

pub returns : goal.returns
returns c = (nameless_meets, nameless_lapse)
