use Rattle.run_examples.proofs.MoreExamples.{both_lapse, both_meets}
use Rattle.run_examples.proofs.laws.a_fetch_asks_for_all.Goals as goal

pub returns : goal.returns
returns c = (both_meets, both_lapse)
