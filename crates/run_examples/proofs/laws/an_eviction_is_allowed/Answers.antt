use Rattle.run_examples.proofs.MoreExamples.{evicts_lapse, evicts_meets}
use Rattle.run_examples.proofs.laws.an_eviction_is_allowed.Goals as goal

pub returns : goal.returns
returns c = (evicts_meets, evicts_lapse)
