use Rattle.run_examples.proofs.ServerExamples.{stops_lapse, stops_meets}
use Rattle.run_examples.proofs.laws.an_owed_token_is_asked_again.Goals as goal

pub returns : goal.returns
returns c = (stops_meets, stops_lapse)
