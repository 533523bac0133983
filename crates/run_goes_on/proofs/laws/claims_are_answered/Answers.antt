use Rattle.run_goes_on.proofs.Answering.{claims_are_answered}
use Rattle.run_goes_on.proofs.laws.claims_are_answered.Goals as goal

pub returns : goal.returns
returns c = claims_are_answered
