use Rattle.run_goes_on.proofs.Leaving.{byes_are_answered}
use Rattle.run_goes_on.proofs.laws.byes_are_answered.Goals as goal

pub returns : goal.returns
returns c = byes_are_answered
