use Rattle.run_goes_on.proofs.Welcoming.{greetings_are_answered}
use Rattle.run_goes_on.proofs.laws.greetings_are_answered.Goals as goal

pub returns : goal.returns
returns c = greetings_are_answered
