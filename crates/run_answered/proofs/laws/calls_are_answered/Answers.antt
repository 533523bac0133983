use Rattle.run_answered.proofs.Ended.{calls_are_answered}
use Rattle.run_answered.proofs.laws.calls_are_answered.Goals as goal

pub returns : goal.returns
returns c = calls_are_answered
