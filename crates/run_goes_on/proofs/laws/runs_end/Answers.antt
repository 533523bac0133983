use Rattle.run_goes_on.proofs.Ending.{runs_end}
use Rattle.run_goes_on.proofs.laws.runs_end.Goals as goal

pub returns : goal.returns
returns c = runs_end
