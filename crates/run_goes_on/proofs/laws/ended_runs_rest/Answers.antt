use Rattle.run_goes_on.proofs.Rested.{ended_runs_rest}
use Rattle.run_goes_on.proofs.laws.ended_runs_rest.Goals as goal

pub returns : goal.returns
returns c = ended_runs_rest
