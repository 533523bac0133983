use Rattle.run_history.proofs.EndedLaw.{ended_runs_may_be_followed}
use Rattle.run_history.proofs.past_laws.an_ended_run_may_be_followed.Goals as goal

pub returns : goal.returns
returns c = ended_runs_may_be_followed
