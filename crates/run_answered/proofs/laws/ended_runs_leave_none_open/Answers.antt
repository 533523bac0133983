use Rattle.run_answered.proofs.Greeting.{ended_runs_leave_none_open}
use Rattle.run_answered.proofs.laws.ended_runs_leave_none_open.Goals as goal

pub returns : goal.returns
returns c = ended_runs_leave_none_open
