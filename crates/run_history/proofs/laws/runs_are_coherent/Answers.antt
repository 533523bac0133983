use Rattle.run_history.proofs.Instance.{coherent_runs}
use Rattle.run_history.proofs.laws.runs_are_coherent.Goals as goal

pub returns : goal.returns
returns c = coherent_runs
