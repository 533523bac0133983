use Rattle.run_history.proofs.UseGranting.{decisions_granted}
use Rattle.run_history.proofs.use_laws.decisions_are_granted.Goals as goal

pub returns : goal.returns
returns c = decisions_granted
