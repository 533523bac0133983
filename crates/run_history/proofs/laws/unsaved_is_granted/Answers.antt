use Rattle.run_history.proofs.Granting.{unsaved_is_granted}
use Rattle.run_history.proofs.laws.unsaved_is_granted.Goals as goal

pub returns : goal.returns
returns c = unsaved_is_granted
