use Rattle.run_history.proofs.Ended.{nothing_unsaved}
use Rattle.run_history.proofs.laws.an_ended_run_leaves_nothing_unsaved.Goals as goal

pub returns : goal.returns
returns c = nothing_unsaved
