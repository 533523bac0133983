use Rattle.run_promises.proofs.Promising.{promises_are_kept}
use Rattle.run_promises.proofs.promises_law.Goals as goal

pub returns : goal.returns
returns c = promises_are_kept
