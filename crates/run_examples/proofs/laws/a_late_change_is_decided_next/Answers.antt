use Rattle.run_examples.proofs.LateSteps.{late_is_next}
use Rattle.run_examples.proofs.laws.a_late_change_is_decided_next.Goals as goal

pub returns : goal.returns
returns c = late_is_next
