use Rattle.run_examples.proofs.Examples.{late_lapse, late_meets, reclaimed_lapse, reclaimed_meets, restarted_lapse, restarted_meets}
use Rattle.run_examples.proofs.laws.a_restart_is_answered.Goals as goal

pub returns : goal.returns
returns c = ((restarted_meets, restarted_lapse), (late_meets, late_lapse), (reclaimed_meets, reclaimed_lapse))
