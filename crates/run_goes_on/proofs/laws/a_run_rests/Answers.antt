use Rattle.run_goes_on.proofs.Worked.{rests_whole}
use Rattle.run_goes_on.proofs.laws.a_run_rests.Goals as goal

pub returns : goal.returns
returns c = rests_whole
