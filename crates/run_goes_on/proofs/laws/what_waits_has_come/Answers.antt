use Rattle.run_goes_on.proofs.Arriving.{what_waits_has_come}
use Rattle.run_goes_on.proofs.laws.what_waits_has_come.Goals as goal

pub returns : goal.returns
returns c = what_waits_has_come
