use Rattle.run_goes_on.proofs.Unblocking.{no_wants_wait}
use Rattle.run_goes_on.proofs.laws.no_wants_wait.Goals as goal

pub returns : goal.returns
returns c = no_wants_wait
