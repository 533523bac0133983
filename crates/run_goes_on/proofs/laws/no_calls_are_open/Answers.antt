use Rattle.run_goes_on.proofs.Shutting.{no_calls_are_open}
use Rattle.run_goes_on.proofs.laws.no_calls_are_open.Goals as goal

pub returns : goal.returns
returns c = no_calls_are_open
