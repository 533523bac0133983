use Rattle.run_goes_on.proofs.Owing.{nothing_is_owed}
use Rattle.run_goes_on.proofs.laws.nothing_is_owed.Goals as goal

pub returns : goal.returns
returns c = nothing_is_owed
