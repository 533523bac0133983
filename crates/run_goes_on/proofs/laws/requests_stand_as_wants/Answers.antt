use Rattle.run_goes_on.proofs.Standing.{requests_stand_as_wants}
use Rattle.run_goes_on.proofs.laws.requests_stand_as_wants.Goals as goal

pub returns : goal.returns
returns c = requests_stand_as_wants
