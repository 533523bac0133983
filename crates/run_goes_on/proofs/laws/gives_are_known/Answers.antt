use Rattle.run_goes_on.proofs.Giving.{gives_are_known}
use Rattle.run_goes_on.proofs.laws.gives_are_known.Goals as goal

pub returns : goal.returns
returns c = gives_are_known
