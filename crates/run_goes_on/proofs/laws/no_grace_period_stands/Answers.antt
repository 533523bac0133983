use Rattle.run_goes_on.proofs.Gracing.{no_grace_period_stands}
use Rattle.run_goes_on.proofs.laws.no_grace_period_stands.Goals as goal

pub returns : goal.returns
returns c = no_grace_period_stands
