use Rattle.run_tokens.proofs.Evicting.{oldest_goes}
use Rattle.run_tokens.proofs.host_laws.the_oldest_goes.Goals as goal

pub returns : goal.returns
returns c = oldest_goes
