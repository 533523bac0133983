use Rattle.server_says.proofs.Admits.{claims_granted}
use Rattle.server_says.proofs.laws.claim_law.Goals as goal

pub returns : goal.returns
returns c = claims_granted
