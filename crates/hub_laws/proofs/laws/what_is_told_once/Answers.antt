use Rattle.hub_laws.proofs.Beginning.{given_is_begun}
use Rattle.hub_laws.proofs.laws.what_is_told_once.Goals as goal

pub returns : goal.returns
returns c = given_is_begun
