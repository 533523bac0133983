use Rattle.hub_laws.proofs.Closing.{closed_has_held}
use Rattle.hub_laws.proofs.closed_laws.a_closed_hub_has_held.Goals as goal

pub returns : goal.returns
returns c = closed_has_held
