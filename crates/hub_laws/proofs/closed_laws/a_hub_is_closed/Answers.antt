use Rattle.hub_laws.proofs.Example.{example_is_closed}
use Rattle.hub_laws.proofs.closed_laws.a_hub_is_closed.Goals as goal

pub returns : goal.returns
returns c = example_is_closed
