use Rattle.tree_laws.proofs.Stores.{hosts_store_their_own}
use Rattle.tree_laws.proofs.laws.store_law.Goals as goal

pub returns : goal.returns
returns c = hosts_store_their_own
