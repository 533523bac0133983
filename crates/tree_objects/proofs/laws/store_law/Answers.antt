use Rattle.tree_objects.proofs.Lawful.{store_shows, sync_shows}
use Rattle.tree_objects.proofs.laws.store_law.Goals as goal

pub returns-clause-store : goal.returns-clause-store
returns-clause-store c = store_shows

pub returns-clause-sync : goal.returns-clause-sync
returns-clause-sync c = sync_shows
