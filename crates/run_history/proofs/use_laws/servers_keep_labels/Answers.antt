use Rattle.run_history.proofs.UseServerLaw.{ends_are_legal, servers_leave}
use Rattle.run_history.proofs.use_laws.servers_keep_labels.Goals as goal

pub returns : goal.returns
returns c = record { ends = ends_are_legal; after = servers_leave }
