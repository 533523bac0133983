use Rattle.host_tables.proofs.Updating.{reads_after}
use Rattle.host_tables.proofs.laws.updates_law.Goals as goal

pub returns : goal.returns
returns c = reads_after
