use Rattle.run_contents.proofs.Keeping.{servers_keep}
use Rattle.run_contents.proofs.laws.servers_keep_well.Goals as goal

pub returns : goal.returns
returns c = servers_keep
