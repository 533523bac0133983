use Rattle.run_contents.proofs.Starts.{starts_kept}
use Rattle.run_contents.proofs.laws.a_server_starts_kept.Goals as goal

pub returns : goal.returns
returns c = starts_kept
