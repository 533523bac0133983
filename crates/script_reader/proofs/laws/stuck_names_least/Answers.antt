use Rattle.script_reader.proofs.Least.{stuck_names_least}
use Rattle.script_reader.proofs.laws.stuck_names_least.Goals as goal

pub returns : goal.returns
returns c = stuck_names_least
