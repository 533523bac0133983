use Rattle.script_reader.proofs.Stuck.{stuck_without_order}
use Rattle.script_reader.proofs.laws.stuck_without_order.Goals as goal

pub returns : goal.returns
returns c = stuck_without_order
