use Rattle.script_reader.proofs.Ahead.{same_left}
use Rattle.script_reader.proofs.laws.orders_leave_the_same.Goals as goal

pub returns : goal.returns
returns c = same_left
