use Rattle.run_history.proofs.ChangeLaw.{servers_decide}
use Rattle.run_history.proofs.laws.servers_decide_legally.Goals as goal

pub returns : goal.returns
returns c = servers_decide
