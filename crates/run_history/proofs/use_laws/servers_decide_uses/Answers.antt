use Rattle.run_history.proofs.UseLaw.{labels_found, uses_decide}
use Rattle.run_history.proofs.use_laws.servers_decide_uses.Goals as goal

pub returns : goal.returns
returns c = record { legal = uses_decide; free = labels_found }
