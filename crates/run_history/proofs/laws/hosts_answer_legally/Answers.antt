use Rattle.run_history.proofs.HostLaw.{hosts_answer}
use Rattle.run_history.proofs.laws.hosts_answer_legally.Goals as goal

pub returns : goal.returns
returns c = hosts_answer
