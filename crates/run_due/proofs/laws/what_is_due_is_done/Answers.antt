use Rattle.run_due.proofs.Doing.{hosts_do, servers_do, runs_go_on}
use Rattle.run_due.proofs.laws.what_is_due_is_done.Goals as goal

pub returns : goal.returns
returns c = record { hosts = hosts_do; servers = servers_do; runs = runs_go_on }
