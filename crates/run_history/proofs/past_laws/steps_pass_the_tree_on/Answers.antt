use Rattle.run_history.proofs.PassLaw.{hosts_pass, servers_pass, starts_stand}
use Rattle.run_history.proofs.past_laws.steps_pass_the_tree_on.Goals as goal

pub returns : goal.returns
returns c = record { start = starts_stand; hosts = hosts_pass; servers = servers_pass }
