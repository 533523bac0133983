use Rattle.hub_laws.proofs.Waiting.{end_is_done, flags_are_met}
use Rattle.hub_laws.proofs.closed_laws.hosts_begin_when_the_setup_host_is_done.Goals as goal

pub returns-clause-end : goal.returns-clause-end
returns-clause-end c = end_is_done

pub returns-clause-flags : goal.returns-clause-flags
returns-clause-flags c = flags_are_met
