use Rattle.run_due.proofs.Silence.{hosts_speak, servers_speak}
use Rattle.run_due.proofs.laws.silence_is_refused.Goals as goal

pub returns : goal.returns
returns c = record { hosts = hosts_speak; servers = servers_speak }
