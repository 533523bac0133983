use Rattle.run_contents.proofs.Grants.{grants_bring_needs}
use Rattle.run_contents.proofs.Sends.{dones_show_nothing}
use Rattle.run_contents.proofs.laws.servers_bring_what_is_asked.Goals as goal

pub returns : goal.returns
returns c = record { grants = grants_bring_needs; dones = dones_show_nothing }
