use Rattle.run_contents.proofs.Shown.{hosts_show}
use Rattle.run_contents.proofs.laws.hosts_meet_the_rules_of_contents.Goals as goal

pub returns : goal.returns
returns c = hosts_show
