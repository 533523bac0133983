use Rattle.run_contents.proofs.DeedSteps.{runs_meet}
use Rattle.run_contents.proofs.laws.servers_meet_the_rules_of_contents.Goals as goal

pub returns : goal.returns
returns c = runs_meet
