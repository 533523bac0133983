use Rattle.run_history.proofs.Carried.{is_carried}
use Rattle.run_history.proofs.past_laws.the_worked_past_is_legal.Goals as goal

pub returns : goal.returns
returns c = is_carried
