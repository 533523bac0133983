use Rattle.run_examples.proofs.Ended.{is_whole}
use Rattle.run_examples.proofs.worked_laws.a_whole_run_is_admitted.Goals as goal

pub returns : goal.returns
returns c = is_whole
