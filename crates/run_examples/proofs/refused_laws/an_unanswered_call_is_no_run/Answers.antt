use Rattle.run_examples.proofs.Unanswered.{unanswered}
use Rattle.run_examples.proofs.refused_laws.an_unanswered_call_is_no_run.Goals as goal

pub returns : goal.returns
returns c = unanswered
