use Rattle.run_examples.proofs.ServerExamples.{again, twice, unasked, ungreeted}
use Rattle.run_examples.proofs.laws.out_of_turn_is_refused.Goals as goal

pub returns : goal.returns
returns c = record { unasked = unasked; again = again; twice = twice; ungreeted = ungreeted }
