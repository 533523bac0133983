use Rattle.run_goes_on.proofs.Calls.{open_calls_await_answers}
use Rattle.run_goes_on.proofs.laws.open_calls_await_answers.Goals as goal

pub returns : goal.returns
returns c = open_calls_await_answers
