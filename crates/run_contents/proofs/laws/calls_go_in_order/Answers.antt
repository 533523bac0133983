use Rattle.run_rules.specs.Runs.{firsts_of, past_of}
use Rattle.run_contents.proofs.Steps.{in_order, one_is_open}
use Rattle.run_contents.proofs.laws.calls_go_in_order.Goals as goal

pub returns : goal.returns
returns c = record {
  order = λ script journal run. in_order script run.start (firsts_of journal) (past_of journal) run.steps;
  one = λ script journal run. one_is_open script run.start (firsts_of journal) (past_of journal) run.steps;
}
