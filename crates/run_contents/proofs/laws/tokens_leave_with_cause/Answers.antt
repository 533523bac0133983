use Rattle.run_rules.specs.Runs.{firsts_of, past_of}
use Rattle.run_contents.proofs.Steps.{dropped}
use Rattle.run_contents.proofs.laws.tokens_leave_with_cause.Goals as goal

pub returns : goal.returns
returns c script journal run =
    dropped script run.start (firsts_of journal) (past_of journal) run.steps run.roster
