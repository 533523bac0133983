use Rattle.std.proofs.Common.{◌≡◌, map, drop}
use Rattle.tree_answers.specs.Histories.{after_history}
use Rattle.run_rules.specs.Runs.{call_entry}
use Rattle.run_output.proofs.follow.follow_answers.Given as goal

-- the rest of the answers leads to where all of them lead
abbrev pub invariant-loop-answer : goal.invariant-loop-answer
invariant-loop-answer l =
    after_history l.tree (map call_entry (drop l.answer-index l.answer-items)) ≡ after_history l.fn.tree (map call_entry l.answers)
