use Rattle.std.proofs.Common.{◌≡◌, ◌++◌, map, drop}
use Rattle.run_rules.specs.Runs.{call_entry}
use Rattle.run_rules.proofs.history.push_answers.Given as goal

-- the entries so far, and those of the answers that are left
abbrev pub invariant-loop-answer : goal.invariant-loop-answer
invariant-loop-answer l =
    l.history ++ map call_entry (drop l.answer-index l.answer-items) ≡ l.fn.history ++ map call_entry l.answers
