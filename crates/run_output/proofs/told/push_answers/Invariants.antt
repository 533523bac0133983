use Rattle.std.proofs.Common.{◌≡◌, ◌++◌, flat_map, map, drop}
use Rattle.run_rules.specs.Runs.{call_entry}
use Rattle.script_output.specs.Reports.{answer_in}
use Rattle.run_output.proofs.told.push_answers.Given as goal

-- the replies so far, and those that are left
abbrev pub invariant-loop-answer : goal.invariant-loop-answer
invariant-loop-answer l =
    l.answers ++ flat_map (answer_in l.host l.calls) (map (λ answer. call_entry answer.now) (drop l.answer-index l.own))
    ≡ l.fn.answers ++ flat_map (answer_in l.host l.calls) (map (λ answer. call_entry answer.now) l.own)
