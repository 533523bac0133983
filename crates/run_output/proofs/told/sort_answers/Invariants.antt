use Rattle.std.proofs.Common.{◌≡◌, ◌++◌, ℕ, [], flat_map, map, drop, get_or}
use Rattle.run_rules.specs.Runs.{call_entry}
use Rattle.script_output.specs.Reports.{answer_in}
use Rattle.run_output.proofs.told.sort_answers.Given as goal

abbrev pub invariant-loop-answer : goal.invariant-loop-answer
invariant-loop-answer l = (host calls : ℕ) →
    flat_map (answer_in host calls) (map (λ answer. call_entry answer.now) (get_or l.sorted host []))
    ++ flat_map (answer_in host calls) (map call_entry (drop l.answer-index l.answer-items))
    ≡ flat_map (answer_in host calls) (map (λ answer. call_entry answer.now) (get_or l.fn.sorted host []))
    ++ flat_map (answer_in host calls) (map call_entry l.more)
