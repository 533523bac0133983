use Rattle.std.proofs.Common.{◌≡◌, ◌++◌, ℕ, [], flat_map, map, drop, get_or}
use Rattle.run_rules.specs.Runs.{call_entry, entries_of, history_of}
use Rattle.script_output.specs.Reports.{answer_in}
use Rattle.run_output.proofs.told.sorted.Given as goal

-- what is sorted in tells, with the steps that are left, what all tell
abbrev pub invariant-loop-step : goal.invariant-loop-step
invariant-loop-step l = (host calls : ℕ) →
    flat_map (answer_in host calls) (map (λ answer. call_entry answer.now) (get_or l.sorted host []))
    ++ flat_map (answer_in host calls) (flat_map entries_of (drop l.step-index l.steps))
    ≡ flat_map (answer_in host calls) (history_of l.steps)
