use Rattle.std.proofs.Common.{◌≡◌, ◌++◌, ℕ, [], flat_map, map, drop, get_or}
use Rattle.run_rules.specs.Runs.{call_entry, entries_in}
use Rattle.script_output.specs.Reports.{answer_in}
use Rattle.run_output.proofs.told.sort_applied.Given as goal

abbrev pub invariant-loop-one : goal.invariant-loop-one
invariant-loop-one l = (host calls : ℕ) →
    flat_map (answer_in host calls) (map (λ answer. call_entry answer.now) (get_or l.sorted host []))
    ++ flat_map (answer_in host calls) (flat_map (entries_in l.fn.server) (drop l.one-index l.one-items))
    ≡ flat_map (answer_in host calls) (map (λ answer. call_entry answer.now) (get_or l.fn.sorted host []))
    ++ flat_map (answer_in host calls) (flat_map (entries_in l.fn.server) l.applied)
