use Rattle.std.proofs.Common.{◌≡◌, ◌++◌, flat_map, drop}
use Rattle.run_rules.specs.Runs.{entries_of, history_of}
use Rattle.run_rules.proofs.history.hist.Given as goal

-- the entries so far, and those of the steps that are left
abbrev pub invariant-loop-step : goal.invariant-loop-step
invariant-loop-step l = l.history ++ flat_map entries_of (drop l.step-index l.step-items) ≡ history_of l.journal.steps
