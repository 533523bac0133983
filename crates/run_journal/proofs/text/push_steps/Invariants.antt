use Rattle.std.proofs.Common.{◌≡◌, ◌++◌, drop}
use Rattle.std.specs.List.{flat_map}
use Rattle.run_journal.specs.Text.{step_text}
use Rattle.run_journal.proofs.text.push_steps.Given as goal

-- the lines so far, and those of the steps that are left
abbrev pub invariant-loop-step : goal.invariant-loop-step
invariant-loop-step l = l.text ++ flat_map step_text (drop l.step-index l.steps) ≡ l.fn.text ++ flat_map step_text l.steps
