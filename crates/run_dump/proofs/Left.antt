-- The tree that a run leaves is well formed.
use Rattle.std.proofs.Common.{subst}
use Rattle.std.specs.Prelude.{[]}
use Rattle.tree_answers.specs.Histories.{after_history}
use Rattle.tree_answers.specs.WellFormed.{IsWellFormed}
use Rattle.script_lines.specs.declared.script.Script.{Script}
use Rattle.run_history.proofs.Law.{runs_are_well_formed, same_history}
use Rattle.run_rules.specs.Runs.{IsRun, history_of}
use Rattle.run_rules.specs.declared.journal.Journal.{Journal}

pub runs_leave_well : (script : Script) (journal : Journal) (run : IsRun script journal) →
    IsWellFormed (after_history run.start (history_of journal.steps))
runs_leave_well script journal run =
    subst (λ h. IsWellFormed (after_history run.start h)) (same_history journal.steps [])
    (runs_are_well_formed script journal run)
