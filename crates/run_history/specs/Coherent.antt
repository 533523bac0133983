-- What holds at the parts of objects in a run.
use Rattle.std.specs.Prelude.{List, ℕ}
use Rattle.base_types.specs.declared.ids.ServerId.{ServerId}
use Rattle.tree_answers.specs.declared.tree.Tree.{Tree}
use Rattle.script_lines.specs.declared.script.Script.{Script}
use Rattle.run_rules.specs.Runs.{IsRun, firsts_of, past_of}
use Rattle.run_rules.specs.declared.journal.Journal.{Journal}
use Rattle.run_parts.specs.Contents.{Contents}
use Rattle.run_parts.specs.Legal.{KeepsTree, Legal, LiesInside, LosesExactly, SeesPresent}
use Rattle.run_contents.specs.Instance.{IsOfRun}
use Rattle.run_rules.specs.declared.step.Step.{Step}

-- There are contents that are the run's, and of them all that is said of contents holds.
pub record IsCoherent (start : Tree) (firsts : ServerId → ℕ) (past : List Step) : Type 0 where
  pub contents : Contents
  pub of_run : IsOfRun start firsts contents
  pub legal : Legal contents firsts past
  pub sees : SeesPresent contents past
  pub keeps : KeepsTree contents firsts past
  pub losses : LosesExactly contents firsts past
  pub inside : LiesInside contents firsts past

-- so it is in every run
abbrev pub RunsAreCoherent : Type 0
RunsAreCoherent =
    (script : Script) (journal : Journal) (run : IsRun script journal)
    → IsCoherent run.start (firsts_of journal) (past_of journal)
