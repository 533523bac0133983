-- The history of a run as a whole. Lists of steps have the newest first.
use Rattle.std.specs.Prelude.{List, [], ℕ, ◌∷◌}
use Rattle.base_types.specs.declared.ids.ServerId.{ServerId}
use Rattle.tree_answers.specs.Histories.{IsHistory}
use Rattle.tree_answers.specs.WellFormed.{IsWellFormed}
use Rattle.tree_answers.specs.declared.tree.Tree.{Tree}
use Rattle.script_lines.specs.declared.script.Script.{Script}
use Rattle.run_rules.specs.Kept.{filesets_kept}
use Rattle.run_rules.specs.Runs.{IsRun, firsts_of, history_of, past_of}
use Rattle.run_tokens.specs.Pasts.{IsLegalPast, tree_at}
use Rattle.run_rules.specs.Steps.{steps_of_server}
use Rattle.run_tokens.specs.CacheLaws.{CachedExactly}
use Rattle.run_history.specs.Agreement.{CellsAgree}
use Rattle.run_rules.specs.declared.journal.Journal.{Journal}
use Rattle.run_parts.specs.Contents.{Contents}
use Rattle.run_contents.specs.Instance.{IsOfRun}
use Rattle.run_rules.specs.declared.step.Step.{Step}
use Rattle.run_history.specs.PastStanding.{KeepsAs}
use Rattle.run_history.specs.UseStanding.{LabelsStand}

-- The history of every run is legal: each call has the tree's reply, and what is stored may be.
abbrev pub RunsAreLegal : Type 0
RunsAreLegal = (script : Script) (journal : Journal) (run : IsRun script journal)
    → IsLegalPast run.start (past_of journal)

-- So is that of its journal, of which the output is made.
abbrev pub JournalsAreLegal : Type 0
JournalsAreLegal =
    (script : Script) (journal : Journal) (run : IsRun script journal)
    → IsHistory run.start (history_of journal.steps)

-- A tree is that of the run after some steps: it is well formed, its parts are those of the run, and of each server's
-- files it keeps just what the server keeps; and in use are the labels of the run. `firsts` are the epochs in which the
-- servers start.
pub record IsOfPast
    (start : Tree) (firsts : ServerId → ℕ) (c : Contents) (past : List Step) (tree_is : Tree) : Type 0 where
  pub formed : IsWellFormed tree_is
  pub cells : CellsAgree c past tree_is
  pub kept : (server : ServerId) → KeepsAs server (filesets_kept start server (steps_of_server server past)) tree_is
  pub labels : LabelsStand firsts past tree_is

-- so the history's is from the start on, and after each step
abbrev pub IsThroughout : Tree → (ServerId → ℕ) → Contents → List Step → Type 0
IsThroughout start firsts c [] = IsOfPast start firsts c [] (tree_at start [])
IsThroughout start firsts c (s ∷ past) =
    IsThroughout start firsts c past × IsOfPast start firsts c (s ∷ past) (tree_at start (s ∷ past))

abbrev pub HistoriesMakeTheTree : Type 0
HistoriesMakeTheTree =
    (script : Script) (journal : Journal) (run : IsRun script journal) (c : Contents)
    → IsOfRun run.start (firsts_of journal) c → IsThroughout run.start (firsts_of journal) c (past_of journal)

-- At the end of its journal each server keeps of that tree just its own filesets, as they are kept there.
abbrev pub ServersKeepTheTree : Type 0
ServersKeepTheTree =
    (script : Script) (journal : Journal) (run : IsRun script journal) (server : ServerId)
    → KeepsAs server (filesets_kept run.start server (steps_of_server server (past_of journal)))
    (tree_at run.start (past_of journal))

-- on the tree of the history calls are answered from cache exactly where tokens cover their need
abbrev pub CachesAreExact : Type 0
CachesAreExact =
    (script : Script) (journal : Journal) (run : IsRun script journal) → CachedExactly run.start (past_of journal)
