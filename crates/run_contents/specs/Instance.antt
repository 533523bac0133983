-- What stands at the parts of objects in a run: contents whose hosts' steps are the journal's, and whose servers' deeds
-- are those of the journal's doings.
use Rattle.std.specs.Prelude.{List, ◌≡◌, ℕ}
use Rattle.base_types.specs.declared.ids.Fid.{Fid}
use Rattle.base_types.specs.declared.ids.ServerId.{ServerId}
use Rattle.need_host.specs.Looks.{kept_view}
use Rattle.tree_answers.specs.declared.tree.Tree.{Tree}
use Rattle.script_lines.specs.declared.script.Script.{Script}
use Rattle.tree_laws.specs.Parts.{Part}
use Rattle.run_rules.specs.Runs.{IsRun, firsts_of, past_of}
use Rattle.run_rules.specs.declared.journal.Journal.{Journal}
use Rattle.run_parts.specs.Contents.{Contents}
use Rattle.run_parts.specs.Legal.{ContentsRun}
use Rattle.run_contents.specs.Doing.{deeds_at}
use Rattle.run_contents.specs.Steps.{IsOfJournal}
use Rattle.run_rules.specs.declared.step.Step.{Step}

pub record IsOfRun (start : Tree) (firsts : ServerId → ℕ) (c : Contents) : Type 0 where
  pub hosts : IsOfJournal c
  pub start_is : (f : Fid) (p : Part) → c.start f p ≡ kept_view start f p
  pub deeds : (past : List Step) (s : Step) → c.deeds past s ≡ deeds_at start firsts s.node past s

-- every run meets the rules of contents
abbrev pub RunsMeetContents : Type 0
RunsMeetContents =
    (script : Script) (journal : Journal) (run : IsRun script journal) (c : Contents)
    → IsOfRun run.start (firsts_of journal) c → ContentsRun c (firsts_of journal) (past_of journal)
