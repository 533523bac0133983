-- What is unsaved is under granted tokens, at each decision of a server. Doings have the newest first.
use Rattle.std.specs.Prelude.{List, [], ◌∷◌, ◌≡◌, ℕ}
use Rattle.base_types.specs.declared.ids.Node.TheVariants.{Server}
use Rattle.base_types.specs.declared.ids.ServerId.{ServerId}
use Rattle.tree_answers.specs.declared.tree.Tree.{Tree}
use Rattle.script_lines.specs.declared.script.Script.{Script}
use Rattle.run_rules.specs.Doings.{Doing, after_cause, decisions_of, doings_of}
use Rattle.run_rules.specs.Doings.Doing.{WritesDown}
use Rattle.run_rules.specs.Kept.{filesets_after, filesets_kept, filesets_through}
use Rattle.run_rules.specs.Past.{Always, appended}
use Rattle.run_rules.specs.Runs.{IsRun, firsts_of, past_of}
use Rattle.run_rules.specs.ServerDecides.{by_cause, decisions}
use Rattle.run_rules.specs.Steps.{steps_of_server}
use Rattle.run_rules.specs.declared.applied.Applied.TheVariants.{Done}
use Rattle.run_history.specs.Agreement.{CausedCells}
use Rattle.run_history.specs.Granted.{GrantedAt}
use Rattle.run_rules.specs.declared.journal.Journal.{Journal}
use Rattle.run_parts.specs.Cells.{cell_after}
use Rattle.run_parts.specs.Contents.{Contents}
use Rattle.run_parts.specs.Legal.{Cells, tree}
use Rattle.run_contents.specs.Doing.{at_home, writes}
use Rattle.run_contents.specs.Instance.{IsOfRun}
use Rattle.run_rules.specs.declared.applied.Applied.{Applied}
use Rattle.run_rules.specs.declared.applied.Written.{Written}
use Rattle.run_rules.specs.declared.step.Cause.{Cause}
use Rattle.run_rules.specs.declared.step.Step.{Step}

-- what a Change that a server writes down leaves of the parts of its files
abbrev pub CellsWritten : ServerId → Cause → Tree → Written → Cells → Cells
CellsWritten v cause kept_is x cells f p = cell_after p (at_home v (writes cause kept_is x) f p) (cells f p)

-- before each Change of some decisions what is unsaved of the server's files is under granted tokens, if no grace
-- period is on: `kept_is` is what the server keeps then, `past` its doings, `cells` what stands at the parts
abbrev pub GrantedThrough : ServerId → Cause → Tree → List Doing → Cells → List Applied → Type 0
GrantedThrough v cause kept_is past cells [] = Unit {0}
GrantedThrough v cause kept_is past cells (Done x ∷ xs) =
    GrantedAt v past cells
    × GrantedThrough v cause (filesets_after cause kept_is (Done x)) (WritesDown x ∷ past)
    (CellsWritten v cause kept_is x cells) xs
GrantedThrough v cause kept_is past cells (other ∷ xs) =
    GrantedThrough v cause (filesets_after cause kept_is other) (appended (decisions_of other) past) cells xs

abbrev pub DecidesGranted : Tree → (ServerId → ℕ) → Contents → List Step → Step → Type 0
DecidesGranted start firsts c past s =
    (v : ServerId) → s.node ≡ Server v
    → GrantedThrough v s.cause
    (filesets_through s.cause (by_cause s.applied) (filesets_kept start v (steps_of_server v past)))
    (after_cause s.cause (doings_of (firsts v) v past))
    (CausedCells v (filesets_kept start v (steps_of_server v past)) s (tree c past)) (decisions s.applied)

abbrev pub DecisionsAreGranted : Type 0
DecisionsAreGranted =
    (script : Script) (journal : Journal) (run : IsRun script journal) (c : Contents)
    → IsOfRun run.start (firsts_of journal) c
    → Always (DecidesGranted run.start (firsts_of journal) c) (past_of journal)
