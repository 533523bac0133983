-- Calls that are answered from cache.
use Rattle.std.specs.Prelude.{◌≡◌}
use Rattle.base_types.specs.declared.ids.HostId.{HostId}
use Rattle.base_types.specs.declared.ids.Node.TheVariants.{Host}
use Rattle.need_host.specs.Looks.{tree_view}
use Rattle.tree_answers.specs.WellFormed.{IsWellFormed}
use Rattle.tree_answers.specs.declared.tree.Tree.{Tree}
use Rattle.script_lines.specs.declared.script.Script.{Script}
use Rattle.run_rules.specs.Past.{Always}
use Rattle.run_rules.specs.Runs.{IsRun, firsts_of, past_of}
use Rattle.run_rules.specs.Steps.{steps_of_host}
use Rattle.run_history.specs.Agreement.{CellsAgree}
use Rattle.run_tokens.specs.CacheLaws.{CachedOn}
use Rattle.run_rules.specs.declared.journal.Journal.{Journal}
use Rattle.run_parts.specs.Contents.{Contents}
use Rattle.run_contents.specs.Instance.{IsOfRun}

-- the step that begins a call answers it exactly where it can (`CachedOn`): so it does on each well formed tree with
-- the cells of the run before the step
abbrev pub AnswersFromCacheExactly : Type 0
AnswersFromCacheExactly =
    (script : Script) (journal : Journal) (run : IsRun script journal) (c : Contents)
    → IsOfRun run.start (firsts_of journal) c
    → Always (λ before s. (host : HostId) (tree_is : Tree) → s.node ≡ Host host → IsWellFormed tree_is
    → CellsAgree c before tree_is → CachedOn script.roster host (steps_of_host host before) s (tree_view tree_is))
    (past_of journal)
