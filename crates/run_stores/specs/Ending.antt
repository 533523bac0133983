-- What a store keeps of the last tree of a run.
use Rattle.std.specs.List.{list_all}
use Rattle.std.specs.Prelude.{[], true, ◌≡◌}
use Rattle.tree_filesets.specs.WellFormed.{is_at_rest}
use Rattle.tree_answers.specs.WellFormed.{IsWellFormed}
use Rattle.tree_answers.specs.declared.tree.Tree.{Tree}
use Rattle.script_lines.specs.declared.script.Script.{Script}
use Rattle.store_laws.specs.TreeKeeping.{KeepsOf}
use Rattle.store_state.specs.declared.state.StoreState.{StoreState}
use Rattle.run_history.specs.PastStanding.{KeepsAs}
use Rattle.run_rules.specs.Kept.{filesets_kept}
use Rattle.run_rules.specs.Runs.{IsEnded, IsRun, past_of}
use Rattle.run_tokens.specs.Pasts.{tree_at}
use Rattle.run_rules.specs.Steps.{steps_of_server}
use Rattle.run_rules.specs.declared.journal.Journal.{Journal}

-- What a server keeps is what is kept of a well formed tree in which nothing is unsaved and none moved away: then its
-- store keeps its part of that tree.
abbrev pub LastIsKept : Type 0
LastIsKept =
    (last kept_is : Tree) (state : StoreState) → IsWellFormed last → list_all is_at_rest last.filesets ≡ true
    → last.away ≡ [] → KeepsAs state.server kept_is last → KeepsOf kept_is state → KeepsOf last state

-- So once a run is ended, a store that keeps what its server keeps after all its steps keeps its part of the tree that
-- the history of the run makes.
abbrev pub StoresFollow : Type 0
StoresFollow =
    (script : Script) (journal : Journal) (run : IsRun script journal) → IsEnded script journal → (state : StoreState)
    → KeepsOf (filesets_kept run.start state.server (steps_of_server state.server (past_of journal))) state
    → KeepsOf (tree_at run.start (past_of journal)) state
