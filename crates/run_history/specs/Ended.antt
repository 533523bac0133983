-- What is so once a run is ended.
use Rattle.std.specs.Prelude.{None, ◌≡◌}
use Rattle.base_types.specs.declared.ids.Fid.{Fid}
use Rattle.script_lines.specs.declared.script.Script.{Script}
use Rattle.tree_laws.specs.Parts.{Part}
use Rattle.run_rules.specs.Runs.{IsEnded, IsRun, firsts_of, past_of}
use Rattle.run_rules.specs.declared.journal.Journal.{Journal}
use Rattle.run_parts.specs.Contents.{Contents}
use Rattle.run_parts.specs.Legal.{tree}
use Rattle.run_contents.specs.Instance.{IsOfRun}

-- nothing is unsaved: what hosts that stopped had not stored is lost
abbrev pub EndsSaved : Type 0
EndsSaved =
    (script : Script) (journal : Journal) (run : IsRun script journal) (c : Contents)
    → IsOfRun run.start (firsts_of journal) c → IsEnded script journal
    → (f : Fid) (p : Part) → (tree c (past_of journal) f p).unsaved ≡ None
