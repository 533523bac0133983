-- What an ended run leaves.
use Rattle.std.specs.Prelude.{◌≡◌}
use Rattle.script_lines.specs.declared.script.Script.{Script}
use Rattle.run_rules.specs.Runs.{IsEnded, IsRun, IsValid, past_of}
use Rattle.run_tokens.specs.Pasts.{tree_at}
use Rattle.run_rules.specs.declared.journal.Journal.{Journal}

-- at its end the history's tree is one from which runs start, with the roster of the script
abbrev pub EndedRunsMayBeFollowed : Type 0
EndedRunsMayBeFollowed =
    (script : Script) (journal : Journal) (run : IsRun script journal) → IsEnded script journal
    → let left = tree_at run.start (past_of journal) in IsValid left × (left.roster ≡ script.roster)
