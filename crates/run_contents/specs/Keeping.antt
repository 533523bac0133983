-- What servers keep in runs.
use Rattle.base_types.specs.declared.ids.ServerId.{ServerId}
use Rattle.script_lines.specs.declared.script.Script.{Script}
use Rattle.run_rules.specs.Kept.{filesets_kept}
use Rattle.run_rules.specs.Runs.{IsRun, past_of}
use Rattle.run_rules.specs.Steps.{steps_of_server}
use Rattle.run_rules.specs.declared.journal.Journal.{Journal}
use Rattle.run_contents.specs.Gives.{IsKept}

-- what each server keeps is well formed, and nothing in it is unsaved
abbrev pub ServersKeepWell : Type 0
ServersKeepWell =
    (script : Script) (journal : Journal) (run : IsRun script journal) (server : ServerId)
    → IsKept (filesets_kept run.start server (steps_of_server server (past_of journal)))
