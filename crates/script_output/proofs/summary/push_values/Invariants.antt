use Rattle.std.proofs.Common.{◌≡◌, ◌++◌, drop, map}
use Rattle.serde_json.specs.View.{view}
use Rattle.script_output.specs.Reports.{filesets_at}
use Rattle.script_output.specs.Values.{fileset_values}
use Rattle.script_output.proofs.summary.push_values.Given as goal

-- the values so far, and those of the filesets that are left
abbrev pub invariant-loop-fileset : goal.invariant-loop-fileset
invariant-loop-fileset l =
    map view l.values.items ++ fileset_values (filesets_at (drop l.fileset-index l.fileset-items) l.server)
    ≡ map view l.fn.values.items ++ fileset_values (filesets_at l.filesets l.server)
