use Rattle.std.proofs.Common.{◌≡◌, ◌-◌, ◌+◌, ◌++◌, map}
use Rattle.std.specs.List.{flat_map, range_with_len}
use Rattle.base_types.specs.declared.limits.TheConstants.{SERVERS_MAX}
use Rattle.serde_json.specs.View.{view}
use Rattle.script_output.specs.Reports.{filesets_at, by_server}
use Rattle.script_output.specs.Values.{fileset_values}
use Rattle.script_output.proofs.summary.fileset_values.Given as goal

-- the values so far, and those of the servers that are left
abbrev pub invariant-loop-server : goal.invariant-loop-server
invariant-loop-server l =
    map view l.values.items ++ fileset_values (flat_map (filesets_at l.filesets) (range_with_len l.server (SERVERS_MAX + 1 - l.server)))
    ≡ fileset_values (by_server l.filesets)
