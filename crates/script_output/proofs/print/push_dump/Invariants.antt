use Rattle.std.proofs.Common.{◌≡◌, ◌-◌, ◌+◌, ◌++◌}
use Rattle.std.specs.List.{flat_map, range_with_len}
use Rattle.base_types.specs.declared.limits.TheConstants.{SERVERS_MAX}
use Rattle.script_output.specs.Dump.{fileset_lines}
use Rattle.script_output.specs.Reports.{filesets_at, by_server}
use Rattle.script_output.proofs.print.push_dump.Given as goal

-- the lines so far, and those of the servers that are left
abbrev pub invariant-loop-server : goal.invariant-loop-server
invariant-loop-server l =
    l.out ++ flat_map fileset_lines (flat_map (filesets_at l.filesets) (range_with_len l.server (SERVERS_MAX + 1 - l.server)))
    ≡ l.fn.out ++ flat_map fileset_lines (by_server l.filesets)
