use Rattle.std.proofs.Common.{◌≡◌, ◌++◌, drop}
use Rattle.std.specs.List.{flat_map}
use Rattle.script_output.specs.Dump.{fileset_lines}
use Rattle.script_output.specs.Reports.{filesets_at}
use Rattle.script_output.proofs.print.push_server.Given as goal

-- the lines so far, and those of the filesets that are left
abbrev pub invariant-loop-fileset : goal.invariant-loop-fileset
invariant-loop-fileset l =
    l.out ++ flat_map fileset_lines (filesets_at (drop l.fileset-index l.fileset-items) l.server)
    ≡ l.fn.out ++ flat_map fileset_lines (filesets_at l.filesets l.server)
