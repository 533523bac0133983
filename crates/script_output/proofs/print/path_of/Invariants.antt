use Rattle.std.proofs.Common.{◌≡◌, ◌++◌, drop}
use Rattle.script_output.specs.Texts.{path_of}
use Rattle.script_output.proofs.print.path_of.Given as goal

-- the names so far, and those that are left
abbrev pub invariant-loop-name : goal.invariant-loop-name
invariant-loop-name l = l.path ++ path_of (drop l.name-index l.name-items) ≡ path_of l.names
