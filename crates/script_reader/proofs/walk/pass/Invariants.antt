use Rattle.std.proofs.Common.{◌≡◌, drop}
use Rattle.script_reader.specs.Walk.{pass_from, walk_of}
use Rattle.script_reader.proofs.walk.pass.Given as goal

abbrev pub invariant-loop-place : goal.invariant-loop-place
invariant-loop-place l = pass_from l.lines l.walk (drop l.place-index l.places) ≡ pass_from l.lines (walk_of l.fn.flags) l.places
