use Rattle.std.proofs.Common.{◌≡◌}
use Rattle.script_reader.specs.Walk.{count_up}
use Rattle.script_reader.proofs.walk.count_up.Given as goal

abbrev pub invariant-loop-place : goal.invariant-loop-place
invariant-loop-place l = l.places ≡ count_up l.place
