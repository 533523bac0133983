use Rattle.std.proofs.Common.{◌≡◌, ◌-◌, [], length}
use Rattle.script_reader.specs.Walk.{rounds, count_up}
use Rattle.script_reader.proofs.walk.rounds.Given as goal

abbrev pub invariant-loop-round : goal.invariant-loop-round
invariant-loop-round l = rounds (l.most - l.round) l.lines l.flags l.places ≡ rounds (length l.lines) l.lines [] (count_up (length l.lines))
