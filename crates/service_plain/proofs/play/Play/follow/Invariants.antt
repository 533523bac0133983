use Rattle.std.proofs.Common.{take}
use Rattle.service_plain.specs.Seats.{lines_at}
use Rattle.service_plain.specs.Underway.{GoesAlong, IsFit}
use Rattle.service_plain.proofs.play.Play.follow.Given as goal

abbrev pub invariant-loop-place : goal.invariant-loop-place
invariant-loop-place l = record { goes : GoesAlong (lines_at l.lines (take l.place-index l.places)) l.initial.self l.self; fit : IsFit l.self }
