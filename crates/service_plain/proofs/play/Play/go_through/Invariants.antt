use Rattle.std.proofs.Common.{take}
use Rattle.service_plain.specs.Underway.{GoesAlong, IsFit}
use Rattle.service_plain.proofs.play.Play.go_through.Given as goal

abbrev pub invariant-loop-line : goal.invariant-loop-line
invariant-loop-line l = record { goes : GoesAlong (take l.line-index l.lines) l.initial.self l.self; fit : IsFit l.self }
