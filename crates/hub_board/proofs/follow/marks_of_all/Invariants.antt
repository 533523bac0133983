use Rattle.std.proofs.Common.{◌≡◌, map, take}
use Rattle.hub_board.specs.Follows.{mark_of}
use Rattle.hub_board.proofs.follow.marks_of_all.Given as goal

abbrev pub invariant-loop-line : goal.invariant-loop-line
invariant-loop-line l = l.marks ≡ map (λ line. mark_of line.deed) (take l.line-index l.lines)
