use Rattle.std.proofs.Common.{◌≡◌, map, take}
use Rattle.std.specs.List.{filter}
use Rattle.script_lines.specs.Sound.{same_node}
use Rattle.hub_board.specs.Follows.{mark_of}
use Rattle.hub_board.proofs.follow.marks_of.Given as goal

abbrev pub invariant-loop-line : goal.invariant-loop-line
invariant-loop-line l =
    l.marks ≡ map (λ line. mark_of line.deed) (filter (λ line. same_node line.node l.node) (take l.line-index l.lines))
