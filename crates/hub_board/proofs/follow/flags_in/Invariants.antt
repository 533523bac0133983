use Rattle.std.proofs.Common.{◌≡◌, take}
use Rattle.std.specs.List.{filter_map}
use Rattle.hub_board.specs.Follows.{raise_of}
use Rattle.hub_board.proofs.follow.flags_in.Given as goal

abbrev pub invariant-loop-mark : goal.invariant-loop-mark
invariant-loop-mark l = l.flags ≡ filter_map raise_of (take l.mark-index l.marks)
