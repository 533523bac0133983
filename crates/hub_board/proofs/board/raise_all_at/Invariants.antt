use Rattle.std.proofs.Common.{◌≡◌, take}
use Rattle.hub_board.specs.Hubs.{all_raised}
use Rattle.hub_board.proofs.board.raise_all_at.Given as goal

abbrev pub invariant-loop-flag : goal.invariant-loop-flag
invariant-loop-flag l = l.follows ≡ all_raised (take l.flag-index l.flags) l.fn.follows
