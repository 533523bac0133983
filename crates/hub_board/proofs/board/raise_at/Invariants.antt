use Rattle.std.proofs.Common.{◌≡◌}
use Rattle.hub_board.specs.Follows.{with_raised}
use Rattle.hub_board.proofs.Mapped.{mapped_first}
use Rattle.hub_board.proofs.board.raise_at.Given as goal

abbrev pub invariant-loop-place : goal.invariant-loop-place
invariant-loop-place l = l.follows ≡ mapped_first (with_raised l.flag) l.place l.fn.follows
