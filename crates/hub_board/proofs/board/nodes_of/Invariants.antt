use Rattle.std.proofs.Common.{◌≡◌}
use Rattle.hub_board.specs.Hubs.{hosts_up_to}
use Rattle.hub_board.proofs.board.nodes_of.Given as goal

abbrev pub invariant-loop-before : goal.invariant-loop-before
invariant-loop-before l = l.nodes ≡ hosts_up_to l.before
