use Rattle.std.proofs.Common.{◌≡◌, ◌++◌}
use Rattle.hub_board.specs.Hubs.{servers_up_to}
use Rattle.hub_board.proofs.board.add_servers.Given as goal

abbrev pub invariant-loop-before : goal.invariant-loop-before
invariant-loop-before l = l.nodes ≡ l.fn.nodes ++ servers_up_to l.before
