use Rattle.std.proofs.Common.{◌≡◌, map, take}
use Rattle.hub_board.specs.Follows.{follow_of}
use Rattle.hub_board.proofs.board.follows_of.Given as goal

abbrev pub invariant-loop-node : goal.invariant-loop-node
invariant-loop-node l = l.follows ≡ map (follow_of l.script) (take l.node-index l.nodes)
