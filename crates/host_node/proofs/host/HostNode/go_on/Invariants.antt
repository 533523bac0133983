use Rattle.std.proofs.Common.{List, []}
use Rattle.hub_laws.specs.Keeping.{Round}
use Rattle.hub_node.specs.Nodes.{Part}
use Rattle.host_node.specs.Standing.{IsInTurn}
use Rattle.host_node.proofs.host.HostNode.go_on.Given as goal

abbrev pub invariant-loop : goal.invariant-loop
invariant-loop l = (part : Part) (past : List Round) → IsInTurn part l.initial.self past l.initial.steps.steps [] 0
    → IsInTurn part l.self past l.steps.steps [] 0
