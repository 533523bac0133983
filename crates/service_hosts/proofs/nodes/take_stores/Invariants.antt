use Rattle.std.proofs.Common.{◌+◌, ◌++◌, ◌≤◌, length}
use Rattle.std.specs.Prelude.{vec_capacity}
use Rattle.service_hosts.proofs.Adding.{AreTaken}
use Rattle.service_hosts.specs.Nodes.{stores_in}
use Rattle.service_hosts.proofs.nodes.take_stores.Given as goal

abbrev pub invariant-loop-node : goal.invariant-loop-node
invariant-loop-node g l = record {
  taken : AreTaken (stores_in l.initial.nodes.items ++ l.initial.stores.items) l.nodes.items l.stores.items;
  room : length (stores_in l.nodes.items) + length l.stores.items ≤ vec_capacity l.stores;
}

abbrev pub decreases-loop-node : goal.decreases-loop-node
decreases-loop-node g l = length l.nodes.items
