use Rattle.std.proofs.Common.{◌≡◌, ◌≤◌}
use Rattle.std.specs.Prelude.{vec_capacity}
use Rattle.service_hosts.proofs.Adding.{AreAdded}
use Rattle.service_hosts.proofs.nodes.add_servers.Given as goal

abbrev pub invariant-loop-before : goal.invariant-loop-before
invariant-loop-before g l = record {
  added : AreAdded g.S.Store.tells g.S.Store.view l.script l.initial.nodes.items l.initial.stores.items l.nodes.items
      l.stores.items l.before;
  room : vec_capacity l.initial.stores ≤ vec_capacity l.stores;
  nodes_room : vec_capacity l.nodes ≡ vec_capacity l.initial.nodes;
}
