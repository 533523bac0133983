use Rattle.std.proofs.Common.{◌≡◌}
use Rattle.std.specs.Prelude.{vec_capacity}
use Rattle.service_hosts.proofs.Adding.{AreMade}
use Rattle.service_hosts.proofs.nodes.add_hosts.Given as goal

abbrev pub invariant-loop-before : goal.invariant-loop-before
invariant-loop-before g l = record {
  made : AreMade g.S.Store.tells g.S.Store.view l.script l.nodes.items l.before;
  room : vec_capacity l.nodes ≡ vec_capacity l.initial.nodes;
}
