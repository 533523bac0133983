use Rattle.std.proofs.Common.{◌≤◌, ◌+◌, length, subst, arith}
use Rattle.std.specs.Prelude.{vec_capacity}
use Rattle.service_hosts.specs.Nodes.{NodeOf, store_under}
use Rattle.service_hosts.proofs.nodes.take_store.Goals as goal

pub put_first-requires : goal.put_first-requires
put_first-requires g c =
    let room = subst (λ (n : NodeOf g.row.S.Denot).
    length (store_under n) + length c.args.stores.now.items ≤ vec_capacity c.args.stores.now)
    c.in-Server.is c.requires in
    omega (arith, room)
