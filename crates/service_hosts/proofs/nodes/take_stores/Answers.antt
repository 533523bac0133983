use Rattle.std.proofs.Common.{List, length, refl, ap, arith}
use Rattle.service_hosts.specs.Nodes.{store_under}
use Rattle.service_hosts.proofs.Adding.{node_taken, room_left}
use Rattle.service_hosts.proofs.Places.{long}
use Rattle.service_hosts.specs.Nodes.{stores_in}
use Rattle.service_hosts.proofs.nodes.take_stores.Goals as goal

pub loop-node-init : goal.loop-node-init
loop-node-init g c = record { taken = record { are = refl }; room = c.requires }

pub take_store-requires : goal.take_store-requires
take_store-requires g c =
    let left = room_left (stores_in c.args.nodes.items) c.loop-node.nodes.items c.pop.new.self.items c.in-Some.node
    c.in-Some.ensures.items in
    let room = c.loop-node.invariant.room in
    omega (arith, left, room)

pub loop-node-preserved : goal.loop-node-preserved
loop-node-preserved g c =
    let whole = stores_in c.args.nodes.items in
    let n = c.in-Some.node in
    let left = room_left whole c.loop-node.nodes.items c.pop.new.self.items n c.in-Some.ensures.items in
    let more = ap (λ (l : List g.row.S.Denot). length l) c.take_store.ensures.stores in
    let both = long (store_under n) c.loop-node.stores.items in
    let room = c.loop-node.invariant.room in
    let grown = c.take_store.ensures.room in
    record {
      taken = node_taken _ c.loop-node.nodes.items c.pop.new.self.items n c.loop-node.stores.items
          c.take_store.new.stores.items c.in-Some.ensures.items c.take_store.ensures.stores c.loop-node.invariant.taken;
      room = omega (arith, left, more, both, room, grown);
    }
