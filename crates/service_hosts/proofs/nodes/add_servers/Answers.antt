use Rattle.std.proofs.Common.{◌+◌, ◌<◌, ◌++◌, ◌∷◌, ◌∙◌, [], length, refl, sym, ap, arith}
use Rattle.service_hosts.proofs.Adding.{all_added, first_left, none_added, server_added, some_left}
use Rattle.service_hosts.proofs.Laid.{over_long}
use Rattle.service_hosts.proofs.Places.{take_front}
use Rattle.service_hosts.proofs.Starting.{has_limits}
use Rattle.service_hosts.proofs.nodes.add_servers.Goals as goal

pub overflow_cast-count : goal.overflow_cast-count
overflow_cast-count g c =
    let few = (has_limits c.args.script.now.roster c.requires.sound.roster).servers in
    let count = c.requires.count in
    omega (arith, few, count)

pub loop-before-init : goal.loop-before-init
loop-before-init g c = record {
  added = none_added g.S.Store.tells g.S.Store.view c.args.script.now c.args.nodes.now.items c.args.stores.now.items
      c.requires.over c.requires.stores;
  room = omega arith;
  nodes_room = refl;
}

pub remove-store-requires : goal.remove-store-requires
remove-store-requires g c =
    let lt : c.loop-before.before < length c.args.stores.now.items = omega arith in
    let some = some_left g.S.Store.tells g.S.Store.view c.args.script.now c.args.nodes.now.items c.args.stores.now.items
    c.loop-before.nodes.items c.loop-before.stores.items c.loop-before.before c.loop-before.invariant.added lt in
    omega (arith, some)

pub new-requires-clause-ready : goal.new-requires-clause-ready
new-requires-clause-ready g c =
    let lt : c.loop-before.before < length c.args.stores.now.items = omega arith in
    let added = c.loop-before.invariant.added in
    let some = some_left g.S.Store.tells g.S.Store.view c.args.script.now c.args.nodes.now.items c.args.stores.now.items
    c.loop-before.nodes.items c.loop-before.stores.items c.loop-before.before added lt in
    let front = take_front c.loop-before.stores.items c.remove-store.result some c.remove-store.ensures.value
    ∙ ap (λ l. c.remove-store.result ∷ l) (sym c.remove-store.ensures.items) in
    (first_left g.S.Store.tells g.S.Store.view c.args.script.now c.loop-before.stores.items
    c.remove-store.new.self.items
    c.loop-before.before c.remove-store.result added.left front).ready

pub new-requires-clause-mendable : goal.new-requires-clause-mendable
new-requires-clause-mendable g c =
    let lt : c.loop-before.before < length c.args.stores.now.items = omega arith in
    let added = c.loop-before.invariant.added in
    let some = some_left g.S.Store.tells g.S.Store.view c.args.script.now c.args.nodes.now.items c.args.stores.now.items
    c.loop-before.nodes.items c.loop-before.stores.items c.loop-before.before added lt in
    let front = take_front c.loop-before.stores.items c.remove-store.result some c.remove-store.ensures.value
    ∙ ap (λ l. c.remove-store.result ∷ l) (sym c.remove-store.ensures.items) in
    (first_left g.S.Store.tells g.S.Store.view c.args.script.now c.loop-before.stores.items
    c.remove-store.new.self.items
    c.loop-before.before c.remove-store.result added.left front).mendable

pub new-requires-clause-wear : goal.new-requires-clause-wear
new-requires-clause-wear g c =
    let lt : c.loop-before.before < length c.args.stores.now.items = omega arith in
    let added = c.loop-before.invariant.added in
    let some = some_left g.S.Store.tells g.S.Store.view c.args.script.now c.args.nodes.now.items c.args.stores.now.items
    c.loop-before.nodes.items c.loop-before.stores.items c.loop-before.before added lt in
    let front = take_front c.loop-before.stores.items c.remove-store.result some c.remove-store.ensures.value
    ∙ ap (λ l. c.remove-store.result ∷ l) (sym c.remove-store.ensures.items) in
    (first_left g.S.Store.tells g.S.Store.view c.args.script.now c.loop-before.stores.items
    c.remove-store.new.self.items
    c.loop-before.before c.remove-store.result added.left front).wear

pub push_reserved-requires : goal.push_reserved-requires
push_reserved-requires g c =
    let added = c.loop-before.invariant.added in
    let hosts = length c.args.script.now.roster.hosts + 1 in
    let now = over_long c.loop-before.nodes.items hosts added.out added.over in
    let was = over_long c.args.nodes.now.items hosts [] c.requires.over in
    let many = added.many in
    let room = c.requires.room in
    let same = c.loop-before.invariant.nodes_room in
    omega (arith, now, was, many, room, same)

pub loop-before-preserved : goal.loop-before-preserved
loop-before-preserved g c =
    let lt : c.loop-before.before < length c.args.stores.now.items = omega arith in
    let servers = c.requires.sound.servers in
    let count = c.requires.count in
    let added = c.loop-before.invariant.added in
    let some = some_left g.S.Store.tells g.S.Store.view c.args.script.now c.args.nodes.now.items c.args.stores.now.items
    c.loop-before.nodes.items c.loop-before.stores.items c.loop-before.before added lt in
    let front = take_front c.loop-before.stores.items c.remove-store.result some c.remove-store.ensures.value
    ∙ ap (λ l. c.remove-store.result ∷ l) (sym c.remove-store.ensures.items) in
    let removed = c.remove-store.ensures.capacity in
    let room = c.loop-before.invariant.room in
    record {
      added = server_added g.S.Store.tells g.S.Store.view c.args.script.now c.args.nodes.now.items
          c.args.stores.now.items c.loop-before.nodes.items c.push_reserved.new.self.items c.loop-before.stores.items
          c.remove-store.new.self.items c.loop-before.before c.remove-store.result c.in-Ok.node added front
          c.push_reserved.ensures.items c.in-Ok.ensures.store (omega
          (arith, lt, servers, count)) c.in-Ok.ensures.stands;
      room = omega (arith, removed, room);
      nodes_room = c.push_reserved.ensures.capacity ∙ c.loop-before.invariant.nodes_room;
    }

pub returns-in-Err-clause-over : goal.returns-in-Err-clause-over
returns-in-Err-clause-over g c =
    let lt : c.loop-before.before < length c.args.stores.now.items = omega arith in
    let added = c.loop-before.invariant.added in
    let some = some_left g.S.Store.tells g.S.Store.view c.args.script.now c.args.nodes.now.items c.args.stores.now.items
    c.loop-before.nodes.items c.loop-before.stores.items c.loop-before.before added lt in
    let front = take_front c.loop-before.stores.items c.remove-store.result some c.remove-store.ensures.value
    ∙ ap (λ l. c.remove-store.result ∷ l) (sym c.remove-store.ensures.items) in (
      added.out,
      (
        added.over,
        ap (λ l. added.out ++ l)
            (c.put_first.ensures.items ∙ ap (λ x. x ∷ c.remove-store.new.self.items) c.in-Err.ensures.back ∙ sym front)
            ∙ added.whole,
      ),
    )

pub returns-clause-over : goal.returns-clause-over
returns-clause-over g c =
    let added = c.loop-before.invariant.added in (added.out, (added.over, added.whole))

pub returns-clause-all : goal.returns-clause-all
returns-clause-all g c =
    all_added g.S.Store.tells g.S.Store.view c.args.script.now c.args.nodes.now.items c.args.stores.now.items
    c.loop-before.nodes.items c.loop-before.stores.items c.loop-before.before c.loop-before.invariant.added
    (omega arith)

pub returns-clause-first : goal.returns-clause-first
returns-clause-first g c = c.loop-before.invariant.added.first
