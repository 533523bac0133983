use Rattle.std.proofs.Common.{List, length, refl, ap, subst, arith}
use Rattle.service_watch.proofs.Listed.{gone_front, gone_last, one_watched}
use Rattle.service_watch.specs.Gone.{HaveGone}
use Rattle.service_watch.proofs.watching.watch.Goals as goal

pub invariant_of-put_first : goal.invariant_of-put_first
invariant_of-put_first g c =
    (let from = g.O.Origin.from in
    let view = g.S.Store.view in
    record {
      went = λ told. gone_last from view c.pop.new.self.items c.in-Some.store
          (subst (λ (l : List g.row.S.Denot). HaveGone from view l) c.in-Some.ensures.items
          (c.loop-store.invariant.gone told));
    })

pub loop-store-preserved : goal.loop-store-preserved
loop-store-preserved g c =
    (let from = g.O.Origin.from in
    let view = g.S.Store.view in
    let front = c.pop.new.self.items in
    let store = c.in-Some.store in
    let last = c.in-Some.ensures.items in
    let put = c.put_first.ensures.items in
    let fewer = c.in-Some.ensures.len in
    let held = c.in-Some.ensures.capacity in
    let kept = c.loop-store.invariant.kept in
    let room = c.loop-store.invariant.room in
    let more = c.put_first.ensures.room in
    record {
      watching =
          one_watched c.args.stores.now.items front c.loop-store.stores.items c.loop-store.watched.items
          c.put_first.new.items.items store _ c.loop-store.invariant.watching last put refl;
      gone = λ told. gone_front from view front store
          (subst (λ (l : List g.row.S.Denot). HaveGone from view l) last (c.loop-store.invariant.gone told));
      room = (let e = ap length put in omega (arith, e, fewer, room, more));
      kept = omega (arith, kept, held);
    })
