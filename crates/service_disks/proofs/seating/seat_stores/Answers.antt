use Rattle.std.proofs.Common.{List, length, ap, subst, arith}
use Rattle.service_disks.proofs.Seated.{one_seated, seated_front, seated_last}
use Rattle.service_disks.specs.Seats.{AreSeated}
use Rattle.service_disks.specs.declared.stores.ServerStore.{ServerStore}
use Rattle.service_disks.proofs.seating.seat_stores.Goals as goal

pub seat-requires : goal.seat-requires
seat-requires g c =
    (let tells = g.D.Disk.tells in
    let view = g.D.Disk.view in
    let count = g.C.Count.disks in
    let rest = subst (λ (l : List (ServerStore g.row.D.Denot)). AreSeated tells view count l) c.in-Some.ensures.items c.loop-store.invariant.rest in
    record { seated = seated_last tells view count c.pop.new.self.items c.in-Some.store rest })

pub loop-store-preserved : goal.loop-store-preserved
loop-store-preserved g c =
    (let tells = g.D.Disk.tells in
    let view = g.D.Disk.view in
    let count = g.C.Count.disks in
    let put = c.put_first.ensures.items in
    let fewer = c.in-Some.ensures.len in
    let room = c.loop-store.invariant.room in
    let more = c.put_first.ensures.room in
    record {
      seating = one_seated c.args.stores.items c.loop-store.stores.items c.pop.new.self.items c.loop-store.seats.items c.put_first.new.items.items c.in-Some.store c.seat.result c.loop-store.invariant.seating c.in-Some.ensures.items c.seat.ensures put;
      rest =
          seated_front tells view count c.pop.new.self.items c.in-Some.store
          (subst (λ (l : List (ServerStore g.row.D.Denot)). AreSeated tells view count l) c.in-Some.ensures.items c.loop-store.invariant.rest);
      room = (let e = ap length put in omega (arith, e, fewer, room, more));
    })
