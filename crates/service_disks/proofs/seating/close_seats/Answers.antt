use Rattle.std.proofs.Common.{sym, ◌∙◌, arith}
use Rattle.service_disks.proofs.Seated.{all_closing, none_closed}
use Rattle.service_disks.proofs.seating.close_seats.Goals as goal

pub loop-seat-init : goal.loop-seat-init
loop-seat-init g c = record { closing = all_closing c.args.seats.items c.args.disks.now.items; room = c.requires.room; kept = omega arith }

pub loop-seat-preserved : goal.loop-seat-preserved
loop-seat-preserved g c =
    (let fewer = c.in-Some.ensures.len in
    let room = c.loop-seat.invariant.room in
    record {
      closing =
          none_closed c.args.seats.items c.loop-seat.seats.items c.pop.new.self.items c.args.disks.now.items c.loop-seat.disks.items c.in-Some.seat c.loop-seat.invariant.closing c.in-Some.ensures.items
          (sym c.into_disk.ensures ∙ c.in_default-into_disk.is);
      room = omega (arith, fewer, room);
      kept = c.loop-seat.invariant.kept;
    })
