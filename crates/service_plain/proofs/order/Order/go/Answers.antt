use Rattle.std.proofs.Common.{◌<◌, length, refl, arith}
use Rattle.std.proofs.lemmas.Option.{slice_get_read}
use Rattle.service_plain.proofs.Seats.{gone_to, less_by}
use Rattle.service_plain.proofs.order.Order.go.Goals as goal

pub returns-in_ok-raise-clause-standing : goal.returns-in_ok-raise-clause-standing
returns-in_ok-raise-clause-standing c =
    let w : c.args.place < length c.args.lines.now = omega arith in
    gone_to c.args.lines.now c.args.self.now c.args.seat c.args.place c.next_place.result c.get-line.result.now _ _ _ c.requires.standing c.requires.place
    (slice_get_read c.args.lines.now _ c.args.place c.get-line.result.now refl w c.get-line.ensures) c.requires.ready
    c.next_place.ensures.same c.next_place.ensures.head c.next_place.ensures.after c.in_ok-push.ensures.ok c.put.ensures c.in_ok-raise.ensures

pub returns-in_ok-raise-clause-fewer : goal.returns-in_ok-raise-clause-fewer
returns-in_ok-raise-clause-fewer c =
    let w : c.args.place < length c.args.lines.now = omega arith in
    less_by c.args.lines.now c.args.self.now.next c.put.new.self c.args.seat c.args.place c.next_place.result c.get-line.result.now c.requires.place
    (slice_get_read c.args.lines.now _ c.args.place c.get-line.result.now refl w c.get-line.ensures) c.next_place.ensures.after c.put.ensures
