use Rattle.service_plain.proofs.Seats.{started}
use Rattle.service_plain.proofs.order.Order.new.Goals as goal

pub returns : goal.returns
returns c = rw (c.new.ensures, c.new-2.ensures) (started c.args.lines.now c.in_ok-first_places.field-0 c.requires.seated c.in_ok-first_places.ensures)
