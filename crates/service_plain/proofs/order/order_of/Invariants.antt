use Rattle.service_plain.specs.Seats.{to_go, IsStanding}
use Rattle.service_plain.proofs.order.order_of.Given as goal

abbrev pub invariant-loop-seat : goal.invariant-loop-seat
invariant-loop-seat l = IsStanding l.lines l.order

abbrev pub decreases-loop-seat : goal.decreases-loop-seat
decreases-loop-seat l = to_go l.lines l.order.next
