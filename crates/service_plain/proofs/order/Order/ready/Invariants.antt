use Rattle.std.proofs.Common.{◌≡◌, ◌<◌, ℕ, false}
use Rattle.service_plain.specs.Seats.{is_ready}
use Rattle.service_plain.proofs.order.Order.ready.Given as goal

abbrev pub invariant-loop-seat : goal.invariant-loop-seat
invariant-loop-seat l = (seat : ℕ) → seat < l.seat → is_ready l.lines l.self seat ≡ false
