use Rattle.std.proofs.Common.{◌≡◌, ◌++◌, ◌+◌, [], None, length, map}
use Rattle.std.specs.Prelude.{vec_capacity}
use Rattle.hub_drive.specs.Seats.{EachAt}
use Rattle.hub_drive.specs.declared.seat.Seat.{Seat}
use Rattle.hub_drive.proofs.driver.seat_all.Given as goal

abbrev pub invariant-loop-node : goal.invariant-loop-node
invariant-loop-node g l =
    (goal.iterator-loop-node g).can_next l.node-iterator × (goal.iterator-loop-node g).is_finite l.node-iterator
    × (map (λ (s : Seat g.row.N.Denot). s.node) l.seats.items ≡ l.yielded)
    × (map (λ (s : Seat g.row.N.Denot). s.pass) l.seats.items ++ l.passes.items ≡ l.initial.passes.items)
    × EachAt (λ (s : Seat g.row.N.Denot). (s.steps.steps ≡ []) × (s.fault ≡ None)) l.seats.items
    × (vec_capacity l.seats ≡ vec_capacity l.initial.seats)
    × (length l.seats.items ≡ length l.yielded)
    × (length l.passes.items + length l.yielded ≡ length l.initial.passes.items)
