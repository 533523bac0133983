use Rattle.std.proofs.Common.{◌≡◌, length, map}
use Rattle.std.specs.Prelude.{vec_capacity}
use Rattle.hub_drive.specs.declared.seat.Seat.{Seat}
use Rattle.hub_drive.proofs.driver.unseat.Given as goal

abbrev pub invariant-loop-seat : goal.invariant-loop-seat
invariant-loop-seat g l =
    (goal.iterator-loop-seat g).can_next l.seat-iterator × (goal.iterator-loop-seat g).is_finite l.seat-iterator
    × (l.nodes.items ≡ map (λ (s : Seat g.row.N.Denot). s.node) l.yielded)
    × (l.passes.items ≡ map (λ (s : Seat g.row.N.Denot). s.pass) l.yielded)
    × (l.left.items ≡ map (λ (s : Seat g.row.N.Denot). s.steps.steps) l.yielded)
    × (vec_capacity l.nodes ≡ vec_capacity l.initial.nodes) × (vec_capacity l.passes ≡ vec_capacity l.initial.passes)
    × (vec_capacity l.left ≡ vec_capacity l.initial.left)
    × (length l.nodes.items ≡ length l.yielded) × (length l.passes.items ≡ length l.yielded)
    × (length l.left.items ≡ length l.yielded)
