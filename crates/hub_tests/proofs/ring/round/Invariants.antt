use Rattle.std.proofs.Common.{◌≡◌, ◌+◌, length}
use Rattle.std.specs.List.{All}
use Rattle.hub_tests.proofs.ring.round.Given as goal

abbrev pub invariant-loop-member : goal.invariant-loop-member
invariant-loop-member g l =
    All (λ m. m.pass.hub ≡ l.hub.id) l.left.items × All (λ m. m.pass.hub ≡ l.hub.id) l.done.items
    × (length l.left.items + length l.done.items ≡ length l.fn.members.items)

abbrev pub decreases-loop-member : goal.decreases-loop-member
decreases-loop-member g l = length l.left.items
