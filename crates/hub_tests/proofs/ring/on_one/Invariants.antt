use Rattle.std.proofs.Common.{◌≡◌, length}
use Rattle.std.specs.List.{All}
use Rattle.hub_tests.proofs.ring.on_one.Given as goal

abbrev pub invariant-loop : goal.invariant-loop
invariant-loop g l =
    All (λ m. m.pass.hub ≡ l.hub.id) l.members.items × (length l.members.items ≡ length l.fn.members.items)
