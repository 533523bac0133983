use Rattle.std.proofs.Common.{◌≡◌, map}
use Rattle.hub_tests.proofs.ring.passes_of.Given as goal

abbrev pub invariant-loop-member : goal.invariant-loop-member
invariant-loop-member l = l.passes.items ≡ map (λ m. m.pass) l.yielded
