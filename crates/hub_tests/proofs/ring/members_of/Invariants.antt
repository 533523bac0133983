use Rattle.std.proofs.Common.{◌≡◌, map}
use Rattle.hub_tests.proofs.ring.members_of.Given as goal

abbrev pub invariant-loop-pass : goal.invariant-loop-pass
invariant-loop-pass l = map (λ m. m.pass) l.members.items ≡ l.yielded
