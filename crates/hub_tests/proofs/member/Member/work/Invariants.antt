use Rattle.std.proofs.Common.{◌≡◌}
use Rattle.hub_tests.proofs.member.Member.work.Given as goal

abbrev pub invariant-loop : goal.invariant-loop
invariant-loop g l = l.self.pass.hub ≡ l.fn.self.pass.hub
