use Rattle.std.proofs.Common.{◌≡◌, length}
use Rattle.service_tests.proofs.stage.made.Given as goal

abbrev pub invariant-loop-name : goal.invariant-loop-name
invariant-loop-name l = length l.made.items ≡ l.name-index
