use Rattle.std.proofs.Common.{◌<◌, ℕ}
use Rattle.disk_space.specs.Counts.{AreBothZero}
use Rattle.disk_space.proofs.counts.first_zero.Given as goal

abbrev pub invariant-loop-i : goal.invariant-loop-i
invariant-loop-i l = (i : ℕ) → i < l.i → AreBothZero l.now l.settled i → ⊥
