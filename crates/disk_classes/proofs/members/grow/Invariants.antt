use Rattle.std.proofs.Common.{◌≡◌, ◌+◌, ◌-◌, ℕ, length, get_or, None}
use Rattle.disk_classes.proofs.members.grow.Given as goal

abbrev pub invariant-loop-values : goal.invariant-loop-values
invariant-loop-values l = (p : ℕ) → get_or l.values p None ≡ get_or l.initial.values p None

abbrev pub decreases-loop-values : goal.decreases-loop-values
decreases-loop-values l = l.page + 1 - length l.values
