use Rattle.std.proofs.Common.{◌≡◌, ◌<◌, ℕ, get_or, drop}
use Rattle.disk_log.specs.Puts.{or_of}
use Rattle.disk_log.proofs.over.or_all.Given as goal

abbrev pub invariant-loop-entry : goal.invariant-loop-entry
invariant-loop-entry l = (k : ℕ) → k < 512 → or_of (drop l.entry-index l.entries) l.page k (get_or l.out k 0) ≡ or_of l.entries l.page k (get_or l.initial.out k 0)
