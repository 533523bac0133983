use Rattle.std.proofs.Common.{◌≡◌, ℕ, get_or}
use Rattle.std.specs.Prelude.{nat_le, true}
use Rattle.disk_pages.specs.Words.{each_below}
use Rattle.disk_judge.proofs.counts.is_single.Given as goal

abbrev pub invariant-loop-slot : goal.invariant-loop-slot
invariant-loop-slot l = each_below (λ (slot : ℕ). nat_le (get_or l.mark.in_slots slot 0) 1) l.slot ≡ true
