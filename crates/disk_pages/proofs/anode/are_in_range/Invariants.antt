use Rattle.std.proofs.Common.{◌≡◌, ℕ}
use Rattle.std.specs.Prelude.{◌+◌, ◌*◌, ◌/◌, ◌==◌, ◌&&◌, ◌||◌, not, nat_le, nat_lt, true}
use Rattle.disk_pages.specs.Anode.{page_pointer}
use Rattle.disk_pages.specs.Words.{each_below}
use Rattle.disk_pages.proofs.anode.are_in_range.Given as goal

abbrev pub invariant-loop-w : goal.invariant-loop-w
invariant-loop-w l = each_below (λ (w : ℕ). nat_le (page_pointer w l.page) l.fn.blocks) l.w ≡ true
