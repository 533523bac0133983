use Rattle.std.proofs.Common.{◌≡◌, ℕ}
use Rattle.std.specs.Prelude.{◌+◌, ◌*◌, ◌/◌, ◌==◌, ◌&&◌, ◌||◌, not, nat_le, nat_lt, true}
use Rattle.base_types.specs.Image.{byte_at}
use Rattle.disk_pages.specs.Anode.{page_pointer, bytes_in}
use Rattle.disk_pages.specs.Words.{each_below}
use Rattle.disk_pages.proofs.anode.has_no_hole.Given as goal

abbrev pub invariant-loop-i : goal.invariant-loop-i
invariant-loop-i l = each_below (λ (i : ℕ). not (byte_at l.page 0 == 1) || nat_le (bytes_in l.page) (1024 * i) || not (page_pointer (3 + i) l.page == 0)) l.i ≡ true
