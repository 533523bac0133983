use Rattle.std.proofs.Common.{◌≡◌, ℕ}
use Rattle.std.specs.Prelude.{◌+◌, ◌*◌, ◌/◌, ◌==◌, ◌&&◌, ◌||◌, not, nat_le, nat_lt, true}
use Rattle.disk_pages.specs.Blocks.{is_entry}
use Rattle.disk_pages.specs.Words.{each_below}
use Rattle.disk_pages.proofs.blocks.are_entries.Given as goal

abbrev pub invariant-loop-e : goal.invariant-loop-e
invariant-loop-e l = each_below (λ (e : ℕ). not (72 * e / 1024 == l.fn.i) || is_entry l.bytes e) l.e ≡ true
