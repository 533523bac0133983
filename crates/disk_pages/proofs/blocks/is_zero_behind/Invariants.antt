use Rattle.std.proofs.Common.{◌≡◌, ℕ}
use Rattle.std.specs.Prelude.{◌+◌, ◌*◌, ◌/◌, ◌==◌, ◌&&◌, ◌||◌, not, nat_le, nat_lt, true}
use Rattle.base_types.specs.Image.{byte_at}
use Rattle.disk_pages.specs.Words.{each_below}
use Rattle.disk_pages.proofs.blocks.is_zero_behind.Given as goal

abbrev pub invariant-loop-k : goal.invariant-loop-k
invariant-loop-k l = each_below (λ (k : ℕ). nat_lt (1024 * l.fn.i + k) (72 * l.fn.count) || (byte_at l.bytes (1024 * l.fn.i + k) == 0)) l.k ≡ true
