use Rattle.std.proofs.Common.{◌≡◌, ℕ}
use Rattle.std.specs.Prelude.{◌+◌, ◌*◌, ◌/◌, ◌==◌, ◌&&◌, ◌||◌, not, nat_le, nat_lt, true}
use Rattle.disk_pages.specs.Blocks.{map_pointer}
use Rattle.disk_pages.specs.Words.{each_below}
use Rattle.disk_pages.proofs.blocks.are_map_pointers.Given as goal

abbrev pub invariant-loop-j : goal.invariant-loop-j
invariant-loop-j l = each_below (λ (j : ℕ). nat_le (map_pointer j l.block) l.fn.blocks && (not l.fn.is_directory || nat_le l.fn.bytes (1024 * (12 + j)) || not (map_pointer j l.block == 0))) l.j ≡ true
