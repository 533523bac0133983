-- What is noted of each block while its pointers are gone through.
use Rattle.std.specs.Prelude.{◌≡◌, ◌<◌, ℕ, ◌==◌, ◌&&◌, nat_le, not, min, Bool, List, length}
use Rattle.std.specs.List.{list_any}
use Rattle.std.proofs.Common.{get_or}
use Rattle.disk_pages.specs.Words.{each_below}
use Rattle.disk_image.specs.Counts.{is_use_of, times_counted, times_in}
use Rattle.disk_image.specs.declared.found.Use.{Use}
use Rattle.disk_judge.specs.declared.counts.Mark.{Mark}

-- what some pointers make of the mark of a block
pub record IsMark (uses : List Use) (block : ℕ) (mark : Mark) : Type 0 where
  pub counted : mark.counted ≡ min (times_counted uses block) 4294967295
  pub in_slots : (slot : ℕ) → slot < 16 → get_or mark.in_slots slot 0 ≡ min (times_in uses slot block) 255
  pub as_map : mark.as_map ≡ list_any (λ one. is_use_of block one && one.is_map) uses
  pub as_other : mark.as_other ≡ list_any (λ one. is_use_of block one && not one.is_map) uses

-- the marks of all blocks
pub record AreMarks (uses : List Use) (blocks : ℕ) (marks : List Mark) : Type 0 where
  pub size : length marks ≡ blocks
  pub each : (block : ℕ) (mark : Mark) → block < blocks → IsMark uses block (get_or marks block mark)

-- whether a count is right, by the mark of its block
abbrev pub is_marked_so : Mark → ℕ → Bool
is_marked_so mark count =
    (mark.counted == count) && each_below (λ slot. nat_le (get_or mark.in_slots slot 0) 1) 16 && not (mark.as_map
    && mark.as_other)
