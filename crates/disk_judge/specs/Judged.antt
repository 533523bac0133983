-- Whether all is well with pages, one test for each.
use Rattle.std.specs.Prelude.{◌≡◌, ◌<◌, ℕ, ◌+◌, ◌*◌, ◌/◌, false, Bool, List, length}
use Rattle.std.proofs.Common.{get_or}
use Rattle.disk_image.specs.Aggregate.{Aggregate}
use Rattle.disk_image.specs.Anodes.{is_slot_anode}
use Rattle.disk_image.specs.Counts.{is_count_page}
use Rattle.disk_judge.specs.Metadata.{IsSized, plain}
use Rattle.disk_judge.specs.declared.metadata.Metadata.{Metadata}

-- those of all anodes, slot by slot
abbrev pub AreAnodesJudged : Aggregate → List Bool → Type 0
AreAnodesJudged disk rights = (slot i : ℕ) → slot < 16 → i < 64
    → get_or rights (64 * slot + i) false ≡ is_slot_anode disk slot i

-- those of all pages of counts
abbrev pub AreCountsJudged : Aggregate → List Bool → Type 0
AreCountsJudged disk rights = (p : ℕ) → p < (disk.blocks + 255) / 256 → get_or rights p false ≡ is_count_page disk p

-- metadata with all its pages, and those of its anodes judged
pub record IsJudged (metadata : Metadata) (rights : List Bool) : Type 0 where
  pub sized : IsSized metadata
  pub size : length rights ≡ 1024
  pub each : AreAnodesJudged (plain metadata) rights
