-- The metadata that a check reads, as the aggregate of a disk's bytes.
use Rattle.std.specs.Prelude.{◌≡◌, ◌≤◌, ℕ, ◌+◌, List, [], length}
use Rattle.std.proofs.Common.{get_or}
use Rattle.disk_layout.specs.Places.{pages_of}
use Rattle.disk_image.specs.Aggregate.{Aggregate, header_number, anode_number}
use Rattle.disk_judge.specs.declared.metadata.Metadata.{Metadata}

-- it has all its pages
pub record IsSized (metadata : Metadata) : Type 0 where
  pub few : metadata.blocks ≤ 66560
  pub size : length metadata.pages.items ≡ pages_of metadata.blocks

abbrev pub page_in : Metadata → ℕ → List ℕ
page_in metadata p = get_or metadata.pages.items p []

abbrev pub header_in : Metadata → ℕ → List ℕ
header_in metadata slot = page_in metadata (header_number slot)

abbrev pub numbers_in : Metadata → ℕ → List ℕ
numbers_in metadata slot = page_in metadata (header_number slot + 1)

abbrev pub anode_in : Metadata → ℕ → ℕ → List ℕ
anode_in metadata slot i = page_in metadata (anode_number slot i)

-- over the bytes of its disk
abbrev pub over : Metadata → List ℕ → Aggregate
over metadata image =
    record { server = metadata.server; blocks = metadata.blocks; pages = metadata.pages.items; image = image }

-- the same without its blocks: what is judged by pages alone
abbrev pub plain : Metadata → Aggregate
plain metadata = over metadata []
