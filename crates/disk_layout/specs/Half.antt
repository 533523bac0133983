-- Which half of the log is used, and where there is no log.
use Rattle.std.specs.Prelude.{◌≡◌, ◌≢◌, ◌<◌, ◌⊎◌, ℕ, ◌+◌, List, Option, Some, None, ◌==◌, if◌then◌else◌, nat_lt}
use Rattle.base_types.specs.Image.{byte_at}
use Rattle.disk_layout.specs.Numbers.{number_at}
use Rattle.disk_layout.specs.Places.{half_start, pages_of}
use Rattle.disk_layout.specs.Superblock.{IsSuperblock}
use Rattle.disk_layout.specs.Entry.{HasEntries}
use Rattle.disk_layout.specs.declared.entry.Entry.{Entry}
use Rattle.disk_layout.specs.declared.half.Half.{Half}
use Rattle.disk_layout.specs.declared.half.Header.{Header}
use Rattle.disk_layout.specs.declared.superblock.Superblock.{Superblock}

-- the header of the half that starts there
abbrev pub header_from : List ℕ → ℕ → Header
header_from image start = record { is_open = byte_at image start == 1; generation = number_at 8 (start + 8) image }

-- the header of half 0 or half 1
abbrev pub header_at : List ℕ → ℕ → Header
header_at image h = header_from image (half_start h)

-- half 0 or half 1 of a generation
abbrev pub half_of : ℕ → ℕ → ℕ → Half
half_of pages h generation = record { start = half_start h; generation = generation; pages = pages }

-- the half with an open gate and the highest generation, by the two headers; none where neither is open, or both are
-- with one generation
abbrev pub used_of : ℕ → Header → Header → Option Half
used_of pages zeroth first =
    if zeroth.is_open then
    (if first.is_open then
    (if nat_lt first.generation zeroth.generation then Some (half_of pages 0 zeroth.generation)
    else if nat_lt zeroth.generation first.generation then Some (half_of pages 1 first.generation)
    else None)
    else Some (half_of pages 0 zeroth.generation))
    else if first.is_open then Some (half_of pages 1 first.generation)
    else None

-- one of the two halves, before so many metadata pages
abbrev pub IsPlaced : ℕ → Half → Type 0
IsPlaced pages half = (half.pages ≡ pages) × ((half.start ≡ half_start 0) ⊎ (half.start ≡ half_start 1))

-- the used half of a disk's bytes
unfoldable pub used_half : ℕ → List ℕ → Option Half
used_half pages image = used_of pages (header_at image 0) (header_at image 1)

-- the bytes of a disk are a log with this superblock, which uses this half
pub record HasLog (superblock : Superblock) (half : Half) (image : List ℕ) : Type 0 where
  pub front : IsSuperblock superblock image
  pub used : used_half (pages_of superblock.blocks) image ≡ Some half

-- the bytes of a disk are no log, and the place tells why: it has no superblock, or no half is used
abbrev pub HasNoLog : ℕ → List ℕ → Type 0
HasNoLog place image =
    ((place ≡ 0) × ((superblock : Superblock) → IsSuperblock superblock image → ⊥))
    ⊎ ((place ≡ 512) × ((superblock : Superblock)
    × IsSuperblock superblock image × (used_half (pages_of superblock.blocks) image ≡ None)))

-- a half is the used one, and these are its entries
pub record IsLog (half : Half) (held : List Entry) (image : List ℕ) : Type 0 where
  pub place : (half.start ≡ half_start 0) ⊎ (half.start ≡ half_start 1)
  pub used : used_half half.pages image ≡ Some half
  pub entries : HasEntries half held image

-- the two halves
abbrev pub AreSides : ℕ → ℕ → Type 0
AreSides start other =
    ((start ≡ half_start 0) × (other ≡ half_start 1)) ⊎ ((start ≡ half_start 1) × (other ≡ half_start 0))

-- The header of a half says that it is the used one: its gate is open, and the other half is closed or has a lower
-- generation.
pub record IsAhead (half : Half) (other : ℕ) (image : List ℕ) : Type 0 where
  pub gate : byte_at image half.start ≡ 1
  pub generation : number_at 8 (half.start + 8) image ≡ half.generation
  pub ahead : (byte_at image other ≢ 1) ⊎ (number_at 8 (other + 8) image < half.generation)
