-- What a format leaves.
use Rattle.std.specs.Prelude.{◌≡◌, ◌≢◌, ◌⊎◌, ◌≤◌, ◌<◌, ℕ, List, [], true}
use Rattle.base_types.specs.Image.{byte_at, Torn}
use Rattle.disk_layout.specs.declared.half.Half.{Half}
use Rattle.disk_layout.specs.declared.superblock.Superblock.{Superblock}
use Rattle.disk_layout.specs.Places.{half_start, in_place, pages_of}
use Rattle.disk_layout.specs.Server.{IsNewServer}
use Rattle.disk_layout.specs.Superblock.{IsSuperblock, IsMarked}
use Rattle.disk_layout.specs.Half.{header_from, half_of, IsLog, HasNoLog}
use Rattle.disk_log.specs.Recovered.{blank_page}
use Rattle.disk_log.specs.Switch.{ClosesGates}

-- images that are the same in the first page, and from a place on
abbrev pub SameAround : ℕ → List ℕ → List ℕ → Type 0
SameAround end old new = (at : ℕ) → (at < 512) ⊎ (end ≤ at) → byte_at new at ≡ byte_at old at

-- half 0 is open with generation 1, and half 1 is closed
pub record HasHeaders (image : List ℕ) : Type 0 where
  pub zeroth : header_from image 512 ≡ record { is_open = true; generation = 1 }
  pub first : byte_at image 3146752 ≢ 1

-- images that differ at most in the headers of the halves
abbrev pub SameButHeaders : List ℕ → List ℕ → Type 0
SameButHeaders old new =
    (at : ℕ) → (at < 512) ⊎ ((528 ≤ at) × (at < 3146752)) ⊎ (3146768 ≤ at) → byte_at new at ≡ byte_at old at

-- images that are the same before the metadata pages
abbrev pub SameLog : List ℕ → List ℕ → Type 0
SameLog old new = (at : ℕ) → at < 6292992 → byte_at new at ≡ byte_at old at

-- a superblock stands in the first page, but for its gate
abbrev pub HasFront : Superblock → List ℕ → Type 0
HasFront superblock image = (c : List ℕ)
    → byte_at c 0 ≡ 1 → ((at : ℕ) → 1 ≤ at → at < 512 → byte_at c at ≡ byte_at image at) → IsSuperblock superblock c

-- images that differ at most in the first page, and not in its gate
abbrev pub SameButFront : List ℕ → List ℕ → Type 0
SameButFront old new = (at : ℕ) → (at ≡ 0) ⊎ (512 ≤ at) → byte_at new at ≡ byte_at old at

-- of so many pages the first is that of a server without filesets, and the others are zero
pub record HasNewPages (pages : ℕ) (image : List ℕ) : Type 0 where
  pub server : IsNewServer (in_place image 0)
  pub zeros : (p : ℕ) → 1 ≤ p → p < pages → in_place image p ≡ blank_page

-- half 0 is used and has no entries, and the pages are new
pub record IsPrepared (pages : ℕ) (image : List ℕ) : Type 0 where
  pub headers : HasHeaders image
  pub closed : ClosesGates (half_start 0) 0 2048 image
  pub new_pages : HasNewPages pages image

abbrev pub superblock_of : ℕ → ℕ → Superblock
superblock_of server blocks = record { server = server; blocks = blocks }

-- the half that a format uses
abbrev pub first_half : Superblock → Half
first_half superblock = half_of (pages_of superblock.blocks) 0 1

-- The bytes of a disk are a log right after a format: it has no entries, its first page is that of a server without
-- filesets, and its other pages are zero.
pub record IsFormatted (superblock : Superblock) (image : List ℕ) : Type 0 where
  pub front : IsSuperblock superblock image
  pub log : IsLog (first_half superblock) [] image
  pub new_pages : HasNewPages (pages_of superblock.blocks) image

-- all of that but for the gate of the superblock
abbrev pub IsStaged : Superblock → List ℕ → Type 0
IsStaged superblock image = (c : List ℕ) → Torn 0 1 image c → byte_at c 0 ≡ 1 → IsFormatted superblock c

-- a crash in a format left no log, refused at place 0, or the formatted one
abbrev pub IsLeftOfFormat : Superblock → List ℕ → Type 0
IsLeftOfFormat superblock c = HasNoLog 0 c ⊎ IsFormatted superblock c

-- It left the disk as it was but for the first page, in which the mark may be torn; or one that has the mark, and
-- can be formatted again; or the formatted one.
abbrev pub IsMarkedFirst : Superblock → List ℕ → List ℕ → Type 0
IsMarkedFirst superblock image c = SameButFront image c ⊎ IsMarked c ⊎ IsFormatted superblock c
