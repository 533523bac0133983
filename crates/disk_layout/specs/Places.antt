-- Where the parts of an aggregate stand, in bytes. The superblock stands at 0.
use Rattle.std.specs.Prelude.{◌≡◌, ◌≤◌, ◌<◌, ℕ, ◌+◌, ◌*◌, ◌/◌, List}
use Rattle.base_types.specs.Image.{byte_at, bytes_from}

-- the header of half 0 or half 1
abbrev pub half_start : ℕ → ℕ
half_start h = 512 + 3146240 * h

-- entry i of the half that starts there: behind the header's page, three pages each
abbrev pub entry_start : ℕ → ℕ → ℕ
entry_start start i = start + 512 + 1536 * i

-- a metadata page, counted from the server page
abbrev pub page_start : ℕ → ℕ
page_start p = 6292992 + 512 * p

-- how many metadata pages stand before so many blocks: the server's two, 66 for each of 16 slots, and those of the
-- counts
abbrev pub pages_of : ℕ → ℕ
pages_of blocks = 1058 + (blocks + 255) / 256

-- where the metadata pages end, and the blocks begin
abbrev pub pages_end : ℕ → ℕ
pages_end pages = 6292992 + 512 * pages

-- a block behind so many metadata pages
abbrev pub block_start : ℕ → ℕ → ℕ
block_start pages block = pages_end pages + 1024 * block

-- a page where it stands
abbrev pub in_place : List ℕ → ℕ → List ℕ
in_place image p = bytes_from image (page_start p) 512

-- images with the same superblock
abbrev pub SameFront : List ℕ → List ℕ → Type 0
SameFront old new = (at : ℕ) → at < 512 → byte_at new at ≡ byte_at old at

-- images that differ at most in blocks
abbrev pub SameButBlocks : ℕ → List ℕ → List ℕ → Type 0
SameButBlocks pages old new = (at : ℕ) → at < pages_end pages → byte_at new at ≡ byte_at old at

-- images with the same blocks
abbrev pub SameBlocks : ℕ → List ℕ → List ℕ → Type 0
SameBlocks pages old new = (at : ℕ) → pages_end pages ≤ at → byte_at new at ≡ byte_at old at
