-- The superblock of a log, and blank disks.
use Rattle.std.specs.Prelude.{◌≡◌, ◌≢◌, ◌≤◌, ◌<◌, ◌⊎◌, ℕ, List, [], ◌∷◌}
use Rattle.base_types.specs.Image.{byte_at, bytes_from}
use Rattle.disk_layout.specs.Numbers.{number_at}
use Rattle.disk_layout.specs.declared.superblock.Superblock.{Superblock}

-- the name of the layout: DFSAGG01
abbrev pub layout_name : List ℕ
layout_name = 68 ∷ 70 ∷ 83 ∷ 65 ∷ 71 ∷ 71 ∷ 48 ∷ 49 ∷ []

-- the bytes of a page that no word of the superblock stands in
abbrev pub IsUnnamed : ℕ → Type 0
IsUnnamed k = ((9 ≤ k) × (k < 12)) ⊎ ((21 ≤ k) × (k < 512))

-- the gate of the superblock is open, and behind it stand the layout's name and format 1
pub record IsNamed (image : List ℕ) : Type 0 where
  pub gate : byte_at image 0 ≡ 1
  pub name : bytes_from image 1 8 ≡ layout_name
  pub format : number_at 4 12 image ≡ 1

-- an image begins with this superblock
pub record IsSuperblock (superblock : Superblock) (image : List ℕ) : Type 0 where
  pub named : IsNamed image
  pub blocks : number_at 4 16 image ≡ superblock.blocks
  pub some_blocks : 1 ≤ superblock.blocks
  pub few_blocks : superblock.blocks ≤ 66560
  pub server : byte_at image 20 ≡ superblock.server
  pub unnamed : (k : ℕ) → IsUnnamed k → byte_at image k ≡ 0

-- where the blocks of the greatest log begin, behind its 1,318 metadata pages: what a format writes lies before it
abbrev pub format_end : ℕ
format_end = 6967808

-- all of that is zero, as where there are no bytes
abbrev pub IsUntouched : List ℕ → Type 0
IsUntouched image = (k : ℕ) → k < format_end → byte_at image k ≡ 0

-- what a format writes before all else: the layout's name, behind a gate that is closed
abbrev pub IsMarked : List ℕ → Type 0
IsMarked image = (byte_at image 0 ≢ 1) × (bytes_from image 1 8 ≡ layout_name)

-- a disk that nobody wrote to, or whose format was stopped
abbrev pub IsBlank : List ℕ → Type 0
IsBlank image = IsUntouched image ⊎ IsMarked image
