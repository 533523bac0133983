-- What the steps that take a log to its other half leave.
use Rattle.std.specs.Prelude.{◌≡◌, ◌≢◌, ◌⊎◌, ◌≤◌, ◌<◌, ℕ, ◌+◌, ◌-◌, List}
use Rattle.base_types.specs.Image.{byte_at, Torn}
use Rattle.disk_layout.specs.declared.superblock.Superblock.{Superblock}
use Rattle.disk_layout.specs.Places.{in_place, pages_of}
use Rattle.disk_layout.specs.Superblock.{IsSuperblock}
use Rattle.disk_layout.specs.Pages.{pages_in}
use Rattle.disk_layout.specs.declared.half.Half.{Half}
use Rattle.disk_layout.specs.Entry.{gate_at, entries}
use Rattle.disk_layout.specs.declared.entry.Entry.{Entry}
use Rattle.disk_layout.specs.Half.{IsAhead}

-- the other half's gate is any, and the used half is still ahead
abbrev pub GateTorn : Half → ℕ → List ℕ → List ℕ → Type 0
GateTorn half other old new = Torn other 1 old new × IsAhead half other new

-- the other half's generation is any
abbrev pub GenerationTorn : Half → ℕ → List ℕ → List ℕ → Type 0
GenerationTorn half other old new = Torn (other + 8) 8 old new × IsAhead half other new

-- so many gates from a place on are closed
abbrev pub ClosesGates : ℕ → ℕ → ℕ → List ℕ → Type 0
ClosesGates start first n image = (i : ℕ) → first ≤ i → i < first + n → gate_at start image i ≢ 1

-- images that differ at most in the half that starts there
abbrev pub SameOutside : ℕ → List ℕ → List ℕ → Type 0
SameOutside start old new = (at : ℕ) → (at < start) ⊎ (start + 3146240 ≤ at) → byte_at new at ≡ byte_at old at

-- The pages of a log stand in their places, so that its entries aren't needed.
pub record IsReady (superblock : Superblock) (half : Half) (other : ℕ) (image : List ℕ) : Type 0 where
  pub many : half.pages ≡ pages_of superblock.blocks
  pub front : IsSuperblock superblock image
  pub ahead : IsAhead half other image
  pub placed : (p : ℕ) → p < half.pages → pages_in half image p ≡ in_place image p

-- the half that is used after another
abbrev pub half_after : Half → ℕ → Half
half_after half other = record { start = other; generation = half.generation + 1; pages = half.pages }

-- where the half starts that isn't the one that starts there
abbrev pub other_of : ℕ → ℕ
other_of start = 3147264 - start

-- the half that a log goes on in
abbrev pub next_half : Half → Half
next_half half = half_after half (other_of half.start)

-- A half is the used one of a log, whatever stands in the other, and these are its entries.
pub record IsUsed (superblock : Superblock)
    (half : Half) (other : ℕ) (held : List Entry) (image : List ℕ) : Type 0 where
  pub many : half.pages ≡ pages_of superblock.blocks
  pub front : IsSuperblock superblock image
  pub ahead : IsAhead half other image
  pub held_there : entries half image ≡ held
