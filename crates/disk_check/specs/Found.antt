-- What a check finds.
use Rattle.std.specs.Prelude.{◌≡◌, ◌≤◌, ◌<◌, ◌⊎◌, ℕ, ◌+◌, ◌-◌, Bool, true, false, List, ◌++◌, length, slice_get}
use Rattle.std.proofs.Common.{get_or}
use Rattle.disk_image.specs.Joined.{joined}
use Rattle.disk_layout.specs.Places.{page_start}
use Rattle.disk_pages.specs.Numbers.{is_numbers_page}
use Rattle.disk_pages.specs.Server.{is_server_page}
use Rattle.disk_image.specs.Aggregate.{Aggregate, page_of, server_page}
use Rattle.disk_image.specs.Anodes.{unless, anode_faults, links_at}
use Rattle.disk_image.specs.Reach.{reach_faults}
use Rattle.disk_image.specs.Counts.{uses_at, is_mapped}
use Rattle.disk_image.specs.Faults.{slot_faults}
use Rattle.disk_image.specs.declared.fault.Fault.{Fault}
use Rattle.disk_image.specs.declared.fault.Rule.TheVariants as rules
use Rattle.disk_check.specs.declared.found.Found.{Found}

-- the blocks that anodes before anode i of a slot have as indirect ones
abbrev pub AreMapped : Aggregate → ℕ → ℕ → List Bool → Type 0
AreMapped disk slot i mapped = (pointer : ℕ) → 1 ≤ pointer → pointer ≤ disk.blocks
    → get_or mapped (pointer - 1) false ≡ is_mapped disk slot i pointer

-- Of a slot its first n anodes were looked at since a check had found what is old.
pub record LooksAt (disk : Aggregate) (slot n : ℕ) (old new : Found) : Type 0 where
  pub faults : new.faults.items ≡ old.faults.items ++ joined (anode_faults disk slot) n
  pub links : new.links.items ≡ old.links.items ++ joined (links_at disk slot) n
  pub uses : AreMapped disk slot 0 old.mapped.items → new.uses.items ≡ old.uses.items ++ joined (uses_at disk slot) n
  pub reach : new.reach.items ≡ old.reach.items
  pub mapped : AreMapped disk slot 0 old.mapped.items → AreMapped disk slot n new.mapped.items

-- One more was looked at, of this number.
pub record LooksAtOne (disk : Aggregate) (slot i : ℕ) (old new : Found) : Type 0 where
  pub faults : new.faults.items ≡ old.faults.items ++ anode_faults disk slot i
  pub links : new.links.items ≡ old.links.items ++ links_at disk slot i
  pub uses : AreMapped disk slot i old.mapped.items → new.uses.items ≡ old.uses.items ++ uses_at disk slot i
  pub reach : new.reach.items ≡ old.reach.items
  pub mapped : AreMapped disk slot i old.mapped.items → AreMapped disk slot (i + 1) new.mapped.items

-- A slot was looked at.
pub record LooksAtSlot (disk : Aggregate) (slot : ℕ) (old new : Found) : Type 0 where
  pub faults : new.faults.items ≡ old.faults.items ++ slot_faults disk slot
  pub uses : AreMapped disk slot 0 old.mapped.items → new.uses.items ≡ old.uses.items ++ joined (uses_at disk slot) 64
  pub reach : new.reach.items ≡ old.reach.items ++ reach_faults disk slot
  pub mapped : AreMapped disk slot 0 old.mapped.items → AreMapped disk (slot + 1) 0 new.mapped.items

-- The first n slots were looked at, since nothing was noted of indirect blocks.
pub record LooksAtSlots (disk : Aggregate) (n : ℕ) (old new : Found) : Type 0 where
  pub faults : new.faults.items ≡ old.faults.items ++ joined (slot_faults disk) n
  pub uses : AreMapped disk 0 0 old.mapped.items
      → new.uses.items ≡ old.uses.items ++ joined (λ slot. joined (uses_at disk slot) 64) n
  pub reach : new.reach.items ≡ old.reach.items ++ joined (reach_faults disk) n
  pub mapped : AreMapped disk 0 0 old.mapped.items → AreMapped disk n 0 new.mapped.items

-- Some of the first slots were looked at: all of them, or else as many as it takes to find a fault.
pub record LooksUntil (disk : Aggregate) (stops : Bool) (old new : Found) : Type 0 where
  pub slots : ℕ
  pub few : slots ≤ 16
  pub looks : LooksAtSlots disk slots old new
  pub all : (slots ≡ 16) ⊎ ((stops ≡ true) × (0 < length new.faults.items))

-- the faults of the server's pages
abbrev pub server_faults : Aggregate → List Fault
server_faults disk =
    unless (is_server_page (server_page disk)) (page_start 0) rules.ServerPage
    ++ unless (is_numbers_page (page_of disk 1)) (page_start 1) rules.CallNumbers

-- What was found in the pages of the server and in these slots, and in the blocks that they name.
pub record HasFound (disk : Aggregate) (stops : Bool) (found : Found) : Type 0 where
  pub slots : ℕ
  pub few : slots ≤ 16
  pub faults : found.faults.items ≡ server_faults disk ++ joined (slot_faults disk) slots
  pub uses : found.uses.items ≡ joined (λ slot. joined (uses_at disk slot) 64) slots
  pub reach : found.reach.items ≡ joined (reach_faults disk) slots
  pub all : (slots ≡ 16) ⊎ ((stops ≡ true) × (0 < length found.faults.items))

-- these are all faults, or else at least the first is the first of all
pub record AreFaults (all : List Fault) (stops : Bool) (faults : List Fault) : Type 0 where
  pub are : stops ≡ false → faults ≡ all
  pub first : slice_get faults 0 ≡ slice_get all 0
