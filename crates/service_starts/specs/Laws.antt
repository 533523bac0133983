-- Laws of disks that fit.
use Rattle.std.specs.Prelude.{◌≡◌, ◌≤◌, ℕ, true, false, List, [], ◌∷◌, Contains, Some, None, codes}
use Rattle.base_types.specs.declared.ids.ServerId.{ServerId}
use Rattle.tree_calls.specs.declared.roster.Roster.{Roster}
use Rattle.store_memory.specs.declared.told.Slot.{Slot}
use Rattle.store_state.specs.declared.state.Stay.{Stay}
use Rattle.store_state.specs.declared.state.Stay.TheVariants.{Writable, Clone, Leaving, Arriving, Gone}
use Rattle.service_starts.specs.declared.told.Told.{Told}
use Rattle.service_starts.specs.declared.fitting.Settling.{Settling}
use Rattle.service_starts.specs.Told.{Placed, placed, stands}
use Rattle.service_starts.specs.Fitting.{misfit, settlings_of}
use Rattle.service_starts.specs.Settled.{settled}
use Rattle.service_starts.specs.Starting.{start_of}

-- what fit and what is settled, and what doesn't fit
abbrev pub Fit : List Told → List Settling → Type 0
Fit all settlings = (misfit all ≡ None) × (settlings_of all ≡ settlings)

abbrev pub Misfits : List Told → ℕ → Slot → Type 0
Misfits all server slot = misfit all ≡ Some (record { server = record { 0 = server }; slot = slot })

abbrev pub s1 : ServerId
s1 = record { 0 = 1 }

abbrev pub s2 : ServerId
s2 = record { 0 = 2 }

-- the first fileset of the first server, "home", after so many moves
abbrev pub home : ℕ → Stay → Slot
home moves stay = record {
  at = 0;
  fileset = record { 0 = 65537 };
  name = codes "home";
  objects = 64;
  moves = moves;
  stay = stay;
}

-- a disk with these slots, whose server has this number for its next fileset
abbrev pub disk : ℕ → List Slot → Told
disk next slots = record {
  on_disk = true;
  kept = record { capacity = 16384; next = next; filesets = [] };
  slots = slots;
}

-- a blank disk, and a server without one
abbrev pub blank : Told
blank = disk 1 []

abbrev pub no_disk : Told
no_disk = record blank { on_disk = false }

-- the disk of the first server, which made "home", and that of the second one, which made nothing
abbrev pub first : Slot → Told
first slot = disk 2 (slot ∷ [])

abbrev pub second : Slot → Told
second slot = disk 1 (slot ∷ [])

-- "home" is settled at a server
abbrev pub settled_at : ServerId → List Settling
settled_at server = record { server = server; fileset = record { 0 = 65537 } } ∷ []

-- What becomes of disks, by example.
pub record WorkedFits : Type 0 where
  -- what never moved fits, with other disks and without
  pub stayed : Fit (first (home 0 Writable) ∷ []) []
  pub beside : Fit (first (home 0 Clone) ∷ blank ∷ []) []
  -- after a finished move two disks fit; the disk that the fileset left doesn't without the other one, nor beside a
  -- blank one, nor beside one that has the fileset from before
  pub moved : Fit (first (home 0 (Gone s2)) ∷ second (home 1 Writable) ∷ []) []
  pub alone : Misfits (first (home 0 (Gone s2)) ∷ []) 1 (home 0 (Gone s2))
  pub diskless : Misfits (first (home 0 (Gone s2)) ∷ no_disk ∷ []) 1 (home 0 (Gone s2))
  pub lost : Misfits (first (home 0 (Gone s2)) ∷ blank ∷ []) 1 (home 0 (Gone s2))
  pub older : Misfits (first (home 2 (Gone s2)) ∷ second (home 1 Writable) ∷ []) 1 (home 2 (Gone s2))
  -- so does the disk that it went to, beside a blank one, since the blank one's server would give its number again
  pub again : Misfits (blank ∷ second (home 1 Writable) ∷ []) 2 (home 1 Writable)
  -- a move of which nothing has come is settled where the fileset is leaving
  pub unsent : Fit (first (home 0 (Leaving s2 7)) ∷ blank ∷ []) (settled_at s1)
  pub unsent_alone : Misfits (first (home 0 (Leaving s2 7)) ∷ no_disk ∷ []) 1 (home 0 (Leaving s2 7))
  -- one of which something has come goes on, from behind the head
  pub begun : Fit (first (home 0 (Leaving s2 7)) ∷ second (home 1 (Arriving s1 7 1)) ∷ []) []
  pub halfway : Fit (first (home 0 (Leaving s2 7)) ∷ second (home 1 (Arriving s1 7 9)) ∷ []) (settled_at s2)
  pub come : Fit (first (home 0 (Leaving s2 7)) ∷ second (home 1 Writable) ∷ []) []
  -- what is arriving comes from the very move that is leaving
  pub unknown : Misfits (blank ∷ second (home 1 (Arriving s1 7 1)) ∷ []) 2 (home 1 (Arriving s1 7 1))
  pub another : Misfits (first (home 0 (Leaving s2 8)) ∷ second (home 1 (Arriving s1 7 1)) ∷ []) 2
      (home 1 (Arriving s1 7 1))
  pub later : Misfits (first (home 0 (Leaving s2 7)) ∷ second (home 2 (Arriving s1 7 1)) ∷ []) 2
      (home 2 (Arriving s1 7 1))
  -- a fileset is on one disk alone, and it is the one that left
  pub twice : Misfits (first (home 0 Writable) ∷ second (home 0 Writable) ∷ []) 2 (home 0 Writable)
  pub twice_later : Misfits (first (home 0 Writable) ∷ second (home 1 Writable) ∷ []) 2 (home 1 Writable)
  pub renamed : Misfits
      (first (record (home 0 (Gone s2)) { name = codes "old" }) ∷ second (home 1 Writable) ∷ []) 1
      (record (home 0 (Gone s2)) { name = codes "old" })
  pub grown : Misfits (first (record (home 0 (Leaving s2 7)) { objects = 32 }) ∷ second (home 1 Writable) ∷ []) 1
      (record (home 0 (Leaving s2 7)) { objects = 32 })
  pub cloned : Misfits (first (home 0 (Leaving s2 7)) ∷ second (home 1 Clone) ∷ []) 1 (home 0 (Leaving s2 7))

-- A fileset that some slot tells of is somewhere, and had moved as often there; and it is at one server.
pub record IsOnce (all : List Told) : Type 0 where
  pub some : (at : Placed) → Contains (placed all) at → (other : Placed) × Contains (placed all) other
      × (other.slot.fileset ≡ at.slot.fileset) × (stands all other.slot ≡ true) × (at.slot.moves ≤ other.slot.moves)
  pub one : (a b : Placed) → Contains (placed all) a → Contains (placed all) b → a.slot.fileset ≡ b.slot.fileset
      → stands all a.slot ≡ true → stands all b.slot ≡ true → a.server ≡ b.server

-- on disks that fit
abbrev pub FilesetsAreOnce : Type 0
FilesetsAreOnce = (all : List Told) → misfit all ≡ None → IsOnce all

-- Once the unfinished moves are settled the disks still fit, nothing more is to be settled, and a run starts from the
-- same tree.
pub record StaysSettled (roster : Roster) (all : List Told) : Type 0 where
  pub fit : Fit (settled all) []
  pub start : start_of roster (settled all) ≡ start_of roster all

abbrev pub SettlesOnce : Type 0
SettlesOnce = (roster : Roster) (all : List Told) → misfit all ≡ None → StaysSettled roster all
