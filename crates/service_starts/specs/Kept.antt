-- What ties the store of each server to the tree that a run starts from.
use Rattle.std.specs.Prelude.{◌≡◌, ℕ, ◌+◌, true, List, [], length, slice_get, Some, None}
use Rattle.base_types.specs.declared.ids.ServerId.{ServerId}
use Rattle.tree_calls.specs.Limits.{keeps_limits}
use Rattle.tree_calls.specs.declared.roster.Roster.{Roster}
use Rattle.store_memory.specs.Reading.{kept_of, slots_from}
use Rattle.tree_answers.specs.Founding.{new_tree}
use Rattle.service_starts.specs.Fitting.{misfit, settlings_of}
use Rattle.service_starts.specs.Laws.{Fit}
use Rattle.service_starts.specs.Starting.{start_of}
use Rattle.service_starts.specs.declared.told.Told.{Told}
use Rattle.service_starts.specs.Settles.{acts_at}
use Rattle.service_starts.specs.Starts.{IsToldOf, AreTold, NoneGoesOn}
use Rattle.store_acts.specs.Acts.{state_after}
use Rattle.store_state.specs.Capacity.{capacity_of}
use Rattle.store_state.specs.State.{new_state}
use Rattle.store_state.specs.declared.state.StoreState.{StoreState}
use Rattle.store_laws.specs.TreeKeeping.{KeepsOf}

-- Where the disks fit and no move goes on, the store of a server that is of the roster keeps its part of the tree that
-- a run starts from.
pub record StartsAreKept : Type 0 where
  -- where nothing is to be settled
  pub still : (roster : Roster) (all : List Told) (place : ℕ) (told : Told) (state : StoreState)
      → AreTold all → misfit all ≡ None → NoneGoesOn all → settlings_of all ≡ []
      → slice_get all place ≡ Some told → IsToldOf (place + 1) state told → state.roster ≡ roster
      → KeepsOf (start_of roster all) state
  -- and where something is, once it has settled what it had to
  pub settled : (roster : Roster) (all : List Told) (place : ℕ) (told : Told) (state : StoreState)
      → AreTold all → misfit all ≡ None → NoneGoesOn all
      → slice_get all place ≡ Some told → IsToldOf (place + 1) state told → state.roster ≡ roster
      → KeepsOf (start_of roster all) (state_after state (acts_at (place + 1) (settlings_of all)))

-- a server, counted from 1, and its new store
abbrev pub server_of : ℕ → ServerId
server_of number = record { 0 = number }

abbrev pub new_store : Roster → ℕ → StoreState
new_store roster number = new_state (server_of number) (capacity_of roster (server_of number)) roster

-- what is told is that of new stores
abbrev pub AreNew : Roster → List Told → Type 0
AreNew roster all = (place : ℕ) (told : Told) → slice_get all place ≡ Some told
    → (told.kept ≡ kept_of (new_store roster (place + 1)))
    × (told.slots ≡ slots_from 0 (new_store roster (place + 1)).slots)

-- Where all stores are new, the disks fit, nothing is to be settled and no move goes on, and a run starts from the new
-- tree.
pub record IsNewStart (roster : Roster) (all : List Told) : Type 0 where
  pub told : AreTold all
  pub fit : Fit all []
  pub still : NoneGoesOn all
  pub start : start_of roster all ≡ new_tree roster

abbrev pub NewStoresStart : Type 0
NewStoresStart = (roster : Roster) (all : List Told) → keeps_limits roster ≡ true
    → length all ≡ length roster.capacity → AreNew roster all → IsNewStart roster all
