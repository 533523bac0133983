-- The tree that is made of what stores keep.
use Rattle.std.specs.Prelude.{◌≡◌, ℕ, ◌+◌, true, List, [], length, slice_get, Contains, Some, None}
use Rattle.std.specs.List.{list_all}
use Rattle.tree_calls.specs.Limits.{keeps_limits}
use Rattle.tree_calls.specs.declared.roster.Roster.{Roster}
use Rattle.tree_filesets.specs.WellFormed.{is_at_rest}
use Rattle.store_memory.specs.Reading.{kept_of, slots_from}
use Rattle.tree_answers.specs.WellFormed.{IsWellFormed}
use Rattle.tree_answers.specs.declared.tree.Tree.{Tree}
use Rattle.service_starts.specs.Fitting.{misfit}
use Rattle.service_starts.specs.Starting.{start_of}
use Rattle.service_starts.specs.Told.{Placed, placed, stands}
use Rattle.service_starts.specs.declared.told.Told.{Told}
use Rattle.service_plain.specs.Played.{IsStart}
use Rattle.store_records.specs.Stored.{IsStorable}
use Rattle.store_state.specs.State.{is_leaving}
use Rattle.store_state.specs.declared.state.StoreState.{StoreState}

-- what is told is that of the store of a server, counted from 1, which has a record that a disk can have
pub record IsToldOf (server : ℕ) (state : StoreState) (told : Told) : Type 0 where
  pub storable : IsStorable state
  pub own : state.server.0 ≡ server
  pub kept : told.kept ≡ kept_of state
  pub slots : told.slots ≡ slots_from 0 state.slots

-- so it is of each server, from the first on
abbrev pub AreTold : List Told → Type 0
AreTold all =
    (place : ℕ) (told : Told) → slice_get all place ≡ Some told → (state : StoreState) × IsToldOf (place + 1) state told

-- A tree from which a script can be run, but that servers may keep room for filesets that left them: it is well
-- formed and has the script's roster, and nothing is unsaved or in use.
pub record MayStart (given : Roster) (tree : Tree) : Type 0 where
  pub formed : IsWellFormed tree
  pub roster : tree.roster ≡ given
  pub rest : list_all is_at_rest tree.filesets ≡ true
  pub locks : tree.locks ≡ []
  pub opens : tree.opens ≡ []

-- whether no move goes on
abbrev pub NoneGoesOn : List Told → Type 0
NoneGoesOn all = (at : Placed) → Contains (placed all) at → is_leaving at.slot.stay ≡ true → stands all at.slot ≡ true

-- The tree of stores whose disks fit is such a tree; and where no move goes on, a script can be run from it.
pub record IsStarted (roster : Roster) (all : List Told) : Type 0 where
  pub may : MayStart roster (start_of roster all)
  pub settled : NoneGoesOn all → IsStart roster (start_of roster all)

abbrev pub TreesStart : Type 0
TreesStart = (roster : Roster) (all : List Told) → keeps_limits roster ≡ true → length all ≡ length roster.capacity
    → AreTold all → misfit all ≡ None → IsStarted roster all
