-- A store's record that a disk can have.
use Rattle.std.specs.Prelude.{◌≡◌, ◌≢◌, ◌≤◌, ◌⊎◌, ℕ, ◌+◌, ◌-◌, true, false, IsTrue, List, [], length, Some}
use Rattle.base_types.specs.Name.{is_name, same_name}
use Rattle.base_types.specs.declared.ids.ServerId.{ServerId}
use Rattle.base_types.specs.declared.limits.TheConstants.{SERVERS_MAX, HOSTS_MAX, FILESET_NUMBER_MAX}
use Rattle.tree_calls.specs.declared.part.DirEntry.{DirEntry}
use Rattle.tree_objects.specs.Objects.{is_dir}
use Rattle.tree_objects.specs.declared.content.Anode.{Anode}
use Rattle.tree_objects.specs.declared.content.Object.{Object}
use Rattle.tree_filesets.specs.Walk.{object_at, unique_at}
use Rattle.tree_filesets.specs.WellFormed.{entry_at, is_at_rest, IsWellFormed}
use Rattle.tree_filesets.specs.declared.fileset.Fileset.{Fileset}
use Rattle.message_types.specs.Soundness.{Each}
use Rattle.store_acts.specs.Sound.{IsAllowed, KeepsLimits}
use Rattle.store_state.specs.Founding.{promised}
use Rattle.store_state.specs.State.{held_at, is_leaving}
use Rattle.store_state.specs.declared.state.Holding.{Holding}
use Rattle.store_state.specs.declared.state.Stay.{Stay}
use Rattle.store_state.specs.declared.state.Stay.TheVariants.{Writable, Clone, Leaving, Arriving, Gone}
use Rattle.store_state.specs.declared.state.StoreState.{StoreState}
use Rattle.store_state.specs.declared.state.TakenShip.{TakenShip}

-- another server than one's own
abbrev pub IsOther : ServerId → ServerId → Type 0
IsOther own other = (1 ≤ other.0) × (other.0 ≤ SERVERS_MAX) × (other.0 ≢ own.0)

-- the anodes that came of a fileset that arrives: the first is a root in its first use, and each entry names an anode
-- that there may be
pub record MayArrive (objects parts : ℕ) (anodes : List Anode) : Type 0 where
  pub least : 1 ≤ parts
  pub most : parts ≤ objects
  pub count : length anodes ≡ parts - 1
  pub first : 2 ≤ parts → (unique_at anodes 1 ≡ 1)
      × ((object : Object) × (object_at anodes 1 ≡ Some object) × (is_dir object.content ≡ true))
  pub within : (at : ℕ) (name : List ℕ) (entry : DirEntry) → entry_at anodes at name ≡ Some entry
      → (1 ≤ entry.anode) × (entry.anode ≤ 64)

-- how a fileset stays fits what is held of it
abbrev pub StaysRight : StoreState → Fileset → Stay → Type 0
StaysRight state fileset Writable = IsWellFormed fileset × (fileset.read_only ≡ false)
StaysRight state fileset Clone = IsWellFormed fileset × (fileset.read_only ≡ true)
StaysRight state fileset (Leaving to ship) =
    IsWellFormed fileset × (fileset.read_only ≡ false) × IsOther state.server to × (ship ≤ state.ship)
StaysRight state fileset (Arriving from ship parts) =
    MayArrive fileset.objects parts fileset.anodes × (fileset.read_only ≡ false) × IsOther state.server from
StaysRight state fileset (Gone to) =
    (fileset.anodes ≡ []) × (fileset.read_only ≡ false) × IsOther state.server to

-- what is held is a fileset of this store, with nothing unsaved
pub record IsStored (state : StoreState) (holding : Holding) : Type 0 where
  pub server : holding.fileset.server ≡ state.server
  pub id : IsAllowed state holding.fileset.id
  pub name : IsTrue (is_name holding.fileset.name)
  pub rest : is_at_rest holding.fileset ≡ true
  pub stay : StaysRight state holding.fileset holding.stay

-- two filesets of a store: neither their ids nor their names are one, and one leaves at most
pub record AreTwo (a b : Holding) : Type 0 where
  pub ids : a.fileset.id ≢ b.fileset.id
  pub names : same_name a.fileset.name b.fileset.name ≡ false
  pub leaving : (is_leaving a.stay ≡ false) ⊎ (is_leaving b.stay ≡ false)

-- a record that a disk can have
pub record IsStorable (state : StoreState) : Type 0 where
  pub limits : KeepsLimits state
  pub servers : length state.roster.capacity ≤ SERVERS_MAX
  pub first : 1 ≤ state.server.0
  pub last : state.server.0 ≤ SERVERS_MAX
  pub next : (1 ≤ state.next) × (state.next ≤ FILESET_NUMBER_MAX + 1)
  pub hosts : length state.hosts ≡ HOSTS_MAX + 1
  pub taken : (length state.taken ≡ SERVERS_MAX) × Each (λ (ship : TakenShip). ship.code ≤ 21) state.taken
  pub each : (slot : ℕ) (holding : Holding) → held_at state.slots slot ≡ Some holding → IsStored state holding
  pub apart : (s t : ℕ) (a b : Holding) → s ≢ t → held_at state.slots s ≡ Some a → held_at state.slots t ≡ Some b
      → AreTwo a b
  pub room : promised state.slots ≤ state.capacity
