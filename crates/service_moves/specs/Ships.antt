-- Filesets that are on their way from the store of one server to that of another.
use Rattle.std.specs.Prelude.{◌≡◌, ◌≢◌, ◌≤◌, ◌⊎◌, ℕ, ◌+◌, ◌*◌, ◌==◌, false, Bool, List, [], ◌∷◌}
use Rattle.std.specs.Prelude.{length, slice_set, Option, Some, None, Result, Ok, OnOk, IfErr}
use Rattle.base_types.specs.declared.ids.FilesetId.{FilesetId}
use Rattle.base_types.specs.declared.ids.ServerId.{ServerId}
use Rattle.base_types.specs.declared.limits.TheConstants.{OBJECTS_MAX}
use Rattle.tree_calls.specs.declared.call.Call.TheVariants.{MoveFileset}
use Rattle.tree_calls.specs.declared.roster.Roster.{Roster}
use Rattle.tree_calls.specs.declared.ship.Mover.{Mover}
use Rattle.tree_calls.specs.declared.ship.ShipPart.{ShipPart}
use Rattle.store_memory.specs.Sound.{IsMover}
use Rattle.store_memory.specs.Views.{View, DoesActs}
use Rattle.store_memory.specs.declared.told.Slot.{Slot}
use Rattle.store_laws.specs.MovedLaws.{MayDo, MayDoAll}
use Rattle.store_records.specs.Stored.{IsStorable}
use Rattle.message_types.specs.Soundness.{IsServer}
use Rattle.store_acts.specs.Acts.{act_done, state_after}
use Rattle.store_acts.specs.declared.act.Act.{Act}
use Rattle.store_acts.specs.declared.act.Act.TheVariants.{Leave, Left, Part}
use Rattle.store_laws.specs.Moves.{all_parts}
use Rattle.store_state.specs.State.{held_so, is_leaving, is_of}
use Rattle.store_state.specs.declared.state.Holding.{Holding}
use Rattle.store_state.specs.declared.state.Stay.TheVariants.{Leaving}
use Rattle.store_state.specs.declared.state.StoreState.{StoreState}
use Rattle.service_moves.specs.Batches.{batch_wear}
use Rattle.service_moves.specs.Stores.{AreStores}
use Rattle.service_moves.specs.Steps.{GoesOn, StopsAt}
use Rattle.service_moves.specs.declared.moving.MoveRequest.{MoveRequest}
use Rattle.service_moves.specs.declared.ships.Ship.{Ship}
use Rattle.service_moves.specs.declared.stopped.RunStopped.{RunStopped}

-- whether a slot is that of a fileset
abbrev pub is_slot_of : FilesetId → Slot → Bool
is_slot_of id slot = slot.fileset.0 == id.0

-- a ship is for what is told of a slot of a server's store, in which a fileset is leaving
pub record IsShipOf (from : ServerId) (slot : Slot) (ship : Ship) : Type 0 where
  pub from_is : ship.from ≡ from
  pub stay : slot.stay ≡ Leaving ship.to ship.number
  pub fileset : ship.fileset ≡ slot.fileset
  pub name : ship.name ≡ slot.name
  pub objects : ship.objects ≡ slot.objects
  pub moves : ship.moves ≡ slot.moves + 1

-- the ship that there is for a slot, if a fileset is leaving it
abbrev pub IsShipIn : ServerId → Option Slot → Option Ship → Type 0
IsShipIn from None ship = ship ≡ None
IsShipIn from (Some slot) None = is_leaving slot.stay ≡ false
IsShipIn from (Some slot) (Some ship) = IsShipOf from slot ship

-- a ship is for a fileset that is leaving the store of a server
pub record Carries (from : ServerId) (holding : Holding) (ship : Ship) : Type 0 where
  pub from_is : ship.from ≡ from
  pub stay : holding.stay ≡ Leaving ship.to ship.number
  pub fileset : ship.fileset ≡ holding.fileset.id
  pub name : ship.name ≡ holding.fileset.name
  pub objects : ship.objects ≡ holding.fileset.objects
  pub moves : ship.moves ≡ holding.fileset.moves + 1

-- the ship that there is for a fileset that a store may hold
abbrev pub CarriesOf : ServerId → Option Holding → Option Ship → Type 0
CarriesOf from None ship = ship ≡ None
CarriesOf from (Some holding) None = is_leaving holding.stay ≡ false
CarriesOf from (Some holding) (Some ship) = Carries from holding ship

-- the ship that there is for the first fileset, as a store tells its slots, that is leaving it
abbrev pub IsNextShip : ServerId → StoreState → Option Slot → Option Ship → Type 0
IsNextShip from state None ship = ship ≡ None
IsNextShip from state (Some slot) ship = CarriesOf from (held_so (is_of slot.fileset) state.slots) ship

-- what a server's store tells of a ship is within limits
pub record IsSoundShip (roster : Roster) (from : ServerId) (ship : Ship) : Type 0 where
  pub from_is : ship.from ≡ from
  pub to : IsServer roster ship.to
  pub objects : ship.objects ≤ OBJECTS_MAX

-- the act that takes a part of it
abbrev pub part_act : Ship → ℕ → ShipPart → Act
part_act ship at part = Part ship.from ship.number ship.fileset ship.moves at part

-- One store may take a ship of another: both are of one roster, which has the ship's server and the mover, may be
-- asked and opened anew, and are no more worn than so.
pub record MayTake (sender receiver : View) (worn : ℕ) (ship : Ship) (mover : Mover) : Type 0 where
  pub roster : receiver.state.roster ≡ sender.state.roster
  pub from : IsServer sender.state.roster ship.from
  pub is_mover : IsMover sender.state.roster mover
  pub sends : sender.ready
  pub takes : receiver.ready
  pub first_mends : sender.mendable
  pub second_mends : receiver.mendable
  pub first : sender.wear ≤ worn
  pub second : receiver.wear ≤ worn

-- one store has the fileset of a ship, and the other may be given all its parts
pub record MaySend (sender receiver : StoreState) (holding : Holding) (ship : Ship) (mover : Mover) : Type 0 where
  pub storable : IsStorable sender
  pub held : held_so (is_of ship.fileset) sender.slots ≡ Some holding
  pub carries : Carries ship.from holding ship
  pub parts : MayDoAll receiver (all_parts holding ship.from ship.number mover)

-- Two stores did acts, one behind the other: the second one the first of these, and the first one nothing; or the second
-- one all of them, and then the first one this act, or not.
abbrev pub HaveSent : {T E : Type 0} → Result T E → List Act → Act → View → View → View → View → Type 0
HaveSent {E = E} result parts left sender receiver sent taken =
    (OnOk result ⊥ × DoesActs result parts receiver taken × DoesActs result [] sender sent)
    ⊎ (DoesActs {T = Unit {0}} {E = E} (Ok tt) parts receiver taken × DoesActs result (left ∷ []) sender sent)

-- A ship was sent: all its parts came, and the store that the fileset was leaving learnt that it has left.
pub record IsSent {S : Type 0} (tells : Type 0) (view : S → View) (result : Result (Unit {0}) RunStopped) (ship : Ship)
    (mover : Mover) (sender receiver sent taken : S) : Type 0 where
  pub states : tells → (holding : Holding) → MaySend (view sender).state (view receiver).state holding ship mover
      → OnOk result (((view sent).state ≡ (act_done (view sender).state (Left ship.fileset)).state)
      × ((view taken).state
      ≡ state_after (view receiver).state (all_parts holding ship.from ship.number mover)))
  pub does : tells → (holding : Holding) → MaySend (view sender).state (view receiver).state holding ship mover
      → HaveSent result (all_parts holding ship.from ship.number mover) (Left ship.fileset) (view sender)
      (view receiver) (view sent) (view taken)
  pub first : GoesOn (66 * batch_wear) result (view sender) (view sent)
  pub second : GoesOn (66 * batch_wear) result (view receiver) (view taken)
  pub stopped : IfErr result (λ stopped.
      StopsAt ship.from (view sender) (view sent) stopped ⊎ StopsAt ship.to (view receiver) (view taken) stopped)

-- A fileset may go from the store of one server to that of another: these are stores of a roster that has both servers
-- and the mover.
pub record MayMove {S : Type 0} (view : S → View) (worn : ℕ) (stores : List S) (from to : ServerId) (mover : Mover) :
    Type 0 where
  pub roster : Roster
  pub count : length stores ≡ length roster.capacity
  pub are : AreStores view roster worn 1 stores
  pub is_from : IsServer roster from
  pub is_to : IsServer roster to
  pub is_mover : IsMover roster mover

-- A fileset may go from one store to another: it is leaving the first once that did `Leave`, and then the other one may
-- be given all its parts.
pub record MayGo (sender receiver : StoreState) (from to : ServerId) (fileset : FilesetId) (mover : Mover)
    (holding : Holding) : Type 0 where
  pub two : from.0 ≢ to.0
  pub leave : MayDo sender (Leave fileset to)
  pub storable : IsStorable (act_done sender (Leave fileset to)).state
  pub held : held_so (is_of fileset) (act_done sender (Leave fileset to)).state.slots ≡ Some holding
  pub stay : holding.stay ≡ Leaving to (sender.ship + 1)
  pub parts : MayDoAll receiver (all_parts holding from (sender.ship + 1) mover)

-- the mover of a call
abbrev pub mover_of : MoveRequest → Mover
mover_of request = record {
  host = request.host;
  number = request.k;
  k = request.k;
  call = MoveFileset request.server request.name request.to;
}

-- what is left of stores once two of them, at different places, are others
abbrev pub two_set : {A : Type 0} → List A → ℕ → A → ℕ → A → List A
two_set stores f first t second = slice_set (slice_set stores f first) t second
