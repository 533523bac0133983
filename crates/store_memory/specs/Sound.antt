-- What is told by a store, and asked of it, within limits.
use Rattle.std.specs.Prelude.{◌≡◌, ◌≤◌, ℕ, true, Some}
use Rattle.base_types.specs.declared.ids.FilesetId.{FilesetId}
use Rattle.base_types.specs.declared.limits.TheConstants.{OBJECTS_MAX}
use Rattle.tree_calls.specs.declared.roster.Roster.{Roster}
use Rattle.tree_calls.specs.declared.ship.Mover.{Mover}
use Rattle.message_types.specs.Soundness.{IsHost, IsCall, IsMove}
use Rattle.store_acts.specs.Sound.{IsStay}
use Rattle.store_state.specs.State.{is_of, is_leaving, held_so}
use Rattle.store_state.specs.declared.state.Holding.{Holding}
use Rattle.store_state.specs.declared.state.StoreState.{StoreState}
use Rattle.store_memory.specs.declared.told.Slot.{Slot}

-- what is told of a slot is within them
pub record IsSlot (roster : Roster) (slot : Slot) : Type 0 where
  pub stay : IsStay roster slot.stay
  pub least : 1 ≤ slot.objects
  pub most : slot.objects ≤ OBJECTS_MAX

-- a mover that a head may have
pub record IsMover (roster : Roster) (mover : Mover) : Type 0 where
  pub host : IsHost roster mover.host
  pub call : IsCall roster mover.call
  pub moves : IsMove mover.call

-- a part of a fileset that is leaving may be told: up to that of its last anode
abbrev pub IsLeavingOf : StoreState → FilesetId → ℕ → Type 0
IsLeavingOf state id at =
    (holding : Holding) × (held_so (is_of id) state.slots ≡ Some holding)
    × (is_leaving holding.stay ≡ true) × (at ≤ holding.fileset.objects)
