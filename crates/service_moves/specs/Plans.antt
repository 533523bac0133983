-- Steps of stores in which filesets move.
use Rattle.std.specs.Prelude.{◌≡◌, ◌⊎◌, ⊤, ◌-◌, ℕ, List, [], ◌∷◌, ◌++◌, slice_get, Option, Some}
use Rattle.std.specs.List.{flat_map}
use Rattle.std.specs.Option.{option_map}
use Rattle.base_types.specs.declared.ids.FilesetId.{FilesetId}
use Rattle.base_types.specs.declared.ids.ServerId.{ServerId}
use Rattle.tree_calls.specs.declared.ship.Mover.{Mover}
use Rattle.message_types.specs.Soundness.{Each}
use Rattle.store_acts.specs.Acts.{state_after}
use Rattle.store_acts.specs.declared.act.Act.{Act}
use Rattle.store_acts.specs.declared.act.Act.TheVariants.{Leave, Left}
use Rattle.store_laws.specs.Moves.{all_parts}
use Rattle.store_memory.specs.Views.{View}
use Rattle.store_state.specs.State.{held_so, is_of}
use Rattle.store_state.specs.declared.state.Holding.{Holding}
use Rattle.store_state.specs.declared.state.Stay.TheVariants.{Leaving}
use Rattle.store_state.specs.declared.state.StoreState.{StoreState}
use Rattle.service_moves.specs.Doing.{Step, acts_at, steps_of}
use Rattle.service_moves.specs.Stores.{states_of}

-- a fileset that is leaving one server comes to another one, part by part, and has left
abbrev pub ship_steps : ServerId → ServerId → FilesetId → Holding → ℕ → Mover → List Step
ship_steps from to fileset holding ship mover =
    steps_of (to.0 - 1) (all_parts holding from ship mover) ++ steps_of (from.0 - 1) (Left fileset ∷ [])

-- it begins to leave, comes there, and has left
abbrev pub move_steps : ServerId → ServerId → FilesetId → Holding → ℕ → Mover → List Step
move_steps from to fileset holding ship mover =
    steps_of (from.0 - 1) (Leave fileset to ∷ []) ++ ship_steps from to fileset holding ship mover

-- what stores keep, by their places, where there is a store
abbrev pub states_at : {S : Type 0} → (S → View) → List S → ℕ → Option StoreState
states_at view stores place = slice_get (states_of view stores) place

-- what they keep behind some steps
abbrev pub behind : (ℕ → Option StoreState) → List Step → ℕ → Option StoreState
behind states steps place = option_map (λ state. state_after state (acts_at place steps)) (states place)

-- A fileset that is leaving the store of a server goes over whole: as it is held there, all its parts come to the store
-- that it is leaving for, and then it has left.
pub record GoesWhole (states : ℕ → Option StoreState) (steps : List Step) : Type 0 where
  pub from : ServerId
  pub to : ServerId
  pub fileset : FilesetId
  pub ship : ℕ
  pub mover : Mover
  pub sender : StoreState
  pub holding : Holding
  pub there : states (from.0 - 1) ≡ Some sender
  pub held : held_so (is_of fileset) sender.slots ≡ Some holding
  pub stay : holding.stay ≡ Leaving to ship
  pub are : steps ≡ ship_steps from to fileset holding ship mover

-- In each of these pieces, one after the other, a fileset goes over whole, or all acts are of a kind.
abbrev pub ArePieces : (Act → Type 0) → (ℕ → Option StoreState) → List (List Step) → Type 0
ArePieces kind states [] = ⊤
ArePieces kind states (piece ∷ pieces) =
    (GoesWhole states piece ⊎ Each (λ step. kind step.act) piece) × ArePieces kind (behind states piece) pieces

-- Steps of stores that keep this: acts of a kind, and filesets that go over whole.
pub record AreMoves (kind : Act → Type 0) (states : ℕ → Option StoreState) (steps : List Step) : Type 0 where
  pub pieces : List (List Step)
  pub joined : steps ≡ flat_map (λ piece. piece) pieces
  pub each : ArePieces kind states pieces
