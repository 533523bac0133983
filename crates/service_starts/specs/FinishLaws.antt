-- Laws of moves that an earlier run left unfinished.
use Rattle.std.specs.Prelude.{◌≡◌, ◌≢◌, ◌≤◌, ℕ, ◌+◌, ◌-◌, ⊤, true, false, not, List, [], ◌∷◌}
use Rattle.std.specs.Prelude.{length, slice_get, Option, Some, None}
use Rattle.std.specs.List.{find, list_all}
use Rattle.base_types.specs.declared.ids.ServerId.{ServerId}
use Rattle.tree_calls.specs.declared.reply.Reply.TheVariants.{Ok as Accepted}
use Rattle.tree_calls.specs.declared.roster.Roster.{Roster}
use Rattle.tree_calls.specs.declared.ship.Mover.{Mover}
use Rattle.store_memory.specs.Reading.{slot_told, slots_from}
use Rattle.store_memory.specs.Sound.{IsLeavingOf, IsMover}
use Rattle.store_memory.specs.declared.told.Slot.{Slot}
use Rattle.tree_answers.specs.Moving.{left_tree}
use Rattle.tree_answers.specs.WellFormed.{IsWellFormed}
use Rattle.tree_answers.specs.declared.tree.Tree.{Tree}
use Rattle.service_starts.specs.Fitting.{misfit, settlings_of}
use Rattle.service_starts.specs.Starting.{start_of}
use Rattle.service_starts.specs.declared.fitting.Settling.{Settling}
use Rattle.service_starts.specs.declared.told.Told.{Told}
use Rattle.store_records.specs.Stored.{IsStorable}
use Rattle.service_starts.specs.Settles.{acts_at}
use Rattle.service_starts.specs.Starts.{IsToldOf}
use Rattle.store_acts.specs.Acts.{act_done, state_after}
use Rattle.store_acts.specs.declared.act.Act.TheVariants.{Left}
use Rattle.store_laws.specs.Moves.{all_parts}
use Rattle.store_state.specs.Outcomes.{now_done}
use Rattle.store_state.specs.State.{is_leaving, is_of, held_at, held_so}
use Rattle.store_state.specs.declared.state.Holding.{Holding}
use Rattle.store_state.specs.declared.state.Stay.TheVariants.{Leaving}
use Rattle.store_state.specs.declared.state.StoreState.{StoreState}
use Rattle.store_laws.specs.TreeKeeping.{KeepsOf}
use Rattle.store_laws.specs.MovedLaws.{MayDoAll}
use Rattle.service_starts.specs.UnderWay.{KeepUnderWay, freed}

-- it is told of the stores of servers of a roster, from that of this number on
abbrev pub AreToldOf : Roster → ℕ → List Told → List StoreState → Type 0
AreToldOf roster number [] [] = ⊤
AreToldOf roster number (told ∷ all) (state ∷ states) =
    IsToldOf number state told × (state.roster ≡ roster) × AreToldOf roster (number + 1) all states
AreToldOf roster number _ _ = ⊥

-- the stores of servers, from that of this number on, once each has settled what it has to
abbrev pub settled_stores : ℕ → List Settling → List StoreState → List StoreState
settled_stores number settlings [] = []
settled_stores number settlings (state ∷ states) =
    state_after state (acts_at number settlings) ∷ settled_stores (number + 1) settlings states

-- Where disks fit, the stores that have settled what they had to keep the tree that a run starts from.
abbrev pub MovesBegin : Type 0
MovesBegin = (roster : Roster) (all : List Told) (states : List StoreState)
    → length all ≡ length roster.capacity → AreToldOf roster 1 all states → misfit all ≡ None
    → KeepUnderWay (start_of roster all) (settled_stores 1 (settlings_of all) states)

-- what a store tells of the fileset that is leaving it, if one is
abbrev pub ship_told : StoreState → Option Slot
ship_told state = find (λ slot. is_leaving slot.stay) (slots_from 0 state.slots)

-- That is told of what is held; and where nothing is told, none is leaving.
pub record ShipsAreTold : Type 0 where
  pub some : (state : StoreState) (slot : Slot) → IsStorable state → ship_told state ≡ Some slot
      → (holding : Holding) × (held_so (is_of slot.fileset) state.slots ≡ Some holding)
      × (is_leaving holding.stay ≡ true) × (slot ≡ slot_told slot.at holding)
  pub none : (state : StoreState) (place : ℕ) (holding : Holding) → ship_told state ≡ None
      → held_at state.slots place ≡ Some holding → is_leaving holding.stay ≡ false

-- A fileset that is leaving the store of a server under a ship arrives whole at that of another one, and leaves: all
-- its parts are sent again, of which the other one takes what it lacks, and then the first one does `Left`.
pub record Finishes (tree : Tree) (states : List StoreState) (place : ℕ) (sender : StoreState)
    (holding : Holding) (to : ServerId) (ship : ℕ) (mover : Mover) : Type 0 where
  pub receiver : StoreState
  pub there : slice_get states (to.0 - 1) ≡ Some receiver
  pub server : receiver.server ≡ to
  pub two : place ≢ to.0 - 1
  -- each part may be asked of the store that it leaves
  pub asked : (at : ℕ) → at ≤ holding.fileset.objects → IsLeavingOf sender holding.fileset.id at
  -- and given to the other one behind those before it
  pub parts : MayDoAll receiver (all_parts holding sender.server ship mover)
  -- once it has left, no other one is leaving there; and none that wasn't is leaving the other store
  pub left : (act_done sender (Left holding.fileset.id)).done ≡ now_done Accepted
  pub none : ship_told (act_done sender (Left holding.fileset.id)).state ≡ None
  pub no_more : ship_told receiver ≡ None
      → ship_told (state_after receiver (all_parts holding sender.server ship mover)) ≡ None
  -- the stores keep the tree then in which the first server keeps no more room for the fileset
  pub keeps : (after : List StoreState) → length after ≡ length states
      → slice_get after (to.0 - 1) ≡ Some (state_after receiver (all_parts holding sender.server ship mover))
      → slice_get after place ≡ Some (act_done sender (Left holding.fileset.id)).state
      → ((k : ℕ) → k ≢ place → k ≢ to.0 - 1 → slice_get after k ≡ slice_get states k)
      → KeepUnderWay (left_tree tree sender.server holding.fileset.id) after
  pub same : freed (left_tree tree sender.server holding.fileset.id) ≡ freed tree

-- what becomes of each fileset that is leaving
abbrev pub MovesFinish : Type 0
MovesFinish = (tree : Tree) (states : List StoreState) (place : ℕ) (sender : StoreState) (holding : Holding)
    (to : ServerId) (ship : ℕ) (mover : Mover)
    → KeepUnderWay tree states → slice_get states place ≡ Some sender
    → held_so (is_of holding.fileset.id) sender.slots ≡ Some holding → holding.stay ≡ Leaving to ship
    → IsMover sender.roster mover → Finishes tree states place sender holding to ship mover

-- Once none is leaving, each store keeps its part of the tree, in which no server keeps room any more; that tree is
-- well formed if the tree was, and is the tree itself where no server kept room.
pub record MovesEnd : Type 0 where
  pub keeps : (tree : Tree) (states : List StoreState) → KeepUnderWay tree states
      → ((k : ℕ) (state : StoreState) → slice_get states k ≡ Some state → ship_told state ≡ None)
      → (k : ℕ) (state : StoreState) → slice_get states k ≡ Some state → KeepsOf (freed tree) state
  pub formed : (tree : Tree) → IsWellFormed tree → IsWellFormed (freed tree)
  pub same : (tree : Tree) → list_all (λ away. not away.room_kept) tree.away ≡ true → freed tree ≡ tree
