-- What becomes of the stores of all servers in a history, also where filesets move.
use Rattle.std.specs.Prelude.{
  ◌≡◌,
  ◌≢◌,
  ◌≤◌,
  ℕ,
  ◌+◌,
  ◌-◌,
  Bool,
  true,
  false,
  not,
  List,
  [],
  ◌∷◌,
  ◌++◌,
  length,
  map,
  take,
  slice_get,
  Some,
  None,
}
use Rattle.std.specs.List.{find, list_all}
use Rattle.base_types.specs.declared.ids.HostId.{HostId}
use Rattle.base_types.specs.declared.ids.ServerId.{ServerId}
use Rattle.tree_calls.specs.declared.call.Call.TheVariants.{MoveFileset}
use Rattle.tree_calls.specs.declared.entry.Entry.{Entry}
use Rattle.tree_calls.specs.declared.entry.Entry.TheVariants.{Call as Called, Left as LeftEntry}
use Rattle.tree_calls.specs.declared.reply.Reply.TheVariants.{Ok as Accepted}
use Rattle.tree_calls.specs.declared.ship.Mover.{Mover}
use Rattle.tree_filesets.specs.declared.fileset.Fileset.{Fileset}
use Rattle.store_memory.specs.Reading.{slot_told, slots_from}
use Rattle.store_memory.specs.Sound.{IsLeavingOf, IsMover}
use Rattle.tree_answers.specs.declared.tree.Tree.{Tree}
use Rattle.tree_answers.specs.Histories.{after_history}
use Rattle.tree_answers.specs.WellFormed.{IsWellFormed}
use Rattle.store_records.specs.Stored.{IsStorable}
use Rattle.store_acts.specs.Acts.{act_done, state_after}
use Rattle.store_acts.specs.Sound.{Fits, IsAct}
use Rattle.store_acts.specs.declared.act.Act.{Act}
use Rattle.store_acts.specs.declared.act.Act.TheVariants.{Leave, Left}
use Rattle.store_laws.specs.Moves.{all_parts}
use Rattle.store_state.specs.Outcomes.{now_done}
use Rattle.store_state.specs.State.{held_so, is_leaving, is_of}
use Rattle.store_state.specs.declared.state.Holding.{Holding}
use Rattle.store_state.specs.declared.state.Stay.TheVariants.{Leaving}
use Rattle.store_state.specs.declared.state.StoreState.{StoreState}
use Rattle.store_laws.specs.KeptMoves.{Moves, after_move, leaving_state}
use Rattle.store_laws.specs.Acts.{acts_of}
use Rattle.store_laws.specs.HistoryLaws.{Happens, IsGiven}
use Rattle.store_laws.specs.Shape.{number_after}
use Rattle.store_laws.specs.Happening.{MayHappen, has_moved}
use Rattle.store_laws.specs.MoveKeeping.{KeepAll}

-- the numbers of the hosts' next calls behind a history
abbrev pub numbers_after : (HostId → ℕ) → List Entry → HostId → ℕ
numbers_after next history = λ host. number_after host (next host) history

-- what the stores keep once each has done its acts of a history that moves nothing
abbrev pub states_after : Tree → List Entry → List StoreState → List StoreState
states_after start history states = map (λ state. state_after state (acts_of state.server start None history)) states

-- Stores that keep the tree where a history starts that moves nothing do its acts, and keep the tree where it ends.
abbrev pub PiecesAreKept : Type 0
PiecesAreKept =
    (next : HostId → ℕ) (start : Tree) (history : List Entry) (states : List StoreState) → Happens next start history
    → KeepAll next start states
    → KeepAll (numbers_after next history) (after_history start history) (states_after start history states)

-- whether an entry moved a fileset
abbrev pub moves_one : Entry → Bool
moves_one (Called host k call reply) = has_moved call reply
moves_one _ = false

-- a call by which a host moved a fileset
abbrev pub move_entry : HostId → ℕ → ServerId → List ℕ → ServerId → Entry
move_entry host k server name to = Called host k (MoveFileset server name to) Accepted

-- A history that may happen, cut at its first move. What comes before moves nothing; the move is the host's next call;
-- directly behind it the server that the fileset left learns that it has arrived, and what follows may happen then.
pub record SplitsAt (next : HostId → ℕ) (start : Tree) (before : List Entry) (host : HostId) (k : ℕ)
    (server : ServerId) (name : List ℕ) (to : ServerId) (rest : List Entry) : Type 0 where
  pub happens : Happens next start before
  pub formed : IsWellFormed (after_history start before)
  pub given : IsGiven start.roster (move_entry host k server name to)
  pub number : k ≡ numbers_after next before host
  pub fileset : Fileset
  pub moves : Moves (after_history start before) host server name to fileset
  pub behind : List Entry
  pub left : rest ≡ LeftEntry fileset.server fileset.id ∷ behind
  pub may : MayHappen (numbers_after (numbers_after next before) (move_entry host k server name to ∷ []))
      (after_move (after_history start before) host server name to fileset) behind
  -- where the tree and the numbers end is where they end from there on
  pub tree : after_history start (before ++ move_entry host k server name to ∷ rest)
      ≡ after_history (after_move (after_history start before) host server name to fileset) behind
  pub numbers : (any : HostId) → numbers_after next (before ++ move_entry host k server name to ∷ rest) any
      ≡ numbers_after (numbers_after (numbers_after next before) (move_entry host k server name to ∷ [])) behind any

-- A history that may happen moves nothing, or is cut at its first move.
pub record HistoriesSplit : Type 0 where
  pub whole : (next : HostId → ℕ) (start : Tree) (history : List Entry) → MayHappen next start history
      → list_all (λ entry. not (moves_one entry)) history ≡ true → Happens next start history
  pub parts : (next : HostId → ℕ) (start : Tree) (before : List Entry) (host : HostId) (k : ℕ) (server : ServerId)
      (name : List ℕ) (to : ServerId) (rest : List Entry)
      → MayHappen next start (before ++ move_entry host k server name to ∷ rest)
      → list_all (λ entry. not (moves_one entry)) before ≡ true
      → SplitsAt next start before host k server name to rest

-- A store may be given an act: a disk can have what it keeps, and the act fits that.
pub record MayDo (state : StoreState) (act : Act) : Type 0 where
  pub storable : IsStorable state
  pub is_act : IsAct state.roster state.server act
  pub fits : Fits state act

-- A store may be given acts one after the other.
abbrev pub MayDoAll : StoreState → List Act → Type 0
MayDoAll state acts = (at : ℕ) (act : Act) → slice_get acts at ≡ Some act → MayDo (state_after state (take at acts)) act

-- A fileset is leaving a store for a server, under a ship number. The store tells each of its parts; among the slots
-- that it tells, the first that is leaving is this one's.
pub record IsLeavingAs (state : StoreState) (holding : Holding) (to : ServerId) (ship : ℕ) : Type 0 where
  pub held : held_so (is_of holding.fileset.id) state.slots ≡ Some holding
  pub stay : holding.stay ≡ Leaving to ship
  pub told : (at : ℕ) → at ≤ holding.fileset.objects → IsLeavingOf state holding.fileset.id at
  pub slot : (at : ℕ) × (find (λ slot. is_leaving slot.stay) (slots_from 0 state.slots) ≡ Some (slot_told at holding))

-- two of the states are others then
pub record AreReplaced (states after : List StoreState) (f t : ℕ) (first second : StoreState) : Type 0 where
  pub count : length after ≡ length states
  pub one : slice_get after f ≡ Some first
  pub other : slice_get after t ≡ Some second
  pub rest : (k : ℕ) → k ≢ f → k ≢ t → slice_get after k ≡ slice_get states k

-- A move goes over the stores of two servers. That of the fileset's server does `Leave`; that of the other one takes
-- all parts as the first tells them; and then the first does `Left`. Then the stores of all servers keep the tree
-- behind the move.
pub record GoesOver (next : HostId → ℕ) (tree : Tree) (states : List StoreState) (host : HostId) (server : ServerId)
    (name : List ℕ) (to : ServerId) (fileset : Fileset) (mover : Mover) : Type 0 where
  pub from : StoreState
  pub other : StoreState
  pub sends : slice_get states (fileset.server.0 - 1) ≡ Some from
  pub takes : slice_get states (to.0 - 1) ≡ Some other
  pub from_is : from.server ≡ fileset.server
  pub other_is : other.server ≡ to
  pub two : fileset.server.0 ≢ to.0
  pub leave : MayDo from (Leave fileset.id to)
  pub goes : (act_done from (Leave fileset.id to)).done ≡ now_done Accepted
  pub holding : Holding
  pub same : holding.fileset ≡ fileset
  pub leaving : IsLeavingAs (leaving_state from fileset to) holding to (from.ship + 1)
  pub parts : MayDoAll other (all_parts holding from.server (from.ship + 1) mover)
  pub left : MayDo (leaving_state from fileset to) (Left fileset.id)
  pub gone : (act_done (leaving_state from fileset to) (Left fileset.id)).done ≡ now_done Accepted
  pub kept : (after : List StoreState)
      → AreReplaced states after (fileset.server.0 - 1) (to.0 - 1)
      (act_done (leaving_state from fileset to) (Left fileset.id)).state
      (state_after other (all_parts holding from.server (from.ship + 1) mover))
      → KeepAll (numbers_after next (move_entry host (next host) server name to ∷ []))
      (after_move tree host server name to fileset) after

-- Where a host's next call moves a fileset, and that is accepted, the stores that keep the tree can follow.
abbrev pub MovesGoOver : Type 0
MovesGoOver =
    (next : HostId → ℕ) (tree : Tree) (states : List StoreState) (host : HostId) (server : ServerId) (name : List ℕ)
    (to : ServerId) (fileset : Fileset) (mover : Mover) → IsWellFormed tree → KeepAll next tree states
    → Moves tree host server name to fileset → IsMover tree.roster mover → mover.host ≡ host
    → mover.number ≡ next host → GoesOver next tree states host server name to fileset mover
