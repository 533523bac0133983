-- A fileset that comes about in a store and in a tree, and the room of one that has left.
use Rattle.std.specs.Prelude.{◌≡◌, ◌⊎◌, ℕ, nat_le, Bool, true, false, List, length, Some, Ok}
use Rattle.std.specs.List.{find, list_any}
use Rattle.base_types.specs.declared.ids.ServerId.{ServerId}
use Rattle.base_types.specs.declared.limits.TheConstants.{FILESETS_MAX}
use Rattle.base_types.specs.declared.user.User.{User}
use Rattle.tree_calls.specs.declared.reply.Refusal.{Refusal}
use Rattle.tree_calls.specs.declared.reply.Reply.TheVariants.{Ok as Accepted}
use Rattle.tree_filesets.specs.declared.fileset.Fileset.{Fileset}
use Rattle.tree_filesets.specs.Founding.{new_fileset, cloned}
use Rattle.tree_answers.specs.declared.tree.Away.{Away}
use Rattle.tree_answers.specs.declared.tree.ServerRoom.{ServerRoom}
use Rattle.tree_answers.specs.declared.tree.Tree.{Tree}
use Rattle.tree_answers.specs.Finding.{fileset_named, is_taken, has_id, Answer as TreeAnswer, refuse as tree_refuse}
use Rattle.tree_answers.specs.Founding.{
  room_of,
  count_at,
  promised_at,
  away_promise,
  with_fileset,
  new_fileset_answer as tree_new_fileset,
  clone_answer as tree_clone,
}
use Rattle.store_acts.specs.Acts.{act_done}
use Rattle.store_acts.specs.Moving.{with_holding, held_left}
use Rattle.store_acts.specs.declared.act.Act.TheVariants.{Left}
use Rattle.store_state.specs.Founding.{
  free_slot,
  promised,
  held_promise,
  next_id,
  with_new,
  source_named,
  new_fileset_answer,
  clone_answer,
}
use Rattle.store_state.specs.Outcomes.{Answer, refuse, fresh}
use Rattle.store_state.specs.Sought.{is_named}
use Rattle.store_state.specs.State.{is_of, is_used_so, held_so}
use Rattle.store_state.specs.declared.state.Holding.{Holding}
use Rattle.store_state.specs.declared.state.Stay.{Stay}
use Rattle.store_state.specs.declared.state.Stay.TheVariants.{Writable, Clone, Leaving, Gone}
use Rattle.store_state.specs.declared.state.StoreState.{StoreState}

-- what a store has for further filesets
abbrev pub room_in : StoreState → ServerRoom
room_in state = record { capacity = state.capacity; next = state.next }

-- A store has the room that its server has in a tree: the same names are taken, it is as full, and has promised as
-- much.
pub record HaveRoom (tree : Tree) (state : StoreState) : Type 0 where
  pub room : room_of tree.servers state.server ≡ Some (room_in state)
  pub names : (name : List ℕ) → is_taken tree state.server name ≡ list_any (is_used_so (is_named name)) state.slots
  pub full : nat_le FILESETS_MAX (count_at tree state.server) ≡ nat_le (length state.slots) (free_slot state.slots)
  pub blocks : promised_at tree state.server ≡ promised state.slots

-- both have this fileset more, under the server's next number
pub record BothMake (tree : Tree)
    (state : StoreState) (stay : Stay) (fileset : Fileset) (kept : Answer) (told : TreeAnswer) : Type 0 where
  pub in_store : kept ≡ record { reply = Accepted; state = with_new state (free_slot state.slots) stay fileset }
  pub in_tree : told ≡ record { reply = Accepted; tree = with_fileset tree state.server (room_in state) fileset }

-- both refuse it alike
pub record BothRefuse (tree : Tree) (state : StoreState) (kept : Answer) (told : TreeAnswer) (refusal : Refusal)
    : Type 0 where
  pub in_store : kept ≡ refuse state refusal
  pub in_tree : told ≡ tree_refuse tree refusal

abbrev pub FoundAlike : Tree → StoreState → Stay → Fileset → Answer → TreeAnswer → Type 0
FoundAlike tree state stay fileset kept told =
    BothMake tree state stay fileset kept told ⊎ ((refusal : Refusal) × BothRefuse tree state kept told refusal)

-- Where a store has its server's room, a new fileset comes about in both or in neither; and so does a clone of a
-- fileset that both have at the server under a name, with nothing unsaved.
pub record StoresFoundAsTrees : Type 0 where
  pub made : (tree : Tree) (state : StoreState) (name : List ℕ) (objects : ℕ) (owner : User) → HaveRoom tree state
      → FoundAlike tree state Writable (new_fileset state.server (next_id state) name objects owner)
      (new_fileset_answer state name objects owner) (tree_new_fileset tree state.server name objects owner)
  pub copied : (tree : Tree) (state : StoreState) (user : User) (source new : List ℕ) (fileset : Fileset)
      → HaveRoom tree state → source_named state source ≡ Ok fileset
      → fileset_named tree state.server source ≡ Ok fileset → fileset.server ≡ state.server
      → FoundAlike tree state Clone (cloned fileset (next_id state) new) (clone_answer state user source new)
      (tree_clone tree user state.server source new)

-- a fileset that is leaving a store, and a tree's record of it, which still keeps its room
pub record IsAwayOf (filesets : List Fileset) (away : Away) (holding : Holding) (to : ServerId) : Type 0 where
  pub leaving : (ship : ℕ) × (holding.stay ≡ Leaving to ship)
  pub moved : (fileset : Fileset)
      × (find (has_id away.fileset) filesets ≡ Some fileset) × (fileset.objects ≡ holding.fileset.objects)
      × (fileset.read_only ≡ false)
  pub writable : holding.fileset.read_only ≡ false
  pub kept : away.room_kept ≡ true

-- What `Left` makes of a store: the fileset is gone, its name stays taken, and its room is freed, which until then was
-- as much as the tree's record keeps.
pub record LeavesAsTree (holding : Holding) (to : ServerId) (filesets : List Fileset) (away : Away) : Type 0 where
  pub before : held_promise (Some holding) ≡ away_promise filesets away
  pub after : held_promise (Some (held_left holding)) ≡ away_promise filesets (record away { room_kept = false })
  pub named : (name : List ℕ) → is_named name (held_left holding) ≡ is_named name holding
  pub gone : (held_left holding).stay ≡ Gone to

pub record StoresLeaveAsTrees : Type 0 where
  pub left : (state : StoreState) (holding : Holding) (to : ServerId) (filesets : List Fileset) (away : Away)
      → held_so (is_of away.fileset) state.slots ≡ Some holding → IsAwayOf filesets away holding to
      → act_done state (Left away.fileset) ≡ fresh Accepted (with_holding state away.fileset held_left)
  pub room : (holding : Holding) (to : ServerId) (filesets : List Fileset) (away : Away)
      → IsAwayOf filesets away holding to → LeavesAsTree holding to filesets away
