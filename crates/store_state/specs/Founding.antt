-- How filesets come about in a store.
use Rattle.std.specs.Prelude.{ℕ, ◌+◌, ◌*◌, nat_lt, nat_le, if◌then◌else◌, List, length}
use Rattle.std.specs.Prelude.{slice_set, Option, Some, is_none, unwrap_or, Result, Ok, Err}
use Rattle.std.specs.List.{list_any, position, sum_by}
use Rattle.std.specs.Option.{option_map_or}
use Rattle.base_types.specs.Outcomes.{and_then, either}
use Rattle.base_types.specs.declared.ids.FilesetId.{FilesetId}
use Rattle.base_types.specs.declared.limits.TheConstants.{FILESET_NUMBER_MAX}
use Rattle.base_types.specs.declared.user.User.{User}
use Rattle.tree_calls.specs.declared.reply.Refusal.{Refusal}
use Rattle.tree_calls.specs.declared.reply.Refusal.TheVariants.{Exists, TooMany, NoRoom, NotHome, NoFileset}
use Rattle.tree_calls.specs.declared.reply.Reply.TheVariants.{Ok as Accepted}
use Rattle.tree_filesets.specs.declared.fileset.Fileset.{Fileset}
use Rattle.tree_filesets.specs.Checks.{unless}
use Rattle.tree_filesets.specs.Founding.{new_fileset, control_check, cloned}
use Rattle.tree_filesets.specs.Promises.{promise, new_promise, clone_promise}
use Rattle.store_state.specs.declared.state.Stay.{Stay}
use Rattle.store_state.specs.declared.state.Stay.TheVariants.{Writable, Clone}
use Rattle.store_state.specs.declared.state.Holding.{Holding}
use Rattle.store_state.specs.declared.state.StoreState.{StoreState}
use Rattle.store_state.specs.Sought.{is_named}
use Rattle.store_state.specs.State.{no_records, is_gone, is_used_so, is_here_as, is_gone_as, held_so}
use Rattle.store_state.specs.Outcomes.{Answer, refuse}

-- the blocks that a slot is promised: as many as its fileset, and none for one that has left
abbrev pub held_promise : Option Holding → ℕ
held_promise slot = option_map_or (λ holding. if is_gone holding.stay then 0 else promise holding.fileset) slot 0

-- the blocks that a store has promised
abbrev pub promised : List (Option Holding) → ℕ
promised slots = sum_by held_promise slots

-- the lowest slot that is free, or the end of the table
abbrev pub free_slot : List (Option Holding) → ℕ
free_slot slots = unwrap_or (position is_none slots) (length slots)

-- a slot for a fileset more that is promised so many blocks: TooMany; NoRoom
abbrev pub slot_for : StoreState → ℕ → ℕ → Result ℕ Refusal
slot_for state slot blocks =
    unless (nat_le (length state.slots) slot) TooMany (
    unless (nat_lt state.capacity (promised state.slots + blocks)) NoRoom (
    Ok slot))

-- a slot for a new fileset of this name: Exists; TooMany (slots, or numbers of filesets); NoRoom
abbrev pub room_for : StoreState → List ℕ → ℕ → Result ℕ Refusal
room_for state name blocks =
    unless (list_any (is_used_so (is_named name)) state.slots) Exists (
    unless (nat_lt FILESET_NUMBER_MAX state.next) TooMany (
    slot_for state (free_slot state.slots) blocks))

-- the id of the next fileset
abbrev pub next_id : StoreState → FilesetId
next_id state = record { 0 = state.server.0 * 65536 + state.next }

-- a store with a fileset more, for which it gave a number
abbrev pub with_new : StoreState → ℕ → Stay → Fileset → StoreState
with_new state slot stay fileset = record state {
  next = state.next + 1;
  slots = slice_set state.slots slot (Some (record { stay = stay; fileset = fileset; records = no_records }));
}

-- NewFileset: a fileset with an empty root
unfoldable pub new_fileset_answer : StoreState → List ℕ → ℕ → User → Answer
new_fileset_answer state name objects owner =
    either (room_for state name (new_promise objects))
    (λ slot. record {
      reply = Accepted;
      state = with_new state slot Writable (new_fileset state.server (next_id state) name objects owner);
    })
    (refuse state)

-- why no fileset of a name is here: it has left, or never was
abbrev pub why_absent : StoreState → List ℕ → Refusal
why_absent state name = if list_any (is_used_so (is_gone_as name)) state.slots then NotHome else NoFileset

-- the fileset to be cloned: NotHome (it has left); NoFileset
abbrev pub source_named : StoreState → List ℕ → Result Fileset Refusal
source_named state name =
    option_map_or (λ holding. Ok holding.fileset) (held_so (is_here_as name) state.slots) (Err (why_absent state name))

-- CloneFileset: NotHome, NoFileset; ReadOnly; Denied (control of the root); Exists; TooMany; NoRoom
unfoldable pub clone_target : StoreState → User → List ℕ → List ℕ → Result (Fileset × ℕ) Refusal
clone_target state user source new =
    and_then (source_named state source) (λ fileset.
    and_then (control_check fileset user) (λ _.
    and_then (room_for state new (clone_promise fileset)) (λ slot.
    Ok (fileset, slot))))

-- CloneFileset: a read-only copy
unfoldable pub clone_answer : StoreState → User → List ℕ → List ℕ → Answer
clone_answer state user source new =
    either (clone_target state user source new)
    (λ (fileset, slot).
    record { reply = Accepted; state = with_new state slot Clone (cloned fileset (next_id state) new) })
    (refuse state)
