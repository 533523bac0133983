-- What a store replies to each call, on what it keeps, while nothing is locked or open.
use Rattle.std.specs.Prelude.{ℕ, ◌+◌, ◌==◌, nat_lt, Bool, false, ◌&&◌, not, List, Option, Some, None, Result, Ok, Err}
use Rattle.std.specs.Option.{option_map_or, option_map}
use Rattle.base_types.specs.Name.{same_name}
use Rattle.base_types.specs.Outcomes.{and_then, either}
use Rattle.base_types.specs.declared.ids.Fid.{Fid}
use Rattle.base_types.specs.declared.ids.FilesetId.{FilesetId}
use Rattle.base_types.specs.declared.ids.HostId.{HostId}
use Rattle.base_types.specs.declared.ids.OpenKind.{OpenKind}
use Rattle.base_types.specs.declared.limits.TheConstants.{FILE_BYTES_MAX}
use Rattle.base_types.specs.declared.user.User.{User}
use Rattle.tree_calls.specs.Rosters.{user_of}
use Rattle.tree_calls.specs.declared.call.Call.{Call}
use Rattle.tree_calls.specs.declared.call.Call.TheVariants.{
  NewFileset,
  Create,
  MakeDir,
  Remove,
  Rename,
  Truncate,
  SetAcl,
  CloneFileset,
  Read,
  Write,
  List as ListNames,
  Stat,
  GetAcl,
  Sync,
  Lock,
  Unlock,
  OpenFile,
  CloseFile,
  MoveFileset,
}
use Rattle.tree_calls.specs.declared.place.Place.{Place}
use Rattle.tree_calls.specs.declared.reply.Refusal.{Refusal}
use Rattle.tree_calls.specs.declared.reply.Refusal.TheVariants.{
  Denied,
  NoFileset,
  CrossFileset,
  TooBig,
  NotLocked,
  NotOpened,
}
use Rattle.tree_calls.specs.declared.reply.Reply.{Reply}
use Rattle.tree_calls.specs.declared.reply.Reply.TheVariants.{Ok as Accepted, Refused}
use Rattle.tree_filesets.specs.declared.fileset.Fileset.{Fileset}
use Rattle.tree_filesets.specs.Checks.{unless}
use Rattle.tree_filesets.specs.Rows.{fileset_answer}
use Rattle.tree_filesets.specs.Uses.{lock_target, open_target}
use Rattle.store_state.specs.declared.state.Holding.{Holding}
use Rattle.store_state.specs.declared.state.StoreState.{StoreState}
use Rattle.store_state.specs.State.{is_here_as, slot_so, held_at, held_so, with_held}
use Rattle.store_state.specs.Outcomes.{Answer, refuse}
use Rattle.store_state.specs.Founding.{new_fileset_answer, clone_answer}

-- whether two places are in one fileset
abbrev pub same_fileset : Place → Place → Bool
same_fileset from to = (from.server.0 == to.server.0) && same_name from.fileset to.fileset

-- nothing is locked or open
abbrev pub nothing_used : Fid → Bool
nothing_used fid = false

-- the fileset of a name that is here
abbrev pub fileset_here : StoreState → List ℕ → Result Fileset Refusal
fileset_here state name =
    option_map_or (λ holding. Ok holding.fileset) (held_so (is_here_as name) state.slots) (Err NoFileset)

-- a holding whose fileset answered a call
abbrev pub held_answered : HostId → User → Call → Holding → Holding
held_answered host user call holding =
    record holding { fileset = (fileset_answer holding.fileset nothing_used host user call).fileset }

-- what it replied
abbrev pub held_reply : HostId → User → Call → Option Holding → Reply
held_reply host user call None = Refused NoFileset
held_reply host user call (Some holding) = (fileset_answer holding.fileset nothing_used host user call).reply

-- a call that one fileset decides, which has this name
unfoldable pub named_row : StoreState → List ℕ → HostId → User → Call → Answer
named_row state name host user call =
    let at = slot_so (is_here_as name) state.slots in
    record {
      reply = held_reply host user call (held_at state.slots at);
      state = with_held state at (held_answered host user call);
    }

-- whether an object may be moved between two places: NoFileset; CrossFileset (they are in two filesets)
abbrev pub move_check : StoreState → Place → Place → Result (Unit {0}) Refusal
move_check state from to =
    and_then (fileset_here state from.fileset) (λ fileset. unless (not (same_fileset from to)) CrossFileset (Ok tt))

-- Rename: within the fileset of a name
unfoldable pub rename_row : StoreState → HostId → User → Place → Place → Answer
rename_row state host user from to =
    either (move_check state from to) (λ _. named_row state from.fileset host user (Rename from to)) (refuse state)

-- the reply to a use of a file
abbrev pub use_of : Result Fid Refusal → Reply
use_of target = either target (λ fid. Accepted) (λ refusal. Refused refusal)

-- Lock: NoFileset; walk; IsDir; ReadOnly; Denied; TooBig
unfoldable pub lock_check : StoreState → User → Place → Bool → ℕ → Result Fid Refusal
lock_check state user place writing end =
    and_then (fileset_here state place.fileset) (λ fileset.
    and_then (lock_target fileset user place.path writing) (λ fid.
    unless (nat_lt FILE_BYTES_MAX end) TooBig (Ok fid)))

-- OpenFile: NoFileset; walk; IsDir; ReadOnly; Denied
unfoldable pub open_check : StoreState → User → Place → OpenKind → Result Fid Refusal
open_check state user place kind =
    and_then (fileset_here state place.fileset) (λ fileset. open_target fileset user place.path kind)

-- the reply to a call that uses a file, or is none that a store decides
abbrev pub use_reply : StoreState → Call → User → Reply
use_reply state (Lock label place writing from len) user = use_of (lock_check state user place writing (from + len))
use_reply state (OpenFile label place kind) user = use_of (open_check state user place kind)
use_reply state (Unlock label) user = Refused NotLocked
use_reply state (CloseFile label) user = Refused NotOpened
use_reply state _ user = Refused NoFileset

-- it changes nothing
abbrev pub unchanged : StoreState → Reply → Answer
unchanged state reply = record { reply = reply; state = state }

-- A call of a user at a host. A place is in the fileset of its name that is here.
unfoldable pub answer_for : StoreState → HostId → Call → User → Answer
answer_for state host (NewFileset server name objects owner) user = new_fileset_answer state name objects owner
answer_for state host (CloneFileset server source new) user = clone_answer state user source new
answer_for state host (MoveFileset server name to) user =
    unchanged state (use_reply state (MoveFileset server name to) user)
answer_for state host (Lock label place writing from len) user =
    unchanged state (use_reply state (Lock label place writing from len) user)
answer_for state host (Unlock label) user = unchanged state (use_reply state (Unlock label) user)
answer_for state host (OpenFile label place kind) user =
    unchanged state (use_reply state (OpenFile label place kind) user)
answer_for state host (CloseFile label) user = unchanged state (use_reply state (CloseFile label) user)
answer_for state host (Create place) user = named_row state place.fileset host user (Create place)
answer_for state host (MakeDir place) user = named_row state place.fileset host user (MakeDir place)
answer_for state host (Remove place) user = named_row state place.fileset host user (Remove place)
answer_for state host (Rename from to) user = rename_row state host user from to
answer_for state host (Truncate place len) user = named_row state place.fileset host user (Truncate place len)
answer_for state host (SetAcl place which list) user = named_row state place.fileset host user (SetAcl place which list)
answer_for state host (Read place from len) user = named_row state place.fileset host user (Read place from len)
answer_for state host (Write place from bytes) user = named_row state place.fileset host user (Write place from bytes)
answer_for state host (ListNames place) user = named_row state place.fileset host user (ListNames place)
answer_for state host (Stat place) user = named_row state place.fileset host user (Stat place)
answer_for state host (GetAcl place which) user = named_row state place.fileset host user (GetAcl place which)
answer_for state host (Sync place) user = named_row state place.fileset host user (Sync place)

-- a call of a host; one that isn't declared acts for nobody
unfoldable pub answer_to : StoreState → HostId → Call → Answer
answer_to state host call =
    option_map_or (answer_for state host call) (user_of state.roster host) (refuse state (Denied 0))

-- the name of the fileset under which a call is numbered; none for a call about filesets themselves
abbrev pub numbered_name : Call → Option (List ℕ)
numbered_name (Create place) = Some place.fileset
numbered_name (MakeDir place) = Some place.fileset
numbered_name (Remove place) = Some place.fileset
numbered_name (Rename from to) = Some from.fileset
numbered_name (Truncate place len) = Some place.fileset
numbered_name (SetAcl place which list) = Some place.fileset
numbered_name (NewFileset server name objects owner) = None
numbered_name (CloneFileset server source new) = None
numbered_name (Read place from len) = Some place.fileset
numbered_name (Write place from bytes) = Some place.fileset
numbered_name (ListNames place) = Some place.fileset
numbered_name (Stat place) = Some place.fileset
numbered_name (GetAcl place which) = Some place.fileset
numbered_name (Sync place) = Some place.fileset
numbered_name (Lock label place writing from len) = Some place.fileset
numbered_name (Unlock label) = None
numbered_name (OpenFile label place kind) = Some place.fileset
numbered_name (CloseFile label) = None
numbered_name (MoveFileset server name to) = Some name

-- the server itself, for calls about filesets themselves
abbrev pub itself : FilesetId
itself = record { 0 = 0 }

-- the fileset of a name that is here
abbrev pub found_named : StoreState → List ℕ → Option FilesetId
found_named state name = option_map (λ holding. holding.fileset.id) (held_so (is_here_as name) state.slots)

-- under what a call is numbered here; None where its fileset isn't here
abbrev pub numbered_id : StoreState → Option (List ℕ) → Option FilesetId
numbered_id state None = Some itself
numbered_id state (Some name) = found_named state name
