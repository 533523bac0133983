-- What a server's store tells of a Change that a host asks for: why it is refused, or else what it needs.
use Rattle.std.specs.List.{filter, flat_map}
use Rattle.std.specs.Option.{option_map, option_map_or}
use Rattle.std.specs.Prelude.{Bool, IsTrue, List, None, Option, Some, [], false, if◌then◌else◌, is_none, not, slice_get}
use Rattle.std.specs.Prelude.{Ok, true, ℕ, ◌&&◌, ◌++◌, ◌==◌, ◌≡◌, ◌⊎◌}
use Rattle.base_types.specs.Access.{allows, rights_of}
use Rattle.base_types.specs.declared.ids.Fid.{Fid}
use Rattle.base_types.specs.declared.ids.FilesetId.{FilesetId}
use Rattle.base_types.specs.declared.ids.HostId.{HostId}
use Rattle.base_types.specs.declared.ids.ServerId.{ServerId}
use Rattle.base_types.specs.declared.user.User.{User}
use Rattle.tree_calls.specs.Rosters.{user_of}
use Rattle.tree_calls.specs.declared.call.Call.{Call}
use Rattle.tree_calls.specs.declared.call.Call.TheVariants.{CloneFileset, MoveFileset, NewFileset}
use Rattle.tree_calls.specs.declared.part.Status.{Status}
use Rattle.tree_calls.specs.declared.reply.Refusal.{Refusal}
use Rattle.tree_calls.specs.declared.reply.Refusal.TheVariants.{Denied, Exists, NoFileset, ReadOnly}
use Rattle.tree_calls.specs.declared.reply.Reply.{Reply}
use Rattle.tree_calls.specs.declared.reply.Reply.TheVariants.{Refused}
use Rattle.tree_filesets.specs.Rights.{control_right}
use Rattle.tree_filesets.specs.declared.fileset.Fileset.{Fileset}
use Rattle.tree_answers.specs.Finding.{fileset_named}
use Rattle.tree_answers.specs.declared.tree.Tree.{Tree}
use Rattle.token_types.specs.declared.token.Need.{Need}
use Rattle.message_types.specs.Soundness.{IsDecided}
use Rattle.message_types.specs.declared.asking.Change.{Change as ChangeOf}
use Rattle.need_host.specs.Questions.{fileset_of}
use Rattle.need_host.specs.Walks.{root_of}
use Rattle.need_server.specs.Wants.{all_of, every_use_of}
use Rattle.store_memory.specs.Reading.{files_of, looked_up, status_told}
use Rattle.store_state.specs.Rows.{answer_to, found_named}
use Rattle.store_state.specs.declared.state.StoreState.{StoreState}
use Rattle.run_rules.specs.ServerDecides.{IsMeantSo, NotRefused, RefusedOn}
use Rattle.run_rules.specs.Wants.{row_needs}
use Rattle.run_stores.specs.Keeping.{StandsFor}
use Rattle.run_stores.specs.Wanting.{want_by}

-- the server whose filesets a call is about; the end of a lock or an open is about none
abbrev pub server_of : Call → Option ServerId
server_of (NewFileset server name objects owner) = Some server
server_of (CloneFileset server source new) = Some server
server_of call = option_map (λ place. place.0) (fileset_of call)

abbrev pub is_own : ServerId → Option ServerId → Bool
is_own server None = false
is_own server (Some other) = other.0 == server.0

-- the fileset of a server and a name, where the store's server has it
abbrev pub named_told : StoreState → Option (ServerId × List ℕ) → Option FilesetId
named_told state None = None
named_told state (Some place) = if place.0.0 == state.server.0 then found_named state place.1 else None

-- the fileset that a call names
abbrev pub entered_told : StoreState → Call → Option FilesetId
entered_told state call = named_told state (fileset_of call)

-- # Why a Change is refused

abbrev pub refusal_in : Reply → Option Refusal
refusal_in (Refused refusal) = Some refusal
refusal_in _ = None

-- whether a user has a right on an object of this status
abbrev pub has_right : Status → User → ℕ → Bool
has_right status user right =
    option_map_or (λ list. allows (rights_of list status.owner status.group user) right)
    (slice_get status.lists 0) false

-- A move of a fileset with this root, as far as its server can tell alone: NoFileset; ReadOnly; Denied (control);
-- Exists (it is there).
abbrev pub move_refused : ServerId → User → ServerId → Option Status → Option Refusal
move_refused server user to None = Some NoFileset
move_refused server user to (Some status) =
    if status.read_only then Some ReadOnly
    else (if has_right status user control_right
    then (if to.0 == server.0 then Some Exists else None) else Some (Denied control_right))

abbrev pub move_told : StoreState → User → List ℕ → ServerId → Option Refusal
move_told state user name to =
    option_map_or (λ id. move_refused state.server user to (status_told state (root_of id))) (found_named state name)
    (Some NoFileset)

-- a call about the server's own filesets
abbrev pub own_refusal : StoreState → HostId → User → Call → Option Refusal
own_refusal state host user (MoveFileset server name to) = move_told state user name to
own_refusal state host user call = refusal_in (answer_to state host call).reply

abbrev pub refusal_told : StoreState → HostId → User → Call → Option Refusal
refusal_told state host user call =
    if is_own state.server (server_of call) then own_refusal state host user call else Some NoFileset

-- a Change; one that enters a fileset, where that isn't there
abbrev pub change_refused : StoreState → HostId → User → ChangeOf → Option Refusal
change_refused state host user change =
    if change.enter then (if is_none (entered_told state change.call) then Some NoFileset else None)
    else refusal_told state host user change.call

-- # What a Change needs

-- whether a call takes the whole of a source, as a clone and a move do
abbrev pub takes_source : Call → Bool
takes_source (CloneFileset server source new) = true
takes_source (MoveFileset server name to) = true
takes_source call = false

-- whether a source is refused so
abbrev pub denies_source : Refusal → Bool
denies_source NoFileset = true
denies_source ReadOnly = true
denies_source (Denied right) = true
denies_source refusal = false

-- Whether a call needs something where it is refused so: one that isn't refused may, and a clone or a move whose source
-- is there and may be taken.
abbrev pub needs_some : Call → Option Refusal → Bool
needs_some call None = true
needs_some call (Some refusal) = takes_source call && not (denies_source refusal)

-- the objects of a fileset that are files
abbrev pub is_file_told : StoreState → Fid → Bool
is_file_told state fid = option_map_or (λ (status : Status). not status.dir) (status_told state fid) false

abbrev pub whole_of : Fid → List Need
whole_of fid = all_of true fid ++ every_use_of fid

-- what a call needs: a clone all files of its source, a move all of it, and any other what its places lead to
abbrev pub needs_told : StoreState → User → Call → List Need
needs_told state user (CloneFileset server source new) =
    option_map_or (λ id. flat_map (all_of false) (filter (is_file_told state) (files_of state id)))
    (found_named state source) []
needs_told state user (MoveFileset server name to) =
    option_map_or (λ id. flat_map whole_of (files_of state id)) (found_named state name) []
needs_told state user call = want_by (looked_up state user) call

abbrev pub change_needs : StoreState → HostId → User → ChangeOf → List Need
change_needs state host user change =
    if change.enter then []
    else (if needs_some change.call (refusal_told state host user change.call)
    then needs_told state user change.call else [])

-- # Both are as by the rules

-- A Change that a sound message to the server has, and that is meant so that it can be answered.
pub record CanBeAsked (server : ServerId) (change : ChangeOf) : Type 0 where
  pub decided : IsTrue change.enter ⊎ IsDecided server change.call
  pub meant : IsMeantSo change

-- a host that is declared asks the server of a store, which stands for what the server keeps
pub record Asks (tree : Tree) (state : StoreState) (host : HostId) (user : User) (change : ChangeOf) : Type 0 where
  pub stands : StandsFor tree state
  pub known : user_of tree.roster host ≡ Some user
  pub asked : CanBeAsked state.server change

-- the fileset that a call names, in the tree
pub record IsEnteredAs (tree : Tree) (call : Call) (id : FilesetId) : Type 0 where
  pub fileset : Fileset
  pub place : ServerId × List ℕ
  pub named : fileset_of call ≡ Some place
  pub found : fileset_named tree place.0 place.1 ≡ Ok fileset
  pub its : fileset.id ≡ id

-- What the store tells is what the rules say on what the server keeps.
pub record ChangesAreTold : Type 0 where
  pub refused : (tree : Tree) (state : StoreState) (host : HostId) (user : User) (change : ChangeOf)
      (refusal : Refusal)
      → Asks tree state host user change → change_refused state host user change ≡ Some refusal
      → RefusedOn tree host change refusal
  pub accepted : (tree : Tree) (state : StoreState) (host : HostId) (user : User) (change : ChangeOf)
      → Asks tree state host user change → change_refused state host user change ≡ None
      → NotRefused tree host change
  pub needs : (tree : Tree) (state : StoreState) (host : HostId) (user : User) (change : ChangeOf)
      → Asks tree state host user change
      → change_needs state host user change ≡ row_needs tree host change
  pub entered : (tree : Tree) (state : StoreState) (call : Call) (id : FilesetId) → StandsFor tree state
      → entered_told state call ≡ Some id → IsEnteredAs tree call id
