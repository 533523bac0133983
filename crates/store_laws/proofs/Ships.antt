-- Acts of a history that moves nothing leave what a store has of ships.
use Rattle.store_laws.proofs.HistorySteps.{each_append}
use Rattle.std.proofs.Common.{◌≡◌, ℕ, Bool, true, false, List, [], ◌∷◌, ◌++◌, Option, Some, None, Result, Ok, Err, refl, sym, ◌∙◌, subst}
use Rattle.std.specs.Prelude.{if◌then◌else◌}
use Rattle.std.specs.Option.{option_map_or}
use Rattle.base_types.specs.Lists.{changed_at}
use Rattle.base_types.specs.Outcomes.{either}
use Rattle.base_types.specs.declared.ids.Fid.{Fid}
use Rattle.base_types.specs.declared.ids.FilesetId.{FilesetId}
use Rattle.base_types.specs.declared.ids.HostId.{HostId}
use Rattle.base_types.specs.declared.ids.ServerId.{ServerId}
use Rattle.base_types.specs.declared.user.User.{User}
use Rattle.tree_calls.specs.Rosters.{user_of}
use Rattle.tree_calls.specs.declared.call.Call.{Call}
use Rattle.tree_calls.specs.declared.call.Call.TheVariants.{
  NewFileset,
  Create,
  MakeDir,
  Remove,
  Rename,
  Truncate,
  SetAcl,
  CloneFileset,
  Read,
  Write,
  List as ListNames,
  Stat,
  GetAcl,
  Sync,
  Lock,
  Unlock,
  OpenFile,
  CloseFile,
  MoveFileset,
}
use Rattle.tree_calls.specs.declared.entry.Entry.{Entry}
use Rattle.tree_calls.specs.declared.entry.Entry.TheVariants.{Call as Called, Stored, Down, Left as LeftEntry}
use Rattle.tree_calls.specs.declared.part.Piece.{Piece}
use Rattle.tree_calls.specs.declared.place.Place.{Place}
use Rattle.tree_calls.specs.declared.reply.Refusal.{Refusal}
use Rattle.tree_calls.specs.declared.reply.Refusal.TheVariants.{NoFileset, Denied}
use Rattle.tree_calls.specs.declared.reply.Reply.TheVariants.{Ok as Accepted, Bytes, Names, Facts, Access, Refused}
use Rattle.tree_calls.specs.declared.ship.Record.{Record}
use Rattle.tree_answers.specs.declared.tree.Tree.{Tree}
use Rattle.tree_answers.specs.Histories.{after_entry}
use Rattle.message_types.specs.Soundness.{Each}
use Rattle.store_acts.specs.Acts.{act_done, do_outcome, state_after}
use Rattle.store_acts.specs.Sound.{IsAct, KeepsLimits}
use Rattle.store_acts.specs.declared.act.Act.{Act}
use Rattle.store_acts.specs.declared.act.Act.TheVariants.{
  Boot,
  Epoch,
  Host,
  Do,
  Refuse,
  Give,
  Leave,
  Back,
  Left,
  Settle,
  Part,
}
use Rattle.store_acts.proofs.Next.{act_next}
use Rattle.store_state.specs.Founding.{clone_answer, clone_target, new_fileset_answer, room_for}
use Rattle.store_state.specs.Giving.{give_outcome, held_given}
use Rattle.store_state.specs.Outcomes.{
  Answer,
  Outcome,
  applied_before,
  change_decided,
  decided,
  decided_before,
  decided_once,
  give_applied,
  refuse,
  stale,
  unless_before,
}
use Rattle.store_state.specs.Rows.{answer_for, answer_to, move_check, named_row, numbered_id, numbered_name, rename_row}
use Rattle.store_state.specs.State.{held_noted, is_of, is_server, slot_so, with_held, with_record}
use Rattle.store_state.specs.declared.done.Done.{Done}
use Rattle.store_state.specs.declared.state.StoreState.{StoreState}
use Rattle.store_laws.specs.Acts.{act_if, acts_of, call_acts, entry_acts, number_written}

-- the same ships sent and taken
pub record SameShips (old new : StoreState) : Type 0 where
  pub ship : new.ship ≡ old.ship
  pub taken : new.taken ≡ old.taken

same_self : (state : StoreState) → SameShips state state
same_self state = record { ship = refl; taken = refl }

same_then : (a b c : StoreState) → SameShips a b → SameShips b c → SameShips a c
same_then a b c h k = record { ship = k.ship ∙ h.ship; taken = k.taken ∙ h.taken }

ships_record : (state : StoreState) (id : FilesetId) (host : HostId) (f : Record → Record) →
    SameShips state (with_record state id host f)
ships_record state id host f = by (is_server id)
  where
    by : (b : Bool) → SameShips state (if b
        then record state { records = changed_at state.records host.0 f }
        else with_held state (slot_so (is_of id) state.slots) (held_noted host f))
    by true = record { ship = refl; taken = refl }
    by false = record { ship = refl; taken = refl }

ships_either : {A : Type 0} (checked : Result A Refusal) (state : StoreState) (done : A → Answer) →
    ((a : A) → SameShips state (done a).state) → SameShips state (either checked done (refuse state)).state
ships_either (Ok a) state done k = k a
ships_either (Err refusal) state done k = same_self state

ships_named : (state : StoreState) (name : List ℕ) (host : HostId) (user : User) (call : Call) →
    SameShips state (named_row state name host user call).state
unfolding named_row
ships_named state name host user call = record { ship = refl; taken = refl }

ships_rename : (state : StoreState) (host : HostId) (user : User) (from to : Place) →
    SameShips state (rename_row state host user from to).state
unfolding rename_row
ships_rename state host user from to =
    ships_either (move_check state from to) state _ (λ a. ships_named state from.fileset host user (Rename from to))

ships_found : (state : StoreState) (name : List ℕ) (objects : ℕ) (owner : User) →
    SameShips state (new_fileset_answer state name objects owner).state
unfolding new_fileset_answer
ships_found state name objects owner =
    ships_either (room_for state name _) state _ (λ slot. record { ship = refl; taken = refl })

ships_clone : (state : StoreState) (user : User) (source new : List ℕ) →
    SameShips state (clone_answer state user source new).state
unfolding clone_answer
ships_clone state user source new =
    ships_either (clone_target state user source new) state _ (λ (fileset, slot). record { ship = refl; taken = refl })

ships_for : (state : StoreState) (host : HostId) (call : Call) (user : User) →
    SameShips state (answer_for state host call user).state
unfolding answer_for
ships_for state host (NewFileset server name objects owner) user = ships_found state name objects owner
ships_for state host (CloneFileset server source new) user = ships_clone state user source new
ships_for state host (MoveFileset server name to) user = same_self state
ships_for state host (Lock label place writing from len) user = same_self state
ships_for state host (Unlock label) user = same_self state
ships_for state host (OpenFile label place kind) user = same_self state
ships_for state host (CloseFile label) user = same_self state
ships_for state host (Create place) user = ships_named state place.fileset host user (Create place)
ships_for state host (MakeDir place) user = ships_named state place.fileset host user (MakeDir place)
ships_for state host (Remove place) user = ships_named state place.fileset host user (Remove place)
ships_for state host (Rename from to) user = ships_rename state host user from to
ships_for state host (Truncate place len) user = ships_named state place.fileset host user (Truncate place len)
ships_for state host (SetAcl place which list) user = ships_named state place.fileset host user (SetAcl place which list)
ships_for state host (Read place from len) user = ships_named state place.fileset host user (Read place from len)
ships_for state host (Write place from bytes) user = ships_named state place.fileset host user (Write place from bytes)
ships_for state host (ListNames place) user = ships_named state place.fileset host user (ListNames place)
ships_for state host (Stat place) user = ships_named state place.fileset host user (Stat place)
ships_for state host (GetAcl place which) user = ships_named state place.fileset host user (GetAcl place which)
ships_for state host (Sync place) user = ships_named state place.fileset host user (Sync place)

ships_answer : (state : StoreState) (host : HostId) (call : Call) → SameShips state (answer_to state host call).state
unfolding answer_to
ships_answer state host call = by (user_of state.roster host)
  where
    by : (o : Option User) →
        SameShips state (option_map_or (answer_for state host call) o (refuse state (Denied 0))).state
    by None = same_self state
    by (Some user) = ships_for state host call user

ships_before : (before : Option Done) (state : StoreState) (outcome : Outcome) → SameShips state outcome.state →
    SameShips state (unless_before before state outcome).state
ships_before None state outcome k = k
ships_before (Some done) state outcome k = same_self state

ships_do : (state : StoreState) (host : HostId) (number : ℕ) (call : Call) →
    SameShips state (act_done state (Do host number call)).state
unfolding act_done do_outcome
ships_do state host number call = by (numbered_id state (numbered_name call))
  where
    by : (o : Option FilesetId) →
        SameShips state (option_map_or (λ id. decided_once state id host number
        (decided id host number (answer_to state host call))) o (stale (Refused NoFileset) state)).state
    by None = same_self state
    by (Some id) =
        let answer = answer_to state host call in
        ships_before (decided_before state id host number) state (decided id host number answer)
        (same_then state answer.state (with_record answer.state id host (change_decided number answer.reply))
        (ships_answer state host call) (ships_record answer.state id host (change_decided number answer.reply)))

ships_give : (state : StoreState) (host : HostId) (number : ℕ) (fid : Fid) (pieces : List Piece) (given : Option ℕ) →
    SameShips state (act_done state (Give host number fid pieces given)).state
unfolding act_done give_outcome
ships_give state host number fid pieces given =
    let held = with_held state (slot_so (is_of fid.fileset) state.slots) (held_given fid pieces given) in
    ships_before (applied_before state fid.fileset host number) state _
    (same_then state held (with_record held fid.fileset host (give_applied number)) (record { ship = refl; taken = refl })
    (ships_record held fid.fileset host (give_applied number)))

-- acts of a history: a call, or what is given back
abbrev pub IsOfHistory : Act → Type 0
IsOfHistory Boot = ⊥
IsOfHistory Epoch = ⊥
IsOfHistory (Host host known) = ⊥
IsOfHistory (Do host number call) = Unit {0}
IsOfHistory (Refuse host id number refusal) = ⊥
IsOfHistory (Give host number fid pieces given) = Unit {0}
IsOfHistory (Leave id to) = ⊥
IsOfHistory (Back host number id refusal) = ⊥
IsOfHistory (Left id) = ⊥
IsOfHistory (Settle id) = ⊥
IsOfHistory (Part from ship id moves at part) = ⊥

ships_act : (state : StoreState) (act : Act) → IsOfHistory act → SameShips state (act_done state act).state
ships_act state Boot h = absurd h
ships_act state Epoch h = absurd h
ships_act state (Host host known) h = absurd h
ships_act state (Do host number call) h = ships_do state host number call
ships_act state (Refuse host id number refusal) h = absurd h
ships_act state (Give host number fid pieces given) h = ships_give state host number fid pieces given
ships_act state (Leave id to) h = absurd h
ships_act state (Back host number id refusal) h = absurd h
ships_act state (Left id) h = absurd h
ships_act state (Settle id) h = absurd h
ships_act state (Part from ship id moves at part) h = absurd h

pub ships_after : (state : StoreState) (acts : List Act) → Each IsOfHistory acts →
    SameShips state (state_after state acts)
ships_after state [] h = same_self state
ships_after state (act ∷ acts) h =
    same_then state (act_done state act).state (state_after (act_done state act).state acts)
    (ships_act state act h.0) (ships_after (act_done state act).state acts h.1)

if_of_history : (b : Bool) (act : Act) → IsOfHistory act → Each IsOfHistory (act_if b act)
if_of_history true act h = (h, tt)
if_of_history false act h = tt

call_of_history : (server : ServerId) (tree : Tree) (host : HostId) (k : ℕ) (call : Call) →
    Each IsOfHistory (call_acts server tree host k call)
call_of_history server tree host k (NewFileset at name objects owner) = if_of_history _ _ tt
call_of_history server tree host k (CloneFileset at source new) = if_of_history _ _ tt
call_of_history server tree host k (Create place) = if_of_history _ _ tt
call_of_history server tree host k (MakeDir place) = if_of_history _ _ tt
call_of_history server tree host k (Remove place) = if_of_history _ _ tt
call_of_history server tree host k (Rename from to) = if_of_history _ _ tt
call_of_history server tree host k (Truncate place len) = if_of_history _ _ tt
call_of_history server tree host k (SetAcl place which list) = if_of_history _ _ tt
call_of_history server tree host k (MoveFileset at name to) = tt
call_of_history server tree host k (Read place from len) = tt
call_of_history server tree host k (Write place from bytes) = tt
call_of_history server tree host k (ListNames place) = tt
call_of_history server tree host k (Stat place) = tt
call_of_history server tree host k (GetAcl place which) = tt
call_of_history server tree host k (Sync place) = tt
call_of_history server tree host k (Lock label place writing from len) = tt
call_of_history server tree host k (Unlock label) = tt
call_of_history server tree host k (OpenFile label place kind) = tt
call_of_history server tree host k (CloseFile label) = tt

entry_of_history : (server : ServerId) (tree : Tree) (number : Option ℕ) (entry : Entry) →
    Each IsOfHistory (entry_acts server tree number entry)
entry_of_history server tree number (Called host k call Accepted) = call_of_history server tree host k call
entry_of_history server tree number (Called host k call (Bytes bytes)) = tt
entry_of_history server tree number (Called host k call (Names names)) = tt
entry_of_history server tree number (Called host k call (Facts facts)) = tt
entry_of_history server tree number (Called host k call (Access list)) = tt
entry_of_history server tree number (Called host k call (Refused refusal)) = tt
entry_of_history server tree None (Stored host fid spans len) = tt
entry_of_history server tree (Some k) (Stored host fid spans len) = if_of_history _ _ tt
entry_of_history server tree number (Down host at) = tt
entry_of_history server tree number (LeftEntry at id) = tt

pub acts_of_history : (server : ServerId) (tree : Tree) (number : Option ℕ) (entries : List Entry) →
    Each IsOfHistory (acts_of server tree number entries)
acts_of_history server tree number [] = tt
acts_of_history server tree number (entry ∷ entries) =
    each_append IsOfHistory (entry_acts server tree number entry)
    (acts_of server (after_entry tree entry) (number_written entry) entries) (entry_of_history server tree number entry)
    (acts_of_history server (after_entry tree entry) (number_written entry) entries)

-- the server and the roster stay
pub record SameStore (old new : StoreState) : Type 0 where
  pub server : new.server ≡ old.server
  pub roster : new.roster ≡ old.roster

pub store_after : (state : StoreState) (acts : List Act) → KeepsLimits state →
    Each (IsAct state.roster state.server) acts → SameStore state (state_after state acts)
store_after state [] limits a = record { server = refl; roster = refl }
store_after state (act ∷ acts) limits a =
    let next = act_next state act limits a.0 in
    let rest = store_after (act_done state act).state acts next.limits
    (subst (λ r. Each (IsAct r (act_done state act).state.server) acts) (sym next.roster)
    (subst (λ (at : ServerId). Each (IsAct state.roster at) acts) (sym next.server) a.1)) in
    record { server = rest.server ∙ next.server; roster = rest.roster ∙ next.roster }
