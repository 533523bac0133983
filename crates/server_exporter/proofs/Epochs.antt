-- No call that a store does, and none that it refuses, changes its epoch.
use Rattle.std.proofs.Common.{◌≡◌, ℕ, Bool, true, false, List, Option, None, Some, refl, ◌∙◌}
use Rattle.std.specs.Option.{option_map_or}
use Rattle.std.specs.Prelude.{Result, Ok, Err, if◌then◌else◌}
use Rattle.base_types.specs.Outcomes.{either}
use Rattle.base_types.specs.declared.ids.FilesetId.{FilesetId}
use Rattle.base_types.specs.declared.ids.HostId.{HostId}
use Rattle.base_types.specs.declared.user.User.{User}
use Rattle.tree_calls.specs.Rosters.{user_of}
use Rattle.base_types.specs.declared.ids.Fid.{Fid}
use Rattle.tree_calls.specs.declared.part.Piece.{Piece}
use Rattle.tree_calls.specs.declared.call.Call.{Call}
use Rattle.tree_calls.specs.declared.call.Call.TheVariants.{CloneFileset, CloseFile, Create, GetAcl, List as ListNames}
use Rattle.tree_calls.specs.declared.call.Call.TheVariants.{Lock, MakeDir, MoveFileset, NewFileset, OpenFile, Read}
use Rattle.tree_calls.specs.declared.call.Call.TheVariants.{Remove, Rename, SetAcl, Stat, Sync, Truncate, Unlock, Write}
use Rattle.tree_calls.specs.declared.reply.Refusal.{Refusal}
use Rattle.tree_calls.specs.declared.reply.Refusal.TheVariants.{Denied, NoFileset}
use Rattle.tree_calls.specs.declared.reply.Reply.TheVariants.{Ok as Accepted, Refused}
use Rattle.tree_calls.specs.declared.ship.Record.{Record}
use Rattle.store_acts.specs.Acts.{act_done, do_outcome, refuse_outcome}
use Rattle.store_acts.specs.declared.act.Act.TheVariants.{Do, Give, Refuse}
use Rattle.store_state.specs.Founding.{clone_answer, clone_target, new_fileset_answer, room_for}
use Rattle.tree_filesets.specs.Promises.{new_promise}
use Rattle.store_state.specs.Outcomes.{Answer, Outcome, change_decided, decided, decided_before, decided_once, fresh}
use Rattle.store_state.specs.Giving.{give_outcome, held_given}
use Rattle.store_state.specs.Outcomes.{applied_before, give_applied, refuse, stale, unless_before}
use Rattle.store_state.specs.Rows.{answer_for, answer_to, move_check, named_row, numbered_id, numbered_name, rename_row}
use Rattle.store_state.specs.State.{held_noted, is_of, is_server, slot_so, with_held, with_record}
use Rattle.base_types.specs.Lists.{changed_at}
use Rattle.store_state.specs.declared.done.Done.{Done}
use Rattle.store_state.specs.declared.state.StoreState.{StoreState}

either_epoch : {A : Type 0} (state : StoreState) (found : Result A Refusal) (next : A → Answer)
    → ((x : A) → (next x).state.epoch ≡ state.epoch) → (either found next (refuse state)).state.epoch ≡ state.epoch
either_epoch state (Ok x) next all = all x
either_epoch state (Err refusal) next all = refl

named_epoch : (state : StoreState) (name : List ℕ) (host : HostId) (user : User) (call : Call)
    → (named_row state name host user call).state.epoch ≡ state.epoch
unfolding named_row
named_epoch state name host user call = refl

for_epoch : (state : StoreState) (host : HostId) (call : Call) (user : User)
    → (answer_for state host call user).state.epoch ≡ state.epoch
unfolding answer_for new_fileset_answer clone_answer rename_row
for_epoch state host (NewFileset server name objects owner) user =
    either_epoch state (room_for state name (new_promise objects)) _ (λ slot. refl)
for_epoch state host (CloneFileset server source new) user =
    either_epoch state (clone_target state user source new) _ (λ found. refl)
for_epoch state host (MoveFileset server name to) user = refl
for_epoch state host (Lock label place writing from len) user = refl
for_epoch state host (Unlock label) user = refl
for_epoch state host (OpenFile label place kind) user = refl
for_epoch state host (CloseFile label) user = refl
for_epoch state host (Create place) user = named_epoch state place.fileset host user (Create place)
for_epoch state host (MakeDir place) user = named_epoch state place.fileset host user (MakeDir place)
for_epoch state host (Remove place) user = named_epoch state place.fileset host user (Remove place)
for_epoch state host (Rename from to) user =
    either_epoch state (move_check state from to) _
    (λ found. named_epoch state from.fileset host user (Rename from to))
for_epoch state host (Truncate place len) user = named_epoch state place.fileset host user (Truncate place len)
for_epoch state host (SetAcl place which list) user =
    named_epoch state place.fileset host user (SetAcl place which list)
for_epoch state host (Read place from len) user = named_epoch state place.fileset host user (Read place from len)
for_epoch state host (Write place from bytes) user = named_epoch state place.fileset host user (Write place from bytes)
for_epoch state host (ListNames place) user = named_epoch state place.fileset host user (ListNames place)
for_epoch state host (Stat place) user = named_epoch state place.fileset host user (Stat place)
for_epoch state host (GetAcl place which) user = named_epoch state place.fileset host user (GetAcl place which)
for_epoch state host (Sync place) user = named_epoch state place.fileset host user (Sync place)

answer_epoch : (state : StoreState) (host : HostId) (call : Call) → (answer_to state host call).state.epoch
    ≡ state.epoch
unfolding answer_to
answer_epoch state host call = by (user_of state.roster host)
  where
    by : (o : Option User)
        → (option_map_or (answer_for state host call) o (refuse state (Denied 0))).state.epoch ≡ state.epoch
    by None = refl
    by (Some user) = for_epoch state host call user

record_epoch : (state : StoreState) (id : FilesetId) (host : HostId) (f : Record → Record)
    → (with_record state id host f).epoch ≡ state.epoch
record_epoch state id host f = by (is_server id)
  where
    by : (b : Bool) → (if b then record state { records = changed_at state.records host.0 f }
        else with_held state (slot_so (is_of id) state.slots) (held_noted host f)).epoch ≡ state.epoch
    by true = refl
    by false = refl

once_epoch : (before : Option Done) (state : StoreState) (outcome : Outcome) → outcome.state.epoch ≡ state.epoch
    → (unless_before before state outcome).state.epoch ≡ state.epoch
once_epoch None state outcome e = e
once_epoch (Some done) state outcome e = refl

pub do_epoch : (state : StoreState) (host : HostId) (number : ℕ) (call : Call)
    → (act_done state (Do host number call)).state.epoch ≡ state.epoch
unfolding act_done do_outcome
do_epoch state host number call = by (numbered_id state (numbered_name call))
  where
    by : (o : Option FilesetId) → (option_map_or (λ id. decided_once state id host number
        (decided id host number (answer_to state host call))) o (stale (Refused NoFileset) state)).state.epoch
        ≡ state.epoch
    by None = refl
    by (Some id) = once_epoch (decided_before state id host number) state (decided id host number
        (answer_to state host call))
        (record_epoch (answer_to state host call).state id host
        (change_decided number (answer_to state host call).reply) ∙ answer_epoch state host call)

pub refuse_epoch : (state : StoreState) (host : HostId) (number : ℕ) (id : FilesetId) (refusal : Refusal)
    → (act_done state (Refuse host id number refusal)).state.epoch ≡ state.epoch
unfolding act_done refuse_outcome
refuse_epoch state host number id refusal =
    once_epoch (decided_before state id host number) state
    (fresh (Refused refusal) (with_record state id host (change_decided number (Refused refusal))))
    (record_epoch state id host (change_decided number (Refused refusal)))

pub give_epoch : (state : StoreState) (host : HostId) (number : ℕ) (fid : Fid) (pieces : List Piece) (len : Option ℕ)
    → (act_done state (Give host number fid pieces len)).state.epoch ≡ state.epoch
unfolding act_done give_outcome
give_epoch state host number fid pieces len =
    let held = with_held state (slot_so (is_of fid.fileset) state.slots) (held_given fid pieces len) in
    once_epoch (applied_before state fid.fileset host number) state
    (fresh Accepted (with_record held fid.fileset host (give_applied number)))
    (record_epoch held fid.fileset host (give_applied number))
