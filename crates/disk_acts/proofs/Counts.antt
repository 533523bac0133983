-- What an act leaves of a store's capacity, and of its counts.
use Rattle.std.proofs.Common.{◌≡◌, ◌≤◌, ℕ, ◌+◌, List, refl, arith}
use Rattle.std.specs.Prelude.{Bool, true, false, ◌==◌, nat_lt, if◌then◌else◌, slice_set, Option, Some, None, Result, Ok, Err}
use Rattle.std.specs.List.{list_any}
use Rattle.std.specs.Option.{option_map_or}
use Rattle.base_types.specs.Lists.{changed_at}
use Rattle.base_types.specs.Outcomes.{either}
use Rattle.base_types.specs.declared.ids.FilesetId.{FilesetId}
use Rattle.base_types.specs.declared.ids.HostId.{HostId}
use Rattle.base_types.specs.declared.ids.ServerId.{ServerId}
use Rattle.base_types.specs.declared.user.User.{User}
use Rattle.tree_calls.specs.Rosters.{user_of}
use Rattle.tree_calls.specs.declared.call.Call.{Call}
use Rattle.tree_calls.specs.declared.call.Call.TheVariants.{NewFileset, Create, MakeDir, Remove, Rename, Truncate, SetAcl, CloneFileset, Read, Write, List as ListNames, Stat, GetAcl, Sync, Lock, Unlock, OpenFile, CloseFile, MoveFileset}
use Rattle.tree_calls.specs.declared.place.Place.{Place}
use Rattle.tree_calls.specs.declared.reply.Refusal.{Refusal}
use Rattle.tree_calls.specs.declared.reply.Refusal.TheVariants.{Denied, NoFileset}
use Rattle.tree_calls.specs.declared.reply.Reply.{Reply}
use Rattle.tree_calls.specs.declared.reply.Reply.TheVariants.{Ok as Accepted, Refused}
use Rattle.tree_calls.specs.declared.ship.Mover.{Mover}
use Rattle.tree_calls.specs.declared.ship.Record.{Record}
use Rattle.tree_calls.specs.declared.ship.ShipPart.{ShipPart}
use Rattle.tree_calls.specs.declared.ship.ShipPart.TheVariants.{Head, Object as ObjectPart}
use Rattle.tree_filesets.specs.Founding.{new_fileset, cloned}
use Rattle.tree_filesets.specs.Promises.{new_promise}
use Rattle.tree_filesets.specs.declared.fileset.Fileset.{Fileset}
use Rattle.store_acts.specs.Acts.{act_done, booted, do_outcome, refuse_outcome}
use Rattle.store_acts.specs.Moving.{leave_outcome, back_outcome, left_outcome, settle_outcome, part_outcome, head_outcome, head_once, arrival, done_where, held_arriving, arriving, taken_from, with_taken}
use Rattle.store_acts.specs.declared.act.Act.{Act}
use Rattle.store_acts.specs.declared.act.Act.TheVariants.{Boot, Epoch, Host, Do, Refuse, Give, Leave, Back, Left, Settle, Part}
use Rattle.store_state.specs.Founding.{room_for, clone_target, clone_answer, new_fileset_answer, next_id, with_new}
use Rattle.store_state.specs.Giving.{give_outcome}
use Rattle.store_state.specs.Outcomes.{Outcome, fresh, stale, refuse, unless_before, decided, decided_before, decided_once, applied_before, change_decided}
use Rattle.store_state.specs.Replies.{reply_of}
use Rattle.store_state.specs.Rows.{answer_to, answer_for, numbered_id, numbered_name, named_row, rename_row, move_check}
use Rattle.store_state.specs.Sought.{is_past}
use Rattle.store_state.specs.State.{held_noted, is_of, is_server, is_used_so, slot_so, with_held, with_record}
use Rattle.store_state.specs.declared.done.Done.{Done}
use Rattle.store_state.specs.declared.state.Stay.TheVariants as stays
use Rattle.store_state.specs.declared.state.StoreState.{StoreState}

-- the capacity is the same, and the counts are at most one more
pub record IsCounted (old new : StoreState) : Type 0 where
  pub capacity : new.capacity ≡ old.capacity
  pub epoch : new.epoch ≤ old.epoch + 1
  pub ship : new.ship ≤ old.ship + 1

same : (state : StoreState) → IsCounted state state
same state = record { capacity = refl; epoch = omega arith; ship = omega arith }

-- what is said of each outcome
record Leaves (state : StoreState) (outcome : Outcome) : Type 0 where
  sizes : IsCounted state outcome.state

stale_leaves : (reply : Reply) (state : StoreState) → Leaves state (stale reply state)
stale_leaves reply state = record { sizes = same state }

fresh_leaves : (reply : Reply) (state next : StoreState) → IsCounted state next → Leaves state (fresh reply next)
fresh_leaves reply state next sizes = record { sizes = sizes }

before_leaves : (before : Option Done) (state : StoreState) (outcome : Outcome) → Leaves state outcome → Leaves state (unless_before before state outcome)
before_leaves None state outcome leaves = leaves
before_leaves (Some done) state outcome leaves = record { sizes = same state }

where_leaves : (condition : Bool) (state next : StoreState) → IsCounted state next → Leaves state (done_where condition state next)
where_leaves true state next sizes = fresh_leaves Accepted state next sizes
where_leaves false state next sizes = stale_leaves Accepted state

noted_sizes : (state mid : StoreState) (id : FilesetId) (host : HostId) (change : Record → Record) → IsCounted state mid → IsCounted state (with_record mid id host change)
noted_sizes state mid id host change sizes = by (is_server id)
  where
    by : (b : Bool) → IsCounted state (if b then record mid { records = changed_at mid.records host.0 change } else with_held mid (slot_so (is_of id) mid.slots) (held_noted host change))
    by true = record { capacity = sizes.capacity; epoch = sizes.epoch; ship = sizes.ship }
    by false = record { capacity = sizes.capacity; epoch = sizes.epoch; ship = sizes.ship }

-- answers
named_sizes : (state : StoreState) (name : List ℕ) (host : HostId) (user : User) (call : Call) → IsCounted state (named_row state name host user call).state
unfolding named_row
named_sizes state name host user call = record { capacity = refl; epoch = omega arith; ship = omega arith }

renamed_sizes : (state : StoreState) (host : HostId) (user : User) (from to : Place) → IsCounted state (rename_row state host user from to).state
unfolding rename_row
renamed_sizes state host user from to = by (move_check state from to)
  where
    by : (checked : Result (Unit {0}) Refusal) → IsCounted state (either checked (λ _. named_row state from.fileset host user (Rename from to)) (refuse state)).state
    by (Ok done) = named_sizes state from.fileset host user (Rename from to)
    by (Err refusal) = same state

founded_sizes : (state : StoreState) (name : List ℕ) (objects : ℕ) (owner : User) → IsCounted state (new_fileset_answer state name objects owner).state
unfolding new_fileset_answer
founded_sizes state name objects owner = by (room_for state name (new_promise objects))
  where
    by : (room : Result ℕ Refusal) → IsCounted state (either room (λ slot. record {
      reply = Accepted;
      state = with_new state slot stays.Writable (new_fileset state.server (next_id state) name objects owner);
    }) (refuse state)).state
    by (Err refusal) = same state
    by (Ok slot) = record { capacity = refl; epoch = omega arith; ship = omega arith }

cloned_sizes : (state : StoreState) (user : User) (source new : List ℕ) → IsCounted state (clone_answer state user source new).state
unfolding clone_answer
cloned_sizes state user source new = by (clone_target state user source new)
  where
    by : (target : Result (Fileset × ℕ) Refusal) → IsCounted state (either target (λ (fileset, slot). record { reply = Accepted; state = with_new state slot stays.Clone (cloned fileset (next_id state) new) }) (refuse state)).state
    by (Err refusal) = same state
    by (Ok (fileset, slot)) = record { capacity = refl; epoch = omega arith; ship = omega arith }

for_sizes : (state : StoreState) (host : HostId) (call : Call) (user : User) → IsCounted state (answer_for state host call user).state
unfolding answer_for
for_sizes state host (NewFileset server name objects owner) user = founded_sizes state name objects owner
for_sizes state host (CloneFileset server source new) user = cloned_sizes state user source new
for_sizes state host (Rename from to) user = renamed_sizes state host user from to
for_sizes state host (Create place) user = named_sizes state place.fileset host user (Create place)
for_sizes state host (MakeDir place) user = named_sizes state place.fileset host user (MakeDir place)
for_sizes state host (Remove place) user = named_sizes state place.fileset host user (Remove place)
for_sizes state host (Truncate place len) user = named_sizes state place.fileset host user (Truncate place len)
for_sizes state host (SetAcl place which list) user = named_sizes state place.fileset host user (SetAcl place which list)
for_sizes state host (Read place from len) user = named_sizes state place.fileset host user (Read place from len)
for_sizes state host (Write place from bytes) user = named_sizes state place.fileset host user (Write place from bytes)
for_sizes state host (ListNames place) user = named_sizes state place.fileset host user (ListNames place)
for_sizes state host (Stat place) user = named_sizes state place.fileset host user (Stat place)
for_sizes state host (GetAcl place which) user = named_sizes state place.fileset host user (GetAcl place which)
for_sizes state host (Sync place) user = named_sizes state place.fileset host user (Sync place)
for_sizes state host (Lock label place writing from len) user = same state
for_sizes state host (Unlock label) user = same state
for_sizes state host (OpenFile label place kind) user = same state
for_sizes state host (CloseFile label) user = same state
for_sizes state host (MoveFileset server name to) user = same state

to_sizes : (state : StoreState) (host : HostId) (call : Call) → IsCounted state (answer_to state host call).state
unfolding answer_to
to_sizes state host call = by (user_of state.roster host)
  where
    by : (o : Option User) → IsCounted state (option_map_or (answer_for state host call) o (refuse state (Denied 0))).state
    by None = same state
    by (Some user) = for_sizes state host call user

do_leaves : (state : StoreState) (host : HostId) (number : ℕ) (call : Call) → Leaves state (do_outcome state host number call)
unfolding do_outcome
do_leaves state host number call = by (numbered_id state (numbered_name call))
  where
    by : (o : Option FilesetId) → Leaves state (option_map_or (λ id. decided_once state id host number (decided id host number (answer_to state host call))) o (stale (Refused NoFileset) state))
    by None = stale_leaves (Refused NoFileset) state
    by (Some id) = before_leaves (decided_before state id host number) state (decided id host number (answer_to state host call))
        (fresh_leaves _ state _ (noted_sizes state (answer_to state host call).state id host (change_decided number (answer_to state host call).reply) (to_sizes state host call)))

-- parts
taken_sizes : (state : StoreState) (from : ServerId) (ship : ℕ) (reply : Reply) → IsCounted state (with_taken state from ship reply)
taken_sizes state from ship reply = record { capacity = refl; epoch = omega arith; ship = omega arith }

head_leaves : (state : StoreState) (from : ServerId) (ship : ℕ) (id : FilesetId) (moves : ℕ) (name : List ℕ) (objects : ℕ) (records : List Record) (mover : Mover)
    → Leaves state (head_outcome state from ship id moves name objects records mover)
unfolding head_outcome
head_leaves state from ship id moves name objects records mover = by (arrival state id name objects)
  where
    by : (room : Result ℕ Refusal) → Leaves state (either room (λ slot. fresh Accepted (record (with_taken state from ship Accepted) {
      slots = slice_set state.slots slot
          (Some (held_arriving (stays.Arriving from ship 1) (arriving state.server id name objects moves) records mover));
    })) (λ refusal. fresh (Refused refusal) (with_taken state from ship (Refused refusal))))
    by (Err refusal) = fresh_leaves _ state _ (taken_sizes state from ship (Refused refusal))
    by (Ok slot) = fresh_leaves _ state _ (record { capacity = refl; epoch = omega arith; ship = omega arith })

once_leaves : (state : StoreState) (from : ServerId) (ship : ℕ) (id : FilesetId) (moves : ℕ) (outcome : Outcome) → Leaves state outcome → Leaves state (head_once state from ship id moves outcome)
once_leaves state from ship id moves outcome leaves = by (list_any (is_used_so (is_past id moves)) state.slots) (nat_lt (taken_from state from).ship ship)
  where
    by : (a b : Bool) → Leaves state (if a then stale Accepted state else if b then outcome else stale (reply_of (taken_from state from).code 0) state)
    by true b = stale_leaves Accepted state
    by false true = leaves
    by false false = stale_leaves _ state

part_leaves : (state : StoreState) (from : ServerId) (ship : ℕ) (id : FilesetId) (moves n : ℕ) (part : ShipPart) → Leaves state (part_outcome state from ship id moves n part)
unfolding part_outcome
part_leaves state from ship id moves n (Head name objects records mover) = by (n == 0)
  where
    by : (b : Bool) → Leaves state (if b then head_once state from ship id moves (head_outcome state from ship id moves name objects records mover) else stale Accepted state)
    by true = once_leaves state from ship id moves _ (head_leaves state from ship id moves name objects records mover)
    by false = stale_leaves Accepted state
part_leaves state from ship id moves n (ObjectPart anode unique status pieces entries) = where_leaves _ state _ (record { capacity = refl; epoch = omega arith; ship = omega arith })

-- each act
act_leaves : (state : StoreState) (act : Act) → Leaves state (act_done state act)
unfolding act_done refuse_outcome give_outcome leave_outcome back_outcome left_outcome settle_outcome
act_leaves state Boot = fresh_leaves Accepted state (booted state) (record { capacity = refl; epoch = omega arith; ship = omega arith })
act_leaves state Epoch = fresh_leaves Accepted state _ (record { capacity = refl; epoch = omega arith; ship = omega arith })
act_leaves state (Host host known) = fresh_leaves Accepted state _ (record { capacity = refl; epoch = omega arith; ship = omega arith })
act_leaves state (Do host number call) = do_leaves state host number call
act_leaves state (Refuse host id number refusal) =
    before_leaves (decided_before state id host number) state _ (fresh_leaves _ state _ (noted_sizes state state id host _ (same state)))
act_leaves state (Give host number fid pieces given) =
    before_leaves (applied_before state fid.fileset host number) state _ (fresh_leaves _ state _ (noted_sizes state _ fid.fileset host _ (record { capacity = refl; epoch = omega arith; ship = omega arith })))
act_leaves state (Leave id to) = where_leaves _ state _ (record { capacity = refl; epoch = omega arith; ship = omega arith })
act_leaves state (Back host number id refusal) =
    before_leaves (decided_before state id host number) state _ (fresh_leaves _ state _ (noted_sizes state _ id host _ (record { capacity = refl; epoch = omega arith; ship = omega arith })))
act_leaves state (Left id) = where_leaves _ state _ (record { capacity = refl; epoch = omega arith; ship = omega arith })
act_leaves state (Settle id) = where_leaves _ state _ (record { capacity = refl; epoch = omega arith; ship = omega arith })
act_leaves state (Part from ship id moves at part) = part_leaves state from ship id moves at part

pub act_counted : (state : StoreState) (act : Act) → IsCounted state (act_done state act).state
act_counted state act = (act_leaves state act).sizes
