-- An act that was done changes nothing when it is given once more.
use Rattle.std.proofs.Common.{Bool, Err, List, None, Ok, Option, Result, Some, [], ap, false, length, nat_lt, refl}
use Rattle.std.proofs.Common.{subst, suc, sym, true, zero, ℕ, ◌&&◌, ◌+◌, ◌<◌, ◌==◌, ◌≤◌, ◌∙◌, ◌≡◌, ◌∷◌, arith}
use Rattle.std.proofs.lemmas.Bool.{eqb-true, false≢true}
use Rattle.std.proofs.lemmas.Grind.{common_steps}
use Rattle.std.specs.Option.{option_map, option_map_or}
use Rattle.std.specs.Prelude.{if◌then◌else◌, option_and_then, slice_get, unwrap_or}
use Rattle.base_types.specs.Lists.{changed_at}
use Rattle.base_types.specs.Outcomes.{either}
use Rattle.base_types.specs.declared.ids.Fid.{Fid}
use Rattle.base_types.specs.declared.ids.FilesetId.{FilesetId}
use Rattle.base_types.specs.declared.ids.HostId.{HostId}
use Rattle.base_types.specs.declared.limits.TheConstants.{HOSTS_MAX}
use Rattle.base_types.specs.declared.user.User.{User}
use Rattle.tree_calls.specs.Rosters.{user_of}
use Rattle.tree_calls.specs.declared.call.Call.{Call}
use Rattle.tree_calls.specs.declared.call.Call.TheVariants.{CloneFileset, CloseFile, Create, GetAcl, List as ListNames}
use Rattle.tree_calls.specs.declared.call.Call.TheVariants.{Lock, MakeDir, MoveFileset, NewFileset, OpenFile, Read}
use Rattle.tree_calls.specs.declared.call.Call.TheVariants.{Remove, Rename, SetAcl, Stat, Sync, Truncate, Unlock, Write}
use Rattle.tree_calls.specs.declared.part.Piece.{Piece}
use Rattle.tree_calls.specs.declared.place.Place.{Place}
use Rattle.tree_calls.specs.declared.reply.Refusal.{Refusal}
use Rattle.tree_calls.specs.declared.reply.Refusal.TheVariants.{Denied, NoFileset}
use Rattle.tree_calls.specs.declared.reply.Reply.{Reply}
use Rattle.tree_calls.specs.declared.reply.Reply.TheVariants.{Ok as Accepted, Refused}
use Rattle.tree_calls.specs.declared.ship.Record.{Record}
use Rattle.tree_filesets.specs.Laws.{is_file_at}
use Rattle.tree_filesets.specs.Updates.{changed, updated}
use Rattle.tree_filesets.specs.declared.fileset.Fileset.{Fileset}
use Rattle.tree_filesets.proofs.Stays.{stays_itself}
use Rattle.store_acts.proofs.Limits.{held_fits}
use Rattle.store_acts.specs.Acts.{act_done, do_outcome, refuse_outcome}
use Rattle.store_acts.specs.Sound.{KeepsLimits}
use Rattle.store_acts.specs.declared.act.Act.{Act}
use Rattle.store_acts.specs.declared.act.Act.TheVariants.{Do, Give, Refuse}
use Rattle.store_laws.proofs.Slots.{found_beside, found_changed}
use Rattle.store_state.proofs.Decided.{replies_are_kept}
use Rattle.store_state.specs.Founding.{clone_answer, clone_target, new_fileset_answer, next_id, room_for, with_new}
use Rattle.store_state.specs.declared.state.Stay.TheVariants.{Clone, Writable}
use Rattle.tree_filesets.specs.Founding.{cloned, new_fileset}
use Rattle.tree_filesets.specs.Promises.{new_promise}
use Rattle.base_types.specs.Name.{same_name}
use Rattle.store_state.specs.Giving.{content_given, give_outcome, held_given}
use Rattle.store_state.specs.Laws.{told_right}
use Rattle.store_state.specs.Outcomes.{Outcome, applied_before, change_decided, decided, decided_before, decided_by}
use Rattle.store_state.specs.Outcomes.{decided_once, fresh, give_applied, not_fresh, refuse, stale, unless_before}
use Rattle.store_state.specs.Replies.{kept_reply}
use Rattle.store_state.specs.Rows.{answer_for, answer_to, held_answered, move_check, named_row, nothing_used}
use Rattle.store_state.specs.Rows.{itself, numbered_id, numbered_name, rename_row}
use Rattle.store_state.specs.State.{held_noted, held_so, is_gone, is_here, is_here_as, is_of, is_server, is_writable}
use Rattle.store_state.specs.State.{no_record}
use Rattle.store_state.specs.State.{record_of, records_of, slot_so, unless_gone, with_held, with_record}
use Rattle.store_state.specs.declared.done.Done.{Done}
use Rattle.store_state.specs.declared.state.Holding.{Holding}
use Rattle.store_state.specs.declared.state.StoreState.{StoreState}
use Rattle.server_keeps.specs.Repeating.{ActsAreSteady, IsSteady}

-- # What a change of a holding leaves of what is found

-- by some view of what is found by a test, both kept by the change
pub view_kept : {A : Type 0} (view : Holding → A) (test : Holding → Bool) (f : Holding → Holding)
    → ((h : Holding) → test (f h) ≡ test h) → ((h : Holding) → view (f h) ≡ view h)
    → (slots : List (Option Holding)) (at : ℕ)
    → option_map view (held_so test (changed_at slots at (option_map f))) ≡ option_map view (held_so test slots)
view_kept {A} view test f keeps same slots at = by (slot_so test slots == at) refl
  where
    mapped : (o : Option Holding) → option_map view (option_map f o) ≡ option_map view o
    mapped None = refl
    mapped (Some h) = ap Some (same h)

    by : (b : Bool) → (slot_so test slots == at) ≡ b
        → option_map view (held_so test (changed_at slots at (option_map f))) ≡ option_map view (held_so test slots)
    by true e =
        subst (λ n. option_map view (held_so test (changed_at slots n (option_map f)))
        ≡ option_map view (held_so test slots)) (eqb-true (slot_so test slots) at e)
        (ap (option_map view) (found_changed test f keeps slots) ∙ mapped (held_so test slots))
    by false e =
        ap (option_map view) (found_beside test f keeps slots at (λ same_place.
        false≢true (sym e ∙ subst (λ n. (slot_so test slots == n) ≡ true) same_place (itself (slot_so test slots)))))
      where
        itself : (n : ℕ) → (n == n) ≡ true
        itself n = grind (arith, common_steps)

-- what is kept of requests of a holding
abbrev kept_of : Holding → Option (List Record)
kept_of h = unless_gone h

joined_views : (o : Option Holding) → option_and_then unless_gone o ≡ option_and_then (λ x. x) (option_map kept_of o)
joined_views None = refl
joined_views (Some h) = refl

records_kept : (id : FilesetId) (f : Holding → Holding) → ((h : Holding) → is_of id (f h) ≡ is_of id h)
    → ((h : Holding) → unless_gone (f h) ≡ unless_gone h) → (state : StoreState) (at : ℕ)
    → records_of (with_held state at f) id ≡ records_of state id
records_kept id f keeps same state at = by (is_server id)
  where
    by : (b : Bool) → (if b then Some state.records
        else option_and_then unless_gone (held_so (is_of id) (changed_at state.slots at (option_map f))))
        ≡ (if b then Some state.records else option_and_then unless_gone (held_so (is_of id) state.slots))
    by true = refl
    by false =
        joined_views (held_so (is_of id) (changed_at state.slots at (option_map f)))
        ∙ ap (option_and_then (λ x. x)) (view_kept kept_of (is_of id) f keeps same state.slots at)
        ∙ sym (joined_views (held_so (is_of id) state.slots))

-- what is noted of a host
noted_kept : (host : HostId) (g : Record → Record) (h : Holding)
    → unless_gone (held_noted host g h) ≡ option_map (λ (rs : List Record). changed_at rs host.0 g) (unless_gone h)
noted_kept host g h = by (is_gone h.stay)
  where
    by : (b : Bool) → (if b then None else Some (changed_at h.records host.0 g))
        ≡ option_map (λ (rs : List Record). changed_at rs host.0 g) (if b then None else Some h.records)
    by true = refl
    by false = refl

pub records_noted : (state : StoreState) (id : FilesetId) (host : HostId) (g : Record → Record)
    → records_of (with_record state id host g) id
    ≡ option_map (λ (rs : List Record). changed_at rs host.0 g) (records_of state id)
records_noted state id host g = by (is_server id)
  where
    found : (o : Option Holding) → option_and_then unless_gone (option_map (held_noted host g) o)
        ≡ option_map (λ (rs : List Record). changed_at rs host.0 g) (option_and_then unless_gone o)
    found None = refl
    found (Some h) = noted_kept host g h

    by : (b : Bool)
        → (if b then Some (if b then record state { records = changed_at state.records host.0 g }
        else with_held state (slot_so (is_of id) state.slots) (held_noted host g)).records
        else option_and_then unless_gone (held_so (is_of id)
        (if b then record state { records = changed_at state.records host.0 g }
        else with_held state (slot_so (is_of id) state.slots) (held_noted host g)).slots))
        ≡ option_map (λ (rs : List Record). changed_at rs host.0 g)
        (if b then Some state.records else option_and_then unless_gone (held_so (is_of id) state.slots))
    by true = refl
    by false =
        ap (option_and_then unless_gone) (found_changed (is_of id) (held_noted host g) (λ h. refl) state.slots)
        ∙ found (held_so (is_of id) state.slots)

-- the fileset of a name
names_noted : (state : StoreState) (id : FilesetId) (host : HostId) (g : Record → Record) (name : Option (List ℕ))
    → numbered_id (with_record state id host g) name ≡ numbered_id state name
names_noted state id host g None = refl
names_noted state id host g (Some name) = by (is_server id)
  where
    by : (b : Bool)
        → option_map (λ (h : Holding). h.fileset.id) (held_so (is_here_as name)
        (if b then record state { records = changed_at state.records host.0 g }
        else with_held state (slot_so (is_of id) state.slots) (held_noted host g)).slots)
        ≡ option_map (λ (h : Holding). h.fileset.id) (held_so (is_here_as name) state.slots)
    by true = refl
    by false =
        view_kept (λ (h : Holding). h.fileset.id) (is_here_as name) (held_noted host g) (λ h. refl)
        (λ h. refl) state.slots
        (slot_so (is_of id) state.slots)

-- # What a call leaves of where it is numbered

-- it is numbered under the same fileset, of which the same is kept
pub record KeepsPlace (old new : StoreState) (name : Option (List ℕ)) : Type 0 where
  pub leads : numbered_id new name ≡ numbered_id old name
  pub records : (id : FilesetId) → numbered_id old name ≡ Some id → records_of new id ≡ records_of old id

place_self : (state : StoreState) (name : Option (List ℕ)) → KeepsPlace state state name
place_self state name = record { leads = refl; records = λ id e. refl }

place_held : (state : StoreState) (at : ℕ) (f : Holding → Holding)
    → ((any : FilesetId) (h : Holding) → is_of any (f h) ≡ is_of any h)
    → ((name : List ℕ) (h : Holding) → is_here_as name (f h) ≡ is_here_as name h)
    → ((h : Holding) → unless_gone (f h) ≡ unless_gone h) → ((h : Holding) → (f h).fileset.id ≡ h.fileset.id)
    → (name : List ℕ) → KeepsPlace state (with_held state at f) (Some name)
place_held state at f ids names kept its name = record {
  leads = view_kept (λ (h : Holding). h.fileset.id) (is_here_as name) f (names name) its state.slots at;
  records = λ id e. records_kept id f (ids id) kept state at;
}

place_named : (state : StoreState) (found name : List ℕ) (host : HostId) (user : User) (call : Call)
    → KeepsPlace state (named_row state found host user call).state (Some name)
unfolding named_row
place_named state found name host user call =
    place_held state (slot_so (is_here_as found) state.slots) (held_answered host user call)
    (λ any h. ap (λ (id : FilesetId). id.0 == any.0) (stays_itself h.fileset nothing_used host user call).id)
    (λ other h. ap (λ (n : List ℕ). is_here h.stay && same_name n other)
    (stays_itself h.fileset nothing_used host user call).name)
    (λ h. refl) (λ h. (stays_itself h.fileset nothing_used host user call).id) name

place_renamed : (state : StoreState) (name : List ℕ) (host : HostId) (user : User) (from to : Place)
    → KeepsPlace state (rename_row state host user from to).state (Some name)
unfolding rename_row
place_renamed state name host user from to = by (move_check state from to)
  where
    by : (checked : Result (Unit {0}) Refusal) → KeepsPlace state
        (either checked (λ _. named_row state from.fileset host user (Rename from to)) (refuse state)).state (Some name)
    by (Ok done) = place_named state from.fileset name host user (Rename from to)
    by (Err refusal) = place_self state (Some name)

-- one that makes a fileset is numbered under the server itself
place_itself : (old new : StoreState) → new.records ≡ old.records → KeepsPlace old new None
place_itself old new same = record {
  leads = refl;
  records = λ id e.
      subst (λ i. records_of new i ≡ records_of old i) (let q : itself ≡ id = cc in q) (ap Some same);
}

founded_records : (state : StoreState) (name : List ℕ) (objects : ℕ) (owner : User)
    → (new_fileset_answer state name objects owner).state.records ≡ state.records
unfolding new_fileset_answer
founded_records state name objects owner = by (room_for state name (new_promise objects))
  where
    by : (room : Result ℕ Refusal) → (either room (λ slot. record {
      reply = Accepted;
      state = with_new state slot Writable (new_fileset state.server (next_id state) name objects owner);
    }) (refuse state)).state.records ≡ state.records
    by (Ok slot) = refl
    by (Err refusal) = refl

cloned_records : (state : StoreState) (user : User) (source new : List ℕ)
    → (clone_answer state user source new).state.records ≡ state.records
unfolding clone_answer
cloned_records state user source new = by (clone_target state user source new)
  where
    by : (target : Result (Fileset × ℕ) Refusal) → (either target (λ (fileset, slot). record {
      reply = Accepted;
      state = with_new state slot Clone (cloned fileset (next_id state) new);
    }) (refuse state)).state.records ≡ state.records
    by (Ok found) = refl
    by (Err refusal) = refl

place_for : (state : StoreState) (host : HostId) (call : Call) (user : User)
    → KeepsPlace state (answer_for state host call user).state (numbered_name call)
unfolding answer_for
place_for state host (NewFileset server name objects owner) user =
    place_itself state (new_fileset_answer state name objects owner).state (founded_records state name objects owner)
place_for state host (CloneFileset server source new) user =
    place_itself state (clone_answer state user source new).state (cloned_records state user source new)
place_for state host (MoveFileset server name to) user = place_self state (Some name)
place_for state host (Lock label place writing from len) user = place_self state (Some place.fileset)
place_for state host (Unlock label) user = place_self state None
place_for state host (OpenFile label place kind) user = place_self state (Some place.fileset)
place_for state host (CloseFile label) user = place_self state None
place_for state host (Create place) user = place_named state place.fileset place.fileset host user (Create place)
place_for state host (MakeDir place) user = place_named state place.fileset place.fileset host user (MakeDir place)
place_for state host (Remove place) user = place_named state place.fileset place.fileset host user (Remove place)
place_for state host (Rename from to) user = place_renamed state from.fileset host user from to
place_for state host (Truncate place len) user =
    place_named state place.fileset place.fileset host user (Truncate place len)
place_for state host (SetAcl place which list) user =
    place_named state place.fileset place.fileset host user (SetAcl place which list)
place_for state host (Read place from len) user =
    place_named state place.fileset place.fileset host user (Read place from len)
place_for state host (Write place from bytes) user =
    place_named state place.fileset place.fileset host user (Write place from bytes)
place_for state host (ListNames place) user = place_named state place.fileset place.fileset host user (ListNames place)
place_for state host (Stat place) user = place_named state place.fileset place.fileset host user (Stat place)
place_for state host (GetAcl place which) user =
    place_named state place.fileset place.fileset host user (GetAcl place which)
place_for state host (Sync place) user = place_named state place.fileset place.fileset host user (Sync place)

place_answer : (state : StoreState) (host : HostId) (call : Call)
    → KeepsPlace state (answer_to state host call).state (numbered_name call)
unfolding answer_to
place_answer state host call = by (user_of state.roster host)
  where
    by : (o : Option User) → KeepsPlace state (option_map_or (answer_for state host call) o (refuse state
        (Denied 0))).state
        (numbered_name call)
    by None = place_self state (numbered_name call)
    by (Some user) = place_for state host call user

-- # A number that was decided is found again

record_changed : (records : List Record) (host : HostId) (f : Record → Record) → host.0 < length records
    → record_of (changed_at records host.0 f) host ≡ f (record_of records host)
record_changed records host f h = by records host.0 h
  where
    by : (records : List Record) (at : ℕ) → at < length records
        → unwrap_or (slice_get (changed_at records at f) at) no_record ≡ f (unwrap_or (slice_get records at) no_record)
    by [] at l = absurd (omega (arith, l))
    by (kept ∷ records) zero l = refl
    by (kept ∷ records) (suc at) l = by records at (omega (arith, l))

records_full : (state : StoreState) (id : FilesetId) (records : List Record) → KeepsLimits state
    → records_of state id ≡ Some records → length records ≡ HOSTS_MAX + 1
records_full state id records limits e = by (is_server id) e
  where
    one : (a : List Record) → Some a ≡ Some records → a ≡ records
    one a k = cc

    of_stay : (h : Holding) (gone : Bool) → (if gone then None else Some h.records) ≡ Some records
        → h.records ≡ records
    of_stay h true k = absurd (cc)
    of_stay h false k = one h.records k

    here : (o : Option Holding) → held_so (is_of id) state.slots ≡ o → option_and_then unless_gone o ≡ Some records
        → length records ≡ HOSTS_MAX + 1
    here None f k = absurd (cc)
    here (Some h) f k =
        ap (λ (rs : List Record). length rs) (sym (of_stay h (is_gone h.stay) k))
        ∙ (held_fits state.roster state.slots (slot_so (is_of id) state.slots) h limits.slots f).records.count

    by : (b : Bool) → (if b then Some state.records else option_and_then unless_gone (held_so (is_of id) state.slots))
        ≡ Some records → length records ≡ HOSTS_MAX + 1
    by true k = ap (λ (rs : List Record). length rs) (sym (one state.records k)) ∙ limits.records.count
    by false k = here (held_so (is_of id) state.slots) refl k

not_below : (n : ℕ) → nat_lt n n ≡ false
not_below n = grind (arith, common_steps)

-- what was decided before, and what is kept of it
first_time : (state : StoreState) (id : FilesetId) (host : HostId) (number : ℕ)
    → decided_before state id host number ≡ None → (records : List Record) × (records_of state id ≡ Some records)
first_time state id host number e = by (records_of state id) refl e
  where
    by : (o : Option (List Record)) → records_of state id ≡ o
        → option_map_or (λ records. decided_by (record_of records host) number) o (Some (not_fresh (Refused NoFileset)))
        ≡ None → (records : List Record) × (records_of state id ≡ Some records)
    by None f k = absurd (cc)
    by (Some records) f k = (records, f)

again_decided : (state between : StoreState) (id : FilesetId) (host : HostId) (number : ℕ) (reply : Reply)
    (records : List Record) → records_of state id ≡ Some records → records_of between id ≡ records_of state id
    → host.0 < length records
    → decided_before (with_record between id host (change_decided number reply)) id host number
    ≡ Some (not_fresh (kept_reply (change_decided number reply (record_of records host))))
again_decided state between id host number reply records there same within =
    ap (λ o. option_map_or (λ (rs : List Record). decided_by (record_of rs host) number) o
    (Some (not_fresh (Refused NoFileset))))
    (records_noted between id host (change_decided number reply)
    ∙ ap (option_map (λ (rs : List Record). changed_at rs host.0 (change_decided number reply))) (same ∙ there))
    ∙ ap (λ kept. decided_by kept number) (record_changed records host (change_decided number reply) within)
    ∙ ap (λ b. if b then None else Some (not_fresh (kept_reply (change_decided number reply (record_of records host)))))
    (not_below number)

within : (state : StoreState) (id : FilesetId) (host : HostId) (records : List Record) → KeepsLimits state
    → host.0 ≤ HOSTS_MAX → records_of state id ≡ Some records → host.0 < length records
within state id host records limits low there =
    let full = records_full state id records limits there in omega (arith, full, low)

-- # Acts

-- an act with this outcome, which comes again
steady : (state : StoreState) (act : Act) (outcome : Outcome) → act_done state act ≡ outcome
    → (again : Outcome) → act_done outcome.state act ≡ again → again.state ≡ outcome.state
    → again.done.reply ≡ outcome.done.reply → IsSteady state act
steady state act outcome first again second same reply = record {
  state_same = ap (λ (o : Outcome). (act_done o.state act).state) first ∙ ap (λ (o : Outcome). o.state) second ∙ same
      ∙ sym (ap (λ (o : Outcome). o.state) first);
  reply_same = ap (λ (o : Outcome). (act_done o.state act).done.reply) first ∙ ap (λ (o : Outcome). o.done.reply) second
      ∙ reply ∙ sym (ap (λ (o : Outcome). o.done.reply) first);
}

-- one that changes nothing
idle_steady : (state : StoreState) (act : Act) (done : Done)
    → act_done state act ≡ record { done = done; state = state } → IsSteady state act
idle_steady state act done e =
    steady state act (record { done = done; state = state }) e (record { done = done; state = state }) e refl refl

abbrev do_by : StoreState → HostId → ℕ → Call → Option FilesetId → Outcome
do_by state host number call o =
    option_map_or (λ id. decided_once state id host number (decided id host number (answer_to state host call))) o
    (stale (Refused NoFileset) state)

do_is : (state : StoreState) (host : HostId) (number : ℕ) (call : Call) (o : Option FilesetId)
    → numbered_id state (numbered_name call) ≡ o → act_done state (Do host number call) ≡ do_by state host number call o
unfolding act_done do_outcome
do_is state host number call o e = ap (do_by state host number call) e

do_steady : (state : StoreState) (host : HostId) (number : ℕ) (call : Call) → KeepsLimits state → host.0 ≤ HOSTS_MAX
    → ((kept : Record) → kept_reply (change_decided number (answer_to state host call).reply kept)
    ≡ (answer_to state host call).reply)
    → IsSteady state (Do host number call)
do_steady state host number call limits low keeps = by (numbered_id state (numbered_name call)) refl
  where
    place : KeepsPlace state (answer_to state host call).state (numbered_name call)
    place = place_answer state host call

    under : (id : FilesetId) → numbered_id state (numbered_name call) ≡ Some id → (o : Option Done)
        → decided_before state id host number ≡ o → IsSteady state (Do host number call)
    under id e (Some done) before =
        idle_steady state (Do host number call) done
        (do_is state host number call (Some id) e
        ∙ ap (λ b. unless_before b state (decided id host number (answer_to state host call))) before)
    under id e None before =
        let reply = (answer_to state host call).reply in
        let new = with_record (answer_to state host call).state id host (change_decided number reply) in
        let (records, there) = first_time state id host number before in
        steady state (Do host number call) (fresh reply new)
        (do_is state host number call (Some id) e
        ∙ ap (λ b. unless_before b state (decided id host number (answer_to state host call))) before)
        (record { done = not_fresh (kept_reply (change_decided number reply (record_of records host))); state = new })
        (do_is new host number call (Some id)
        (names_noted (answer_to state host call).state id host (change_decided number reply) (numbered_name call)
        ∙ place.leads ∙ e)
        ∙ ap (λ b. unless_before b new (decided id host number (answer_to new host call)))
        (again_decided state (answer_to state host call).state id host number reply records there (place.records id e)
        (within state id host records limits low there)))
        refl (keeps (record_of records host))

    by : (o : Option FilesetId) → numbered_id state (numbered_name call) ≡ o → IsSteady state (Do host number call)
    by None e = idle_steady state (Do host number call) (not_fresh (Refused NoFileset))
        (do_is state host number call None e)
    by (Some id) e = under id e (decided_before state id host number) refl

refuse_is : (state : StoreState) (host : HostId) (id : FilesetId) (number : ℕ) (refusal : Refusal) (o : Option Done)
    → decided_before state id host number ≡ o
    → act_done state (Refuse host id number refusal)
    ≡ unless_before o state (fresh (Refused refusal)
    (with_record state id host (change_decided number (Refused refusal))))
unfolding act_done refuse_outcome
refuse_is state host id number refusal o e =
    ap (λ b. unless_before b state (fresh (Refused refusal)
    (with_record state id host (change_decided number (Refused refusal))))) e

module _ (state : StoreState) (host : HostId) (number : ℕ) (id : FilesetId) (refusal : Refusal)
    (limits : KeepsLimits state) (low : host.0 ≤ HOSTS_MAX) where
  abbrev act : Act
  act = Refuse host id number refusal

  abbrev refused_state : StoreState
  refused_state = with_record state id host (change_decided number (Refused refusal))

  second : (records : List Record) → records_of state id ≡ Some records
      → act_done refused_state act
      ≡ record {
        done = not_fresh (kept_reply (change_decided number (Refused refusal) (record_of records host)));
        state = refused_state;
      }
  second records there =
      refuse_is refused_state host id number refusal
      (Some (not_fresh (kept_reply (change_decided number (Refused refusal) (record_of records host)))))
      (again_decided state state id host number (Refused refusal) records there refl
      (within state id host records limits low there))

  refuse_same : (act_done (act_done state act).state act).state ≡ (act_done state act).state
  refuse_same = by (decided_before state id host number) refl
    where
      by : (o : Option Done) → decided_before state id host number ≡ o
          → (act_done (act_done state act).state act).state ≡ (act_done state act).state
      by (Some done) e = (idle_steady state act done (refuse_is state host id number refusal (Some done) e)).state_same
      by None e =
          let (records, there) = first_time state id host number e in
          let first = refuse_is state host id number refusal None e in
          ap (λ (o : Outcome). (act_done o.state act).state) first
          ∙ ap (λ (o : Outcome). o.state) (second records there) ∙ sym (ap (λ (o : Outcome). o.state) first)

  refuse_steady : told_right refusal < 64 → IsSteady state act
  refuse_steady less = by (decided_before state id host number) refl
    where
      by : (o : Option Done) → decided_before state id host number ≡ o → IsSteady state act
      by (Some done) e = idle_steady state act done (refuse_is state host id number refusal (Some done) e)
      by None e =
          let (records, there) = first_time state id host number e in
          steady state act (fresh (Refused refusal) refused_state) (refuse_is state host id number refusal None e)
          (record {
            done = not_fresh (kept_reply (change_decided number (Refused refusal) (record_of records host)));
            state = refused_state;
          }) (second records there) refl (replies_are_kept.refused number refusal (record_of records host) less)

-- # Give-backs

abbrev pub given_by : HostId → ℕ → Option (List Record) → Option Done
given_by host number o =
    option_map_or (λ (rs : List Record). if nat_lt (record_of rs host).give number then None
    else Some (not_fresh Accepted)) o (Some (not_fresh (Refused NoFileset)))

pub given_place : (state : StoreState) (at : ℕ) (fid : Fid) (pieces : List Piece) (given : Option ℕ) (id : FilesetId)
    → records_of (with_held state at (held_given fid pieces given)) id ≡ records_of state id
unfolding updated
given_place state at fid pieces given id = records_kept id (held_given fid pieces given) ids kept state at
  where
    ids : (h : Holding) → is_of id (held_given fid pieces given h) ≡ is_of id h
    ids h = by (is_writable h.stay && is_file_at h.fileset fid)
      where
        by : (b : Bool) → is_of id (if b
            then record h { fileset = changed h.fileset fid.anode (content_given pieces given) } else h) ≡ is_of id h
        by true = refl
        by false = refl

    kept : (h : Holding) → unless_gone (held_given fid pieces given h) ≡ unless_gone h
    kept h = by (is_writable h.stay && is_file_at h.fileset fid)
      where
        by : (b : Bool) → unless_gone (if b
            then record h { fileset = changed h.fileset fid.anode (content_given pieces given) } else h)
            ≡ unless_gone h
        by true = refl
        by false = refl

module _ (state : StoreState) (host : HostId) (number : ℕ) (fid : Fid) (pieces : List Piece) (given : Option ℕ)
    (limits : KeepsLimits state) (low : host.0 ≤ HOSTS_MAX) where
  abbrev pub give : Act
  give = Give host number fid pieces given

  abbrev pub between : StoreState
  between = with_held state (slot_so (is_of fid.fileset) state.slots) (held_given fid pieces given)

  abbrev pub given_state : StoreState
  given_state = with_record between fid.fileset host (give_applied number)

  pub give_is : (from : StoreState) (o : Option Done) → applied_before from fid.fileset host number ≡ o
      → act_done from give ≡ unless_before o from (fresh Accepted
      (with_record (with_held from (slot_so (is_of fid.fileset) from.slots) (held_given fid pieces given))
      fid.fileset host (give_applied number)))
  unfolding act_done give_outcome
  give_is from o e =
      ap (λ b. unless_before b from (fresh Accepted
      (with_record (with_held from (slot_so (is_of fid.fileset) from.slots) (held_given fid pieces given))
      fid.fileset host (give_applied number)))) e

  pub given_first : applied_before state fid.fileset host number ≡ None
      → (records : List Record) × (records_of state fid.fileset ≡ Some records)
  given_first e = by (records_of state fid.fileset) refl e
    where
      by : (o : Option (List Record)) → records_of state fid.fileset ≡ o → given_by host number o ≡ None
          → (records : List Record) × (records_of state fid.fileset ≡ Some records)
      by None f k = absurd (cc)
      by (Some records) f k = (records, f)

  pub given_again : (records : List Record) → records_of state fid.fileset ≡ Some records
      → applied_before given_state fid.fileset host number ≡ Some (not_fresh Accepted)
  given_again records there =
      ap (given_by host number)
      (records_noted between fid.fileset host (give_applied number)
      ∙ ap (option_map (λ (rs : List Record). changed_at rs host.0 (give_applied number)))
      (given_place state (slot_so (is_of fid.fileset) state.slots) fid pieces given fid.fileset ∙ there))
      ∙ ap (λ (kept : Record). if nat_lt kept.give number then None else Some (not_fresh Accepted))
      (record_changed records host (give_applied number) (within state fid.fileset host records limits low there))
      ∙ ap (λ b. if b then None else Some (not_fresh Accepted)) (not_below number)

  give_steady : IsSteady state give
  give_steady = by (applied_before state fid.fileset host number) refl
    where
      by : (o : Option Done) → applied_before state fid.fileset host number ≡ o → IsSteady state give
      by (Some done) e = idle_steady state give done (give_is state (Some done) e)
      by None e =
          let (records, there) = given_first e in
          steady state give (fresh Accepted given_state) (give_is state None e)
          (record { done = not_fresh Accepted; state = given_state })
          (give_is given_state (Some (not_fresh Accepted)) (given_again records there)) refl refl

pub acts_are_steady : ActsAreSteady
acts_are_steady = record {
  done = do_steady;
  refused = λ state host number id refusal limits low less. refuse_steady state host number id refusal limits low less;
  refused_state = λ state host number id refusal limits low. refuse_same state host number id refusal limits low;
  given = λ state host number fid pieces given limits low.
      give_steady state host number fid pieces given limits low;
}
