-- What an act under a number does: nothing where it was done before, and else it leaves its number.
use Rattle.std.proofs.Common.{◌≡◌, ◌≤◌, ◌<◌, ◌⊎◌, ℕ, ◌+◌, List, length, inl, inr, refl, sym, subst, ◌∙◌, ap, arith}
use Rattle.std.specs.Prelude.{Bool, true, false, ◌&&◌, nat_lt, if◌then◌else◌, Option, Some, None, Result, Ok, Err}
use Rattle.std.specs.Option.{option_map_or}
use Rattle.std.proofs.lemmas.Bool.{ltb-true}
use Rattle.base_types.specs.Lists.{changed_at}
use Rattle.base_types.specs.Outcomes.{either}
use Rattle.base_types.specs.declared.ids.Fid.{Fid}
use Rattle.base_types.specs.declared.ids.FilesetId.{FilesetId}
use Rattle.base_types.specs.declared.ids.HostId.{HostId}
use Rattle.base_types.specs.declared.limits.TheConstants.{HOSTS_MAX}
use Rattle.base_types.specs.declared.user.User.{User}
use Rattle.tree_calls.specs.Rosters.{user_of}
use Rattle.tree_calls.specs.declared.call.Call.{Call}
use Rattle.tree_calls.specs.declared.call.Call.TheVariants.{NewFileset, Create, MakeDir, Remove, Rename, Truncate, SetAcl, CloneFileset, Read, Write, List as ListNames, Stat, GetAcl, Sync, Lock, Unlock, OpenFile, CloseFile, MoveFileset}
use Rattle.tree_calls.specs.declared.part.Piece.{Piece}
use Rattle.tree_calls.specs.declared.place.Place.{Place}
use Rattle.tree_calls.specs.declared.reply.Refusal.{Refusal}
use Rattle.tree_calls.specs.declared.reply.Refusal.TheVariants.{Denied, NoFileset}
use Rattle.tree_calls.specs.declared.reply.Reply.{Reply}
use Rattle.tree_calls.specs.declared.reply.Reply.TheVariants.{Ok as Accepted, Refused}
use Rattle.tree_calls.specs.declared.roster.Roster.{Roster}
use Rattle.tree_calls.specs.declared.ship.Record.{Record}
use Rattle.tree_filesets.specs.declared.fileset.Fileset.{Fileset}
use Rattle.tree_filesets.specs.Founding.{control_check, new_fileset, cloned}
use Rattle.tree_filesets.specs.Laws.{is_file_at}
use Rattle.tree_filesets.specs.Promises.{new_promise, clone_promise}
use Rattle.tree_filesets.specs.Updates.{changed, updated}
use Rattle.tree_filesets.proofs.Stays.{stays_itself}
use Rattle.tree_filesets.proofs.Targets.{then_ok, ok_is}
use Rattle.message_types.specs.Soundness.{IsHost}
use Rattle.store_acts.specs.Acts.{act_done, do_outcome, refuse_outcome}
use Rattle.store_acts.specs.Sound.{IsAct, KeepsLimits}
use Rattle.store_acts.specs.declared.act.Act.{Act}
use Rattle.store_acts.specs.declared.act.Act.TheVariants.{Boot, Epoch, Host, Do, Refuse, Give, Leave, Back, Left, Settle, Part}
use Rattle.store_acts.proofs.Limits.{held_fits}
use Rattle.store_acts.proofs.Next.{IsNext, act_next}
use Rattle.store_state.specs.Founding.{room_for, source_named, clone_target, clone_answer, new_fileset_answer, next_id, with_new}
use Rattle.store_state.specs.Giving.{content_given, held_given, give_outcome}
use Rattle.store_state.specs.Outcomes.{Outcome, refuse, fresh, stale, not_fresh, unless_before, decided, decided_by, decided_once, decided_before, applied_before, change_decided, give_applied}
use Rattle.store_state.specs.Replies.{kept_reply}
use Rattle.store_state.specs.Rows.{answer_to, answer_for, named_row, rename_row, move_check, held_answered, nothing_used, numbered_id, numbered_name}
use Rattle.store_state.specs.State.{is_gone, is_here_as, is_of, is_server, is_writable, slot_so, unless_gone, records_of, record_of, with_held, with_record}
use Rattle.store_state.specs.declared.done.Done.{Done}
use Rattle.store_state.specs.declared.state.Holding.{Holding}
use Rattle.store_state.specs.declared.state.Stay.TheVariants.{Writable, Clone}
use Rattle.store_state.specs.declared.state.StoreState.{StoreState}
use Rattle.service_moves.specs.Again.{IsNumbered, KeepsNumbers}
use Rattle.service_moves.proofs.Grown.{AreGiven, Stays, Grows, KeepsMarks, stays_self, stays_grows, held_stays, new_stays, noted, record_changed, server_records, found_held}

-- what calls leave

answered_marks : (host : HostId) (user : User) (call : Call) → KeepsMarks (held_answered host user call)
answered_marks host user call = record {
  ids = λ h. (stays_itself h.fileset nothing_used host user call).id;
  names = λ h. (stays_itself h.fileset nothing_used host user call).name;
  stays = λ h. refl;
}

named_stays : (state : StoreState) (name : List ℕ) (host : HostId) (user : User) (call : Call) → Stays state (named_row state name host user call).state
unfolding named_row
named_stays state name host user call =
    held_stays state (slot_so (is_here_as name) state.slots) (held_answered host user call) (answered_marks host user call) (λ h. refl)

renamed_stays : (state : StoreState) (host : HostId) (user : User) (from to : Place) → Stays state (rename_row state host user from to).state
unfolding rename_row
renamed_stays state host user from to = by (move_check state from to)
  where
    by : (checked : Result (Unit {0}) Refusal) → Stays state (either checked (λ _. named_row state from.fileset host user (Rename from to)) (refuse state)).state
    by (Ok done) = named_stays state from.fileset host user (Rename from to)
    by (Err refusal) = stays_self state

founded_stays : (state : StoreState) (name : List ℕ) (objects : ℕ) (owner : User) → AreGiven state → Stays state (new_fileset_answer state name objects owner).state
unfolding new_fileset_answer new_fileset
founded_stays state name objects owner g = by (room_for state name (new_promise objects)) refl
  where
    by : (room : Result ℕ Refusal) → room_for state name (new_promise objects) ≡ room
        → Stays state (either room (λ slot. record {
          reply = Accepted;
          state = with_new state slot Writable (new_fileset state.server (next_id state) name objects owner);
        }) (refuse state)).state
    by (Err refusal) e = stays_self state
    by (Ok slot) e =
        new_stays state name (new_promise objects) slot Writable (new_fileset state.server (next_id state) name objects owner) g e refl refl

cloned_stays : (state : StoreState) (user : User) (source new : List ℕ) → AreGiven state → Stays state (clone_answer state user source new).state
unfolding clone_answer clone_target cloned
cloned_stays state user source new g = by (clone_target state user source new) refl
  where
    same_room : (found fileset : Fileset) (place slot : ℕ) → ◌≡◌ {A = Fileset × ℕ} (found, place) (fileset, slot) → room_for state new (clone_promise found) ≡ Ok place
        → room_for state new (clone_promise fileset) ≡ Ok slot
    same_room found fileset place slot pair room = subst (λ (p : Fileset × ℕ). room_for state new (clone_promise p.0) ≡ Ok p.1) pair room

    targets : (fileset : Fileset) (slot : ℕ) → clone_target state user source new ≡ Ok (fileset, slot) → room_for state new (clone_promise fileset) ≡ Ok slot
    targets fileset slot e =
        let (found, is_found, a) = then_ok (source_named state source) _ (fileset, slot) e in
        let (checked, is_checked, b) = then_ok (control_check found user) _ (fileset, slot) a in
        let (place, is_place, c) = then_ok (room_for state new (clone_promise found)) _ (fileset, slot) b in
        same_room found fileset place slot (ok_is _ _ c) is_place

    by : (target : Result (Fileset × ℕ) Refusal) → clone_target state user source new ≡ target
        → Stays state (either target (λ (fileset, slot). record { reply = Accepted; state = with_new state slot Clone (cloned fileset (next_id state) new) }) (refuse state)).state
    by (Err refusal) e = stays_self state
    by (Ok (fileset, slot)) e = new_stays state new (clone_promise fileset) slot Clone (cloned fileset (next_id state) new) g (targets fileset slot e) refl refl

for_stays : (state : StoreState) (host : HostId) (call : Call) (user : User) → AreGiven state → Stays state (answer_for state host call user).state
unfolding answer_for
for_stays state host (NewFileset server name objects owner) user g = founded_stays state name objects owner g
for_stays state host (CloneFileset server source new) user g = cloned_stays state user source new g
for_stays state host (MoveFileset server name to) user g = stays_self state
for_stays state host (Lock label place writing from len) user g = stays_self state
for_stays state host (Unlock label) user g = stays_self state
for_stays state host (OpenFile label place kind) user g = stays_self state
for_stays state host (CloseFile label) user g = stays_self state
for_stays state host (Create place) user g = named_stays state place.fileset host user (Create place)
for_stays state host (MakeDir place) user g = named_stays state place.fileset host user (MakeDir place)
for_stays state host (Remove place) user g = named_stays state place.fileset host user (Remove place)
for_stays state host (Rename from to) user g = renamed_stays state host user from to
for_stays state host (Truncate place len) user g = named_stays state place.fileset host user (Truncate place len)
for_stays state host (SetAcl place which list) user g = named_stays state place.fileset host user (SetAcl place which list)
for_stays state host (Read place from len) user g = named_stays state place.fileset host user (Read place from len)
for_stays state host (Write place from bytes) user g = named_stays state place.fileset host user (Write place from bytes)
for_stays state host (ListNames place) user g = named_stays state place.fileset host user (ListNames place)
for_stays state host (Stat place) user g = named_stays state place.fileset host user (Stat place)
for_stays state host (GetAcl place which) user g = named_stays state place.fileset host user (GetAcl place which)
for_stays state host (Sync place) user g = named_stays state place.fileset host user (Sync place)

answer_stays : (state : StoreState) (host : HostId) (call : Call) → AreGiven state → Stays state (answer_to state host call).state
unfolding answer_to
answer_stays state host call g = by (user_of state.roster host)
  where
    by : (o : Option User) → Stays state (option_map_or (answer_for state host call) o (refuse state (Denied 0))).state
    by None = stays_self state
    by (Some user) = for_stays state host call user g

given_marks : (fid : Fid) (pieces : List Piece) (given : Option ℕ) → KeepsMarks (held_given fid pieces given)
unfolding updated
given_marks fid pieces given = record {
  ids = λ h. ids (is_writable h.stay && is_file_at h.fileset fid) h;
  names = λ h. names (is_writable h.stay && is_file_at h.fileset fid) h;
  stays = λ h. stays (is_writable h.stay && is_file_at h.fileset fid) h;
}
  where
    ids : (b : Bool) (h : Holding) → (if b then record h { fileset = changed h.fileset fid.anode (content_given pieces given) } else h).fileset.id ≡ h.fileset.id
    ids true h = refl
    ids false h = refl

    names : (b : Bool) (h : Holding) → (if b then record h { fileset = changed h.fileset fid.anode (content_given pieces given) } else h).fileset.name ≡ h.fileset.name
    names true h = refl
    names false h = refl

    stays : (b : Bool) (h : Holding) → (if b then record h { fileset = changed h.fileset fid.anode (content_given pieces given) } else h).stay ≡ h.stay
    stays true h = refl
    stays false h = refl

given_stays : (state : StoreState) (at : ℕ) (fid : Fid) (pieces : List Piece) (given : Option ℕ) → Stays state (with_held state at (held_given fid pieces given))
given_stays state at fid pieces given = held_stays state at (held_given fid pieces given) (given_marks fid pieces given) same
  where
    same : (h : Holding) → (held_given fid pieces given h).records ≡ h.records
    same h = by (is_writable h.stay && is_file_at h.fileset fid)
      where
        by : (b : Bool) → (if b then record h { fileset = changed h.fileset fid.anode (content_given pieces given) } else h).records ≡ h.records
        by true = refl
        by false = refl

-- a change that was decided, and a give-back that was applied
pub record IsDecided (state : StoreState) (id : FilesetId) (host : HostId) (number : ℕ) : Type 0 where
  pub records : List Record
  pub there : records_of state id ≡ Some records
  pub reached : number ≤ (record_of records host).change

pub record IsApplied (state : StoreState) (id : FilesetId) (host : HostId) (number : ℕ) : Type 0 where
  pub records : List Record
  pub there : records_of state id ≡ Some records
  pub reached : number ≤ (record_of records host).give

-- the number of an act stands where it is looked for
pub record IsDoneUnder (state : StoreState) (name : Option (List ℕ)) (host : HostId) (number : ℕ) : Type 0 where
  pub id : FilesetId
  pub leads : numbered_id state name ≡ Some id
  pub decided : IsDecided state id host number

-- an act that was done
abbrev pub WasDone : Act → StoreState → Type 0
WasDone (Do host number call) state = IsDoneUnder state (numbered_name call) host number
WasDone (Refuse host id number refusal) state = IsDecided state id host number
WasDone (Give host number fid pieces given) state = IsApplied state fid.fileset host number
WasDone Boot state = ⊥
WasDone Epoch state = ⊥
WasDone (Host host known) state = ⊥
WasDone (Leave id to) state = ⊥
WasDone (Back host number id refusal) state = ⊥
WasDone (Left id) state = ⊥
WasDone (Settle id) state = ⊥
WasDone (Part from ship id moves at part) state = ⊥

-- it stays so
decided_grows : (old new : StoreState) (id : FilesetId) (host : HostId) (number : ℕ) → Grows old new → IsDecided old id host number → IsDecided new id host number
decided_grows old new id host number g d =
    let (later, there, above) = g.records id d.records d.there in
    record { records = later; there = there; reached = (let a = (above host).change in let b = d.reached in omega (arith, a, b)) }

applied_grows : (old new : StoreState) (id : FilesetId) (host : HostId) (number : ℕ) → Grows old new → IsApplied old id host number → IsApplied new id host number
applied_grows old new id host number g d =
    let (later, there, above) = g.records id d.records d.there in
    record { records = later; there = there; reached = (let a = (above host).give in let b = d.reached in omega (arith, a, b)) }

leads_grows : (old new : StoreState) (name : Option (List ℕ)) (id : FilesetId) → Grows old new → numbered_id old name ≡ Some id → numbered_id new name ≡ Some id
leads_grows old new None id g e = e
leads_grows old new (Some name) id g e = g.names name id e

pub done_grows : (act : Act) (old new : StoreState) → Grows old new → WasDone act old → WasDone act new
done_grows (Do host number call) old new g d =
    record { id = d.id; leads = leads_grows old new (numbered_name call) d.id g d.leads; decided = decided_grows old new d.id host number g d.decided }
done_grows (Refuse host id number refusal) old new g d = decided_grows old new id host number g d
done_grows (Give host number fid pieces given) old new g d = applied_grows old new fid.fileset host number g d
done_grows Boot old new g d = d
done_grows Epoch old new g d = d
done_grows (Host host known) old new g d = d
done_grows (Leave id to) old new g d = d
done_grows (Back host number id refusal) old new g d = d
done_grows (Left id) old new g d = d
done_grows (Settle id) old new g d = d
done_grows (Part from ship id moves at part) old new g d = d

-- and then the act changes nothing
not_below : (a b : ℕ) → b ≤ a → nat_lt a b ≡ false
not_below a b h = by (nat_lt a b) refl
  where
    by : (t : Bool) → nat_lt a b ≡ t → t ≡ false
    by false e = refl
    by true e = absurd (let k = ltb-true a b e in omega (arith, h, k))

decided_answers : (state : StoreState) (id : FilesetId) (host : HostId) (number : ℕ) → IsDecided state id host number → (done : Done) × (decided_before state id host number ≡ Some done)
decided_answers state id host number d = (
  not_fresh (kept_reply (record_of d.records host)),
  ap (λ (o : Option (List Record)). option_map_or (λ records. decided_by (record_of records host) number) o (Some (not_fresh (Refused NoFileset)))) d.there
      ∙ ap (λ b. if b then None else Some (not_fresh (kept_reply (record_of d.records host)))) (not_below (record_of d.records host).change number d.reached),
)

applied_answers : (state : StoreState) (id : FilesetId) (host : HostId) (number : ℕ) → IsApplied state id host number → (done : Done) × (applied_before state id host number ≡ Some done)
applied_answers state id host number d = (
  not_fresh Accepted,
  ap (λ (o : Option (List Record)). option_map_or (λ records. if nat_lt (record_of records host).give number then None else Some (not_fresh Accepted)) o (Some (not_fresh (Refused NoFileset)))) d.there
      ∙ ap (λ b. if b then None else Some (not_fresh Accepted)) (not_below (record_of d.records host).give number d.reached),
)

before_same : (before : Option Done) (state : StoreState) (outcome : Outcome) (done : Done) → before ≡ Some done → (unless_before before state outcome).state ≡ state
before_same None state outcome done e = absurd (cc)
before_same (Some other) state outcome done e = refl

pub done_changes_nothing : (act : Act) (state : StoreState) → WasDone act state → (act_done state act).state ≡ state
unfolding act_done do_outcome refuse_outcome give_outcome
done_changes_nothing (Do host number call) state d =
    let (done, e) = decided_answers state d.id host number d.decided in
    let answer = answer_to state host call in
    ap (λ (o : Option FilesetId). (option_map_or (λ id. decided_once state id host number (decided id host number answer)) o (stale (Refused NoFileset) state)).state) d.leads
    ∙ before_same (decided_before state d.id host number) state (decided d.id host number answer) done e
done_changes_nothing (Refuse host id number refusal) state d =
    let (done, e) = decided_answers state id host number d in
    before_same (decided_before state id host number) state _ done e
done_changes_nothing (Give host number fid pieces given) state d =
    let (done, e) = applied_answers state fid.fileset host number d in
    before_same (applied_before state fid.fileset host number) state _ done e
done_changes_nothing Boot state d = absurd d
done_changes_nothing Epoch state d = absurd d
done_changes_nothing (Host host known) state d = absurd d
done_changes_nothing (Leave id to) state d = absurd d
done_changes_nothing (Back host number id refusal) state d = absurd d
done_changes_nothing (Left id) state d = absurd d
done_changes_nothing (Settle id) state d = absurd d
done_changes_nothing (Part from ship id moves at part) state d = absurd d

-- a number finds its place in what is kept of requests
records_full : (state : StoreState) (id : FilesetId) (records : List Record) → KeepsLimits state → records_of state id ≡ Some records → length records ≡ HOSTS_MAX + 1
records_full state id records limits e = by (is_server id) refl
  where
    own : (b : Holding) → unless_gone b ≡ Some records → b.records ≡ records
    own b k = of_stay (is_gone b.stay) k
      where
        of_stay : (gone : Bool) → (if gone then None else Some b.records) ≡ Some records → b.records ≡ records
        of_stay true x = absurd (cc)
        of_stay false x = cc

    by : (b : Bool) → is_server id ≡ b → length records ≡ HOSTS_MAX + 1
    by true is =
        let same : state.records ≡ records = (let a : Some state.records ≡ Some records = sym (server_records state id is) ∙ e in cc) in
        ap (λ (rs : List Record). length rs) (sym same) ∙ limits.records.count
    by false is =
        let (b, there, has) = found_held state id records is e in
        let fits = held_fits state.roster state.slots (slot_so (is_of id) state.slots) b limits.slots there in
        ap (λ (rs : List Record). length rs) (sym (own b has)) ∙ fits.records.count

inside : (state : StoreState) (id : FilesetId) (host : HostId) (records : List Record) → KeepsLimits state → host.0 ≤ HOSTS_MAX → records_of state id ≡ Some records → host.0 < length records
inside state id host records limits h e = let full = records_full state id records limits e in omega (arith, full, h)

-- what an outcome is: nothing where the act isn't done now, and else what the act is to leave
abbrev pub NowOrNothing : StoreState → Outcome → (StoreState → Type 0) → Type 0
NowOrNothing state outcome P = ((outcome.done.fresh ≡ false) × (outcome.state ≡ state)) ⊎ (Grows state outcome.state × P outcome.state)

-- a change
decide_does : (state between : StoreState) (id : FilesetId) (host : HostId) (number : ℕ) (reply : Reply) → KeepsLimits state → host.0 ≤ HOSTS_MAX → Stays state between
    → NowOrNothing state (decided_once state id host number (fresh reply (with_record between id host (change_decided number reply)))) (λ new. IsDecided new id host number)
decide_does state between id host number reply limits low stays = by (records_of state id) refl
  where
    done_now : Outcome
    done_now = fresh reply (with_record between id host (change_decided number reply))

    now : (records : List Record) → records_of state id ≡ Some records → (record_of records host).change < number
        → Grows state (with_record between id host (change_decided number reply)) × IsDecided (with_record between id host (change_decided number reply)) id host number
    now records there below =
        let note = noted between id host (change_decided number reply) records (stays.records id records there) (record { change = omega (arith, below); give = omega arith }) in (
          stays_grows state between _ stays note.grows,
          record {
            records = changed_at records host.0 (change_decided number reply);
            there = note.there;
            reached = (let e : (record_of (changed_at records host.0 (change_decided number reply)) host).change ≡ number =
                ap (λ (kept : Record). kept.change) (record_changed records host (change_decided number reply) (inside state id host records limits low there)) in omega (arith, e));
          },
        )

    by_number : (records : List Record) → records_of state id ≡ Some records → (b : Bool) → nat_lt (record_of records host).change number ≡ b
        → NowOrNothing state (unless_before (if b then None else Some (not_fresh (kept_reply (record_of records host)))) state done_now) (λ new. IsDecided new id host number)
    by_number records there false e = inl (refl, refl)
    by_number records there true e = inr (now records there (ltb-true (record_of records host).change number e))

    by : (o : Option (List Record)) → records_of state id ≡ o
        → NowOrNothing state (unless_before (option_map_or (λ records. decided_by (record_of records host) number) o (Some (not_fresh (Refused NoFileset)))) state done_now) (λ new. IsDecided new id host number)
    by None there = inl (refl, refl)
    by (Some records) there = by_number records there (nat_lt (record_of records host).change number) refl

-- a give-back
apply_does : (state between : StoreState) (id : FilesetId) (host : HostId) (number : ℕ) → KeepsLimits state → host.0 ≤ HOSTS_MAX → Stays state between
    → NowOrNothing state (unless_before (applied_before state id host number) state (fresh Accepted (with_record between id host (give_applied number)))) (λ new. IsApplied new id host number)
apply_does state between id host number limits low stays = by (records_of state id) refl
  where
    done_now : Outcome
    done_now = fresh Accepted (with_record between id host (give_applied number))

    now : (records : List Record) → records_of state id ≡ Some records → (record_of records host).give < number
        → Grows state (with_record between id host (give_applied number)) × IsApplied (with_record between id host (give_applied number)) id host number
    now records there below =
        let note = noted between id host (give_applied number) records (stays.records id records there) (record { change = omega arith; give = omega (arith, below) }) in (
          stays_grows state between _ stays note.grows,
          record {
            records = changed_at records host.0 (give_applied number);
            there = note.there;
            reached = (let e : (record_of (changed_at records host.0 (give_applied number)) host).give ≡ number =
                ap (λ (kept : Record). kept.give) (record_changed records host (give_applied number) (inside state id host records limits low there)) in omega (arith, e));
          },
        )

    by_number : (records : List Record) → records_of state id ≡ Some records → (b : Bool) → nat_lt (record_of records host).give number ≡ b
        → NowOrNothing state (unless_before (if b then None else Some (not_fresh Accepted)) state done_now) (λ new. IsApplied new id host number)
    by_number records there false e = inl (refl, refl)
    by_number records there true e = inr (now records there (ltb-true (record_of records host).give number e))

    by : (o : Option (List Record)) → records_of state id ≡ o
        → NowOrNothing state (unless_before (option_map_or (λ records. if nat_lt (record_of records host).give number then None else Some (not_fresh Accepted)) o (Some (not_fresh (Refused NoFileset)))) state done_now)
        (λ new. IsApplied new id host number)
    by None there = inl (refl, refl)
    by (Some records) there = by_number records there (nat_lt (record_of records host).give number) refl

-- a call
call_does : (state : StoreState) (host : HostId) (number : ℕ) (call : Call) → KeepsNumbers state → host.0 ≤ HOSTS_MAX
    → NowOrNothing state (do_outcome state host number call) (λ new. IsDoneUnder new (numbered_name call) host number)
unfolding do_outcome
call_does state host number call keeps low = by (numbered_id state (numbered_name call)) refl
  where
    led : (id : FilesetId) (outcome : Outcome) → numbered_id state (numbered_name call) ≡ Some id → NowOrNothing state outcome (λ new. IsDecided new id host number)
        → NowOrNothing state outcome (λ new. IsDoneUnder new (numbered_name call) host number)
    led id outcome leads (inl nothing) = inl nothing
    led id outcome leads (inr (grows, is)) =
        inr (grows, record { id = id; leads = leads_grows state outcome.state (numbered_name call) id grows leads; decided = is })

    by : (o : Option FilesetId) → numbered_id state (numbered_name call) ≡ o
        → NowOrNothing state (option_map_or (λ id. decided_once state id host number (decided id host number (answer_to state host call))) o (stale (Refused NoFileset) state))
        (λ new. IsDoneUnder new (numbered_name call) host number)
    by None leads = inl (refl, refl)
    by (Some id) leads =
        led id (decided_once state id host number (decided id host number (answer_to state host call))) leads
        (decide_does state (answer_to state host call).state id host number (answer_to state host call).reply keeps.limits low (answer_stays state host call keeps.given))

low_host : (state : StoreState) (host : HostId) → KeepsNumbers state → IsHost state.roster host → host.0 ≤ HOSTS_MAX
low_host state host keeps h = let most = keeps.hosts in omega (arith, h, most)

-- each act under a number
pub act_does : (act : Act) (state : StoreState) → KeepsNumbers state → IsAct state.roster state.server act → IsNumbered act → NowOrNothing state (act_done state act) (WasDone act)
unfolding act_done refuse_outcome give_outcome
act_does (Do host number call) state keeps is n = call_does state host number call keeps (low_host state host keeps is.0)
act_does (Refuse host id number refusal) state keeps is n =
    decide_does state state id host number (Refused refusal) keeps.limits (low_host state host keeps is) (stays_self state)
act_does (Give host number fid pieces given) state keeps is n =
    apply_does state (with_held state (slot_so (is_of fid.fileset) state.slots) (held_given fid pieces given)) fid.fileset host number keeps.limits (low_host state host keeps is.0)
    (given_stays state (slot_so (is_of fid.fileset) state.slots) fid pieces given)
act_does Boot state keeps is n = absurd n
act_does Epoch state keeps is n = absurd n
act_does (Host host known) state keeps is n = absurd n
act_does (Leave id to) state keeps is n = absurd n
act_does (Back host number id refusal) state keeps is n = absurd n
act_does (Left id) state keeps is n = absurd n
act_does (Settle id) state keeps is n = absurd n
act_does (Part from ship id moves at part) state keeps is n = absurd n

-- it leaves a record that keeps numbers
pub keeps_next : (act : Act) (state : StoreState) → KeepsNumbers state → IsAct state.roster state.server act → IsNumbered act → KeepsNumbers (act_done state act).state
keeps_next act state keeps is n = record {
  limits = next.limits;
  hosts = subst (λ (r : Roster). length r.hosts ≤ HOSTS_MAX) (sym next.roster) keeps.hosts;
  given = given (act_does act state keeps is n);
}
  where
    next : IsNext state (act_done state act).state
    next = act_next state act keeps.limits is

    given : NowOrNothing state (act_done state act) (WasDone act) → AreGiven (act_done state act).state
    given (inl (stale, same)) = subst AreGiven (sym same) keeps.given
    given (inr (grows, done)) = grows.given keeps.given
