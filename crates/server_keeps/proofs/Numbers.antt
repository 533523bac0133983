-- The numbers that a store keeps of requests, after each act of a step.
use Rattle.std.proofs.Common.{Bool, List, None, Option, Result, Ok, Err, Some, [], ap, false, refl, replicate, set}
use Rattle.std.proofs.Common.{subst, suc, sym, true, zero, ℕ, ◌&&◌, ◌+◌, ◌≤◌, ◌≡◌, ◌∷◌, arith}
use Rattle.std.specs.Option.{option_map, option_map_or}
use Rattle.std.specs.Prelude.{if◌then◌else◌, map, option_and_then, slice_get, unwrap_or}
use Rattle.base_types.specs.Lists.{changed_at}
use Rattle.base_types.specs.Outcomes.{either}
use Rattle.base_types.specs.declared.ids.Fid.{Fid}
use Rattle.base_types.specs.declared.ids.FilesetId.{FilesetId}
use Rattle.base_types.specs.declared.ids.HostId.{HostId}
use Rattle.base_types.specs.declared.limits.TheConstants.{HOSTS_MAX}
use Rattle.base_types.specs.declared.user.User.{User}
use Rattle.tree_calls.specs.Rosters.{user_of}
use Rattle.tree_calls.specs.declared.call.Call.{Call}
use Rattle.tree_calls.specs.declared.call.Call.TheVariants.{CloneFileset, CloseFile, Create, GetAcl, List as ListNames}
use Rattle.tree_calls.specs.declared.call.Call.TheVariants.{Lock, MakeDir, MoveFileset, NewFileset, OpenFile, Read}
use Rattle.tree_calls.specs.declared.call.Call.TheVariants.{Remove, Rename, SetAcl, Stat, Sync, Truncate, Unlock, Write}
use Rattle.tree_calls.specs.declared.part.Piece.{Piece}
use Rattle.tree_calls.specs.declared.place.Place.{Place}
use Rattle.tree_calls.specs.declared.reply.Refusal.{Refusal}
use Rattle.tree_calls.specs.declared.reply.Refusal.TheVariants.{Denied, NoFileset}
use Rattle.tree_calls.specs.declared.reply.Reply.{Reply}
use Rattle.tree_calls.specs.declared.reply.Reply.TheVariants.{Refused}
use Rattle.tree_calls.specs.declared.ship.Record.{Record}
use Rattle.tree_filesets.specs.Laws.{is_file_at}
use Rattle.tree_filesets.specs.Updates.{changed, updated}
use Rattle.tree_filesets.specs.declared.fileset.Fileset.{Fileset}
use Rattle.store_acts.specs.Acts.{act_done, do_outcome, held_booted, refuse_outcome}
use Rattle.store_acts.specs.declared.act.Act.{Act}
use Rattle.store_acts.specs.declared.act.Act.TheVariants.{Back, Boot, Do, Epoch, Give, Host, Leave, Left, Part, Refuse}
use Rattle.store_acts.specs.declared.act.Act.TheVariants.{Settle}
use Rattle.store_laws.proofs.Keys.{equal_keys}
use Rattle.store_laws.proofs.Slots.{held_passes}
use Rattle.store_memory.specs.Reading.{last_of}
use Rattle.store_state.specs.Founding.{clone_answer, clone_target, new_fileset_answer, room_for, with_new}
use Rattle.store_state.specs.Giving.{content_given, give_outcome, held_given}
use Rattle.store_state.specs.Outcomes.{Answer, Outcome, change_decided, decided, decided_before, decided_once}
use Rattle.store_state.specs.Outcomes.{applied_before, fresh, give_applied, refuse, stale, unless_before}
use Rattle.store_state.specs.Rows.{answer_for, answer_to, held_answered, move_check, named_row, numbered_id}
use Rattle.store_state.specs.Rows.{numbered_name}
use Rattle.store_state.specs.Rows.{rename_row, itself}
use Rattle.store_state.specs.State.{forgotten, held_at, held_noted, held_so, is_gone, is_here_as, is_of, is_server}
use Rattle.store_state.specs.State.{is_writable, no_record, no_records, record_of, records_of, slot_so, unless_gone}
use Rattle.store_state.specs.State.{with_held, with_record}
use Rattle.store_state.specs.declared.done.Done.{Done}
use Rattle.store_state.specs.declared.state.Holding.{Holding}
use Rattle.store_state.specs.declared.state.Stay.{Stay}
use Rattle.store_state.specs.declared.state.StoreState.{StoreState}
use Rattle.tree_filesets.proofs.Stays.{stays_itself}
use Rattle.store_state.specs.Rows.{nothing_used}
use Rattle.server_keeps.specs.Acting.{ChangesBelow, KeepsNotes, NotesBelow, NumbersStay}

-- # Lists with one element changed

get_changed : (records : List Record) (i j : ℕ) (f : Record → Record) (P : Record → Type 0)
    → (i ≡ j → (r : Record) → P r → P (f r)) → P (unwrap_or (slice_get records j) no_record)
    → P (unwrap_or (slice_get (changed_at records i f) j) no_record)
get_changed [] i j f P b h = h
get_changed (r ∷ records) zero zero f P b h = b refl r h
get_changed (r ∷ records) zero (suc j) f P b h = h
get_changed (r ∷ records) (suc i) zero f P b h = h
get_changed (r ∷ records) (suc i) (suc j) f P b h = get_changed records i j f P (λ e. b (ap suc e)) h

same_host : (a b : HostId) → a.0 ≡ b.0 → a ≡ b
same_host a b e = ap (λ n. let host : HostId = record { 0 = n } in host) e

same_fileset : (a b : FilesetId) → a.0 ≡ b.0 → a ≡ b
same_fileset a b e = ap (λ n. let id : FilesetId = record { 0 = n } in id) e

record_changed : (P : HostId → Record → Type 0) (records : List Record) (host : HostId) (f : Record → Record)
    → ((r : Record) → P host r → P host (f r)) → ((any : HostId) → P any (record_of records any))
    → (any : HostId) → P any (record_of (changed_at records host.0 f) any)
record_changed P records host f k h any =
    get_changed records host.0 any.0 f (P any)
    (λ e. subst (λ (one : HostId). (r : Record) → P one r → P one (f r)) (same_host host any e) k) (h any)

held_changed : (slots : List (Option Holding)) (i j : ℕ) (f : Holding → Holding) (P : Holding → Type 0)
    → ((h : Holding) → held_at slots i ≡ Some h → P h → P (f h))
    → ((h : Holding) → held_at slots j ≡ Some h → P h) → (h : Holding)
    → held_at (changed_at slots i (option_map f)) j ≡ Some h → P h
held_changed [] i j f P b k h e = absurd (cc)
held_changed (slot ∷ slots) zero (suc j) f P b k h e = k h e
held_changed (slot ∷ slots) (suc i) zero f P b k h e = k h e
held_changed (slot ∷ slots) (suc i) (suc j) f P b k h e = held_changed slots i j f P b k h e
held_changed (None ∷ slots) zero zero f P b k h e = absurd (cc)
held_changed (Some x ∷ slots) zero zero f P b k h e =
    let same : f x ≡ h = cc in subst P same (b x refl (k x refl))

held_put : (slots : List (Option Holding)) (i j : ℕ) (new : Holding) (P : Holding → Type 0) → P new
    → ((h : Holding) → held_at slots j ≡ Some h → P h) → (h : Holding)
    → held_at (set slots i (Some new)) j ≡ Some h → P h
held_put [] i j new P n k h e = absurd (cc)
held_put (slot ∷ slots) zero zero new P n k h e = let same : new ≡ h = cc in subst P same n
held_put (slot ∷ slots) zero (suc j) new P n k h e = k h e
held_put (slot ∷ slots) (suc i) zero new P n k h e = k h e
held_put (slot ∷ slots) (suc i) (suc j) new P n k h e = held_put slots i j new P n k h e

none_at : (n i : ℕ) → unwrap_or (slice_get (replicate n no_record) i) no_record ≡ no_record
none_at zero i = refl
none_at (suc n) zero = refl
none_at (suc n) (suc i) = none_at n i

none_kept : (records : List Record) (i : ℕ) → unwrap_or (slice_get (forgotten records) i) no_record ≡ no_record
none_kept [] i = refl
none_kept (r ∷ records) zero = refl
none_kept (r ∷ records) (suc i) = none_kept records i

booted_at : (slots : List (Option Holding)) (i : ℕ) (h : Holding)
    → held_at (map (option_map held_booted) slots) i ≡ Some h → (b : Holding) × (held_booted b ≡ h)
booted_at [] i h e = absurd (cc)
booted_at (None ∷ slots) zero h e = absurd (cc)
booted_at (Some b ∷ slots) zero h e = (b, (let same : held_booted b ≡ h = cc in same))
booted_at (slot ∷ slots) (suc i) h e = booted_at slots i h e

-- # What a store keeps of requests

module _ (Q : FilesetId → HostId → Record → Type 0) (empty : (id : FilesetId) (host : HostId) → Q id host no_record)
  where
    abbrev Notes : StoreState → Type 0
    Notes state = KeepsNotes Q state

    abbrev Of : Holding → Type 0
    Of h = (host : HostId) → Q h.fileset.id host (record_of h.records host)

    abbrev Stays : FilesetId → HostId → (Record → Record) → Type 0
    Stays id host f = (r : Record) → Q id host r → Q id host (f r)

    notes_held : (state : StoreState) (at : ℕ) (f : Holding → Holding)
        → ((h : Holding) → held_at state.slots at ≡ Some h → Of h → Of (f h)) → Notes state
        → Notes (with_held state at f)
    notes_held state at f k n = record {
      own = n.own;
      held = λ slot. held_changed state.slots at slot f Of k (n.held slot);
    }

    pub notes_record : (state : StoreState) (id : FilesetId) (host : HostId) (f : Record → Record) → Stays id host f
        → Notes state → Notes (with_record state id host f)
    notes_record state id host f k n = by (is_server id) refl
      where
        by : (b : Bool) → is_server id ≡ b
            → Notes (if b then record state { records = changed_at state.records host.0 f }
            else with_held state (slot_so (is_of id) state.slots) (held_noted host f))
        by true e = record {
          own = record_changed (Q itself) state.records host f
              (subst (λ i. Stays i host f) (same_fileset id itself (equal_keys id.0 0 e)) k) n.own;
          held = n.held;
        }
        by false e =
            notes_held state (slot_so (is_of id) state.slots) (held_noted host f) (λ h there of.
            (let its = same_fileset h.fileset.id id
            (equal_keys h.fileset.id.0 id.0 (held_passes (is_of id) state.slots h there)) in
            record_changed (Q h.fileset.id) h.records host f (subst (λ i. Stays i host f) (sym its) k) of)) n

    notes_new : (state : StoreState) (slot : ℕ) (stay : Stay) (fileset : Fileset) → Notes state
        → Notes (with_new state slot stay fileset)
    notes_new state slot stay fileset n = record {
      own = n.own;
      held = λ at. held_put state.slots slot at (record { stay = stay; fileset = fileset; records = no_records }) Of
          (λ host. subst (Q fileset.id host) (sym (none_at (HOSTS_MAX + 1) host.0)) (empty fileset.id host))
          (n.held at);
    }

    -- what is answered
    notes_either : {A : Type 0} (checked : Result A Refusal) (state : StoreState) (done : A → Answer) → Notes state
        → ((a : A) → Notes (done a).state) → Notes (either checked done (refuse state)).state
    notes_either (Ok a) state done n k = k a
    notes_either (Err refusal) state done n k = n

    notes_named : (state : StoreState) (name : List ℕ) (host : HostId) (user : User) (call : Call) → Notes state
        → Notes (named_row state name host user call).state
    unfolding named_row
    notes_named state name host user call n =
        notes_held state (slot_so (is_here_as name) state.slots) (held_answered host user call) (λ h there of any.
        subst (λ (i : FilesetId). Q i any (record_of h.records any))
        (sym (stays_itself h.fileset nothing_used host user call).id) (of any)) n

    notes_rename : (state : StoreState) (host : HostId) (user : User) (from to : Place) → Notes state
        → Notes (rename_row state host user from to).state
    unfolding rename_row
    notes_rename state host user from to n =
        notes_either (move_check state from to) state _ n
        (λ a. notes_named state from.fileset host user (Rename from to) n)

    notes_found : (state : StoreState) (name : List ℕ) (objects : ℕ) (owner : User) → Notes state
        → Notes (new_fileset_answer state name objects owner).state
    unfolding new_fileset_answer
    notes_found state name objects owner n =
        notes_either (room_for state name _) state _ n (λ slot. notes_new state slot _ _ n)

    notes_clone : (state : StoreState) (user : User) (source new : List ℕ) → Notes state
        → Notes (clone_answer state user source new).state
    unfolding clone_answer
    notes_clone state user source new n =
        notes_either (clone_target state user source new) state _ n (λ (fileset, slot). notes_new state slot _ _ n)

    notes_for : (state : StoreState) (host : HostId) (call : Call) (user : User) → Notes state
        → Notes (answer_for state host call user).state
    unfolding answer_for
    notes_for state host (NewFileset server name objects owner) user n = notes_found state name objects owner n
    notes_for state host (CloneFileset server source new) user n = notes_clone state user source new n
    notes_for state host (MoveFileset server name to) user n = n
    notes_for state host (Lock label place writing from len) user n = n
    notes_for state host (Unlock label) user n = n
    notes_for state host (OpenFile label place kind) user n = n
    notes_for state host (CloseFile label) user n = n
    notes_for state host (Create place) user n = notes_named state place.fileset host user (Create place) n
    notes_for state host (MakeDir place) user n = notes_named state place.fileset host user (MakeDir place) n
    notes_for state host (Remove place) user n = notes_named state place.fileset host user (Remove place) n
    notes_for state host (Rename from to) user n = notes_rename state host user from to n
    notes_for state host (Truncate place len) user n = notes_named state place.fileset host user (Truncate place len) n
    notes_for state host (SetAcl place which list) user n =
        notes_named state place.fileset host user (SetAcl place which list) n
    notes_for state host (Read place from len) user n = notes_named state place.fileset host user
        (Read place from len) n
    notes_for state host (Write place from bytes) user n =
        notes_named state place.fileset host user (Write place from bytes) n
    notes_for state host (ListNames place) user n = notes_named state place.fileset host user (ListNames place) n
    notes_for state host (Stat place) user n = notes_named state place.fileset host user (Stat place) n
    notes_for state host (GetAcl place which) user n = notes_named state place.fileset host user (GetAcl place which) n
    notes_for state host (Sync place) user n = notes_named state place.fileset host user (Sync place) n

    notes_answer : (state : StoreState) (host : HostId) (call : Call) → Notes state
        → Notes (answer_to state host call).state
    unfolding answer_to
    notes_answer state host call n = by (user_of state.roster host)
      where
        by : (o : Option User) → Notes (option_map_or (answer_for state host call) o (refuse state (Denied 0))).state
        by None = n
        by (Some user) = notes_for state host call user n

    -- what was settled before changes nothing
    notes_before : (before : Option Done) (state : StoreState) (outcome : Outcome) → Notes state → Notes outcome.state
        → Notes (unless_before before state outcome).state
    notes_before None state outcome n k = k
    notes_before (Some done) state outcome n k = n

    -- acts
    pub notes_do : (state : StoreState) (host : HostId) (number : ℕ) (call : Call)
        → ((id : FilesetId) (reply : Reply) → Stays id host (change_decided number reply)) → Notes state
        → Notes (act_done state (Do host number call)).state
    unfolding act_done do_outcome
    notes_do state host number call k n = by (numbered_id state (numbered_name call))
      where
        by : (o : Option FilesetId) → Notes (option_map_or (λ id. decided_once state id host number
            (decided id host number (answer_to state host call))) o (stale (Refused NoFileset) state)).state
        by None = n
        by (Some id) =
            notes_before (decided_before state id host number) state (decided id host number
            (answer_to state host call)) n
            (notes_record (answer_to state host call).state id host
            (change_decided number (answer_to state host call).reply) (k id (answer_to state host call).reply)
            (notes_answer state host call n))

    pub notes_refuse : (state : StoreState) (host : HostId) (id : FilesetId) (number : ℕ) (refusal : Refusal)
        → Stays id host (change_decided number (Refused refusal)) → Notes state
        → Notes (act_done state (Refuse host id number refusal)).state
    unfolding act_done refuse_outcome
    notes_refuse state host id number refusal k n =
        notes_before (decided_before state id host number) state
        (fresh (Refused refusal) (with_record state id host (change_decided number (Refused refusal)))) n
        (notes_record state id host (change_decided number (Refused refusal)) k n)

    given_of : (fid : Fid) (pieces : List Piece) (given : Option ℕ) (h : Holding) → Of h
        → Of (held_given fid pieces given h)
    unfolding updated
    given_of fid pieces given h of = by (is_writable h.stay && is_file_at h.fileset fid)
      where
        by : (b : Bool) → Of (if b
            then record h { fileset = changed h.fileset fid.anode (content_given pieces given) } else h)
        by true = of
        by false = of

    pub notes_give : (state : StoreState) (host : HostId) (number : ℕ) (fid : Fid) (pieces : List Piece)
        (given : Option ℕ) → Stays fid.fileset host (give_applied number) → Notes state
        → Notes (act_done state (Give host number fid pieces given)).state
    unfolding act_done give_outcome
    notes_give state host number fid pieces given k n =
        notes_before (applied_before state fid.fileset host number) state _ n
        (notes_record (with_held state (slot_so (is_of fid.fileset) state.slots) (held_given fid pieces given))
        fid.fileset host (give_applied number) k
        (notes_held state (slot_so (is_of fid.fileset) state.slots) (held_given fid pieces given)
        (λ h there of. given_of fid pieces given h of) n))

    -- an act that isn't a give-back
    pub notes_act : (some : ℕ) (state : StoreState) (act : Act) → NotesBelow some act
        → ((number : ℕ) → number ≤ some → (id : FilesetId) (host : HostId) (reply : Reply)
        → Stays id host (change_decided number reply)) → Notes state → Notes (act_done state act).state
    unfolding act_done
    notes_act some state (Do host number call) below k n =
        notes_do state host number call (λ id reply. k number below id host reply) n
    notes_act some state (Refuse host id number refusal) below k n =
        notes_refuse state host id number refusal (k number below id host (Refused refusal)) n
    notes_act some state (Host host known) below k n = record { own = n.own; held = n.held }
    notes_act some state Epoch below k n = record { own = n.own; held = n.held }
    notes_act some state Boot below k n = absurd below
    notes_act some state (Give host number fid pieces given) below k n = absurd below
    notes_act some state (Leave id to) below k n = absurd below
    notes_act some state (Back host number id refusal) below k n = absurd below
    notes_act some state (Left id) below k n = absurd below
    notes_act some state (Settle id) below k n = absurd below
    notes_act some state (Part from ship id moves at part) below k n = absurd below

    pub notes_boot : (state : StoreState) → Notes (act_done state Boot).state
    unfolding act_done
    notes_boot state = record {
      own = λ host. subst (Q itself host) (sym (none_kept state.records host.0)) (empty itself host);
      held = λ slot h e host.
          (let (b, same) = booted_at state.slots slot h e in
          subst (λ (x : Holding). Q x.fileset.id host (record_of x.records host)) same
          (subst (Q b.fileset.id host) (sym (none_kept b.records host.0)) (empty b.fileset.id host)));
    }

    -- of what is kept under an id
    pub notes_of : (state : StoreState) (id : FilesetId) (host : HostId) (records : List Record) → Notes state
        → records_of state id ≡ Some records → Q id host (record_of records host)
    notes_of state id host records n e = by (is_server id) refl e
      where
        one : (a b : List Record) → Some a ≡ Some b → a ≡ b
        one a b e = cc

        gone : (h : Holding) (b : Bool) → (if b then None else Some h.records) ≡ Some records → h.records ≡ records
        gone h true e = absurd (cc)
        gone h false e = one h.records records e

        here : (o : Option Holding) → held_so (is_of id) state.slots ≡ o → option_and_then unless_gone o ≡ Some records
            → Q id host (record_of records host)
        here None f e = absurd (cc)
        here (Some h) f e =
            let its = same_fileset h.fileset.id id
            (equal_keys h.fileset.id.0 id.0 (held_passes (is_of id) state.slots h f)) in
            subst (λ (i : FilesetId). Q i host (record_of records host)) its
            (subst (λ rs. Q h.fileset.id host (record_of rs host)) (gone h (is_gone h.stay) e)
            (n.held (slot_so (is_of id) state.slots) h f host))

        by : (b : Bool) → is_server id ≡ b
            → (if b then Some state.records else option_and_then unless_gone (held_so (is_of id) state.slots))
            ≡ Some records → Q id host (record_of records host)
        by true f e =
            subst (λ (i : FilesetId). Q i host (record_of records host))
            (sym (same_fileset id itself (equal_keys id.0 0 f)))
            (subst (λ rs. Q itself host (record_of rs host)) (one state.records records e) (n.own host))
        by false f e = here (held_so (is_of id) state.slots) refl e

-- another thing holds of them
notes_more : (P Q : FilesetId → HostId → Record → Type 0) (state : StoreState)
    → ((id : FilesetId) (host : HostId) (r : Record) → P id host r → Q id host r) → KeepsNotes P state
    → KeepsNotes Q state
notes_more P Q state k n = record {
  own = λ host. k itself host (record_of state.records host) (n.own host);
  held = λ slot h e host. k h.fileset.id host (record_of h.records host) (n.held slot h e host);
}

-- # The numbers of give-backs, and of Changes

abbrev gives_q : (HostId → FilesetId → ℕ) → FilesetId → HostId → Record → Type 0
gives_q last id host kept = kept.give ≤ last host id

abbrev changes_q : ℕ → FilesetId → HostId → Record → Type 0
changes_q last id host kept = kept.change ≤ last

gives_empty : (last : HostId → FilesetId → ℕ) (id : FilesetId) (host : HostId) → gives_q last id host no_record
gives_empty last id host = omega arith

changes_empty : (last : ℕ) (id : FilesetId) (host : HostId) → changes_q last id host no_record
changes_empty last id host = omega arith

told_below : (last : ℕ) (state : StoreState) (id : FilesetId) (host : HostId) → ChangesBelow last state
    → last_of state host id (λ kept. kept.change) ≤ last
told_below last state id host n = by (records_of state id) refl
  where
    by : (o : Option (List Record)) → records_of state id ≡ o
        → option_map_or (λ (records : List Record). (record_of records host).change) o 0 ≤ last
    by None e = omega arith
    by (Some records) e = notes_of (changes_q last) (changes_empty last) state id host records n e

pub numbers_stay : NumbersStay
numbers_stay = record {
  booted = λ state. (
    notes_boot (gives_q (λ host id. 0)) (gives_empty (λ host id. 0)) state,
    notes_boot (changes_q 0) (changes_empty 0) state,
  );
  new = λ last state id host number n above records e.
      (let below = notes_of (gives_q last) (gives_empty last) state id host records n e in
      omega (arith, below, above));
  told = told_below;
  gives = λ last some state act below n.
      notes_act (gives_q last) (gives_empty last) some state act below (λ number less id host reply r h. h) n;
  given = λ last next state host number fid pieces given n more most.
      notes_give (gives_q next) (gives_empty next) state host number fid pieces given (λ r h. most)
      (notes_more (gives_q last) (gives_q next) state (λ id h r low.
      (let rises = more h id in omega (arith, low, rises))) n);
  changes = λ last next state act rises below n.
      notes_act (changes_q next) (changes_empty next) next state act below (λ number less id host reply r h. less)
      (notes_more (changes_q last) (changes_q next) state (λ id h r low. omega (arith, low, rises)) n);
  changes_given = λ last state host number fid pieces given n.
      notes_give (changes_q last) (changes_empty last) state host number fid pieces given (λ r h. h) n;
}
