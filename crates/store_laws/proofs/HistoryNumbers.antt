-- The numbers that a store keeps of hosts' requests, after an act.
use Rattle.std.proofs.Common.{◌≡◌, ◌≤◌, ◌<◌, ℕ, zero, suc, ◌+◌, Bool, true, false, List, [], ◌∷◌, set, replicate, Option, Some, None, unwrap_or, Result, Ok, Err, refl, sym, ap, subst, arith}
use Rattle.std.specs.Prelude.{slice_get, if◌then◌else◌, ◌&&◌}
use Rattle.std.specs.Option.{option_map, option_map_or}
use Rattle.base_types.specs.Lists.{changed_at}
use Rattle.base_types.specs.Outcomes.{either}
use Rattle.base_types.specs.declared.ids.Fid.{Fid}
use Rattle.base_types.specs.declared.ids.FilesetId.{FilesetId}
use Rattle.base_types.specs.declared.ids.HostId.{HostId}
use Rattle.base_types.specs.declared.limits.TheConstants.{HOSTS_MAX}
use Rattle.base_types.specs.declared.user.User.{User}
use Rattle.tree_calls.specs.Rosters.{user_of}
use Rattle.tree_calls.specs.declared.call.Call.{Call}
use Rattle.tree_calls.specs.declared.call.Call.TheVariants.{
  NewFileset,
  Create,
  MakeDir,
  Remove,
  Rename,
  Truncate,
  SetAcl,
  CloneFileset,
  Read,
  Write,
  List as ListNames,
  Stat,
  GetAcl,
  Sync,
  Lock,
  Unlock,
  OpenFile,
  CloseFile,
  MoveFileset,
}
use Rattle.tree_calls.specs.declared.part.Piece.{Piece}
use Rattle.tree_calls.specs.declared.place.Place.{Place}
use Rattle.tree_calls.specs.declared.reply.Refusal.{Refusal}
use Rattle.tree_calls.specs.declared.reply.Refusal.TheVariants.{NoFileset, Denied}
use Rattle.tree_calls.specs.declared.reply.Reply.{Reply}
use Rattle.tree_calls.specs.declared.reply.Reply.TheVariants.{Refused}
use Rattle.tree_calls.specs.declared.ship.Record.{Record}
use Rattle.tree_filesets.specs.declared.fileset.Fileset.{Fileset}
use Rattle.tree_filesets.specs.Laws.{is_file_at}
use Rattle.tree_filesets.specs.Updates.{changed}
use Rattle.store_acts.specs.Acts.{act_done, do_outcome}
use Rattle.store_acts.specs.declared.act.Act.TheVariants.{Do, Give}
use Rattle.store_state.specs.Founding.{with_new, new_fileset_answer, clone_answer, clone_target, room_for}
use Rattle.store_state.specs.Giving.{content_given, give_outcome, held_given}
use Rattle.store_state.specs.Outcomes.{Answer, Outcome, applied_before, change_decided, decided, decided_before, decided_once, give_applied, refuse, stale, unless_before}
use Rattle.store_state.specs.Rows.{held_answered, named_row, rename_row, move_check, answer_for, answer_to, numbered_id, numbered_name}
use Rattle.store_state.specs.State.{held_at, held_noted, is_here_as, is_of, is_server, is_writable, no_record, no_records, record_of, slot_so, with_held, with_record}
use Rattle.store_state.specs.declared.done.Done.{Done}
use Rattle.store_state.specs.declared.state.Holding.{Holding}
use Rattle.store_state.specs.declared.state.Stay.{Stay}
use Rattle.store_state.specs.declared.state.StoreState.{StoreState}
use Rattle.store_laws.specs.HistoryLaws.{AreBelow, IsBehind}

-- a list with one element changed
get_changed : (records : List Record) (i j : ℕ) (f : Record → Record) (P Q : Record → Type 0) →
    ((r : Record) → P r → Q r) → (i ≡ j → (r : Record) → P r → Q (f r)) →
    P (unwrap_or (slice_get records j) no_record) → Q (unwrap_or (slice_get (changed_at records i f) j) no_record)
get_changed [] i j f P Q a b h = a no_record h
get_changed (r ∷ records) zero zero f P Q a b h = b refl r h
get_changed (r ∷ records) zero (suc j) f P Q a b h = a _ h
get_changed (r ∷ records) (suc i) zero f P Q a b h = a r h
get_changed (r ∷ records) (suc i) (suc j) f P Q a b h =
    get_changed records i j f P Q a (λ e. b (ap suc e)) h

abbrev pub IsLow : ℕ → Record → Type 0
IsLow n r = (r.change < n) × (r.give < n)

-- the next numbers of hosts have risen
abbrev pub HaveRisen : (HostId → ℕ) → (HostId → ℕ) → Type 0
HaveRisen next later = (host : HostId) → next host ≤ later host

low_more : (n m : ℕ) (r : Record) → n ≤ m → IsLow n r → IsLow m r
low_more n m r l h = let a = h.0 in let b = h.1 in (omega (arith, l, a), omega (arith, l, b))

below_more : (next later : HostId → ℕ) (records : List Record) → HaveRisen next later → AreBelow next records →
    AreBelow later records
below_more next later records l h = λ host. low_more (next host) (later host) (record_of records host) (l host) (h host)

pub behind_more : (next later : HostId → ℕ) (state : StoreState) → HaveRisen next later → IsBehind next state →
    IsBehind later state
behind_more next later state l h = record {
  own = below_more next later state.records l h.own;
  held = λ slot holding e. below_more next later holding.records l (h.held slot holding e);
}

-- a change of a host's record that stays below
abbrev pub StaysLow : (HostId → ℕ) → (HostId → ℕ) → HostId → (Record → Record) → Type 0
StaysLow next later host f = (r : Record) → IsLow (next host) r → IsLow (later host) (f r)

pub same_host : (a b : HostId) → a.0 ≡ b.0 → a ≡ b
same_host a b e = ap (λ n. let host : HostId = record { 0 = n } in host) e

below_changed : (next later : HostId → ℕ) (records : List Record) (host : HostId) (f : Record → Record) →
    HaveRisen next later → StaysLow next later host f → AreBelow next records →
    AreBelow later (changed_at records host.0 f)
below_changed next later records host f l k h = λ any.
    get_changed records host.0 any.0 f (IsLow (next any)) (IsLow (later any))
    (λ r. low_more (next any) (later any) r (l any))
    (λ e r low.
    subst (λ (one : HostId). IsLow (later one) (f r)) (same_host host any e)
    (k r (subst (λ (one : HostId). IsLow (next one) r) (sym (same_host host any e)) low)))
    (h any)

-- a table with one slot changed, or put
held_changed : (slots : List (Option Holding)) (i j : ℕ) (f : Holding → Holding) (P Q : Holding → Type 0) →
    ((h : Holding) → P h → Q h) → ((h : Holding) → P h → Q (f h)) →
    ((h : Holding) → held_at slots j ≡ Some h → P h) → (h : Holding) →
    held_at (changed_at slots i (option_map f)) j ≡ Some h → Q h
held_changed [] i j f P Q a b k h e = absurd (cc)
held_changed (slot ∷ slots) zero (suc j) f P Q a b k h e = a h (k h e)
held_changed (slot ∷ slots) (suc i) zero f P Q a b k h e = a h (k h e)
held_changed (slot ∷ slots) (suc i) (suc j) f P Q a b k h e = held_changed slots i j f P Q a b k h e
held_changed (None ∷ slots) zero zero f P Q a b k h e = absurd (cc)
held_changed (Some x ∷ slots) zero zero f P Q a b k h e =
    let same : f x ≡ h = cc in subst Q same (b x (k x refl))

held_put : (slots : List (Option Holding)) (i j : ℕ) (new : Holding) (P : Holding → Type 0) → P new →
    ((h : Holding) → held_at slots j ≡ Some h → P h) → (h : Holding) →
    held_at (set slots i (Some new)) j ≡ Some h → P h
held_put [] i j new P n k h e = absurd (cc)
held_put (slot ∷ slots) zero zero new P n k h e = let same : new ≡ h = cc in subst P same n
held_put (slot ∷ slots) zero (suc j) new P n k h e = k h e
held_put (slot ∷ slots) (suc i) zero new P n k h e = k h e
held_put (slot ∷ slots) (suc i) (suc j) new P n k h e = held_put slots i j new P n k h e

-- what a change of a holding makes of its records
behind_held : (next later : HostId → ℕ) (state : StoreState) (at : ℕ) (f : Holding → Holding) → HaveRisen next later →
    ((h : Holding) → AreBelow next h.records → AreBelow later (f h).records) → IsBehind next state →
    IsBehind later (with_held state at f)
behind_held next later state at f l k h = record {
  own = below_more next later state.records l h.own;
  held = λ slot. held_changed state.slots at slot f (λ x. AreBelow next x.records) (λ x. AreBelow later x.records)
      (λ x. below_more next later x.records l) k (h.held slot);
}

no_more : (next : HostId → ℕ) → HaveRisen next next
no_more next host = omega arith

behind_record : (next later : HostId → ℕ) (state : StoreState) (id : FilesetId) (host : HostId) (f : Record → Record) →
    HaveRisen next later → StaysLow next later host f → IsBehind next state →
    IsBehind later (with_record state id host f)
behind_record next later state id host f l k h = by (is_server id)
  where
    by : (b : Bool) → IsBehind later (if b then record state { records = changed_at state.records host.0 f } else
        with_held state (slot_so (is_of id) state.slots) (held_noted host f))
    by true = record {
      own = below_changed next later state.records host f l k h.own;
      held = λ slot holding e. below_more next later holding.records l (h.held slot holding e);
    }
    by false = behind_held next later state (slot_so (is_of id) state.slots) (held_noted host f) l
        (λ x. below_changed next later x.records host f l k) h

-- no requests
none_at : (n i : ℕ) → unwrap_or (slice_get (replicate n no_record) i) no_record ≡ no_record
none_at zero i = refl
none_at (suc n) zero = refl
none_at (suc n) (suc i) = none_at n i

none_below : (next : HostId → ℕ) → ((host : HostId) → 0 < next host) → AreBelow next no_records
none_below next k = λ host. subst (IsLow (next host)) (sym (none_at (HOSTS_MAX + 1) host.0)) (k host, k host)

pub above_none : (next : HostId → ℕ) (state : StoreState) → IsBehind next state → (host : HostId) → 0 < next host
above_none next state h host = let low = (h.own host).0 in omega (arith, low)

behind_new : (next : HostId → ℕ) (state : StoreState) (slot : ℕ) (stay : Stay) (fileset : Fileset) →
    IsBehind next state → IsBehind next (with_new state slot stay fileset)
behind_new next state slot stay fileset h = record {
  own = h.own;
  held = λ at. held_put state.slots slot at (record { stay = stay; fileset = fileset; records = no_records })
      (λ x. AreBelow next x.records) (none_below next (above_none next state h)) (h.held at);
}

-- what is answered
behind_either : {A : Type 0} (next : HostId → ℕ) (checked : Result A Refusal) (state : StoreState) (done : A → Answer) →
    IsBehind next state → ((a : A) → IsBehind next (done a).state) →
    IsBehind next (either checked done (refuse state)).state
behind_either next (Ok a) state done h k = k a
behind_either next (Err refusal) state done h k = h

behind_named : (next : HostId → ℕ) (state : StoreState) (name : List ℕ) (host : HostId) (user : User) (call : Call) →
    IsBehind next state → IsBehind next (named_row state name host user call).state
unfolding named_row
behind_named next state name host user call h =
    behind_held next next state (slot_so (is_here_as name) state.slots) (held_answered host user call) (no_more next)
    (λ x k. k) h

behind_rename : (next : HostId → ℕ) (state : StoreState) (host : HostId) (user : User) (from to : Place) →
    IsBehind next state → IsBehind next (rename_row state host user from to).state
unfolding rename_row
behind_rename next state host user from to h =
    behind_either next (move_check state from to) state _ h
    (λ a. behind_named next state from.fileset host user (Rename from to) h)

behind_found : (next : HostId → ℕ) (state : StoreState) (name : List ℕ) (objects : ℕ) (owner : User) →
    IsBehind next state → IsBehind next (new_fileset_answer state name objects owner).state
unfolding new_fileset_answer
behind_found next state name objects owner h =
    behind_either next (room_for state name _) state _ h (λ slot. behind_new next state slot _ _ h)

behind_clone : (next : HostId → ℕ) (state : StoreState) (user : User) (source new : List ℕ) →
    IsBehind next state → IsBehind next (clone_answer state user source new).state
unfolding clone_answer
behind_clone next state user source new h =
    behind_either next (clone_target state user source new) state _ h
    (λ (fileset, slot). behind_new next state slot _ _ h)

behind_for : (next : HostId → ℕ) (state : StoreState) (host : HostId) (call : Call) (user : User) →
    IsBehind next state → IsBehind next (answer_for state host call user).state
unfolding answer_for
behind_for next state host (NewFileset server name objects owner) user h = behind_found next state name objects owner h
behind_for next state host (CloneFileset server source new) user h = behind_clone next state user source new h
behind_for next state host (MoveFileset server name to) user h = h
behind_for next state host (Lock label place writing from len) user h = h
behind_for next state host (Unlock label) user h = h
behind_for next state host (OpenFile label place kind) user h = h
behind_for next state host (CloseFile label) user h = h
behind_for next state host (Create place) user h = behind_named next state place.fileset host user (Create place) h
behind_for next state host (MakeDir place) user h = behind_named next state place.fileset host user (MakeDir place) h
behind_for next state host (Remove place) user h = behind_named next state place.fileset host user (Remove place) h
behind_for next state host (Rename from to) user h = behind_rename next state host user from to h
behind_for next state host (Truncate place len) user h =
    behind_named next state place.fileset host user (Truncate place len) h
behind_for next state host (SetAcl place which list) user h =
    behind_named next state place.fileset host user (SetAcl place which list) h
behind_for next state host (Read place from len) user h =
    behind_named next state place.fileset host user (Read place from len) h
behind_for next state host (Write place from bytes) user h =
    behind_named next state place.fileset host user (Write place from bytes) h
behind_for next state host (ListNames place) user h = behind_named next state place.fileset host user (ListNames place) h
behind_for next state host (Stat place) user h = behind_named next state place.fileset host user (Stat place) h
behind_for next state host (GetAcl place which) user h =
    behind_named next state place.fileset host user (GetAcl place which) h
behind_for next state host (Sync place) user h = behind_named next state place.fileset host user (Sync place) h

behind_answer : (next : HostId → ℕ) (state : StoreState) (host : HostId) (call : Call) → IsBehind next state →
    IsBehind next (answer_to state host call).state
unfolding answer_to
behind_answer next state host call h = by (user_of state.roster host)
  where
    by : (o : Option User) →
        IsBehind next (option_map_or (answer_for state host call) o (refuse state (Denied 0))).state
    by None = h
    by (Some user) = behind_for next state host call user h

-- what was settled before changes nothing
behind_before : (next later : HostId → ℕ) (before : Option Done) (state : StoreState) (outcome : Outcome) →
    HaveRisen next later → IsBehind next state → IsBehind later outcome.state →
    IsBehind later (unless_before before state outcome).state
behind_before next later None state outcome l h k = k
behind_before next later (Some done) state outcome l h k = behind_more next later state l h

change_low : (next later : HostId → ℕ) (host : HostId) (number : ℕ) (reply : Reply) → HaveRisen next later →
    number < later host → StaysLow next later host (change_decided number reply)
change_low next later host number reply l n r low =
    let risen = l host in let give = low.1 in (n, omega (arith, risen, give))

give_low : (next later : HostId → ℕ) (host : HostId) (number : ℕ) → HaveRisen next later → number < later host →
    StaysLow next later host (give_applied number)
give_low next later host number l n r low =
    let risen = l host in let change = low.0 in (omega (arith, risen, change), n)

-- a call
pub behind_do : (next later : HostId → ℕ) (state : StoreState) (host : HostId) (number : ℕ) (call : Call) →
    HaveRisen next later → number < later host → IsBehind next state →
    IsBehind later (act_done state (Do host number call)).state
unfolding act_done do_outcome
behind_do next later state host number call l n h = by (numbered_id state (numbered_name call))
  where
    by : (o : Option FilesetId) →
        IsBehind later (option_map_or (λ id. decided_once state id host number
        (decided id host number (answer_to state host call))) o (stale (Refused NoFileset) state)).state
    by None = behind_more next later state l h
    by (Some id) =
        behind_before next later (decided_before state id host number) state
        (decided id host number (answer_to state host call)) l h
        (behind_record next later (answer_to state host call).state id host
        (change_decided number (answer_to state host call).reply) l
        (change_low next later host number (answer_to state host call).reply l n) (behind_answer next state host call h))

-- what is given back
given_records : (fid : Fid) (pieces : List Piece) (given : Option ℕ) (holding : Holding) →
    (held_given fid pieces given holding).records ≡ holding.records
given_records fid pieces given holding = by (is_writable holding.stay && is_file_at holding.fileset fid)
  where
    by : (b : Bool) → (if b then record holding { fileset = changed holding.fileset fid.anode (content_given pieces given) } else holding).records ≡ holding.records
    by true = refl
    by false = refl

pub behind_give : (next later : HostId → ℕ) (state : StoreState) (host : HostId) (number : ℕ) (fid : Fid)
    (pieces : List Piece) (given : Option ℕ) → HaveRisen next later → number < later host → IsBehind next state →
    IsBehind later (act_done state (Give host number fid pieces given)).state
unfolding act_done give_outcome
behind_give next later state host number fid pieces given l n h =
    behind_before next later (applied_before state fid.fileset host number) state _ l h
    (behind_record next later (with_held state (slot_so (is_of fid.fileset) state.slots) (held_given fid pieces given))
    fid.fileset host (give_applied number) l (give_low next later host number l n)
    (behind_held next next state (slot_so (is_of fid.fileset) state.slots) (held_given fid pieces given) (no_more next)
    (λ x. subst (AreBelow next) (sym (given_records fid pieces given x))) h))
