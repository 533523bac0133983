-- A store that does the acts of a whole history.
use Rattle.store_laws.proofs.Rooms.{same_server}
use Rattle.std.proofs.Common.{◌≡◌, ◌≤◌, ◌<◌, ℕ, ◌+◌, ◌==◌, Bool, true, false, ◌&&◌, List, [], ◌∷◌, ◌++◌, Option, Some, None, Result, Ok, Err, refl, sym, ap, ◌∙◌, subst, arith}
use Rattle.std.specs.Prelude.{if◌then◌else◌, is_some}
use Rattle.std.specs.List.{list_all}
use Rattle.std.specs.Option.{option_map}
use Rattle.base_types.specs.Ids.{same_fid}
use Rattle.base_types.specs.declared.ids.Fid.{Fid}
use Rattle.base_types.specs.declared.ids.HostId.{HostId}
use Rattle.base_types.specs.declared.ids.ServerId.{ServerId}
use Rattle.base_types.specs.declared.span.Span.{Span}
use Rattle.base_types.specs.declared.user.User.{User}
use Rattle.base_types.specs.Outcomes.{either}
use Rattle.tree_calls.specs.Rosters.{user_of}
use Rattle.tree_calls.specs.declared.reply.Refusal.{Refusal}
use Rattle.tree_calls.specs.declared.call.Call.{Call}
use Rattle.tree_calls.specs.declared.call.Call.TheVariants.{
  NewFileset,
  Create,
  MakeDir,
  Remove,
  Rename,
  Truncate,
  SetAcl,
  CloneFileset,
  Read,
  Write,
  List as ListNames,
  Stat,
  GetAcl,
  Sync,
  Lock,
  Unlock,
  OpenFile,
  CloseFile,
  MoveFileset,
}
use Rattle.tree_calls.specs.declared.entry.Entry.{Entry}
use Rattle.tree_calls.specs.declared.entry.Entry.TheVariants.{Call as Called, Stored, Down, Left}
use Rattle.tree_calls.specs.declared.place.Place.{Place}
use Rattle.tree_calls.specs.declared.reply.Reply.{Reply}
use Rattle.tree_calls.specs.declared.reply.Reply.TheVariants.{Ok as Accepted, Bytes, Names, Facts, Access, Refused}
use Rattle.tree_calls.specs.declared.roster.Roster.{Roster}
use Rattle.tree_filesets.specs.WellFormed.{is_at_rest}
use Rattle.tree_objects.proofs.Observed.{and_left, and_right}
use Rattle.tree_saving.specs.Saving.{fid_named}
use Rattle.tree_saving.proofs.Apart.{roster_stays}
use Rattle.tree_answers.specs.declared.tree.Tree.{Tree}
use Rattle.tree_answers.specs.Answers.{answer_for, answer_to, for_user}
use Rattle.tree_answers.specs.Finding.{Answer, refuse}
use Rattle.tree_answers.specs.Moving.{move_answer, move_target}
use Rattle.tree_answers.specs.Histories.{IsHistory, after_entry, after_history}
use Rattle.tree_answers.specs.Stores.{content_at}
use Rattle.tree_answers.specs.WellFormed.{IsWellFormed, is_limited}
use Rattle.tree_answers.proofs.Kept.{formed_entry}
use Rattle.message_types.specs.Soundness.{Each}
use Rattle.store_acts.specs.Acts.{state_after}
use Rattle.store_acts.specs.Sound.{IsAct}
use Rattle.store_acts.specs.declared.act.Act.TheVariants.{Do, Give}
use Rattle.store_state.specs.Rows.{itself}
use Rattle.store_state.specs.State.{record_of}
use Rattle.store_state.specs.declared.state.StoreState.{StoreState}
use Rattle.store_laws.specs.Calls.{DoesKeep, made_at}
use Rattle.store_laws.specs.KeptGives.{after_write, pieces_in}
use Rattle.store_laws.specs.Idle.{is_idle, is_refused, leaves_kept}
use Rattle.store_laws.specs.TreeKeeping.{KeepsOf, fileset_at}
use Rattle.store_laws.proofs.KeptFounds.{founds_are_kept}
use Rattle.store_laws.proofs.KeptGives.{writes_are_kept}
use Rattle.store_laws.proofs.Idle.{idles_are_kept}
use Rattle.store_laws.proofs.Keys.{equal_keys, same_key}
use Rattle.store_laws.proofs.KeptRows.{rows_are_kept}
use Rattle.store_laws.specs.Acts.{act_if, acts_of, call_acts, entry_acts, number_written}
use Rattle.store_laws.specs.HistoryLaws.{HistoriesAreKept, IsBehind, IsGiven}
use Rattle.store_laws.specs.Shape.{
  are_numbered,
  has_number,
  is_due,
  is_own,
  moves_none,
  next_number,
  number_after,
  rests,
  stores_stand,
  written_by,
}
use Rattle.store_laws.proofs.HistoryNumbers.{HaveRisen, behind_do, behind_give, behind_more, same_host}
use Rattle.store_laws.proofs.HistoryRows.{IsRow, decided_at, doable, found_to, is_change, made, row_to}
use Rattle.store_laws.proofs.HistorySteps.{Goes, behind_records, goes_if, goes_none, goes_one, goes_then}
use Rattle.store_laws.proofs.Writes.{never_rests, one_fid, pieces_fit, write_named, written_at, written_so}

-- the next numbers behind an entry
abbrev rise : (HostId → ℕ) → Entry → HostId → ℕ
rise next entry = λ host. next_number host (next host) entry

abbrev end : (HostId → ℕ) → List Entry → HostId → ℕ
end next entries = λ host. number_after host (next host) entries

risen : (next : HostId → ℕ) (entry : Entry) → HaveRisen next (rise next entry)
risen next entry host = by (is_own host entry)
  where
    by : (b : Bool) → next host ≤ (if b then next host + 1 else next host)
    by true = omega arith
    by false = omega arith

number_is : (next : HostId → ℕ) (host : HostId) (k : ℕ) (call : Call) (reply : Reply) →
    has_number host (next host) (Called host k call reply) ≡ true → k ≡ next host
number_is next host k call reply h =
    equal_keys k (next host) (sym (ap (λ b. if b then k == next host else true) (same_key host.0)) ∙ h)

number_low : (next : HostId → ℕ) (host : HostId) (k : ℕ) (call : Call) (reply : Reply) → k ≡ next host →
    k < rise next (Called host k call reply) host
number_low next host k call reply e =
    subst (λ n. k < n) (sym (ap (λ b. if b then next host + 1 else next host) (same_key host.0))) (omega (arith, e))

-- a history that is still to come
record Runs (roster : Roster) (next : HostId → ℕ) (tree : Tree) (wrote : Option (HostId × Fid)) (entries : List Entry) :
    Type 0 where
  formed : IsWellFormed tree
  legal : IsHistory tree entries
  stores : stores_stand wrote tree entries ≡ true
  numbered : (host : HostId) → are_numbered host (next host) entries ≡ true
  given : Each (IsGiven roster) entries
  stays : list_all moves_none entries ≡ true
  roster_is : tree.roster ≡ roster

abbrev Follows : Roster → ServerId → List Entry → Type 0
Follows roster server entries =
    (next : HostId → ℕ) (tree : Tree) (wrote : Option (HostId × Fid)) (state : StoreState)
    → Runs roster next tree wrote entries → rests tree ≡ true → state.server ≡ server → KeepsOf tree state
    → IsBehind next state → Goes (end next entries) (after_history tree entries) state (acts_of server tree None entries)

pub limited : (roster : Roster) (entry : Entry) → IsGiven roster entry → is_limited entry ≡ true
limited roster (Called host k call reply) h = h.1.objects
limited roster (Stored host fid spans len) h = refl
limited roster (Down host server) h = refl
limited roster (Left server id) h = refl

runs_next : (roster : Roster) (next : HostId → ℕ) (tree : Tree) (wrote later : Option (HostId × Fid)) (entry : Entry)
    (entries : List Entry) → Runs roster next tree wrote (entry ∷ entries) →
    stores_stand later (after_entry tree entry) entries ≡ true →
    Runs roster (rise next entry) (after_entry tree entry) later entries
runs_next roster next tree wrote later entry entries r h = record {
  formed = formed_entry tree entry r.formed r.legal.0 (limited roster entry r.given.0);
  legal = r.legal.1;
  stores = h;
  numbered = λ host. and_right (has_number host (next host) entry) _ (r.numbered host);
  given = r.given.1;
  stays = and_right (moves_none entry) _ r.stays;
  roster_is = roster_stays tree entry ∙ r.roster_is;
}

stand_next : (wrote : Option (HostId × Fid)) (tree : Tree) (entry : Entry) (entries : List Entry) →
    stores_stand wrote tree (entry ∷ entries) ≡ true →
    (later : Option (HostId × Fid)) × (stores_stand later (after_entry tree entry) entries ≡ true)
stand_next wrote tree (Stored host fid spans len) entries h = (None, and_right (is_due wrote host fid) _ h)
stand_next wrote tree (Called host k call reply) entries h =
    (written_by tree (Called host k call reply), and_right (rests tree) _ h)
stand_next wrote tree (Down host server) entries h =
    (written_by tree (Down host server), and_right (rests tree) _ h)
stand_next wrote tree (Left server id) entries h = (written_by tree (Left server id), and_right (rests tree) _ h)

-- where nothing was written, nothing is unsaved
stand_rests : (tree : Tree) (entries : List Entry) → stores_stand None tree entries ≡ true → rests tree ≡ true
stand_rests tree [] h = h
stand_rests tree (Stored host fid spans len ∷ entries) h = absurd (cc)
stand_rests tree (Called host k call reply ∷ entries) h = and_left (rests tree) _ h
stand_rests tree (Down host server ∷ entries) h = and_left (rests tree) _ h
stand_rests tree (Left server id ∷ entries) h = and_left (rests tree) _ h

-- one entry, and then the others
one_more : (roster : Roster) (server : ServerId) (next : HostId → ℕ) (tree : Tree) (later : Option (HostId × Fid))
    (state : StoreState) (entry : Entry) (entries : List Entry) → Follows roster server entries →
    Runs roster (rise next entry) (after_entry tree entry) later entries → rests (after_entry tree entry) ≡ true →
    state.server ≡ server →
    Goes (rise next entry) (after_entry tree entry) state (entry_acts server tree None entry) →
    number_written entry ≡ None →
    Goes (end next (entry ∷ entries)) (after_history tree (entry ∷ entries)) state
    (acts_of server tree None (entry ∷ entries))
one_more roster server next tree later state entry entries ih r rest at g none =
    let acts = entry_acts server tree None entry in
    let after = ih (rise next entry) (after_entry tree entry) later (state_after state acts) r rest (g.server ∙ at)
    g.does.keeps g.does.behind in
    let whole = goes_then (rise next entry) (end next (entry ∷ entries)) (after_entry tree entry)
    (after_history tree (entry ∷ entries)) state acts (acts_of server (after_entry tree entry) None entries) g after in
    subst (λ n. Goes (end next (entry ∷ entries)) (after_history tree (entry ∷ entries)) state
    (acts ++ acts_of server (after_entry tree entry) n entries)) (sym none) whole

-- an entry that changes nothing that stores keep
idle_call : (server : ServerId) (tree : Tree) (host : HostId) (k : ℕ) (call : Call) → leaves_kept call ≡ true →
    call_acts server tree host k call ≡ []
idle_call server tree host k (Read place from len) h = refl
idle_call server tree host k (Write place from bytes) h = refl
idle_call server tree host k (ListNames place) h = refl
idle_call server tree host k (Stat place) h = refl
idle_call server tree host k (GetAcl place which) h = refl
idle_call server tree host k (Sync place) h = refl
idle_call server tree host k (Lock label place writing from len) h = refl
idle_call server tree host k (Unlock label) h = refl
idle_call server tree host k (OpenFile label place kind) h = refl
idle_call server tree host k (CloseFile label) h = refl
idle_call server tree host k (NewFileset at name objects owner) h = absurd (cc)
idle_call server tree host k (CloneFileset at source new) h = absurd (cc)
idle_call server tree host k (MoveFileset at name to) h = refl
idle_call server tree host k (Create place) h = absurd (cc)
idle_call server tree host k (MakeDir place) h = absurd (cc)
idle_call server tree host k (Remove place) h = absurd (cc)
idle_call server tree host k (Rename from to) h = absurd (cc)
idle_call server tree host k (Truncate place len) h = absurd (cc)
idle_call server tree host k (SetAcl place which list) h = absurd (cc)

idle_acts : (server : ServerId) (tree : Tree) (entry : Entry) → is_idle entry ≡ true →
    entry_acts server tree None entry ≡ []
idle_acts server tree (Called host k call Accepted) h = idle_call server tree host k call h
idle_acts server tree (Called host k call (Bytes bytes)) h = refl
idle_acts server tree (Called host k call (Names names)) h = refl
idle_acts server tree (Called host k call (Facts facts)) h = refl
idle_acts server tree (Called host k call (Access list)) h = refl
idle_acts server tree (Called host k call (Refused refusal)) h = refl
idle_acts server tree (Stored host fid spans len) h = refl
idle_acts server tree (Down host at) h = refl
idle_acts server tree (Left at id) h = refl

none_written : (host : HostId) (k : ℕ) (call : Call) (reply : Reply) → leaves_kept call ≡ true →
    number_written (Called host k call reply) ≡ None
none_written host k (Write place from []) reply h = refl
none_written host k (Write place from (value ∷ values)) reply h = absurd (cc)
none_written host k (Read place from len) reply h = refl
none_written host k (ListNames place) reply h = refl
none_written host k (Stat place) reply h = refl
none_written host k (GetAcl place which) reply h = refl
none_written host k (Sync place) reply h = refl
none_written host k (Lock label place writing from len) reply h = refl
none_written host k (Unlock label) reply h = refl
none_written host k (OpenFile label place kind) reply h = refl
none_written host k (CloseFile label) reply h = refl
none_written host k (NewFileset at name objects owner) reply h = refl
none_written host k (CloneFileset at source new) reply h = refl
none_written host k (MoveFileset at name to) reply h = refl
none_written host k (Create place) reply h = refl
none_written host k (MakeDir place) reply h = refl
none_written host k (Remove place) reply h = refl
none_written host k (Rename from to) reply h = refl
none_written host k (Truncate place len) reply h = refl
none_written host k (SetAcl place which list) reply h = refl

refused_none : (host : HostId) (k : ℕ) (call : Call) (reply : Reply) → is_refused reply ≡ true →
    number_written (Called host k call reply) ≡ None
refused_none host k (Write place from []) reply h = refl
refused_none host k (Write place from (value ∷ values)) Accepted h = absurd (cc)
refused_none host k (Write place from (value ∷ values)) (Bytes bytes) h = refl
refused_none host k (Write place from (value ∷ values)) (Names names) h = refl
refused_none host k (Write place from (value ∷ values)) (Facts facts) h = refl
refused_none host k (Write place from (value ∷ values)) (Access list) h = refl
refused_none host k (Write place from (value ∷ values)) (Refused refusal) h = refl
refused_none host k (Read place from len) reply h = refl
refused_none host k (ListNames place) reply h = refl
refused_none host k (Stat place) reply h = refl
refused_none host k (GetAcl place which) reply h = refl
refused_none host k (Sync place) reply h = refl
refused_none host k (Lock label place writing from len) reply h = refl
refused_none host k (Unlock label) reply h = refl
refused_none host k (OpenFile label place kind) reply h = refl
refused_none host k (CloseFile label) reply h = refl
refused_none host k (NewFileset at name objects owner) reply h = refl
refused_none host k (CloneFileset at source new) reply h = refl
refused_none host k (MoveFileset at name to) reply h = refl
refused_none host k (Create place) reply h = refl
refused_none host k (MakeDir place) reply h = refl
refused_none host k (Remove place) reply h = refl
refused_none host k (Rename from to) reply h = refl
refused_none host k (Truncate place len) reply h = refl
refused_none host k (SetAcl place which list) reply h = refl

idle_number : (entry : Entry) → is_idle entry ≡ true → number_written entry ≡ None
idle_number (Stored host fid spans len) h = refl
idle_number (Down host at) h = refl
idle_number (Left at id) h = refl
idle_number (Called host k call reply) h = by (is_refused reply) refl h
  where
    by : (b : Bool) → is_refused reply ≡ b → (if b then true else leaves_kept call) ≡ true →
        number_written (Called host k call reply) ≡ None
    by true e h = refused_none host k call reply e
    by false e h = none_written host k call reply h

idle_step : (roster : Roster) (server : ServerId) (entry : Entry) (entries : List Entry) → is_idle entry ≡ true →
    Follows roster server entries → Follows roster server (entry ∷ entries)
idle_step roster server entry entries i ih next tree wrote state r rest at k b =
    let (later, stand) = stand_next wrote tree entry entries r.stores in
    let same = idles_are_kept.same tree entry rest r.legal.0 i in
    let rested : rests (after_entry tree entry) ≡ true = ap (list_all is_at_rest) same.filesets ∙ rest in
    let kept = idles_are_kept.kept tree entry state rest r.legal.0 i k in
    let goes : Goes (rise next entry) (after_entry tree entry) state (entry_acts server tree None entry) =
    subst (Goes (rise next entry) (after_entry tree entry) state) (sym (idle_acts server tree entry i))
    (goes_none (rise next entry) (after_entry tree entry) state kept
    (behind_more next (rise next entry) state (risen next entry) b)) in
    one_more roster server next tree later state entry entries ih
    (runs_next roster next tree wrote later entry entries r stand) rested at goes (idle_number entry i)

-- a call that one store does
call_step : (roster : Roster) (server : ServerId) (host : HostId) (k : ℕ) (call : Call) (reply : Reply)
    (entries : List Entry) → Follows roster server entries → (next : HostId → ℕ) (tree : Tree)
    (wrote : Option (HostId × Fid)) (state : StoreState) →
    Runs roster next tree wrote (Called host k call reply ∷ entries) → rests tree ≡ true → state.server ≡ server →
    KeepsOf tree state → IsBehind next state → (answer_to tree host call).reply ≡ Accepted →
    written_by tree (Called host k call reply) ≡ None → number_written (Called host k call reply) ≡ None →
    (here : Bool) → call_acts server tree host k call ≡ act_if here (Do host k call) →
    (here ≡ true → IsAct state.roster state.server (Do host k call)) →
    (here ≡ true → IsAct state.roster state.server (Do host k call) →
    DoesKeep (answer_to tree host call).tree state (Do host k call)) →
    (here ≡ false → KeepsOf (answer_to tree host call).tree state) →
    Goes (end next (Called host k call reply ∷ entries)) (after_history tree (Called host k call reply ∷ entries)) state
    (acts_of server tree None (Called host k call reply ∷ entries))
call_step roster server host k call reply entries ih next tree wrote state r rest at keep b accepted none number here
    acts fits does stays =
    let entry = Called host k call reply in
    let stand : stores_stand None (after_entry tree entry) entries ≡ true =
    subst (λ w. stores_stand w (after_entry tree entry) entries ≡ true) none (and_right (rests tree) _ r.stores) in
    let rested = stand_rests (after_entry tree entry) entries stand in
    let its = number_is next host k call reply (and_left _ _ (r.numbered host)) in
    let so : reply ≡ Accepted = r.legal.0 ∙ accepted in
    let told : entry_acts server tree None entry ≡ act_if here (Do host k call) =
    ap (λ a. entry_acts server tree None (Called host k call a)) so ∙ acts in
    let goes = goes_if (rise next entry) (after_entry tree entry) state (Do host k call) here
    (λ e. goes_one (rise next entry) (after_entry tree entry) state (Do host k call) keep.storable.limits
    (does e (fits e)) (fits e) r.given.0.2
    (behind_do next (rise next entry) state host k call (risen next entry) (number_low next host k call reply its) b))
    (λ e. goes_none (rise next entry) (after_entry tree entry) state (stays e)
    (behind_more next (rise next entry) state (risen next entry) b)) in
    one_more roster server next tree None state entry entries ih
    (runs_next roster next tree wrote None entry entries r stand) rested at
    (subst (Goes (rise next entry) (after_entry tree entry) state) (sym told) goes) number

-- what is asked of an entry, with the roster of a store
given_by : (roster : Roster) (tree : Tree) (state : StoreState) (entry : Entry) → KeepsOf tree state →
    tree.roster ≡ roster → IsGiven roster entry → IsGiven state.roster entry
given_by roster tree state entry k e h = subst (λ r. IsGiven r entry) (sym (k.roster ∙ e)) h

-- no other call leaves bytes unsaved
record LeavesNone (tree : Tree) (entry : Entry) : Type 0 where
  by : written_by tree entry ≡ None
  number : number_written entry ≡ None

change_none : (tree : Tree) (host : HostId) (k : ℕ) (call : Call) (reply : Reply) → is_change call ≡ true →
    LeavesNone tree (Called host k call reply)
change_none tree host k (Create place) reply c = record { by = refl; number = refl }
change_none tree host k (MakeDir place) reply c = record { by = refl; number = refl }
change_none tree host k (Remove place) reply c = record { by = refl; number = refl }
change_none tree host k (Rename from to) reply c = record { by = refl; number = refl }
change_none tree host k (Truncate place len) reply c = record { by = refl; number = refl }
change_none tree host k (SetAcl place which list) reply c = record { by = refl; number = refl }
change_none tree host k (Write place from bytes) reply c = absurd (cc)
change_none tree host k (NewFileset server name objects owner) reply c = absurd (cc)
change_none tree host k (CloneFileset server source new) reply c = absurd (cc)
change_none tree host k (MoveFileset server name to) reply c = absurd (cc)
change_none tree host k (Lock label place writing from len) reply c = absurd (cc)
change_none tree host k (Unlock label) reply c = absurd (cc)
change_none tree host k (OpenFile label place kind) reply c = absurd (cc)
change_none tree host k (CloseFile label) reply c = absurd (cc)
change_none tree host k (Read place from len) reply c = absurd (cc)
change_none tree host k (ListNames place) reply c = absurd (cc)
change_none tree host k (Stat place) reply c = absurd (cc)
change_none tree host k (GetAcl place which) reply c = absurd (cc)
change_none tree host k (Sync place) reply c = absurd (cc)

change_step : (roster : Roster) (server : ServerId) (host : HostId) (k : ℕ) (call : Call) (reply : Reply)
    (entries : List Entry) → is_change call ≡ true → is_refused reply ≡ false → Follows roster server entries →
    Follows roster server (Called host k call reply ∷ entries)
change_step roster server host k call reply entries c not_so ih next tree wrote state r rest at keep b =
    let d = doable server tree host k call c in
    let own = doable state.server tree host k call c in
    let row = row_to tree host call d.row (ap is_refused (sym r.legal.0) ∙ not_so) in
    let its = number_is next host k call reply (and_left _ _ (r.numbered host)) in
    let given = given_by roster tree state (Called host k call reply) keep r.roster_is r.given.0 in
    let none = change_none tree host k call reply c in
    call_step roster server host k call reply entries ih next tree wrote state r rest at keep b row.accepted
    none.by none.number (row.fileset.server.0 == state.server.0)
    (d.acts
    ∙ ap (λ t. act_if t (Do host k call)) (decided_at server tree call row.fileset row.by
    ∙ ap (λ (s : ServerId). row.fileset.server.0 == s.0) (sym at)))
    (λ e. (given.0, d.decided, own.own, given.1))
    (λ e fits. rows_are_kept.here tree state host k call row.fileset r.formed keep row.by
    (same_server row.fileset.server state.server e) row.accepted
    (λ records there. subst (λ n. (record_of records host).change < n) (sym its)
    ((behind_records next state row.fileset.id records b there host).0)) fits)
    (λ e. rows_are_kept.elsewhere tree state host call row.fileset r.formed keep row.by e row.accepted)

made_none : (tree : Tree) (host : HostId) (k : ℕ) (call : Call) (reply : Reply) (server : ServerId) →
    made_at call ≡ Some server → LeavesNone tree (Called host k call reply)
made_none tree host k (NewFileset at name objects owner) reply server c = record { by = refl; number = refl }
made_none tree host k (CloneFileset at source new) reply server c = record { by = refl; number = refl }
made_none tree host k (Create place) reply server c = absurd (cc)
made_none tree host k (MakeDir place) reply server c = absurd (cc)
made_none tree host k (Remove place) reply server c = absurd (cc)
made_none tree host k (Rename from to) reply server c = absurd (cc)
made_none tree host k (Truncate place len) reply server c = absurd (cc)
made_none tree host k (SetAcl place which list) reply server c = absurd (cc)
made_none tree host k (Write place from bytes) reply server c = absurd (cc)
made_none tree host k (MoveFileset at name to) reply server c = absurd (cc)
made_none tree host k (Lock label place writing from len) reply server c = absurd (cc)
made_none tree host k (Unlock label) reply server c = absurd (cc)
made_none tree host k (OpenFile label place kind) reply server c = absurd (cc)
made_none tree host k (CloseFile label) reply server c = absurd (cc)
made_none tree host k (Read place from len) reply server c = absurd (cc)
made_none tree host k (ListNames place) reply server c = absurd (cc)
made_none tree host k (Stat place) reply server c = absurd (cc)
made_none tree host k (GetAcl place which) reply server c = absurd (cc)
made_none tree host k (Sync place) reply server c = absurd (cc)

found_step : (roster : Roster) (server : ServerId) (host : HostId) (k : ℕ) (call : Call) (reply : Reply)
    (entries : List Entry) (to : ServerId) → made_at call ≡ Some to → is_refused reply ≡ false →
    Follows roster server entries → Follows roster server (Called host k call reply ∷ entries)
found_step roster server host k call reply entries to c not_so ih next tree wrote state r rest at keep b =
    let d = made server tree host k call to c in
    let own = made state.server tree host k call to c in
    let accepted = found_to tree host call to c (ap is_refused (sym r.legal.0) ∙ not_so) in
    let its = number_is next host k call reply (and_left _ _ (r.numbered host)) in
    let given = given_by roster tree state (Called host k call reply) keep r.roster_is r.given.0 in
    let none = made_none tree host k call reply to c in
    call_step roster server host k call reply entries ih next tree wrote state r rest at keep b accepted
    none.by none.number (to.0 == state.server.0)
    (d.acts ∙ ap (λ (s : ServerId). act_if (to.0 == s.0) (Do host k call)) (sym at))
    (λ e. (given.0, d.decided, own.own (same_server to state.server e), given.1))
    (λ e fits. founds_are_kept.here tree state host k call r.formed keep (c ∙ ap Some (same_server to state.server e))
    accepted
    (λ records there. subst (λ n. (record_of records host).change < n) (sym its) ((behind_records next state itself records b there host).0)) fits
    given.2)
    (λ e. founds_are_kept.elsewhere tree state host call to r.formed keep c e accepted)

-- a write of some bytes, and what is stored of it
abbrev write_entry : HostId → ℕ → Place → ℕ → ℕ → List ℕ → Entry
write_entry host k place from value values = Called host k (Write place from (value ∷ values)) Accepted

stored_step : (roster : Roster) (server : ServerId) (host : HostId) (k : ℕ) (place : Place) (from value : ℕ)
    (values : List ℕ) (fid : Fid) (spans : List Span) (len : Option ℕ) (entries : List Entry) →
    Follows roster server entries → (next : HostId → ℕ) (tree : Tree) (wrote : Option (HostId × Fid))
    (state : StoreState) →
    Runs roster next tree wrote (write_entry host k place from value values ∷ Stored host fid spans len ∷ entries) →
    rests tree ≡ true → state.server ≡ server → KeepsOf tree state → IsBehind next state →
    IsRow tree (Write place from (value ∷ values)) (answer_to tree host (Write place from (value ∷ values))) →
    fid_named tree place ≡ Some fid →
    Goes (end next (write_entry host k place from value values ∷ Stored host fid spans len ∷ entries))
    (after_history tree (write_entry host k place from value values ∷ Stored host fid spans len ∷ entries)) state
    (acts_of server tree None (write_entry host k place from value values ∷ Stored host fid spans len ∷ entries))
stored_step roster server host k place from value values fid spans len entries ih next tree wrote state r rest at keep b
    row named =
    let bytes = value ∷ values in
    let entry = write_entry host k place from value values in
    let then_entry = Stored host fid spans len in
    let middle = after_write tree host place from bytes in
    let last = after_entry middle then_entry in
    let (first_wrote, first_stand) = stand_next wrote tree entry (then_entry ∷ entries) r.stores in
    let runs = runs_next roster next tree wrote first_wrote entry (then_entry ∷ entries) r first_stand in
    let stand : stores_stand None last entries ≡ true = and_right (is_due first_wrote host fid) _ first_stand in
    let runs_last = runs_next roster (rise next entry) middle first_wrote None then_entry entries runs stand in
    let rested = stand_rests last entries stand in
    let so = written_so tree host place from bytes row.fileset fid r.formed row.by row.accepted named in
    let its = number_is next host k (Write place from bytes) Accepted (and_left _ _ (r.numbered host)) in
    let given = subst (λ ro. IsGiven ro then_entry) (sym (keep.roster ∙ r.roster_is)) r.given.1.0 in
    let act = Give host k fid (pieces_in (content_at middle fid) spans) len in
    let later = rise (rise next entry) then_entry in
    let fits : IsAct state.roster state.server act = (given.0, pieces_fit (content_at middle fid) spans given.1, given.2) in
    let here : is_some (fileset_at middle server fid.fileset) ≡ (row.fileset.server.0 == state.server.0) =
    written_at tree server host place from bytes row.by.place row.fileset fid r.formed so
    ∙ ap (λ (s : ServerId). row.fileset.server.0 == s.0) (sym at) in
    let goes = goes_if later last state act (row.fileset.server.0 == state.server.0)
    (λ e. goes_one later last state act keep.storable.limits
    (writes_are_kept.here tree state host k place from bytes fid spans len row.fileset r.formed keep row.by
    (same_server row.fileset.server state.server e) row.accepted named r.legal.1.0 rested
    (λ records there. subst (λ n. (record_of records host).give < n) (sym its)
    ((behind_records next state fid.fileset records b there host).1)) fits) fits tt
    (behind_give next later state host k fid (pieces_in (content_at middle fid) spans) len (risen next entry)
    (number_low next host k (Write place from bytes) Accepted its) b))
    (λ e. goes_none later last state
    (writes_are_kept.elsewhere tree state host place from bytes fid spans len row.fileset r.formed keep row.by e
    row.accepted named)
    (behind_more next later state (risen next entry) b)) in
    let told : Goes later last state (act_if (is_some (fileset_at middle server fid.fileset)) act) =
    subst (λ t. Goes later last state (act_if t act)) (sym here) goes in
    let after = ih later last None (state_after state (act_if (is_some (fileset_at middle server fid.fileset)) act))
    runs_last rested (told.server ∙ at) told.does.keeps told.does.behind in
    goes_then later (end later entries) last (after_history last entries) state
    (act_if (is_some (fileset_at middle server fid.fileset)) act) (acts_of server last None entries) told after

-- what follows a write
abbrev Tail : Roster → ServerId → List Entry → Type 0
Tail roster server [] = Unit {0}
Tail roster server (entry ∷ entries) = Follows roster server entries

due_none : (wrote : Option (HostId × Fid)) (host : HostId) (fid : Fid) → wrote ≡ Some (host, fid) → (by : HostId)
    (of_it : Fid) → is_due wrote by of_it ≡ true → (host ≡ by) × (of_it ≡ fid)
due_none wrote host fid e by of_it h =
    let both : ((by.0 == host.0) && same_fid of_it fid) ≡ true = sym (ap (λ w. is_due w by of_it) e) ∙ h in (
      sym (same_host by host (equal_keys by.0 host.0 (and_left _ _ both))),
      one_fid of_it fid (and_right (by.0 == host.0) _ both),
    )

accepted_write : (roster : Roster) (server : ServerId) (host : HostId) (k : ℕ) (place : Place) (from value : ℕ)
    (values : List ℕ) (entries : List Entry) → Tail roster server entries → (next : HostId → ℕ) (tree : Tree)
    (wrote : Option (HostId × Fid)) (state : StoreState) →
    Runs roster next tree wrote (write_entry host k place from value values ∷ entries) → rests tree ≡ true →
    state.server ≡ server → KeepsOf tree state → IsBehind next state →
    IsRow tree (Write place from (value ∷ values)) (answer_to tree host (Write place from (value ∷ values))) →
    Goes (end next (write_entry host k place from value values ∷ entries))
    (after_history tree (write_entry host k place from value values ∷ entries)) state
    (acts_of server tree None (write_entry host k place from value values ∷ entries))
accepted_write roster server host k place from value values entries tail next tree wrote state r rest at keep b row =
    let (fid, named) = write_named tree host place from (value ∷ values) row.fileset row.by row.accepted in
    let so = written_so tree host place from (value ∷ values) row.fileset fid r.formed row.by row.accepted named in
    by fid named (λ rested. never_rests tree host place from value values row.by.place row.fileset fid r.formed so rested)
    entries tail r
  where
    entry : Entry
    entry = write_entry host k place from value values

    middle : Tree
    middle = after_write tree host place from (value ∷ values)

    by : (fid : Fid) → fid_named tree place ≡ Some fid → (rests middle ≡ true → ⊥) → (entries : List Entry) →
        Tail roster server entries → Runs roster next tree wrote (entry ∷ entries) →
        Goes (end next (entry ∷ entries)) (after_history tree (entry ∷ entries)) state
        (acts_of server tree None (entry ∷ entries))
    by fid named never [] tail r = absurd (never (and_right (rests tree) _ r.stores))
    by fid named never (Called other n call reply ∷ entries) tail r =
        absurd (never (and_left (rests middle) _ (and_right (rests tree) _ r.stores)))
    by fid named never (Down other to ∷ entries) tail r =
        absurd (never (and_left (rests middle) _ (and_right (rests tree) _ r.stores)))
    by fid named never (Left to id ∷ entries) tail r =
        absurd (never (and_left (rests middle) _ (and_right (rests tree) _ r.stores)))
    by fid named never (Stored other its spans len ∷ entries) tail r =
        let due = and_left (is_due (written_by tree entry) other its) _ (and_right (rests tree) _ r.stores) in
        let same = due_none (written_by tree entry) host fid (ap (option_map (λ f. (host, f))) named) other its due in
        subst (λ h. Runs roster next tree wrote (entry ∷ Stored h its spans len ∷ entries) →
        Goes (end next (entry ∷ Stored h its spans len ∷ entries))
        (after_history tree (entry ∷ Stored h its spans len ∷ entries)) state
        (acts_of server tree None (entry ∷ Stored h its spans len ∷ entries))) same.0
        (λ r. stored_step roster server host k place from value values its spans len entries tail next tree wrote state r
        rest at keep b row (named ∙ ap Some (sym same.1))) r

write_step : (roster : Roster) (server : ServerId) (host : HostId) (k : ℕ) (place : Place) (from value : ℕ)
    (values : List ℕ) (reply : Reply) (entries : List Entry) → is_refused reply ≡ false → Tail roster server entries →
    Follows roster server (Called host k (Write place from (value ∷ values)) reply ∷ entries)
write_step roster server host k place from value values reply entries not_so tail next tree wrote state r rest at keep b =
    let row = row_to tree host (Write place from (value ∷ values)) refl (ap is_refused (sym r.legal.0) ∙ not_so) in
    let so : Accepted ≡ reply = sym (r.legal.0 ∙ row.accepted) in
    subst (λ a. Runs roster next tree wrote (Called host k (Write place from (value ∷ values)) a ∷ entries) →
    Goes (end next (Called host k (Write place from (value ∷ values)) a ∷ entries))
    (after_history tree (Called host k (Write place from (value ∷ values)) a ∷ entries)) state
    (acts_of server tree None (Called host k (Write place from (value ∷ values)) a ∷ entries))) so
    (λ r. accepted_write roster server host k place from value values entries tail next tree wrote state r rest at keep b
    row) r

-- a call that moves a fileset is refused
plain_move : (tree : Tree) (host : HostId) (server : ServerId) (name : List ℕ) (to : ServerId) →
    is_refused (answer_to tree host (MoveFileset server name to)).reply ≡ false →
    (answer_to tree host (MoveFileset server name to)).reply ≡ Accepted
unfolding answer_to answer_for move_answer
plain_move tree host server name to = by (user_of tree.roster host)
  where
    inner : {A : Type 0} (checked : Result A Refusal) (after : A → Tree) →
        is_refused (either checked (λ a. let answer : Answer = record { reply = Accepted; tree = after a } in answer)
        (refuse tree)).reply ≡ false →
        (either checked (λ a. let answer : Answer = record { reply = Accepted; tree = after a } in answer)
        (refuse tree)).reply ≡ Accepted
    inner (Ok a) after h = refl
    inner (Err e) after h = absurd (cc)

    by : (found : Option User) →
        is_refused (for_user tree found (answer_for tree host (MoveFileset server name to))).reply ≡ false →
        (for_user tree found (answer_for tree host (MoveFileset server name to))).reply ≡ Accepted
    by None h = absurd (cc)
    by (Some user) h = inner (move_target tree user server name to) _ h

move_step : (roster : Roster) (server : ServerId) (host : HostId) (k : ℕ) (at : ServerId) (name : List ℕ)
    (to : ServerId) (reply : Reply) (entries : List Entry) → is_refused reply ≡ false →
    Follows roster server (Called host k (MoveFileset at name to) reply ∷ entries)
move_step roster server host k at name to reply entries not_so next tree wrote state r rest own keep b =
    let accepted = plain_move tree host at name to (ap is_refused (sym r.legal.0) ∙ not_so) in
    let so : reply ≡ Accepted = r.legal.0 ∙ accepted in
    let wrong : false ≡ true =
    sym (ap (λ a. moves_none (Called host k (MoveFileset at name to) a)) so) ∙ and_left _ _ r.stays in
    absurd (cc)

-- each entry
call_case : (roster : Roster) (server : ServerId) (host : HostId) (k : ℕ) (call : Call) (reply : Reply)
    (entries : List Entry) → is_refused reply ≡ false → leaves_kept call ≡ false → Follows roster server entries →
    Tail roster server entries → Follows roster server (Called host k call reply ∷ entries)
call_case roster server host k (Create place) reply entries n l ih tail =
    change_step roster server host k (Create place) reply entries refl n ih
call_case roster server host k (MakeDir place) reply entries n l ih tail =
    change_step roster server host k (MakeDir place) reply entries refl n ih
call_case roster server host k (Remove place) reply entries n l ih tail =
    change_step roster server host k (Remove place) reply entries refl n ih
call_case roster server host k (Rename from to) reply entries n l ih tail =
    change_step roster server host k (Rename from to) reply entries refl n ih
call_case roster server host k (Truncate place len) reply entries n l ih tail =
    change_step roster server host k (Truncate place len) reply entries refl n ih
call_case roster server host k (SetAcl place which list) reply entries n l ih tail =
    change_step roster server host k (SetAcl place which list) reply entries refl n ih
call_case roster server host k (NewFileset at name objects owner) reply entries n l ih tail =
    found_step roster server host k (NewFileset at name objects owner) reply entries at refl n ih
call_case roster server host k (CloneFileset at source new) reply entries n l ih tail =
    found_step roster server host k (CloneFileset at source new) reply entries at refl n ih
call_case roster server host k (MoveFileset at name to) reply entries n l ih tail =
    move_step roster server host k at name to reply entries n
call_case roster server host k (Write place from []) reply entries n l ih tail = absurd (cc)
call_case roster server host k (Write place from (value ∷ values)) reply entries n l ih tail =
    write_step roster server host k place from value values reply entries n tail
call_case roster server host k (Read place from len) reply entries n l ih tail = absurd (cc)
call_case roster server host k (ListNames place) reply entries n l ih tail = absurd (cc)
call_case roster server host k (Stat place) reply entries n l ih tail = absurd (cc)
call_case roster server host k (GetAcl place which) reply entries n l ih tail = absurd (cc)
call_case roster server host k (Sync place) reply entries n l ih tail = absurd (cc)
call_case roster server host k (Lock label place writing from len) reply entries n l ih tail = absurd (cc)
call_case roster server host k (Unlock label) reply entries n l ih tail = absurd (cc)
call_case roster server host k (OpenFile label place kind) reply entries n l ih tail = absurd (cc)
call_case roster server host k (CloseFile label) reply entries n l ih tail = absurd (cc)

entry_case : (roster : Roster) (server : ServerId) (entry : Entry) (entries : List Entry) →
    Follows roster server entries → Tail roster server entries → Follows roster server (entry ∷ entries)
entry_case roster server (Stored host fid spans len) entries ih tail =
    idle_step roster server (Stored host fid spans len) entries refl ih
entry_case roster server (Down host at) entries ih tail = idle_step roster server (Down host at) entries refl ih
entry_case roster server (Left at id) entries ih tail =
    λ next tree wrote state r rest own keep b. (let wrong : false ≡ true = and_left false (list_all moves_none entries) r.stays in absurd (cc))
entry_case roster server (Called host k call reply) entries ih tail = by (is_refused reply) (leaves_kept call) refl refl
  where
    by : (refused leaves : Bool) → is_refused reply ≡ refused → leaves_kept call ≡ leaves →
        Follows roster server (Called host k call reply ∷ entries)
    by true leaves e l =
        idle_step roster server (Called host k call reply) entries (ap (λ b. if b then true else leaves_kept call) e) ih
    by false true e l =
        idle_step roster server (Called host k call reply) entries
        (ap (λ b. if b then true else leaves_kept call) e ∙ l) ih
    by false false e l = call_case roster server host k call reply entries e l ih tail

both : (roster : Roster) (server : ServerId) (entries : List Entry) →
    Follows roster server entries × Tail roster server entries
both roster server [] = (λ next tree wrote state r rest at keep b. goes_none next tree state keep b, tt)
both roster server (entry ∷ entries) =
    let (ih, tail) = both roster server entries in (entry_case roster server entry entries ih tail, ih)

pub histories_are_kept : HistoriesAreKept
histories_are_kept next start history state h keep b =
    let runs : Runs start.roster next start None history = record {
      formed = h.formed;
      legal = h.legal;
      stores = h.stores;
      numbered = h.numbered;
      given = h.given;
      stays = h.stays;
      roster_is = refl;
    } in
    ((both start.roster state.server history).0 next start None state runs h.rest refl keep b).does
