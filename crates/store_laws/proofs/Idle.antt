-- Entries that change nothing that stores keep.
use Rattle.std.proofs.Common.{◌≡◌, ℕ, zero, suc, ◌+◌, ◌==◌, ◌-◌, Bool, true, false, not, cond, List, [], ◌∷◌, set, Option, Some, None, Result, Ok, Err, refl, sym, ap, ◌∙◌, arith}
use Rattle.std.specs.Prelude.{slice_get, map, if◌then◌else◌, option_and_then}
use Rattle.std.specs.List.{find, list_all, prefix_len}
use Rattle.std.specs.Option.{option_map, option_map_or}
use Rattle.base_types.specs.Lists.{changed_at}
use Rattle.base_types.specs.Outcomes.{either}
use Rattle.base_types.specs.declared.ids.Fid.{Fid}
use Rattle.base_types.specs.declared.ids.HostId.{HostId}
use Rattle.base_types.specs.declared.ids.ServerId.{ServerId}
use Rattle.base_types.specs.declared.span.Span.{Span}
use Rattle.base_types.specs.declared.user.User.{User}
use Rattle.tree_calls.specs.Rosters.{user_of}
use Rattle.tree_calls.specs.declared.call.Call.{Call as CallOf}
use Rattle.tree_calls.specs.declared.call.Call.TheVariants.{
  NewFileset,
  Create,
  MakeDir,
  Remove,
  Rename,
  Truncate,
  SetAcl,
  CloneFileset,
  Read,
  Write,
  List as ListNames,
  Stat,
  GetAcl,
  Sync,
  Lock,
  Unlock,
  OpenFile,
  CloseFile,
  MoveFileset,
}
use Rattle.tree_calls.specs.declared.entry.Entry.{Entry}
use Rattle.tree_calls.specs.declared.entry.Entry.TheVariants.{Call, Stored, Down, Left}
use Rattle.tree_calls.specs.declared.reply.Refusal.{Refusal}
use Rattle.tree_calls.specs.declared.reply.Reply.{Reply}
use Rattle.tree_calls.specs.declared.reply.Reply.TheVariants.{Ok as Done, Bytes, Names, Facts, Access, Refused}
use Rattle.tree_objects.specs.Changes.{anode_changed, content_written, content_changed}
use Rattle.tree_objects.specs.Stores.{content_stored, content_synced, is_storable}
use Rattle.tree_objects.specs.declared.content.Anode.{Anode}
use Rattle.tree_objects.specs.declared.content.Content.{Content}
use Rattle.tree_objects.specs.declared.content.Content.TheVariants.{Dir, File}
use Rattle.tree_objects.specs.declared.content.Object.{Object}
use Rattle.tree_objects.proofs.Lawful.{over_itself}
use Rattle.tree_objects.proofs.Observed.{and_left, and_right}
use Rattle.tree_filesets.specs.declared.fileset.Fileset.{Fileset}
use Rattle.tree_filesets.specs.Answers.{Answered, answered}
use Rattle.tree_filesets.specs.Changing.{write_target, write_answer, sync_answer}
use Rattle.tree_filesets.specs.Rows.{fileset_answer}
use Rattle.tree_filesets.specs.Updates.{updated, changed}
use Rattle.tree_filesets.specs.Walk.{object_at, unique_at, file_target}
use Rattle.tree_filesets.specs.WellFormed.{is_settled, is_at_rest}
use Rattle.tree_filesets.proofs.Observations.{object_from, object_not_zero}
use Rattle.tree_answers.specs.declared.tree.Tree.{Tree}
use Rattle.tree_answers.specs.Answers.{for_user, answer_at, deciding_place, fileset_row, answer_for, answer_to}
use Rattle.tree_answers.specs.Finding.{Answer, refuse, has_id}
use Rattle.tree_answers.specs.Founding.{room_of}
use Rattle.tree_answers.specs.Histories.{IsLegal, after_entry}
use Rattle.tree_answers.specs.Locks.{lock_answer, lock_check, unlock_answer, has_lock}
use Rattle.tree_answers.specs.Losses.{fileset_forgotten, down_tree}
use Rattle.tree_answers.specs.Opens.{open_answer, open_check, close_answer, has_open}
use Rattle.tree_answers.specs.Stores.{content_in, may_store, stored_tree}
use Rattle.tree_answers.specs.Uses.{is_used}
use Rattle.tree_answers.proofs.Inserted.{position_or_end}
use Rattle.tree_answers.proofs.Places.{find_all, get_all}
use Rattle.tree_answers.proofs.Refusals.{refused_call, set_same}
use Rattle.tree_answers.proofs.Resting.{settled_stored, rest_forgotten, rest_stored, settled_there, settled_at}
use Rattle.tree_answers.specs.Away.{is_away}
use Rattle.store_state.specs.declared.state.StoreState.{StoreState}
use Rattle.store_laws.specs.Idle.{leaves_kept, is_refused, is_idle, SameKept, IdlesAreKept}
use Rattle.store_laws.specs.TreeKeeping.{if_at, KeepsOf}

-- a tree that is the same
same_tree : (old new : Tree) → new ≡ old → SameKept old new
same_tree old new e = record {
  roster = ap (λ (t : Tree). t.roster) e;
  servers = ap (λ (t : Tree). t.servers) e;
  filesets = ap (λ (t : Tree). t.filesets) e;
  away = ap (λ (t : Tree). t.away) e;
}

-- what a sync, and a write of no bytes, change of a fileset at rest
settled_synced : (host : HostId) (content : Content) → is_settled content ≡ true →
    content_synced host content ≡ content
settled_synced host (Dir entries lists) h = refl
settled_synced host (File list kept [] None) h = ap (λ bytes. File list bytes [] None) (over_itself kept)
settled_synced host (File list kept [] (Some len)) h = absurd (cc)
settled_synced host (File list kept (byte ∷ unsaved) len) h = absurd (cc)

same_object : (o : Option Object) (change : Content → Content) →
    ((content : Content) → is_settled content ≡ true → change content ≡ content) →
    option_map_or (λ object. is_settled object.content) o true ≡ true → option_map (content_changed change) o ≡ o
same_object None change k h = refl
same_object (Some object) change k h =
    ap (λ content. Some (record object { content = content })) (k object.content h)

same_changed : (change : Content → Content) →
    ((content : Content) → is_settled content ≡ true → change content ≡ content) → (anodes : List Anode) (i : ℕ) →
    list_all settled_at anodes ≡ true → changed_at anodes i (anode_changed change) ≡ anodes
same_changed change k [] i h = refl
same_changed change k (x ∷ xs) zero h =
    ap (λ o. record x { object = o } ∷ xs) (same_object x.object change k (and_left _ _ h))
same_changed change k (x ∷ xs) (suc i) h = ap (λ ys. x ∷ ys) (same_changed change k xs i (and_right _ _ h))

rest_changed : (fileset : Fileset) (anode : ℕ) (change : Content → Content) →
    ((content : Content) → is_settled content ≡ true → change content ≡ content) → is_at_rest fileset ≡ true →
    changed fileset anode change ≡ fileset
unfolding updated
rest_changed fileset anode change k h =
    ap (λ anodes. record fileset { anodes = anodes }) (same_changed change k fileset.anodes (anode - 1) h)

answered_same : {A : Type 0} (fileset : Fileset) (checked : Result A Refusal) (effect : A → Fileset) →
    ((a : A) → effect a ≡ fileset) → (answered fileset checked effect).fileset ≡ fileset
answered_same fileset (Ok a) effect k = k a
answered_same fileset (Err e) effect k = refl

-- a fileset at rest that answers such a call stays
row_stays : (fileset : Fileset) (in_use : Fid → Bool) (host : HostId) (user : User) (call : CallOf) →
    leaves_kept call ≡ true → is_at_rest fileset ≡ true →
    (fileset_answer fileset in_use host user call).fileset ≡ fileset
unfolding fileset_answer write_answer sync_answer
row_stays fileset in_use host user (Read place from len) l h = refl
row_stays fileset in_use host user (Write place from []) l h =
    answered_same fileset (write_target fileset user place.path (from + 0)) _
    (λ anode. rest_changed fileset anode (content_written host from []) (λ content s. refl) h)
row_stays fileset in_use host user (Write place from (byte ∷ bytes)) l h = absurd (cc)
row_stays fileset in_use host user (ListNames place) l h = refl
row_stays fileset in_use host user (Stat place) l h = refl
row_stays fileset in_use host user (GetAcl place which) l h = refl
row_stays fileset in_use host user (Sync place) l h =
    answered_same fileset (file_target fileset user place.path) _
    (λ (anode, object). rest_changed fileset anode (content_synced host) (settled_synced host) h)
row_stays fileset in_use host user (Lock label place writing from len) l h = refl
row_stays fileset in_use host user (Unlock label) l h = refl
row_stays fileset in_use host user (OpenFile label place kind) l h = refl
row_stays fileset in_use host user (CloseFile label) l h = refl
row_stays fileset in_use host user (NewFileset server name objects owner) l h = absurd (cc)
row_stays fileset in_use host user (Create place) l h = absurd (cc)
row_stays fileset in_use host user (MakeDir place) l h = absurd (cc)
row_stays fileset in_use host user (Remove place) l h = absurd (cc)
row_stays fileset in_use host user (Rename from to) l h = absurd (cc)
row_stays fileset in_use host user (Truncate place len) l h = absurd (cc)
row_stays fileset in_use host user (SetAcl place which list) l h = absurd (cc)
row_stays fileset in_use host user (CloneFileset server source new) l h = absurd (cc)
row_stays fileset in_use host user (MoveFileset server name to) l h = absurd (cc)

-- so does the tree
same_at : (tree : Tree) (place : ℕ) (found : Option Fileset) (ask : Fileset → Answered) →
    ((fileset : Fileset) → found ≡ Some fileset → (ask fileset).fileset ≡ fileset) →
    found ≡ slice_get tree.filesets place → (answer_at tree place found ask).tree ≡ tree
same_at tree place None ask same e = refl
same_at tree place (Some fileset) ask same e =
    ap (λ filesets. record tree { filesets = filesets }) (
    ap (λ next. set tree.filesets place next) (same fileset refl) ∙ set_same tree.filesets place fileset e)

same_by : (tree : Tree) (deciding : Result ℕ Refusal) (ask : Fileset → Answered) →
    list_all is_at_rest tree.filesets ≡ true →
    ((fileset : Fileset) → is_at_rest fileset ≡ true → (ask fileset).fileset ≡ fileset) →
    (either deciding (λ place. answer_at tree place (slice_get tree.filesets place) ask) (refuse tree)).tree ≡ tree
same_by tree (Ok place) ask rest same =
    same_at tree place (slice_get tree.filesets place) ask
    (λ fileset e. same fileset (get_all is_at_rest tree.filesets place fileset (sym e) rest)) refl
same_by tree (Err refusal) ask rest same = refl

row_same : (tree : Tree) (host : HostId) (user : User) (call : CallOf) → list_all is_at_rest tree.filesets ≡ true →
    leaves_kept call ≡ true → (fileset_row tree host user call).tree ≡ tree
unfolding fileset_row
row_same tree host user call rest l =
    same_by tree (deciding_place tree call)
    (λ fileset. fileset_answer fileset (is_used tree.locks tree.opens) host user call) rest
    (λ fileset r. row_stays fileset (is_used tree.locks tree.opens) host user call l r)

-- what is in use
use_same : {A : Type 0} (tree : Tree) (checked : Result A Refusal) (effect : A → Tree) →
    ((a : A) → SameKept tree (effect a)) →
    SameKept tree (either checked (λ a. let answer : Answer = record { reply = Done; tree = effect a } in answer)
    (refuse tree)).tree
use_same tree (Ok a) effect k = k a
use_same tree (Err e) effect k = same_tree tree tree refl

end_same : (is_there : Bool) (tree after : Tree) (why : Refusal) → SameKept tree after →
    SameKept tree (cond {A = Answer} (not is_there) (refuse tree why) (record { reply = Done; tree = after })).tree
end_same true tree after why k = k
end_same false tree after why k = same_tree tree tree refl

call_same : (tree : Tree) (host : HostId) (user : User) (call : CallOf) → list_all is_at_rest tree.filesets ≡ true →
    leaves_kept call ≡ true → SameKept tree (answer_for tree host call user).tree
unfolding answer_for lock_answer unlock_answer open_answer close_answer
call_same tree host user (Read place from len) r l = same_tree tree _ (row_same tree host user (Read place from len) r l)
call_same tree host user (Write place from bytes) r l =
    same_tree tree _ (row_same tree host user (Write place from bytes) r l)
call_same tree host user (ListNames place) r l = same_tree tree _ (row_same tree host user (ListNames place) r l)
call_same tree host user (Stat place) r l = same_tree tree _ (row_same tree host user (Stat place) r l)
call_same tree host user (GetAcl place which) r l = same_tree tree _ (row_same tree host user (GetAcl place which) r l)
call_same tree host user (Sync place) r l = same_tree tree _ (row_same tree host user (Sync place) r l)
call_same tree host user (Lock label place writing from len) r l =
    use_same tree (lock_check tree host user label place writing from len) _
    (λ a. record { roster = refl; servers = refl; filesets = refl; away = refl })
call_same tree host user (Unlock label) r l =
    end_same (has_lock tree.locks host label) tree _ _
    (record { roster = refl; servers = refl; filesets = refl; away = refl })
call_same tree host user (OpenFile label place kind) r l =
    use_same tree (open_check tree host user label place kind) _
    (λ a. record { roster = refl; servers = refl; filesets = refl; away = refl })
call_same tree host user (CloseFile label) r l =
    end_same (has_open tree.opens host label) tree _ _
    (record { roster = refl; servers = refl; filesets = refl; away = refl })
call_same tree host user (NewFileset server name objects owner) r l = absurd (cc)
call_same tree host user (Create place) r l = absurd (cc)
call_same tree host user (MakeDir place) r l = absurd (cc)
call_same tree host user (Remove place) r l = absurd (cc)
call_same tree host user (Rename from to) r l = absurd (cc)
call_same tree host user (Truncate place len) r l = absurd (cc)
call_same tree host user (SetAcl place which list) r l = absurd (cc)
call_same tree host user (CloneFileset server source new) r l = absurd (cc)
call_same tree host user (MoveFileset server name to) r l = absurd (cc)

answer_same : (tree : Tree) (host : HostId) (call : CallOf) → list_all is_at_rest tree.filesets ≡ true →
    leaves_kept call ≡ true → SameKept tree (answer_to tree host call).tree
unfolding answer_to
answer_same tree host call r l = by (user_of tree.roster host)
  where
    by : (found : Option User) → SameKept tree (for_user tree found (answer_for tree host call)).tree
    by None = same_tree tree tree refl
    by (Some user) = call_same tree host user call r l

-- what is changed where something is found
changed_found : {X : Type 0} (test : X → Bool) (change : X → X) (xs : List X) →
    ((x : X) → find test xs ≡ Some x → change x ≡ x) →
    changed_at xs (prefix_len (λ x. not (test x)) xs) change ≡ xs
changed_found test change [] k = refl
changed_found {X} test change (x ∷ xs) k =
    by (test x) k (λ rest. changed_found test change xs rest)
  where
    by : (t : Bool) → ((y : X) → cond t (Some x) (find test xs) ≡ Some y → change y ≡ y) →
        (((y : X) → find test xs ≡ Some y → change y ≡ y) →
        changed_at xs (prefix_len (λ x. not (test x)) xs) change ≡ xs) →
        changed_at (x ∷ xs) (cond (not t) (1 + prefix_len (λ x. not (test x)) xs) 0) change ≡ x ∷ xs
    by true k rest = ap (λ y. y ∷ xs) (k x refl)
    by false k rest =
        let one : 1 + prefix_len (λ x. not (test x)) xs ≡ suc (prefix_len (λ x. not (test x)) xs) = omega arith in
        ap (λ i. changed_at (x ∷ xs) i change) one ∙ ap (λ ys. x ∷ ys) (rest k)

-- a host stores nothing of a fileset at rest
stored_there : (fileset : Fileset) (host : HostId) (fid : Fid) (spans : List Span) (stored : Option ℕ) →
    is_at_rest fileset ≡ true → option_map_or (is_storable host spans stored) (content_in fileset fid) false ≡ true →
    changed fileset fid.anode (content_stored host spans stored) ≡ fileset
stored_there fileset host fid spans stored rest =
    by (unique_at fileset.anodes fid.anode == fid.unique) (object_at fileset.anodes fid.anode) refl
  where
    by : (same : Bool) (found : Option Object) → object_at fileset.anodes fid.anode ≡ found →
        option_map_or (is_storable host spans stored)
        (if same then option_map (λ object. object.content) found else None) false ≡ true →
        changed fileset fid.anode (content_stored host spans stored) ≡ fileset
    by false found e h = absurd (cc)
    by true None e h = absurd (cc)
    by true (Some object) e h =
        let there = sym (object_from fileset.anodes fid.anode
        (object_not_zero fileset.anodes fid.anode object e)) ∙ e in
        let settled = settled_there fileset.anodes (fid.anode - 1) object rest there in
        rest_stored fileset fid.anode (content_stored host spans stored) object e
        (settled_stored host spans stored object.content settled h)

stored_same : (tree : Tree) (host : HostId) (fid : Fid) (spans : List Span) (stored : Option ℕ) →
    list_all is_at_rest tree.filesets ≡ true → may_store tree host fid spans stored ≡ true →
    stored_tree tree host fid spans stored ≡ tree
unfolding stored_tree
stored_same tree host fid spans stored rest may =
    ap (λ filesets. record tree { filesets = filesets }) (
    ap (λ i. changed_at tree.filesets i (λ fileset. changed fileset fid.anode (content_stored host spans stored)))
    (position_or_end (has_id fid.fileset) tree.filesets)
    ∙ changed_found (has_id fid.fileset) (λ fileset. changed fileset fid.anode (content_stored host spans stored))
    tree.filesets one)
  where
    one : (fileset : Fileset) → find (has_id fid.fileset) tree.filesets ≡ Some fileset →
        changed fileset fid.anode (content_stored host spans stored) ≡ fileset
    one fileset e =
        stored_there fileset host fid spans stored (find_all (has_id fid.fileset) is_at_rest tree.filesets fileset e rest)
        (sym (ap (λ o. option_map_or (is_storable host spans stored)
        (option_and_then (λ (f : Fileset). content_in f fid) o) false) e) ∙ may)

-- a host that is down loses nothing
down_filesets : (host : HostId) (server : ServerId) (filesets : List Fileset) → list_all is_at_rest filesets ≡ true →
    map (λ fileset. if fileset.server.0 == server.0 then fileset_forgotten host fileset else fileset) filesets
    ≡ filesets
down_filesets host server [] h = refl
down_filesets host server (x ∷ xs) h =
    ap (λ y. y ∷ map (λ fileset. if fileset.server.0 == server.0 then fileset_forgotten host fileset else fileset) xs)
    (one (x.server.0 == server.0)) ∙ ap (λ ys. x ∷ ys) (down_filesets host server xs (and_right _ _ h))
  where
    one : (b : Bool) → (if b then fileset_forgotten host x else x) ≡ x
    one true = rest_forgotten host x (and_left _ _ h)
    one false = refl

down_same : (tree : Tree) (host : HostId) (server : ServerId) → list_all is_at_rest tree.filesets ≡ true →
    SameKept tree (down_tree tree host server)
unfolding down_tree
down_same tree host server h =
    record { roster = refl; servers = refl; filesets = down_filesets host server tree.filesets h; away = refl }

pub idle_same : (tree : Tree) (entry : Entry) → list_all is_at_rest tree.filesets ≡ true → IsLegal tree entry →
    is_idle entry ≡ true → SameKept tree (after_entry tree entry)
idle_same tree (Call host k call reply) r legal i = by reply legal i
  where
    by : (reply : Reply) → reply ≡ (answer_to tree host call).reply → (if is_refused reply then true else leaves_kept call) ≡ true → SameKept tree (answer_to tree host call).tree
    by (Refused refusal) e i = same_tree tree _ (refused_call tree host call refusal (sym e))
    by Done e i = answer_same tree host call r i
    by (Bytes bytes) e i = answer_same tree host call r i
    by (Names names) e i = answer_same tree host call r i
    by (Facts facts) e i = answer_same tree host call r i
    by (Access list) e i = answer_same tree host call r i
idle_same tree (Stored host fid spans stored) r legal i = same_tree tree _ (stored_same tree host fid spans stored r legal)
idle_same tree (Down host server) r legal i = down_same tree host server r
idle_same tree (Left server id) r legal i = absurd (cc)

-- a store keeps what is the same
pub same_kept : (old new : Tree) (state : StoreState) → SameKept old new → KeepsOf old state → KeepsOf new state
same_kept old new state s k = record {
  storable = k.storable;
  roster = k.roster ∙ sym s.roster;
  room = ap (λ rooms. room_of rooms state.server) s.servers ∙ k.room;
  filesets = λ id. k.filesets id ∙ sym (ap (λ filesets. option_and_then (if_at state.server) (find (has_id id) filesets)) s.filesets);
  records = λ id. k.records id ∙ sym (ap (find (is_away state.server id)) s.away);
  still = k.still;
  older = λ id holding fileset e gone there. k.older id holding fileset e gone
      (sym (ap (find (has_id id)) s.filesets) ∙ there);
}

pub idles_are_kept : IdlesAreKept
idles_are_kept = record {
  same = idle_same;
  kept = λ tree entry state r legal i k. same_kept tree (after_entry tree entry) state (idle_same tree entry r legal i) k;
}
