-- The records of filesets that moved away, in entries of a history.
use Rattle.store_laws.proofs.Called.{same_id}
use Rattle.std.proofs.Common.{◌≡◌, ◌⊎◌, ℕ, zero, suc, ◌==◌, Bool, true, false, ◌&&◌, ◌||◌, not, cond, List, [], ◌∷◌, filter, insert, Option, Some, None, Result, Ok, Err, inl, inr, refl, sym, ap, ◌∙◌}
use Rattle.std.specs.Prelude.{if◌then◌else◌, slice_get}
use Rattle.std.specs.List.{list_all, list_any}
use Rattle.base_types.specs.Outcomes.{either}
use Rattle.base_types.specs.declared.ids.Fid.{Fid}
use Rattle.base_types.specs.declared.ids.FilesetId.{FilesetId}
use Rattle.base_types.specs.declared.ids.HostId.{HostId}
use Rattle.base_types.specs.declared.ids.ServerId.{ServerId}
use Rattle.base_types.specs.declared.span.Span.{Span}
use Rattle.base_types.specs.declared.user.User.{User}
use Rattle.tree_calls.specs.Rosters.{user_of}
use Rattle.tree_calls.specs.declared.call.Call.{Call as CallOf}
use Rattle.tree_calls.specs.declared.call.Call.TheVariants.{
  NewFileset,
  Create,
  MakeDir,
  Remove,
  Rename,
  Truncate,
  SetAcl,
  CloneFileset,
  Read,
  Write,
  List as ListNames,
  Stat,
  GetAcl,
  Sync,
  Lock,
  Unlock,
  OpenFile,
  CloseFile,
  MoveFileset,
}
use Rattle.tree_calls.specs.declared.entry.Entry.{Entry}
use Rattle.tree_calls.specs.declared.entry.Entry.TheVariants.{Call as Called, Stored, Down, Left}
use Rattle.tree_calls.specs.declared.reply.Refusal.{Refusal}
use Rattle.tree_calls.specs.declared.reply.Reply.{Reply}
use Rattle.tree_calls.specs.declared.reply.Reply.TheVariants.{Ok as Accepted, Bytes, Names, Facts, Access, Refused}
use Rattle.tree_objects.proofs.Observed.{and_left, and_right}
use Rattle.tree_objects.proofs.Rising.{all_filter, all_implied, and_both}
use Rattle.tree_filesets.specs.Rows.{fileset_answer}
use Rattle.tree_filesets.specs.declared.fileset.Fileset.{Fileset}
use Rattle.tree_answers.specs.declared.tree.Away.{Away}
use Rattle.tree_answers.specs.declared.tree.Tree.{Tree}
use Rattle.tree_answers.specs.Answers.{answer_at, answer_for, answer_to, deciding_place, fileset_row, for_user}
use Rattle.tree_answers.specs.Away.{away_place, is_away, is_room_kept, room_freed, with_away}
use Rattle.tree_answers.specs.Finding.{Answer, refuse}
use Rattle.tree_answers.specs.Founding.{clone_answer, clone_target, new_fileset_answer, new_fileset_target}
use Rattle.tree_answers.specs.Histories.{IsHistory, IsLegal, after_entry, after_history}
use Rattle.tree_answers.specs.Locks.{has_lock, lock_answer, lock_check, unlock_answer}
use Rattle.tree_answers.specs.Losses.{down_tree}
use Rattle.tree_answers.specs.Moving.{left_by, left_tree, move_answer, move_target, with_moved}
use Rattle.tree_answers.specs.Opens.{close_answer, has_open, open_answer, open_check}
use Rattle.tree_answers.specs.Stores.{stored_tree}
use Rattle.tree_answers.specs.Uses.{is_used}
use Rattle.tree_answers.proofs.Inserted.{all_insert}
use Rattle.store_laws.proofs.Keys.{equal_keys, same_key}
use Rattle.store_laws.specs.Shape.{moves_none}
use Rattle.store_laws.specs.Happening.{has_moved, rooms_free}

-- a call that moves no fileset leaves the records
away_at : (tree : Tree) (place : ℕ) (found : Option Fileset) (host : HostId) (user : User) (call : CallOf) →
    (answer_at tree place found (λ fileset. fileset_answer fileset (is_used tree.locks tree.opens) host user call)).tree.away
    ≡ tree.away
away_at tree place None host user call = refl
away_at tree place (Some fileset) host user call = refl

away_row : (tree : Tree) (host : HostId) (user : User) (call : CallOf) →
    (fileset_row tree host user call).tree.away ≡ tree.away
unfolding fileset_row
away_row tree host user call = placed (deciding_place tree call)
  where
    placed : (found : Result ℕ Refusal) → (either found
        (λ place. answer_at tree place (slice_get tree.filesets place)
        (λ fileset. fileset_answer fileset (is_used tree.locks tree.opens) host user call)) (refuse tree)).tree.away
        ≡ tree.away
    placed (Ok place) = away_at tree place (slice_get tree.filesets place) host user call
    placed (Err why) = refl

away_checked : {A : Type 0} (tree : Tree) (checked : Result A Refusal) (act : A → Answer) →
    ((found : A) → (act found).tree.away ≡ tree.away) → (either checked act (refuse tree)).tree.away ≡ tree.away
away_checked tree (Ok found) act k = k found
away_checked tree (Err why) act k = refl

away_or : (tree : Tree) (t : Bool) (a b : Answer) → a.tree.away ≡ tree.away → b.tree.away ≡ tree.away →
    (cond t a b).tree.away ≡ tree.away
away_or tree true a b h k = h
away_or tree false a b h k = k

away_refused : {A : Type 0} (tree : Tree) (host : HostId) (server : ServerId) (name : List ℕ) (to : ServerId)
    (checked : Result A Refusal) (after : A → Tree) →
    has_moved (MoveFileset server name to) (either checked
    (λ a. let answer : Answer = record { reply = Accepted; tree = after a } in answer) (refuse tree)).reply ≡ false →
    (either checked (λ a. let answer : Answer = record { reply = Accepted; tree = after a } in answer)
    (refuse tree)).tree.away ≡ tree.away
away_refused tree host server name to (Ok a) after h = absurd (cc)
away_refused tree host server name to (Err why) after h = refl

away_for : (tree : Tree) (host : HostId) (call : CallOf) (user : User) →
    has_moved call (answer_for tree host call user).reply ≡ false →
    (answer_for tree host call user).tree.away ≡ tree.away
unfolding answer_for new_fileset_answer clone_answer move_answer lock_answer unlock_answer open_answer close_answer
away_for tree host (NewFileset server name objects owner) user h =
    away_checked tree (new_fileset_target tree server name objects) _ (λ room. refl)
away_for tree host (CloneFileset server source new) user h =
    away_checked tree (clone_target tree user server source new) _ (λ found. refl)
away_for tree host (MoveFileset server name to) user h =
    away_refused tree host server name to (move_target tree user server name to) _ h
away_for tree host (Lock label place writing from len) user h =
    away_checked tree (lock_check tree host user label place writing from len) _ (λ found. refl)
away_for tree host (Unlock label) user h = away_or tree (not (has_lock tree.locks host label)) _ _ refl refl
away_for tree host (OpenFile label place kind) user h =
    away_checked tree (open_check tree host user label place kind) _ (λ found. refl)
away_for tree host (CloseFile label) user h = away_or tree (not (has_open tree.opens host label)) _ _ refl refl
away_for tree host (Create place) user h = away_row tree host user (Create place)
away_for tree host (MakeDir place) user h = away_row tree host user (MakeDir place)
away_for tree host (Remove place) user h = away_row tree host user (Remove place)
away_for tree host (Rename from to) user h = away_row tree host user (Rename from to)
away_for tree host (Truncate place len) user h = away_row tree host user (Truncate place len)
away_for tree host (SetAcl place which list) user h = away_row tree host user (SetAcl place which list)
away_for tree host (Read place from len) user h = away_row tree host user (Read place from len)
away_for tree host (Write place from bytes) user h = away_row tree host user (Write place from bytes)
away_for tree host (ListNames place) user h = away_row tree host user (ListNames place)
away_for tree host (Stat place) user h = away_row tree host user (Stat place)
away_for tree host (GetAcl place which) user h = away_row tree host user (GetAcl place which)
away_for tree host (Sync place) user h = away_row tree host user (Sync place)

away_answer : (tree : Tree) (host : HostId) (call : CallOf) → has_moved call (answer_to tree host call).reply ≡ false →
    (answer_to tree host call).tree.away ≡ tree.away
unfolding answer_to
away_answer tree host call = for_found (user_of tree.roster host)
  where
    for_found : (found : Option User) →
        has_moved call (for_user tree found (answer_for tree host call)).reply ≡ false →
        (for_user tree found (answer_for tree host call)).tree.away ≡ tree.away
    for_found None h = refl
    for_found (Some user) h = away_for tree host call user h

away_stored : (tree : Tree) (host : HostId) (fid : Fid) (spans : List Span) (stored : Option ℕ) →
    (stored_tree tree host fid spans stored).away ≡ tree.away
unfolding stored_tree
away_stored tree host fid spans stored = refl

away_down : (tree : Tree) (host : HostId) (server : ServerId) → (down_tree tree host server).away ≡ tree.away
unfolding down_tree
away_down tree host server = refl

-- whether an entry moves a fileset, or tells that one arrived
pub quiet_call : (host : HostId) (k : ℕ) (call : CallOf) (reply : Reply) → has_moved call reply ≡ false →
    moves_none (Called host k call reply) ≡ true
quiet_call host k (MoveFileset server name to) Accepted h = absurd (cc)
quiet_call host k (MoveFileset server name to) (Bytes bytes) h = refl
quiet_call host k (MoveFileset server name to) (Names names) h = refl
quiet_call host k (MoveFileset server name to) (Facts facts) h = refl
quiet_call host k (MoveFileset server name to) (Access list) h = refl
quiet_call host k (MoveFileset server name to) (Refused refusal) h = refl
quiet_call host k (NewFileset server name objects owner) reply h = refl
quiet_call host k (CloneFileset server source new) reply h = refl
quiet_call host k (Lock label place writing from len) reply h = refl
quiet_call host k (Unlock label) reply h = refl
quiet_call host k (OpenFile label place kind) reply h = refl
quiet_call host k (CloseFile label) reply h = refl
quiet_call host k (Create place) reply h = refl
quiet_call host k (MakeDir place) reply h = refl
quiet_call host k (Remove place) reply h = refl
quiet_call host k (Rename from to) reply h = refl
quiet_call host k (Truncate place len) reply h = refl
quiet_call host k (SetAcl place which list) reply h = refl
quiet_call host k (Read place from len) reply h = refl
quiet_call host k (Write place from bytes) reply h = refl
quiet_call host k (ListNames place) reply h = refl
quiet_call host k (Stat place) reply h = refl
quiet_call host k (GetAcl place which) reply h = refl
quiet_call host k (Sync place) reply h = refl

call_quiet : (host : HostId) (k : ℕ) (call : CallOf) (reply : Reply) →
    moves_none (Called host k call reply) ≡ true → has_moved call reply ≡ false
call_quiet host k (MoveFileset server name to) Accepted h = absurd (cc)
call_quiet host k (MoveFileset server name to) (Bytes bytes) h = refl
call_quiet host k (MoveFileset server name to) (Names names) h = refl
call_quiet host k (MoveFileset server name to) (Facts facts) h = refl
call_quiet host k (MoveFileset server name to) (Access list) h = refl
call_quiet host k (MoveFileset server name to) (Refused refusal) h = refl
call_quiet host k (NewFileset server name objects owner) reply h = refl
call_quiet host k (CloneFileset server source new) reply h = refl
call_quiet host k (Lock label place writing from len) reply h = refl
call_quiet host k (Unlock label) reply h = refl
call_quiet host k (OpenFile label place kind) reply h = refl
call_quiet host k (CloseFile label) reply h = refl
call_quiet host k (Create place) reply h = refl
call_quiet host k (MakeDir place) reply h = refl
call_quiet host k (Remove place) reply h = refl
call_quiet host k (Rename from to) reply h = refl
call_quiet host k (Truncate place len) reply h = refl
call_quiet host k (SetAcl place which list) reply h = refl
call_quiet host k (Read place from len) reply h = refl
call_quiet host k (Write place from bytes) reply h = refl
call_quiet host k (ListNames place) reply h = refl
call_quiet host k (Stat place) reply h = refl
call_quiet host k (GetAcl place which) reply h = refl
call_quiet host k (Sync place) reply h = refl

pub away_stays : (tree : Tree) (entry : Entry) → IsLegal tree entry → moves_none entry ≡ true →
    (after_entry tree entry).away ≡ tree.away
away_stays tree (Called host k call reply) legal h =
    away_answer tree host call (ap (has_moved call) (sym legal) ∙ call_quiet host k call reply h)
away_stays tree (Stored host fid spans len) legal h = away_stored tree host fid spans len
away_stays tree (Down host server) legal h = away_down tree host server
away_stays tree (Left server id) legal h = absurd (cc)

pub rooms_after : (tree : Tree) (entries : List Entry) → IsHistory tree entries → list_all moves_none entries ≡ true →
    rooms_free tree ≡ true → rooms_free (after_history tree entries) ≡ true
rooms_after tree [] legal h k = k
rooms_after tree (entry ∷ entries) legal h k =
    rooms_after (after_entry tree entry) entries legal.1 (and_right (moves_none entry) _ h)
    (ap (list_all (λ (away : Away). not away.room_kept)) (away_stays tree entry legal.0 (and_left (moves_none entry) _ h))
    ∙ k)

-- the room that is kept directly behind a move
or_more : (a b c : Bool) → (b ≡ true → c ≡ true) → (a || b) ≡ true → (a || c) ≡ true
or_more true b c k h = refl
or_more false b c k h = k h

or_last : (a b : Bool) → b ≡ true → (a || b) ≡ true
or_last true b h = refl
or_last false b h = h

either_of : (a b : Bool) → (a || b) ≡ true → (a ≡ true) ⊎ (b ≡ true)
either_of true b h = inl refl
either_of false b h = inr h

any_filtered : {X : Type 0} (p q : X → Bool) (xs : List X) → list_any p (filter q xs) ≡ true → list_any p xs ≡ true
any_filtered p q [] h = h
any_filtered {X} p q (x ∷ xs) h = by (q x) (any_filtered p q xs) h
  where
    by : (b : Bool) → (list_any p (filter q xs) ≡ true → list_any p xs ≡ true) →
        list_any p (cond b (x ∷ filter q xs) (filter q xs)) ≡ true → (p x || list_any p xs) ≡ true
    by true rest h = or_more (p x) (list_any p (filter q xs)) (list_any p xs) rest h
    by false rest h = or_last (p x) (list_any p xs) (rest h)

any_inserted : {X : Type 0} (p : X → Bool) (x : X) (i : ℕ) (xs : List X) → list_any p (insert xs i x) ≡ true →
    (p x ≡ true) ⊎ (list_any p xs ≡ true)
any_inserted p x zero [] h = either_of (p x) false h
any_inserted p x (suc i) [] h = either_of (p x) false h
any_inserted p x zero (y ∷ ys) h = either_of (p x) (list_any p (y ∷ ys)) h
any_inserted {X} p x (suc i) (y ∷ ys) h =
    by (λ k. any_inserted p x i ys k) (either_of (p y) (list_any p (insert ys i x)) h)
  where
    later : (p x ≡ true) ⊎ (list_any p ys ≡ true) → (p x ≡ true) ⊎ ((p y || list_any p ys) ≡ true)
    later (inl k) = inl k
    later (inr k) = inr (or_last (p y) (list_any p ys) k)

    by : (list_any p (insert ys i x) ≡ true → (p x ≡ true) ⊎ (list_any p ys ≡ true)) →
        (p y ≡ true) ⊎ (list_any p (insert ys i x) ≡ true) → (p x ≡ true) ⊎ ((p y || list_any p ys) ≡ true)
    by rest (inl k) = inr (ap (λ b. b || list_any p ys) k)
    by rest (inr k) = later (rest k)

none_kept : (server : ServerId) (id : FilesetId) (records : List Away) →
    list_all (λ (away : Away). not away.room_kept) records ≡ true → is_room_kept records server id ≡ true → ⊥
none_kept server id [] h k = cc
none_kept server id (away ∷ records) h k =
    by (λ e. none_kept server id records (and_right (not away.room_kept) _ h) e)
    (either_of (is_away server id away && away.room_kept) (is_room_kept records server id) k)
  where
    both : (b : Bool) → b ≡ true → not b ≡ true → ⊥
    both true e f = cc
    both false e f = cc

    by : (is_room_kept records server id ≡ true → ⊥) →
        ((is_away server id away && away.room_kept) ≡ true) ⊎ (is_room_kept records server id ≡ true) → ⊥
    by rest (inl e) =
        both away.room_kept (and_right (is_away server id away) away.room_kept e) (and_left (not away.room_kept) _ h)
    by rest (inr e) = rest e

pub same_server : (a b : ServerId) → (a.0 == b.0) ≡ true → a ≡ b
same_server a b e = ap (λ n. let server : ServerId = record { 0 = n } in server) (equal_keys a.0 b.0 e)

-- it is that of the fileset that moved
pub kept_is : (tree : Tree) (place : ℕ) (fileset : Fileset) (to server : ServerId) (id : FilesetId) →
    rooms_free tree ≡ true → is_room_kept (with_moved tree place fileset to).away server id ≡ true →
    (fileset.server ≡ server) × (fileset.id ≡ id)
kept_is tree place fileset to server id free h =
    by (any_inserted (λ away. is_away server id away && away.room_kept) (left_by fileset to)
    (away_place tree.away fileset.server fileset.id) tree.away
    (any_filtered (λ away. is_away server id away && away.room_kept) (λ away. not (is_away to fileset.id away))
    (with_away tree.away (left_by fileset to)) h))
  where
    by : ((is_away server id (left_by fileset to) && true) ≡ true) ⊎ (is_room_kept tree.away server id ≡ true) →
        (fileset.server ≡ server) × (fileset.id ≡ id)
    by (inr k) = absurd (none_kept server id tree.away free k)
    by (inl k) =
        let its = and_left (is_away server id (left_by fileset to)) true k in (
          same_server fileset.server server (and_left (fileset.server.0 == server.0) (fileset.id.0 == id.0) its),
          same_id fileset.id id (and_right (fileset.server.0 == server.0) (fileset.id.0 == id.0) its),
        )

-- and none is kept once it has arrived
all_freed : (server : ServerId) (id : FilesetId) (records : List Away) →
    list_all (λ (away : Away). not away.room_kept || is_away server id away) records ≡ true →
    list_all (λ (away : Away). not away.room_kept) (room_freed records server id) ≡ true
all_freed server id [] h = h
all_freed server id (away ∷ records) h =
    and_both _ _ (by (is_away server id away) (and_left (not away.room_kept || is_away server id away) _ h))
    (all_freed server id records (and_right (not away.room_kept || is_away server id away) _ h))
  where
    first : (b : Bool) → (b || false) ≡ true → b ≡ true
    first true e = refl
    first false e = e

    by : (b : Bool) → (not away.room_kept || b) ≡ true →
        not (if b then record away { room_kept = false } else away).room_kept ≡ true
    by true e = refl
    by false e = first (not away.room_kept) e

pub rooms_moved : (tree : Tree) (place : ℕ) (fileset : Fileset) (to : ServerId) → rooms_free tree ≡ true →
    rooms_free (left_tree (with_moved tree place fileset to) fileset.server fileset.id) ≡ true
unfolding left_tree
rooms_moved tree place fileset to free =
    all_freed fileset.server fileset.id (with_moved tree place fileset to).away
    (all_filter test (λ away. not (is_away to fileset.id away)) (with_away tree.away (left_by fileset to))
    (all_insert test (left_by fileset to) (away_place tree.away fileset.server fileset.id) tree.away own others))
  where
    test : Away → Bool
    test away = not away.room_kept || is_away fileset.server fileset.id away

    own : test (left_by fileset to) ≡ true
    own = ap (λ b. b && (fileset.id.0 == fileset.id.0)) (same_key fileset.server.0) ∙ same_key fileset.id.0

    first : (a b : Bool) → a ≡ true → (a || b) ≡ true
    first a b e = ap (λ t. t || b) e

    others : list_all test tree.away ≡ true
    others =
        all_implied (λ (away : Away). not away.room_kept) test
        (λ away e. first (not away.room_kept) (is_away fileset.server fileset.id away) e) tree.away free
