-- How a server learns that a fileset which left it has arrived.
use Rattle.std.proofs.Common.{◌≡◌, ℕ, zero, suc, ◌==◌, ◌||◌, not, Bool, true, false, List, [], ◌∷◌, ◌++◌, Option, Some, None, Result, Ok, Err, refl, sym, ap, subst, append_assoc, ◌∙◌, cond, ◌⊎◌, inl, inr, rules}
use Rattle.std.specs.Prelude.{filter, insert, slice_get, if◌then◌else◌}
use Rattle.std.specs.List.{list_all, list_any, find}
use Rattle.std.specs.Option.{option_map}
use Rattle.std.proofs.lemmas.Bool.{eqb-true, eq-eqb}
use Rattle.base_types.specs.Outcomes.{either}
use Rattle.base_types.specs.declared.ids.HostId.{HostId}
use Rattle.base_types.specs.declared.ids.ServerId.{ServerId}
use Rattle.base_types.specs.declared.ids.FilesetId.{FilesetId}
use Rattle.base_types.specs.declared.user.User.{User}
use Rattle.tree_calls.specs.Limits.{keeps_limit}
use Rattle.tree_calls.specs.declared.call.Call.{Call as CallOf}
use Rattle.tree_calls.specs.declared.call.Call.TheVariants.{NewFileset, Create, MakeDir, Remove, Rename, Truncate, SetAcl, CloneFileset, Read, Write, List as ListNames, Stat, GetAcl, Sync, Lock, Unlock, OpenFile, CloseFile, MoveFileset}
use Rattle.tree_calls.specs.declared.entry.Entry.{Entry}
use Rattle.tree_calls.specs.declared.entry.Entry.TheVariants.{Call as Called, Stored, Down, Left}
use Rattle.tree_calls.specs.declared.reply.Refusal.{Refusal}
use Rattle.tree_calls.specs.declared.reply.Reply.{Reply}
use Rattle.tree_calls.specs.declared.reply.Reply.TheVariants.{Ok as Done, Refused}
use Rattle.tree_filesets.specs.Rows.{fileset_answer}
use Rattle.tree_filesets.specs.declared.fileset.Fileset.{Fileset}
use Rattle.tree_calls.specs.declared.place.Place.{Place}
use Rattle.tree_saving.specs.Saving.{is_store_of}
use Rattle.tree_saving.specs.Stores.{own_stores}
use Rattle.tree_saving.specs.Unsaved.{all_contents, has_saved, is_by_one, is_write_by, writes_alone}
use Rattle.tree_saving.proofs.Apart.{stays_apart, stays_saved, saved_is_at_rest, roster_stays}
use Rattle.tree_answers.specs.Answers.{answer_to, answer_for, answer_at, fileset_row, for_user, deciding_place}
use Rattle.tree_answers.specs.Away.{is_away, is_room_kept, with_away, without_away, away_place, room_freed}
use Rattle.tree_answers.specs.Finding.{Answer, refuse}
use Rattle.tree_answers.specs.Uses.{is_used}
use Rattle.tree_calls.specs.Rosters.{user_of}
use Rattle.tree_answers.specs.Founding.{new_fileset_answer, new_fileset_target, clone_answer, clone_target}
use Rattle.tree_answers.specs.Histories.{after_history, IsHistory}
use Rattle.tree_answers.specs.Locks.{lock_answer, lock_check, unlock_answer, has_lock}
use Rattle.tree_answers.specs.Moving.{move_answer, move_target, left_by, with_moved, left_tree}
use Rattle.tree_answers.specs.Opens.{open_answer, open_check, close_answer, has_open}
use Rattle.tree_answers.specs.WellFormed.{IsWellFormed}
use Rattle.tree_answers.specs.declared.tree.Away.{Away}
use Rattle.tree_answers.specs.declared.tree.Tree.{Tree}
use Rattle.tree_answers.proofs.Kept.{formed_entry, move_ok}
use Rattle.service_plain.specs.Played.{has_moved, rests, written_by, rooms_free}
use Rattle.service_plain.specs.Uses.{is_done}
use Rattle.service_plain.specs.Underway.{is_aside, is_write, Saves, Makes, kept_room, arrived, arrived_by}
use Rattle.service_plain.specs.declared.past.Past.{Past}
use Rattle.service_plain.proofs.Goes.{is_quiet, quiet_lefts, quiet_away, quiet_stores, stand_once}
use Rattle.service_plain.proofs.Histories.{all_so, fst_true, snd_true, both_true}
use Rattle.service_plain.proofs.Rests.{rest_by_one, rest_saved, rest_alone, rest_entry}
use Rattle.service_plain.proofs.Written.{StoresOnce, none_flat, write_stores}

-- whether a record keeps no room
abbrev is_free : Away → Bool
is_free away = not away.room_kept

-- one record keeps room, and no other
record OneKept (records : List Away) (server : ServerId) (id : FilesetId) : Type 0 where
  some : list_any (λ away. away.room_kept) records ≡ true
  all : list_all (λ away. is_free away || is_away server id away) records ≡ true

all_filter : {X : Type 0} (p test : X → Bool) (xs : List X) → list_all p xs ≡ true → list_all p (filter test xs) ≡ true
all_filter p test [] h = refl
all_filter p test (x ∷ xs) h = by (test x) (all_filter p test xs (snd_true _ _ h))
  where
    by : (v : Bool) → list_all p (filter test xs) ≡ true → list_all p (if v then x ∷ filter test xs else filter test xs) ≡ true
    by true m = both_true _ _ (fst_true _ _ h) m
    by false m = m

all_insert : {X : Type 0} (p : X → Bool) (xs : List X) (i : ℕ) (x : X) → p x ≡ true → list_all p xs ≡ true → list_all p (insert xs i x) ≡ true
all_insert p xs zero x h k = both_true _ _ h k
all_insert p [] (suc i) x h k = both_true _ _ h refl
all_insert p (y ∷ xs) (suc i) x h k = both_true _ _ (fst_true _ _ k) (all_insert p xs i x h (snd_true _ _ k))

or_true : (a b : Bool) → b ≡ true → (a || b) ≡ true
or_true true b h = refl
or_true false b h = h

some_filter : {X : Type 0} (p test : X → Bool) (x : X) (xs : List X) → p x ≡ true → test x ≡ true → list_any p (filter test (x ∷ xs)) ≡ true
some_filter p test x xs h k = rw (k, h) refl

some_more : {X : Type 0} (p test : X → Bool) (y : X) (xs : List X) → list_any p (filter test xs) ≡ true → list_any p (filter test (y ∷ xs)) ≡ true
some_more p test y xs h = by (test y)
  where
    by : (v : Bool) → list_any p (if v then y ∷ filter test xs else filter test xs) ≡ true
    by true = or_true (p y) _ h
    by false = h

some_insert : {X : Type 0} (p test : X → Bool) (xs : List X) (i : ℕ) (x : X) → p x ≡ true → test x ≡ true → list_any p (filter test (insert xs i x)) ≡ true
some_insert p test xs zero x h k = some_filter p test x xs h k
some_insert p test [] (suc i) x h k = some_filter p test x [] h k
some_insert p test (y ∷ xs) (suc i) x h k = some_more p test y (insert xs i x) (some_insert p test xs i x h k)

all_weaker : {X : Type 0} (p q : X → Bool) → ((x : X) → p x ≡ true → q x ≡ true) → (xs : List X) → list_all p xs ≡ true → list_all q xs ≡ true
all_weaker p q f [] h = refl
all_weaker p q f (x ∷ xs) h = both_true _ _ (f x (fst_true _ _ h)) (all_weaker p q f xs (snd_true _ _ h))

is_itself : (server : ServerId) (id : FilesetId) (away : Away) → away.server ≡ server → away.fileset ≡ id → is_away server id away ≡ true
is_itself server id away e f = rw (e, f) (both_true _ _ (eq-eqb server.0 server.0 refl) (eq-eqb id.0 id.0 refl))

-- a fileset that leaves a server where no room is kept
one_kept : (records : List Away) (fileset : Fileset) (to : ServerId) → (fileset.server.0 == to.0) ≡ false → list_all is_free records ≡ true →
    OneKept (without_away (with_away records (left_by fileset to)) to fileset.id) fileset.server fileset.id
one_kept records fileset to d h =
    let left : Away = left_by fileset to in
    let at : ℕ = away_place records left.server left.fileset in
    record {
      some = some_insert (λ away. away.room_kept) (λ away. not (is_away to fileset.id away)) records at left refl (rw d refl);
      all = all_filter _ (λ away. not (is_away to fileset.id away)) (insert records at left)
          (all_insert (λ away. is_free away || is_away fileset.server fileset.id away) records at left (is_itself fileset.server fileset.id left refl refl)
          (all_weaker is_free (λ away. is_free away || is_away fileset.server fileset.id away) (λ away k. rw k refl) records h));
    }

-- what a call makes of the records: nothing, unless it moves a fileset
abbrev AwayAfter : Tree → CallOf → Answer → Type 0
AwayAfter tree call answer =
    ((answer.tree.away ≡ tree.away) × (has_moved call answer.reply ≡ false))
    ⊎ ((has_moved call answer.reply ≡ true) × ((server : ServerId) × ((id : FilesetId) × OneKept answer.tree.away server id)))

-- the records stay
away_at : (tree : Tree) (place : ℕ) (found : Option Fileset) (host : HostId) (user : User) (call : CallOf) →
    (answer_at tree place found (λ fileset. fileset_answer fileset (is_used tree.locks tree.opens) host user call)).tree.away ≡ tree.away
away_at tree place None host user call = refl
away_at tree place (Some fileset) host user call = refl

away_row : (tree : Tree) (host : HostId) (user : User) (call : CallOf) → (fileset_row tree host user call).tree.away ≡ tree.away
unfolding fileset_row
away_row tree host user call = placed (deciding_place tree call)
  where
    placed : (found : Result ℕ Refusal) →
        (either found (λ place. answer_at tree place (slice_get tree.filesets place) (λ fileset. fileset_answer fileset (is_used tree.locks tree.opens) host user call)) (refuse tree)).tree.away ≡ tree.away
    placed (Ok place) = away_at tree place (slice_get tree.filesets place) host user call
    placed (Err why) = refl

away_checked : {A : Type 0} (tree : Tree) (checked : Result A Refusal) (act : A → Answer) → ((found : A) → (act found).tree.away ≡ tree.away) → (either checked act (refuse tree)).tree.away ≡ tree.away
away_checked tree (Ok found) act k = k found
away_checked tree (Err why) act k = refl

away_or : (tree : Tree) (t : Bool) (a b : Answer) → a.tree.away ≡ tree.away → b.tree.away ≡ tree.away → (cond t a b).tree.away ≡ tree.away
away_or tree true a b h k = h
away_or tree false a b h k = k

away_moved : (tree : Tree) (host : HostId) (user : User) (server : ServerId) (name : List ℕ) (to : ServerId) (checked : Result (ℕ × Fileset) Refusal) → rooms_free tree ≡ true → checked ≡ move_target tree user server name to →
    AwayAfter tree (MoveFileset server name to) (either checked (λ (place, fileset). let answer : Answer = record { reply = Done; tree = with_moved tree place fileset to } in answer) (refuse tree))
away_moved tree host user server name to (Err why) r e = inl (refl, refl)
away_moved tree host user server name to (Ok found) r e =
    let (placed, move) = move_ok tree user server name to found (sym e) in
    inr (refl, (found.1.server, (found.1.id, one_kept tree.away found.1 to move.goes r)))

away_for : (tree : Tree) (host : HostId) (call : CallOf) (user : User) → rooms_free tree ≡ true → AwayAfter tree call (answer_for tree host call user)
unfolding answer_for new_fileset_answer clone_answer move_answer lock_answer unlock_answer open_answer close_answer
away_for tree host (NewFileset server name objects owner) user r = inl (away_checked tree (new_fileset_target tree server name objects) _ (λ room. refl), refl)
away_for tree host (CloneFileset server source new) user r = inl (away_checked tree (clone_target tree user server source new) _ (λ found. refl), refl)
away_for tree host (MoveFileset server name to) user r = away_moved tree host user server name to (move_target tree user server name to) r refl
away_for tree host (Lock label place writing from len) user r = inl (away_checked tree (lock_check tree host user label place writing from len) _ (λ found. refl), refl)
away_for tree host (Unlock label) user r = inl (away_or tree (not (has_lock tree.locks host label)) _ _ refl refl, refl)
away_for tree host (OpenFile label place kind) user r = inl (away_checked tree (open_check tree host user label place kind) _ (λ found. refl), refl)
away_for tree host (CloseFile label) user r = inl (away_or tree (not (has_open tree.opens host label)) _ _ refl refl, refl)
away_for tree host (Create place) user r = inl (away_row tree host user (Create place), refl)
away_for tree host (MakeDir place) user r = inl (away_row tree host user (MakeDir place), refl)
away_for tree host (Remove place) user r = inl (away_row tree host user (Remove place), refl)
away_for tree host (Rename from to) user r = inl (away_row tree host user (Rename from to), refl)
away_for tree host (Truncate place len) user r = inl (away_row tree host user (Truncate place len), refl)
away_for tree host (SetAcl place which list) user r = inl (away_row tree host user (SetAcl place which list), refl)
away_for tree host (Read place from len) user r = inl (away_row tree host user (Read place from len), refl)
away_for tree host (Write place from bytes) user r = inl (away_row tree host user (Write place from bytes), refl)
away_for tree host (ListNames place) user r = inl (away_row tree host user (ListNames place), refl)
away_for tree host (Stat place) user r = inl (away_row tree host user (Stat place), refl)
away_for tree host (GetAcl place which) user r = inl (away_row tree host user (GetAcl place which), refl)
away_for tree host (Sync place) user r = inl (away_row tree host user (Sync place), refl)

not_moved : (call : CallOf) (refusal : Refusal) → has_moved call (Refused refusal) ≡ false
not_moved (MoveFileset server name to) refusal = refl
not_moved call refusal = refl

away_answer : (tree : Tree) (host : HostId) (call : CallOf) → rooms_free tree ≡ true → AwayAfter tree call (answer_to tree host call)
unfolding answer_to
away_answer tree host call r = for_found (user_of tree.roster host)
  where
    for_found : (found : Option User) → AwayAfter tree call (for_user tree found (answer_for tree host call))
    for_found None = inl (refl, not_moved call _)
    for_found (Some user) = away_for tree host call user r

-- the first record that keeps room
none_kept : (records : List Away) → list_all is_free records ≡ true → find (λ away. away.room_kept) records ≡ None
none_kept [] h = refl
none_kept (away ∷ records) h = by away.room_kept (fst_true _ _ h) (none_kept records (snd_true _ _ h))
  where
    by : (v : Bool) → not v ≡ true → find (λ away. away.room_kept) records ≡ None → (if v then Some away else find (λ away. away.room_kept) records) ≡ None
    by true k m = cc
    by false k m = m

record IsFirst (records : List Away) (server : ServerId) (id : FilesetId) (away : Away) : Type 0 where
  first : find (λ away. away.room_kept) records ≡ Some away
  own : is_away server id away ≡ true
  there : is_room_kept records away.server away.fileset ≡ true

first_kept : (records : List Away) (server : ServerId) (id : FilesetId) → OneKept records server id → (away : Away) × IsFirst records server id away
first_kept [] server id o = absurd (search (rules, o.some))
first_kept (away ∷ records) server id o = by away.room_kept refl o.some (λ s. first_kept records server id (record { some = s; all = snd_true _ _ o.all }))
  where
    own : away.room_kept ≡ true → is_away server id away ≡ true
    own k = let q : (not away.room_kept || is_away server id away) ≡ true = fst_true _ _ o.all in rw k at q

    by : (v : Bool) → away.room_kept ≡ v → (v || list_any (λ away. away.room_kept) records) ≡ true → (list_any (λ away. away.room_kept) records ≡ true → (found : Away) × IsFirst records server id found) → (found : Away) × IsFirst (away ∷ records) server id found
    by true k s more = (away, record { first = rw k refl; own = own k; there = rw (is_itself away.server away.fileset away refl refl, k) refl })
    by false k s more = let (found, f) = more s in (found, record { first = rw k f.first; own = f.own; there = or_true _ _ f.there })

-- two records of one server and fileset
same_away : (server : ServerId) (id : FilesetId) (a b : Away) → is_away server id a ≡ true → is_away server id b ≡ true → is_away a.server a.fileset b ≡ true
same_away server id a b h k =
    let s : a.server.0 ≡ server.0 = eqb-true _ _ (fst_true _ _ h) in
    let f : a.fileset.0 ≡ id.0 = eqb-true _ _ (snd_true _ _ h) in
    rw (s, f) k

freed : (records : List Away) (server : ServerId) (id : FilesetId) (away : Away) → is_away server id away ≡ true → list_all (λ away. is_free away || is_away server id away) records ≡ true → list_all is_free (room_freed records away.server away.fileset) ≡ true
freed [] server id away o h = refl
freed (other ∷ records) server id away o h = both_true _ _ (by (is_away away.server away.fileset other) refl) (freed records server id away o (snd_true _ _ h))
  where
    kept : (v : Bool) → other.room_kept ≡ v → is_away away.server away.fileset other ≡ false → not v ≡ true
    kept false k e = refl
    kept true k e =
        let q : (not other.room_kept || is_away server id other) ≡ true = fst_true _ _ h in
        let own : is_away server id other ≡ true = rw k at q in
        let same : is_away away.server away.fileset other ≡ true = same_away server id away other o own in
        cc

    by : (v : Bool) → is_away away.server away.fileset other ≡ v → is_free (if v then record other { room_kept = false } else other) ≡ true
    by true e = refl
    by false e = kept other.room_kept refl e

left_away : (tree : Tree) (server : ServerId) (id : FilesetId) → (left_tree tree server id).away ≡ room_freed tree.away server id
unfolding left_tree
left_away tree server id = refl

-- a call that is no write
not_write : (call : CallOf) → is_write call ≡ false → (host other : HostId) (k : ℕ) (reply : Reply) → is_write_by other (Called host k call reply) ≡ false
not_write (Write place from bytes) w host other k reply = cc
not_write call w host other k reply = refl

-- it leaves nothing unsaved, and a server learns that a fileset has arrived
pub made_by : (host : HostId) (k : ℕ) (call : CallOf) (reply : Reply) (done : Bool) (before : Past) (history : List Entry) (tree : Tree) (after : Past) → is_write call ≡ false → IsWellFormed before.tree → rests before.tree ≡ true → rooms_free before.tree ≡ true →
    keeps_limit call ≡ true → reply ≡ (answer_to before.tree host call).reply → tree ≡ (answer_to before.tree host call).tree → history ≡ before.history ++ Called host k call reply ∷ [] → done ≡ is_done reply →
    after ≡ arrived (record { tree = tree; history = history }) → Makes host k call done before after
made_by host k call reply done before history tree after w f s r l e t y d z = by (away_answer before.tree host call r)
  where
    made : Entry
    made = Called host k call reply

    formed : IsWellFormed (answer_to before.tree host call).tree
    formed = formed_entry before.tree made f e l

    rest : rests (answer_to before.tree host call).tree ≡ true
    rest = rest_entry before.tree made s (λ other. not_write call w host other k reply)

    by : AwayAfter before.tree call (answer_to before.tree host call) → Makes host k call done before after
    by (inl (same, unmoved)) =
        let free : rooms_free tree ≡ true = rw (t, same) r in
        let quiet : has_moved call reply ≡ false = rw e unmoved in
        let none : kept_room tree ≡ None = ap (option_map (λ away. (away.server, away.fileset))) (none_kept tree.away free) in
        let here : after ≡ record { tree = tree; history = history } = z ∙ ap (arrived_by (record { tree = tree; history = history })) none in
        rw here (record {
          reply = reply;
          behind = [];
          asides = refl;
          goes = record {
            history = y;
            leads = record { legal = (e, tt); tree = t; formed = rw t formed; rest = rw t rest; roster = rw t (roster_stays before.tree made) };
            lefts = rw quiet refl;
            stores = both_true _ _ s rest;
            rooms = free;
          };
          told = d;
        })
    by (inr (done_so, (server, (id, one)))) =
        let moved : has_moved call reply ≡ true = rw e done_so in
        let (away, first) = first_kept (answer_to before.tree host call).tree.away server id one in
        let some : kept_room tree ≡ Some (away.server, away.fileset) = rw t (ap (option_map (λ away. (away.server, away.fileset))) first.first) in
        let left : Entry = Left away.server away.fileset in
        let last : Past = record { tree = left_tree tree away.server away.fileset; history = history ++ left ∷ [] } in
        let here : after ≡ last = z ∙ ap (arrived_by (record { tree = tree; history = history })) some in
        let settled : rests (left_tree (answer_to before.tree host call).tree away.server away.fileset) ≡ true = rest_entry (answer_to before.tree host call).tree left rest (λ other. refl) in
        rw here (record {
          reply = reply;
          behind = left ∷ [];
          asides = refl;
          goes = record {
            history = ap (λ l. l ++ left ∷ []) y ∙ append_assoc before.history (made ∷ []) (left ∷ []);
            leads = record {
              legal = (e, (first.there, tt));
              tree = ap (λ tree. left_tree tree away.server away.fileset) t;
              formed = rw t (formed_entry (answer_to before.tree host call).tree left formed first.there refl);
              rest = rw t settled;
              roster = rw t (roster_stays (answer_to before.tree host call).tree left ∙ roster_stays before.tree made);
            };
            lefts = rw moved refl;
            stores = both_true _ _ s (both_true _ _ rest settled);
            rooms = rw (t, left_away (answer_to before.tree host call).tree away.server away.fileset) (freed (answer_to before.tree host call).tree.away server id away first.own one.all);
          };
          told = d;
        })

-- a write
write_away : (tree : Tree) (host : HostId) (place : Place) (from : ℕ) (bytes : List ℕ) → rooms_free tree ≡ true → (answer_to tree host (Write place from bytes)).tree.away ≡ tree.away
write_away tree host place from bytes r = by (away_answer tree host (Write place from bytes) r)
  where
    by : AwayAfter tree (Write place from bytes) (answer_to tree host (Write place from bytes)) → (answer_to tree host (Write place from bytes)).tree.away ≡ tree.away
    by (inl (same, unmoved)) = same
    by (inr (moved, more)) = cc

pub writes_alone_there : (tree : Tree) (host : HostId) (k : ℕ) (call : CallOf) (reply : Reply) → rests tree ≡ true → writes_alone tree (Called host k call reply) ≡ true
writes_alone_there tree host k (Write place from bytes) reply r = rest_alone host tree place r
writes_alone_there tree host k call reply r = refl

-- the tree after a call, before what was written is stored
pub call_formed : (tree : Tree) (host : HostId) (k : ℕ) (call : CallOf) (reply : Reply) → IsWellFormed tree → keeps_limit call ≡ true → reply ≡ (answer_to tree host call).reply → IsWellFormed (answer_to tree host call).tree
call_formed tree host k call reply f l e = formed_entry tree (Called host k call reply) f e l

pub call_apart : (tree : Tree) (host : HostId) (k : ℕ) (call : CallOf) (reply : Reply) → rests tree ≡ true → reply ≡ (answer_to tree host call).reply → all_contents is_by_one (answer_to tree host call).tree ≡ true
call_apart tree host k call reply r e = stays_apart tree (Called host k call reply) e (rest_by_one tree r) (writes_alone_there tree host k call reply r)

stores_aside : (test : HostId → Bool) (entries : List Entry) → list_all (is_store_of test) entries ≡ true → list_all is_aside entries ≡ true
stores_aside test = all_so (is_store_of test) is_aside by
  where
    by : (entry : Entry) → is_store_of test entry ≡ true → is_aside entry ≡ true
    by (Called caller n call reply) h = cc
    by (Stored host fid spans len) h = refl
    by (Down host server) h = cc
    by (Left server id) h = cc

made_write : (host : HostId) (k : ℕ) (place : Place) (from : ℕ) (bytes : List ℕ) (reply : Reply) (done : Bool) (before : Past) (history : List Entry) (tree : Tree) (after : Past) → rests before.tree ≡ true → rooms_free before.tree ≡ true →
    reply ≡ (answer_to before.tree host (Write place from bytes)).reply → tree ≡ (answer_to before.tree host (Write place from bytes)).tree → history ≡ before.history ++ Called host k (Write place from bytes) reply ∷ [] → done ≡ is_done reply →
    Saves host (record { tree = tree; history = history }) after → Makes host k (Write place from bytes) done before after
made_write host k place from bytes reply done before history tree after s r e t y d v = record {
  reply = reply;
  behind = v.stored;
  asides = stores_aside _ v.stored v.stores.stores;
  goes = record {
    history = v.history ∙ (ap (λ l. l ++ v.stored) y ∙ append_assoc before.history (made ∷ []) v.stored);
    leads = record {
      legal = (e, subst (λ tree. IsHistory tree v.stored) t v.stores.leads.legal);
      tree = v.stores.leads.tree ∙ ap (λ tree. after_history tree v.stored) t;
      formed = v.stores.leads.formed;
      rest = rest;
      roster = v.stores.leads.roster ∙ rw t (roster_stays before.tree made);
    };
    lefts = quiet_lefts v.stored quiet;
    stores = both_true _ _ s (stand_once host (written_by before.tree made) written v.stored once (λ r. all ∙ none_flat host written.filesets r) (subst (λ tree. rests tree ≡ true) (v.stores.leads.tree ∙ ap (λ tree. after_history tree v.stored) t) rest));
    rooms = rw (v.stores.leads.tree, quiet_away tree v.stored quiet, t, write_away before.tree host place from bytes r) r;
  };
  told = d;
}
  where
    made : Entry
    made = Called host k (Write place from bytes) reply

    written : Tree
    written = (answer_to before.tree host (Write place from bytes)).tree

    quiet : list_all is_quiet v.stored ≡ true
    quiet = quiet_stores _ v.stored v.stores.stores

    all : v.stored ≡ own_stores host written
    all = v.stores.all ∙ ap (own_stores host) t

    once : StoresOnce host (written_by before.tree made) v.stored
    once = subst (StoresOnce host (written_by before.tree made)) (sym all) (write_stores before.tree host k place from bytes reply s)

    saved : (other : HostId) → all_contents (has_saved other) after.tree ≡ true
    saved other = by (host.0 == other.0) refl
      where
        by : (v : Bool) → (host.0 == other.0) ≡ v → all_contents (has_saved other) after.tree ≡ true
        by true same = subst (λ own. all_contents (has_saved own) after.tree ≡ true) (ap (λ n. record { 0 = n }) (eqb-true host.0 other.0 same)) v.stores.saved
        by false differ = v.stores.leads.saved other (rw t (stays_saved before.tree made other (rest_saved before.tree s other) differ))

    rest : rests after.tree ≡ true
    rest = saved_is_at_rest after.tree saved

pub made_writing : (host : HostId) (k : ℕ) (call : CallOf) (reply : Reply) (done : Bool) (before : Past) (history : List Entry) (tree : Tree) (after : Past) → is_write call ≡ true → rests before.tree ≡ true → rooms_free before.tree ≡ true →
    reply ≡ (answer_to before.tree host call).reply → tree ≡ (answer_to before.tree host call).tree → history ≡ before.history ++ Called host k call reply ∷ [] → done ≡ is_done reply →
    Saves host (record { tree = tree; history = history }) after → Makes host k call done before after
made_writing host k (Write place from bytes) reply done before history tree after w s r e t y d v = made_write host k place from bytes reply done before history tree after s r e t y d v
made_writing host k call reply done before history tree after w s r e t y d v = cc
