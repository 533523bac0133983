-- Laws of filesets that move.
use Rattle.std.proofs.Common.{◌≡◌, ◌⊎◌, ℕ, zero, suc, ◌+◌, ◌<◌, ◌==◌, nat_lt, Bool, true, false, ◌&&◌, ◌||◌, not, cond, List, [], ◌∷◌, insert, Option, Some, None, Result, Ok, Err, refl, sym, ap, ◌∙◌, subst, arith, rules, inl, inr}
use Rattle.std.specs.Prelude.{slice_get, slice_set, map, if◌then◌else◌}
use Rattle.std.specs.List.{find, list_any, list_all, position}
use Rattle.std.specs.Option.{option_map, option_map_or}
use Rattle.std.proofs.lemmas.Grind.{common_steps}
use Rattle.base_types.specs.Name.{same_name}
use Rattle.base_types.specs.Outcomes.{either}
use Rattle.base_types.specs.declared.ids.Fid.{Fid}
use Rattle.base_types.specs.declared.ids.FilesetId.{FilesetId}
use Rattle.base_types.specs.declared.ids.HostId.{HostId}
use Rattle.base_types.specs.declared.ids.ServerId.{ServerId}
use Rattle.base_types.specs.declared.span.Span.{Span}
use Rattle.base_types.specs.declared.user.User.{User}
use Rattle.tree_calls.specs.Rosters.{user_of}
use Rattle.tree_calls.specs.declared.call.Call.{Call as CallOf}
use Rattle.tree_calls.specs.declared.call.Call.TheVariants.{NewFileset, Create, MakeDir, Remove, Rename, Truncate, SetAcl, CloneFileset, Read, Write, List as ListNames, Stat, GetAcl, Sync, Lock, Unlock, OpenFile, CloseFile, MoveFileset}
use Rattle.tree_calls.specs.declared.entry.Entry.{Entry}
use Rattle.tree_calls.specs.declared.entry.Entry.TheVariants.{Call, Stored, Down, Left}
use Rattle.tree_calls.specs.declared.reply.Refusal.{Refusal}
use Rattle.tree_calls.specs.declared.reply.Refusal.TheVariants.{NoFileset, Exists}
use Rattle.tree_calls.specs.declared.reply.Reply.TheVariants.{Ok as Done}
use Rattle.tree_objects.proofs.Observed.{and_left, and_right}
use Rattle.tree_objects.proofs.Rising.{and_both}
use Rattle.tree_filesets.specs.declared.fileset.Fileset.{Fileset}
use Rattle.tree_filesets.specs.Founding.{new_fileset, cloned, moved}
use Rattle.tree_filesets.specs.Promises.{new_promise}
use Rattle.tree_filesets.specs.Rows.{fileset_answer}
use Rattle.tree_filesets.proofs.Names.{names_equal, same_self, find-filter_kept}
use Rattle.tree_filesets.proofs.Targets.{unless_ok, ok_is}
use Rattle.tree_answers.specs.declared.tree.Away.{Away}
use Rattle.tree_answers.specs.declared.tree.ServerRoom.{ServerRoom}
use Rattle.tree_answers.specs.declared.tree.Tree.{Tree}
use Rattle.tree_answers.specs.Answers.{for_user, answer_at, deciding_place, fileset_row, answer_for, answer_to}
use Rattle.tree_answers.specs.Away.{is_away, is_away_named, away_id, away_place, with_away, without_away}
use Rattle.tree_answers.specs.Finding.{Answer, refuse, is_named, has_id, is_here, has_this_id, leads_to, found_or, fileset_place, fileset_named, is_taken}
use Rattle.tree_answers.specs.Founding.{next_id, room_for, with_fileset, new_fileset_target, new_fileset_answer, clone_target, clone_answer}
use Rattle.tree_answers.specs.Histories.{after_entry, IsHistory, after_history}
use Rattle.tree_answers.specs.Locks.{lock_answer, lock_check, unlock_answer, has_lock}
use Rattle.tree_answers.specs.Losses.{fileset_forgotten, down_tree}
use Rattle.tree_answers.specs.Moving.{left_by, with_moved, move_target, move_answer, left_tree}
use Rattle.tree_answers.specs.MoveLaws.{FilesetsAreOnce, MovesAreWhole, is_move, MovesCount}
use Rattle.tree_answers.specs.Opens.{open_answer, open_check, close_answer, has_open}
use Rattle.tree_answers.specs.Stores.{may_store, stored_tree, place_with_id}
use Rattle.tree_answers.specs.Uses.{is_used}
use Rattle.tree_answers.specs.WellFormed.{ids_rise, is_elsewhere, IsWellFormed, is_limited}
use Rattle.tree_answers.proofs.AfterMove.{IsMove, any_put, get_none, alone_put, moved_parts, no_own_name, same_server}
use Rattle.tree_answers.proofs.Clones.{clone_fresh}
use Rattle.tree_answers.proofs.Followed.{AllFollow, set_follows, changed_follows, map_follows}
use Rattle.tree_answers.proofs.Inserted.{IsFresh, find_insert, fresh_id, eq_sym}
use Rattle.tree_answers.proofs.Kept.{row_follows, store_follows, forget_at_follows, room_ok, move_ok, formed_start, formed_entry}
use Rattle.tree_answers.proofs.Led.{position_found}
use Rattle.tree_answers.proofs.Places.{equal_is, get_all, find_put, find_put_other, find_at_place, find_all, found_passes, not_true}

-- no two filesets have one id
rises_once : (filesets : List Fileset) (i j : ℕ) (a b : Fileset) → ids_rise filesets ≡ true → slice_get filesets i ≡ Some a → slice_get filesets j ≡ Some b → a.id.0 ≡ b.id.0 → i ≡ j
rises_once [] i j a b r h k e = absurd (search (rules, h))
rises_once (x ∷ xs) zero zero a b r h k e = refl
rises_once (x ∷ xs) zero (suc j) a b r h k e =
    let same : x ≡ a = cc in
    let before : nat_lt x.id.0 b.id.0 ≡ true = get_all (λ other. nat_lt x.id.0 other.id.0) xs j b (sym k) (and_left _ _ r) in
    let less : x.id.0 < b.id.0 = grind (arith, common_steps, before) in
    let id : x.id.0 ≡ a.id.0 = ap (λ f. f.id.0) same in
    absurd (omega (arith, less, id, e))
rises_once (x ∷ xs) (suc i) zero a b r h k e =
    let same : x ≡ b = cc in
    let before : nat_lt x.id.0 a.id.0 ≡ true = get_all (λ other. nat_lt x.id.0 other.id.0) xs i a (sym h) (and_left _ _ r) in
    let less : x.id.0 < a.id.0 = grind (arith, common_steps, before) in
    let id : x.id.0 ≡ b.id.0 = ap (λ f. f.id.0) same in
    absurd (omega (arith, less, id, e))
rises_once (x ∷ xs) (suc i) (suc j) a b r h k e = ap suc (rises_once xs i j a b (and_right _ _ r) h k e)

pub formed_history : (tree : Tree) (entries : List Entry) → IsWellFormed tree → IsHistory tree entries → list_all is_limited entries ≡ true → IsWellFormed (after_history tree entries)
formed_history tree [] w h l = w
formed_history tree (entry ∷ entries) w h l = formed_history (after_entry tree entry) entries (formed_entry tree entry w h.0 (and_left _ _ l)) h.1 (and_right _ _ l)

pub filesets_are_once : FilesetsAreOnce
filesets_are_once roster entries i j a b k h l = rises_once _ i j a b (formed_history _ entries (formed_start roster k) h l).ordered

-- a fileset that stays where it is, and one that may move
abbrev Stays : Fileset → Fileset → Type 0
Stays old new = (new.server ≡ old.server) × (new.moves ≡ old.moves)

abbrev Counts : Bool → List Fileset → FilesetId → Fileset → Type 0
Counts moves filesets id old = (new : Fileset) × (find (has_id id) filesets ≡ Some new) × (Stays old new ⊎ (moves ≡ true) × (new.moves ≡ old.moves + 1))

counts_same : (moves : Bool) (filesets : List Fileset) (id : FilesetId) (old : Fileset) → find (has_id id) filesets ≡ Some old → Counts moves filesets id old
counts_same moves filesets id old h = (old, h, inl (refl, refl))

-- filesets that follow others
counts_followed : (moves : Bool) (used : Fid → Bool) (olds news : List Fileset) (id : FilesetId) (old : Fileset) → AllFollow used olds news → find (has_id id) olds ≡ Some old → Counts moves news id old
counts_followed moves used [] [] id old a h = absurd (search (rules, h))
counts_followed moves used [] (y ∷ ys) id old a h = absurd a
counts_followed moves used (x ∷ xs) [] id old a h = absurd a
counts_followed moves used (x ∷ xs) (y ∷ ys) id old a h =
    by_id (x.id.0 == id.0) (ap (λ i. i.0 == id.0) a.0.same.id) h (λ k. counts_followed moves used xs ys id old a.1 k)
  where
    by_id : (b : Bool) → (y.id.0 == id.0) ≡ b → cond b (Some x) (find (has_id id) xs) ≡ Some old → (find (has_id id) xs ≡ Some old → Counts moves ys id old) → Counts moves (y ∷ ys) id old
    by_id true e k rest =
        let same : x ≡ old = cc in
        let P : Fileset → Type 0 = λ f. Stays f y in
        (y, ap (λ t. cond t (Some y) (find (has_id id) ys)) e, inl (subst P same (a.0.same.server, a.0.same.moves)))
    by_id false e k rest = let (new, found, so) = rest k in (new, ap (λ t. cond t (Some y) (find (has_id id) ys)) e ∙ found, so)

-- a fileset more
counts_insert : (moves : Bool) (filesets : List Fileset) (i : ℕ) (new : Fileset) (id : FilesetId) (old : Fileset) → IsFresh filesets new.id → find (has_id id) filesets ≡ Some old → Counts moves (insert filesets i new) id old
counts_insert moves filesets i new id old f h =
    let other : not (old.id.0 == new.id.0) ≡ true = find_all (has_id id) (λ fileset. not (fileset.id.0 == new.id.0)) filesets old h f in
    let its : old.id.0 ≡ id.0 = equal_is old.id.0 id.0 (found_passes (has_id id) filesets old h) in
    let apart : (new.id.0 == id.0) ≡ false = subst (λ n. (new.id.0 == n) ≡ false) its (eq_sym new.id.0 old.id.0 ∙ not_true _ other) in
    (old, find_insert (has_id id) new i filesets apart ∙ h, inl (refl, refl))

-- a call that one fileset decides
counts_at : (tree : Tree) (place : ℕ) (found : Option Fileset) (host : HostId) (user : User) (call : CallOf) (moves : Bool) (id : FilesetId) (old : Fileset) → found ≡ slice_get tree.filesets place → find (has_id id) tree.filesets ≡ Some old →
    Counts moves (answer_at tree place found (λ fileset. fileset_answer fileset (is_used tree.locks tree.opens) host user call)).tree.filesets id old
counts_at tree place None host user call moves id old e h = counts_same moves tree.filesets id old h
counts_at tree place (Some fileset) host user call moves id old e h =
    let used = is_used tree.locks tree.opens in
    let after : Fileset = (fileset_answer fileset used host user call).fileset in
    counts_followed moves used tree.filesets (slice_set tree.filesets place after) id old (set_follows used tree.filesets place fileset after e (row_follows fileset used host user call)) h

counts_row : (tree : Tree) (host : HostId) (user : User) (call : CallOf) (moves : Bool) (id : FilesetId) (old : Fileset) → find (has_id id) tree.filesets ≡ Some old → Counts moves (fileset_row tree host user call).tree.filesets id old
unfolding fileset_row
counts_row tree host user call moves id old h = placed (deciding_place tree call)
  where
    placed : (found : Result ℕ Refusal) →
        Counts moves (either found (λ place. answer_at tree place (slice_get tree.filesets place) (λ fileset. fileset_answer fileset (is_used tree.locks tree.opens) host user call)) (refuse tree)).tree.filesets id old
    placed (Ok place) = counts_at tree place (slice_get tree.filesets place) host user call moves id old refl h
    placed (Err why) = counts_same moves tree.filesets id old h

counts_new : (tree : Tree) (server : ServerId) (name : List ℕ) (objects : ℕ) (owner : User) (moves : Bool) (id : FilesetId) (old : Fileset) (checked : Result ServerRoom Refusal) → IsWellFormed tree → checked ≡ new_fileset_target tree server name objects → find (has_id id) tree.filesets ≡ Some old →
    Counts moves (either checked (λ room. let answer : Answer = record { reply = Done; tree = with_fileset tree server room (new_fileset server (next_id server room) name objects owner) } in answer) (refuse tree)).tree.filesets id old
unfolding new_fileset_target new_fileset
counts_new tree server name objects owner moves id old (Err why) w e h = counts_same moves tree.filesets id old h
counts_new tree server name objects owner moves id old (Ok room) w e h =
    let (free, k) = unless_ok (is_taken tree server name) Exists (room_for tree server (new_promise objects)) room (sym e) in
    let is_room = room_ok tree server (new_promise objects) room k in
    counts_insert moves tree.filesets _ (new_fileset server (next_id server room) name objects owner) id old (fresh_id tree.servers server room tree.filesets is_room.number is_room.there w.given) h

counts_clone : (tree : Tree) (user : User) (server : ServerId) (source new : List ℕ) (moves : Bool) (id : FilesetId) (old : Fileset) (checked : Result (Fileset × ServerRoom) Refusal) → IsWellFormed tree → checked ≡ clone_target tree user server source new → find (has_id id) tree.filesets ≡ Some old →
    Counts moves (either checked (λ (fileset, room). let answer : Answer = record { reply = Done; tree = with_fileset tree server room (cloned fileset (next_id server room) new) } in answer) (refuse tree)).tree.filesets id old
unfolding cloned
counts_clone tree user server source new moves id old (Err why) w e h = counts_same moves tree.filesets id old h
counts_clone tree user server source new moves id old (Ok found) w e h =
    counts_insert moves tree.filesets _ (cloned found.0 (next_id server found.1) new) id old (clone_fresh tree user server source new found w (sym e)) h

-- a move
moved_moves : (fileset : Fileset) (to : ServerId) → ((moved fileset to).moves ≡ fileset.moves + 1) × ((moved fileset to).id ≡ fileset.id)
unfolding moved
moved_moves fileset to = (refl, refl)

counts_move : (tree : Tree) (user : User) (server : ServerId) (name : List ℕ) (to : ServerId) (id : FilesetId) (old : Fileset) (checked : Result (ℕ × Fileset) Refusal) → IsWellFormed tree → checked ≡ move_target tree user server name to → find (has_id id) tree.filesets ≡ Some old →
    Counts true (either checked (λ (place, fileset). let answer : Answer = record { reply = Done; tree = with_moved tree place fileset to } in answer) (refuse tree)).tree.filesets id old
counts_move tree user server name to id old (Err why) w e h = counts_same true tree.filesets id old h
counts_move tree user server name to id old (Ok found) w e h = by_id (has_id id found.1) refl
  where
    by_id : (b : Bool) → has_id id found.1 ≡ b → Counts true (slice_set tree.filesets found.0 (moved found.1 to)) id old
    by_id true its =
        let there = (move_ok tree user server name to found (sym e)).1.there in
        let parts = moved_moves found.1 to in
        let was = find_at_place id tree.filesets found.0 found.1 there w.ordered its in
        let both : Some found.1 ≡ Some old = sym was ∙ h in
        let same : found.1 ≡ old = cc in
        (moved found.1 to, find_put id tree.filesets found.0 found.1 (moved found.1 to) there w.ordered parts.1 its, inr (refl, parts.0 ∙ ap (λ f. f.moves + 1) same))
    by_id false other =
        let there = (move_ok tree user server name to found (sym e)).1.there in
        (old, find_put_other id tree.filesets found.0 found.1 (moved found.1 to) there (moved_moves found.1 to).1 other ∙ h, inl (refl, refl))

-- a use more, or less
counts_either : {A : Type 0} (tree : Tree) (moves : Bool) (id : FilesetId) (old : Fileset) (checked : Result A Refusal) (effect : A → Tree) → ((found : A) → (effect found).filesets ≡ tree.filesets) → find (has_id id) tree.filesets ≡ Some old →
    Counts moves (either checked (λ found. let answer : Answer = record { reply = Done; tree = effect found } in answer) (refuse tree)).tree.filesets id old
counts_either tree moves id old (Err why) effect k h = counts_same moves tree.filesets id old h
counts_either tree moves id old (Ok found) effect k h = counts_same moves _ id old (ap (λ filesets. find (has_id id) filesets) (k found) ∙ h)

counts_cond : (b : Bool) (tree after : Tree) (why : Refusal) (moves : Bool) (id : FilesetId) (old : Fileset) → after.filesets ≡ tree.filesets → find (has_id id) tree.filesets ≡ Some old →
    Counts moves (cond {A = Answer} (not b) (refuse tree why) (record { reply = Done; tree = after })).tree.filesets id old
counts_cond true tree after why moves id old k h = counts_same moves _ id old (ap (λ filesets. find (has_id id) filesets) k ∙ h)
counts_cond false tree after why moves id old k h = counts_same moves _ id old h

-- whether a call moves a fileset
abbrev moves_by : CallOf → Bool
moves_by (MoveFileset server name to) = true
moves_by _ = false

counts_for : (tree : Tree) (host : HostId) (call : CallOf) (id : FilesetId) (old : Fileset) (user : User) → IsWellFormed tree → find (has_id id) tree.filesets ≡ Some old → Counts (moves_by call) (answer_for tree host call user).tree.filesets id old
unfolding answer_for new_fileset_answer clone_answer move_answer lock_answer unlock_answer open_answer close_answer
counts_for tree host (NewFileset server name objects owner) id old user w h = counts_new tree server name objects owner false id old (new_fileset_target tree server name objects) w refl h
counts_for tree host (CloneFileset server source new) id old user w h = counts_clone tree user server source new false id old (clone_target tree user server source new) w refl h
counts_for tree host (MoveFileset server name to) id old user w h = counts_move tree user server name to id old (move_target tree user server name to) w refl h
counts_for tree host (Lock label place writing from len) id old user w h = counts_either tree false id old (lock_check tree host user label place writing from len) _ (λ found. refl) h
counts_for tree host (Unlock label) id old user w h = counts_cond (has_lock tree.locks host label) tree _ _ false id old refl h
counts_for tree host (OpenFile label place kind) id old user w h = counts_either tree false id old (open_check tree host user label place kind) _ (λ found. refl) h
counts_for tree host (CloseFile label) id old user w h = counts_cond (has_open tree.opens host label) tree _ _ false id old refl h
counts_for tree host (Create place) id old user w h = counts_row tree host user (Create place) false id old h
counts_for tree host (MakeDir place) id old user w h = counts_row tree host user (MakeDir place) false id old h
counts_for tree host (Remove place) id old user w h = counts_row tree host user (Remove place) false id old h
counts_for tree host (Rename from to) id old user w h = counts_row tree host user (Rename from to) false id old h
counts_for tree host (Truncate place len) id old user w h = counts_row tree host user (Truncate place len) false id old h
counts_for tree host (SetAcl place which list) id old user w h = counts_row tree host user (SetAcl place which list) false id old h
counts_for tree host (Read place from len) id old user w h = counts_row tree host user (Read place from len) false id old h
counts_for tree host (Write place from bytes) id old user w h = counts_row tree host user (Write place from bytes) false id old h
counts_for tree host (ListNames place) id old user w h = counts_row tree host user (ListNames place) false id old h
counts_for tree host (Stat place) id old user w h = counts_row tree host user (Stat place) false id old h
counts_for tree host (GetAcl place which) id old user w h = counts_row tree host user (GetAcl place which) false id old h
counts_for tree host (Sync place) id old user w h = counts_row tree host user (Sync place) false id old h

counts_call : (tree : Tree) (host : HostId) (call : CallOf) (id : FilesetId) (old : Fileset) → IsWellFormed tree → find (has_id id) tree.filesets ≡ Some old → Counts (moves_by call) (answer_to tree host call).tree.filesets id old
unfolding answer_to
counts_call tree host call id old w h = for_found (user_of tree.roster host)
  where
    for_found : (found : Option User) → Counts (moves_by call) (for_user tree found (answer_for tree host call)).tree.filesets id old
    for_found None = counts_same (moves_by call) tree.filesets id old h
    for_found (Some user) = counts_for tree host call id old user w h

is_move_of : (host : HostId) (k : ℕ) (call : CallOf) (reply : _) → is_move (Call host k call reply) ≡ moves_by call
is_move_of host k (NewFileset server name objects owner) reply = refl
is_move_of host k (CloneFileset server source new) reply = refl
is_move_of host k (MoveFileset server name to) reply = refl
is_move_of host k (Lock label place writing from len) reply = refl
is_move_of host k (Unlock label) reply = refl
is_move_of host k (OpenFile label place kind) reply = refl
is_move_of host k (CloseFile label) reply = refl
is_move_of host k (Create place) reply = refl
is_move_of host k (MakeDir place) reply = refl
is_move_of host k (Remove place) reply = refl
is_move_of host k (Rename from to) reply = refl
is_move_of host k (Truncate place len) reply = refl
is_move_of host k (SetAcl place which list) reply = refl
is_move_of host k (Read place from len) reply = refl
is_move_of host k (Write place from bytes) reply = refl
is_move_of host k (ListNames place) reply = refl
is_move_of host k (Stat place) reply = refl
is_move_of host k (GetAcl place which) reply = refl
is_move_of host k (Sync place) reply = refl

counts_stored : (tree : Tree) (host : HostId) (fid : Fid) (spans : List Span) (stored : Option ℕ) (moves : Bool) (id : FilesetId) (old : Fileset) → may_store tree host fid spans stored ≡ true → find (has_id id) tree.filesets ≡ Some old →
    Counts moves (stored_tree tree host fid spans stored).filesets id old
unfolding stored_tree
counts_stored tree host fid spans stored moves id old may h =
    counts_followed moves (is_used tree.locks tree.opens) tree.filesets _ id old
    (changed_follows (is_used tree.locks tree.opens) tree.filesets (place_with_id tree.filesets fid.fileset) _ (store_follows tree host fid spans stored may)) h

counts_down : (tree : Tree) (host : HostId) (server : ServerId) (moves : Bool) (id : FilesetId) (old : Fileset) → find (has_id id) tree.filesets ≡ Some old → Counts moves (down_tree tree host server).filesets id old
unfolding down_tree
counts_down tree host server moves id old h =
    let change : Fileset → Fileset = λ fileset. if fileset.server.0 == server.0 then fileset_forgotten host fileset else fileset in
    counts_followed moves (is_used tree.locks tree.opens) tree.filesets (map change tree.filesets) id old
    (map_follows (is_used tree.locks tree.opens) change (forget_at_follows (is_used tree.locks tree.opens) host server) tree.filesets) h

counts_left : (tree : Tree) (server : ServerId) (other : FilesetId) (moves : Bool) (id : FilesetId) (old : Fileset) → find (has_id id) tree.filesets ≡ Some old → Counts moves (left_tree tree server other).filesets id old
unfolding left_tree
counts_left tree server other moves id old h = counts_same moves tree.filesets id old h

pub moves_count : MovesCount
moves_count tree (Call host k call reply) id old w legal l h =
    subst (λ b. Counts b (answer_to tree host call).tree.filesets id old) (sym (is_move_of host k call reply)) (counts_call tree host call id old w h)
moves_count tree (Stored host fid spans stored) id old w legal l h = counts_stored tree host fid spans stored false id old legal h
moves_count tree (Down host server) id old w legal l h = counts_down tree host server false id old h
moves_count tree (Left server other) id old w legal l h = counts_left tree server other false id old h

-- the name leads to the fileset before the move
placed_is : (o : Option ℕ) (place : ℕ) → found_or o NoFileset ≡ Ok place → o ≡ Some place
placed_is None place h = absurd (search (rules, h))
placed_is (Some x) place h = ap Some (ok_is x place h)

led_before : (tree : Tree) (server : ServerId) (name : List ℕ) (place : ℕ) (fileset : Fileset) → fileset_place tree server name ≡ Ok place → Some fileset ≡ slice_get tree.filesets place → find (leads_to tree server name) tree.filesets ≡ Some fileset
unfolding fileset_place
led_before tree server name place fileset h there = position_found (leads_to tree server name) tree.filesets place (placed_is (position (leads_to tree server name) tree.filesets) place h) ∙ sym there

-- what is put at a place is found, where nothing else passes
find_set : {X : Type 0} (p : X → Bool) (xs : List X) (i : ℕ) (old new : X) → Some old ≡ slice_get xs i → list_any p xs ≡ false → p new ≡ true → find p (slice_set xs i new) ≡ Some new
find_set p [] i old new there h k = absurd (search (rules, there))
find_set p (x ∷ xs) zero old new there h k = ap (λ t. cond t (Some new) (find p xs)) k
find_set p (x ∷ xs) (suc i) old new there h k =
    ap (λ t. cond t (Some x) (find p (slice_set xs i new))) (first (p x) h) ∙ find_set p xs i old new there (rest (p x) h) k
  where
    first : (b : Bool) → (b || list_any p xs) ≡ false → b ≡ false
    first true m = absurd (search (rules, m))
    first false m = refl

    rest : (b : Bool) → (b || list_any p xs) ≡ false → list_any p xs ≡ false
    rest true m = absurd (search (rules, m))
    rest false m = m

any_set : {X : Type 0} (p : X → Bool) (xs : List X) (i : ℕ) (old new : X) → Some old ≡ slice_get xs i → p new ≡ true → list_any p (slice_set xs i new) ≡ true
any_set p [] i old new there k = absurd (search (rules, there))
any_set p (x ∷ xs) zero old new there k = ap (λ t. t || list_any p xs) k
any_set p (x ∷ xs) (suc i) old new there k = last (p x) (any_set p xs i old new there k)
  where
    last : (b : Bool) → list_any p (slice_set xs i new) ≡ true → (b || list_any p (slice_set xs i new)) ≡ true
    last true m = refl
    last false m = m

find_inserted : {X : Type 0} (p : X → Bool) (x : X) (i : ℕ) (xs : List X) → p x ≡ true → list_any p xs ≡ false → find p (insert xs i x) ≡ Some x
find_inserted p x zero xs h k = ap (λ t. cond t (Some x) (find p xs)) h
find_inserted p x (suc i) [] h k = ap (λ t. cond t (Some x) None) h
find_inserted p x (suc i) (y ∷ ys) h k = ap (λ t. cond t (Some y) (find p (insert ys i x))) (first (p y) k) ∙ find_inserted p x i ys h (rest (p y) k)
  where
    first : (b : Bool) → (b || list_any p ys) ≡ false → b ≡ false
    first true m = absurd (search (rules, m))
    first false m = refl

    rest : (b : Bool) → (b || list_any p ys) ≡ false → list_any p ys ≡ false
    rest true m = absurd (search (rules, m))
    rest false m = m

-- the records that stay have their names
kept_find : (records : List Away) (server to : ServerId) (id : FilesetId) (name : List ℕ) → (server.0 == to.0) ≡ false → find (is_away_named server name) (without_away records to id) ≡ find (is_away_named server name) records
kept_find records server to id name off = find-filter_kept (is_away_named server name) (λ away. not (is_away to id away)) records (λ away h. keeps away h)
  where
    keeps : (away : Away) → is_away_named server name away ≡ true → not (is_away to id away) ≡ true
    keeps away h =
        let at : away.server.0 ≡ server.0 = equal_is away.server.0 server.0 (and_left _ _ h) in
        let other : (away.server.0 == to.0) ≡ false = subst (λ n. (n == to.0) ≡ false) (sym at) off in
        ap (λ t. not (t && (away.fileset.0 == id.0))) other

-- after a move
abbrev LedAfter : Tree → ℕ → Fileset → ServerId → ServerId → List ℕ → Type 0
LedAfter tree place fileset to server name = find (leads_to (with_moved tree place fileset to) server name) (slice_set tree.filesets place (moved fileset to)) ≡ Some (moved fileset to)

-- by the record of the server that it left
led_by_record : (tree : Tree) (place : ℕ) (fileset : Fileset) (to server : ServerId) (name : List ℕ) (id : FilesetId) → IsWellFormed tree → IsMove tree place fileset to →
    is_here (slice_set tree.filesets place (moved fileset to)) server name ≡ false → away_id (with_moved tree place fileset to).away server name ≡ Some id → has_id id fileset ≡ true → LedAfter tree place fileset to server name
led_by_record tree place fileset to server name id w m none record_is its =
    ap (λ t. find (cond t (is_named server name) (has_this_id (away_id (with_moved tree place fileset to).away server name))) (slice_set tree.filesets place (moved fileset to))) none
    ∙ ap (λ o. find (has_this_id o) (slice_set tree.filesets place (moved fileset to))) record_is
    ∙ find_put id tree.filesets place fileset (moved fileset to) m.there w.ordered (moved_parts fileset to).0 its

led_home : (tree : Tree) (place : ℕ) (fileset : Fileset) (to : ServerId) → IsWellFormed tree → IsMove tree place fileset to → LedAfter tree place fileset to fileset.server fileset.name
led_home tree place fileset to w m =
    let parts = moved_parts fileset to in
    let off : (to.0 == fileset.server.0) ≡ false = eq_sym to.0 fileset.server.0 ∙ m.goes in
    let not_new : is_named fileset.server fileset.name (moved fileset to) ≡ false
    = ap (λ s. (s.0 == fileset.server.0) && same_name (moved fileset to).name fileset.name) parts.1 ∙ ap (λ t. t && same_name (moved fileset to).name fileset.name) off in
    let none = alone_put tree.filesets place fileset (moved fileset to) m.there w.named not_new in
    let here : (fileset.server.0 == fileset.server.0) ≡ true = grind (arith, common_steps) in
    let named : is_away_named fileset.server fileset.name (left_by fileset to) ≡ true = and_both _ _ here (same_self fileset.name) in
    let record_is : away_id (with_moved tree place fileset to).away fileset.server fileset.name ≡ Some fileset.id
    = ap (λ o. option_map (λ away. away.fileset) o) (kept_find (with_away tree.away (left_by fileset to)) fileset.server to fileset.id fileset.name m.goes
    ∙ find_inserted (is_away_named fileset.server fileset.name) (left_by fileset to) (away_place tree.away fileset.server fileset.id) tree.away named (no_own_name tree place fileset w m.there)) in
    let its : has_id fileset.id fileset ≡ true = grind (arith, common_steps) in
    led_by_record tree place fileset to fileset.server fileset.name fileset.id w m none record_is its

-- a name that a record had
led_recorded : (tree : Tree) (place : ℕ) (fileset : Fileset) (to server : ServerId) (name : List ℕ) (away : Away) → IsWellFormed tree → IsMove tree place fileset to → is_here tree.filesets server name ≡ false →
    find (is_away_named server name) tree.away ≡ Some away → has_id away.fileset fileset ≡ true → LedAfter tree place fileset to server name
led_recorded tree place fileset to server name away w m none found its = by_server (server.0 == to.0) refl
  where
    parts : ((moved fileset to).id ≡ fileset.id) × ((moved fileset to).server ≡ to) × ((moved fileset to).name ≡ fileset.name)
    parts = moved_parts fileset to

    -- the record's name is the fileset's
    named : same_name fileset.name name ≡ true
    named =
        let elsewhere = find_all (is_away_named server name) (is_elsewhere tree.filesets) tree.away away found w.away.elsewhere in
        let at = find_at_place away.fileset tree.filesets place fileset m.there w.ordered its in
        let test : Fileset → Bool = λ f. not (f.server.0 == away.server.0) && same_name f.name away.name in
        let so : test fileset ≡ true = sym (ap (λ o. option_map_or test o false) at) ∙ elsewhere in
        let passes = found_passes (is_away_named server name) tree.away away found in
        let one : fileset.name ≡ away.name = names_equal fileset.name away.name (and_right (not (fileset.server.0 == away.server.0)) (same_name fileset.name away.name) so) in
        let two : away.name ≡ name = names_equal away.name name (and_right (away.server.0 == server.0) (same_name away.name name) passes) in
        subst (λ n. same_name n name ≡ true) (sym (one ∙ two)) (same_self name)

    by_server : (b : Bool) → (server.0 == to.0) ≡ b → LedAfter tree place fileset to server name
    by_server true e =
        let here : is_named server name (moved fileset to) ≡ true = and_both _ _ (ap (λ s. s.0 == server.0) parts.1 ∙ eq_sym to.0 server.0 ∙ e) (ap (λ n. same_name n name) parts.2 ∙ named) in
        let there : is_here (slice_set tree.filesets place (moved fileset to)) server name ≡ true = any_set (is_named server name) tree.filesets place fileset (moved fileset to) m.there here in
        ap (λ t. find (cond t (is_named server name) (has_this_id (away_id (with_moved tree place fileset to).away server name))) (slice_set tree.filesets place (moved fileset to))) there
        ∙ find_set (is_named server name) tree.filesets place fileset (moved fileset to) m.there none here
    by_server false e =
        let not_new : is_named server name (moved fileset to) ≡ false
        = ap (λ s. (s.0 == server.0) && same_name (moved fileset to).name name) parts.1 ∙ ap (λ t. t && same_name (moved fileset to).name name) (eq_sym to.0 server.0 ∙ e) in
        let none_after = any_put (is_named server name) tree.filesets place (moved fileset to) not_new none in
        let not_left : is_away_named server name (left_by fileset to) ≡ false = get_none (is_named server name) tree.filesets place fileset m.there none in
        let record_is : away_id (with_moved tree place fileset to).away server name ≡ Some away.fileset
        = ap (λ o. option_map (λ away. away.fileset) o) (kept_find (with_away tree.away (left_by fileset to)) server to fileset.id name e
        ∙ find_insert (is_away_named server name) (left_by fileset to) (away_place tree.away fileset.server fileset.id) tree.away not_left ∙ found) in
        led_by_record tree place fileset to server name away.fileset w m none_after record_is its

led_after : (tree : Tree) (place : ℕ) (fileset : Fileset) (to server : ServerId) (name : List ℕ) → IsWellFormed tree → IsMove tree place fileset to → find (leads_to tree server name) tree.filesets ≡ Some fileset → LedAfter tree place fileset to server name
led_after tree place fileset to server name w m found = by_name (is_here tree.filesets server name) refl (found_passes (leads_to tree server name) tree.filesets fileset found)
  where
    by_record : (o : Option Away) → find (is_away_named server name) tree.away ≡ o → is_here tree.filesets server name ≡ false → has_this_id (option_map (λ away. away.fileset) o) fileset ≡ true → LedAfter tree place fileset to server name
    by_record None e none h = absurd (search (rules, h))
    by_record (Some away) e none h = led_recorded tree place fileset to server name away w m none e h

    by_name : (b : Bool) → is_here tree.filesets server name ≡ b → cond b (is_named server name) (has_this_id (away_id tree.away server name)) fileset ≡ true → LedAfter tree place fileset to server name
    by_name true e h =
        let at : fileset.server ≡ server = same_server fileset.server server (and_left _ _ h) in
        let named : fileset.name ≡ name = names_equal fileset.name name (and_right _ _ h) in
        subst (λ s. LedAfter tree place fileset to s name) at (subst (λ n. LedAfter tree place fileset to fileset.server n) named (led_home tree place fileset to w m))
    by_name false e h = by_record (find (is_away_named server name) tree.away) refl e h

abbrev LedBy : Tree → ServerId → List ℕ → ServerId → Answer → Type 0
LedBy tree server name to answer = (old : Fileset) × (fileset_named tree server name ≡ Ok old) × (fileset_named answer.tree server name ≡ Ok (moved old to))

led_by : (tree : Tree) (user : User) (server : ServerId) (name : List ℕ) (to : ServerId) (checked : Result (ℕ × Fileset) Refusal) → IsWellFormed tree → checked ≡ move_target tree user server name to →
    (either checked (λ (place, fileset). let answer : Answer = record { reply = Done; tree = with_moved tree place fileset to } in answer) (refuse tree)).reply ≡ Done →
    LedBy tree server name to (either checked (λ (place, fileset). let answer : Answer = record { reply = Done; tree = with_moved tree place fileset to } in answer) (refuse tree))
unfolding fileset_named
led_by tree user server name to (Err why) w e h = absurd (search (rules, h))
led_by tree user server name to (Ok found) w e h =
    let (placed, m) = move_ok tree user server name to found (sym e) in
    let before = led_before tree server name found.0 found.1 placed m.there in
    (found.1, ap (λ o. found_or o NoFileset) before, ap (λ o. found_or o NoFileset) (led_after tree found.0 found.1 to server name w m before))

led_for : (tree : Tree) (found : Option User) (host : HostId) (server : ServerId) (name : List ℕ) (to : ServerId) → IsWellFormed tree → (for_user tree found (answer_for tree host (MoveFileset server name to))).reply ≡ Done →
    LedBy tree server name to (for_user tree found (answer_for tree host (MoveFileset server name to)))
unfolding answer_for move_answer
led_for tree None host server name to w h = absurd (search (rules, h))
led_for tree (Some user) host server name to w h = led_by tree user server name to (move_target tree user server name to) w refl h

led : (tree : Tree) (host : HostId) (server : ServerId) (name : List ℕ) (to : ServerId) → IsWellFormed tree → (answer_to tree host (MoveFileset server name to)).reply ≡ Done → LedBy tree server name to (answer_to tree host (MoveFileset server name to))
unfolding answer_to
led tree host server name to w h = led_for tree (user_of tree.roster host) host server name to w h

-- every other fileset
others_by : (tree : Tree) (user : User) (server : ServerId) (name : List ℕ) (to : ServerId) (old : Fileset) (id : FilesetId) (checked : Result (ℕ × Fileset) Refusal) → IsWellFormed tree → checked ≡ move_target tree user server name to →
    fileset_named tree server name ≡ Ok old → (old.id.0 == id.0) ≡ false →
    find (has_id id) (either checked (λ (place, fileset). let answer : Answer = record { reply = Done; tree = with_moved tree place fileset to } in answer) (refuse tree)).tree.filesets ≡ find (has_id id) tree.filesets
unfolding fileset_named
others_by tree user server name to old id (Err why) w e f k = refl
others_by tree user server name to old id (Ok found) w e f k =
    let (placed, m) = move_ok tree user server name to found (sym e) in
    let before = led_before tree server name found.0 found.1 placed m.there in
    let same : found.1 ≡ old = ok_is found.1 old (sym (ap (λ o. found_or o NoFileset) before) ∙ f) in
    let other : has_id id found.1 ≡ false = ap (λ x. x.id.0 == id.0) same ∙ k in
    find_put_other id tree.filesets found.0 found.1 (moved found.1 to) m.there (moved_moves found.1 to).1 other

others_for : (tree : Tree) (found : Option User) (host : HostId) (server : ServerId) (name : List ℕ) (to : ServerId) (old : Fileset) (id : FilesetId) → IsWellFormed tree → fileset_named tree server name ≡ Ok old → (old.id.0 == id.0) ≡ false →
    find (has_id id) (for_user tree found (answer_for tree host (MoveFileset server name to))).tree.filesets ≡ find (has_id id) tree.filesets
unfolding answer_for move_answer
others_for tree None host server name to old id w f k = refl
others_for tree (Some user) host server name to old id w f k = others_by tree user server name to old id (move_target tree user server name to) w refl f k

others : (tree : Tree) (host : HostId) (server : ServerId) (name : List ℕ) (to : ServerId) (old : Fileset) (id : FilesetId) → IsWellFormed tree → fileset_named tree server name ≡ Ok old → (old.id.0 == id.0) ≡ false →
    find (has_id id) (answer_to tree host (MoveFileset server name to)).tree.filesets ≡ find (has_id id) tree.filesets
unfolding answer_to
others tree host server name to old id w f k = others_for tree (user_of tree.roster host) host server name to old id w f k

pub moves_are_whole : MovesAreWhole
moves_are_whole = record { led = led; others = others }
