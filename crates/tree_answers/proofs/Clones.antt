-- Clones stay as they are.
use Rattle.std.proofs.Common.{◌≡◌, ℕ, zero, suc, ◌-◌, ◌==◌, Bool, true, false, not, cond, List, [], ◌∷◌, insert, Option, Some, None, Result, Ok, Err, refl, sym, ap, ◌∙◌, subst, arith, inl, inr, rules}
use Rattle.std.specs.Prelude.{slice_get, slice_set, if◌then◌else◌}
use Rattle.std.specs.List.{find, list_all}
use Rattle.std.specs.Option.{option_map, option_map_or, option_and_then}
use Rattle.std.proofs.lemmas.Grind.{common_steps}
use Rattle.std.proofs.lemmas.Bool.Decides.{eqb_tells}
use Rattle.base_types.specs.Lists.{changed_at}
use Rattle.base_types.specs.Outcomes.{either}
use Rattle.base_types.specs.declared.ids.HostId.{HostId}
use Rattle.base_types.specs.declared.ids.ServerId.{ServerId}
use Rattle.base_types.specs.declared.ids.FilesetId.{FilesetId}
use Rattle.base_types.specs.declared.ids.Fid.{Fid}
use Rattle.base_types.specs.declared.span.Span.{Span}
use Rattle.base_types.specs.declared.user.User.{User}
use Rattle.tree_calls.specs.declared.call.Call.{Call as CallOf}
use Rattle.tree_calls.specs.declared.call.Call.TheVariants.{NewFileset, Create, MakeDir, Remove, Rename, Truncate, SetAcl, CloneFileset, Read, Write, List as ListNames, Stat, GetAcl, Sync, Lock, Unlock, OpenFile, CloseFile, MoveFileset}
use Rattle.tree_calls.specs.declared.entry.Entry.{Entry}
use Rattle.tree_calls.specs.declared.entry.Entry.TheVariants.{Call, Stored, Down, Left}
use Rattle.tree_calls.specs.declared.reply.Refusal.{Refusal}
use Rattle.tree_calls.specs.declared.reply.Reply.TheVariants.{Ok as Done}
use Rattle.tree_objects.specs.declared.content.Content.{Content}
use Rattle.tree_objects.specs.Stores.{content_stored, is_storable}
use Rattle.tree_objects.proofs.Observed.{and_left, and_right}
use Rattle.tree_filesets.specs.declared.fileset.Fileset.{Fileset}
use Rattle.tree_filesets.specs.Founding.{cloned, moved}
use Rattle.tree_filesets.specs.Rows.{fileset_answer}
use Rattle.tree_filesets.specs.Updates.{changed}
use Rattle.tree_filesets.specs.Walk.{object_at, unique_at}
use Rattle.tree_filesets.proofs.Clones.{clone_shows_source}
use Rattle.tree_answers.specs.declared.tree.Tree.{Tree}
use Rattle.tree_calls.specs.declared.reply.Refusal.TheVariants.{Exists}
use Rattle.tree_filesets.specs.Founding.{new_fileset}
use Rattle.tree_filesets.specs.Promises.{new_promise}
use Rattle.tree_filesets.proofs.Observations.{object_from, object_not_zero}
use Rattle.tree_filesets.proofs.Stays.{stays_itself}
use Rattle.tree_filesets.proofs.Targets.{unless_ok}
use Rattle.tree_filesets.proofs.Updates.{found_changed}
use Rattle.tree_answers.specs.declared.tree.ServerRoom.{ServerRoom}
use Rattle.tree_calls.specs.Rosters.{user_of}
use Rattle.tree_answers.specs.Finding.{Answer, refuse, has_id, fileset_named, is_taken, id_place}
use Rattle.tree_answers.specs.Founding.{room_for, next_id, with_fileset, new_fileset_target, new_fileset_answer, clone_target, clone_answer}
use Rattle.tree_answers.specs.Moving.{with_moved, move_target, move_answer, left_tree}
use Rattle.tree_answers.specs.Uses.{is_used}
use Rattle.tree_answers.specs.Locks.{lock_answer, lock_check, unlock_answer, has_lock}
use Rattle.tree_answers.specs.Opens.{open_answer, open_check, close_answer, has_open}
use Rattle.tree_answers.specs.Answers.{for_user, answer_at, deciding_place, fileset_row, answer_for, answer_to}
use Rattle.tree_answers.specs.Stores.{content_in, may_store, place_with_id, stored_tree}
use Rattle.tree_answers.specs.Losses.{fileset_forgotten, down_tree}
use Rattle.tree_answers.specs.Histories.{IsLegal, after_entry, IsHistory, after_history}
use Rattle.tree_answers.specs.WellFormed.{IsWellFormed, is_limited}
use Rattle.tree_answers.proofs.Refusals.{set_same}
use Rattle.tree_answers.proofs.Inserted.{IsFresh, find_insert, fresh_id, position_or_end}
use Rattle.tree_answers.proofs.Places.{find_all, find_at_place, find_put_other, find_map, place_found, same_after}
use Rattle.tree_answers.proofs.Kept.{room_ok, cloned_so, move_ok, tested_object, formed_entry}
use Rattle.tree_filesets.specs.WellFormed.{is_at_rest}
use Rattle.tree_filesets.proofs.Moved.{cloned_rests}
use Rattle.tree_answers.specs.Laws.{ClonesStay}
use Rattle.tree_answers.proofs.Resting.{settled_stored, rest_forgotten, row_rests, rest_stored, settled_there, same_id}

-- a call that one fileset decides
abbrev Holds : List Fileset → Fileset → Type 0
Holds filesets clone = find (has_id clone.id) filesets ≡ Some clone

rests_at : (tree : Tree) (place : ℕ) (found : Option Fileset) (host : HostId) (user : User) (call : CallOf) (clone : Fileset) → found ≡ slice_get tree.filesets place → IsWellFormed tree → Holds tree.filesets clone → clone.read_only ≡ true → is_at_rest clone ≡ true →
    Holds (answer_at tree place found (λ fileset. fileset_answer fileset (is_used tree.locks tree.opens) host user call)).tree.filesets clone
rests_at tree place None host user call clone e w h r q = h
rests_at tree place (Some old) host user call clone e w h r q =
    let used = is_used tree.locks tree.opens in
    let new : Fileset = (fileset_answer old used host user call).fileset in
    elim (has_id clone.id old) as (λ t. has_id clone.id old ≡ t → Holds (slice_set tree.filesets place new) clone) [
      | true ↦ λ its.
          let found = find_at_place clone.id tree.filesets place old e w.ordered its in
          let same : old ≡ clone = cc in
          let read_only : old.read_only ≡ true = ap (λ f. f.read_only) same ∙ r in
          let rests : is_at_rest old ≡ true = ap is_at_rest same ∙ q in
          ap (λ f. find (has_id clone.id) (slice_set tree.filesets place f)) (row_rests old used host user call read_only rests)
          ∙ ap (λ filesets. find (has_id clone.id) filesets) (set_same tree.filesets place old e) ∙ h
      | false ↦ λ other. find_put_other clone.id tree.filesets place old new e (stays_itself old used host user call).id other ∙ h
    ] refl

rests_place : (tree : Tree) (found : Result ℕ Refusal) (host : HostId) (user : User) (call : CallOf) (clone : Fileset) → IsWellFormed tree → Holds tree.filesets clone → clone.read_only ≡ true → is_at_rest clone ≡ true →
    Holds (either found (λ place. answer_at tree place (slice_get tree.filesets place) (λ fileset. fileset_answer fileset (is_used tree.locks tree.opens) host user call)) (refuse tree)).tree.filesets clone
rests_place tree (Err why) host user call clone w h r q = h
rests_place tree (Ok place) host user call clone w h r q = rests_at tree place (slice_get tree.filesets place) host user call clone refl w h r q

rests_row : (tree : Tree) (host : HostId) (user : User) (call : CallOf) (clone : Fileset) → IsWellFormed tree → Holds tree.filesets clone → clone.read_only ≡ true → is_at_rest clone ≡ true → Holds (fileset_row tree host user call).tree.filesets clone
unfolding fileset_row
rests_row tree host user call clone w h r q = rests_place tree (deciding_place tree call) host user call clone w h r q

-- a fileset more
other_number : (a b : ℕ) → not (a == b) ≡ true → (b == a) ≡ false
other_number a b h = elim (eqb_tells b a) as (λ _. (b == a) ≡ false)
    [ inl (e, k) ↦ let f : (a == b) ≡ true = grind (arith, common_steps, k) in let wrong : not true ≡ true = subst (λ t. not t ≡ true) f h in absurd (search (rules, wrong)) | inr (e, k) ↦ e ]

rests_insert : (filesets : List Fileset) (i : ℕ) (new clone : Fileset) → IsFresh filesets new.id → Holds filesets clone → Holds (insert filesets i new) clone
rests_insert filesets i new clone f h =
    let other : not (clone.id.0 == new.id.0) ≡ true = find_all (has_id clone.id) (λ fileset. not (fileset.id.0 == new.id.0)) filesets clone h f in
    find_insert (has_id clone.id) new i filesets (other_number clone.id.0 new.id.0 other) ∙ h

rests_new : (tree : Tree) (server : ServerId) (name : List ℕ) (objects : ℕ) (owner : User) (clone : Fileset) (checked : Result ServerRoom Refusal) → IsWellFormed tree → checked ≡ new_fileset_target tree server name objects → Holds tree.filesets clone →
    Holds (either checked (λ room. let answer : Answer = record { reply = Done; tree = with_fileset tree server room (new_fileset server (next_id server room) name objects owner) } in answer) (refuse tree)).tree.filesets clone
unfolding new_fileset_target new_fileset
rests_new tree server name objects owner clone (Err why) w e h = h
rests_new tree server name objects owner clone (Ok room) w e h =
    let (free, k) = unless_ok (is_taken tree server name) Exists (room_for tree server (new_promise objects)) room (sym e) in
    let is_room = room_ok tree server (new_promise objects) room k in
    rests_insert tree.filesets _ (new_fileset server (next_id server room) name objects owner) clone (fresh_id tree.servers server room tree.filesets is_room.number is_room.there w.given) h

-- the number of a clone is given to no other fileset
pub clone_fresh : (tree : Tree) (user : User) (server : ServerId) (source new : List ℕ) (found : Fileset × ServerRoom) → IsWellFormed tree → clone_target tree user server source new ≡ Ok found → IsFresh tree.filesets (next_id server found.1)
clone_fresh tree user server source new found w e =
    let room = (cloned_so tree user server source new found e).room in fresh_id tree.servers server found.1 tree.filesets room.number room.there w.given

rests_clone : (tree : Tree) (user : User) (server : ServerId) (source new : List ℕ) (clone : Fileset) (checked : Result (Fileset × ServerRoom) Refusal) → IsWellFormed tree → checked ≡ clone_target tree user server source new → Holds tree.filesets clone →
    Holds (either checked (λ (fileset, room). let answer : Answer = record { reply = Done; tree = with_fileset tree server room (cloned fileset (next_id server room) new) } in answer) (refuse tree)).tree.filesets clone
unfolding cloned
rests_clone tree user server source new clone (Err why) w e h = h
rests_clone tree user server source new clone (Ok found) w e h =
    rests_insert tree.filesets _ (cloned found.0 (next_id server found.1) new) clone (clone_fresh tree user server source new found w (sym e)) h

-- a fileset that moved
moved_id : (fileset : Fileset) (to : ServerId) → (moved fileset to).id ≡ fileset.id
unfolding moved
moved_id fileset to = refl

rests_move : (tree : Tree) (user : User) (server : ServerId) (name : List ℕ) (to : ServerId) (clone : Fileset) (checked : Result (ℕ × Fileset) Refusal) → IsWellFormed tree → checked ≡ move_target tree user server name to → Holds tree.filesets clone → clone.read_only ≡ true →
    Holds (either checked (λ (place, fileset). let answer : Answer = record { reply = Done; tree = with_moved tree place fileset to } in answer) (refuse tree)).tree.filesets clone
rests_move tree user server name to clone (Err why) w e h r = h
rests_move tree user server name to clone (Ok found) w e h r = by_id (has_id clone.id found.1) refl
  where
    by_id : (b : Bool) → has_id clone.id found.1 ≡ b → Holds (slice_set tree.filesets found.0 (moved found.1 to)) clone
    by_id true its =
        let moves = (move_ok tree user server name to found (sym e)).1 in
        let there = find_at_place clone.id tree.filesets found.0 found.1 moves.there w.ordered its in
        let same : found.1 ≡ clone = cc in
        let wrong : true ≡ false = sym r ∙ sym (ap (λ f. f.read_only) same) ∙ moves.writable in absurd (search (rules, wrong))
    by_id false other =
        find_put_other clone.id tree.filesets found.0 found.1 (moved found.1 to) (move_ok tree user server name to found (sym e)).1.there (moved_id found.1 to) other ∙ h

-- a use more, or less
rests_either : {A : Type 0} (tree : Tree) (clone : Fileset) (checked : Result A Refusal) (effect : A → Tree) → ((found : A) → (effect found).filesets ≡ tree.filesets) → Holds tree.filesets clone →
    Holds (either checked (λ found. let answer : Answer = record { reply = Done; tree = effect found } in answer) (refuse tree)).tree.filesets clone
rests_either tree clone (Err why) effect k h = h
rests_either tree clone (Ok found) effect k h = ap (λ filesets. find (has_id clone.id) filesets) (k found) ∙ h

rests_cond : (b : Bool) (tree after : Tree) (why : Refusal) (clone : Fileset) → after.filesets ≡ tree.filesets → Holds tree.filesets clone → Holds (cond {A = Answer} (not b) (refuse tree why) (record { reply = Done; tree = after })).tree.filesets clone
rests_cond true tree after why clone k h = ap (λ filesets. find (has_id clone.id) filesets) k ∙ h
rests_cond false tree after why clone k h = h

rests_for : (tree : Tree) (host : HostId) (call : CallOf) (clone : Fileset) (user : User) → IsWellFormed tree → Holds tree.filesets clone → clone.read_only ≡ true → is_at_rest clone ≡ true → Holds (answer_for tree host call user).tree.filesets clone
unfolding answer_for new_fileset_answer clone_answer move_answer lock_answer unlock_answer open_answer close_answer
rests_for tree host (NewFileset server name objects owner) clone user w h r q = rests_new tree server name objects owner clone (new_fileset_target tree server name objects) w refl h
rests_for tree host (CloneFileset server source new) clone user w h r q = rests_clone tree user server source new clone (clone_target tree user server source new) w refl h
rests_for tree host (MoveFileset server name to) clone user w h r q = rests_move tree user server name to clone (move_target tree user server name to) w refl h r
rests_for tree host (Lock label place writing from len) clone user w h r q = rests_either tree clone (lock_check tree host user label place writing from len) _ (λ found. refl) h
rests_for tree host (Unlock label) clone user w h r q = rests_cond (has_lock tree.locks host label) tree _ _ clone refl h
rests_for tree host (OpenFile label place kind) clone user w h r q = rests_either tree clone (open_check tree host user label place kind) _ (λ found. refl) h
rests_for tree host (CloseFile label) clone user w h r q = rests_cond (has_open tree.opens host label) tree _ _ clone refl h
rests_for tree host (Create place) clone user w h r q = rests_row tree host user (Create place) clone w h r q
rests_for tree host (MakeDir place) clone user w h r q = rests_row tree host user (MakeDir place) clone w h r q
rests_for tree host (Remove place) clone user w h r q = rests_row tree host user (Remove place) clone w h r q
rests_for tree host (Rename from to) clone user w h r q = rests_row tree host user (Rename from to) clone w h r q
rests_for tree host (Truncate place len) clone user w h r q = rests_row tree host user (Truncate place len) clone w h r q
rests_for tree host (SetAcl place which list) clone user w h r q = rests_row tree host user (SetAcl place which list) clone w h r q
rests_for tree host (Read place from len) clone user w h r q = rests_row tree host user (Read place from len) clone w h r q
rests_for tree host (Write place from bytes) clone user w h r q = rests_row tree host user (Write place from bytes) clone w h r q
rests_for tree host (ListNames place) clone user w h r q = rests_row tree host user (ListNames place) clone w h r q
rests_for tree host (Stat place) clone user w h r q = rests_row tree host user (Stat place) clone w h r q
rests_for tree host (GetAcl place which) clone user w h r q = rests_row tree host user (GetAcl place which) clone w h r q
rests_for tree host (Sync place) clone user w h r q = rests_row tree host user (Sync place) clone w h r q

rests_user : (tree : Tree) (found : Option User) (host : HostId) (call : CallOf) (clone : Fileset) → IsWellFormed tree → Holds tree.filesets clone → clone.read_only ≡ true → is_at_rest clone ≡ true → Holds (for_user tree found (answer_for tree host call)).tree.filesets clone
rests_user tree None host call clone w h r q = h
rests_user tree (Some user) host call clone w h r q = rests_for tree host call clone user w h r q

rests_call : (tree : Tree) (host : HostId) (call : CallOf) (clone : Fileset) → IsWellFormed tree → Holds tree.filesets clone → clone.read_only ≡ true → is_at_rest clone ≡ true → Holds (answer_to tree host call).tree.filesets clone
unfolding answer_to
rests_call tree host call clone w h r q = rests_user tree (user_of tree.roster host) host call clone w h r q

-- a host stores
rests_store_at : (tree : Tree) (place : ℕ) (found : Option Fileset) (host : HostId) (fid : Fid) (spans : List Span) (len : Option ℕ) (clone : Fileset) → found ≡ slice_get tree.filesets place → IsWellFormed tree →
    option_map_or (is_storable host spans len) (option_and_then (λ fileset. content_in fileset fid) found) false ≡ true → Holds tree.filesets clone → is_at_rest clone ≡ true →
    Holds (changed_at tree.filesets place (λ fileset. changed fileset fid.anode (content_stored host spans len))) clone
rests_store_at tree place None host fid spans len clone e w may h q = absurd (search (rules, may))
rests_store_at tree place (Some old) host fid spans len clone e w may h q =
    let change : Content → Content = content_stored host spans len in
    let new : Fileset = changed old fid.anode change in
    let put : changed_at tree.filesets place (λ fileset. changed fileset fid.anode change) ≡ slice_set tree.filesets place new = sym (found_changed tree.filesets place old new (λ fileset. changed fileset fid.anode change) e refl) in
    let (object, there, storable) = tested_object (unique_at old.anodes fid.anode == fid.unique) (object_at old.anodes fid.anode) (is_storable host spans len) may in
    ap (λ filesets. find (has_id clone.id) filesets) put
    ∙ elim (has_id clone.id old) as (λ t. has_id clone.id old ≡ t → Holds (slice_set tree.filesets place new) clone) [
      | true ↦ λ its.
          let found = find_at_place clone.id tree.filesets place old e w.ordered its in
          let same : old ≡ clone = cc in
          let rests : is_at_rest old ≡ true = ap is_at_rest same ∙ q in
          let settled = settled_there old.anodes (fid.anode - 1) object rests (sym (object_from old.anodes fid.anode (object_not_zero old.anodes fid.anode object there)) ∙ there) in
          ap (λ f. find (has_id clone.id) (slice_set tree.filesets place f)) (rest_stored old fid.anode change object there (settled_stored host spans len object.content settled storable))
          ∙ ap (λ filesets. find (has_id clone.id) filesets) (set_same tree.filesets place old e) ∙ h
      | false ↦ λ other. find_put_other clone.id tree.filesets place old new e (same_id old fid.anode change) other ∙ h
    ] refl

rests_store : (tree : Tree) (host : HostId) (fid : Fid) (spans : List Span) (len : Option ℕ) (clone : Fileset) → IsWellFormed tree → may_store tree host fid spans len ≡ true → Holds tree.filesets clone → is_at_rest clone ≡ true → Holds (stored_tree tree host fid spans len).filesets clone
unfolding stored_tree
rests_store tree host fid spans len clone w may h q =
    rests_store_at tree (place_with_id tree.filesets fid.fileset) (find (has_id fid.fileset) tree.filesets) host fid spans len clone
    (place_found (has_id fid.fileset) tree.filesets ∙ ap (λ i. slice_get tree.filesets i) (sym (position_or_end (has_id fid.fileset) tree.filesets))) w may h q

-- a host is down
rests_down : (tree : Tree) (host : HostId) (server : ServerId) (clone : Fileset) → Holds tree.filesets clone → is_at_rest clone ≡ true → Holds (down_tree tree host server).filesets clone
unfolding down_tree
rests_down tree host server clone h q =
    find_map clone.id (λ fileset. if fileset.server.0 == server.0 then fileset_forgotten host fileset else fileset) (same_after host server) tree.filesets
    ∙ ap (λ o. option_map (λ fileset. if fileset.server.0 == server.0 then fileset_forgotten host fileset else fileset) o) h
    ∙ ap Some (elim (clone.server.0 == server.0) as (λ t. (if t then fileset_forgotten host clone else clone) ≡ clone) [ true ↦ rest_forgotten host clone q | false ↦ refl ])

rests_left : (tree : Tree) (server : ServerId) (id : FilesetId) (clone : Fileset) → Holds tree.filesets clone → Holds (left_tree tree server id).filesets clone
unfolding left_tree
rests_left tree server id clone h = h

rests_entry : (tree : Tree) (entry : Entry) (clone : Fileset) → IsWellFormed tree → IsLegal tree entry → Holds tree.filesets clone → clone.read_only ≡ true → is_at_rest clone ≡ true → Holds (after_entry tree entry).filesets clone
rests_entry tree (Call host k call reply) clone w legal h r q = rests_call tree host call clone w h r q
rests_entry tree (Stored host fid spans len) clone w legal h r q = rests_store tree host fid spans len clone w legal h q
rests_entry tree (Down host server) clone w legal h r q = rests_down tree host server clone h q
rests_entry tree (Left server id) clone w legal h r q = rests_left tree server id clone h

stays : (tree : Tree) (entries : List Entry) (clone : Fileset) → IsWellFormed tree → IsHistory tree entries → list_all is_limited entries ≡ true → Holds tree.filesets clone → clone.read_only ≡ true → is_at_rest clone ≡ true → Holds (after_history tree entries).filesets clone
stays tree [] clone w legal l h r q = h
stays tree (entry ∷ entries) clone w legal l h r q =
    stays (after_entry tree entry) entries clone (formed_entry tree entry w legal.0 (and_left _ _ l)) legal.1 (and_right _ _ l) (rests_entry tree entry clone w legal.0 h r q) r q

-- a clone that was made is there
find_inserted : (p : Fileset → Bool) (new : Fileset) (i : ℕ) (filesets : List Fileset) → p new ≡ true → list_all (λ fileset. not (p fileset)) filesets ≡ true → find p (insert filesets i new) ≡ Some new
find_inserted p new zero filesets h k = ap (λ t. cond t (Some new) (find p filesets)) h
find_inserted p new (suc i) [] h k = ap (λ t. cond t (Some new) None) h
find_inserted p new (suc i) (x ∷ xs) h k =
    let other : p x ≡ false = opposite (p x) (and_left _ _ k) in
    ap (λ t. cond t (Some x) (find p (insert xs i new))) other ∙ find_inserted p new i xs h (and_right _ _ k)
  where
    opposite : (b : Bool) → not b ≡ true → b ≡ false
    opposite true h = absurd (search (rules, h))
    opposite false h = refl

abbrev Made : Tree → ServerId → List ℕ → List ℕ → Answer → Type 0
Made tree server source new answer = (fileset : Fileset) × (id : FilesetId) × (fileset_named tree server source ≡ Ok fileset) × (find (has_id id) answer.tree.filesets ≡ Some (cloned fileset id new))

made_by : (tree : Tree) (user : User) (server : ServerId) (source new : List ℕ) (checked : Result (Fileset × ServerRoom) Refusal) → IsWellFormed tree → checked ≡ clone_target tree user server source new →
    (either checked (λ (fileset, room). let answer : Answer = record { reply = Done; tree = with_fileset tree server room (cloned fileset (next_id server room) new) } in answer) (refuse tree)).reply ≡ Done →
    Made tree server source new (either checked (λ (fileset, room). let answer : Answer = record { reply = Done; tree = with_fileset tree server room (cloned fileset (next_id server room) new) } in answer) (refuse tree))
unfolding cloned
made_by tree user server source new (Err why) w e h = absurd (search (rules, h))
made_by tree user server source new (Ok found) w e h =
    let so = cloned_so tree user server source new found (sym e) in
    let id = next_id server found.1 in
    let here : (id.0 == id.0) ≡ true = grind (arith, common_steps) in
    (found.0, id, so.from, find_inserted (has_id id) (cloned found.0 id new) (id_place tree.filesets id) tree.filesets here (clone_fresh tree user server source new found w (sym e)))

made_user : (tree : Tree) (found : Option User) (host : HostId) (server : ServerId) (source new : List ℕ) → IsWellFormed tree → (for_user tree found (answer_for tree host (CloneFileset server source new))).reply ≡ Done →
    Made tree server source new (for_user tree found (answer_for tree host (CloneFileset server source new)))
unfolding answer_for clone_answer
made_user tree None host server source new w h = absurd (search (rules, h))
made_user tree (Some user) host server source new w h = made_by tree user server source new (clone_target tree user server source new) w refl h

made : (tree : Tree) (host : HostId) (server : ServerId) (source new : List ℕ) → IsWellFormed tree → (answer_to tree host (CloneFileset server source new)).reply ≡ Done → Made tree server source new (answer_to tree host (CloneFileset server source new))
unfolding answer_to
made tree host server source new w h = made_user tree (user_of tree.roster host) host server source new w h

pub clones_stay : ClonesStay
clones_stay = record { made = made; bytes = clone_shows_source.bytes; rest = cloned_rests; stays = stays }
