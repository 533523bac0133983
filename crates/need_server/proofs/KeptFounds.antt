-- What is kept of a tree answers a NewFileset, a CloneFileset and a MoveFileset as the tree does, where nothing under their
-- wants is unsaved.
use Rattle.std.proofs.Common.{◌≡◌, ℕ, zero, suc, ◌-◌, ◌==◌, nat_le, Bool, true, false, ◌&&◌, ◌||◌, not, List, [], ◌∷◌, ◌++◌, Option, Some, None, Result, Ok, Err, refl, sym, ap, ◌∙◌, subst, rules}
use Rattle.std.specs.Prelude.{slice_get, slice_set, map, replicate}
use Rattle.std.specs.List.{find, list_any, flat_map}
use Rattle.std.specs.Option.{option_map}
use Rattle.base_types.specs.Outcomes.{and_then, either}
use Rattle.base_types.specs.declared.ids.FilesetId.{FilesetId}
use Rattle.base_types.specs.declared.ids.HostId.{HostId}
use Rattle.base_types.specs.declared.ids.ServerId.{ServerId}
use Rattle.tree_filesets.specs.declared.fileset.TheConstants.{MOVES_MAX}
use Rattle.base_types.specs.declared.user.User.{User}
use Rattle.tree_calls.specs.declared.call.Call.TheVariants.{NewFileset, CloneFileset, MoveFileset}
use Rattle.tree_calls.specs.declared.reply.Refusal.{Refusal}
use Rattle.tree_calls.specs.declared.reply.Refusal.TheVariants.{NoFileset, NotHome, Exists, InUse, TooMany}
use Rattle.tree_calls.specs.declared.reply.Reply.TheVariants.{Ok as Done}
use Rattle.tree_objects.specs.declared.content.Anode.{Anode}
use Rattle.tree_objects.specs.declared.content.Content.TheVariants.{Dir}
use Rattle.tree_objects.specs.Changes.{anode_changed}
use Rattle.tree_objects.specs.Objects.{is_dir}
use Rattle.tree_filesets.specs.declared.fileset.Fileset.{Fileset}
use Rattle.tree_filesets.specs.Checks.{unless}
use Rattle.tree_filesets.specs.Creation.{owned}
use Rattle.tree_filesets.specs.Founding.{root_lists, unused_anode, new_fileset, control_check, cloned, moved}
use Rattle.tree_filesets.specs.Promises.{promise, new_promise, clone_promise}
use Rattle.tree_filesets.proofs.Moved.{cloned_rests, moved_rests}
use Rattle.tree_filesets.proofs.Targets.{then_ok, unless_ok, ok_is}
use Rattle.tree_answers.specs.declared.tree.ServerRoom.{ServerRoom}
use Rattle.tree_answers.specs.declared.tree.Tree.{Tree}
use Rattle.tree_answers.specs.Answers.{answer_for}
use Rattle.tree_answers.specs.Away.{has_away, is_away_named}
use Rattle.tree_answers.specs.Finding.{Answer, refuse, found_or, leads_to, is_taken, fileset_place, fileset_named}
use Rattle.tree_answers.specs.Founding.{slot_for, blocks_for, room_for, next_id, with_fileset, new_fileset_target, new_fileset_answer, clone_source, clone_target, clone_answer}
use Rattle.tree_answers.specs.Moving.{is_fileset_used, move_source, leave_check, move_room, move_target, with_moved, move_answer}
use Rattle.tree_answers.specs.WellFormed.{IsWellFormed, rests_if_clone}
use Rattle.tree_answers.proofs.AfterMove.{formed_get}
use Rattle.tree_answers.proofs.Places.{get_all, found_by_id, find_at_place}
use Rattle.tree_laws.proofs.Steps.{same_number, named_ok, formed_found, then_same, then_then}
use Rattle.need_server.specs.Kept.{content_settled, kept_fileset, kept_tree, kept_answer}
use Rattle.need_server.specs.Wants.{all_of, every_use_of, files_of, all_objects_of, want_for, want}
use Rattle.need_server.specs.Laws.{NothingUnsaved}
use Rattle.need_server.proofs.Kept.{then_first, unless_same, kept_control}
use Rattle.need_server.proofs.KeptRooms.{promise_kept, slot_kept, blocks_kept, room_kept, taken_kept, with_kept}
use Rattle.need_server.proofs.KeptTree.{here_kept, same_place, same_named, get_mapped, set_mapped, kept_checked}
use Rattle.need_server.proofs.Resting.{rest_fileset, dir_same, source_kept}

-- NewFileset
unused_kept : (n : ℕ) → map (anode_changed content_settled) (replicate n unused_anode) ≡ replicate n unused_anode
unused_kept zero = refl
unused_kept (suc n) = ap (λ rest. unused_anode ∷ rest) (unused_kept n)

new_kept : (server : ServerId) (id : FilesetId) (name : List ℕ) (objects : ℕ) (owner : User) → new_fileset server id name objects owner ≡ kept_fileset (new_fileset server id name objects owner)
unfolding new_fileset
new_kept server id name objects owner = ap (λ rest. record (new_fileset server id name objects owner) { anodes = first ∷ rest }) (sym (unused_kept (objects - 1)))
  where
    first : Anode
    first = record { unique = 1; object = Some (owned owner (Dir [] root_lists)) }

pub kept_new : (tree : Tree) (host : HostId) (user : User) (server : ServerId) (name : List ℕ) (objects : ℕ) (owner : User) → IsWellFormed tree →
    answer_for (kept_tree tree) host (NewFileset server name objects owner) user ≡ kept_answer (answer_for tree host (NewFileset server name objects owner) user)
unfolding answer_for new_fileset_answer new_fileset_target
kept_new tree host user server name objects owner w =
    let made = λ (room : ServerRoom). new_fileset server (next_id server room) name objects owner in
    ap (λ checked. either checked (λ room. let answer : Answer = record { reply = Done; tree = with_fileset (kept_tree tree) server room (made room) } in answer) (refuse (kept_tree tree)))
    (unless_same _ _ Exists _ (taken_kept tree server name) ∙ ap (λ next. unless (is_taken tree server name) Exists next) (room_kept tree server (new_promise objects) w))
    ∙ kept_checked tree (new_fileset_target tree server name objects) (λ room. with_fileset tree server room (made room)) (λ room. with_fileset (kept_tree tree) server room (made room))
    (λ room h. with_kept tree server room (made room) (made room) (new_kept server (next_id server room) name objects owner))

-- CloneFileset
pub source_same : (tree : Tree) (user : User) (server : ServerId) (source : List ℕ) → clone_source (kept_tree tree) user server source ≡ and_then (clone_source tree user server source) (λ fileset. Ok (kept_fileset fileset))
unfolding clone_source
source_same tree user server source =
    then_first _ _ _ (same_named tree server source)
    ∙ then_then (fileset_named tree server source) (λ fileset. Ok (kept_fileset fileset)) _
    ∙ then_same (fileset_named tree server source) _ (λ fileset. and_then (unless (not (fileset.server.0 == server.0)) NotHome (and_then (control_check fileset user) (λ _. Ok fileset))) (λ fileset. Ok (kept_fileset fileset)))
    (λ fileset h. ap (λ may. unless (not (fileset.server.0 == server.0)) NotHome (and_then may (λ _. Ok (kept_fileset fileset)))) (kept_control fileset user)
    ∙ checked (not (fileset.server.0 == server.0)) (control_check fileset user) fileset)
    ∙ sym (then_then (fileset_named tree server source) (λ fileset. unless (not (fileset.server.0 == server.0)) NotHome (and_then (control_check fileset user) (λ _. Ok fileset))) (λ fileset. Ok (kept_fileset fileset)))
  where
    checked : (away : Bool) (may : Result (Unit {0}) Refusal) (fileset : Fileset) → unless away NotHome (and_then may (λ _. Ok (kept_fileset fileset))) ≡ and_then (unless away NotHome (and_then may (λ _. Ok fileset))) (λ fileset. Ok (kept_fileset fileset))
    checked true may fileset = refl
    checked false (Ok it) fileset = refl
    checked false (Err refusal) fileset = refl

-- what is known of a fileset that is cloned
pub source_found : (tree : Tree) (user : User) (server : ServerId) (source : List ℕ) (fileset : Fileset) → clone_source tree user server source ≡ Ok fileset → find (leads_to tree server source) tree.filesets ≡ Some fileset
unfolding clone_source fileset_named
source_found tree user server source fileset h =
    let (found, a, h1) = then_ok (fileset_named tree server source) _ fileset h in
    let (home, h2) = unless_ok (not (found.server.0 == server.0)) NotHome _ fileset h1 in
    let (allowed, c, h3) = then_ok (control_check found user) (λ _. Ok found) fileset h2 in
    subst (λ x. find (leads_to tree server source) tree.filesets ≡ Some x) (ok_is found fileset h3) (named_ok (find (leads_to tree server source) tree.filesets) found a)

source_rests : (tree : Tree) (user : User) (server : ServerId) (source : List ℕ) (fileset : Fileset) → IsWellFormed tree → clone_source tree user server source ≡ Ok fileset → NothingUnsaved tree (flat_map (all_of false) (files_of fileset)) →
    kept_fileset fileset ≡ fileset
source_rests tree user server source fileset w h nothing =
    let found = source_found tree user server source fileset h in
    source_kept tree fileset (found_by_id (leads_to tree server source) tree.filesets fileset found w.ordered) (formed_found (leads_to tree server source) tree.filesets fileset w.filesets found)
    (λ object. not (is_dir object.content)) false (λ fid. []) (λ object e. dir_same object.content (is_false (is_dir object.content) e)) nothing
  where
    is_false : (b : Bool) → not b ≡ false → b ≡ true
    is_false true e = refl
    is_false false e = absurd (search (rules, e))

pub kept_clone : (tree : Tree) (host : HostId) (user : User) (server : ServerId) (source new : List ℕ) → IsWellFormed tree → NothingUnsaved tree (want tree user (CloneFileset server source new)) →
    answer_for (kept_tree tree) host (CloneFileset server source new) user ≡ kept_answer (answer_for tree host (CloneFileset server source new) user)
unfolding answer_for clone_answer clone_target want
kept_clone tree host user server source new w nothing =
    let made = λ (found : Fileset × ServerRoom). cloned found.0 (next_id server found.1) new in
    ap (λ checked. either checked (λ found. let answer : Answer = record { reply = Done; tree = with_fileset (kept_tree tree) server found.1 (made found) } in answer) (refuse (kept_tree tree)))
    (then_first _ _ _ (source_same tree user server source)
    ∙ then_then (clone_source tree user server source) (λ fileset. Ok (kept_fileset fileset)) _
    ∙ then_same (clone_source tree user server source) _ _ (λ fileset h.
    let under = subst (λ checks. NothingUnsaved tree (want_for checks (λ fileset. flat_map (all_of false) (files_of fileset)))) h nothing in
    ap (λ f. unless (is_taken (kept_tree tree) server new) Exists (and_then (room_for (kept_tree tree) server (clone_promise f)) (λ room. Ok (f, room)))) (source_rests tree user server source fileset w h under)
    ∙ unless_same _ _ Exists _ (taken_kept tree server new)
    ∙ ap (λ next. unless (is_taken tree server new) Exists next) (then_first _ _ _ (room_kept tree server (clone_promise fileset) w))))
    ∙ kept_checked tree (clone_target tree user server source new) (λ found. with_fileset tree server found.1 (made found)) (λ found. with_fileset (kept_tree tree) server found.1 (made found))
    (λ found h. with_kept tree server found.1 (made found) (made found) (sym (rest_fileset (made found) (cloned_rests found.0 (next_id server found.1) new))))

-- MoveFileset
option_kept : (o : Option Fileset) → found_or (option_map kept_fileset o) NoFileset ≡ and_then (found_or o NoFileset) (λ fileset. Ok (kept_fileset fileset))
option_kept None = refl
option_kept (Some fileset) = refl

pub moving_same : (tree : Tree) (user : User) (server : ServerId) (name : List ℕ) → move_source (kept_tree tree) user server name ≡ and_then (move_source tree user server name) (λ found. Ok (found.0, kept_fileset found.1))
unfolding move_source
moving_same tree user server name =
    then_first _ _ _ (same_place tree server name)
    ∙ then_same (fileset_place tree server name) _ (λ place. and_then (and_then (found_or (slice_get tree.filesets place) NoFileset) (λ fileset. and_then (control_check fileset user) (λ _. Ok (place, fileset)))) (λ found. Ok (found.0, kept_fileset found.1)))
    (λ place h.
    then_first _ _ _ (ap (λ o. found_or o NoFileset) (get_mapped kept_fileset tree.filesets place) ∙ option_kept (slice_get tree.filesets place))
    ∙ then_then (found_or (slice_get tree.filesets place) NoFileset) (λ fileset. Ok (kept_fileset fileset)) _
    ∙ then_same (found_or (slice_get tree.filesets place) NoFileset) _ (λ fileset. and_then (and_then (control_check fileset user) (λ _. Ok (place, fileset))) (λ found. Ok (found.0, kept_fileset found.1)))
    (λ fileset k. ap (λ may. and_then may (λ _. Ok (place, kept_fileset fileset))) (kept_control fileset user)
    ∙ sym (then_then (control_check fileset user) (λ _. Ok (place, fileset)) (λ found. Ok (found.0, kept_fileset found.1))))
    ∙ sym (then_then (found_or (slice_get tree.filesets place) NoFileset) (λ fileset. and_then (control_check fileset user) (λ _. Ok (place, fileset))) (λ found. Ok (found.0, kept_fileset found.1))))
    ∙ sym (then_then (fileset_place tree server name) (λ place. and_then (found_or (slice_get tree.filesets place) NoFileset) (λ fileset. and_then (control_check fileset user) (λ _. Ok (place, fileset)))) (λ found. Ok (found.0, kept_fileset found.1)))

-- what is known of a fileset that moves
pub moving_found : (tree : Tree) (user : User) (server : ServerId) (name : List ℕ) (found : ℕ × Fileset) → move_source tree user server name ≡ Ok found → Some found.1 ≡ slice_get tree.filesets found.0
unfolding move_source
moving_found tree user server name found h =
    let (place, a, h1) = then_ok (fileset_place tree server name) _ found h in
    let (fileset, b, h2) = then_ok (found_or (slice_get tree.filesets place) NoFileset) _ found h1 in
    let (may, c, h3) = then_ok (control_check fileset user) (λ _. Ok (place, fileset)) found h2 in
    subst (λ x. Some x.1 ≡ slice_get tree.filesets x.0) (ok_is (place, fileset) found h3) (sym (named_ok (slice_get tree.filesets place) fileset b))

leave_same : (tree : Tree) (to : ServerId) (fileset : Fileset) → leave_check (kept_tree tree) to (kept_fileset fileset) ≡ leave_check tree to fileset
unfolding leave_check
leave_same tree to fileset =
    ap (λ here. unless (fileset.server.0 == to.0) Exists (unless (is_fileset_used tree.locks tree.opens fileset.id) InUse (unless (nat_le MOVES_MAX fileset.moves) TooMany (
    unless (here || list_any (λ away. is_away_named to fileset.name away && not (away.fileset.0 == fileset.id.0)) tree.away) Exists (Ok tt)))))
    (here_kept tree.filesets to fileset.name)

room_same : (tree : Tree) (to : ServerId) (fileset : Fileset) → IsWellFormed tree → rests_if_clone fileset ≡ true → move_room (kept_tree tree) to (kept_fileset fileset) ≡ move_room tree to fileset
unfolding move_room
room_same tree to fileset w rests =
    then_first _ _ _ (slot_kept tree to (has_away tree.away to fileset.id))
    ∙ then_same (slot_for tree to (has_away tree.away to fileset.id)) _ _ (λ room h.
    ap (λ n. blocks_for (kept_tree tree) to room n) (promise_kept fileset rests) ∙ blocks_kept tree to room (promise fileset) w)

-- the checks of a move
move_same : (tree : Tree) (user : User) (server : ServerId) (name : List ℕ) (to : ServerId) → IsWellFormed tree →
    move_target (kept_tree tree) user server name to ≡ and_then (move_target tree user server name to) (λ found. Ok (found.0, kept_fileset found.1))
unfolding move_target
move_same tree user server name to w =
    then_first _ _ _ (moving_same tree user server name)
    ∙ then_then (move_source tree user server name) (λ found. Ok (found.0, kept_fileset found.1)) _
    ∙ then_same (move_source tree user server name) _ (λ found. and_then (and_then (leave_check tree to found.1) (λ _. and_then (move_room tree to found.1) (λ _. Ok found))) (λ found. Ok (found.0, kept_fileset found.1)))
    (λ found h.
    let rests = get_all rests_if_clone tree.filesets found.0 found.1 (moving_found tree user server name found h) w.clones in
    then_first _ _ _ (leave_same tree to found.1)
    ∙ then_same (leave_check tree to found.1) _ (λ _. and_then (and_then (move_room tree to found.1) (λ _. Ok found)) (λ found. Ok (found.0, kept_fileset found.1)))
    (λ _ k. then_first _ _ _ (room_same tree to found.1 w rests) ∙ sym (then_then (move_room tree to found.1) (λ _. Ok found) (λ found. Ok (found.0, kept_fileset found.1))))
    ∙ sym (then_then (leave_check tree to found.1) (λ _. and_then (move_room tree to found.1) (λ _. Ok found)) (λ found. Ok (found.0, kept_fileset found.1))))
    ∙ sym (then_then (move_source tree user server name) (λ (place, fileset). and_then (leave_check tree to fileset) (λ _. and_then (move_room tree to fileset) (λ _. Ok (place, fileset)))) (λ found. Ok (found.0, kept_fileset found.1)))

-- a fileset that moves while nothing under the want is unsaved
moving_rests : (tree : Tree) (user : User) (server : ServerId) (name : List ℕ) (found : ℕ × Fileset) → IsWellFormed tree → move_source tree user server name ≡ Ok found →
    NothingUnsaved tree (flat_map (λ fid. all_of true fid ++ every_use_of fid) (all_objects_of found.1)) → kept_fileset found.1 ≡ found.1
moving_rests tree user server name found w h nothing =
    let there = moving_found tree user server name found h in
    source_kept tree found.1 (find_at_place found.1.id tree.filesets found.0 found.1 there w.ordered (same_number found.1.id.0)) (formed_get tree.filesets found.0 found.1 there w.filesets)
    (λ object. true) true every_use_of (λ object e. absurd (search (rules, e))) nothing

-- what a move passes its checks with
pub move_passed : (tree : Tree) (user : User) (server : ServerId) (name : List ℕ) (to : ServerId) (found : ℕ × Fileset) → move_target tree user server name to ≡ Ok found → move_source tree user server name ≡ Ok found
unfolding move_target
move_passed tree user server name to found h =
    let (source, a, h1) = then_ok (move_source tree user server name) _ found h in
    let (leaves, b, h2) = then_ok (leave_check tree to source.1) _ found h1 in
    let (room, c, h3) = then_ok (move_room tree to source.1) (λ _. Ok (source.0, source.1)) found h2 in
    a ∙ ap Ok (ok_is (source.0, source.1) found h3)

pub kept_move : (tree : Tree) (host : HostId) (user : User) (server : ServerId) (name : List ℕ) (to : ServerId) → IsWellFormed tree → NothingUnsaved tree (want tree user (MoveFileset server name to)) →
    answer_for (kept_tree tree) host (MoveFileset server name to) user ≡ kept_answer (answer_for tree host (MoveFileset server name to) user)
unfolding answer_for move_answer want
kept_move tree host user server name to w nothing =
    ap (λ checked. either checked (λ found. let answer : Answer = record { reply = Done; tree = with_moved (kept_tree tree) found.0 found.1 to } in answer) (refuse (kept_tree tree))) (move_same tree user server name to w)
    ∙ either_first (move_target tree user server name to)
    ∙ kept_checked tree (move_target tree user server name to) (λ found. with_moved tree found.0 found.1 to) (λ found. with_moved (kept_tree tree) found.0 (kept_fileset found.1) to)
    (λ found h.
    let under = subst (λ checks. NothingUnsaved tree (want_for checks (λ found. flat_map (λ fid. all_of true fid ++ every_use_of fid) (all_objects_of found.1)))) (move_passed tree user server name to found h) nothing in
    let rests = moving_rests tree user server name found w (move_passed tree user server name to found h) under in
    ap (λ f. with_moved (kept_tree tree) found.0 f to) rests ∙ put found.0 found.1)
  where
    either_first : (checked : Result (ℕ × Fileset) Refusal) →
        either {A = ℕ × Fileset} (and_then checked (λ found. Ok (found.0, kept_fileset found.1))) (λ found. let answer : Answer = record { reply = Done; tree = with_moved (kept_tree tree) found.0 found.1 to } in answer) (refuse (kept_tree tree))
        ≡ either checked (λ found. let answer : Answer = record { reply = Done; tree = with_moved (kept_tree tree) found.0 (kept_fileset found.1) to } in answer) (refuse (kept_tree tree))
    either_first (Ok found) = refl
    either_first (Err refusal) = refl

    put : (place : ℕ) (fileset : Fileset) → with_moved (kept_tree tree) place fileset to ≡ kept_tree (with_moved tree place fileset to)
    put place fileset =
        ap (λ filesets. record (with_moved (kept_tree tree) place fileset to) { filesets = filesets })
        (ap (λ f. slice_set (map kept_fileset tree.filesets) place f) (sym (rest_fileset (moved fileset to) (moved_rests fileset to))) ∙ set_mapped kept_fileset tree.filesets place (moved fileset to))
