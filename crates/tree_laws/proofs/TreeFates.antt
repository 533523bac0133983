-- What entries leave of each part of each object of a tree.
use Rattle.std.proofs.Common.{◌≡◌, ℕ, zero, suc, ◌-◌, ◌==◌, nat_lt, Bool, true, false, ◌&&◌, ◌||◌, not, cond, List, [], ◌∷◌, insert, length, Option, Some, None, Result, Ok, Err, refl, sym, ap, ◌∙◌, subst, rules, arith}
use Rattle.std.specs.Prelude.{slice_get, slice_set, map, replicate, if◌then◌else◌}
use Rattle.std.specs.List.{find, list_all}
use Rattle.std.specs.Option.{option_map, option_map_or, option_and_then}
use Rattle.std.proofs.lemmas.Grind.{common_steps}
use Rattle.base_types.specs.Ids.{same_fid}
use Rattle.base_types.specs.Lists.{changed_at}
use Rattle.base_types.specs.Outcomes.{either}
use Rattle.base_types.specs.declared.ids.HostId.{HostId}
use Rattle.base_types.specs.declared.ids.ServerId.{ServerId}
use Rattle.base_types.specs.declared.ids.FilesetId.{FilesetId}
use Rattle.base_types.specs.declared.ids.Fid.{Fid}
use Rattle.base_types.specs.declared.span.Span.{Span}
use Rattle.base_types.specs.declared.user.User.{User}
use Rattle.tree_calls.specs.declared.call.Call.{Call as CallOf}
use Rattle.tree_calls.specs.declared.call.Call.TheVariants.{NewFileset, Create, MakeDir, Remove, Rename, Truncate, SetAcl, CloneFileset, Read, Write, List as ListNames, Stat, GetAcl, Sync, Lock, Unlock, OpenFile, CloseFile, MoveFileset}
use Rattle.tree_calls.specs.declared.entry.Entry.TheVariants.{Call, Stored, Down, Left}
use Rattle.tree_calls.specs.declared.reply.Refusal.{Refusal}
use Rattle.tree_calls.specs.declared.reply.Refusal.TheVariants.{Exists, NoFileset, NotHome}
use Rattle.tree_calls.specs.declared.reply.Reply.TheVariants.{Ok as Done}
use Rattle.tree_calls.specs.Rosters.{user_of}
use Rattle.tree_objects.specs.declared.content.Content.{Content}
use Rattle.tree_objects.specs.declared.content.Content.TheVariants.{Dir, File}
use Rattle.tree_objects.specs.declared.content.Object.{Object}
use Rattle.tree_objects.specs.declared.content.Anode.{Anode}
use Rattle.tree_objects.specs.Changes.{content_changed, anode_changed, content_forgotten, content_as_cloned}
use Rattle.tree_objects.specs.Files.{present_length}
use Rattle.tree_objects.specs.Objects.{is_dir}
use Rattle.tree_objects.specs.Shown.{shown, present_byte}
use Rattle.tree_objects.specs.Sound.{is_sound}
use Rattle.tree_objects.specs.Stores.{content_stored, is_storable}
use Rattle.tree_objects.proofs.Observed.{and_left, and_right, over_length, shown_in_clone}
use Rattle.tree_filesets.specs.declared.fileset.Fileset.{Fileset}
use Rattle.tree_filesets.specs.Founding.{unused_anode, new_anodes, new_fileset, cloned, moved, control_check}
use Rattle.tree_filesets.specs.Promises.{new_promise, clone_promise}
use Rattle.tree_filesets.specs.Rows.{fileset_answer}
use Rattle.tree_filesets.specs.Updates.{updated, changed}
use Rattle.tree_filesets.specs.Walk.{object_at, unique_at}
use Rattle.tree_filesets.specs.WellFormed.{IsWellFormed as IsWellFormedFileset}
use Rattle.tree_filesets.proofs.Mapped.{mapped_object}
use Rattle.tree_filesets.proofs.Stays.{stays_itself}
use Rattle.tree_filesets.proofs.Targets.{then_ok, unless_ok, ok_is}
use Rattle.tree_filesets.proofs.Updates.{found_changed}
use Rattle.tree_answers.specs.declared.tree.Tree.{Tree}
use Rattle.tree_answers.specs.declared.tree.ServerRoom.{ServerRoom}
use Rattle.tree_answers.specs.Finding.{Answer, refuse, found_or, has_id, leads_to, fileset_place, fileset_named, is_taken}
use Rattle.tree_answers.specs.Moving.{move_source, leave_check, move_room, move_target, with_moved, move_answer, left_tree}
use Rattle.tree_answers.specs.Founding.{room_for, clone_source, next_id, with_fileset, new_fileset_target, new_fileset_answer, clone_target, clone_answer}
use Rattle.tree_answers.specs.Answers.{for_user, answer_at, deciding_place, fileset_row, answer_for, answer_to}
use Rattle.tree_answers.specs.Locks.{lock_answer, lock_check, unlock_answer, has_lock}
use Rattle.tree_answers.specs.Opens.{open_answer, open_check, close_answer, has_open}
use Rattle.tree_answers.specs.Losses.{fileset_forgotten, is_at, down_tree}
use Rattle.tree_answers.specs.Stores.{content_in, may_store, place_with_id, stored_tree}
use Rattle.tree_answers.specs.Uses.{is_used}
use Rattle.tree_answers.specs.WellFormed.{ids_rise, IsWellFormed}
use Rattle.tree_answers.proofs.Inserted.{IsFresh, find_insert, fresh_id, position_or_end}
use Rattle.tree_answers.proofs.Kept.{room_ok, tested_object}
use Rattle.tree_answers.proofs.Places.{same_after, found_by_id, find_put, find_put_other, find_at_place, find_map, place_found, found_passes}
use Rattle.tree_laws.specs.Parts.{Part, Seen, Cell, present, settled, size_cell, cell_of, no_cell, cell_found, cell_in, cell_at, object_in}
use Rattle.tree_laws.specs.Parts.Part.{ByteAt, Size, Traits, Entries}
use Rattle.tree_laws.specs.Fates.{after_fate, names_use, moved_values, clone_values, move_fate, fid_at, fate_row, fate_at, new_fate, clone_fate, fate_for, PartsChangeSo}
use Rattle.tree_laws.specs.Fates.Fate.{Stays, IsStored, IsForgotten, Becomes}
use Rattle.tree_laws.proofs.Contents.{shown_cell, present_cell, stored_parts, forgotten_parts}
use Rattle.tree_laws.proofs.Steps.{named_ok, formed_found, number_is, same_number}
use Rattle.tree_laws.proofs.Objects.{parts_in, changed_parts}
use Rattle.tree_laws.proofs.RowFates.{row_fates}
use Rattle.tree_laws.proofs.Contents.{size_seen}

-- a fileset at a place is well formed
pub formed_at : (tree : Tree) (place : ℕ) (old : Fileset) → Some old ≡ slice_get tree.filesets place → IsWellFormed tree → IsWellFormedFileset old
formed_at tree place old e w = formed_found (has_id old.id) tree.filesets old w.filesets (find_at_place old.id tree.filesets place old e w.ordered (same_number old.id.0))

-- a call that one fileset decides
fates_at : (tree : Tree) (place : ℕ) (found : Option Fileset) (host : HostId) (user : User) (call : CallOf) (fid : Fid) (part : Part) → found ≡ slice_get tree.filesets place → IsWellFormed tree →
    cell_at (answer_at tree place found (λ fileset. fileset_answer fileset (is_used tree.locks tree.opens) host user call)).tree fid part ≡ after_fate (fate_at tree host user call fid found) (cell_at tree fid) part
fates_at tree place None host user call fid part e w = refl
fates_at tree place (Some old) host user call fid part e w =
    let used = is_used tree.locks tree.opens in
    let new : Fileset = (fileset_answer old used host user call).fileset in
    let same : new.id ≡ old.id = (stays_itself old used host user call).id in
    elim (has_id fid.fileset old) as (λ t. has_id fid.fileset old ≡ t → cell_in (find (has_id fid.fileset) (slice_set tree.filesets place new)) fid part ≡ after_fate (if t then fate_row old used host user call fid else Stays) (cell_at tree fid) part) [
      | true ↦ λ its.
          ap (λ o. cell_in o fid part) (find_put fid.fileset tree.filesets place old new e w.ordered same its)
          ∙ row_fates old used host user call fid part (formed_at tree place old e w)
          ∙ ap (λ o. after_fate (fate_row old used host user call fid) (λ part. cell_in o fid part) part) (sym (find_at_place fid.fileset tree.filesets place old e w.ordered its))
      | false ↦ λ other. ap (λ o. cell_in o fid part) (find_put_other fid.fileset tree.filesets place old new e same other)
    ] refl

fates_place : (tree : Tree) (found : Result ℕ Refusal) (host : HostId) (user : User) (call : CallOf) (fid : Fid) (part : Part) → IsWellFormed tree →
    cell_at (either found (λ place. answer_at tree place (slice_get tree.filesets place) (λ fileset. fileset_answer fileset (is_used tree.locks tree.opens) host user call)) (refuse tree)).tree fid part
    ≡ after_fate (either found (λ place. fate_at tree host user call fid (slice_get tree.filesets place)) (λ refusal. Stays)) (cell_at tree fid) part
fates_place tree (Err why) host user call fid part w = refl
fates_place tree (Ok place) host user call fid part w = fates_at tree place (slice_get tree.filesets place) host user call fid part refl w

fates_row : (tree : Tree) (host : HostId) (user : User) (call : CallOf) (fid : Fid) (part : Part) → IsWellFormed tree →
    cell_at (fileset_row tree host user call).tree fid part ≡ after_fate (either (deciding_place tree call) (λ place. fate_at tree host user call fid (slice_get tree.filesets place)) (λ refusal. Stays)) (cell_at tree fid) part
unfolding fileset_row
fates_row tree host user call fid part w = fates_place tree (deciding_place tree call) host user call fid part w

-- a fileset more
find_inserted : {X : Type 0} (p : X → Bool) (new : X) (i : ℕ) (xs : List X) → p new ≡ true → find p xs ≡ None → find p (insert xs i new) ≡ Some new
find_inserted p new zero xs h n = ap (λ t. cond t (Some new) (find p xs)) h
find_inserted p new (suc i) [] h n = ap (λ t. cond t (Some new) None) h
find_inserted p new (suc i) (x ∷ xs) h n =
    elim (p x) as (λ t. cond t (Some x) (find p xs) ≡ None → cond t (Some x) (find p (insert xs i new)) ≡ Some new)
    [ true ↦ λ k. absurd (search (rules, k)) | false ↦ λ k. find_inserted p new i xs h k ] n

pub fresh_none : (filesets : List Fileset) (id other : FilesetId) → IsFresh filesets id → (id.0 == other.0) ≡ true → find (has_id other) filesets ≡ None
fresh_none [] id other f e = refl
fresh_none (x ∷ xs) id other f e =
    let apart : not (x.id.0 == id.0) ≡ true = and_left _ _ f in
    let differs : (x.id.0 == other.0) ≡ false = ap (λ n. x.id.0 == n) (sym (number_is id.0 other.0 e)) ∙ not_false (x.id.0 == id.0) apart in
    ap (λ t. cond t (Some x) (find (has_id other) xs)) differs ∙ fresh_none xs id other (and_right _ _ f) e
  where
    not_false : (b : Bool) → not b ≡ true → b ≡ false
    not_false true h = absurd (search (rules, h))
    not_false false h = refl

inserted_part : (tree : Tree) (i : ℕ) (new : Fileset) (fid : Fid) (part : Part) (values : (part : Part) → Seen part) → IsFresh tree.filesets new.id →
    ((new.id.0 == fid.fileset.0) ≡ true → cell_found new.read_only (object_in new fid) part ≡ settled (values part)) →
    cell_in (find (has_id fid.fileset) (insert tree.filesets i new)) fid part ≡ after_fate (if new.id.0 == fid.fileset.0 then Becomes values else Stays) (cell_at tree fid) part
inserted_part tree i new fid part values fresh shows =
    elim (new.id.0 == fid.fileset.0) as (λ t. (new.id.0 == fid.fileset.0) ≡ t → cell_in (find (has_id fid.fileset) (insert tree.filesets i new)) fid part ≡ after_fate (if t then Becomes values else Stays) (cell_at tree fid) part) [
      | true ↦ λ e. ap (λ o. cell_in o fid part) (find_inserted (has_id fid.fileset) new i tree.filesets e (fresh_none tree.filesets new.id fid.fileset fresh e)) ∙ shows e
      | false ↦ λ e. ap (λ o. cell_in o fid part) (find_insert (has_id fid.fileset) new i tree.filesets e)
    ] refl

-- a new fileset has nothing unsaved
dir_settled : (read_only : Bool) (owner group : List ℕ) (content : Content) (part : Part) → is_dir content ≡ true → let object : Object = record { owner = owner; group = group; content = content } in
    cell_of read_only object part ≡ settled (cell_of read_only object part).kept
dir_settled read_only owner group (Dir entries lists) (ByteAt at) d = refl
dir_settled read_only owner group (Dir entries lists) Size d = refl
dir_settled read_only owner group (Dir entries lists) Traits d = refl
dir_settled read_only owner group (Dir entries lists) Entries d = refl
dir_settled read_only owner group (File list kept unsaved len) part d = absurd (search (rules, d))

nothing_settled : (part : Part) → no_cell part ≡ settled (no_cell part).kept
nothing_settled (ByteAt at) = refl
nothing_settled Size = refl
nothing_settled Traits = refl
nothing_settled Entries = refl

unused_there : (n i : ℕ) → option_and_then (λ a. a.object) (slice_get (replicate n unused_anode) i) ≡ None
unused_there zero i = refl
unused_there (suc n) zero = refl
unused_there (suc n) (suc i) = unused_there n i

new_settled : (fileset : Fileset) (owner : User) (objects : ℕ) (fid : Fid) (part : Part) → fileset.anodes ≡ new_anodes owner objects →
    cell_found false (object_in fileset fid) part ≡ settled (cell_found false (object_in fileset fid) part).kept
new_settled fileset owner objects fid part e = by_use (unique_at fileset.anodes fid.anode == fid.unique) (object_at fileset.anodes fid.anode) (ap (λ list. object_at list fid.anode) e)
  where
    root_dir : (i : ℕ) (object : Object) → option_and_then (λ a. a.object) (slice_get (new_anodes owner objects) i) ≡ Some object → is_dir object.content ≡ true
    root_dir zero object h = let same : (owned_root : Object) × (owned_root ≡ object) × (is_dir owned_root.content ≡ true) = (_, some_is _ object h, refl) in subst (λ o. is_dir o.content ≡ true) same.1 same.2
      where
        some_is : (a b : Object) → Some a ≡ Some b → a ≡ b
        some_is a b h = cc
    root_dir (suc i) object h = let wrong : None ≡ Some object = sym (unused_there (objects - 1) i) ∙ h in absurd (search (rules, wrong))

    object_dir : (at : ℕ) (object : Object) → object_at (new_anodes owner objects) at ≡ Some object → is_dir object.content ≡ true
    object_dir at object = elim (at == 0) as (λ t. (if t then None else option_and_then (λ a. a.object) (slice_get (new_anodes owner objects) (at - 1))) ≡ Some object → is_dir object.content ≡ true)
        [ true ↦ λ h. absurd (search (rules, h)) | false ↦ λ h. root_dir (at - 1) object h ]

    by_use : (b : Bool) (o : Option Object) → o ≡ object_at (new_anodes owner objects) fid.anode → cell_found false (if b then o else None) part ≡ settled (cell_found false (if b then o else None) part).kept
    by_use true None k = nothing_settled part
    by_use true (Some object) k = dir_settled false object.owner object.group object.content part (object_dir fid.anode object (sym k))
    by_use false o k = nothing_settled part

fates_new : (tree : Tree) (server : ServerId) (name : List ℕ) (objects : ℕ) (owner : User) (fid : Fid) (part : Part) (checked : Result ServerRoom Refusal) → IsWellFormed tree → checked ≡ new_fileset_target tree server name objects →
    cell_at (either checked (λ room. let answer : Answer = record { reply = Done; tree = with_fileset tree server room (new_fileset server (next_id server room) name objects owner) } in answer) (refuse tree)).tree fid part
    ≡ after_fate (new_fate server name objects owner fid checked) (cell_at tree fid) part
unfolding new_fileset_target new_fileset
fates_new tree server name objects owner fid part (Err why) w e = refl
fates_new tree server name objects owner fid part (Ok room) w e =
    let (free, k) = unless_ok (is_taken tree server name) Exists (room_for tree server (new_promise objects)) room (sym e) in
    let is_room = room_ok tree server (new_promise objects) room k in
    let new = new_fileset server (next_id server room) name objects owner in
    inserted_part tree _ new fid part (λ part. (cell_found false (object_in new fid) part).kept) (fresh_id tree.servers server room tree.filesets is_room.number is_room.there w.given) (λ e. new_settled new owner objects fid part refl)

-- all contents of a fileset are changed
pub mapped_unique : (change : Content → Content) (anodes : List Anode) (i : ℕ) → option_map_or (λ a. a.unique) (slice_get (map (anode_changed change) anodes) i) 0 ≡ option_map_or (λ a. a.unique) (slice_get anodes i) 0
mapped_unique change [] i = refl
mapped_unique change (anode ∷ anodes) zero = refl
mapped_unique change (anode ∷ anodes) (suc i) = mapped_unique change anodes i

pub use_mapped : (old new : Fileset) (change : Content → Content) (fid : Fid) → new.anodes ≡ map (anode_changed change) old.anodes → object_in new fid ≡ option_map (content_changed change) (object_in old fid)
use_mapped old new change fid e =
    ap (λ anodes. cond (unique_at anodes fid.anode == fid.unique) (object_at anodes fid.anode) None) e
    ∙ ap (λ u. cond (u == fid.unique) (object_at (map (anode_changed change) old.anodes) fid.anode) None) (mapped_unique change old.anodes (fid.anode - 1))
    ∙ ap (λ o. cond (unique_at old.anodes fid.anode == fid.unique) o None) (mapped_object change old.anodes fid.anode)
    ∙ by_use (unique_at old.anodes fid.anode == fid.unique) (object_at old.anodes fid.anode)
  where
    by_use : (b : Bool) (o : Option Object) → cond b (option_map (content_changed change) o) None ≡ option_map (content_changed change) (cond b o None)
    by_use true o = refl
    by_use false o = refl

zero_both : (b : Bool) → ◌≡◌ {A = Cell ℕ} (settled 0) (settled (if b then 0 else 0))
zero_both true = refl
zero_both false = refl

rested_content : (read_only : Bool) (owner group : List ℕ) (content : Content) (part : Part) →
    let old : Object = record { owner = owner; group = group; content = content } in let new : Object = record { owner = owner; group = group; content = content_as_cloned content } in
    cell_of read_only new part ≡ settled (moved_values (λ part. cell_of read_only old part) part)
rested_content read_only owner group (Dir entries lists) (ByteAt at) = zero_both (nat_lt at (length entries))
rested_content read_only owner group (Dir entries lists) Size = refl
rested_content read_only owner group (Dir entries lists) Traits = refl
rested_content read_only owner group (Dir entries lists) Entries = refl
rested_content read_only owner group (File list kept unsaved len) (ByteAt at) =
    let file = File list kept unsaved len in
    ap shown_cell (shown_in_clone list kept unsaved len at)
    ∙ ap (λ n. settled (if nat_lt at n then present_byte (shown file at) else 0)) (sym (size_seen file))
    ∙ ap (λ n. settled (if nat_lt at (present (size_cell file)) then n else 0)) (sym (present_cell (shown file at)))
rested_content read_only owner group (File list kept unsaved len) Size = ap settled (over_length kept unsaved 0 (present_length kept len) ∙ sym (size_seen (File list kept unsaved len)))
rested_content read_only owner group (File list kept unsaved len) Traits = refl
rested_content read_only owner group (File list kept unsaved len) Entries = refl

rested_option : (read_only : Bool) (o : Option Object) (part : Part) → cell_found read_only (option_map (content_changed content_as_cloned) o) part ≡ settled (moved_values (λ part. cell_found read_only o part) part)
rested_option read_only None (ByteAt at) = zero_both (nat_lt at 0)
rested_option read_only None Size = refl
rested_option read_only None Traits = refl
rested_option read_only None Entries = refl
rested_option read_only (Some object) part = rested_content read_only object.owner object.group object.content part

cloned_content : (read_only : Bool) (owner group : List ℕ) (content : Content) (part : Part) →
    let old : Object = record { owner = owner; group = group; content = content } in let new : Object = record { owner = owner; group = group; content = content_as_cloned content } in
    cell_of true new part ≡ settled (clone_values (λ part. cell_of read_only old part) part)
cloned_content read_only owner group content (ByteAt at) = rested_content read_only owner group content (ByteAt at)
cloned_content read_only owner group content Size = rested_content read_only owner group content Size
cloned_content read_only owner group (Dir entries lists) Traits = refl
cloned_content read_only owner group (File list kept unsaved len) Traits = refl
cloned_content read_only owner group content Entries = rested_content read_only owner group content Entries

cloned_option : (read_only : Bool) (o : Option Object) (part : Part) → cell_found true (option_map (content_changed content_as_cloned) o) part ≡ settled (clone_values (λ part. cell_found read_only o part) part)
cloned_option read_only None (ByteAt at) = zero_both (nat_lt at 0)
cloned_option read_only None Size = refl
cloned_option read_only None Traits = refl
cloned_option read_only None Entries = refl
cloned_option read_only (Some object) part = cloned_content read_only object.owner object.group object.content part

-- what is known of a fileset that is cloned
source_named : (tree : Tree) (user : User) (server : ServerId) (source : List ℕ) (fileset : Fileset) → clone_source tree user server source ≡ Ok fileset → find (leads_to tree server source) tree.filesets ≡ Some fileset
unfolding clone_source fileset_named
source_named tree user server source fileset h =
    let (found, a, h1) = then_ok (fileset_named tree server source) _ fileset h in
    let (home, h2) = unless_ok (not (found.server.0 == server.0)) NotHome _ fileset h1 in
    let (allowed, c, h3) = then_ok (control_check found user) (λ _. Ok found) fileset h2 in
    subst (λ x. find (leads_to tree server source) tree.filesets ≡ Some x) (ok_is found fileset h3) (named_ok (find (leads_to tree server source) tree.filesets) found a)

fates_clone : (tree : Tree) (user : User) (server : ServerId) (source new : List ℕ) (fid : Fid) (part : Part) (checked : Result (Fileset × ServerRoom) Refusal) → IsWellFormed tree → checked ≡ clone_target tree user server source new →
    cell_at (either checked (λ (fileset, room). let answer : Answer = record { reply = Done; tree = with_fileset tree server room (cloned fileset (next_id server room) new) } in answer) (refuse tree)).tree fid part
    ≡ after_fate (clone_fate tree server fid checked) (cell_at tree fid) part
unfolding clone_target cloned
fates_clone tree user server source new fid part (Err why) w e = refl
fates_clone tree user server source new fid part (Ok found) w e =
    let (fileset, f, h2) = then_ok (clone_source tree user server source) _ found (sym e) in
    let (free, h3) = unless_ok (is_taken tree server new) Exists _ found h2 in
    let (room, g, h4) = then_ok (room_for tree server (clone_promise fileset)) _ found h3 in
    let is_room = room_ok tree server (clone_promise fileset) room g in
    let same : (fileset, room) ≡ found = pair_is _ found h4 in
    let named = source_named tree user server source fileset f in
    let its : find (has_id found.0.id) tree.filesets ≡ Some found.0 = subst (λ x. find (has_id x.id) tree.filesets ≡ Some x) (ap (λ x. x.0) same) (found_by_id (leads_to tree server source) tree.filesets fileset named w.ordered) in
    let made = cloned found.0 (next_id server found.1) new in
    inserted_part tree _ made fid part (clone_values (λ part. cell_at tree (fid_at found.0.id fid) part))
    (subst (λ x. IsFresh tree.filesets (next_id server x)) (ap (λ x. x.1) same) (fresh_id tree.servers server room tree.filesets is_room.number is_room.there w.given))
    (λ e.
    ap (λ o. cell_found true o part) (use_mapped found.0 made content_as_cloned fid refl)
    ∙ cloned_option found.0.read_only (object_in found.0 fid) part
    ∙ ap (λ o. settled (clone_values (λ part. cell_in o (fid_at found.0.id fid) part) part)) (sym its))
  where
    pair_is : (a b : Fileset × ServerRoom) → ◌≡◌ {A = Result (Fileset × ServerRoom) Refusal} (Ok a) (Ok b) → a ≡ b
    pair_is a b h = cc

-- what is known of a fileset that moves
source_place : (tree : Tree) (user : User) (server : ServerId) (name : List ℕ) (found : ℕ × Fileset) → move_source tree user server name ≡ Ok found → Some found.1 ≡ slice_get tree.filesets found.0
unfolding move_source
source_place tree user server name found h =
    let (place, a, h1) = then_ok (fileset_place tree server name) _ found h in
    let (fileset, b, h2) = then_ok (found_or (slice_get tree.filesets place) NoFileset) _ found h1 in
    let (allowed, c, h3) = then_ok (control_check fileset user) (λ _. Ok (place, fileset)) found h2 in
    subst (λ x. Some x.1 ≡ slice_get tree.filesets x.0) (pair_is (place, fileset) found h3) (sym (named_ok (slice_get tree.filesets place) fileset b))
  where
    pair_is : (a b : ℕ × Fileset) → ◌≡◌ {A = Result (ℕ × Fileset) Refusal} (Ok a) (Ok b) → a ≡ b
    pair_is a b h = cc

pub move_ok : (tree : Tree) (user : User) (server : ServerId) (name : List ℕ) (to : ServerId) (found : ℕ × Fileset) → move_target tree user server name to ≡ Ok found → Some found.1 ≡ slice_get tree.filesets found.0
unfolding move_target
move_ok tree user server name to found h =
    let (source, a, h1) = then_ok (move_source tree user server name) _ found h in
    let (may, b, h2) = then_ok (leave_check tree to source.1) _ found h1 in
    let (room, c, h3) = then_ok (move_room tree to source.1) (λ _. Ok (source.0, source.1)) found h2 in
    subst (λ x. Some x.1 ≡ slice_get tree.filesets x.0) (pair_is (source.0, source.1) found h3) (source_place tree user server name source a)
  where
    pair_is : (a b : ℕ × Fileset) → ◌≡◌ {A = Result (ℕ × Fileset) Refusal} (Ok a) (Ok b) → a ≡ b
    pair_is a b h = cc

-- where a fileset moves
fates_move : (tree : Tree) (user : User) (server : ServerId) (name : List ℕ) (to : ServerId) (fid : Fid) (part : Part) (checked : Result (ℕ × Fileset) Refusal) → IsWellFormed tree → checked ≡ move_target tree user server name to →
    cell_at (either checked (λ (place, fileset). let answer : Answer = record { reply = Done; tree = with_moved tree place fileset to } in answer) (refuse tree)).tree fid part
    ≡ after_fate (move_fate tree fid checked) (cell_at tree fid) part
unfolding moved
fates_move tree user server name to fid part (Err why) w e = refl
fates_move tree user server name to fid part (Ok found) w e =
    let place = found.0 in let old = found.1 in
    let there = move_ok tree user server name to found (sym e) in
    let new = moved old to in
    elim (has_id fid.fileset old) as (λ t. has_id fid.fileset old ≡ t → cell_in (find (has_id fid.fileset) (slice_set tree.filesets place new)) fid part ≡ after_fate (if t then Becomes (moved_values (cell_at tree fid)) else Stays) (cell_at tree fid) part) [
      | true ↦ λ its.
          ap (λ o. cell_in o fid part) (find_put fid.fileset tree.filesets place old new there w.ordered refl its)
          ∙ ap (λ o. cell_found old.read_only o part) (use_mapped old new content_as_cloned fid refl)
          ∙ rested_option old.read_only (object_in old fid) part
          ∙ ap (λ o. settled (moved_values (λ part. cell_in o fid part) part)) (sym (find_at_place fid.fileset tree.filesets place old there w.ordered its))
      | false ↦ λ other. ap (λ o. cell_in o fid part) (find_put_other fid.fileset tree.filesets place old new there refl other)
    ] refl

-- locks and opens leave all objects
fates_checked : {A : Type 0} (tree : Tree) (checked : Result A Refusal) (after : A → Tree) (fid : Fid) (part : Part) → ((found : A) → (after found).filesets ≡ tree.filesets) →
    cell_at (either checked (λ found. let answer : Answer = record { reply = Done; tree = after found } in answer) (refuse tree)).tree fid part ≡ cell_at tree fid part
fates_checked tree (Ok found) after fid part same = ap (λ filesets. cell_in (find (has_id fid.fileset) filesets) fid part) (same found)
fates_checked tree (Err why) after fid part same = refl

fates_freed : (b : Bool) (tree after : Tree) (refusal : Refusal) (fid : Fid) (part : Part) → after.filesets ≡ tree.filesets →
    cell_at (if b then refuse tree refusal else (let answer : Answer = record { reply = Done; tree = after } in answer)).tree fid part ≡ cell_at tree fid part
fates_freed true tree after refusal fid part same = refl
fates_freed false tree after refusal fid part same = ap (λ filesets. cell_in (find (has_id fid.fileset) filesets) fid part) same

fates_for : (tree : Tree) (host : HostId) (call : CallOf) (fid : Fid) (part : Part) (user : User) → IsWellFormed tree →
    cell_at (answer_for tree host call user).tree fid part ≡ after_fate (fate_for tree host call fid (Some user)) (cell_at tree fid) part
unfolding answer_for new_fileset_answer clone_answer lock_answer unlock_answer open_answer close_answer move_answer
fates_for tree host (NewFileset server name objects owner) fid part user w = fates_new tree server name objects owner fid part (new_fileset_target tree server name objects) w refl
fates_for tree host (CloneFileset server source new) fid part user w = fates_clone tree user server source new fid part (clone_target tree user server source new) w refl
fates_for tree host (MoveFileset server name to) fid part user w = fates_move tree user server name to fid part (move_target tree user server name to) w refl
fates_for tree host (Lock label place writing from len) fid part user w = fates_checked tree (lock_check tree host user label place writing from len) _ fid part (λ found. refl)
fates_for tree host (Unlock label) fid part user w = fates_freed (not (has_lock tree.locks host label)) tree _ _ fid part refl
fates_for tree host (OpenFile label place kind) fid part user w = fates_checked tree (open_check tree host user label place kind) _ fid part (λ found. refl)
fates_for tree host (CloseFile label) fid part user w = fates_freed (not (has_open tree.opens host label)) tree _ _ fid part refl
fates_for tree host (Create place) fid part user w = fates_row tree host user (Create place) fid part w
fates_for tree host (MakeDir place) fid part user w = fates_row tree host user (MakeDir place) fid part w
fates_for tree host (Remove place) fid part user w = fates_row tree host user (Remove place) fid part w
fates_for tree host (Rename from to) fid part user w = fates_row tree host user (Rename from to) fid part w
fates_for tree host (Truncate place len) fid part user w = fates_row tree host user (Truncate place len) fid part w
fates_for tree host (SetAcl place which list) fid part user w = fates_row tree host user (SetAcl place which list) fid part w
fates_for tree host (Read place from len) fid part user w = fates_row tree host user (Read place from len) fid part w
fates_for tree host (Write place from bytes) fid part user w = fates_row tree host user (Write place from bytes) fid part w
fates_for tree host (ListNames place) fid part user w = fates_row tree host user (ListNames place) fid part w
fates_for tree host (Stat place) fid part user w = fates_row tree host user (Stat place) fid part w
fates_for tree host (GetAcl place which) fid part user w = fates_row tree host user (GetAcl place which) fid part w
fates_for tree host (Sync place) fid part user w = fates_row tree host user (Sync place) fid part w

fates_user : (tree : Tree) (found : Option User) (host : HostId) (call : CallOf) (fid : Fid) (part : Part) → IsWellFormed tree →
    cell_at (for_user tree found (answer_for tree host call)).tree fid part ≡ after_fate (fate_for tree host call fid found) (cell_at tree fid) part
fates_user tree None host call fid part w = refl
fates_user tree (Some user) host call fid part w = fates_for tree host call fid part user w

pub fates_call : (tree : Tree) (host : HostId) (call : CallOf) (fid : Fid) (part : Part) → IsWellFormed tree →
    cell_at (answer_to tree host call).tree fid part ≡ after_fate (fate_for tree host call fid (user_of tree.roster host)) (cell_at tree fid) part
unfolding answer_to
fates_call tree host call fid part w = fates_user tree (user_of tree.roster host) host call fid part w

-- a host stores
storable_file : (host : HostId) (spans : List Span) (stored : Option ℕ) (content : Content) → is_storable host spans stored content ≡ true → is_dir content ≡ false
storable_file host spans stored (Dir entries lists) h = absurd (search (rules, h))
storable_file host spans stored (File list kept unsaved len) h = refl

-- the use that a stored fid names
used_number : (is_it : Bool) (o : Option Object) (test : Content → Bool) → option_map_or test (cond is_it (option_map (λ object. object.content) o) None) false ≡ true → is_it ≡ true
used_number true o test h = refl
used_number false o test h = absurd (search (rules, h))

same_use : (fileset : Fileset) (stored_fid fid : Fid) → (stored_fid.fileset.0 == fid.fileset.0) ≡ true → unique_at fileset.anodes stored_fid.anode ≡ stored_fid.unique → names_use fileset stored_fid.anode fid ≡ same_fid stored_fid fid
same_use fileset stored_fid fid e u =
    ap (λ n. (stored_fid.anode == fid.anode) && (n == fid.unique)) u ∙ ap (λ t. t && (stored_fid.anode == fid.anode) && (stored_fid.unique == fid.unique)) (sym e)

other_fileset : (stored_fid fid : Fid) (id : FilesetId) → (id.0 == stored_fid.fileset.0) ≡ true → (id.0 == fid.fileset.0) ≡ false → same_fid stored_fid fid ≡ false
other_fileset stored_fid fid id e f =
    ap (λ t. t && (stored_fid.anode == fid.anode) && (stored_fid.unique == fid.unique)) (ap (λ n. n == fid.fileset.0) (sym (number_is id.0 stored_fid.fileset.0 e)) ∙ f)

one_fileset : (stored_fid fid : Fid) (id : FilesetId) → (id.0 == stored_fid.fileset.0) ≡ true → (id.0 == fid.fileset.0) ≡ true → (stored_fid.fileset.0 == fid.fileset.0) ≡ true
one_fileset stored_fid fid id e f = ap (λ n. n == fid.fileset.0) (sym (number_is id.0 stored_fid.fileset.0 e)) ∙ f

fates_stored : (tree : Tree) (place : ℕ) (found : Option Fileset) (host : HostId) (stored_fid : Fid) (spans : List Span) (stored : Option ℕ) (fid : Fid) (part : Part) → found ≡ slice_get tree.filesets place →
    found ≡ find (has_id stored_fid.fileset) tree.filesets → IsWellFormed tree → option_map_or (is_storable host spans stored) (option_and_then (λ fileset. content_in fileset stored_fid) found) false ≡ true →
    cell_in (find (has_id fid.fileset) (changed_at tree.filesets place (λ fileset. changed fileset stored_fid.anode (content_stored host spans stored)))) fid part
    ≡ after_fate (if same_fid stored_fid fid then IsStored host spans stored else Stays) (cell_at tree fid) part
unfolding updated
fates_stored tree place None host stored_fid spans stored fid part e its w may = absurd (search (rules, may))
fates_stored tree place (Some old) host stored_fid spans stored fid part e its w may =
    let change : Content → Content = content_stored host spans stored in
    let new : Fileset = changed old stored_fid.anode change in
    let put : changed_at tree.filesets place (λ fileset. changed fileset stored_fid.anode change) ≡ slice_set tree.filesets place new = sym (found_changed tree.filesets place old new (λ fileset. changed fileset stored_fid.anode change) e refl) in
    let named : has_id stored_fid.fileset old ≡ true = found_passes (has_id stored_fid.fileset) tree.filesets old (sym its) in
    let (object, there, storable) = tested_object (unique_at old.anodes stored_fid.anode == stored_fid.unique) (object_at old.anodes stored_fid.anode) (is_storable host spans stored) may in
    let number : unique_at old.anodes stored_fid.anode ≡ stored_fid.unique = number_is _ _ (used_number (unique_at old.anodes stored_fid.anode == stored_fid.unique) (object_at old.anodes stored_fid.anode) (is_storable host spans stored) may) in
    let sound : is_sound object.content ≡ true = (formed_at tree place old e w).sound stored_fid.anode object there in
    ap (λ filesets. cell_in (find (has_id fid.fileset) filesets) fid part) put
    ∙ elim (has_id fid.fileset old) as (λ t. has_id fid.fileset old ≡ t → cell_in (find (has_id fid.fileset) (slice_set tree.filesets place new)) fid part ≡ after_fate (if same_fid stored_fid fid then IsStored host spans stored else Stays) (cell_at tree fid) part) [
      | true ↦ λ its_too.
          ap (λ o. cell_in o fid part) (find_put fid.fileset tree.filesets place old new e w.ordered refl its_too)
          ∙ changed_parts old stored_fid.anode change (IsStored host spans stored) object fid part there
          (λ part. stored_parts old.read_only object.owner object.group host spans stored object.content part (storable_file host spans stored object.content storable) sound)
          ∙ ap (λ t. after_fate (if t then IsStored host spans stored else Stays) (parts_in old fid) part) (same_use old stored_fid fid (one_fileset stored_fid fid old.id named its_too) number)
          ∙ ap (λ o. after_fate (if same_fid stored_fid fid then IsStored host spans stored else Stays) (λ part. cell_in o fid part) part) (sym (find_at_place fid.fileset tree.filesets place old e w.ordered its_too))
      | false ↦ λ other.
          ap (λ o. cell_in o fid part) (find_put_other fid.fileset tree.filesets place old new e refl other)
          ∙ ap (λ t. after_fate (if t then IsStored host spans stored else Stays) (cell_at tree fid) part) (sym (other_fileset stored_fid fid old.id named other))
    ] refl

fates_store : (tree : Tree) (host : HostId) (stored_fid : Fid) (spans : List Span) (stored : Option ℕ) (fid : Fid) (part : Part) → IsWellFormed tree → may_store tree host stored_fid spans stored ≡ true →
    cell_at (stored_tree tree host stored_fid spans stored) fid part ≡ after_fate (if same_fid stored_fid fid then IsStored host spans stored else Stays) (cell_at tree fid) part
unfolding stored_tree
fates_store tree host stored_fid spans stored fid part w may =
    fates_stored tree (place_with_id tree.filesets stored_fid.fileset) (find (has_id stored_fid.fileset) tree.filesets) host stored_fid spans stored fid part
    (place_found (has_id stored_fid.fileset) tree.filesets ∙ ap (λ i. slice_get tree.filesets i) (sym (position_or_end (has_id stored_fid.fileset) tree.filesets))) refl w may

-- whether a fileset that is found is at a server
none_later : (id : FilesetId) (server : ServerId) (filesets : List Fileset) (n : ℕ) → (n == id.0) ≡ true → list_all (λ other. nat_lt n other.id.0) filesets ≡ true → is_at filesets server id ≡ false
none_later id server [] n e h = refl
none_later id server (x ∷ xs) n e h =
    let before : nat_lt n x.id.0 ≡ true = and_left _ _ h in
    let same = number_is n id.0 e in
    let f : (x.id.0 == id.0) ≡ false = grind (arith, common_steps, before, same) in
    rw f (none_later id server xs n e (and_right _ _ h))

pub at_found : (id : FilesetId) (server : ServerId) (filesets : List Fileset) (fileset : Fileset) → ids_rise filesets ≡ true → find (has_id id) filesets ≡ Some fileset → is_at filesets server id ≡ (fileset.server.0 == server.0)
at_found id server [] fileset r = λ h. absurd (search (rules, h))
at_found id server (x ∷ xs) fileset r =
    elim (has_id id x) as (λ t. has_id id x ≡ t → cond t (Some x) (find (has_id id) xs) ≡ Some fileset → ((t && (x.server.0 == server.0)) || is_at xs server id) ≡ (fileset.server.0 == server.0)) [
      | true ↦ λ e h.
          let same : x ≡ fileset = cc in
          ap (λ t. (x.server.0 == server.0) || t) (none_later id server xs x.id.0 e (and_left _ _ r)) ∙ or_none (x.server.0 == server.0) ∙ ap (λ f. f.server.0 == server.0) same
      | false ↦ λ e h. at_found id server xs fileset (and_right _ _ r) h
    ] refl
  where
    or_none : (b : Bool) → (b || false) ≡ b
    or_none true = refl
    or_none false = refl

-- a host is down
forgotten_nothing : (host : HostId) (part : Part) → no_cell part ≡ after_fate (IsForgotten host) no_cell part
forgotten_nothing host (ByteAt at) = refl
forgotten_nothing host Size = refl
forgotten_nothing host Traits = refl
forgotten_nothing host Entries = refl

forgotten_object : (fileset : Fileset) (host : HostId) (fid : Fid) (part : Part) (o : Option Object) → ((object : Object) → o ≡ Some object → is_sound object.content ≡ true) →
    cell_found fileset.read_only (option_map (content_changed (content_forgotten host)) o) part ≡ after_fate (IsForgotten host) (λ part. cell_found fileset.read_only o part) part
forgotten_object fileset host fid part None sound = forgotten_nothing host part
forgotten_object fileset host fid part (Some object) sound = forgotten_parts fileset.read_only object.owner object.group host object.content part (sound object refl)

in_use_there : (b : Bool) (o : Option Object) (object : Object) → cond b o None ≡ Some object → o ≡ Some object
in_use_there true o object h = h
in_use_there false o object h = absurd (search (rules, h))

fates_found : (tree : Tree) (found : Option Fileset) (host : HostId) (server : ServerId) (fid : Fid) (part : Part) → found ≡ find (has_id fid.fileset) tree.filesets → IsWellFormed tree →
    cell_in (option_map (λ fileset. if fileset.server.0 == server.0 then fileset_forgotten host fileset else fileset) found) fid part
    ≡ after_fate (if is_at tree.filesets server fid.fileset then IsForgotten host else Stays) (λ part. cell_in found fid part) part
fates_found tree None host server fid part e w = either_way (is_at tree.filesets server fid.fileset)
  where
    either_way : (b : Bool) → no_cell part ≡ after_fate (if b then IsForgotten host else Stays) no_cell part
    either_way true = forgotten_nothing host part
    either_way false = refl
fates_found tree (Some fileset) host server fid part e w =
    let formed = formed_found (has_id fid.fileset) tree.filesets fileset w.filesets (sym e) in
    elim (fileset.server.0 == server.0) as (λ t. cell_in (Some (if t then fileset_forgotten host fileset else fileset)) fid part ≡ after_fate (if t then IsForgotten host else Stays) (parts_in fileset fid) part) [
      | true ↦
          ap (λ o. cell_found fileset.read_only o part) (use_mapped fileset (fileset_forgotten host fileset) (content_forgotten host) fid refl)
          ∙ forgotten_object fileset host fid part (object_in fileset fid) (λ object h. formed.sound fid.anode object (in_use_there (unique_at fileset.anodes fid.anode == fid.unique) (object_at fileset.anodes fid.anode) object h))
      | false ↦ refl
    ]
    ∙ ap (λ t. after_fate (if t then IsForgotten host else Stays) (parts_in fileset fid) part) (sym (at_found fid.fileset server tree.filesets fileset w.ordered (sym e)))

fates_down : (tree : Tree) (host : HostId) (server : ServerId) (fid : Fid) (part : Part) → IsWellFormed tree →
    cell_at (down_tree tree host server) fid part ≡ after_fate (if is_at tree.filesets server fid.fileset then IsForgotten host else Stays) (cell_at tree fid) part
unfolding down_tree
fates_down tree host server fid part w =
    ap (λ o. cell_in o fid part) (find_map fid.fileset (λ fileset. if fileset.server.0 == server.0 then fileset_forgotten host fileset else fileset) (same_after host server) tree.filesets)
    ∙ fates_found tree (find (has_id fid.fileset) tree.filesets) host server fid part refl w

-- a record goes
fates_left : (tree : Tree) (server : ServerId) (id : FilesetId) (fid : Fid) (part : Part) → cell_at (left_tree tree server id) fid part ≡ cell_at tree fid part
unfolding left_tree
fates_left tree server id fid part = refl

-- each legal entry
pub parts_change_so : PartsChangeSo
parts_change_so tree (Call host k call reply) fid part w legal = fates_call tree host call fid part w
parts_change_so tree (Stored host stored_fid spans stored) fid part w legal = fates_store tree host stored_fid spans stored fid part w legal
parts_change_so tree (Down host server) fid part w legal = fates_down tree host server fid part w
parts_change_so tree (Left server id) fid part w legal = fates_left tree server id fid part
