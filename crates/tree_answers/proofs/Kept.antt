-- A well formed tree stays so.
use Rattle.std.proofs.Common.{◌≡◌, ℕ, suc, ◌+◌, ◌-◌, ◌<◌, ◌≤◌, ◌≢◌, ◌==◌, nat_lt, nat_le, Bool, true, false, ◌&&◌, ◌||◌, not, cond, List, [], ◌∷◌, length, insert, Option, Some, None, Result, Ok, Err, refl, sym, ap, ◌∙◌, subst, arith, rules, length-set, lit≤}
use Rattle.std.specs.Prelude.{slice_get, slice_set, map, if◌then◌else◌}
use Rattle.std.specs.List.{find, list_any, list_all}
use Rattle.std.specs.Option.{option_map, option_map_or, option_and_then}
use Rattle.std.proofs.lemmas.Grind.{common_steps}
use Rattle.base_types.specs.Outcomes.{either}
use Rattle.base_types.specs.declared.ids.HostId.{HostId}
use Rattle.base_types.specs.declared.ids.ServerId.{ServerId}
use Rattle.base_types.specs.declared.ids.FilesetId.{FilesetId}
use Rattle.base_types.specs.declared.ids.Fid.{Fid}
use Rattle.base_types.specs.declared.ids.OpenKind.{OpenKind}
use Rattle.base_types.specs.declared.span.Span.{Span}
use Rattle.base_types.specs.declared.user.User.{User}
use Rattle.base_types.specs.declared.limits.TheConstants.{FILESET_NUMBER_MAX, FILESETS_MAX, OBJECTS_MAX, LABELS_MAX, FILE_BYTES_MAX}
use Rattle.tree_calls.specs.declared.call.Call.{Call as CallOf}
use Rattle.tree_calls.specs.declared.call.Call.TheVariants.{NewFileset, Create, MakeDir, Remove, Rename, Truncate, SetAcl, CloneFileset, Read, Write, List as ListNames, Stat, GetAcl, Sync, Lock, Unlock, OpenFile, CloseFile, MoveFileset}
use Rattle.tree_calls.specs.declared.entry.Entry.{Entry}
use Rattle.tree_calls.specs.declared.entry.Entry.TheVariants.{Call, Stored, Down, Left}
use Rattle.tree_calls.specs.declared.place.Place.{Place}
use Rattle.tree_calls.specs.declared.reply.Refusal.{Refusal}
use Rattle.tree_calls.specs.declared.reply.Refusal.TheVariants.{NoFileset, NotHome, InUse, ReadOnly, AlreadyLocked, AlreadyOpened, TooMany, TooBig, Locked, OpenConflict, Exists, NoRoom}
use Rattle.tree_calls.specs.declared.reply.Reply.TheVariants.{Ok as Done}
use Rattle.tree_objects.specs.declared.content.Content.{Content}
use Rattle.tree_objects.specs.declared.content.Object.{Object}
use Rattle.tree_objects.specs.Changes.{content_forgotten}
use Rattle.tree_objects.specs.Spans.{span_between}
use Rattle.tree_objects.specs.Stores.{content_stored, is_storable}
use Rattle.tree_objects.specs.Objects.{is_dir}
use Rattle.tree_objects.proofs.Observed.{and_left, and_right}
use Rattle.tree_objects.proofs.Rising.{and_both, all_filter, all_implied}
use Rattle.tree_objects.proofs.StaysSound.{sound_storable, sound_forgotten}
use Rattle.tree_filesets.specs.declared.fileset.Fileset.{Fileset}
use Rattle.tree_filesets.specs.Founding.{new_fileset, cloned, control_check}
use Rattle.tree_filesets.specs.Promises.{promise, new_promise, clone_promise}
use Rattle.tree_filesets.specs.Laws.{is_file_at}
use Rattle.tree_filesets.specs.Rows.{fileset_answer}
use Rattle.tree_filesets.specs.Updates.{updated, changed}
use Rattle.tree_filesets.specs.Uses.{use_target, lock_target, open_target, is_changing, right_to_open}
use Rattle.tree_filesets.specs.Rights.{read_right, write_right}
use Rattle.tree_filesets.specs.Checks.{permission}
use Rattle.tree_filesets.specs.Walk.{object_at, unique_at, file_target}
use Rattle.tree_filesets.specs.WellFormed.{IsWellFormed as IsWellFormedFileset}
use Rattle.tree_filesets.proofs.Alike.{alike_changed, well_formed_alike}
use Rattle.tree_filesets.proofs.Mapped.{alike_mapped}
use Rattle.tree_filesets.proofs.Observations.{object_from, object_not_zero}
use Rattle.tree_filesets.proofs.Stays.{stays_itself, used_file_stays, file_stays_alike}
use Rattle.tree_filesets.proofs.StaysWellFormed.{stays_well_formed, stored_entries, forgotten_entries}
use Rattle.tree_filesets.proofs.Starts.{starts_well_formed}
use Rattle.tree_filesets.proofs.Targets.{then_ok, unless_ok, ok_is, file_target_ok, file_target_file}
use Rattle.tree_calls.specs.declared.roster.Roster.{Roster}
use Rattle.tree_answers.specs.declared.tree.Tree.{Tree}
use Rattle.tree_answers.specs.declared.tree.ServerRoom.{ServerRoom}
use Rattle.tree_answers.specs.declared.tree.LockUse.{LockUse}
use Rattle.tree_answers.specs.declared.tree.OpenUse.{OpenUse}
use Rattle.tree_calls.specs.Rosters.{user_of}
use Rattle.tree_answers.specs.Finding.{Answer, refuse, is_named, has_id, found_or, leads_to, fileset_place, fileset_named, is_taken, id_place}
use Rattle.tree_answers.specs.Founding.{new_room, new_tree, room_of, slot_for, blocks_for, room_for, away_promise, away_promised, promised_at, away_count, count_at, next_id, with_fileset, new_fileset_target, new_fileset_answer, clone_source, clone_target, clone_answer}
use Rattle.tree_answers.specs.Uses.{is_used}
use Rattle.tree_answers.specs.Locks.{lock_answer, lock_check, lock_place, with_lock, unlock_answer, has_lock, lock_count, is_own_locked, is_excluded}
use Rattle.tree_answers.specs.Opens.{open_answer, open_check, open_place, with_open, close_answer, has_open, open_count, is_barred}
use Rattle.tree_answers.specs.Answers.{for_user, answer_at, deciding_place, fileset_row, answer_for, answer_to}
use Rattle.tree_answers.specs.Stores.{content_in, may_store, place_with_id, stored_tree}
use Rattle.tree_answers.specs.Losses.{fileset_forgotten, down_tree}
use Rattle.tree_answers.specs.Histories.{IsLegal, after_entry}
use Rattle.tree_answers.specs.WellFormed.{is_declared, is_given, AreWellFormed, records_rise, record_names_differ, is_elsewhere, AreRecords, rests_if_clone, names_file, IsWellFormed, is_limited}
use Rattle.tree_calls.specs.Limits.{is_between, keeps_limits, keeps_limit}
use Rattle.tree_filesets.specs.declared.fileset.TheConstants.{MOVES_MAX}
use Rattle.tree_filesets.proofs.Clones.{clone_shows_source}
use Rattle.tree_filesets.proofs.Moved.{cloned_rests}
use Rattle.tree_answers.specs.declared.tree.Away.{Away}
use Rattle.tree_answers.specs.Away.{is_away, is_away_named, has_away, away_before, room_freed}
use Rattle.tree_answers.specs.Moving.{is_fileset_used, is_taken_by_other, with_moved, move_source, leave_check, move_room, move_target, move_answer, left_tree}
use Rattle.tree_answers.proofs.Places.{equal_is, found_by_id, all_set, none_all}
use Rattle.tree_answers.proofs.Totals.{total, sum_total}
use Rattle.tree_answers.proofs.AfterMove.{IsMove, formed_moved}
use Rattle.tree_answers.proofs.Resting.{settled_stored, rest_forgotten, row_rests, rest_stored, settled_there}
use Rattle.tree_answers.proofs.Followed.{all_both, Follows, follows_itself, set_follows, changed_follows, map_follows, well_formed_followed}
use Rattle.tree_answers.proofs.Inserted.{IsFresh, all_insert, position_or_end, found_there, or_first, or_second, ordered_insert, named_insert, formed_insert, names_insert, free_insert, elsewhere_insert, count_insert, promised_insert, away_promised_insert, room_within, set_here, set_other, declared_by_room, fresh_id, given_after, given_now}

-- a row of one fileset
pub row_follows : (fileset : Fileset) (in_use : Fid → Bool) (host : HostId) (user : User) (call : CallOf) → Follows in_use fileset (fileset_answer fileset in_use host user call).fileset
row_follows fileset in_use host user call = record {
  same = stays_itself fileset in_use host user call;
  formed = λ w. stays_well_formed fileset in_use host user call w;
  files = λ fid w e u h. used_file_stays fileset in_use host user call fid w e u h;
  clone = λ r q. row_rests fileset in_use host user call r q;
}

formed_at : (tree : Tree) (place : ℕ) (found : Option Fileset) (host : HostId) (user : User) (call : CallOf) → found ≡ slice_get tree.filesets place → IsWellFormed tree →
    IsWellFormed (answer_at tree place found (λ fileset. fileset_answer fileset (is_used tree.locks tree.opens) host user call)).tree
formed_at tree place None host user call e w = w
formed_at tree place (Some fileset) host user call e w =
    let used = is_used tree.locks tree.opens in
    let after : Fileset = (fileset_answer fileset used host user call).fileset in
    well_formed_followed tree (slice_set tree.filesets place after) w (set_follows used tree.filesets place fileset after e (row_follows fileset used host user call))

formed_place : (tree : Tree) (found : Result ℕ Refusal) (host : HostId) (user : User) (call : CallOf) → IsWellFormed tree →
    IsWellFormed (either found (λ place. answer_at tree place (slice_get tree.filesets place) (λ fileset. fileset_answer fileset (is_used tree.locks tree.opens) host user call)) (refuse tree)).tree
formed_place tree (Err why) host user call w = w
formed_place tree (Ok place) host user call w = formed_at tree place (slice_get tree.filesets place) host user call refl w

formed_row : (tree : Tree) (host : HostId) (user : User) (call : CallOf) → IsWellFormed tree → IsWellFormed (fileset_row tree host user call).tree
unfolding fileset_row
formed_row tree host user call w = formed_place tree (deciding_place tree call) host user call w

-- other locks, other opens
same_records : (old new : Tree) → AreRecords old → new.away ≡ old.away → new.filesets ≡ old.filesets → new.servers ≡ old.servers → AreRecords new
same_records old new w a f s = record {
  ordered = rw a w.ordered;
  named = rw a w.named;
  free = rw (a, f) w.free;
  declared = rw (a, s) w.declared;
  elsewhere = rw (a, f) w.elsewhere;
}

with_locks : (tree : Tree) (locks : List LockUse) → IsWellFormed tree → list_all (λ lock. names_file tree.filesets lock.fid) locks ≡ true → IsWellFormed (record tree { locks = locks })
with_locks tree locks w h = record {
  roster = w.roster;
  servers = w.servers;
  ordered = w.ordered;
  named = w.named;
  declared = w.declared;
  given = w.given;
  filesets = w.filesets;
  clones = w.clones;
  away = same_records tree _ w.away refl refl refl;
  counted = w.counted;
  promised = w.promised;
  numbers = w.numbers;
  locks = h;
  opens = w.opens;
}

with_opens : (tree : Tree) (opens : List OpenUse) → IsWellFormed tree → list_all (λ opened. names_file tree.filesets opened.fid) opens ≡ true → IsWellFormed (record tree { opens = opens })
with_opens tree opens w h = record {
  roster = w.roster;
  servers = w.servers;
  ordered = w.ordered;
  named = w.named;
  declared = w.declared;
  given = w.given;
  filesets = w.filesets;
  clones = w.clones;
  away = same_records tree _ w.away refl refl refl;
  counted = w.counted;
  promised = w.promised;
  numbers = w.numbers;
  locks = w.locks;
  opens = h;
}

-- the file that a lock or an open is on
use_there : (fileset : Fileset) (user : User) (path : List (List ℕ)) (changing : Bool) (right : ℕ) (fid : Fid) → use_target fileset user path changing right ≡ Ok fid → (is_file_at fileset fid ≡ true) × (fid.fileset ≡ fileset.id)
unfolding use_target
use_there fileset user path changing right fid h =
    let (found, e, h1) = then_ok (file_target fileset user path) _ fid h in
    let (free, h2) = unless_ok (changing && fileset.read_only) ReadOnly _ fid h1 in
    let (allowed, p, h3) = then_ok (permission found.1 user right) _ fid h2 in
    let walked = file_target_ok fileset user path found e in
    let file = file_target_file fileset user path found e in
    let same = ok_is _ fid h3 in
    let its : Fid = record { fileset = fileset.id; anode = found.0; unique = unique_at fileset.anodes found.0 } in
    let unique : (unique_at fileset.anodes found.0 == unique_at fileset.anodes found.0) ≡ true = grind (arith, common_steps) in
    let there : is_file_at fileset its ≡ true = and_both _ _ unique (ap (λ o. option_map_or (λ object. not (is_dir object.content)) o false) walked.there ∙ ap not file) in
    (subst (λ f. is_file_at fileset f ≡ true) same there, sym (ap (λ f. f.fileset) same))

named_found : (o : Option Fileset) (fileset : Fileset) → found_or o NoFileset ≡ Ok fileset → o ≡ Some fileset
named_found None fileset h = absurd (search (rules, h))
named_found (Some x) fileset h = ap Some (ok_is x fileset h)

-- the fileset of a name is among those that are there
pub named_is : (tree : Tree) (server : ServerId) (name : List ℕ) (fileset : Fileset) → fileset_named tree server name ≡ Ok fileset → find (leads_to tree server name) tree.filesets ≡ Some fileset
unfolding fileset_named
named_is tree server name fileset e = named_found (find (leads_to tree server name) tree.filesets) fileset e

named_there : (tree : Tree) (place : Place) (fileset : Fileset) (fid : Fid) → IsWellFormed tree → fileset_named tree place.server place.fileset ≡ Ok fileset → is_file_at fileset fid ≡ true → fid.fileset ≡ fileset.id → names_file tree.filesets fid ≡ true
named_there tree place fileset fid w e there its =
    let found = found_by_id (leads_to tree place.server place.fileset) tree.filesets fileset (named_is tree place.server place.fileset fileset e) w.ordered in
    ap (λ id. option_map_or (λ f. is_file_at f fid) (find (has_id id) tree.filesets) false) its ∙ ap (λ o. option_map_or (λ f. is_file_at f fid) o false) found ∙ there

lock_there : (tree : Tree) (host : HostId) (user : User) (label : List ℕ) (place : Place) (writing : Bool) (from len : ℕ) (found : Fid × Span) → IsWellFormed tree →
    lock_check tree host user label place writing from len ≡ Ok found → names_file tree.filesets found.0 ≡ true
unfolding lock_check
lock_there tree host user label place writing from len found w h =
    let (a, h1) = unless_ok (has_lock tree.locks host label) AlreadyLocked _ found h in let (b, h2) = unless_ok (nat_le LABELS_MAX (lock_count tree.locks host)) TooMany _ found h1 in
    let (fileset, e, h3) = then_ok (fileset_named tree place.server place.fileset) _ found h2 in
    let (fid, led, h4) = then_ok (lock_target fileset user place.path writing) _ found h3 in
    let span = span_between from (from + len) in
    let (c, h5) = unless_ok (nat_lt FILE_BYTES_MAX (from + len)) TooBig _ found h4 in
    let (d, h6) = unless_ok (is_own_locked tree.locks host fid span) AlreadyLocked _ found h5 in
    let (f, h7) = unless_ok (is_excluded tree.locks host fid span writing) Locked _ found h6 in
    let same : fid ≡ found.0 = ap (λ x. x.0) (ok_is _ found h7) in
    let (there, its) = use_there fileset user place.path writing (if writing then write_right else read_right) fid led in
    subst (λ x. names_file tree.filesets x ≡ true) same (named_there tree place fileset fid w e there its)

formed_lock : (tree : Tree) (host : HostId) (label : List ℕ) (writing : Bool) (checked : Result (Fid × Span) Refusal) → IsWellFormed tree → ((found : Fid × Span) → checked ≡ Ok found → names_file tree.filesets found.0 ≡ true) →
    IsWellFormed (either checked (λ (fid, span). let answer : Answer = record { reply = Done; tree = with_lock tree (record { host = host; label = label; fid = fid; writing = writing; span = span }) } in answer) (refuse tree)).tree
formed_lock tree host label writing (Err why) w k = w
formed_lock tree host label writing (Ok found) w k = with_locks tree _ w (all_insert (λ lock. names_file tree.filesets lock.fid) _ (lock_place tree.locks host label) tree.locks (k found refl) w.locks)

open_there : (tree : Tree) (host : HostId) (user : User) (label : List ℕ) (place : Place) (kind : OpenKind) (found : Fid) → IsWellFormed tree →
    open_check tree host user label place kind ≡ Ok found → names_file tree.filesets found ≡ true
unfolding open_check
open_there tree host user label place kind found w h =
    let (a, h1) = unless_ok (has_open tree.opens host label) AlreadyOpened _ found h in let (b, h2) = unless_ok (nat_le LABELS_MAX (open_count tree.opens host)) TooMany _ found h1 in
    let (fileset, e, h3) = then_ok (fileset_named tree place.server place.fileset) _ found h2 in
    let (fid, led, h4) = then_ok (open_target fileset user place.path kind) _ found h3 in
    let (c, h5) = unless_ok (is_barred tree.opens host fid kind) OpenConflict _ found h4 in
    let same : fid ≡ found = ok_is fid found h5 in
    let (there, its) = use_there fileset user place.path (is_changing kind) (right_to_open kind) fid led in
    subst (λ x. names_file tree.filesets x ≡ true) same (named_there tree place fileset fid w e there its)

formed_open : (tree : Tree) (host : HostId) (label : List ℕ) (kind : OpenKind) (checked : Result Fid Refusal) → IsWellFormed tree → ((found : Fid) → checked ≡ Ok found → names_file tree.filesets found ≡ true) →
    IsWellFormed (either checked (λ fid. let answer : Answer = record { reply = Done; tree = with_open tree (record { host = host; label = label; fid = fid; kind = kind }) } in answer) (refuse tree)).tree
formed_open tree host label kind (Err why) w k = w
formed_open tree host label kind (Ok found) w k = with_opens tree _ w (all_insert (λ opened. names_file tree.filesets opened.fid) _ (open_place tree.opens host label) tree.opens (k found refl) w.opens)

formed_unlock : (is_there : Bool) (tree : Tree) (why : Refusal) (locks : List LockUse) → IsWellFormed tree → list_all (λ lock. names_file tree.filesets lock.fid) locks ≡ true →
    IsWellFormed (cond {A = Answer} (not is_there) (refuse tree why) (record { reply = Done; tree = record tree { locks = locks } })).tree
formed_unlock true tree why locks w h = with_locks tree locks w h
formed_unlock false tree why locks w h = w

formed_close : (is_there : Bool) (tree : Tree) (why : Refusal) (opens : List OpenUse) → IsWellFormed tree → list_all (λ opened. names_file tree.filesets opened.fid) opens ≡ true →
    IsWellFormed (cond {A = Answer} (not is_there) (refuse tree why) (record { reply = Done; tree = record tree { opens = opens } })).tree
formed_close true tree why opens w h = with_opens tree opens w h
formed_close false tree why opens w h = w

-- a server's room for a new fileset that is promised so many blocks
pub record IsRoom (tree : Tree) (server : ServerId) (blocks : ℕ) (room : ServerRoom) : Type 0 where
  pub there : room_of tree.servers server ≡ Some room
  pub number : room.next ≤ FILESET_NUMBER_MAX
  pub counted : count_at tree server < FILESETS_MAX
  pub fits : promised_at tree server + blocks ≤ room.capacity

found_room : (o : Option ServerRoom) (room : ServerRoom) → found_or o TooMany ≡ Ok room → o ≡ Some room
found_room None room h = absurd (search (rules, h))
found_room (Some x) room h = ap Some (ok_is x room h)

slot_ok : (tree : Tree) (server : ServerId) (is_recorded : Bool) (room : ServerRoom) → slot_for tree server is_recorded ≡ Ok room →
    ((not is_recorded && nat_le FILESETS_MAX (count_at tree server)) ≡ false) × (room_of tree.servers server ≡ Some room)
slot_ok tree server is_recorded room h =
    let (a, h1) = unless_ok (not is_recorded && nat_le FILESETS_MAX (count_at tree server)) TooMany (found_or (room_of tree.servers server) TooMany) room h in
    (a, found_room (room_of tree.servers server) room h1)

blocks_ok : (tree : Tree) (server : ServerId) (room : ServerRoom) (blocks : ℕ) (found : ServerRoom) → blocks_for tree server room blocks ≡ Ok found → (promised_at tree server + blocks ≤ room.capacity) × (room ≡ found)
blocks_ok tree server room blocks found h =
    let (a, h1) = unless_ok (nat_lt room.capacity (promised_at tree server + blocks)) NoRoom (Ok room) found h in
    let fits : promised_at tree server + blocks ≤ room.capacity = grind (arith, common_steps, a) in
    (fits, ok_is room found h1)

pub room_ok : (tree : Tree) (server : ServerId) (blocks : ℕ) (room : ServerRoom) → room_for tree server blocks ≡ Ok room → IsRoom tree server blocks room
unfolding room_for
room_ok tree server blocks room h =
    let (found, e, h1) = then_ok (slot_for tree server false) _ room h in
    let (few, there) = slot_ok tree server false found e in
    let (b, h2) = unless_ok (nat_lt FILESET_NUMBER_MAX found.next) TooMany (blocks_for tree server found blocks) room h1 in
    let (fits, same) = blocks_ok tree server found blocks room h2 in
    let number : found.next ≤ FILESET_NUMBER_MAX = grind (arith, common_steps, b) in
    let less : count_at tree server < FILESETS_MAX = grind (arith, common_steps, few) in
    subst (IsRoom tree server blocks) same (record { there = there; number = number; counted = less; fits = fits })

-- each server has promised no more than it offers, and its number is in range
blocks_with : (tree : Tree) (server : ServerId) (room : ServerRoom) (new : Fileset) (at : ServerId) → IsWellFormed tree → IsFresh tree.filesets new.id →
    promised_at (with_fileset tree server room new) at ≡ (if new.server.0 == at.0 then promise new else 0) + promised_at tree at
blocks_with tree server room new at w fresh =
    let filesets = promised_insert new (id_place tree.filesets new.id) tree.filesets at in
    let records = away_promised_insert new (id_place tree.filesets new.id) tree.filesets tree.away at fresh w.away.elsewhere in
    omega (arith, filesets, records)

not_equal : (a b : ℕ) → (a == b) ≡ false → a ≡ b → ⊥
not_equal a b k s = let t : (a == b) ≡ true = grind (arith, common_steps, s) in let wrong : false ≡ true = sym k ∙ t in search (rules, wrong)

-- the room of a server after one of its numbers was given
room_after : (rooms : List ServerRoom) (server at : ServerId) (room found : ServerRoom) → room_of rooms server ≡ Some room → room_of (slice_set rooms (server.0 - 1) (record room { next = room.next + 1 })) at ≡ Some found → (server.0 == at.0) ≡ true → room.capacity ≡ found.capacity
room_after rooms server at room found r h e =
    let raise : ServerRoom = record room { next = room.next + 1 } in
    let one : server ≡ at = ap (λ n. let id : ServerId = record { 0 = n } in id) (equal_is server.0 at.0 e) in
    let (some, there) = room_within rooms server room r in
    let zero_not : (server.0 == 0) ≡ false = grind (arith, common_steps, some) in
    let now : room_of (slice_set rooms (server.0 - 1) raise) server ≡ Some raise = ap (λ t. cond t None (slice_get (slice_set rooms (server.0 - 1) raise) (server.0 - 1))) zero_not ∙ set_here rooms (server.0 - 1) room raise there in
    let here : Some raise ≡ Some found = sym now ∙ ap (λ s. room_of (slice_set rooms (server.0 - 1) raise) s) one ∙ h in
    let its : raise ≡ found = cc in
    ap (λ x. x.capacity) its

room_other : (rooms : List ServerRoom) (server at : ServerId) (room found : ServerRoom) → room_of rooms server ≡ Some room → room_of (slice_set rooms (server.0 - 1) (record room { next = room.next + 1 })) at ≡ Some found → (server.0 == at.0) ≡ false → room_of rooms at ≡ Some found
room_other rooms server at room found r h e =
    let raise : ServerRoom = record room { next = room.next + 1 } in
    let (some, there) = room_within rooms server room r in
    let (at_some, at_there) = room_within (slice_set rooms (server.0 - 1) raise) at found h in
    let apart : at.0 - 1 ≢ server.0 - 1 = λ k. not_equal server.0 at.0 e (omega (arith, some, at_some, k)) in
    let at_not : (at.0 == 0) ≡ false = grind (arith, common_steps, at_some) in
    ap (λ t. cond t None (slice_get rooms (at.0 - 1))) at_not ∙ sym (set_other rooms (server.0 - 1) (at.0 - 1) raise apart) ∙ at_there

promised_with : (tree : Tree) (server : ServerId) (room : ServerRoom) (new : Fileset) (at : ServerId) (found : ServerRoom) → IsWellFormed tree → IsRoom tree server (promise new) room → new.server ≡ server →
    IsFresh tree.filesets new.id → room_of (slice_set tree.servers (server.0 - 1) (record room { next = room.next + 1 })) at ≡ Some found →
    promised_at (with_fileset tree server room new) at ≤ found.capacity
promised_with tree server room new at found w r is_at fresh h = by_test (server.0 == at.0) refl
  where
    by_test : (b : Bool) → (server.0 == at.0) ≡ b → promised_at (with_fileset tree server room new) at ≤ found.capacity
    by_test true e =
        let one : server ≡ at = ap (λ n. let id : ServerId = record { 0 = n } in id) (equal_is server.0 at.0 e) in
        let capacity = room_after tree.servers server at room found r.there h e in
        let counts : (if new.server.0 == at.0 then promise new else 0) ≡ promise new = ap (λ s. if s.0 == at.0 then promise new else 0) is_at ∙ ap (λ t. if t then promise new else 0) e in
        let fits : promised_at tree at + promise new ≤ room.capacity = subst (λ s. promised_at tree s + promise new ≤ room.capacity) one r.fits in
        let n = blocks_with tree server room new at w fresh in
        omega (arith, n, counts, fits, capacity)
    by_test false e =
        let counts : (if new.server.0 == at.0 then promise new else 0) ≡ 0 = ap (λ s. if s.0 == at.0 then promise new else 0) is_at ∙ ap (λ t. if t then promise new else 0) e in
        let before = w.promised at found (room_other tree.servers server at room found r.there h e) in
        let n = blocks_with tree server room new at w fresh in
        omega (arith, n, counts, before)

counted_with : (tree : Tree) (server : ServerId) (room : ServerRoom) (new : Fileset) (at : ServerId) → IsWellFormed tree → count_at tree server < FILESETS_MAX → new.server ≡ server → count_at (with_fileset tree server room new) at ≤ FILESETS_MAX
counted_with tree server room new at w few is_at = by_test (server.0 == at.0) refl
  where
    more : count_at (with_fileset tree server room new) at ≡ cond (new.server.0 == at.0) 1 0 + count_at tree at
    more = let filesets = count_insert new (id_place tree.filesets new.id) tree.filesets at in omega (arith, filesets)

    by_test : (b : Bool) → (server.0 == at.0) ≡ b → count_at (with_fileset tree server room new) at ≤ FILESETS_MAX
    by_test true e =
        let one : server ≡ at = ap (λ n. let id : ServerId = record { 0 = n } in id) (equal_is server.0 at.0 e) in
        let counts : ◌≡◌ {A = ℕ} (cond (new.server.0 == at.0) 1 0) 1 = ap (λ s. cond (s.0 == at.0) 1 0) is_at ∙ ap (λ t. cond t 1 0) e in
        let less : count_at tree at < FILESETS_MAX = subst (λ s. count_at tree s < FILESETS_MAX) one few in
        let n = more in
        omega (arith, n, counts, less)
    by_test false e =
        let counts : ◌≡◌ {A = ℕ} (cond (new.server.0 == at.0) 1 0) 0 = ap (λ s. cond (s.0 == at.0) 1 0) is_at ∙ ap (λ t. cond t 1 0) e in
        let before = w.counted at in
        let n = more in
        omega (arith, n, counts, before)

-- a tree with a fileset more
formed_with : (tree : Tree) (server : ServerId) (room : ServerRoom) (new : Fileset) → IsWellFormed tree → IsRoom tree server (promise new) room →
    new.id ≡ next_id server room → new.server ≡ server → is_taken tree server new.name ≡ false → rests_if_clone new ≡ true → IsWellFormedFileset new → IsWellFormed (with_fileset tree server room new)
formed_with tree server room new w is_room id at free rests formed =
    let r = is_room.there in let n = is_room.number in
    let raised : ServerRoom = record room { next = room.next + 1 } in
    let place = id_place tree.filesets new.id in
    let servers = slice_set tree.servers (server.0 - 1) raised in
    let as_many : length servers ≡ length tree.servers = length-set tree.servers (server.0 - 1) raised in
    let fresh : IsFresh tree.filesets new.id = subst (λ i. IsFresh tree.filesets i) (sym id) (fresh_id tree.servers server room tree.filesets n r w.given) in
    let declared_here : is_declared (length servers) new.server ≡ true = subst (λ s. is_declared (length servers) s ≡ true) (sym at) (ap (λ k. is_declared k server) as_many ∙ declared_by_room tree.servers server room r) in
    let declared_all : list_all (λ fileset. is_declared (length servers) fileset.server) tree.filesets ≡ true = ap (λ k. list_all (λ fileset. is_declared k fileset.server) tree.filesets) as_many ∙ w.declared in
    let given_here : is_given servers new.id ≡ true = subst (λ i. is_given servers i ≡ true) (sym id) (given_now tree.servers server room n r) in
    let untaken : list_any (is_named new.server new.name) tree.filesets ≡ false = subst (λ s. list_any (is_named s new.name) tree.filesets ≡ false) (sym at) (or_first _ _ free) in
    let unrecorded : list_any (is_away_named new.server new.name) tree.away ≡ false = subst (λ s. list_any (is_away_named s new.name) tree.away ≡ false) (sym at) (or_second _ _ free) in
    let number : is_between 1 65536 (room.next + 1) ≡ true = next_in_range room.next n in
    record {
      roster = w.roster;
      servers = as_many ∙ w.servers;
      ordered = ordered_insert new tree.filesets fresh w.ordered;
      named = named_insert new place tree.filesets untaken w.named;
      declared = all_insert (λ fileset. is_declared (length servers) fileset.server) new place tree.filesets declared_here declared_all;
      given = all_insert (λ fileset. is_given servers fileset.id) new place tree.filesets given_here (given_after tree.servers server room tree.filesets r w.given);
      filesets = formed_insert new place tree.filesets formed w.filesets;
      clones = all_insert rests_if_clone new place tree.filesets rests w.clones;
      away = record {
        ordered = w.away.ordered;
        named = w.away.named;
        free = all_both (λ away. not (is_away_named new.server new.name away)) (λ away. not (list_any (is_named away.server away.name) tree.filesets)) (λ away. not (list_any (is_named away.server away.name) (insert tree.filesets place new)))
            (λ away k h. free_insert new place tree.filesets away k h) tree.away (none_all (is_away_named new.server new.name) tree.away unrecorded) w.away.free;
        declared = ap (λ k. list_all (λ away. is_declared k away.server) tree.away) as_many ∙ w.away.declared;
        elsewhere = all_implied (is_elsewhere tree.filesets) (is_elsewhere (insert tree.filesets place new)) (λ away h. elsewhere_insert new place tree.filesets away fresh h) tree.away w.away.elsewhere;
      };
      counted = λ other. counted_with tree server room new other w is_room.counted at;
      promised = λ other found h. promised_with tree server room new other found w is_room at fresh h;
      numbers = all_set (λ x. is_between 1 65536 x.next) tree.servers (server.0 - 1) raised number w.numbers;
      locks = all_implied (λ lock. names_file tree.filesets lock.fid) (λ lock. names_file (insert tree.filesets place new) lock.fid) (λ lock h. names_insert new place tree.filesets lock.fid fresh h) tree.locks w.locks;
      opens = all_implied (λ opened. names_file tree.filesets opened.fid) (λ opened. names_file (insert tree.filesets place new) opened.fid) (λ opened h. names_insert new place tree.filesets opened.fid fresh h) tree.opens w.opens;
    }
  where
    next_in_range : (n : ℕ) → n ≤ FILESET_NUMBER_MAX → is_between 1 65536 (n + 1) ≡ true
    next_in_range n h = grind (arith, common_steps, h)

-- a new fileset
new_promised : (server : ServerId) (id : FilesetId) (name : List ℕ) (objects : ℕ) (owner : User) → promise (new_fileset server id name objects owner) ≡ new_promise objects
unfolding new_fileset
new_promised server id name objects owner = refl

formed_new : (tree : Tree) (server : ServerId) (name : List ℕ) (objects : ℕ) (owner : User) (checked : Result ServerRoom Refusal) → IsWellFormed tree → is_between 1 OBJECTS_MAX objects ≡ true → checked ≡ new_fileset_target tree server name objects →
    IsWellFormed (either checked (λ room. let answer : Answer = record { reply = Done; tree = with_fileset tree server room (new_fileset server (next_id server room) name objects owner) } in answer) (refuse tree)).tree
unfolding new_fileset_target new_fileset
formed_new tree server name objects owner (Err why) w l e = w
formed_new tree server name objects owner (Ok room) w l e =
    let (free, h) = unless_ok (is_taken tree server name) Exists (room_for tree server (new_promise objects)) room (sym e) in
    let is_room = room_ok tree server (new_promise objects) room h in
    let low : nat_le 1 objects ≡ true = and_left _ _ l in let high : nat_le objects OBJECTS_MAX ≡ true = and_right _ _ l in
    let least : 1 ≤ objects = grind (arith, common_steps, low) in let most : objects ≤ OBJECTS_MAX = grind (arith, common_steps, high) in
    formed_with tree server room (new_fileset server (next_id server room) name objects owner) w is_room refl refl free refl
    (starts_well_formed.new server (next_id server room) name objects owner least most)

-- a clone
found_formed : (p : Fileset → Bool) (filesets : List Fileset) (fileset : Fileset) → find p filesets ≡ Some fileset → AreWellFormed filesets → IsWellFormedFileset fileset
found_formed p [] fileset = λ h k. absurd (search (rules, h))
found_formed p (x ∷ xs) fileset =
    elim (p x) as (λ t. cond t (Some x) (find p xs) ≡ Some fileset → AreWellFormed (x ∷ xs) → IsWellFormedFileset fileset)
    [ true ↦ λ h k. let same : x ≡ fileset = cc in subst IsWellFormedFileset same k.0 | false ↦ λ h k. found_formed p xs fileset h k.1 ]

-- what a clone that is made rests on
pub record IsCloned (tree : Tree) (user : User) (server : ServerId) (source new : List ℕ) (found : Fileset × ServerRoom) : Type 0 where
  pub from : fileset_named tree server source ≡ Ok found.0
  pub at : found.0.server ≡ server
  pub allowed : control_check found.0 user ≡ Ok tt
  pub free : is_taken tree server new ≡ false
  pub room : IsRoom tree server (clone_promise found.0) found.1

pub cloned_so : (tree : Tree) (user : User) (server : ServerId) (source new : List ℕ) (found : Fileset × ServerRoom) → clone_target tree user server source new ≡ Ok found → IsCloned tree user server source new found
unfolding clone_target clone_source
cloned_so tree user server source new found e =
    let (fileset, source_is, h3) = then_ok (clone_source tree user server source) _ found e in
    let (known, f0, k1) = then_ok (fileset_named tree server source) _ fileset source_is in
    let (home0, k2) = unless_ok (not (known.server.0 == server.0)) NotHome _ fileset k1 in
    let (allowed, c0, k3) = then_ok (control_check known user) _ fileset k2 in
    let one : known ≡ fileset = ok_is known fileset k3 in
    let f : fileset_named tree server source ≡ Ok fileset = subst (λ x. fileset_named tree server source ≡ Ok x) one f0 in
    let home : not (fileset.server.0 == server.0) ≡ false = subst (λ x. not (x.server.0 == server.0) ≡ false) one home0 in
    let c : control_check fileset user ≡ Ok allowed = subst (λ x. control_check x user ≡ Ok allowed) one c0 in
    let (free, h4) = unless_ok (is_taken tree server new) Exists _ found h3 in
    let (room, g, h5) = then_ok (room_for tree server (clone_promise fileset)) _ found h4 in
    let same : (fileset, room) ≡ found = ok_is (fileset, room) found h5 in
    let at : fileset.server ≡ server = ap (λ n. let id : ServerId = record { 0 = n } in id) (equal_is fileset.server.0 server.0 (not_not (fileset.server.0 == server.0) home)) in
    let so : IsCloned tree user server source new (fileset, room) = record { from = f; at = at; allowed = c; free = free; room = room_ok tree server (clone_promise fileset) room g } in
    subst (IsCloned tree user server source new) same so
  where
    not_not : (b : Bool) → not b ≡ false → b ≡ true
    not_not true h = refl
    not_not false h = absurd (search (rules, h))

pub cloned_parts : (fileset : Fileset) (id : FilesetId) (name : List ℕ) → ((cloned fileset id name).id ≡ id) × ((cloned fileset id name).server ≡ fileset.server) × ((cloned fileset id name).name ≡ name) × ((cloned fileset id name).read_only ≡ true)
unfolding cloned
cloned_parts fileset id name = (refl, refl, refl, refl)

formed_clone : (tree : Tree) (user : User) (server : ServerId) (source new : List ℕ) (checked : Result (Fileset × ServerRoom) Refusal) → IsWellFormed tree → checked ≡ clone_target tree user server source new →
    IsWellFormed (either checked (λ (fileset, room). let answer : Answer = record { reply = Done; tree = with_fileset tree server room (cloned fileset (next_id server room) new) } in answer) (refuse tree)).tree
formed_clone tree user server source new (Err why) w e = w
formed_clone tree user server source new (Ok found) w e =
    let so = cloned_so tree user server source new found (sym e) in
    let id = next_id server found.1 in
    let (its, at, named, kind) = cloned_parts found.0 id new in
    let room : IsRoom tree server (promise (cloned found.0 id new)) found.1 = subst (λ n. IsRoom tree server n found.1) (sym (clone_shows_source.blocks found.0 id new)) so.room in
    formed_with tree server found.1 (cloned found.0 id new) w room its (at ∙ so.at) (ap (is_taken tree server) named ∙ so.free) (ap (λ t. not (cloned found.0 id new).read_only || t) (cloned_rests found.0 id new) ∙ or_true (not (cloned found.0 id new).read_only))
    (starts_well_formed.clone found.0 id new (found_formed (leads_to tree server source) tree.filesets found.0 (named_is tree server source found.0 so.from) w.filesets))
  where
    or_true : (b : Bool) → (b || true) ≡ true
    or_true true = refl
    or_true false = refl

-- a move
source_ok : (tree : Tree) (user : User) (server : ServerId) (name : List ℕ) (found : ℕ × Fileset) → move_source tree user server name ≡ Ok found →
    (fileset_place tree server name ≡ Ok found.0) × (Some found.1 ≡ slice_get tree.filesets found.0) × (found.1.read_only ≡ false)
unfolding move_source control_check
source_ok tree user server name found e =
    let (place, f, h1) = then_ok (fileset_place tree server name) _ found e in
    let (fileset, g, h2) = then_ok (found_or (slice_get tree.filesets place) NoFileset) _ found h1 in
    let (allowed, c, h3) = then_ok (control_check fileset user) _ found h2 in
    let (writable, c1) = unless_ok fileset.read_only ReadOnly _ allowed c in
    let same : (place, fileset) ≡ found = ok_is (place, fileset) found h3 in
    let P : ℕ × Fileset → Type 0 = λ x. (fileset_place tree server name ≡ Ok x.0) × (Some x.1 ≡ slice_get tree.filesets x.0) × (x.1.read_only ≡ false) in
    subst P same (f, sym (named_found (slice_get tree.filesets place) fileset g), writable)

is_moving : (tree : Tree) (user : User) (server : ServerId) (name : List ℕ) (to : ServerId) (found : ℕ × Fileset) (leaves : Unit {0}) (room : ServerRoom) → move_source tree user server name ≡ Ok found → leave_check tree to found.1 ≡ Ok leaves →
    move_room tree to found.1 ≡ Ok room → (fileset_place tree server name ≡ Ok found.0) × IsMove tree found.0 found.1 to
unfolding leave_check move_room
is_moving tree user server name to found leaves room a b c =
    let (placed, there, writable) = source_ok tree user server name found a in
    let (goes, b1) = unless_ok (found.1.server.0 == to.0) Exists _ leaves b in
    let (unused, b2) = unless_ok (is_fileset_used tree.locks tree.opens found.1.id) InUse _ leaves b1 in
    let (moves, b3) = unless_ok (nat_le MOVES_MAX found.1.moves) TooMany _ leaves b2 in
    let (free, b4) = unless_ok (is_taken_by_other tree to found.1) Exists (Ok tt) leaves b3 in
    let (slot, s, c1) = then_ok (slot_for tree to (has_away tree.away to found.1.id)) (λ room. blocks_for tree to room (promise found.1)) room c in
    let (counted, declared) = slot_ok tree to (has_away tree.away to found.1.id) slot s in
    let (fits, one) = blocks_ok tree to slot (promise found.1) room c1 in
    let less : found.1.moves < MOVES_MAX = grind (arith, common_steps, moves) in
    (placed, record { there = there; writable = writable; goes = goes; unused = unused; moves = less; free = free; room = slot; declared = declared; counted = counted; fits = fits })

pub move_ok : (tree : Tree) (user : User) (server : ServerId) (name : List ℕ) (to : ServerId) (found : ℕ × Fileset) → move_target tree user server name to ≡ Ok found →
    (fileset_place tree server name ≡ Ok found.0) × IsMove tree found.0 found.1 to
unfolding move_target
move_ok tree user server name to found e =
    let (source, a, h1) = then_ok (move_source tree user server name) _ found e in
    let (leaves, b, h2) = then_ok (leave_check tree to source.1) _ found h1 in
    let (room, c, h3) = then_ok (move_room tree to source.1) _ found h2 in
    let same : source ≡ found = ok_is source found h3 in
    let P : ℕ × Fileset → Type 0 = λ x. (fileset_place tree server name ≡ Ok x.0) × IsMove tree x.0 x.1 to in
    subst P same (is_moving tree user server name to source leaves room a b c)

formed_move : (tree : Tree) (user : User) (server : ServerId) (name : List ℕ) (to : ServerId) (checked : Result (ℕ × Fileset) Refusal) → IsWellFormed tree → checked ≡ move_target tree user server name to →
    IsWellFormed (either checked (λ (place, fileset). let answer : Answer = record { reply = Done; tree = with_moved tree place fileset to } in answer) (refuse tree)).tree
formed_move tree user server name to (Err why) w e = w
formed_move tree user server name to (Ok found) w e = formed_moved tree found.0 found.1 to w (move_ok tree user server name to found (sym e)).1

-- a server learns that a fileset has arrived
pub freed_all : (q : Away → Bool) → ((away : Away) → q (record away { room_kept = false }) ≡ q away) → (server : ServerId) (id : FilesetId) (records : List Away) → list_all q (room_freed records server id) ≡ list_all q records
freed_all q same server id [] = refl
freed_all q same server id (away ∷ records) = ap (λ t. t && list_all q (room_freed records server id)) (by_test (is_away server id away)) ∙ ap (λ t. q away && t) (freed_all q same server id records)
  where
    by_test : (b : Bool) → q (if b then record away { room_kept = false } else away) ≡ q away
    by_test true = same away
    by_test false = refl

freed_any : (q : Away → Bool) → ((away : Away) → q (record away { room_kept = false }) ≡ q away) → (server : ServerId) (id : FilesetId) (records : List Away) → list_any q (room_freed records server id) ≡ list_any q records
freed_any q same server id [] = refl
freed_any q same server id (away ∷ records) = ap (λ t. t || list_any q (room_freed records server id)) (by_test (is_away server id away)) ∙ ap (λ t. q away || t) (freed_any q same server id records)
  where
    by_test : (b : Bool) → q (if b then record away { room_kept = false } else away) ≡ q away
    by_test true = same away
    by_test false = refl

freed_rise : (server : ServerId) (id : FilesetId) (records : List Away) → records_rise (room_freed records server id) ≡ records_rise records
freed_rise server id [] = refl
freed_rise server id (away ∷ records) = by_test (is_away server id away) (freed_all (away_before away.server away.fileset) (λ x. refl) server id records) (freed_rise server id records)
  where
    by_test : (b : Bool) → list_all (away_before away.server away.fileset) (room_freed records server id) ≡ list_all (away_before away.server away.fileset) records → records_rise (room_freed records server id) ≡ records_rise records →
        records_rise ((if b then record away { room_kept = false } else away) ∷ room_freed records server id) ≡ records_rise (away ∷ records)
    by_test true h k = ap (λ t. t && records_rise (room_freed records server id)) h ∙ ap (λ t. list_all (away_before away.server away.fileset) records && t) k
    by_test false h k = ap (λ t. t && records_rise (room_freed records server id)) h ∙ ap (λ t. list_all (away_before away.server away.fileset) records && t) k

freed_names : (server : ServerId) (id : FilesetId) (records : List Away) → record_names_differ (room_freed records server id) ≡ record_names_differ records
freed_names server id [] = refl
freed_names server id (away ∷ records) = by_test (is_away server id away) (freed_any (is_away_named away.server away.name) (λ x. refl) server id records) (freed_names server id records)
  where
    by_test : (b : Bool) → list_any (is_away_named away.server away.name) (room_freed records server id) ≡ list_any (is_away_named away.server away.name) records → record_names_differ (room_freed records server id) ≡ record_names_differ records →
        record_names_differ ((if b then record away { room_kept = false } else away) ∷ room_freed records server id) ≡ record_names_differ (away ∷ records)
    by_test true h k = ap (λ t. not t && record_names_differ (room_freed records server id)) h ∙ ap (λ t. not (list_any (is_away_named away.server away.name) records) && t) k
    by_test false h k = ap (λ t. not t && record_names_differ (room_freed records server id)) h ∙ ap (λ t. not (list_any (is_away_named away.server away.name) records) && t) k

freed_total : (f : Away → ℕ) → ((away : Away) → f (record away { room_kept = false }) ≤ f away) → (server : ServerId) (id : FilesetId) (records : List Away) → total f (room_freed records server id) ≤ total f records
freed_total f less server id [] = omega arith
freed_total f less server id (away ∷ records) = by_test (is_away server id away) (less away) (freed_total f less server id records)
  where
    by_test : (b : Bool) → f (record away { room_kept = false }) ≤ f away → total f (room_freed records server id) ≤ total f records →
        f (if b then record away { room_kept = false } else away) + total f (room_freed records server id) ≤ f away + total f records
    by_test true here rest = omega (arith, here, rest)
    by_test false here rest = omega (arith, rest)

freed_count : (at server : ServerId) (id : FilesetId) (records : List Away) → away_count at (room_freed records server id) ≤ away_count at records
freed_count at server id records =
    let one : Away → ℕ = λ away. cond (away.server.0 == at.0) 1 0 in
    let after = sum_total one (room_freed records server id) in let before = sum_total one records in
    let less = freed_total one (λ away. omega arith) server id records in
    omega (arith, after, before, less)

away_blocks : (at : ServerId) (filesets : List Fileset) (records : List Away) → away_promised at filesets records ≡ total (λ away. if away.server.0 == at.0 then away_promise filesets away else 0) records
away_blocks at filesets [] = refl
away_blocks at filesets (away ∷ records) = ap (λ n. (if away.server.0 == at.0 then away_promise filesets away else 0) + n) (away_blocks at filesets records)

no_less : (b : Bool) (n : ℕ) → (if b then 0 else 0) ≤ n
no_less true n = omega arith
no_less false n = omega arith

freed_promised : (at server : ServerId) (id : FilesetId) (filesets : List Fileset) (records : List Away) → away_promised at filesets (room_freed records server id) ≤ away_promised at filesets records
freed_promised at server id filesets records =
    let blocks : Away → ℕ = λ away. if away.server.0 == at.0 then away_promise filesets away else 0 in
    let after = away_blocks at filesets (room_freed records server id) in let before = away_blocks at filesets records in
    let less = freed_total blocks (λ away. no_less (away.server.0 == at.0) (blocks away)) server id records in
    omega (arith, after, before, less)

pub formed_left : (tree : Tree) (server : ServerId) (id : FilesetId) → IsWellFormed tree → IsWellFormed (left_tree tree server id)
unfolding left_tree
formed_left tree server id w = record {
  roster = w.roster;
  servers = w.servers;
  ordered = w.ordered;
  named = w.named;
  declared = w.declared;
  given = w.given;
  filesets = w.filesets;
  clones = w.clones;
  away = record {
    ordered = freed_rise server id tree.away ∙ w.away.ordered;
    named = freed_names server id tree.away ∙ w.away.named;
    free = freed_all (λ away. not (list_any (is_named away.server away.name) tree.filesets)) (λ x. refl) server id tree.away ∙ w.away.free;
    declared = freed_all (λ away. is_declared (length tree.servers) away.server) (λ x. refl) server id tree.away ∙ w.away.declared;
    elsewhere = freed_all (is_elsewhere tree.filesets) (λ x. refl) server id tree.away ∙ w.away.elsewhere;
  };
  counted = λ at. let less = freed_count at server id tree.away in let before = w.counted at in omega (arith, less, before);
  promised = λ at room h. let less = freed_promised at server id tree.filesets tree.away in let before = w.promised at room h in omega (arith, less, before);
  numbers = w.numbers;
  locks = w.locks;
  opens = w.opens;
}

-- a call of a user
formed_for : (tree : Tree) (host : HostId) (call : CallOf) (user : User) → IsWellFormed tree → keeps_limit call ≡ true → IsWellFormed (answer_for tree host call user).tree
unfolding answer_for new_fileset_answer clone_answer move_answer lock_answer unlock_answer open_answer close_answer
formed_for tree host (NewFileset server name objects owner) user w l = formed_new tree server name objects owner (new_fileset_target tree server name objects) w l refl
formed_for tree host (CloneFileset server source new) user w l = formed_clone tree user server source new (clone_target tree user server source new) w refl
formed_for tree host (MoveFileset server name to) user w l = formed_move tree user server name to (move_target tree user server name to) w refl
formed_for tree host (Lock label place writing from len) user w l =
    formed_lock tree host label writing (lock_check tree host user label place writing from len) w (λ found e. lock_there tree host user label place writing from len found w e)
formed_for tree host (Unlock label) user w l = formed_unlock (has_lock tree.locks host label) tree _ _ w (all_filter (λ lock. names_file tree.filesets lock.fid) _ tree.locks w.locks)
formed_for tree host (OpenFile label place kind) user w l = formed_open tree host label kind (open_check tree host user label place kind) w (λ found e. open_there tree host user label place kind found w e)
formed_for tree host (CloseFile label) user w l = formed_close (has_open tree.opens host label) tree _ _ w (all_filter (λ opened. names_file tree.filesets opened.fid) _ tree.opens w.opens)
formed_for tree host (Create place) user w l = formed_row tree host user (Create place) w
formed_for tree host (MakeDir place) user w l = formed_row tree host user (MakeDir place) w
formed_for tree host (Remove place) user w l = formed_row tree host user (Remove place) w
formed_for tree host (Rename from to) user w l = formed_row tree host user (Rename from to) w
formed_for tree host (Truncate place len) user w l = formed_row tree host user (Truncate place len) w
formed_for tree host (SetAcl place which list) user w l = formed_row tree host user (SetAcl place which list) w
formed_for tree host (Read place from len) user w l = formed_row tree host user (Read place from len) w
formed_for tree host (Write place from bytes) user w l = formed_row tree host user (Write place from bytes) w
formed_for tree host (ListNames place) user w l = formed_row tree host user (ListNames place) w
formed_for tree host (Stat place) user w l = formed_row tree host user (Stat place) w
formed_for tree host (GetAcl place which) user w l = formed_row tree host user (GetAcl place which) w
formed_for tree host (Sync place) user w l = formed_row tree host user (Sync place) w

formed_user : (tree : Tree) (found : Option User) (act : User → Answer) → IsWellFormed tree → ((user : User) → IsWellFormed (act user).tree) → IsWellFormed (for_user tree found act).tree
formed_user tree None act w k = w
formed_user tree (Some user) act w k = k user

pub formed_answer : (tree : Tree) (host : HostId) (call : CallOf) → IsWellFormed tree → keeps_limit call ≡ true → IsWellFormed (answer_to tree host call).tree
unfolding answer_to
formed_answer tree host call w l = formed_user tree (user_of tree.roster host) (answer_for tree host call) w (λ user. formed_for tree host call user w l)

-- the object of which something passes a test
pub tested_object : (is_it : Bool) (o : Option Object) (test : Content → Bool) → option_map_or test (cond is_it (option_map (λ object. object.content) o) None) false ≡ true → (object : Object) × (o ≡ Some object) × (test object.content ≡ true)
tested_object true None test h = absurd (search (rules, h))
tested_object true (Some object) test h = (object, refl, h)
tested_object false o test h = absurd (search (rules, h))

-- the fileset that stands at the place of an id
pub fileset_with_id : (filesets : List Fileset) (id : FilesetId) (fileset : Fileset) → Some fileset ≡ slice_get filesets (place_with_id filesets id) → find (has_id id) filesets ≡ Some fileset
fileset_with_id filesets id fileset h = found_there (has_id id) filesets fileset (h ∙ ap (λ i. slice_get filesets i) (position_or_end (has_id id) filesets))

pub store_follows : (tree : Tree) (host : HostId) (fid : Fid) (spans : List Span) (stored : Option ℕ) → may_store tree host fid spans stored ≡ true → (old : Fileset) → Some old ≡ slice_get tree.filesets (place_with_id tree.filesets fid.fileset) →
    Follows (is_used tree.locks tree.opens) old (changed old fid.anode (content_stored host spans stored))
unfolding updated
store_follows tree host fid spans stored may old e =
    let found = fileset_with_id tree.filesets fid.fileset old e in
    let here : option_map_or (is_storable host spans stored) (content_in old fid) false ≡ true = subst (λ o. option_map_or (is_storable host spans stored) (option_and_then (λ f. content_in f fid) o) false ≡ true) found may in
    let (object, there, storable) = tested_object (unique_at old.anodes fid.anode == fid.unique) (object_at old.anodes fid.anode) (is_storable host spans stored) here in
    let alike = alike_changed old fid.anode object (content_stored host spans stored) there (object_not_zero old.anodes fid.anode object there) (stored_entries host spans stored object.content) (λ s. sound_storable host spans stored object.content storable s) in
    record {
      same = record { server = refl; id = refl; name = refl; read_only = refl; objects = refl; moves = refl };
      formed = λ w. well_formed_alike old _ w alike;
      files = λ f w i u h. file_stays_alike old _ f alike h;
      clone = λ r q. rest_stored old fid.anode (content_stored host spans stored) object there (settled_stored host spans stored object.content (settled_there old.anodes (fid.anode - 1) object q (sym (object_from old.anodes fid.anode (object_not_zero old.anodes fid.anode object there)) ∙ there)) storable);
    }

pub formed_stored : (tree : Tree) (host : HostId) (fid : Fid) (spans : List Span) (stored : Option ℕ) → IsWellFormed tree → may_store tree host fid spans stored ≡ true → IsWellFormed (stored_tree tree host fid spans stored)
unfolding stored_tree
formed_stored tree host fid spans stored w may =
    well_formed_followed tree _ w (changed_follows (is_used tree.locks tree.opens) tree.filesets (place_with_id tree.filesets fid.fileset) (λ fileset. changed fileset fid.anode (content_stored host spans stored)) (store_follows tree host fid spans stored may))

-- a host that is down
forget_follows : (used : Fid → Bool) (host : HostId) (fileset : Fileset) → Follows used fileset (fileset_forgotten host fileset)
forget_follows used host fileset =
    let alike = alike_mapped fileset (fileset_forgotten host fileset) (content_forgotten host) refl refl (forgotten_entries host) (sound_forgotten host) in
    record {
      same = record { server = refl; id = refl; name = refl; read_only = refl; objects = refl; moves = refl };
      formed = λ w. well_formed_alike fileset _ w alike;
      files = λ f w i u h. file_stays_alike fileset _ f alike h;
      clone = λ r q. rest_forgotten host fileset q;
    }

pub forget_at_follows : (used : Fid → Bool) (host : HostId) (server : ServerId) (fileset : Fileset) → Follows used fileset (if fileset.server.0 == server.0 then fileset_forgotten host fileset else fileset)
forget_at_follows used host server fileset =
    elim (fileset.server.0 == server.0) as (λ t. Follows used fileset (if t then fileset_forgotten host fileset else fileset)) [ true ↦ forget_follows used host fileset | false ↦ follows_itself used fileset ]

pub formed_down : (tree : Tree) (host : HostId) (server : ServerId) → IsWellFormed tree → IsWellFormed (down_tree tree host server)
unfolding down_tree
formed_down tree host server w =
    let change : Fileset → Fileset = λ fileset. if fileset.server.0 == server.0 then fileset_forgotten host fileset else fileset in
    let after = well_formed_followed tree (map change tree.filesets) w (map_follows (is_used tree.locks tree.opens) change (forget_at_follows (is_used tree.locks tree.opens) host server) tree.filesets) in
    record {
      roster = after.roster;
      servers = after.servers;
      ordered = after.ordered;
      named = after.named;
      declared = after.declared;
      given = after.given;
      filesets = after.filesets;
      clones = after.clones;
      away = same_records (record tree { filesets = map change tree.filesets }) _ after.away refl refl refl;
      counted = after.counted;
      promised = after.promised;
      numbers = after.numbers;
      locks = all_filter (λ lock. names_file (map change tree.filesets) lock.fid) _ tree.locks after.locks;
      opens = all_filter (λ opened. names_file (map change tree.filesets) opened.fid) _ tree.opens after.opens;
    }

-- each legal entry
pub formed_entry : (tree : Tree) (entry : Entry) → IsWellFormed tree → IsLegal tree entry → is_limited entry ≡ true → IsWellFormed (after_entry tree entry)
formed_entry tree (Call host k call reply) w legal l = formed_answer tree host call w l
formed_entry tree (Stored host fid spans stored) w legal l = formed_stored tree host fid spans stored w legal
formed_entry tree (Down host server) w legal l = formed_down tree host server w
formed_entry tree (Left server id) w legal l = formed_left tree server id w

-- the first tree
mapped_length : {X Y : Type 0} (f : X → Y) (xs : List X) → length (map f xs) ≡ length xs
mapped_length f [] = refl
mapped_length f (x ∷ xs) = ap suc (mapped_length f xs)

first_numbers : (capacity : List ℕ) → list_all (λ room. is_between 1 65536 room.next) (map new_room capacity) ≡ true
first_numbers [] = refl
first_numbers (x ∷ xs) = first_numbers xs

pub formed_start : (roster : Roster) → keeps_limits roster ≡ true → IsWellFormed (new_tree roster)
formed_start roster k = record {
  roster = k;
  servers = mapped_length new_room roster.capacity;
  ordered = refl;
  named = refl;
  declared = refl;
  given = refl;
  filesets = tt;
  clones = refl;
  away = record { ordered = refl; named = refl; free = refl; declared = refl; elsewhere = refl };
  counted = λ server. lit≤ tt;
  promised = λ server room h. omega arith;
  numbers = first_numbers roster.capacity;
  locks = refl;
  opens = refl;
}
