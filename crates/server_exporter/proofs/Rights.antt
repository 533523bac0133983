-- The right that a refusal of the call table tells is one of the six, or none.
use Rattle.std.proofs.Common.{◌≡◌, ◌⊎◌, ◌<◌, ◌+◌, ◌-◌, ℕ, Bool, true, false, List, [], ◌∷◌, Option, None, Some, inl}
use Rattle.std.proofs.Common.{inr, ◌==◌, ◌&&◌}
use Rattle.std.proofs.Common.{refl, sym, subst, arith, length, take}
use Rattle.std.specs.Prelude.{Result, Ok, Err, if◌then◌else◌, slice_get, IsTrue, is_some, nat_le, nat_lt, not}
use Rattle.base_types.specs.Access.{allows}
use Rattle.base_types.specs.Outcomes.{and_then, either}
use Rattle.base_types.specs.declared.access.AccessEntry.{AccessEntry}
use Rattle.base_types.specs.declared.ids.Fid.{Fid}
use Rattle.base_types.specs.declared.ids.HostId.{HostId}
use Rattle.base_types.specs.declared.ids.OpenKind.{OpenKind}
use Rattle.base_types.specs.declared.ids.OpenKind.TheVariants.{Executing, Exclusive, Reading, Shared, Writing}
use Rattle.base_types.specs.declared.ids.ServerId.{ServerId}
use Rattle.base_types.specs.declared.user.User.{User}
use Rattle.tree_calls.specs.Rosters.{user_of}
use Rattle.tree_calls.specs.declared.call.Call.{Call}
use Rattle.tree_calls.specs.declared.call.Call.TheVariants.{CloneFileset, CloseFile, Create, GetAcl, List as ListNames}
use Rattle.tree_calls.specs.declared.call.Call.TheVariants.{Lock, MakeDir, MoveFileset, NewFileset, OpenFile, Read}
use Rattle.tree_calls.specs.declared.call.Call.TheVariants.{Remove, Rename, SetAcl, Stat, Sync, Truncate, Unlock, Write}
use Rattle.tree_calls.specs.declared.place.Place.{Place}
use Rattle.tree_calls.specs.declared.place.Which.{Which}
use Rattle.tree_calls.specs.declared.place.Which.TheVariants.{Dirs, Files, Own}
use Rattle.tree_calls.specs.declared.reply.Refusal.{Refusal}
use Rattle.tree_calls.specs.declared.reply.Refusal.TheVariants.{Denied, NoFileset, TooMany, Exists, InUse, Loop}
use Rattle.tree_calls.specs.declared.reply.Reply.{Reply}
use Rattle.tree_calls.specs.declared.reply.Reply.TheVariants.{Refused}
use Rattle.tree_objects.specs.Objects.{access_of, entered, list_or_refused, own_rights, searched, is_dir}
use Rattle.tree_objects.specs.declared.content.Anode.{Anode}
use Rattle.tree_objects.specs.declared.content.Content.{Content}
use Rattle.tree_objects.specs.declared.content.Content.TheVariants.{Dir, File}
use Rattle.tree_objects.specs.declared.content.Object.{Object}
use Rattle.tree_calls.specs.declared.part.DirEntry.{DirEntry}
use Rattle.tree_filesets.specs.Answers.{Answered, answered}
use Rattle.tree_filesets.specs.Changing.{set_access_answer, set_access_target, truncate_answer, write_target}
use Rattle.tree_filesets.specs.Checks.{permission, split_at_last, split_path, unless}
use Rattle.tree_filesets.specs.Creation.{create_answer, create_target, first_vacancy, is_vacant, new_content}
use Rattle.tree_filesets.specs.Creation.{new_object}
use Rattle.tree_filesets.specs.Creation.{vacancy}
use Rattle.tree_filesets.specs.Founding.{control_check}
use Rattle.tree_filesets.specs.Removal.{remove_answer, remove_target, has_entries}
use Rattle.tree_filesets.specs.Renaming.{rename_answer, rename_target}
use Rattle.tree_filesets.specs.Rows.{fileset_answer}
use Rattle.tree_filesets.specs.Uses.{open_target, use_target}
use Rattle.tree_filesets.specs.Walk.{entered_at, entry_or_none, entry_target, file_target, found_at, insert_target}
use Rattle.tree_filesets.specs.Walk.{object_at, parent_target, permitted_file, step, target, walk, passes}
use Rattle.tree_filesets.specs.declared.creating.NewObject.{NewObject}
use Rattle.tree_filesets.specs.declared.creating.NewObject.TheVariants.{EmptyDirectory, EmptyFile}
use Rattle.tree_filesets.specs.declared.fileset.Fileset.{Fileset}
use Rattle.tree_answers.specs.Answers.{answer_at, answer_for, answer_to, deciding_place, fileset_row, for_user}
use Rattle.tree_answers.specs.Finding.{Answer, fileset_named, fileset_place, found_or, refuse, is_taken, leads_to}
use Rattle.tree_answers.specs.Founding.{clone_answer, clone_source, clone_target, new_fileset_answer}
use Rattle.tree_answers.specs.Founding.{new_fileset_target, room_for, slot_for}
use Rattle.tree_answers.specs.Locks.{lock_answer, lock_check, has_lock, is_excluded, is_own_locked, lock_count}
use Rattle.tree_answers.specs.Moving.{leave_check, move_answer, move_room, move_source, move_target}
use Rattle.tree_answers.specs.Opens.{open_answer, open_check, has_open, is_barred, open_count}
use Rattle.tree_answers.specs.Uses.{is_used}
use Rattle.tree_answers.specs.declared.tree.Tree.{Tree}
use Rattle.message_types.specs.Soundness.{IsDecided}
use Rattle.message_types.specs.declared.asking.Change.{Change as ChangeOf}
use Rattle.run_rules.specs.ServerDecides.{RefusedOn, kept_reply}
use Rattle.store_state.specs.Laws.{told_right}
use Rattle.base_types.specs.declared.limits.TheConstants.{FILESETS_MAX, FILESET_NUMBER_MAX, FILE_BYTES_MAX, LABELS_MAX}
use Rattle.tree_filesets.specs.declared.fileset.TheConstants.{MOVES_MAX}
use Rattle.tree_answers.specs.declared.tree.ServerRoom.{ServerRoom}
use Rattle.tree_answers.specs.Founding.{blocks_for, count_at, promised_at, room_of}
use Rattle.tree_filesets.specs.Promises.{clone_promise, new_promise, promise}
use Rattle.tree_objects.specs.Entries.{entry_named}
use Rattle.tree_filesets.specs.Removal.{fid_of}
use Rattle.std.specs.List.{find, position}
use Rattle.tree_answers.specs.Away.{has_away}
use Rattle.tree_answers.specs.Moving.{is_fileset_used, is_taken_by_other}
use Rattle.tree_answers.specs.Finding.{same_fileset}
use Rattle.tree_objects.specs.Spans.{span_between}

-- # Checks

abbrev IsLow : Refusal → Type 0
IsLow r = told_right r < 64

-- what it refuses with tells no more
abbrev AreLow : {A : Type 0} → Result A Refusal → Type 0
AreLow (Ok x) = Unit {0}
AreLow (Err e) = IsLow e

low_then : {A B : Type 0} (r : Result A Refusal) (f : A → Result B Refusal) → AreLow r → ((x : A) → AreLow (f x))
    → AreLow (and_then r f)
low_then (Ok x) f l m = m x
low_then (Err e) f l m = l

low_none : (refusal : Refusal) → told_right refusal ≡ 0 → IsLow refusal
low_none refusal e = subst (λ n. n < 64) (sym e) (omega arith)

low_unless : {A : Type 0} (b : Bool) (refusal : Refusal) (next : Result A Refusal) → told_right refusal ≡ 0
    → AreLow next → AreLow (unless b refusal next)
low_unless true refusal next l m = low_none refusal l
low_unless false refusal next l m = m

low_found : {A : Type 0} (o : Option A) (refusal : Refusal) → IsLow refusal → AreLow (found_or o refusal)
low_found None refusal l = l
low_found (Some x) refusal l = tt

low_permission : (object : Object) (user : User) (right : ℕ) → right < 64 → AreLow (permission object user right)
low_permission object user right l = by (allows (own_rights object user) right)
  where
    by : (b : Bool) → AreLow {A = Unit {0}} (if b then Ok tt else Err (Denied right))
    by true = tt
    by false = l

low_split : (path : List (List ℕ)) (empty : Refusal) → told_right empty ≡ 0 → AreLow (split_path path empty)
low_split path empty l = by (slice_get path (length path - 1))
  where
    by : (o : Option (List ℕ)) → AreLow (split_at_last path empty o)
    by None = low_none empty l
    by (Some name) = tt

low_list : (o : Option (List AccessEntry)) → AreLow (list_or_refused o)
low_list None = omega arith
low_list (Some list) = tt

low_access : (which : Which) (content : Content) → AreLow (access_of which content)
low_access which (Dir entries lists) = low_list _
low_access Own (File list kept unsaved len) = tt
low_access Files (File list kept unsaved len) = omega arith
low_access Dirs (File list kept unsaved len) = omega arith

-- # Ways

low_searched : (content : Content) (rights : ℕ) → AreLow (searched content rights)
low_searched (File list kept unsaved len) rights = omega arith
low_searched (Dir entries lists) rights = by (allows rights 4)
  where
    by : (b : Bool) → AreLow (if b then Ok entries else Err (Denied 4))
    by true = tt
    by false = omega arith

low_entered_at : (o : Option Object) (user : User) → AreLow (entered_at o user)
low_entered_at None user = omega arith
low_entered_at (Some object) user = low_searched object.content (own_rights object user)

low_entry : (o : Option DirEntry) → AreLow (entry_or_none o)
low_entry None = omega arith
low_entry (Some entry) = tt

low_found_at : (anode : ℕ) (o : Option Object) → AreLow (found_at anode o)
low_found_at anode None = omega arith
low_found_at anode (Some object) = tt

low_step : (anodes : List Anode) (user : User) (at : ℕ) (name : List ℕ) → AreLow (step anodes user at name)
unfolding step
low_step anodes user at name =
    low_then (entered_at (object_at anodes at) user) _ (low_entered_at (object_at anodes at) user)
    (λ entries. low_then (entry_or_none (entry_named entries name)) _ (low_entry (entry_named entries name))
    (λ entry. tt))

low_walk : (anodes : List Anode) (user : User) (at : ℕ) (names : List (List ℕ)) → AreLow (walk anodes user at names)
low_walk anodes user at [] = tt
low_walk anodes user at (name ∷ names) =
    low_then (step anodes user at name) _ (low_step anodes user at name) (λ next. low_walk anodes user next names)

module _ (fileset : Fileset) (user : User) where
  low_target : (path : List (List ℕ)) → AreLow (target fileset user path)
  unfolding target
  low_target path =
      low_then (walk fileset.anodes user 1 path) _ (low_walk fileset.anodes user 1 path)
      (λ anode. low_found_at anode (object_at fileset.anodes anode))

  low_file : (path : List (List ℕ)) → AreLow (file_target fileset user path)
  unfolding file_target
  low_file path = low_then (target fileset user path) _ (low_target path)
      (λ found. low_unless (is_dir found.1.content) _ _ refl tt)

  low_permitted : (path : List (List ℕ)) (right : ℕ) → right < 64 → AreLow (permitted_file fileset user path right)
  unfolding permitted_file
  low_permitted path right l = low_then (file_target fileset user path) _ (low_file path)
      (λ found. low_then (permission found.1 user right) _ (low_permission found.1 user right l) (λ u. tt))

  low_parent : (front : List (List ℕ)) (right : ℕ) → right < 64 → AreLow (parent_target fileset user front right)
  unfolding parent_target
  low_parent front right l = low_then (target fileset user front) _ (low_target front)
      (λ found. low_then (entered found.1 user) _ (low_searched found.1.content (own_rights found.1 user))
      (λ entries. low_then (permission found.1 user right) _ (low_permission found.1 user right l) (λ u. tt)))

  low_insert : (front : List (List ℕ)) (name : List ℕ) → AreLow (insert_target fileset user front name)
  unfolding insert_target
  low_insert front name = low_then (parent_target fileset user front 16) _ (low_parent front 16 (omega arith))
      (λ found. low_unless (is_some (entry_named found.2 name)) _ _ refl tt)

  low_leaving : (front : List (List ℕ)) (name : List ℕ) → AreLow (entry_target fileset user front name)
  unfolding entry_target
  low_leaving front name = low_then (parent_target fileset user front 32) _ (low_parent front 32 (omega arith))
      (λ found. low_then (entry_or_none (entry_named found.2 name)) _ (low_entry (entry_named found.2 name))
      (λ entry. tt))

  low_use : (path : List (List ℕ)) (changing : Bool) (right : ℕ) → right < 64
      → AreLow (use_target fileset user path changing right)
  unfolding use_target
  low_use path changing right l = low_then (file_target fileset user path) _ (low_file path)
      (λ found. low_unless (changing && fileset.read_only) _ _ refl
      (low_then (permission found.1 user right) _ (low_permission found.1 user right l) (λ u. tt)))

  low_control : AreLow (control_check fileset user)
  unfolding control_check
  low_control = low_unless fileset.read_only _ _ refl
      (low_then (target fileset user []) _ (low_target []) (λ found. low_permission found.1 user 8 (omega arith)))

  -- # Changes of one fileset

  low_content : (kind : NewObject) (directory : Content) → AreLow (new_content kind directory)
  low_content EmptyFile directory =
      low_then (access_of Files directory) _ (low_access Files directory) (λ files. tt)
  low_content EmptyDirectory directory =
      low_then (access_of Files directory) _ (low_access Files directory)
      (λ files. low_then (access_of Dirs directory) _ (low_access Dirs directory) (λ dirs. tt))

  low_vacancy : (at : ℕ) (anodes : List Anode) → AreLow (first_vacancy at anodes)
  low_vacancy at [] = omega arith
  low_vacancy at (first ∷ anodes) = by (low_vacancy (at + 1) anodes) (is_vacant first)
    where
      by : AreLow (first_vacancy (at + 1) anodes) → (b : Bool)
          → AreLow (if b then Ok (record { anode = at; unique = first.unique + 1 })
          else first_vacancy (at + 1) anodes)
      by rest true = tt
      by rest false = rest

  low_create : (kind : NewObject) (path : List (List ℕ)) → AreLow (create_target fileset kind user path)
  unfolding create_target
  low_create kind path = low_unless fileset.read_only _ _ refl
      (low_then (split_path path Exists) _ (low_split path Exists refl)
      (λ parts. low_then (insert_target fileset user parts.1 parts.0) _ (low_insert parts.1 parts.0)
      (λ found. low_then (vacancy fileset) _ (low_vacancy 1 (take fileset.objects fileset.anodes))
      (λ place. low_then (new_object kind user found.1) _
      (low_then (new_content kind found.1.content) _ (low_content kind found.1.content) (λ content. tt))
      (λ object. tt)))))

  low_remove : (in_use : Fid → Bool) (path : List (List ℕ)) → AreLow (remove_target fileset in_use user path)
  unfolding remove_target
  low_remove in_use path = low_unless fileset.read_only _ _ refl
      (low_then (split_path path InUse) _ (low_split path InUse refl)
      (λ parts. low_then (entry_target fileset user parts.1 parts.0) _ (low_leaving parts.1 parts.0)
      (λ found. low_then (found_at found.1.anode (object_at fileset.anodes found.1.anode)) _
      (low_found_at found.1.anode (object_at fileset.anodes found.1.anode))
      (λ there. low_unless (has_entries there.1.content) _ _ refl
      (low_unless (in_use (fid_of fileset found.1)) _ _ refl tt)))))

  low_rename : (from to : List (List ℕ)) → AreLow (rename_target fileset user from to)
  unfolding rename_target
  low_rename from to = low_unless fileset.read_only _ _ refl
      (low_then (split_path from Loop) _ (low_split from Loop refl)
      (λ parts. low_then (split_path to Exists) _ (low_split to Exists refl)
      (λ others. low_then (entry_target fileset user parts.1 parts.0) _ (low_leaving parts.1 parts.0)
      (λ found. low_then (insert_target fileset user others.1 others.0) _ (low_insert others.1 others.0)
      (λ place. low_unless (passes fileset.anodes user 1 others.1 found.1.anode) _ _ refl tt)))))

  low_write : (path : List (List ℕ)) (end : ℕ) → AreLow (write_target fileset user path end)
  unfolding write_target
  low_write path end = low_unless fileset.read_only _ _ refl
      (low_then (permitted_file fileset user path 2) _ (low_permitted path 2 (omega arith))
      (λ found. low_unless (nat_lt FILE_BYTES_MAX end) _ _ refl tt))

  low_set_access : (path : List (List ℕ)) (which : Which) → AreLow (set_access_target fileset user path which)
  unfolding set_access_target
  low_set_access path which = low_unless fileset.read_only _ _ refl
      (low_then (target fileset user path) _ (low_target path)
      (λ found. low_then (access_of which found.1.content) _ (low_access which found.1.content)
      (λ list. low_then (permission found.1 user 8) _ (low_permission found.1 user 8 (omega arith)) (λ u. tt))))

-- # Replies

abbrev IsLowReply : Reply → Type 0
IsLowReply (Refused r) = IsLow r
IsLowReply _ = Unit {0}

low_answered : {A : Type 0} (fileset : Fileset) (checked : Result A Refusal) (effect : A → Fileset) → AreLow checked
    → IsLowReply (answered fileset checked effect).reply
low_answered fileset (Ok x) effect l = tt
low_answered fileset (Err e) effect l = l

low_either : {A : Type 0} (tree : Tree) (found : Result A Refusal) (next : A → Answer) → AreLow found
    → ((x : A) → IsLowReply (next x).reply) → IsLowReply (either found next (refuse tree)).reply
low_either tree (Ok x) next l m = m x
low_either tree (Err e) next l m = l

low_named : (tree : Tree) (server : ServerId) (name : List ℕ) → AreLow (fileset_named tree server name)
unfolding fileset_named
low_named tree server name = low_found (find (leads_to tree server name) tree.filesets) NoFileset (omega arith)

low_place : (tree : Tree) (server : ServerId) (name : List ℕ) → AreLow (fileset_place tree server name)
unfolding fileset_place
low_place tree server name = low_found (position (leads_to tree server name) tree.filesets) NoFileset (omega arith)

low_at : (tree : Tree) (place : ℕ) (o : Option Fileset) (ask : Fileset → Answered)
    → ((f : Fileset) → IsLowReply (ask f).reply) → IsLowReply (answer_at tree place o ask).reply
low_at tree place None ask l = omega arith
low_at tree place (Some f) ask l = l f

low_blocks : (tree : Tree) (server : ServerId) (room : ServerRoom) (blocks : ℕ)
    → AreLow (blocks_for tree server room blocks)
low_blocks tree server room blocks =
    low_unless (nat_lt room.capacity (promised_at tree server + blocks)) _ _ refl tt

low_slot : (tree : Tree) (server : ServerId) (is_recorded : Bool) → AreLow (slot_for tree server is_recorded)
low_slot tree server is_recorded = low_unless (not is_recorded && nat_le FILESETS_MAX (count_at tree server)) _ _ refl
    (low_found (room_of tree.servers server) TooMany (omega arith))

low_room : (tree : Tree) (server : ServerId) (blocks : ℕ) → AreLow (room_for tree server blocks)
unfolding room_for
low_room tree server blocks =
    low_then (slot_for tree server false) _ (low_slot tree server false)
    (λ room. low_unless (nat_lt FILESET_NUMBER_MAX room.next) _ _ refl (low_blocks tree server room blocks))

low_source : (tree : Tree) (user : User) (server : ServerId) (source : List ℕ)
    → AreLow (clone_source tree user server source)
unfolding clone_source
low_source tree user server source =
    low_then (fileset_named tree server source) _ (low_named tree server source)
    (λ fileset. low_unless (not (fileset.server.0 == server.0)) _ _ refl
    (low_then (control_check fileset user) _ (low_control fileset user) (λ u. tt)))

low_clone : (tree : Tree) (user : User) (server : ServerId) (source new : List ℕ)
    → AreLow (clone_target tree user server source new)
unfolding clone_target
low_clone tree user server source new =
    low_then (clone_source tree user server source) _ (low_source tree user server source)
    (λ fileset. low_unless (is_taken tree server new) _ _ refl
    (low_then (room_for tree server (clone_promise fileset)) _ (low_room tree server (clone_promise fileset))
    (λ room. tt)))

low_new : (tree : Tree) (server : ServerId) (name : List ℕ) (objects : ℕ)
    → AreLow (new_fileset_target tree server name objects)
unfolding new_fileset_target
low_new tree server name objects = low_unless (is_taken tree server name) _ _ refl
    (low_room tree server (new_promise objects))

low_move_source : (tree : Tree) (user : User) (server : ServerId) (name : List ℕ)
    → AreLow (move_source tree user server name)
unfolding move_source
low_move_source tree user server name =
    low_then (fileset_place tree server name) _ (low_place tree server name)
    (λ place. low_then (found_or (slice_get tree.filesets place) NoFileset) _
    (low_found (slice_get tree.filesets place) NoFileset (omega arith))
    (λ fileset. low_then (control_check fileset user) _ (low_control fileset user) (λ u. tt)))

low_leave : (tree : Tree) (to : ServerId) (fileset : Fileset) → AreLow (leave_check tree to fileset)
unfolding leave_check
low_leave tree to fileset =
    low_unless (fileset.server.0 == to.0) _ _ refl
    (low_unless (is_fileset_used tree.locks tree.opens fileset.id) _ _ refl
    (low_unless (nat_le MOVES_MAX fileset.moves) _ _ refl
    (low_unless (is_taken_by_other tree to fileset) _ _ refl tt)))

low_move_room : (tree : Tree) (to : ServerId) (fileset : Fileset) → AreLow (move_room tree to fileset)
unfolding move_room
low_move_room tree to fileset =
    low_then (slot_for tree to (has_away tree.away to fileset.id)) _
    (low_slot tree to (has_away tree.away to fileset.id)) (λ room. low_blocks tree to room (promise fileset))

low_move : (tree : Tree) (user : User) (server : ServerId) (name : List ℕ) (to : ServerId)
    → AreLow (move_target tree user server name to)
unfolding move_target
low_move tree user server name to =
    low_then (move_source tree user server name) _ (low_move_source tree user server name)
    (λ found. low_then (leave_check tree to found.1) _ (low_leave tree to found.1)
    (λ u. low_then (move_room tree to found.1) _ (low_move_room tree to found.1) (λ room. tt)))

low_right : (writing : Bool) → (if writing then 2 else 1) < 64
low_right true = omega arith
low_right false = omega arith

low_lock : (tree : Tree) (host : HostId) (user : User) (label : List ℕ) (place : Place) (writing : Bool) (from len : ℕ)
    → AreLow (lock_check tree host user label place writing from len)
unfolding lock_check
low_lock tree host user label place writing from len =
    low_unless (has_lock tree.locks host label) _ _ refl
    (low_unless (nat_le LABELS_MAX (lock_count tree.locks host)) _ _ refl
    (low_then (fileset_named tree place.server place.fileset) _ (low_named tree place.server place.fileset)
    (λ fileset. low_then (use_target fileset user place.path writing (if writing then 2 else 1)) _
    (low_use fileset user place.path writing (if writing then 2 else 1) (low_right writing))
    (λ fid. low_unless (nat_lt FILE_BYTES_MAX (from + len)) _ _ refl
    (low_unless (is_own_locked tree.locks host fid (span_between from (from + len))) _ _ refl
    (low_unless (is_excluded tree.locks host fid (span_between from (from + len)) writing) _ _ refl tt))))))

low_open_target : (fileset : Fileset) (user : User) (path : List (List ℕ)) (kind : OpenKind)
    → AreLow (open_target fileset user path kind)
low_open_target fileset user path Reading = low_use fileset user path false 1 (omega arith)
low_open_target fileset user path Writing = low_use fileset user path true 2 (omega arith)
low_open_target fileset user path Executing = low_use fileset user path false 4 (omega arith)
low_open_target fileset user path Shared = low_use fileset user path false 1 (omega arith)
low_open_target fileset user path Exclusive = low_use fileset user path true 2 (omega arith)

low_open : (tree : Tree) (host : HostId) (user : User) (label : List ℕ) (place : Place) (kind : OpenKind)
    → AreLow (open_check tree host user label place kind)
unfolding open_check
low_open tree host user label place kind =
    low_unless (has_open tree.opens host label) _ _ refl
    (low_unless (nat_le LABELS_MAX (open_count tree.opens host)) _ _ refl
    (low_then (fileset_named tree place.server place.fileset) _ (low_named tree place.server place.fileset)
    (λ fileset. low_then (open_target fileset user place.path kind) _ (low_open_target fileset user place.path kind)
    (λ fid. low_unless (is_barred tree.opens host fid kind) _ _ refl tt))))

-- # Calls that a server decides

module _ (tree : Tree) (host : HostId) (user : User) where
  low_row : (call : Call) → AreLow (deciding_place tree call)
      → ((f : Fileset) → IsLowReply (fileset_answer f (is_used tree.locks tree.opens) host user call).reply)
      → IsLowReply (fileset_row tree host user call).reply
  unfolding fileset_row
  low_row call place l =
      low_either tree (deciding_place tree call) _ place (λ at. low_at tree at (slice_get tree.filesets at) _ l)

  low_for : (server : ServerId) (call : Call) → IsDecided server call
      → IsLowReply (answer_for tree host call user).reply
  unfolding answer_for new_fileset_answer clone_answer move_answer lock_answer open_answer fileset_answer create_answer
      remove_answer rename_answer truncate_answer set_access_answer
  low_for v (NewFileset server name objects owner) d =
      low_either tree (new_fileset_target tree server name objects) _ (low_new tree server name objects) (λ room. tt)
  low_for v (CloneFileset server source new) d =
      low_either tree (clone_target tree user server source new) _ (low_clone tree user server source new) (λ found. tt)
  low_for v (MoveFileset server name to) d =
      low_either tree (move_target tree user server name to) _ (low_move tree user server name to) (λ found. tt)
  low_for v (Lock label place writing from len) d =
      low_either tree (lock_check tree host user label place writing from len) _
      (low_lock tree host user label place writing from len) (λ found. tt)
  low_for v (OpenFile label place kind) d =
      low_either tree (open_check tree host user label place kind) _ (low_open tree host user label place kind)
      (λ found. tt)
  low_for v (Create place) d = low_row (Create place) (low_place tree place.server place.fileset)
      (λ f. low_answered f (create_target f EmptyFile user place.path) _ (low_create f user EmptyFile place.path))
  low_for v (MakeDir place) d = low_row (MakeDir place) (low_place tree place.server place.fileset)
      (λ f. low_answered f (create_target f EmptyDirectory user place.path) _
      (low_create f user EmptyDirectory place.path))
  low_for v (Remove place) d = low_row (Remove place) (low_place tree place.server place.fileset)
      (λ f. low_answered f (remove_target f (is_used tree.locks tree.opens) user place.path) _
      (low_remove f user (is_used tree.locks tree.opens) place.path))
  low_for v (Rename from to) d = low_row (Rename from to)
      (low_then (fileset_place tree from.server from.fileset) _ (low_place tree from.server from.fileset)
      (λ place. low_unless (not (same_fileset from to)) _ _ refl tt))
      (λ f. low_answered f (rename_target f user from.path to.path) _ (low_rename f user from.path to.path))
  low_for v (Truncate place len) d = low_row (Truncate place len) (low_place tree place.server place.fileset)
      (λ f. low_answered f (write_target f user place.path len) _ (low_write f user place.path len))
  low_for v (SetAcl place which list) d = low_row (SetAcl place which list) (low_place tree place.server place.fileset)
      (λ f. low_answered f (set_access_target f user place.path which) _ (low_set_access f user place.path which))
  low_for v (Read place from len) d = absurd d
  low_for v (Write place from bytes) d = absurd d
  low_for v (ListNames place) d = absurd d
  low_for v (Stat place) d = absurd d
  low_for v (GetAcl place which) d = absurd d
  low_for v (Sync place) d = absurd d
  low_for v (Unlock label) d = absurd d
  low_for v (CloseFile label) d = absurd d

low_reply : (tree : Tree) (host : HostId) (server : ServerId) (call : Call) → IsDecided server call
    → IsLowReply (kept_reply tree host call)
unfolding answer_to
low_reply tree host server call d = by (user_of tree.roster host)
  where
    by : (o : Option User) → IsLowReply (for_user tree o (answer_for tree host call)).reply
    by None = omega arith
    by (Some user) = low_for tree host user server call d

-- what a Change is refused with by the table
pub low_refused : (tree : Tree) (host : HostId) (server : ServerId) (c : ChangeOf) (r : Refusal)
    → IsTrue c.enter ⊎ IsDecided server c.call → RefusedOn tree host c r → told_right r < 64
low_refused tree host server c r (inl t) on = subst (λ (q : Refusal). told_right q < 64) (sym (on.1 t)) (omega arith)
low_refused tree host server c r (inr d) on = subst IsLowReply on.0 (low_reply tree host server c.call d)
