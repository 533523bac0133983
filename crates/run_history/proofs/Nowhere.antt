-- A call is refused with NoFileset just where the fileset that it names isn't there.
use Rattle.std.proofs.Common.{Bool, Err, List, None, Ok, Option, Result, Some, [], ap, false, length, nat_lt, true, ℕ}
use Rattle.std.proofs.Common.{◌&&◌, ◌+◌, ◌-◌, ◌∷◌, ◌≡◌}
use Rattle.std.specs.Prelude.{if◌then◌else◌, slice_get, take}
use Rattle.base_types.specs.Access.{allows}
use Rattle.base_types.specs.Outcomes.{and_then}
use Rattle.base_types.specs.declared.ids.Fid.{Fid}
use Rattle.base_types.specs.declared.ids.HostId.{HostId}
use Rattle.base_types.specs.declared.limits.TheConstants.{FILE_BYTES_MAX}
use Rattle.base_types.specs.declared.user.User.{User}
use Rattle.tree_calls.specs.declared.call.Call.{Call}
use Rattle.tree_calls.specs.declared.call.Call.TheVariants.{CloneFileset, CloseFile, Create, GetAcl, List as ListNames}
use Rattle.tree_calls.specs.declared.call.Call.TheVariants.{Lock as LockCall, MakeDir, MoveFileset, NewFileset}
use Rattle.tree_calls.specs.declared.call.Call.TheVariants.{OpenFile, Read, Remove, Rename, SetAcl, Stat, Sync}
use Rattle.tree_calls.specs.declared.call.Call.TheVariants.{Truncate, Unlock, Write}
use Rattle.tree_calls.specs.declared.part.DirEntry.{DirEntry}
use Rattle.tree_calls.specs.declared.place.Which.{Which}
use Rattle.tree_calls.specs.declared.place.Which.TheVariants.{Dirs, Files, Own}
use Rattle.tree_calls.specs.declared.reply.Refusal.{Refusal}
use Rattle.tree_calls.specs.declared.reply.Refusal.TheVariants.{Denied, Exists, InUse, IsDir, Loop, NoEntry, NoFileset}
use Rattle.tree_calls.specs.declared.reply.Refusal.TheVariants.{NotDir, NotEmpty, ReadOnly, TooBig, TooMany}
use Rattle.tree_calls.specs.declared.reply.Reply.{Reply}
use Rattle.tree_calls.specs.declared.reply.Reply.TheVariants.{Ok as Done, Refused}
use Rattle.tree_filesets.specs.Answers.{answered, told}
use Rattle.tree_filesets.specs.Changing.{set_access_answer, set_access_target, sync_answer, truncate_answer}
use Rattle.tree_filesets.specs.Changing.{write_answer, write_target}
use Rattle.tree_filesets.specs.Checks.{permission, split_at_last, split_path, unless}
use Rattle.tree_filesets.specs.Creation.{create_answer, create_target, first_vacancy, is_vacant, new_content}
use Rattle.tree_filesets.specs.Creation.{new_object, vacancy}
use Rattle.tree_filesets.specs.Founding.{control_check}
use Rattle.tree_filesets.specs.Removal.{fid_of, has_entries, remove_answer, remove_target}
use Rattle.tree_filesets.specs.Renaming.{rename_answer, rename_target}
use Rattle.tree_filesets.specs.Rights.{delete_right, insert_right, read_right, write_right}
use Rattle.tree_filesets.specs.Rows.{fileset_answer}
use Rattle.tree_filesets.specs.Telling.{access_reply, list_reply, list_target, read_reply, stat_reply}
use Rattle.tree_filesets.specs.Uses.{use_target}
use Rattle.tree_filesets.specs.Walk.{entered_at, entry_or_none, entry_target, file_target, found_at, insert_target}
use Rattle.tree_filesets.specs.Walk.{object_at, parent_target, passes, permitted_file, step, target, walk}
use Rattle.tree_filesets.specs.declared.creating.NewObject.{NewObject}
use Rattle.tree_filesets.specs.declared.creating.NewObject.TheVariants.{EmptyDirectory, EmptyFile}
use Rattle.tree_filesets.specs.declared.fileset.Fileset.{Fileset}
use Rattle.tree_objects.specs.Entries.{entry_named}
use Rattle.tree_objects.specs.Objects.{access_of, entered, entries_of, list_or_refused, own_rights, searched}
use Rattle.tree_objects.specs.declared.content.Anode.{Anode}
use Rattle.tree_objects.specs.declared.content.Content.{Content}
use Rattle.tree_objects.specs.declared.content.Content.TheVariants.{Dir, File}
use Rattle.tree_objects.specs.declared.content.Object.{Object}

-- checks that don't refuse so
abbrev pub Apart : {A : Type 0} → Result A Refusal → Type 0
Apart r = r ≡ Err NoFileset → ⊥

abbrev pub Other : Refusal → Type 0
Other refusal = refusal ≡ NoFileset → ⊥

same_error : (A : Type 0) (a b : Refusal)
    → (let l : Result A Refusal = Err a in let r : Result A Refusal = Err b in l ≡ r) → a ≡ b
same_error A a b e = cc

pub apart_ok : {A : Type 0} (x : A) → Apart (Ok x)
apart_ok x e = cc

pub apart_err : {A : Type 0} (refusal : Refusal) → Other refusal
    → (let r : Result A Refusal = Err refusal in Apart r)
apart_err {A} refusal other e = other (same_error A refusal NoFileset e)

pub apart_then : {A B : Type 0} (r : Result A Refusal) (next : A → Result B Refusal) → Apart r
    → ((x : A) → Apart (next x)) → Apart (and_then r next)
apart_then (Ok x) next a b e = b x e
apart_then {A} {B} (Err refusal) next a b e = a (ap Err (same_error B refusal NoFileset e))

pub apart_unless : {A : Type 0} (b : Bool) (refusal : Refusal) (next : Result A Refusal) → Other refusal → Apart next
    → Apart (unless b refusal next)
apart_unless {A} true refusal next other a e = other (same_error A refusal NoFileset e)
apart_unless false refusal next other a e = a e

apart_if : {A : Type 0} (b : Bool) (x : A) (refusal : Refusal) → Other refusal
    → Apart (if b then Ok x else Err refusal)
apart_if true x refusal other e = apart_ok x e
apart_if false x refusal other e = apart_err refusal other e

apart_permission : (object : Object) (user : User) (right : ℕ) → Apart (permission object user right)
apart_permission object user right =
    apart_if (allows (own_rights object user) right) tt (Denied right) (λ q. cc)

apart_searched : (content : Content) (rights : ℕ) → Apart (searched content rights)
apart_searched (Dir entries lists) rights = apart_if (allows rights 4) entries (Denied 4) (λ q. cc)
apart_searched (File list kept unsaved len) rights = apart_err NotDir (λ q. cc)

apart_entered : (o : Option Object) (user : User) → Apart (entered_at o user)
apart_entered None user = apart_err NoEntry (λ q. cc)
apart_entered (Some object) user = apart_searched object.content (own_rights object user)

apart_entry : (o : Option DirEntry) → Apart (entry_or_none o)
apart_entry None = apart_err NoEntry (λ q. cc)
apart_entry (Some entry) = apart_ok entry

apart_found : (anode : ℕ) (o : Option Object) → Apart (found_at anode o)
apart_found anode None = apart_err NoEntry (λ q. cc)
apart_found anode (Some object) = apart_ok (anode, object)

apart_step : (anodes : List Anode) (user : User) (at : ℕ) (name : List ℕ) → Apart (step anodes user at name)
unfolding step
apart_step anodes user at name =
    apart_then (entered_at (object_at anodes at) user) _ (apart_entered (object_at anodes at) user) (λ entries.
    apart_then (entry_or_none (entry_named entries name)) _ (apart_entry (entry_named entries name)) (λ entry.
    apart_ok entry.anode))

apart_walk : (anodes : List Anode) (user : User) (at : ℕ) (names : List (List ℕ)) → Apart (walk anodes user at names)
apart_walk anodes user at [] = apart_ok at
apart_walk anodes user at (name ∷ names) =
    apart_then (step anodes user at name) (λ next. walk anodes user next names) (apart_step anodes user at name)
    (λ next. apart_walk anodes user next names)

apart_split : (path : List (List ℕ)) (empty : Refusal) → Other empty → Apart (split_path path empty)
apart_split path empty other = go (slice_get path (length path - 1))
  where
    go : (o : Option (List ℕ)) → Apart (split_at_last path empty o)
    go None = apart_err empty other
    go (Some name) = apart_ok (name, take (length path - 1) path)

apart_list : (o : Option (List _)) → Apart (list_or_refused o)
apart_list None = apart_err NotDir (λ q. cc)
apart_list (Some list) = apart_ok list

apart_access : (which : Which) (content : Content) → Apart (access_of which content)
apart_access which (Dir entries lists) = apart_list (slice_get lists _)
apart_access Own (File list kept unsaved len) = apart_ok list
apart_access Files (File list kept unsaved len) = apart_err NotDir (λ q. cc)
apart_access Dirs (File list kept unsaved len) = apart_err NotDir (λ q. cc)

apart_vacancy : (anode : ℕ) (anodes : List Anode) → Apart (first_vacancy anode anodes)
apart_vacancy anode [] = apart_err TooMany (λ q. cc)
apart_vacancy anode (first ∷ anodes) = go (is_vacant first) (apart_vacancy (anode + 1) anodes)
  where
    go : (b : Bool) → Apart (first_vacancy (anode + 1) anodes)
        → Apart (if b then Ok (record { anode = anode; unique = first.unique + 1 })
        else first_vacancy (anode + 1) anodes)
    go true rest = apart_ok _
    go false rest = rest

apart_new : (kind : NewObject) (user : User) (directory : Object) → Apart (new_object kind user directory)
apart_new kind user directory = apart_then (new_content kind directory.content) _ (content kind) (λ content. apart_ok _)
  where
    content : (kind : NewObject) → Apart (new_content kind directory.content)
    content EmptyFile =
        apart_then (access_of Files directory.content) _ (apart_access Files directory.content) (λ files. apart_ok _)
    content EmptyDirectory =
        apart_then (access_of Files directory.content) _ (apart_access Files directory.content) (λ files.
        apart_then (access_of Dirs directory.content) _ (apart_access Dirs directory.content) (λ dirs. apart_ok _))

module _ (fileset : Fileset) (user : User) where
  pub apart_target : (path : List (List ℕ)) → Apart (target fileset user path)
  unfolding target
  apart_target path =
      apart_then (walk fileset.anodes user 1 path) _ (apart_walk fileset.anodes user 1 path) (λ anode.
      apart_found anode (object_at fileset.anodes anode))

  apart_file : (path : List (List ℕ)) → Apart (file_target fileset user path)
  unfolding file_target
  apart_file path =
      apart_then (target fileset user path) _ (apart_target path) (λ found.
      apart_unless _ IsDir _ (λ q. cc) (apart_ok _))

  apart_permitted : (path : List (List ℕ)) (right : ℕ) → Apart (permitted_file fileset user path right)
  unfolding permitted_file
  apart_permitted path right =
      apart_then (file_target fileset user path) _ (apart_file path) (λ found.
      apart_then (permission found.1 user right) _ (apart_permission found.1 user right) (λ may. apart_ok _))

  apart_parent : (front : List (List ℕ)) (right : ℕ) → Apart (parent_target fileset user front right)
  unfolding parent_target
  apart_parent front right =
      apart_then (target fileset user front) _ (apart_target front) (λ found.
      apart_then (entered found.1 user) _ (apart_searched found.1.content (own_rights found.1 user)) (λ entries.
      apart_then (permission found.1 user right) _ (apart_permission found.1 user right) (λ may. apart_ok _)))

  apart_insert : (front : List (List ℕ)) (name : List ℕ) → Apart (insert_target fileset user front name)
  unfolding insert_target
  apart_insert front name =
      apart_then (parent_target fileset user front insert_right) _ (apart_parent front insert_right) (λ found.
      apart_unless _ Exists _ (λ q. cc) (apart_ok _))

  apart_taken : (front : List (List ℕ)) (name : List ℕ) → Apart (entry_target fileset user front name)
  unfolding entry_target
  apart_taken front name =
      apart_then (parent_target fileset user front delete_right) _ (apart_parent front delete_right) (λ found.
      apart_then (entry_or_none (entry_named found.2 name)) _ (apart_entry (entry_named found.2 name)) (λ entry.
      apart_ok _))

  apart_create : (kind : NewObject) (path : List (List ℕ)) → Apart (create_target fileset kind user path)
  unfolding create_target
  apart_create kind path =
      apart_unless fileset.read_only ReadOnly _ (λ q. cc) (
      apart_then (split_path path Exists) _ (apart_split path Exists (λ q. cc)) (λ names.
      apart_then (insert_target fileset user names.1 names.0) _ (apart_insert names.1 names.0) (λ found.
      apart_then (vacancy fileset) _ (apart_vacancy 1 (take fileset.objects fileset.anodes)) (λ free.
      apart_then (new_object kind user found.1) _ (apart_new kind user found.1) (λ object. apart_ok _)))))

  apart_remove : (in_use : Fid → Bool) (path : List (List ℕ)) → Apart (remove_target fileset in_use user path)
  unfolding remove_target
  apart_remove in_use path =
      apart_unless fileset.read_only ReadOnly _ (λ q. cc) (
      apart_then (split_path path InUse) _ (apart_split path InUse (λ q. cc)) (λ names.
      apart_then (entry_target fileset user names.1 names.0) _ (apart_taken names.1 names.0) (λ found.
      apart_then (found_at found.1.anode (object_at fileset.anodes found.1.anode)) _
      (apart_found found.1.anode (object_at fileset.anodes found.1.anode)) (λ at.
      apart_unless (has_entries at.1.content) NotEmpty _ (λ q. cc) (
      apart_unless (in_use (fid_of fileset found.1)) InUse _ (λ q. cc) (apart_ok _))))))

  apart_rename : (from to : List (List ℕ)) → Apart (rename_target fileset user from to)
  unfolding rename_target
  apart_rename from to =
      apart_unless fileset.read_only ReadOnly _ (λ q. cc) (
      apart_then (split_path from Loop) _ (apart_split from Loop (λ q. cc)) (λ old.
      apart_then (split_path to Exists) _ (apart_split to Exists (λ q. cc)) (λ new.
      apart_then (entry_target fileset user old.1 old.0) _ (apart_taken old.1 old.0) (λ found.
      apart_then (insert_target fileset user new.1 new.0) _ (apart_insert new.1 new.0) (λ at.
      apart_unless (passes fileset.anodes user 1 new.1 found.1.anode) Loop _ (λ q. cc) (apart_ok _))))))

  apart_write : (path : List (List ℕ)) (end : ℕ) → Apart (write_target fileset user path end)
  unfolding write_target
  apart_write path end =
      apart_unless fileset.read_only ReadOnly _ (λ q. cc) (
      apart_then (permitted_file fileset user path write_right) _ (apart_permitted path write_right) (λ found.
      apart_unless (nat_lt FILE_BYTES_MAX end) TooBig _ (λ q. cc) (apart_ok _)))

  apart_listed : (path : List (List ℕ)) (which : Which) → Apart (set_access_target fileset user path which)
  unfolding set_access_target
  apart_listed path which =
      apart_unless fileset.read_only ReadOnly _ (λ q. cc) (
      apart_then (target fileset user path) _ (apart_target path) (λ found.
      apart_then (access_of which found.1.content) _ (apart_access which found.1.content) (λ list.
      apart_then (permission found.1 user 8) _ (apart_permission found.1 user 8) (λ may. apart_ok _))))

  apart_names : (path : List (List ℕ)) → Apart (list_target fileset user path)
  unfolding list_target
  apart_names path =
      apart_then (target fileset user path) _ (apart_target path) (λ found.
      apart_then (entries_of found.1.content) _ (entries found.1.content) (λ names.
      apart_then (permission found.1 user read_right) _ (apart_permission found.1 user read_right) (λ may. apart_ok _)))
    where
      entries : (content : Content) → Apart (entries_of content)
      entries (Dir names lists) = apart_ok names
      entries (File list kept unsaved len) = apart_err NotDir (λ q. cc)

  pub apart_use : (path : List (List ℕ)) (changing : Bool) (right : ℕ)
      → Apart (use_target fileset user path changing right)
  unfolding use_target
  apart_use path changing right =
      apart_then (file_target fileset user path) _ (apart_file path) (λ found.
      apart_unless (changing && fileset.read_only) ReadOnly _ (λ q. cc) (
      apart_then (permission found.1 user right) _ (apart_permission found.1 user right) (λ may. apart_ok _)))

  pub apart_control : Apart (control_check fileset user)
  unfolding control_check
  apart_control =
      apart_unless fileset.read_only ReadOnly _ (λ q. cc) (
      apart_then (target fileset user []) _ (apart_target []) (λ found. apart_permission found.1 user 8))

-- what a fileset that is there replies
not_told : {A : Type 0} (r : Result A Refusal) (tell : A → Reply) → Apart r
    → ((x : A) → tell x ≡ Refused NoFileset → ⊥) → told r tell ≡ Refused NoFileset → ⊥
not_told (Ok x) tell a b e = b x e
not_told (Err refusal) tell a b e = a (ap Err (let q : refusal ≡ NoFileset = cc in q))

not_answered : {A : Type 0} (fileset : Fileset) (r : Result A Refusal) (effect : A → Fileset) → Apart r
    → (answered fileset r effect).reply ≡ Refused NoFileset → ⊥
not_answered fileset (Ok x) effect a e = let q : Done ≡ Refused NoFileset = e in cc
not_answered fileset (Err refusal) effect a e = a (ap Err (let q : refusal ≡ NoFileset = cc in q))

-- whether one fileset answers the call alone
abbrev pub is_row : Call → Bool
is_row (NewFileset server name objects owner) = false
is_row (CloneFileset server source new) = false
is_row (MoveFileset server name to) = false
is_row (LockCall label place writing from len) = false
is_row (Unlock label) = false
is_row (OpenFile label place kind) = false
is_row (CloseFile label) = false
is_row _ = true

module _ (fileset : Fileset) (in_use : Fid → Bool) (host : HostId) (user : User) where
  pub never_nowhere : (call : Call) → is_row call ≡ true
      → (fileset_answer fileset in_use host user call).reply ≡ Refused NoFileset → ⊥
  unfolding fileset_answer create_answer remove_answer rename_answer truncate_answer set_access_answer read_reply
      write_answer list_reply stat_reply access_reply sync_answer
  never_nowhere (Create place) k =
      not_answered fileset (create_target fileset EmptyFile user place.path) _
      (apart_create fileset user EmptyFile place.path)
  never_nowhere (MakeDir place) k =
      not_answered fileset (create_target fileset EmptyDirectory user place.path) _
      (apart_create fileset user EmptyDirectory place.path)
  never_nowhere (Remove place) k =
      not_answered fileset (remove_target fileset in_use user place.path) _
      (apart_remove fileset user in_use place.path)
  never_nowhere (Rename from to) k =
      not_answered fileset (rename_target fileset user from.path to.path) _
      (apart_rename fileset user from.path to.path)
  never_nowhere (Truncate place len) k =
      not_answered fileset (write_target fileset user place.path len) _ (apart_write fileset user place.path len)
  never_nowhere (SetAcl place which list) k =
      not_answered fileset (set_access_target fileset user place.path which) _
      (apart_listed fileset user place.path which)
  never_nowhere (Read place from len) k =
      not_told (permitted_file fileset user place.path read_right) _
      (apart_permitted fileset user place.path read_right) (λ found e. cc)
  never_nowhere (Write place from bytes) k =
      not_answered fileset (write_target fileset user place.path (from + length bytes)) _
      (apart_write fileset user place.path (from + length bytes))
  never_nowhere (ListNames place) k =
      not_told (list_target fileset user place.path) _ (apart_names fileset user place.path) (λ found e. cc)
  never_nowhere (Stat place) k =
      not_told (target fileset user place.path) _ (apart_target fileset user place.path) (λ found e. cc)
  never_nowhere (GetAcl place which) k =
      not_told (and_then (target fileset user place.path) (λ found. access_of which found.1.content)) _
      (apart_then (target fileset user place.path) _ (apart_target fileset user place.path)
      (λ found. apart_access which found.1.content)) (λ list e. cc)
  never_nowhere (Sync place) k =
      not_answered fileset (file_target fileset user place.path) _ (apart_file fileset user place.path)
  never_nowhere _ k = absurd (let q : false ≡ true = k in cc)
