-- What each row of one fileset leaves of its objects, part by part.
use Rattle.std.proofs.Common.{◌≡◌, ◌≢◌, ℕ, ◌+◌, Bool, true, false, List, [], ◌∷◌, length, Some, None, Result, Ok, Err, refl, sym, ap, ◌∙◌, subst, rules}
use Rattle.base_types.specs.Outcomes.{and_then}
use Rattle.base_types.specs.declared.access.AccessEntry.{AccessEntry}
use Rattle.base_types.specs.declared.ids.HostId.{HostId}
use Rattle.base_types.specs.declared.ids.Fid.{Fid}
use Rattle.base_types.specs.declared.user.User.{User}
use Rattle.tree_calls.specs.declared.call.Call.{Call}
use Rattle.tree_calls.specs.declared.call.Call.TheVariants.{NewFileset, Create, MakeDir, Remove, Rename, Truncate, SetAcl, CloneFileset, Read, Write, List as ListNames, Stat, GetAcl, Sync, Lock, Unlock, OpenFile, CloseFile, MoveFileset}
use Rattle.tree_calls.specs.declared.part.DirEntry.{DirEntry}
use Rattle.tree_calls.specs.declared.place.Which.{Which}
use Rattle.tree_calls.specs.declared.place.Which.TheVariants.{Files, Dirs}
use Rattle.tree_calls.specs.declared.reply.Refusal.{Refusal}
use Rattle.tree_calls.specs.declared.reply.Refusal.TheVariants.{ReadOnly, Exists}
use Rattle.tree_objects.specs.declared.content.Content.{Content}
use Rattle.tree_objects.specs.declared.content.Content.TheVariants.{Dir, File}
use Rattle.tree_objects.specs.declared.content.Object.{Object}
use Rattle.tree_objects.specs.Changes.{content_written, content_truncated, anode_freed}
use Rattle.tree_objects.specs.Entries.{content_with_entry, content_without_entry}
use Rattle.tree_objects.specs.Objects.{is_dir, access_of, content_with_list}
use Rattle.tree_objects.specs.Stores.{content_synced}
use Rattle.tree_filesets.specs.declared.fileset.Fileset.{Fileset}
use Rattle.tree_filesets.specs.Answers.{answered}
use Rattle.tree_filesets.specs.Changing.{write_target, write_answer, truncate_answer, sync_answer, set_access_target, set_access_answer}
use Rattle.tree_filesets.specs.Checks.{unless, split_path, permission}
use Rattle.tree_filesets.specs.Creation.{vacancy, owned, new_object, create_target, create_answer, with_object}
use Rattle.tree_filesets.specs.Removal.{remove_target, remove_answer}
use Rattle.tree_filesets.specs.Renaming.{rename_target, rename_answer}
use Rattle.tree_filesets.specs.Rights.{control_right}
use Rattle.tree_filesets.specs.Rows.{fileset_answer}
use Rattle.tree_filesets.specs.Updates.{updated, changed}
use Rattle.tree_filesets.specs.Walk.{object_at, target, file_target, insert_target}
use Rattle.tree_filesets.specs.WellFormed.{IsWellFormed}
use Rattle.tree_filesets.proofs.Dropping.{directory_of_entry}
use Rattle.tree_filesets.proofs.Observations.{object_not_zero, length_updated}
use Rattle.tree_filesets.proofs.Stays.{stays_itself}
use Rattle.tree_filesets.proofs.Targets.{then_ok, unless_ok, ok_is, target_ok, file_target_ok, file_target_file, write_target_ok, create_target_ok, remove_target_ok, rename_target_ok}
use Rattle.tree_laws.specs.Parts.{Part, settled, nature_of, cell_of, cell_found, object_in}
use Rattle.tree_laws.specs.Parts.Part.{ByteAt, Size, Traits, Entries}
use Rattle.tree_laws.specs.Fates.{after_fate, write_fate, new_lists, new_nature, new_values, creation, create_fate, remove_fate, rename_fate, fate_row}
use Rattle.tree_laws.specs.Fates.Fate.{IsCut, IsListed, IsSynced}
use Rattle.tree_laws.proofs.Contents.{written_parts, cut_parts, synced_parts, listed_parts}
use Rattle.tree_laws.proofs.Steps.{then_same, then_then, unless_then}
use Rattle.tree_laws.proofs.Objects.{parts_in, row_parts, created_parts, removed_parts, moved_parts}

-- a directory by its content
dir_by : (content : Content) (entries : List DirEntry) (lists : List (List AccessEntry)) → content ≡ Dir entries lists → is_dir content ≡ true
dir_by content entries lists h = ap is_dir h

-- what a user makes
abbrev IsBlank : Object → Type 0
IsBlank object = (part : Part) → cell_of false object part ≡ settled (new_values (nature_of false object) part)

blank_file : (owner group : List ℕ) (list : List AccessEntry) (part : Part) → let object : Object = record { owner = owner; group = group; content = File list [] [] None } in
    cell_of false object part ≡ settled (new_values (nature_of false object) part)
blank_file owner group list (ByteAt at) = refl
blank_file owner group list Size = refl
blank_file owner group list Traits = refl
blank_file owner group list Entries = refl

blank_dir : (owner group : List ℕ) (lists : List (List AccessEntry)) (part : Part) → let object : Object = record { owner = owner; group = group; content = Dir [] lists } in
    cell_of false object part ≡ settled (new_values (nature_of false object) part)
blank_dir owner group lists (ByteAt at) = refl
blank_dir owner group lists Size = refl
blank_dir owner group lists Traits = refl
blank_dir owner group lists Entries = refl

file_blank : (found : Result (List AccessEntry) Refusal) (user : User) (object : Object) → and_then (and_then found (λ files. Ok (File files [] [] None))) (λ content. Ok (owned user content)) ≡ Ok object → IsBlank object
file_blank (Ok files) user object h = subst IsBlank (ok_is _ object h) (λ part. blank_file (owned user (File files [] [] None)).owner (owned user (File files [] [] None)).group files part)
file_blank (Err refusal) user object h = absurd (search (rules, h))

dir_blank : (found other : Result (List AccessEntry) Refusal) (user : User) (object : Object) →
    and_then (and_then found (λ files. and_then other (λ dirs. Ok (Dir [] (dirs ∷ files ∷ dirs ∷ []))))) (λ content. Ok (owned user content)) ≡ Ok object → IsBlank object
dir_blank (Ok files) (Ok dirs) user object h =
    subst IsBlank (ok_is _ object h) (λ part. blank_dir (owned user (Dir [] (dirs ∷ files ∷ dirs ∷ []))).owner (owned user (Dir [] (dirs ∷ files ∷ dirs ∷ []))).group (dirs ∷ files ∷ dirs ∷ []) part)
dir_blank (Ok files) (Err refusal) user object h = absurd (search (rules, h))
dir_blank (Err refusal) other user object h = absurd (search (rules, h))

file_made : (found : Result (List AccessEntry) Refusal) (user : User) →
    and_then (and_then (and_then found (λ files. Ok (File files [] [] None))) (λ content. Ok (owned user content))) (λ object. Ok (nature_of false object))
    ≡ and_then (and_then found (λ files. Ok (files ∷ []))) (λ lists. Ok (new_nature false user lists))
file_made (Ok files) user = refl
file_made (Err refusal) user = refl

dir_made : (found other : Result (List AccessEntry) Refusal) (user : User) →
    and_then (and_then (and_then found (λ files. and_then other (λ dirs. Ok (Dir [] (dirs ∷ files ∷ dirs ∷ []))))) (λ content. Ok (owned user content))) (λ object. Ok (nature_of false object))
    ≡ and_then (and_then found (λ files. and_then other (λ dirs. Ok (dirs ∷ files ∷ dirs ∷ [])))) (λ lists. Ok (new_nature true user lists))
dir_made (Ok files) (Ok dirs) user = refl
dir_made (Ok files) (Err refusal) user = refl
dir_made (Err refusal) other user = refl

module _ (fileset : Fileset) (user : User) (path : List (List ℕ)) (dir : Bool) where
  -- a creation, as it is told of
  told : (kind : _) → ((directory : Object) → and_then (new_object kind user directory) (λ object. Ok (nature_of false object)) ≡ and_then (new_lists dir directory.content) (λ lists. Ok (new_nature dir user lists))) →
      and_then (create_target fileset kind user path) (λ made. Ok (made.parent, made.entry, nature_of false made.object)) ≡ creation fileset dir user path
  unfolding create_target
  told kind makes =
      unless_then fileset.read_only ReadOnly _ _
      ∙ ap (λ next. unless fileset.read_only ReadOnly next)
      (then_then (split_path path Exists) _ _
      ∙ then_same (split_path path Exists) _ _ (λ parts h.
      then_then (insert_target fileset user parts.1 parts.0) _ _
      ∙ then_same (insert_target fileset user parts.1 parts.0) _ _ (λ at h.
      then_then (vacancy fileset) _ _
      ∙ then_same (vacancy fileset) _ _ (λ free h.
      let entry : DirEntry = record { name = parts.0; anode = free.anode; unique = free.unique } in
      then_then (new_object kind user at.1) _ _
      ∙ sym (then_then (new_object kind user at.1) (λ object. Ok (nature_of false object)) (λ nature. Ok (at.0, entry, nature)))
      ∙ ap (λ made. and_then made (λ nature. Ok (at.0, entry, nature))) (makes at.1)
      ∙ then_then (new_lists dir at.1.content) (λ lists. Ok (new_nature dir user lists)) (λ nature. Ok (at.0, entry, nature))))))

  -- what is made is blank, in a fileset that isn't a clone
  made_blank : (kind : _) → ((directory object : Object) → new_object kind user directory ≡ Ok object → IsBlank object) → (made : _) → create_target fileset kind user path ≡ Ok made →
      (fileset.read_only ≡ false) × IsBlank made.object
  unfolding create_target
  made_blank kind blank made h =
      let (writable, a) = unless_ok fileset.read_only ReadOnly _ made h in
      let (parts, b, c) = then_ok (split_path path Exists) _ made a in
      let (at, d, e) = then_ok (insert_target fileset user parts.1 parts.0) _ made c in
      let (free, f, g) = then_ok (vacancy fileset) _ made e in
      let (object, i, same) = then_ok (new_object kind user at.1) _ made g in
      (writable, subst IsBlank (ap (λ m. m.object) (ok_is _ made same)) (blank at.1 object i))

  create_checks : (kind : _) (fid : Fid) (part : Part) (checks : Result _ Refusal) →
      ((made : _) → checks ≡ Ok made → create_target fileset kind user path ≡ Ok made) → ((directory object : Object) → new_object kind user directory ≡ Ok object → IsBlank object) →
      cell_found fileset.read_only (object_in (answered fileset checks (λ made. with_object fileset made)).fileset fid) part
      ≡ after_fate (create_fate fileset fid (and_then checks (λ made. Ok (made.parent, made.entry, nature_of false made.object)))) (parts_in fileset fid) part
  create_checks kind fid part (Err refusal) is_it blank = refl
  create_checks kind fid part (Ok made) is_it blank =
      let creates = create_target_ok fileset kind user path made (is_it made refl) in
      let new = creates.is_new in
      let (writable, nothing) = made_blank kind blank made (is_it made refl) in
      created_parts fileset made.parent creates.directory made.entry made.object (nature_of false made.object) fid part new.takes.there (dir_by creates.directory.content creates.entries creates.lists new.takes.content) new.vacant new.place new.within
      (λ part. ap (λ r. cell_of r made.object part) writable ∙ nothing part) (length_updated fileset made.parent _)

  pub create_row : (kind : _) (fid : Fid) (part : Part) →
      ((directory : Object) → and_then (new_object kind user directory) (λ object. Ok (nature_of false object)) ≡ and_then (new_lists dir directory.content) (λ lists. Ok (new_nature dir user lists))) →
      ((directory object : Object) → new_object kind user directory ≡ Ok object → IsBlank object) →
      cell_found fileset.read_only (object_in (create_answer fileset kind user path).fileset fid) part ≡ after_fate (create_fate fileset fid (creation fileset dir user path)) (parts_in fileset fid) part
  unfolding create_answer
  create_row kind fid part makes blank =
      create_checks kind fid part (create_target fileset kind user path) (λ made h. h) blank
      ∙ ap (λ found. after_fate (create_fate fileset fid found) (parts_in fileset fid) part) (told kind makes)

-- a row that checks in one way and changes in another
found_first : {A : Type 0} (fileset : Fileset) (found : Result (ℕ × A) Refusal) (effect : ℕ → Fileset) →
    answered fileset found (λ (anode, value). effect anode) ≡ answered fileset (and_then found (λ (anode, value). Ok anode)) effect
found_first fileset (Ok found) effect = refl
found_first fileset (Err refusal) effect = refl

remove_checks : (fileset : Fileset) (in_use : Fid → Bool) (user : User) (path : List (List ℕ)) (fid : Fid) (part : Part) (checks : Result (ℕ × List ℕ × ℕ) Refusal) → checks ≡ remove_target fileset in_use user path →
    cell_found fileset.read_only (object_in (answered fileset checks (λ (parent, name, anode). updated (changed fileset parent (content_without_entry name)) anode anode_freed)).fileset fid) part
    ≡ after_fate (remove_fate fileset fid checks) (parts_in fileset fid) part
remove_checks fileset in_use user path fid part (Ok found) e =
    let removes = remove_target_ok fileset in_use user path found (sym e) in
    let from = directory_of_entry fileset found.0 found.1 removes.entry removes.goes.entry_there in
    let P : ℕ → Type 0 = λ n. n ≢ 0 in
    removed_parts fileset found.0 from.directory found.1 found.2 fid part from.is.there (dir_by from.directory.content from.entries from.lists from.is.content)
    (subst P removes.number (object_not_zero fileset.anodes removes.entry.anode removes.object removes.goes.object_there))
remove_checks fileset in_use user path fid part (Err refusal) e = refl

rename_checks : (fileset : Fileset) (user : User) (from to : List (List ℕ)) (fid : Fid) (part : Part) (checks : Result _ Refusal) → checks ≡ rename_target fileset user from to →
    cell_found fileset.read_only (object_in (answered fileset checks (λ move. changed (changed fileset move.to (content_with_entry move.entry)) move.from (content_without_entry move.name))).fileset fid) part
    ≡ after_fate (rename_fate fileset fid (and_then checks (λ move. Ok (move.to, move.entry, move.from, move.name)))) (parts_in fileset fid) part
rename_checks fileset user from to fid part (Ok move) e =
    let renames = rename_target_ok fileset user from to move (sym e) in
    let out = directory_of_entry fileset move.from move.name renames.entry renames.moves.entry_there in
    moved_parts fileset move.to move.from renames.directory out.directory move.entry move.name fid part renames.takes.there (dir_by renames.directory.content renames.entries renames.lists renames.takes.content)
    out.is.there (dir_by out.directory.content out.entries out.lists out.is.content)
rename_checks fileset user from to fid part (Err refusal) e = refl

-- the list that a SetAcl finds
set_access_found : (fileset : Fileset) (user : User) (path : List (List ℕ)) (which : Which) (anode : ℕ) → set_access_target fileset user path which ≡ Ok anode →
    (object : Object) × (list : List AccessEntry) × (object_at fileset.anodes anode ≡ Some object) × (access_of which object.content ≡ Ok list)
unfolding set_access_target
set_access_found fileset user path which anode h =
    let (writable, k) = unless_ok fileset.read_only ReadOnly _ anode h in
    let (at, e, l) = then_ok (target fileset user path) _ anode k in
    let (list, m, n) = then_ok (access_of which at.1.content) _ anode l in
    let (allowed, p, same) = then_ok (permission at.1 user control_right) (λ _. Ok at.0) anode n in
    let P : ℕ → Type 0 = λ n. object_at fileset.anodes n ≡ Some at.1 in
    (at.1, list, subst P (ok_is at.0 anode same) (target_ok fileset user path at e).there, m)

-- a file that a Sync finds
sync_found : (fileset : Fileset) (user : User) (path : List (List ℕ)) (anode : ℕ) (found : Result (ℕ × Object) Refusal) → found ≡ file_target fileset user path → and_then found (λ (anode, object). Ok anode) ≡ Ok anode →
    (object : Object) × (object_at fileset.anodes anode ≡ Some object) × (is_dir object.content ≡ false)
sync_found fileset user path anode (Ok found) e h =
    let P : ℕ → Type 0 = λ n. object_at fileset.anodes n ≡ Some found.1 in
    (found.1, subst P (ok_is found.0 anode h) (file_target_ok fileset user path found (sym e)).there, file_target_file fileset user path found (sym e))
sync_found fileset user path anode (Err refusal) e h = absurd (search (rules, h))

-- each row, but for what no row changes of the fileset
pub row_becomes : (fileset : Fileset) (in_use : Fid → Bool) (host : HostId) (user : User) (call : Call) (fid : Fid) (part : Part) → IsWellFormed fileset →
    cell_found fileset.read_only (object_in (fileset_answer fileset in_use host user call).fileset fid) part ≡ after_fate (fate_row fileset in_use host user call fid) (parts_in fileset fid) part
unfolding fileset_answer remove_answer rename_answer truncate_answer set_access_answer write_answer sync_answer
row_becomes fileset in_use host user (Create place) fid part w =
    create_row fileset user place.path false _ fid part (λ directory. file_made (access_of Files directory.content) user) (λ directory object h. file_blank (access_of Files directory.content) user object h)
row_becomes fileset in_use host user (MakeDir place) fid part w =
    create_row fileset user place.path true _ fid part (λ directory. dir_made (access_of Files directory.content) (access_of Dirs directory.content) user) (λ directory object h. dir_blank (access_of Files directory.content) (access_of Dirs directory.content) user object h)
row_becomes fileset in_use host user (Remove place) fid part w = remove_checks fileset in_use user place.path fid part (remove_target fileset in_use user place.path) refl
row_becomes fileset in_use host user (Rename from to) fid part w = rename_checks fileset user from.path to.path fid part (rename_target fileset user from.path to.path) refl
row_becomes fileset in_use host user (Truncate place len) fid part w =
    row_parts fileset (content_truncated len) (IsCut len) fid part (write_target fileset user place.path len) (λ anode e.
    let found = write_target_ok fileset user place.path len anode e in (found.object, found.there, λ part. cut_parts fileset.read_only found.object.owner found.object.group len found.object.content part found.is_file))
row_becomes fileset in_use host user (SetAcl place which list) fid part w =
    row_parts fileset (content_with_list which list) (IsListed which list) fid part (set_access_target fileset user place.path which) (λ anode e.
    let (object, old, there, access) = set_access_found fileset user place.path which anode e in (object, there, λ part. listed_parts fileset.read_only object.owner object.group which list old object.content part access))
row_becomes fileset in_use host user (Write place from bytes) fid part w =
    row_parts fileset (content_written host from bytes) (write_fate host from bytes) fid part (write_target fileset user place.path (from + length bytes)) (λ anode e.
    let found = write_target_ok fileset user place.path (from + length bytes) anode e in (found.object, found.there, λ part. written_parts fileset.read_only found.object.owner found.object.group host from bytes found.object.content part found.is_file))
row_becomes fileset in_use host user (Sync place) fid part w =
    ap (λ answer. cell_found fileset.read_only (object_in answer.fileset fid) part) (found_first fileset (file_target fileset user place.path) (λ anode. changed fileset anode (content_synced host)))
    ∙ row_parts fileset (content_synced host) (IsSynced host) fid part (and_then (file_target fileset user place.path) (λ (anode, object). Ok anode)) (λ anode e.
    let (object, there, file) = sync_found fileset user place.path anode (file_target fileset user place.path) refl e in
    (object, there, λ part. synced_parts fileset.read_only object.owner object.group host object.content part file (w.sound anode object there)))
row_becomes fileset in_use host user (Read place from len) fid part w = refl
row_becomes fileset in_use host user (ListNames place) fid part w = refl
row_becomes fileset in_use host user (Stat place) fid part w = refl
row_becomes fileset in_use host user (GetAcl place which) fid part w = refl
row_becomes fileset in_use host user (NewFileset server name objects owner) fid part w = refl
row_becomes fileset in_use host user (CloneFileset server source new) fid part w = refl
row_becomes fileset in_use host user (MoveFileset server name to) fid part w = refl
row_becomes fileset in_use host user (Lock label place writing from len) fid part w = refl
row_becomes fileset in_use host user (Unlock label) fid part w = refl
row_becomes fileset in_use host user (OpenFile label place kind) fid part w = refl
row_becomes fileset in_use host user (CloseFile label) fid part w = refl

pub row_fates : (fileset : Fileset) (in_use : Fid → Bool) (host : HostId) (user : User) (call : Call) (fid : Fid) (part : Part) → IsWellFormed fileset →
    parts_in (fileset_answer fileset in_use host user call).fileset fid part ≡ after_fate (fate_row fileset in_use host user call fid) (parts_in fileset fid) part
row_fates fileset in_use host user call fid part w =
    ap (λ r. cell_found r (object_in (fileset_answer fileset in_use host user call).fileset fid) part) (stays_itself fileset in_use host user call).read_only
    ∙ row_becomes fileset in_use host user call fid part w
