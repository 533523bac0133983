-- What stays under each answer: which fileset it is, and each file that is locked or open.
use Rattle.std.proofs.Common.{◌≡◌, ◌≢◌, ℕ, ◌+◌, ◌==◌, Bool, true, false, ◌&&◌, not, List, length, Option, Some, None, is_some, refl, sym, ap, ◌∙◌, subst, inl, inr, rules}
use Rattle.std.specs.Option.{option_map_or}
use Rattle.std.proofs.lemmas.Bool.Decides.{eqb_tells}
use Rattle.base_types.specs.declared.access.AccessEntry.{AccessEntry}
use Rattle.base_types.specs.declared.ids.Fid.{Fid}
use Rattle.base_types.specs.declared.ids.FilesetId.{FilesetId}
use Rattle.base_types.specs.declared.ids.HostId.{HostId}
use Rattle.base_types.specs.declared.user.User.{User}
use Rattle.tree_calls.specs.declared.call.Call.TheVariants.{Create, MakeDir, Remove, Rename, Truncate, SetAcl, Write, Sync}
use Rattle.tree_calls.specs.declared.part.DirEntry.{DirEntry}
use Rattle.tree_calls.specs.declared.place.Which.{Which}
use Rattle.tree_objects.specs.declared.content.Content.{Content}
use Rattle.tree_objects.specs.declared.content.Object.{Object}
use Rattle.tree_objects.specs.declared.content.Anode.{Anode}
use Rattle.tree_objects.specs.Changes.{anode_freed, content_written, content_truncated}
use Rattle.tree_objects.specs.Entries.{content_without_entry}
use Rattle.tree_objects.specs.Objects.{is_dir, content_with_list}
use Rattle.tree_objects.specs.Sound.{is_sound}
use Rattle.tree_objects.specs.Stores.{content_synced}
use Rattle.tree_objects.proofs.StaysSound.{sound_written, sound_truncated, sound_synced, sound_with_list}
use Rattle.tree_filesets.specs.declared.creating.Creation.{Creation}
use Rattle.tree_filesets.specs.declared.creating.NewObject.{NewObject}
use Rattle.tree_filesets.specs.declared.creating.NewObject.TheVariants.{EmptyFile, EmptyDirectory}
use Rattle.tree_filesets.specs.declared.fileset.Fileset.{Fileset}
use Rattle.tree_filesets.specs.Changing.{write_target, write_answer, truncate_answer, sync_answer, set_access_target, set_access_answer}
use Rattle.tree_filesets.specs.Creation.{create_target, create_answer, with_object}
use Rattle.tree_filesets.specs.Laws.{is_file_at, IsSameFileset, StaysItself, UsedFileStays}
use Rattle.tree_filesets.specs.Removal.{fid_of, remove_target, remove_answer}
use Rattle.tree_filesets.specs.Renaming.{rename_target, rename_answer}
use Rattle.tree_filesets.specs.Rows.{fileset_answer}
use Rattle.tree_filesets.specs.Updates.{updated, changed}
use Rattle.tree_filesets.specs.Walk.{object_at, unique_at, file_target}
use Rattle.tree_filesets.specs.WellFormed.{IsWellFormed}
use Rattle.tree_filesets.proofs.Alike.{HasSameEntries, AreAlike, same_there, same_kind}
use Rattle.tree_filesets.proofs.Kin.{AreKin, kin_changed}
use Rattle.tree_filesets.proofs.Made as Made
use Rattle.tree_filesets.proofs.Made.{IsNew}
use Rattle.tree_filesets.proofs.Removed as Removed
use Rattle.tree_filesets.proofs.Renamed as Renamed
use Rattle.tree_filesets.proofs.StaysWellFormed.{after_answer, written_entries, truncated_entries, synced_entries, listed_entries}
use Rattle.tree_filesets.proofs.Targets.{write_target_ok, set_access_target_ok, file_target_ok, create_target_ok, remove_target_ok, rename_target_ok}

-- the fileset
same_itself : (fileset : Fileset) → IsSameFileset fileset fileset
same_itself fileset = record { server = refl; id = refl; name = refl; read_only = refl; objects = refl; moves = refl }

same_updated : (fileset : Fileset) (anode : ℕ) (change : Anode → Anode) → IsSameFileset fileset (updated fileset anode change)
unfolding updated
same_updated fileset anode change = record { server = refl; id = refl; name = refl; read_only = refl; objects = refl; moves = refl }

same_trans : (a b c : Fileset) → IsSameFileset a b → IsSameFileset b c → IsSameFileset a c
same_trans a b c h k = record {
  server = k.server ∙ h.server;
  id = k.id ∙ h.id;
  name = k.name ∙ h.name;
  read_only = k.read_only ∙ h.read_only;
  objects = k.objects ∙ h.objects;
  moves = k.moves ∙ h.moves;
}

same_twice : (fileset : Fileset) (first second : ℕ) (change other : Anode → Anode) → IsSameFileset fileset (updated (updated fileset first change) second other)
same_twice fileset first second change other = same_trans fileset (updated fileset first change) _ (same_updated fileset first change) (same_updated (updated fileset first change) second other)

pub stays_itself : StaysItself
unfolding fileset_answer create_answer remove_answer rename_answer truncate_answer set_access_answer write_answer sync_answer
stays_itself fileset in_use host user (Create place) =
    after_answer (IsSameFileset fileset) fileset (create_target fileset EmptyFile user place.path) _ (same_itself fileset) (λ c e. same_twice fileset c.parent c.entry.anode _ _)
stays_itself fileset in_use host user (MakeDir place) =
    after_answer (IsSameFileset fileset) fileset (create_target fileset EmptyDirectory user place.path) _ (same_itself fileset) (λ c e. same_twice fileset c.parent c.entry.anode _ _)
stays_itself fileset in_use host user (Remove place) =
    after_answer (IsSameFileset fileset) fileset (remove_target fileset in_use user place.path) _ (same_itself fileset) (λ f e. same_twice fileset f.0 f.2 _ _)
stays_itself fileset in_use host user (Rename from to) =
    after_answer (IsSameFileset fileset) fileset (rename_target fileset user from.path to.path) _ (same_itself fileset) (λ m e. same_twice fileset m.to m.from _ _)
stays_itself fileset in_use host user (Truncate place len) =
    after_answer (IsSameFileset fileset) fileset (write_target fileset user place.path len) _ (same_itself fileset) (λ anode e. same_updated fileset anode _)
stays_itself fileset in_use host user (SetAcl place which list) =
    after_answer (IsSameFileset fileset) fileset (set_access_target fileset user place.path which) _ (same_itself fileset) (λ anode e. same_updated fileset anode _)
stays_itself fileset in_use host user (Write place from bytes) =
    after_answer (IsSameFileset fileset) fileset (write_target fileset user place.path (from + length bytes)) _ (same_itself fileset) (λ anode e. same_updated fileset anode _)
stays_itself fileset in_use host user (Sync place) =
    after_answer (IsSameFileset fileset) fileset (file_target fileset user place.path) _ (same_itself fileset) (λ f e. same_updated fileset f.0 _)
stays_itself fileset in_use host user _ = same_itself fileset

-- files
abbrev is_file_there : Option Object → Bool
is_file_there o = option_map_or (λ object. not (is_dir object.content)) o false

file_kin : (old new : Option Object) → is_some new ≡ is_some old → option_map_or (λ object. is_dir object.content) new false ≡ option_map_or (λ object. is_dir object.content) old false → is_file_there new ≡ is_file_there old
file_kin None None h k = refl
file_kin None (Some new) h k = absurd (search (rules, h))
file_kin (Some old) None h k = absurd (search (rules, h))
file_kin (Some old) (Some new) h k = ap not k

-- where the unique number and the kind stay
file_stays_so : (old new : Fileset) (fid : Fid) → unique_at new.anodes fid.anode ≡ unique_at old.anodes fid.anode → is_file_there (object_at new.anodes fid.anode) ≡ is_file_there (object_at old.anodes fid.anode) →
    is_file_at old fid ≡ true → is_file_at new fid ≡ true
file_stays_so old new fid unique file h = rw (unique, file) h

file_stays_kin : (old new : Fileset) (fid : Fid) → AreKin old new → is_file_at old fid ≡ true → is_file_at new fid ≡ true
file_stays_kin old new fid kin h = file_stays_so old new fid (kin.unique fid.anode) (file_kin _ _ (kin.there fid.anode) (kin.kind fid.anode)) h

-- objects that keep their entries, and so their kind
pub file_stays_alike : (old new : Fileset) (fid : Fid) → AreAlike old new → is_file_at old fid ≡ true → is_file_at new fid ≡ true
file_stays_alike old new fid alike h =
    file_stays_so old new fid (alike.unique fid.anode) (file_kin _ _ (same_there _ _ (alike.each fid.anode)) (same_kind _ _ (alike.each fid.anode))) h

-- one content is changed
file_stays_changed : (fileset : Fileset) (anode : ℕ) (object : Object) (change : Content → Content) (fid : Fid) → object_at fileset.anodes anode ≡ Some object → HasSameEntries object.content (change object.content) →
    (is_sound object.content ≡ true → is_sound (change object.content) ≡ true) → is_file_at fileset fid ≡ true → is_file_at (changed fileset anode change) fid ≡ true
file_stays_changed fileset anode object change fid there same keeps h = file_stays_kin fileset _ fid (kin_changed fileset anode object change there same.kind keeps) h

and_split : (a b : Bool) → (a && b) ≡ true → (a ≡ true) × (b ≡ true)
and_split true b h = (refl, h)
and_split false b h = absurd (search (rules, h))

is_equal : (a b : ℕ) → (a == b) ≡ true → a ≡ b
is_equal a b h = elim (eqb_tells a b) as (λ _. a ≡ b) [ inl (e, k) ↦ k | inr (e, k) ↦ absurd (search (rules, h)) ]

-- what a file isn't
file_is_there : (o : Option Object) → is_file_there o ≡ true → o ≡ None → ⊥
file_is_there None h k = search (rules, h)
file_is_there (Some object) h k = search (rules, k)

-- the parts of a fid that names a file
file_unique : (fileset : Fileset) (fid : Fid) → is_file_at fileset fid ≡ true → unique_at fileset.anodes fid.anode ≡ fid.unique
file_unique fileset fid h = is_equal _ _ (and_split _ _ h).0

file_there : (fileset : Fileset) (fid : Fid) → is_file_at fileset fid ≡ true → is_file_there (object_at fileset.anodes fid.anode) ≡ true
file_there fileset fid h = (and_split _ _ h).1

file_not_zero : (fileset : Fileset) (fid : Fid) → is_file_at fileset fid ≡ true → fid.anode ≢ 0
file_not_zero fileset fid h e =
    let P : ℕ → Type 0 = λ n. is_file_there (object_at fileset.anodes n) ≡ true in
    file_is_there None (subst P e (file_there fileset fid h)) refl

file_stays_made : (fileset : Fileset) (creation : Creation) (directory : Object) (entries : List DirEntry) (lists : List (List AccessEntry)) → IsNew fileset creation directory entries lists → IsWellFormed fileset →
    (fid : Fid) → is_file_at fileset fid ≡ true → is_file_at (with_object fileset creation) fid ≡ true
file_stays_made fileset creation directory entries lists new w fid h =
    let kin = Made.kin fileset creation directory entries lists new w in
    let off_new : fid.anode ≢ creation.entry.anode = λ e.
    (let P : ℕ → Type 0 = λ n. is_file_there (object_at fileset.anodes n) ≡ true in
    file_is_there _ (subst P e (file_there fileset fid h)) new.vacant) in
    file_stays_so fileset (with_object fileset creation) fid
    (Made.unique_stays fileset creation directory entries lists new w fid.anode (file_not_zero fileset fid h) off_new)
    (ap is_file_there (Made.object_other fileset creation directory entries lists new w fid.anode off_new) ∙ file_kin _ _ (kin.there fid.anode) (kin.kind fid.anode)) h

-- a fid is its parts
same_fid : (a b : Fid) → a.fileset ≡ b.fileset → a.anode ≡ b.anode → a.unique ≡ b.unique → a ≡ b
same_fid a b h k l =
    let make : FilesetId → ℕ → ℕ → Fid = λ f n u. record { fileset = f; anode = n; unique = u } in
    ap (λ f. make f a.anode a.unique) h ∙ ap (λ n. make b.fileset n a.unique) k ∙ ap (λ u. make b.fileset b.anode u) l

file_stays_removed : (fileset : Fileset) (in_use : Fid → Bool) (from : ℕ) (name : List ℕ) (entry : DirEntry) (object : Object) → Removed.Goes fileset from name entry object → IsWellFormed fileset →
    in_use (fid_of fileset entry) ≡ false → (fid : Fid) → fid.fileset ≡ fileset.id → in_use fid ≡ true → is_file_at fileset fid ≡ true →
    is_file_at (updated (changed fileset from (content_without_entry name)) entry.anode anode_freed) fid ≡ true
file_stays_removed fileset in_use from name entry object goes w unused fid id used h =
    let off : fid.anode ≢ entry.anode = λ e.
    (let named = w.named from name entry goes.entry_there in
    let P : ℕ → Type 0 = λ n. unique_at fileset.anodes n ≡ fid.unique in
    let unique : fid.unique ≡ entry.unique = sym (subst P e (file_unique fileset fid h)) ∙ named.1 in
    let same : fid ≡ fid_of fileset entry = same_fid fid (fid_of fileset entry) id e unique in
    let wrong : true ≡ false = sym used ∙ ap in_use same ∙ unused in
    search (rules, wrong)) in
    let kin = Removed.kin fileset from name entry object goes w in
    file_stays_so fileset (updated (changed fileset from (content_without_entry name)) entry.anode anode_freed) fid (Removed.unique_same fileset from name entry object goes w fid.anode)
    (ap is_file_there (Removed.object_other fileset from name entry object goes w fid.anode off) ∙ file_kin _ _ (kin.there fid.anode) (kin.kind fid.anode)) h

-- the rows
used_write : (fileset : Fileset) (host : HostId) (user : User) (path : List (List ℕ)) (from : ℕ) (bytes : List ℕ) (fid : Fid) → is_file_at fileset fid ≡ true → is_file_at (write_answer fileset host user path from bytes).fileset fid ≡ true
unfolding write_answer
used_write fileset host user path from bytes fid h =
    after_answer (λ f. is_file_at f fid ≡ true) fileset (write_target fileset user path (from + length bytes)) _ h (λ anode e.
    let file = write_target_ok fileset user path (from + length bytes) anode e in
    file_stays_changed fileset anode file.object (content_written host from bytes) fid file.there (written_entries host from bytes file.object.content) (sound_written host from bytes file.object.content file.within) h)

used_truncate : (fileset : Fileset) (user : User) (path : List (List ℕ)) (len : ℕ) (fid : Fid) → is_file_at fileset fid ≡ true → is_file_at (truncate_answer fileset user path len).fileset fid ≡ true
unfolding truncate_answer
used_truncate fileset user path len fid h =
    after_answer (λ f. is_file_at f fid ≡ true) fileset (write_target fileset user path len) _ h (λ anode e.
    let file = write_target_ok fileset user path len anode e in
    file_stays_changed fileset anode file.object (content_truncated len) fid file.there (truncated_entries len file.object.content) (sound_truncated len file.object.content file.within) h)

used_sync : (fileset : Fileset) (host : HostId) (user : User) (path : List (List ℕ)) (fid : Fid) → is_file_at fileset fid ≡ true → is_file_at (sync_answer fileset host user path).fileset fid ≡ true
unfolding sync_answer
used_sync fileset host user path fid h =
    after_answer (λ f. is_file_at f fid ≡ true) fileset (file_target fileset user path) _ h (λ found e.
    let file = file_target_ok fileset user path found e in
    file_stays_changed fileset found.0 found.1 (content_synced host) fid file.there (synced_entries host found.1.content) (sound_synced host found.1.content) h)

used_set_access : (fileset : Fileset) (user : User) (path : List (List ℕ)) (which : Which) (list : List AccessEntry) (fid : Fid) → is_file_at fileset fid ≡ true → is_file_at (set_access_answer fileset user path which list).fileset fid ≡ true
unfolding set_access_answer
used_set_access fileset user path which list fid h =
    after_answer (λ f. is_file_at f fid ≡ true) fileset (set_access_target fileset user path which) _ h (λ anode e.
    let (object, there) = set_access_target_ok fileset user path which anode e in
    file_stays_changed fileset anode object (content_with_list which list) fid there (listed_entries which list object.content) (sound_with_list which list object.content) h)

used_create : (fileset : Fileset) (kind : NewObject) (user : User) (path : List (List ℕ)) (fid : Fid) → IsWellFormed fileset → is_file_at fileset fid ≡ true → is_file_at (create_answer fileset kind user path).fileset fid ≡ true
unfolding create_answer
used_create fileset kind user path fid w h =
    after_answer (λ f. is_file_at f fid ≡ true) fileset (create_target fileset kind user path) _ h (λ creation e.
    let creates = create_target_ok fileset kind user path creation e in
    file_stays_made fileset creation creates.directory creates.entries creates.lists creates.is_new w fid h)

used_remove : (fileset : Fileset) (in_use : Fid → Bool) (user : User) (path : List (List ℕ)) (fid : Fid) → IsWellFormed fileset → fid.fileset ≡ fileset.id → in_use fid ≡ true → is_file_at fileset fid ≡ true →
    is_file_at (remove_answer fileset in_use user path).fileset fid ≡ true
unfolding remove_answer
used_remove fileset in_use user path fid w id used h =
    after_answer (λ f. is_file_at f fid ≡ true) fileset (remove_target fileset in_use user path) _ h (λ found e.
    let removes = remove_target_ok fileset in_use user path found e in
    let P : ℕ → Type 0 = λ n. is_file_at (updated (changed fileset found.0 (content_without_entry found.1)) n anode_freed) fid ≡ true in
    subst P removes.number (file_stays_removed fileset in_use found.0 found.1 removes.entry removes.object removes.goes w removes.unused fid id used h))

used_rename : (fileset : Fileset) (user : User) (from to : List (List ℕ)) (fid : Fid) → IsWellFormed fileset → is_file_at fileset fid ≡ true → is_file_at (rename_answer fileset user from to).fileset fid ≡ true
unfolding rename_answer
used_rename fileset user from to fid w h =
    after_answer (λ f. is_file_at f fid ≡ true) fileset (rename_target fileset user from to) _ h (λ move e.
    let renames = rename_target_ok fileset user from to move e in
    file_stays_kin fileset _ fid (Renamed.kin fileset move.from move.name renames.entry move.to move.entry renames.front renames.directory renames.entries renames.lists renames.takes renames.moves w) h)

pub used_file_stays : UsedFileStays
unfolding fileset_answer
used_file_stays fileset in_use host user (Create place) fid w id used h = used_create fileset EmptyFile user place.path fid w h
used_file_stays fileset in_use host user (MakeDir place) fid w id used h = used_create fileset EmptyDirectory user place.path fid w h
used_file_stays fileset in_use host user (Remove place) fid w id used h = used_remove fileset in_use user place.path fid w id used h
used_file_stays fileset in_use host user (Rename from to) fid w id used h = used_rename fileset user from.path to.path fid w h
used_file_stays fileset in_use host user (Truncate place len) fid w id used h = used_truncate fileset user place.path len fid h
used_file_stays fileset in_use host user (SetAcl place which list) fid w id used h = used_set_access fileset user place.path which list fid h
used_file_stays fileset in_use host user (Write place from bytes) fid w id used h = used_write fileset host user place.path from bytes fid h
used_file_stays fileset in_use host user (Sync place) fid w id used h = used_sync fileset host user place.path fid h
used_file_stays fileset in_use host user _ fid w id used h = h
