-- A well formed fileset stays so under each answer.
use Rattle.std.proofs.Common.{◌≡◌, ℕ, ◌+◌, Bool, List, [], ◌∷◌, length, Option, Result, Ok, Err, refl, subst}
use Rattle.base_types.specs.declared.access.AccessEntry.{AccessEntry}
use Rattle.base_types.specs.declared.ids.Fid.{Fid}
use Rattle.base_types.specs.declared.ids.FilesetId.{FilesetId}
use Rattle.base_types.specs.declared.ids.HostId.{HostId}
use Rattle.base_types.specs.declared.ids.ServerId.{ServerId}
use Rattle.base_types.specs.declared.span.Span.{Span}
use Rattle.base_types.specs.declared.user.User.{User}
use Rattle.tree_calls.specs.declared.call.Call.{Call}
use Rattle.tree_calls.specs.declared.call.Call.TheVariants.{Create, MakeDir, Remove, Rename, Truncate, SetAcl, Write, Sync}
use Rattle.tree_calls.specs.declared.place.Which.{Which}
use Rattle.tree_calls.specs.declared.reply.Refusal.{Refusal}
use Rattle.tree_objects.specs.declared.content.Content.{Content}
use Rattle.tree_objects.specs.declared.content.Content.TheVariants.{Dir, File}
use Rattle.tree_objects.specs.Changes.{anode_freed, content_written, content_truncated, content_forgotten, content_as_cloned}
use Rattle.tree_objects.specs.Entries.{content_without_entry}
use Rattle.tree_objects.specs.Objects.{content_with_list}
use Rattle.tree_objects.specs.Stores.{content_stored, content_synced, own_length_of}
use Rattle.tree_objects.specs.Spans.{whole}
use Rattle.tree_objects.proofs.StaysSound.{sound_written, sound_truncated, sound_synced, sound_with_list, sound_clone}
use Rattle.tree_filesets.specs.declared.creating.NewObject.{NewObject}
use Rattle.tree_filesets.specs.declared.creating.NewObject.TheVariants.{EmptyFile, EmptyDirectory}
use Rattle.tree_filesets.specs.declared.fileset.Fileset.{Fileset}
use Rattle.tree_filesets.specs.Answers.{answered}
use Rattle.tree_filesets.specs.Changing.{write_target, write_answer, truncate_answer, sync_answer, set_access_target, set_access_answer}
use Rattle.tree_filesets.specs.Creation.{create_target, create_answer}
use Rattle.tree_filesets.specs.Founding.{cloned, moved}
use Rattle.tree_filesets.specs.Removal.{remove_target, remove_answer}
use Rattle.tree_filesets.specs.Renaming.{rename_target, rename_answer}
use Rattle.tree_filesets.specs.Rows.{fileset_answer}
use Rattle.tree_filesets.specs.Updates.{updated, changed}
use Rattle.tree_filesets.specs.Walk.{file_target}
use Rattle.tree_filesets.specs.WellFormed.{IsWellFormed}
use Rattle.tree_filesets.proofs.Alike.{HasSameEntries, well_formed_changed}
use Rattle.tree_filesets.proofs.Made.{well_formed_made}
use Rattle.tree_filesets.proofs.Observations.{object_not_zero}
use Rattle.tree_filesets.proofs.Removed.{well_formed_removed}
use Rattle.tree_filesets.proofs.Renamed.{well_formed_renamed}
use Rattle.tree_filesets.proofs.Targets.{write_target_ok, set_access_target_ok, file_target_ok, create_target_ok, remove_target_ok, rename_target_ok}
use Rattle.tree_filesets.proofs.Mapped.{well_formed_mapped}

-- what holds before, and after each effect, holds after an answer
pub after_answer : {A : Type 0} (P : Fileset → Type 0) (fileset : Fileset) (checked : Result A Refusal) (effect : A → Fileset) →
    P fileset → ((found : A) → checked ≡ Ok found → P (effect found)) → P (answered fileset checked effect).fileset
after_answer P fileset (Ok found) effect h k = k found refl
after_answer P fileset (Err refusal) effect h k = h

-- changes of a file, and of lists, keep the entries
pub written_entries : (host : HostId) (from : ℕ) (bytes : List ℕ) (content : Content) → HasSameEntries content (content_written host from bytes content)
written_entries host from [] content = record { entries = λ name. refl; kind = refl }
written_entries host from (v ∷ vs) (Dir entries lists) = record { entries = λ name. refl; kind = refl }
written_entries host from (v ∷ vs) (File list kept unsaved len) = record { entries = λ name. refl; kind = refl }

pub truncated_entries : (size : ℕ) (content : Content) → HasSameEntries content (content_truncated size content)
truncated_entries size (Dir entries lists) = record { entries = λ name. refl; kind = refl }
truncated_entries size (File list kept unsaved len) = record { entries = λ name. refl; kind = refl }

pub stored_entries : (host : HostId) (spans : List Span) (stored : Option ℕ) (content : Content) → HasSameEntries content (content_stored host spans stored content)
stored_entries host spans stored (Dir entries lists) = record { entries = λ name. refl; kind = refl }
stored_entries host spans stored (File list kept unsaved len) = record { entries = λ name. refl; kind = refl }

pub synced_entries : (host : HostId) (content : Content) → HasSameEntries content (content_synced host content)
synced_entries host content = stored_entries host (whole ∷ []) (own_length_of host content) content

pub forgotten_entries : (host : HostId) (content : Content) → HasSameEntries content (content_forgotten host content)
forgotten_entries host (Dir entries lists) = record { entries = λ name. refl; kind = refl }
forgotten_entries host (File list kept unsaved len) = record { entries = λ name. refl; kind = refl }

pub kept_entries : (content : Content) → HasSameEntries content (content_as_cloned content)
kept_entries (Dir entries lists) = record { entries = λ name. refl; kind = refl }
kept_entries (File list kept unsaved len) = record { entries = λ name. refl; kind = refl }

pub listed_entries : (which : Which) (access : List AccessEntry) (content : Content) → HasSameEntries content (content_with_list which access content)
listed_entries which access (Dir entries lists) = record { entries = λ name. refl; kind = refl }
listed_entries which access (File list kept unsaved len) = record { entries = λ name. refl; kind = refl }

-- the rows
well_formed_write : (fileset : Fileset) (host : HostId) (user : User) (path : List (List ℕ)) (from : ℕ) (bytes : List ℕ) → IsWellFormed fileset → IsWellFormed (write_answer fileset host user path from bytes).fileset
unfolding write_answer
well_formed_write fileset host user path from bytes w =
    after_answer IsWellFormed fileset (write_target fileset user path (from + length bytes)) _ w (λ anode e.
    let file = write_target_ok fileset user path (from + length bytes) anode e in
    well_formed_changed fileset anode file.object (content_written host from bytes) w file.there (object_not_zero fileset.anodes anode file.object file.there)
    (written_entries host from bytes file.object.content) (sound_written host from bytes file.object.content file.within))

well_formed_truncate : (fileset : Fileset) (user : User) (path : List (List ℕ)) (len : ℕ) → IsWellFormed fileset → IsWellFormed (truncate_answer fileset user path len).fileset
unfolding truncate_answer
well_formed_truncate fileset user path len w =
    after_answer IsWellFormed fileset (write_target fileset user path len) _ w (λ anode e.
    let file = write_target_ok fileset user path len anode e in
    well_formed_changed fileset anode file.object (content_truncated len) w file.there (object_not_zero fileset.anodes anode file.object file.there)
    (truncated_entries len file.object.content) (sound_truncated len file.object.content file.within))

well_formed_sync : (fileset : Fileset) (host : HostId) (user : User) (path : List (List ℕ)) → IsWellFormed fileset → IsWellFormed (sync_answer fileset host user path).fileset
unfolding sync_answer
well_formed_sync fileset host user path w =
    after_answer IsWellFormed fileset (file_target fileset user path) _ w (λ found e.
    let file = file_target_ok fileset user path found e in
    well_formed_changed fileset found.0 found.1 (content_synced host) w file.there (object_not_zero fileset.anodes found.0 found.1 file.there)
    (synced_entries host found.1.content) (sound_synced host found.1.content))

well_formed_set_access : (fileset : Fileset) (user : User) (path : List (List ℕ)) (which : Which) (list : List AccessEntry) → IsWellFormed fileset → IsWellFormed (set_access_answer fileset user path which list).fileset
unfolding set_access_answer
well_formed_set_access fileset user path which list w =
    after_answer IsWellFormed fileset (set_access_target fileset user path which) _ w (λ anode e.
    let (object, there) = set_access_target_ok fileset user path which anode e in
    well_formed_changed fileset anode object (content_with_list which list) w there (object_not_zero fileset.anodes anode object there)
    (listed_entries which list object.content) (sound_with_list which list object.content))

well_formed_create : (fileset : Fileset) (kind : NewObject) (user : User) (path : List (List ℕ)) → IsWellFormed fileset → IsWellFormed (create_answer fileset kind user path).fileset
unfolding create_answer
well_formed_create fileset kind user path w =
    after_answer IsWellFormed fileset (create_target fileset kind user path) _ w (λ creation e.
    let creates = create_target_ok fileset kind user path creation e in
    well_formed_made fileset creation creates.directory creates.entries creates.lists creates.is_new w)

well_formed_remove : (fileset : Fileset) (in_use : Fid → Bool) (user : User) (path : List (List ℕ)) → IsWellFormed fileset → IsWellFormed (remove_answer fileset in_use user path).fileset
unfolding remove_answer
well_formed_remove fileset in_use user path w =
    after_answer IsWellFormed fileset (remove_target fileset in_use user path) _ w (λ found e.
    let removes = remove_target_ok fileset in_use user path found e in
    let P : ℕ → Type 0 = λ n. IsWellFormed (updated (changed fileset found.0 (content_without_entry found.1)) n anode_freed) in
    subst P removes.number (well_formed_removed fileset found.0 found.1 removes.entry removes.object removes.goes w))

well_formed_rename : (fileset : Fileset) (user : User) (from to : List (List ℕ)) → IsWellFormed fileset → IsWellFormed (rename_answer fileset user from to).fileset
unfolding rename_answer
well_formed_rename fileset user from to w =
    after_answer IsWellFormed fileset (rename_target fileset user from to) _ w (λ move e.
    let renames = rename_target_ok fileset user from to move e in
    well_formed_renamed fileset move.from move.name renames.entry move.to move.entry renames.front renames.directory renames.entries renames.lists renames.takes renames.moves w)

pub stays_well_formed : (fileset : Fileset) (in_use : Fid → Bool) (host : HostId) (user : User) (call : Call) → IsWellFormed fileset → IsWellFormed (fileset_answer fileset in_use host user call).fileset
unfolding fileset_answer
stays_well_formed fileset in_use host user (Create place) w = well_formed_create fileset EmptyFile user place.path w
stays_well_formed fileset in_use host user (MakeDir place) w = well_formed_create fileset EmptyDirectory user place.path w
stays_well_formed fileset in_use host user (Remove place) w = well_formed_remove fileset in_use user place.path w
stays_well_formed fileset in_use host user (Rename from to) w = well_formed_rename fileset user from.path to.path w
stays_well_formed fileset in_use host user (Truncate place len) w = well_formed_truncate fileset user place.path len w
stays_well_formed fileset in_use host user (SetAcl place which list) w = well_formed_set_access fileset user place.path which list w
stays_well_formed fileset in_use host user (Write place from bytes) w = well_formed_write fileset host user place.path from bytes w
stays_well_formed fileset in_use host user (Sync place) w = well_formed_sync fileset host user place.path w
stays_well_formed fileset in_use host user _ w = w

-- a clone
pub stays_well_formed_cloned : (fileset : Fileset) (id : FilesetId) (name : List ℕ) → IsWellFormed fileset → IsWellFormed (cloned fileset id name)
unfolding cloned
stays_well_formed_cloned fileset id name w = well_formed_mapped fileset (cloned fileset id name) content_as_cloned w refl refl kept_entries sound_clone

-- one that moved
pub stays_well_formed_moved : (fileset : Fileset) (to : ServerId) → IsWellFormed fileset → IsWellFormed (moved fileset to)
unfolding moved
stays_well_formed_moved fileset to w = well_formed_mapped fileset (moved fileset to) content_as_cloned w refl refl kept_entries sound_clone
