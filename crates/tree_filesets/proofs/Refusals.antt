-- A refused call changes nothing.
use Rattle.std.proofs.Common.{◌≡◌, ℕ, ◌+◌, Bool, List, length, Result, Ok, Err, refl, rules}
use Rattle.base_types.specs.declared.access.AccessEntry.{AccessEntry}
use Rattle.base_types.specs.declared.ids.Fid.{Fid}
use Rattle.base_types.specs.declared.ids.HostId.{HostId}
use Rattle.base_types.specs.declared.user.User.{User}
use Rattle.tree_calls.specs.declared.call.Call.TheVariants.{Create, MakeDir, Remove, Rename, Truncate, SetAcl, Write, Sync}
use Rattle.tree_calls.specs.declared.place.Which.{Which}
use Rattle.tree_calls.specs.declared.reply.Refusal.{Refusal}
use Rattle.tree_calls.specs.declared.reply.Reply.TheVariants.{Refused}
use Rattle.tree_filesets.specs.declared.creating.NewObject.{NewObject}
use Rattle.tree_filesets.specs.declared.creating.NewObject.TheVariants.{EmptyFile, EmptyDirectory}
use Rattle.tree_filesets.specs.declared.fileset.Fileset.{Fileset}
use Rattle.tree_filesets.specs.Answers.{answered}
use Rattle.tree_filesets.specs.Changing.{write_target, write_answer, truncate_answer, sync_answer, set_access_target, set_access_answer}
use Rattle.tree_filesets.specs.Creation.{create_answer}
use Rattle.tree_filesets.specs.Laws.{RefusedChangesNothing}
use Rattle.tree_filesets.specs.Removal.{remove_target, remove_answer}
use Rattle.tree_filesets.specs.Renaming.{rename_target, rename_answer}
use Rattle.tree_filesets.specs.Rows.{fileset_answer}
use Rattle.tree_filesets.specs.Walk.{file_target}

refused_answer : {A : Type 0} (fileset : Fileset) (checked : Result A Refusal) (effect : A → Fileset) (refusal : Refusal) → (answered fileset checked effect).reply ≡ Refused refusal → (answered fileset checked effect).fileset ≡ fileset
refused_answer fileset (Ok found) effect refusal h = absurd (search (rules, h))
refused_answer fileset (Err other) effect refusal h = refl

refused_create : (fileset : Fileset) (kind : NewObject) (user : User) (path : List (List ℕ)) (refusal : Refusal) → (create_answer fileset kind user path).reply ≡ Refused refusal → (create_answer fileset kind user path).fileset ≡ fileset
unfolding create_answer
refused_create fileset kind user path refusal h = refused_answer fileset _ _ refusal h

refused_remove : (fileset : Fileset) (in_use : Fid → Bool) (user : User) (path : List (List ℕ)) (refusal : Refusal) → (remove_answer fileset in_use user path).reply ≡ Refused refusal → (remove_answer fileset in_use user path).fileset ≡ fileset
unfolding remove_answer
refused_remove fileset in_use user path refusal h = refused_answer fileset (remove_target fileset in_use user path) _ refusal h

refused_rename : (fileset : Fileset) (user : User) (from to : List (List ℕ)) (refusal : Refusal) → (rename_answer fileset user from to).reply ≡ Refused refusal → (rename_answer fileset user from to).fileset ≡ fileset
unfolding rename_answer
refused_rename fileset user from to refusal h = refused_answer fileset (rename_target fileset user from to) _ refusal h

refused_truncate : (fileset : Fileset) (user : User) (path : List (List ℕ)) (len : ℕ) (refusal : Refusal) → (truncate_answer fileset user path len).reply ≡ Refused refusal → (truncate_answer fileset user path len).fileset ≡ fileset
unfolding truncate_answer
refused_truncate fileset user path len refusal h = refused_answer fileset (write_target fileset user path len) _ refusal h

refused_write : (fileset : Fileset) (host : HostId) (user : User) (path : List (List ℕ)) (from : ℕ) (bytes : List ℕ) (refusal : Refusal) → (write_answer fileset host user path from bytes).reply ≡ Refused refusal → (write_answer fileset host user path from bytes).fileset ≡ fileset
unfolding write_answer
refused_write fileset host user path from bytes refusal h = refused_answer fileset (write_target fileset user path (from + length bytes)) _ refusal h

refused_sync : (fileset : Fileset) (host : HostId) (user : User) (path : List (List ℕ)) (refusal : Refusal) → (sync_answer fileset host user path).reply ≡ Refused refusal → (sync_answer fileset host user path).fileset ≡ fileset
unfolding sync_answer
refused_sync fileset host user path refusal h = refused_answer fileset (file_target fileset user path) _ refusal h

refused_set_access : (fileset : Fileset) (user : User) (path : List (List ℕ)) (which : Which) (list : List AccessEntry) (refusal : Refusal) → (set_access_answer fileset user path which list).reply ≡ Refused refusal → (set_access_answer fileset user path which list).fileset ≡ fileset
unfolding set_access_answer
refused_set_access fileset user path which list refusal h = refused_answer fileset (set_access_target fileset user path which) _ refusal h

pub refused_changes_nothing : RefusedChangesNothing
unfolding fileset_answer
refused_changes_nothing fileset in_use host user (Create place) refusal h = refused_create fileset EmptyFile user place.path refusal h
refused_changes_nothing fileset in_use host user (MakeDir place) refusal h = refused_create fileset EmptyDirectory user place.path refusal h
refused_changes_nothing fileset in_use host user (Remove place) refusal h = refused_remove fileset in_use user place.path refusal h
refused_changes_nothing fileset in_use host user (Rename from to) refusal h = refused_rename fileset user from.path to.path refusal h
refused_changes_nothing fileset in_use host user (Truncate place len) refusal h = refused_truncate fileset user place.path len refusal h
refused_changes_nothing fileset in_use host user (SetAcl place which list) refusal h = refused_set_access fileset user place.path which list refusal h
refused_changes_nothing fileset in_use host user (Write place from bytes) refusal h = refused_write fileset host user place.path from bytes refusal h
refused_changes_nothing fileset in_use host user (Sync place) refusal h = refused_sync fileset host user place.path refusal h
refused_changes_nothing fileset in_use host user _ refusal h = refl
