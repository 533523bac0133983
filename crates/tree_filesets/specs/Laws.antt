-- Laws of filesets.
use Rattle.std.specs.Prelude.{
  ◌≡◌,
  ◌≢◌,
  ◌<◌,
  ◌≤◌,
  ◌⊎◌,
  ℕ,
  ◌+◌,
  ◌-◌,
  ◌==◌,
  Bool,
  true,
  false,
  ◌&&◌,
  not,
  List,
  [],
  ◌∷◌,
  length,
  Ok,
}
use Rattle.std.specs.Option.{option_map, option_map_or}
use Rattle.base_types.specs.Image.{byte_at}
use Rattle.base_types.specs.declared.ids.Fid.{Fid}
use Rattle.base_types.specs.declared.ids.FilesetId.{FilesetId}
use Rattle.base_types.specs.declared.ids.HostId.{HostId}
use Rattle.base_types.specs.declared.ids.ServerId.{ServerId}
use Rattle.base_types.specs.declared.limits.TheConstants.{OBJECTS_MAX}
use Rattle.base_types.specs.declared.user.User.{User}
use Rattle.base_types.specs.declared.access.AccessEntry.{AccessEntry}
use Rattle.tree_calls.specs.declared.call.Call.{Call}
use Rattle.tree_calls.specs.declared.part.DirEntry.{DirEntry}
use Rattle.tree_calls.specs.declared.reply.Refusal.{Refusal}
use Rattle.tree_calls.specs.declared.reply.Reply.TheVariants.{Refused}
use Rattle.tree_objects.specs.declared.content.Content.{Content}
use Rattle.tree_objects.specs.declared.content.Content.TheVariants.{Dir, File}
use Rattle.tree_objects.specs.declared.content.Object.{Object}
use Rattle.tree_objects.specs.Files.{content_bytes}
use Rattle.tree_objects.specs.Objects.{is_dir}
use Rattle.tree_filesets.specs.declared.fileset.Fileset.{Fileset}
use Rattle.tree_filesets.specs.Changing.{write_target, write_answer}
use Rattle.tree_filesets.specs.Founding.{new_fileset, cloned, moved}
use Rattle.tree_filesets.specs.Promises.{promise, clone_promise}
use Rattle.tree_filesets.specs.Rows.{fileset_answer}
use Rattle.tree_filesets.specs.Walk.{object_at, unique_at}
use Rattle.tree_filesets.specs.WellFormed.{is_at_rest, IsWellFormed}

-- the bytes that readers see of what stands at an anode
abbrev pub bytes_at : Fileset → ℕ → List ℕ
bytes_at fileset anode = option_map_or (λ object. content_bytes object.content) (object_at fileset.anodes anode) []

-- whether a fid names a file that is there
abbrev pub is_file_at : Fileset → Fid → Bool
is_file_at fileset fid =
    (unique_at fileset.anodes fid.anode == fid.unique)
    && option_map_or (λ object. not (is_dir object.content)) (object_at fileset.anodes fid.anode) false

-- a refused call changes nothing
abbrev pub RefusedChangesNothing : Type 0
RefusedChangesNothing =
    (fileset : Fileset) (in_use : Fid → Bool) (host : HostId) (user : User) (call : Call) (refusal : Refusal) →
    (fileset_answer fileset in_use host user call).reply ≡ Refused refusal →
    (fileset_answer fileset in_use host user call).fileset ≡ fileset

-- what no call of the table changes
pub record IsSameFileset (old new : Fileset) : Type 0 where
  pub server : new.server ≡ old.server
  pub id : new.id ≡ old.id
  pub name : new.name ≡ old.name
  pub read_only : new.read_only ≡ old.read_only
  pub objects : new.objects ≡ old.objects
  pub moves : new.moves ≡ old.moves

-- a fileset stays the one that it is
abbrev pub StaysItself : Type 0
StaysItself =
    (fileset : Fileset) (in_use : Fid → Bool) (host : HostId) (user : User) (call : Call) →
    IsSameFileset fileset (fileset_answer fileset in_use host user call).fileset

-- a well formed fileset stays so
abbrev pub StaysWellFormed : Type 0
StaysWellFormed =
    (fileset : Fileset) (in_use : Fid → Bool) (host : HostId) (user : User) (call : Call) →
    IsWellFormed fileset → IsWellFormed (fileset_answer fileset in_use host user call).fileset

-- a new fileset of 1 object or more is well formed, and so are a clone of a well formed one, and one that moved
pub record StartsWellFormed : Type 0 where
  pub new : (server : ServerId) (id : FilesetId) (name : List ℕ) (objects : ℕ) (owner : User)
      → 1 ≤ objects → objects ≤ OBJECTS_MAX
      → IsWellFormed (new_fileset server id name objects owner)
  pub clone : (fileset : Fileset) (id : FilesetId) (name : List ℕ)
      → IsWellFormed fileset → IsWellFormed (cloned fileset id name)
  pub moved : (fileset : Fileset) (to : ServerId) → IsWellFormed fileset → IsWellFormed (moved fileset to)

-- a file that is locked or open stays
abbrev pub UsedFileStays : Type 0
UsedFileStays =
    (fileset : Fileset) (in_use : Fid → Bool) (host : HostId) (user : User) (call : Call) (fid : Fid)
    → IsWellFormed fileset
    → fid.fileset ≡ fileset.id → in_use fid ≡ true → is_file_at fileset fid ≡ true
    → is_file_at (fileset_answer fileset in_use host user call).fileset fid ≡ true

-- A write changes one object. Its span then shows the written bytes, and each byte that readers saw outside of it is as
-- before.
pub record WriteChangesItsSpan : Type 0 where
  pub others : (fileset : Fileset)
      (host : HostId) (user : User) (path : List (List ℕ)) (from : ℕ) (bytes : List ℕ) (anode other : ℕ)
      → write_target fileset user path (from + length bytes) ≡ Ok anode → other ≢ anode
      → object_at (write_answer fileset host user path from bytes).fileset.anodes other ≡ object_at fileset.anodes other
  pub inside : (fileset : Fileset)
      (host : HostId) (user : User) (path : List (List ℕ)) (from : ℕ) (bytes : List ℕ) (anode at : ℕ)
      → write_target fileset user path (from + length bytes) ≡ Ok anode → from ≤ at → at < from + length bytes
      → byte_at (bytes_at (write_answer fileset host user path from bytes).fileset anode) at ≡ byte_at bytes (at - from)
  pub outside : (fileset : Fileset)
      (host : HostId) (user : User) (path : List (List ℕ)) (from : ℕ) (bytes : List ℕ) (anode at : ℕ)
      → at < length (bytes_at fileset anode) → (at < from) ⊎ (from + length bytes ≤ at)
      → byte_at (bytes_at (write_answer fileset host user path from bytes).fileset anode) at
      ≡ byte_at (bytes_at fileset anode) at

-- a clone shows the bytes that its source shows, and is promised what that was to be promised for it
pub record CloneShowsSource : Type 0 where
  pub bytes : (fileset : Fileset) (id : FilesetId) (name : List ℕ) (anode : ℕ)
      → bytes_at (cloned fileset id name) anode ≡ bytes_at fileset anode
  pub blocks : (fileset : Fileset) (id : FilesetId) (name : List ℕ)
      → promise (cloned fileset id name) ≡ clone_promise fileset

-- what is present of an object: all that readers see of it
pub record Present : Type 0 where
  pub dir : Bool
  pub owner : List ℕ
  pub group : List ℕ
  pub lists : List (List AccessEntry)
  pub entries : List DirEntry
  pub bytes : List ℕ

-- the access lists
abbrev pub lists_in : Content → List (List AccessEntry)
lists_in (Dir entries lists) = lists
lists_in (File list kept unsaved len) = list ∷ []

-- the entries of a directory, and none of a file
abbrev pub entries_in : Content → List DirEntry
entries_in (Dir entries lists) = entries
entries_in (File list kept unsaved len) = []

abbrev pub present : Object → Present
present object = record {
  dir = is_dir object.content;
  owner = object.owner;
  group = object.group;
  lists = lists_in object.content;
  entries = entries_in object.content;
  bytes = content_bytes object.content;
}

-- A fileset that moved shows each object as it was present, in the same use of the same anode, and has nothing unsaved.
-- It is the same one at another server, and its moves count.
pub record MovedIsTheSame : Type 0 where
  pub objects : (fileset : Fileset) (to : ServerId) (anode : ℕ)
      → option_map present (object_at (moved fileset to).anodes anode)
      ≡ option_map present (object_at fileset.anodes anode)
  pub uses : (fileset : Fileset) (to : ServerId) (anode : ℕ)
      → unique_at (moved fileset to).anodes anode ≡ unique_at fileset.anodes anode
  pub rest : (fileset : Fileset) (to : ServerId) → is_at_rest (moved fileset to) ≡ true
  pub server : (fileset : Fileset) (to : ServerId) → (moved fileset to).server ≡ to
  pub moves : (fileset : Fileset) (to : ServerId) → (moved fileset to).moves ≡ fileset.moves + 1
  pub same : (fileset : Fileset) (to : ServerId) → (moved fileset to).id ≡ fileset.id
  pub name : (fileset : Fileset) (to : ServerId) → (moved fileset to).name ≡ fileset.name
  pub read_only : (fileset : Fileset) (to : ServerId) → (moved fileset to).read_only ≡ fileset.read_only
  pub limit : (fileset : Fileset) (to : ServerId) → (moved fileset to).objects ≡ fileset.objects

-- a clone has never moved, and nothing in it is unsaved
pub record ClonesAreNew : Type 0 where
  pub moves : (fileset : Fileset) (id : FilesetId) (name : List ℕ) → (cloned fileset id name).moves ≡ 0
  pub rest : (fileset : Fileset) (id : FilesetId) (name : List ℕ) → is_at_rest (cloned fileset id name) ≡ true
