-- What is told of one object.
use Rattle.std.specs.Prelude.{
  ℕ,
  ◌+◌,
  ◌/◌,
  Bool,
  true,
  false,
  if◌then◌else◌,
  min,
  List,
  length,
  slice_get,
  slice_set,
  Option,
  Some,
  None,
  Result,
  Ok,
  Err,
}
use Rattle.base_types.specs.Access.{rights_of, allows}
use Rattle.base_types.specs.declared.user.User.{User}
use Rattle.base_types.specs.declared.access.AccessEntry.{AccessEntry}
use Rattle.base_types.specs.declared.limits.TheConstants.{BLOCK_BYTES}
use Rattle.tree_calls.specs.declared.part.DirEntry.{DirEntry}
use Rattle.tree_calls.specs.declared.place.Which.{Which}
use Rattle.tree_calls.specs.declared.place.Which.TheVariants.{Own, Files, Dirs}
use Rattle.tree_calls.specs.declared.reply.Refusal.{Refusal}
use Rattle.tree_calls.specs.declared.reply.Refusal.TheVariants.{NotDir, Denied}
use Rattle.tree_calls.specs.declared.reply.Facts.{Facts}
use Rattle.tree_objects.specs.declared.content.Content.{Content}
use Rattle.tree_objects.specs.declared.content.Content.TheVariants.{Dir, File}
use Rattle.tree_objects.specs.declared.content.Object.{Object}
use Rattle.tree_objects.specs.Files.{present_length}
use Rattle.tree_objects.specs.Changes.{content_as_cloned, content_changed}

-- whether it is a directory
abbrev pub is_dir : Content → Bool
is_dir (Dir entries lists) = true
is_dir (File list kept unsaved len) = false

-- the entries of a directory
abbrev pub entries_of : Content → Result (List DirEntry) Refusal
entries_of (Dir entries lists) = Ok entries
entries_of (File list kept unsaved len) = Err NotDir

-- the rights by one list; none where there is no list
abbrev pub rights_by : Option (List AccessEntry) → Object → User → ℕ
rights_by None object user = 0
rights_by (Some list) object user = rights_of list object.owner object.group user

-- the object's own list: the first of a directory's
abbrev pub own_list : Content → Option (List AccessEntry)
own_list (Dir entries lists) = slice_get lists 0
own_list (File list kept unsaved len) = Some list

-- the rights of a user on an object, by the object's own list
abbrev pub own_rights : Object → User → ℕ
own_rights object user = rights_by (own_list object.content) object user

-- the entries, where the user may search the directory: 4 is the right to execute
abbrev pub searched : Content → ℕ → Result (List DirEntry) Refusal
searched (Dir entries lists) rights = if allows rights 4 then Ok entries else Err (Denied 4)
searched (File list kept unsaved len) rights = Err NotDir

abbrev pub entered : Object → User → Result (List DirEntry) Refusal
entered object user = searched object.content (own_rights object user)

-- the length of a directory is the number of its entries
abbrev pub told_length : Content → ℕ
told_length (Dir entries lists) = length entries
told_length (File list kept unsaved len) = present_length kept len

-- what is told of an object to a user; a length of 32 bits is told
abbrev pub facts_of : Object → User → Facts
facts_of object user = record {
  dir = is_dir object.content;
  length = min (told_length object.content) 4294967295;
  owner = object.owner;
  rights = own_rights object user;
}

-- the place of an access list among those of a directory
abbrev pub list_index : Which → ℕ
list_index Own = 0
list_index Files = 1
list_index Dirs = 2

abbrev pub list_or_refused : Option (List AccessEntry) → Result (List AccessEntry) Refusal
list_or_refused None = Err NotDir
list_or_refused (Some list) = Ok list

-- an access list; a file has only its own
abbrev pub access_of : Which → Content → Result (List AccessEntry) Refusal
access_of which (Dir entries lists) = list_or_refused (slice_get lists (list_index which))
access_of Own (File list kept unsaved len) = Ok list
access_of Files (File list kept unsaved len) = Err NotDir
access_of Dirs (File list kept unsaved len) = Err NotDir

-- an object with another access list; that of a file is its own
abbrev pub content_with_list : Which → List AccessEntry → Content → Content
content_with_list which list (Dir entries lists) = Dir entries (slice_set lists (list_index which) list)
content_with_list which list (File old kept unsaved len) = File list kept unsaved len

-- the blocks that a copy is promised: 4, and 5 more for a directory, or one for each block of bytes of a file
abbrev pub blocks_of : Content → ℕ
blocks_of (Dir entries lists) = 9
blocks_of (File list kept unsaved len) = 4 + (present_length kept len + 1023) / BLOCK_BYTES

-- what a clone holds of an object
abbrev pub object_as_cloned : Object → Object
object_as_cloned object = content_changed content_as_cloned object
