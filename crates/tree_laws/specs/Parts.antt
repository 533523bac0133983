-- What there is to see of an object, part by part, and what of it isn't stored yet.
use Rattle.std.specs.Prelude.{ℕ, ◌==◌, Bool, if◌then◌else◌, List, [], length, Option, Some, None}
use Rattle.std.specs.List.{find}
use Rattle.std.specs.Option.{option_map, option_map_or}
use Rattle.base_types.specs.declared.access.AccessEntry.{AccessEntry}
use Rattle.base_types.specs.declared.ids.HostId.{HostId}
use Rattle.base_types.specs.declared.ids.Fid.{Fid}
use Rattle.tree_calls.specs.declared.part.DirEntry.{DirEntry}
use Rattle.tree_objects.specs.declared.content.Content.{Content}
use Rattle.tree_objects.specs.declared.content.Content.TheVariants.{Dir, File}
use Rattle.tree_objects.specs.declared.content.Object.{Object}
use Rattle.tree_objects.specs.declared.content.Unsaved.{Unsaved}
use Rattle.tree_objects.specs.declared.content.UnsavedLength.{UnsavedLength}
use Rattle.tree_objects.specs.Objects.{is_dir}
use Rattle.tree_objects.specs.Shown.{shown}
use Rattle.tree_filesets.specs.declared.fileset.Fileset.{Fileset}
use Rattle.tree_filesets.specs.Laws.{entries_in, lists_in}
use Rattle.tree_filesets.specs.Walk.{object_at, unique_at}
use Rattle.tree_answers.specs.declared.tree.Tree.{Tree}
use Rattle.tree_answers.specs.Finding.{has_id}

-- a part of an object
pub data Part : Type 0 where
  -- the byte of a file at a position
  ByteAt : ℕ → Part
  -- the bytes of a file, or the entries of a directory, counted
  Size : Part
  -- what else a status tells, and whether the object is there
  Traits : Part
  -- the entries of a directory
  Entries : Part

-- what a status tells beside the size
pub record Nature : Type 0 where
  pub dir : Bool
  -- whether its fileset is a clone
  pub read_only : Bool
  pub owner : List ℕ
  pub group : List ℕ
  -- the one list of a file, or the three of a directory
  pub lists : List (List AccessEntry)

-- what is seen of a part; of an object that isn't there its nature is none
abbrev pub Seen : Part → Type 0
Seen (ByteAt at) = ℕ
Seen Size = ℕ
Seen Traits = Option Nature
Seen Entries = List DirEntry

-- a value that a host has written and not stored yet
pub record Written (X : Type 0) : Type 0 where
  pub writer : HostId
  pub value : X

-- a part in the tree: what is kept of it, and what isn't stored yet
pub record Cell (X : Type 0) : Type 0 where
  pub kept : X
  pub unsaved : Option (Written X)

-- what readers see
abbrev pub present : {X : Type 0} → Cell X → X
present cell = option_map_or (λ written. written.value) cell.unsaved cell.kept

-- a part of which nothing is unsaved
abbrev pub settled : {X : Type 0} → X → Cell X
settled value = record { kept = value; unsaved = None }

abbrev pub written_byte : Unsaved → Written ℕ
written_byte byte = record { writer = byte.writer; value = byte.value }

abbrev pub written_length : UnsavedLength → Written ℕ
written_length len = record { writer = len.writer; value = len.length }

abbrev pub byte_cell : Content → ℕ → Cell ℕ
byte_cell content at = record {
  kept = (shown content at).kept;
  unsaved = option_map written_byte (shown content at).unsaved;
}

abbrev pub size_cell : Content → Cell ℕ
size_cell (Dir entries lists) = settled (length entries)
size_cell (File list kept unsaved len) = record {
  kept = length kept;
  unsaved = option_map written_length len;
}

abbrev pub nature_of : Bool → Object → Nature
nature_of read_only object = record {
  dir = is_dir object.content;
  read_only = read_only;
  owner = object.owner;
  group = object.group;
  lists = lists_in object.content;
}

-- the parts of an object of a clone, or of another fileset
abbrev pub cell_of : Bool → Object → (part : Part) → Cell (Seen part)
cell_of read_only object (ByteAt at) = byte_cell object.content at
cell_of read_only object Size = size_cell object.content
cell_of read_only object Traits = settled (Some (nature_of read_only object))
cell_of read_only object Entries = settled (entries_in object.content)

-- of an object that isn't there
abbrev pub no_cell : (part : Part) → Cell (Seen part)
no_cell (ByteAt at) = settled 0
no_cell Size = settled 0
no_cell Traits = settled None
no_cell Entries = settled []

-- the object of a fileset that a fid names: the anode is in that use
abbrev pub object_in : Fileset → Fid → Option Object
object_in fileset fid =
    if unique_at fileset.anodes fid.anode == fid.unique then object_at fileset.anodes fid.anode else None

abbrev pub cell_found : Bool → Option Object → (part : Part) → Cell (Seen part)
cell_found read_only None part = no_cell part
cell_found read_only (Some object) part = cell_of read_only object part

abbrev pub cell_in : Option Fileset → Fid → (part : Part) → Cell (Seen part)
cell_in None fid part = no_cell part
cell_in (Some fileset) fid part = cell_found fileset.read_only (object_in fileset fid) part

-- a part of what a fid names in a tree
abbrev pub cell_at : Tree → Fid → (part : Part) → Cell (Seen part)
cell_at tree fid part = cell_in (find (has_id fid.fileset) tree.filesets) fid part
