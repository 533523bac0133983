-- The parts of a fileset that moves: what is told of an object, and the object that it tells of.
use Rattle.std.specs.Prelude.{
  ℕ,
  ◌-◌,
  ◌==◌,
  nat_le,
  Bool,
  true,
  false,
  ◌&&◌,
  if◌then◌else◌,
  List,
  [],
  ◌∷◌,
  length,
  replicate,
  slice_get,
  Option,
  Some,
  None,
}
use Rattle.std.specs.List.{list_all}
use Rattle.std.specs.Option.{option_map, option_map_or, option_and_then}
use Rattle.base_types.specs.declared.access.AccessEntry.{AccessEntry}
use Rattle.base_types.specs.declared.limits.TheConstants.{FILE_BYTES_MAX, OBJECTS_MAX}
use Rattle.tree_calls.specs.declared.part.DirEntry.{DirEntry}
use Rattle.tree_calls.specs.declared.part.Piece.{Piece}
use Rattle.tree_calls.specs.declared.part.Status.{Status}
use Rattle.tree_calls.specs.declared.ship.Mover.{Mover}
use Rattle.tree_calls.specs.declared.ship.ShipPart.{ShipPart}
use Rattle.tree_calls.specs.declared.ship.ShipPart.TheVariants.{Head, Object as ObjectPart}
use Rattle.tree_objects.specs.declared.content.Anode.{Anode}
use Rattle.tree_objects.specs.declared.content.Content.{Content}
use Rattle.tree_objects.specs.declared.content.Content.TheVariants.{Dir, File}
use Rattle.tree_objects.specs.declared.content.Object.{Object}
use Rattle.tree_objects.specs.Files.{content_bytes}
use Rattle.tree_objects.specs.Objects.{is_dir, told_length}
use Rattle.tree_objects.specs.Sound.{names_rise}
use Rattle.tree_filesets.specs.Laws.{lists_in, entries_in}
use Rattle.tree_filesets.specs.Walk.{object_at, unique_at}
use Rattle.store_state.specs.declared.state.Holding.{Holding}
use Rattle.store_state.specs.Giving.{put_pieces}

-- whether an object is within the limits of what is told; each object of a well formed fileset is
abbrev pub is_tellable : Content → Bool
is_tellable (Dir entries lists) = nat_le (length entries) OBJECTS_MAX && (length lists == 3) && names_rise entries
is_tellable (File list kept unsaved len) = nat_le (length kept) FILE_BYTES_MAX

-- whether those of some anodes are
abbrev pub are_told : List Anode → Bool
are_told anodes = list_all (λ anode. option_map_or (λ object. is_tellable object.content) anode.object true) anodes

abbrev pub tellable_or_none : Object → Option Object
tellable_or_none object = if is_tellable object.content then Some object else None

-- the object at an anode, as far as it may be told
abbrev pub told_object : List Anode → ℕ → Option Object
told_object anodes anode = option_and_then tellable_or_none (object_at anodes anode)

-- the kept length of a file, and the number of a directory's entries
abbrev pub kept_length : Content → ℕ
kept_length (Dir entries lists) = length entries
kept_length (File list kept unsaved len) = length kept

-- the kept bytes of a file, and none of a directory
abbrev pub kept_bytes : Content → List ℕ
kept_bytes (Dir entries lists) = []
kept_bytes (File list kept unsaved len) = kept

-- its status
abbrev pub status_of : Bool → Object → Status
status_of read_only object = record {
  dir = is_dir object.content;
  read_only = read_only;
  length = kept_length object.content;
  owner = object.owner;
  group = object.group;
  lists = lists_in object.content;
}

-- the bytes of a file as one piece, and no piece of a directory
abbrev pub pieces_of : Content → List Piece
pieces_of (Dir entries lists) = []
pieces_of (File list kept unsaved len) = record { from = 0; bytes = kept } ∷ []

-- a part that tells of an anode, also of a free one
abbrev pub object_part : ℕ → ℕ → Option Object → ShipPart
object_part anode unique None = ObjectPart anode unique None [] []
object_part anode unique (Some object) =
    ObjectPart anode unique (Some (status_of false object)) (pieces_of object.content) (entries_in object.content)

-- a part of a fileset that is leaving: part 0 is its head, another one the anode of that number
abbrev pub part_of : Holding → ℕ → Mover → ShipPart
part_of holding at mover =
    if at == 0 then Head holding.fileset.name holding.fileset.objects holding.records mover
    else object_part at (unique_at holding.fileset.anodes at) (told_object holding.fileset.anodes at)

-- the content that a part tells of; a file without a list is none
abbrev pub told_content : Status → List Piece → List DirEntry → Option Content
told_content status pieces entries =
    if status.dir then Some (Dir entries status.lists)
    else option_map (λ list. File list (put_pieces (replicate status.length 0) pieces) [] None)
    (slice_get status.lists 0)

-- the object
abbrev pub object_of_part : Option Status → List Piece → List DirEntry → Option Object
object_of_part None pieces entries = None
object_of_part (Some status) pieces entries =
    option_map (λ content. record { owner = status.owner; group = status.group; content = content })
    (told_content status pieces entries)

-- the anode
abbrev pub anode_of_part : ℕ → Option Status → List Piece → List DirEntry → Anode
anode_of_part unique status pieces entries = record { unique = unique; object = object_of_part status pieces entries }
