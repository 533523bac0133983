-- Whose changes of files are unsaved.
use Rattle.std.specs.Prelude.{
  ℕ,
  ◌==◌,
  nat_lt,
  nat_le,
  not,
  Bool,
  true,
  false,
  ◌&&◌,
  List,
  [],
  ◌∷◌,
  length,
  Option,
  Some,
  None,
  option_and_then,
}
use Rattle.std.specs.List.{list_all}
use Rattle.std.specs.Option.{option_map, option_map_or}
use Rattle.base_types.specs.Outcomes.{either}
use Rattle.base_types.specs.declared.ids.HostId.{HostId}
use Rattle.tree_calls.specs.declared.call.Call.TheVariants.{Write}
use Rattle.tree_calls.specs.declared.entry.Entry.{Entry}
use Rattle.tree_calls.specs.declared.entry.Entry.TheVariants.{Call}
use Rattle.tree_calls.specs.declared.place.Place.{Place}
use Rattle.tree_objects.specs.declared.content.Unsaved.{Unsaved}
use Rattle.tree_objects.specs.declared.content.UnsavedLength.{UnsavedLength}
use Rattle.tree_objects.specs.declared.content.Content.{Content}
use Rattle.tree_objects.specs.declared.content.Content.TheVariants.{Dir, File}
use Rattle.tree_objects.specs.declared.content.Anode.{Anode}
use Rattle.tree_objects.specs.Files.{present_length}
use Rattle.tree_filesets.specs.declared.fileset.Fileset.{Fileset}
use Rattle.tree_filesets.specs.Walk.{object_at}
use Rattle.tree_filesets.specs.WellFormed.{leads}
use Rattle.tree_answers.specs.declared.tree.Tree.{Tree}
use Rattle.tree_answers.specs.Finding.{fileset_named}

-- whether what stands at an anode, where there is an object, has such a content
abbrev pub anode_content : (Content → Bool) → Anode → Bool
anode_content test anode = option_map_or (λ object. test object.content) anode.object true

-- whether each object of a fileset has such a content
abbrev pub fileset_contents : (Content → Bool) → Fileset → Bool
fileset_contents test fileset = list_all (anode_content test) fileset.anodes

-- whether each object of a tree has such a content
abbrev pub all_contents : (Content → Bool) → Tree → Bool
all_contents test tree = list_all (fileset_contents test) tree.filesets

-- whether a host has nothing unsaved in a file
abbrev pub has_saved : HostId → Content → Bool
has_saved host (Dir entries lists) = true
has_saved host (File list kept unsaved len) =
    list_all (λ byte. not (byte.writer.0 == host.0)) unsaved
    && option_map_or (λ unsaved. not (unsaved.writer.0 == host.0)) len true

-- whether all that a file has unsaved is a host's: the bytes, each below the length that readers see, and the length,
-- which is no less than the kept one
abbrev pub is_only_by : HostId → Content → Bool
is_only_by host (Dir entries lists) = true
is_only_by host (File list kept unsaved len) =
    list_all (λ byte. (byte.writer.0 == host.0) && nat_lt byte.at (present_length kept len)) unsaved
    && option_map_or (λ unsaved. (unsaved.writer.0 == host.0) && nat_le (length kept) unsaved.length) len true

-- the writer of the first unsaved byte, or else of the unsaved length
abbrev pub first_writer : List Unsaved → Option UnsavedLength → Option HostId
first_writer [] len = option_map (λ unsaved. unsaved.writer) len
first_writer (byte ∷ bytes) len = Some byte.writer

-- a host that has something unsaved in a file, where there is one
abbrev pub writer_of : Content → Option HostId
writer_of (Dir entries lists) = None
writer_of (File list kept unsaved len) = first_writer unsaved len

-- whether all that a file has unsaved is one host's
abbrev pub is_by_one : Content → Bool
is_by_one content = option_map_or (λ host. is_only_by host content) (writer_of content) true

-- the content of the object to which a path leads in a fileset, whoever asks
abbrev pub content_led_to : Fileset → List (List ℕ) → Option Content
content_led_to fileset path =
    option_and_then (λ anode. option_map (λ object. object.content) (object_at fileset.anodes anode))
    (leads fileset.anodes 1 path)

-- the content of the object to which the path of a place leads, whoever asks
abbrev pub content_named : Tree → Place → Option Content
content_named tree place =
    either (fileset_named tree place.server place.fileset)
    (λ fileset. content_led_to fileset place.path) (λ refusal. None)

-- whether all that is unsaved at a place, where there is something, is a host's
abbrev pub is_alone_at : HostId → Tree → Place → Bool
is_alone_at host tree place = option_map_or (is_only_by host) (content_named tree place) true

-- whether an entry isn't a write to a file in which another host than the writer has something unsaved
abbrev pub writes_alone : Tree → Entry → Bool
writes_alone tree (Call host k (Write place from bytes) reply) = is_alone_at host tree place
writes_alone tree _ = true

-- whether an entry is a write of a host
abbrev pub is_write_by : HostId → Entry → Bool
is_write_by host (Call writer k (Write place from bytes) reply) = writer.0 == host.0
is_write_by host _ = false
