-- What a host that is down takes away, and what is lost thereby.
use Rattle.std.specs.Prelude.{
  ℕ,
  zero,
  suc,
  ◌+◌,
  ◌==◌,
  Bool,
  false,
  ◌&&◌,
  not,
  if◌then◌else◌,
  List,
  [],
  ◌∷◌,
  ◌++◌,
  length,
  map,
  filter,
  insert,
  slice_get,
  Some,
  None,
  unwrap_or,
}
use Rattle.std.specs.List.{list_any, flat_map, position}
use Rattle.std.specs.Option.{option_map_or}
use Rattle.base_types.specs.Name.{is_before}
use Rattle.base_types.specs.declared.ids.HostId.{HostId}
use Rattle.base_types.specs.declared.ids.ServerId.{ServerId}
use Rattle.base_types.specs.declared.ids.FilesetId.{FilesetId}
use Rattle.base_types.specs.declared.span.Span.{Span}
use Rattle.tree_calls.specs.declared.entry.Loss.{Loss}
use Rattle.tree_objects.specs.declared.content.Content.{Content}
use Rattle.tree_objects.specs.declared.content.Object.{Object}
use Rattle.tree_objects.specs.declared.content.Anode.{Anode}
use Rattle.tree_objects.specs.Changes.{anode_changed, content_forgotten}
use Rattle.tree_objects.specs.Stores.{own_length_of}
use Rattle.tree_objects.specs.Losses.{own_spans}
use Rattle.tree_filesets.specs.declared.fileset.Fileset.{Fileset}
use Rattle.tree_filesets.specs.Laws.{entries_in}
use Rattle.tree_filesets.specs.Walk.{object_at}
use Rattle.tree_answers.specs.declared.tree.Tree.{Tree}
use Rattle.tree_answers.specs.Finding.{has_id}
use Rattle.tree_answers.specs.Uses.{Hold, lock_hold, open_hold}

-- a fileset without a host's unsaved changes
abbrev pub fileset_forgotten : HostId → Fileset → Fileset
fileset_forgotten host fileset = record fileset { anodes = map (anode_changed (content_forgotten host)) fileset.anodes }

-- whether the fileset with an id is at a server
abbrev pub is_at : List Fileset → ServerId → FilesetId → Bool
is_at filesets server id = list_any (λ fileset. has_id id fileset && (fileset.server.0 == server.0)) filesets

-- without what a host that is down held of files at a server
abbrev pub left_held : {U : Type 0} → (U → Hold) → List Fileset → HostId → ServerId → List U → List U
left_held hold filesets host server all =
    filter (λ one. not (((hold one).host.0 == host.0) && is_at filesets server (hold one).fid.fileset)) all

-- a tree without a host's unsaved changes, locks and opens on the filesets of a server
unfoldable pub down_tree : Tree → HostId → ServerId → Tree
down_tree tree host server = record tree {
  filesets =
      map (λ fileset. if fileset.server.0 == server.0 then fileset_forgotten host fileset else fileset) tree.filesets;
  locks = left_held lock_hold tree.filesets host server tree.locks;
  opens = left_held open_hold tree.filesets host server tree.opens;
}

-- the loss of bytes
abbrev pub span_loss : HostId → ServerId → List (List ℕ) → Span → Loss
span_loss host server path span = record { host = host; server = server; path = path; span = Some span; length = None }

-- the loss of a length
abbrev pub length_loss : HostId → ServerId → List (List ℕ) → ℕ → Loss
length_loss host server path len = record { host = host; server = server; path = path; span = None; length = Some len }

-- what is lost of one file: the spans in which the host's unsaved bytes stand together, and then its unsaved length
abbrev pub file_losses : HostId → ServerId → List (List ℕ) → Content → List Loss
file_losses host server path content =
    map (span_loss host server path) (own_spans host content)
    ++ option_map_or (λ len. length_loss host server path len ∷ []) (own_length_of host content) []

-- What is lost of an object and of those below it, down to so many levels; a directory's entries come in the order of
-- their names.
abbrev pub losses_below : ℕ → List Anode → HostId → ServerId → List (List ℕ) → Object → List Loss
losses_below zero anodes host server path object = []
losses_below (suc levels) anodes host server path object =
    file_losses host server path object.content
    ++ flat_map (λ entry. option_map_or (losses_below levels anodes host server (path ++ entry.name ∷ []))
    (object_at anodes entry.anode) []) (entries_in object.content)

-- what is lost in a fileset; there are no more levels than anodes
abbrev pub fileset_losses : HostId → ServerId → Fileset → List Loss
fileset_losses host server fileset =
    option_map_or (losses_below (length fileset.anodes) fileset.anodes host server (fileset.name ∷ []))
    (object_at fileset.anodes 1) []

-- whether a name comes before that of the fileset at a place of the list
abbrev pub is_before_at : List Fileset → List ℕ → ℕ → Bool
is_before_at filesets name place =
    option_map_or (λ fileset. is_before name fileset.name) (slice_get filesets place) false

-- where a fileset goes among places of filesets in the order of their names: before the first with a greater name
abbrev pub name_place : List Fileset → List ℕ → List ℕ → ℕ
name_place filesets places name = unwrap_or (position (is_before_at filesets name) places) (length places)

-- the places of a server's filesets from one on, put in turn among others in the order of their names
abbrev pub places_among : List Fileset → ServerId → List ℕ → ℕ → List Fileset → List ℕ
places_among filesets server places place [] = places
places_among filesets server places place (fileset ∷ rest) =
    places_among filesets server
    (if fileset.server.0 == server.0 then insert places (name_place filesets places fileset.name) place else places)
    (place + 1) rest

-- the places of a server's filesets, in the order of their names
abbrev pub places_by_name : List Fileset → ServerId → List ℕ
places_by_name filesets server = places_among filesets server [] 0 filesets

-- what is lost where a server learns that a host is down: by fileset, by path, and by position
unfoldable pub losses_of : Tree → HostId → ServerId → List Loss
losses_of tree host server =
    flat_map (λ place. option_map_or (fileset_losses host server) (slice_get tree.filesets place) [])
    (places_by_name tree.filesets server)
