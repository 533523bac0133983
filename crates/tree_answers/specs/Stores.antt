-- What a host stores of a file.
use Rattle.std.specs.Prelude.{
  ℕ,
  ◌==◌,
  Bool,
  false,
  if◌then◌else◌,
  List,
  length,
  Option,
  None,
  unwrap_or,
  option_and_then,
}
use Rattle.std.specs.List.{find, position}
use Rattle.std.specs.Option.{option_map, option_map_or}
use Rattle.base_types.specs.Lists.{changed_at}
use Rattle.base_types.specs.declared.ids.HostId.{HostId}
use Rattle.base_types.specs.declared.ids.Fid.{Fid}
use Rattle.base_types.specs.declared.ids.FilesetId.{FilesetId}
use Rattle.base_types.specs.declared.span.Span.{Span}
use Rattle.tree_objects.specs.declared.content.Content.{Content}
use Rattle.tree_objects.specs.Stores.{content_stored, is_storable}
use Rattle.tree_filesets.specs.declared.fileset.Fileset.{Fileset}
use Rattle.tree_filesets.specs.Updates.{changed}
use Rattle.tree_filesets.specs.Walk.{object_at, unique_at}
use Rattle.tree_answers.specs.declared.tree.Tree.{Tree}
use Rattle.tree_answers.specs.Finding.{has_id}

-- the content of the object of a fileset that a fid names: the anode is in that use
abbrev pub content_in : Fileset → Fid → Option Content
content_in fileset fid =
    if unique_at fileset.anodes fid.anode == fid.unique
    then option_map (λ object. object.content) (object_at fileset.anodes fid.anode) else None

-- the content of the object that a fid names
abbrev pub content_at : Tree → Fid → Option Content
content_at tree fid = option_and_then (λ fileset. content_in fileset fid) (find (has_id fid.fileset) tree.filesets)

-- whether a host may store these spans and this length of the file that a fid names
abbrev pub may_store : Tree → HostId → Fid → List Span → Option ℕ → Bool
may_store tree host fid spans stored = option_map_or (is_storable host spans stored) (content_at tree fid) false

-- the place in the list of the fileset with an id, or the end of the list
abbrev pub place_with_id : List Fileset → FilesetId → ℕ
place_with_id filesets id = unwrap_or (position (has_id id) filesets) (length filesets)

-- the tree after a host has stored what it wrote in some spans of a file, and a length where there is one
unfoldable pub stored_tree : Tree → HostId → Fid → List Span → Option ℕ → Tree
stored_tree tree host fid spans stored = record tree {
  filesets = changed_at tree.filesets (place_with_id tree.filesets fid.fileset)
      (λ fileset. changed fileset fid.anode (content_stored host spans stored));
}
