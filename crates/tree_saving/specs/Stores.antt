-- The entries by which hosts store what they have unsaved.
use Rattle.std.specs.Prelude.{
  ℕ,
  ◌+◌,
  ◌==◌,
  false,
  if◌then◌else◌,
  List,
  [],
  ◌∷◌,
  ◌++◌,
  flat_map,
  Option,
  Some,
  None,
  option_and_then,
}
use Rattle.std.specs.Option.{option_map_or}
use Rattle.base_types.specs.declared.ids.HostId.{HostId}
use Rattle.base_types.specs.declared.ids.FilesetId.{FilesetId}
use Rattle.base_types.specs.declared.ids.Fid.{Fid}
use Rattle.tree_calls.specs.declared.entry.Entry.{Entry}
use Rattle.tree_calls.specs.declared.entry.Entry.TheVariants.{Stored}
use Rattle.tree_objects.specs.declared.content.Content.{Content}
use Rattle.tree_objects.specs.declared.content.Object.{Object}
use Rattle.tree_objects.specs.declared.content.Anode.{Anode}
use Rattle.tree_objects.specs.Stores.{own_length_of}
use Rattle.tree_objects.specs.Losses.{own_spans}
use Rattle.tree_filesets.specs.declared.fileset.Fileset.{Fileset}
use Rattle.tree_answers.specs.declared.tree.Tree.{Tree}
use Rattle.tree_saving.specs.Unsaved.{writer_of}

-- a host stores all that it has unsaved of a file
abbrev pub store_of : HostId → Fid → Content → Entry
store_of host fid content = Stored host fid (own_spans host content) (own_length_of host content)

-- what a host has to store of a file in which it alone may have something unsaved
abbrev pub own_store : HostId → Fid → Object → Option Entry
own_store host fid object =
    if option_map_or (λ writer. writer.0 == host.0) (writer_of object.content) false
    then Some (store_of host fid object.content)
    else None

-- one entry, where there is one
abbrev pub listed : Option Entry → List Entry
listed entry = option_map_or (λ e. e ∷ []) entry []

-- what a host has to store of an anode with a number in a fileset
abbrev pub anode_store : HostId → FilesetId → ℕ → Anode → Option Entry
anode_store host id at anode =
    option_and_then (own_store host (record { fileset = id; anode = at; unique = anode.unique })) anode.object

-- and of anodes that are counted from one on
abbrev pub anodes_stores : HostId → FilesetId → ℕ → List Anode → List Entry
anodes_stores host id at [] = []
anodes_stores host id at (anode ∷ anodes) =
    listed (anode_store host id at anode) ++ anodes_stores host id (at + 1) anodes

-- and of a fileset
abbrev pub fileset_stores : HostId → Fileset → List Entry
fileset_stores host fileset = anodes_stores host fileset.id 1 fileset.anodes

-- and of a tree
abbrev pub own_stores : HostId → Tree → List Entry
own_stores host tree = flat_map (fileset_stores host) tree.filesets
