-- What is seen of anodes: all of them but the bytes of files.
use Rattle.std.specs.Prelude.{◌≡◌, length, Option, Some, None}
use Rattle.std.specs.Option.{option_map}
use Rattle.tree_filesets.specs.WellFormed.{is_settled}
use Rattle.tree_objects.specs.declared.content.Anode.{Anode}
use Rattle.tree_objects.specs.declared.content.Content.{Content}
use Rattle.tree_objects.specs.declared.content.Content.TheVariants.{Dir, File}
use Rattle.tree_objects.specs.declared.content.Object.{Object}
use Rattle.disk_acts.specs.declared.seen.SeenAnode.{SeenAnode}
use Rattle.disk_acts.specs.declared.seen.SeenContent.{SeenContent}
use Rattle.disk_acts.specs.declared.seen.SeenContent.TheVariants as seen
use Rattle.disk_acts.specs.declared.seen.SeenObject.{SeenObject}

-- a directory whole; of a file its list, the number of its bytes, and whether nothing of it is unsaved
abbrev pub seen_content : Content → SeenContent
seen_content (Dir entries lists) = seen.Dir entries lists
seen_content (File list kept unsaved len) = seen.File list (length kept) (is_settled (File list kept unsaved len))

abbrev pub seen_object : Object → SeenObject
seen_object object =
    record { owner = object.owner; group = object.group; content = seen_content object.content }

abbrev pub seen_anode : Anode → SeenAnode
seen_anode anode = record { unique = anode.unique; object = option_map seen_object anode.object }

-- the next value of an anode is the former one where it is seen as it
abbrev pub IsTold : Anode → Anode → Type 0
IsTold was is = seen_anode is ≡ seen_anode was → is ≡ was
