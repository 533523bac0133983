-- A fileset with one object changed.
use Rattle.std.specs.Prelude.{ℕ, ◌-◌, slice_set}
use Rattle.base_types.specs.Lists.{changed_at}
use Rattle.tree_objects.specs.declared.content.Content.{Content}
use Rattle.tree_objects.specs.declared.content.Anode.{Anode}
use Rattle.tree_objects.specs.Changes.{anode_changed}
use Rattle.tree_filesets.specs.declared.fileset.Fileset.{Fileset}

-- with another value of one anode
abbrev pub with_anode : Fileset → ℕ → Anode → Fileset
with_anode fileset anode value = record fileset { anodes = slice_set fileset.anodes (anode - 1) value }

-- with one anode changed
unfoldable pub updated : Fileset → ℕ → (Anode → Anode) → Fileset
updated fileset anode change = record fileset { anodes = changed_at fileset.anodes (anode - 1) change }

-- with the content of one object changed
abbrev pub changed : Fileset → ℕ → (Content → Content) → Fileset
changed fileset anode change = updated fileset anode (anode_changed change)
