-- How often each anode of a fileset has been used.
use Rattle.std.specs.Prelude.{◌≡◌, ◌<◌, ◌≤◌, ℕ, Some, None}
use Rattle.std.specs.List.{find}
use Rattle.base_types.specs.declared.ids.FilesetId.{FilesetId}
use Rattle.tree_calls.specs.declared.entry.Entry.{Entry}
use Rattle.tree_objects.specs.declared.content.Object.{Object}
use Rattle.tree_filesets.specs.declared.fileset.Fileset.{Fileset}
use Rattle.tree_filesets.specs.Walk.{object_at, unique_at}
use Rattle.tree_answers.specs.declared.tree.Tree.{Tree}
use Rattle.tree_answers.specs.Finding.{has_id}
use Rattle.tree_answers.specs.Histories.{after_entry}
use Rattle.tree_answers.specs.WellFormed.{IsWellFormed}

-- A fileset before and after an entry: no unique number falls, and a new object has one above all before it at its
-- anode.
pub record UniquesRise (old new : Fileset) : Type 0 where
  pub never_fall : (anode : ℕ) → unique_at old.anodes anode ≤ unique_at new.anodes anode
  pub new_above : (anode : ℕ) (object : Object) → object_at old.anodes anode ≡ None →
      object_at new.anodes anode ≡ Some object → unique_at old.anodes anode < unique_at new.anodes anode

-- a fileset that is there stays, and its unique numbers rise
abbrev pub AllUniquesRise : Type 0
AllUniquesRise =
    (tree : Tree) (entry : Entry) → IsWellFormed tree →
    (id : FilesetId) (old : Fileset) → find (has_id id) tree.filesets ≡ Some old →
    (new : Fileset) × (find (has_id id) (after_entry tree entry).filesets ≡ Some new) × UniquesRise old new

-- the root of a fileset is in its first use
abbrev pub RootsAreFirst : Type 0
RootsAreFirst =
    (tree : Tree) (id : FilesetId) (fileset : Fileset) → IsWellFormed tree →
    find (has_id id) tree.filesets ≡ Some fileset → unique_at fileset.anodes 1 ≡ 1
