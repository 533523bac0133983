-- What the objects of a fileset have in common.
use Rattle.std.specs.Prelude.{Some, true, ◌≡◌}
use Rattle.base_types.specs.declared.ids.Fid.{Fid}
use Rattle.base_types.specs.declared.ids.FilesetId.{FilesetId}
use Rattle.need_host.specs.Looks.{kept_view}
use Rattle.need_host.specs.Walks.{root_of}
use Rattle.tree_answers.specs.WellFormed.{IsWellFormed}
use Rattle.tree_answers.specs.declared.tree.Tree.{Tree}
use Rattle.tree_laws.specs.Parts.{Nature}
use Rattle.tree_laws.specs.Parts.Part.{Traits}

-- all of them are of a clone, or none is; and a root is a directory
pub record ObjectsAreAlike (tree : Tree) : Type 0 where
  pub alike : (f g : Fid) (a b : Nature) → f.fileset ≡ g.fileset → kept_view tree f Traits ≡ Some a
      → kept_view tree g Traits ≡ Some b → a.read_only ≡ b.read_only
  pub roots : (fs : FilesetId) (a : Nature) → kept_view tree (root_of fs) Traits ≡ Some a → a.dir ≡ true

abbrev pub FilesetsAreAlike : Type 0
FilesetsAreAlike = (tree : Tree) → IsWellFormed tree → ObjectsAreAlike tree
