-- What the objects of a fileset have in common.
use Rattle.std.proofs.Common.{◌≡◌, ◌==◌, Bool, true, false, Option, Some, None, refl, sym, ap, ◌∙◌, subst}
use Rattle.std.specs.List.{find}
use Rattle.std.specs.Option.{option_map_or}
use Rattle.std.specs.Prelude.{if◌then◌else◌}
use Rattle.base_types.specs.declared.ids.Fid.{Fid}
use Rattle.base_types.specs.declared.ids.FilesetId.{FilesetId}
use Rattle.tree_filesets.specs.Walk.{object_at, unique_at}
use Rattle.tree_filesets.specs.WellFormed.{IsWellFormed as IsWellFormedFileset}
use Rattle.tree_filesets.specs.declared.fileset.Fileset.{Fileset}
use Rattle.need_host.specs.Looks.{kept_view}
use Rattle.need_host.specs.Walks.{root_of}
use Rattle.tree_objects.specs.Objects.{is_dir}
use Rattle.tree_objects.specs.declared.content.Object.{Object}
use Rattle.tree_answers.specs.Finding.{has_id}
use Rattle.tree_answers.specs.WellFormed.{IsWellFormed}
use Rattle.tree_answers.specs.declared.tree.Tree.{Tree}
use Rattle.tree_laws.proofs.Steps.{formed_found}
use Rattle.tree_laws.specs.Parts.{Nature, cell_found, cell_in, nature_of, object_in}
use Rattle.tree_laws.specs.Parts.Part.{Traits}
use Rattle.run_contents.specs.Alike.{FilesetsAreAlike}

same_nature : (a b : Nature) → Some a ≡ Some b → a ≡ b
same_nature a b e = cc

-- the fileset of an object that is there
read_only_of : (fileset : Fileset) (o : Option Object) (a : Nature)
    → (cell_found fileset.read_only o Traits).kept ≡ Some a → a.read_only ≡ fileset.read_only
read_only_of fileset None a e = absurd (let k : None ≡ Some a = e in cc)
read_only_of fileset (Some object) a e =
    ap (λ (n : Nature). n.read_only) (sym (same_nature (nature_of fileset.read_only object) a e))

both_alike : (o : Option Fileset) (f g : Fid) (a b : Nature) → (cell_in o f Traits).kept ≡ Some a
    → (cell_in o g Traits).kept ≡ Some b → a.read_only ≡ b.read_only
both_alike None f g a b e d = absurd (let k : None ≡ Some a = e in cc)
both_alike (Some fileset) f g a b e d =
    read_only_of fileset (object_in fileset f) a e ∙ sym (read_only_of fileset (object_in fileset g) b d)

-- a root is a directory
dir_of : (o : Option Object) (read_only : Bool) (a : Nature) → option_map_or (λ object. is_dir object.content) o false ≡ true
    → (cell_found read_only o Traits).kept ≡ Some a → a.dir ≡ true
dir_of None read_only a root e = absurd (let k : None ≡ Some a = e in cc)
dir_of (Some object) read_only a root e =
    ap (λ (n : Nature). n.dir) (sym (same_nature (nature_of read_only object) a e)) ∙ root

root_dir : (fileset : Fileset) (id : FilesetId) (a : Nature) → IsWellFormedFileset fileset
    → (cell_found fileset.read_only (object_in fileset (root_of id)) Traits).kept ≡ Some a → a.dir ≡ true
root_dir fileset id a w e = go (unique_at fileset.anodes 1 == 1) e
  where
    go : (b : Bool)
        → (cell_found fileset.read_only (if b then object_at fileset.anodes 1 else None) Traits).kept ≡ Some a
        → a.dir ≡ true
    go true e = dir_of (object_at fileset.anodes 1) fileset.read_only a w.root e
    go false e = absurd (let k : None ≡ Some a = e in cc)

module _ (tree : Tree) (w : IsWellFormed tree) where
  roots : (fs : FilesetId) (a : Nature) → kept_view tree (root_of fs) Traits ≡ Some a → a.dir ≡ true
  roots fs a e = go (find (has_id fs) tree.filesets) refl e
    where
      go : (o : Option Fileset) → find (has_id fs) tree.filesets ≡ o
          → (cell_in o (root_of fs) Traits).kept ≡ Some a → a.dir ≡ true
      go None found e = absurd (let k : None ≡ Some a = e in cc)
      go (Some fileset) found e =
          root_dir fileset fs a (formed_found (has_id fs) tree.filesets fileset w.filesets found) e

  alike : (f g : Fid) (a b : Nature) → f.fileset ≡ g.fileset → kept_view tree f Traits ≡ Some a
      → kept_view tree g Traits ≡ Some b → a.read_only ≡ b.read_only
  alike f g a b one e d =
      both_alike (find (has_id f.fileset) tree.filesets) f g a b e
      (subst (λ (id : FilesetId). (cell_in (find (has_id id) tree.filesets) g Traits).kept ≡ Some b) (sym one) d)

pub filesets_are_alike : FilesetsAreAlike
filesets_are_alike tree w = record { alike = alike tree w; roots = roots tree w }
