-- What a fileset that moved shows, and a clone.
use Rattle.std.proofs.Common.{◌≡◌, ℕ, ◌-◌, true, false, List, [], ◌∷◌, map, Option, Some, None, refl, ap, ◌∙◌}
use Rattle.std.specs.List.{list_all}
use Rattle.std.specs.Option.{option_map, option_map_or}
use Rattle.base_types.specs.declared.ids.FilesetId.{FilesetId}
use Rattle.base_types.specs.declared.ids.ServerId.{ServerId}
use Rattle.tree_objects.specs.declared.content.Content.{Content}
use Rattle.tree_objects.specs.declared.content.Content.TheVariants.{Dir, File}
use Rattle.tree_objects.specs.declared.content.Object.{Object}
use Rattle.tree_objects.specs.declared.content.Anode.{Anode}
use Rattle.tree_objects.specs.Changes.{content_changed, content_as_cloned}
use Rattle.tree_objects.proofs.Rising.{and_both}
use Rattle.tree_filesets.specs.declared.fileset.Fileset.{Fileset}
use Rattle.tree_filesets.specs.Founding.{anode_as_cloned, cloned, moved}
use Rattle.tree_filesets.specs.Laws.{Present, present, MovedIsTheSame, ClonesAreNew}
use Rattle.tree_filesets.specs.Walk.{object_at, unique_at}
use Rattle.tree_filesets.specs.WellFormed.{is_settled, is_at_rest}
use Rattle.tree_filesets.proofs.Clones.{clone_bytes}
use Rattle.tree_filesets.proofs.Mapped.{mapped_object, mapped_unique}

-- what is present of a content that is kept
content_present : (owner group : List ℕ) (content : Content) →
    (let kept : Object = record { owner = owner; group = group; content = content_as_cloned content } in present kept)
    ≡ (let object : Object = record { owner = owner; group = group; content = content } in present object)
content_present owner group (Dir entries lists) = refl
content_present owner group (File list kept unsaved len) =
    let as_present : List ℕ → Present = λ bytes. record { dir = false; owner = owner; group = group; lists = list ∷ []; entries = []; bytes = bytes } in
    ap as_present (clone_bytes (File list kept unsaved len))

object_present : (o : Option Object) → option_map present (option_map (content_changed content_as_cloned) o) ≡ option_map present o
object_present None = refl
object_present (Some object) = ap Some (content_present object.owner object.group object.content)

moved_objects : (fileset : Fileset) (to : ServerId) (anode : ℕ) → option_map present (object_at (moved fileset to).anodes anode) ≡ option_map present (object_at fileset.anodes anode)
unfolding moved
moved_objects fileset to anode = ap (option_map present) (mapped_object content_as_cloned fileset.anodes anode) ∙ object_present (object_at fileset.anodes anode)

moved_uses : (fileset : Fileset) (to : ServerId) (anode : ℕ) → unique_at (moved fileset to).anodes anode ≡ unique_at fileset.anodes anode
unfolding moved
moved_uses fileset to anode = mapped_unique content_as_cloned fileset.anodes (anode - 1)

-- nothing of what is kept is unsaved
settled : (content : Content) → is_settled (content_as_cloned content) ≡ true
settled (Dir entries lists) = refl
settled (File list kept unsaved len) = refl

settled_at : (o : Option Object) → option_map_or (λ object. is_settled object.content) (option_map (content_changed content_as_cloned) o) true ≡ true
settled_at None = refl
settled_at (Some object) = settled object.content

settled_all : (anodes : List Anode) → list_all (λ anode. option_map_or (λ object. is_settled object.content) anode.object true) (map anode_as_cloned anodes) ≡ true
settled_all [] = refl
settled_all (anode ∷ anodes) = and_both _ _ (settled_at anode.object) (settled_all anodes)

pub moved_rests : (fileset : Fileset) (to : ServerId) → is_at_rest (moved fileset to) ≡ true
unfolding moved
moved_rests fileset to = settled_all fileset.anodes

pub cloned_rests : (fileset : Fileset) (id : FilesetId) (name : List ℕ) → is_at_rest (cloned fileset id name) ≡ true
unfolding cloned
cloned_rests fileset id name = settled_all fileset.anodes

pub moved_is_the_same : MovedIsTheSame
unfolding moved
moved_is_the_same = record {
  objects = moved_objects;
  uses = moved_uses;
  rest = moved_rests;
  server = λ fileset to. refl;
  moves = λ fileset to. refl;
  same = λ fileset to. refl;
  name = λ fileset to. refl;
  read_only = λ fileset to. refl;
  limit = λ fileset to. refl;
}

pub clones_are_new : ClonesAreNew
unfolding cloned
clones_are_new = record { moves = λ fileset id name. refl; rest = cloned_rests }
