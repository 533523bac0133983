-- What a clone shows.
use Rattle.std.proofs.Common.{◌≡◌, ℕ, ◌+◌, ◌-◌, List, [], ◌∷◌, ◌++◌, length, take, map, Option, Some, None, refl, sym, ap, ◌∙◌, arith}
use Rattle.std.specs.List.{fold}
use Rattle.std.specs.Option.{option_map, option_map_or}
use Rattle.base_types.specs.declared.ids.FilesetId.{FilesetId}
use Rattle.tree_objects.specs.declared.content.Content.{Content}
use Rattle.tree_objects.specs.declared.content.Content.TheVariants.{Dir, File}
use Rattle.tree_objects.specs.declared.content.Object.{Object}
use Rattle.tree_objects.specs.declared.content.Anode.{Anode}
use Rattle.tree_objects.specs.Changes.{content_changed, content_as_cloned}
use Rattle.tree_objects.specs.Files.{content_bytes, present_length, present_bytes, bytes_over, resized}
use Rattle.tree_objects.specs.Objects.{blocks_of, object_as_cloned}
use Rattle.tree_objects.proofs.Observed.{over_length}
use Rattle.tree_objects.proofs.Overlays.{over_nothing}
use Rattle.tree_filesets.specs.declared.fileset.Fileset.{Fileset}
use Rattle.tree_filesets.specs.Founding.{anode_as_cloned, cloned}
use Rattle.tree_filesets.specs.Laws.{bytes_at, CloneShowsSource}
use Rattle.tree_filesets.specs.Promises.{promise, clone_promise, anode_blocks}
use Rattle.tree_filesets.specs.Walk.{object_at}
use Rattle.tree_filesets.proofs.Mapped.{mapped_object}

-- the present bytes, once they are kept
take_all : (xs : List ℕ) → take (length xs) xs ≡ xs
take_all [] = refl
take_all (x ∷ xs) = ap (λ ys. x ∷ ys) (take_all xs)

append_none : (xs : List ℕ) → xs ++ [] ≡ xs
append_none [] = refl
append_none (x ∷ xs) = ap (λ ys. x ∷ ys) (append_none xs)

kept_shown : (xs : List ℕ) → bytes_over xs [] 0 (length xs) ≡ xs
kept_shown xs =
    let none : length xs - length xs ≡ 0 = omega arith in
    let all : resized xs (length xs) ≡ xs = rw (none, take_all xs) (append_none xs) in
    sym (over_nothing xs 0 (length xs)) ∙ all

pub clone_bytes : (content : Content) → content_bytes (content_as_cloned content) ≡ content_bytes content
clone_bytes (Dir entries lists) = refl
clone_bytes (File list kept unsaved len) = kept_shown (present_bytes kept unsaved len)

clone_blocks : (content : Content) → blocks_of (content_as_cloned content) ≡ blocks_of content
clone_blocks (Dir entries lists) = refl
clone_blocks (File list kept unsaved len) = rw (over_length kept unsaved 0 (present_length kept len)) refl

clone_bytes_there : (o : Option Object) → option_map_or (λ object. content_bytes object.content) (option_map (content_changed content_as_cloned) o) [] ≡ option_map_or (λ object. content_bytes object.content) o []
clone_bytes_there None = refl
clone_bytes_there (Some object) = clone_bytes object.content

clone_shows : (fileset : Fileset) (id : FilesetId) (name : List ℕ) (anode : ℕ) → bytes_at (cloned fileset id name) anode ≡ bytes_at fileset anode
unfolding cloned
clone_shows fileset id name anode =
    ap (λ o. option_map_or (λ object. content_bytes object.content) o []) (mapped_object content_as_cloned fileset.anodes anode) ∙ clone_bytes_there (object_at fileset.anodes anode)

object_blocks : (o : Option Object) → option_map_or (λ object. blocks_of object.content) (option_map object_as_cloned o) 0 ≡ option_map_or (λ object. blocks_of object.content) o 0
object_blocks None = refl
object_blocks (Some object) = clone_blocks object.content

clone_promised : (anodes : List Anode) (start : ℕ) → fold (λ a x. a + anode_blocks x) start (map anode_as_cloned anodes) ≡ fold (λ a x. a + anode_blocks x) start anodes
clone_promised [] start = refl
clone_promised (anode ∷ anodes) start =
    clone_promised anodes (start + anode_blocks (anode_as_cloned anode)) ∙ ap (λ n. fold (λ a x. a + anode_blocks x) (start + n) anodes) (object_blocks anode.object)

clone_is_promised : (fileset : Fileset) (id : FilesetId) (name : List ℕ) → promise (cloned fileset id name) ≡ clone_promise fileset
unfolding cloned
clone_is_promised fileset id name = clone_promised fileset.anodes 0

pub clone_shows_source : CloneShowsSource
clone_shows_source = record { bytes = clone_shows; blocks = clone_is_promised }
