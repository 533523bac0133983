-- A fileset in which the content of each object changed, and kept its entries.
use Rattle.std.proofs.Common.{◌≡◌, ℕ, zero, suc, ◌-◌, true, List, [], ◌∷◌, length, map, Option, Some, None, refl, sym, ap, ◌∙◌, subst, inl, inr}
use Rattle.std.specs.Prelude.{slice_get}
use Rattle.std.specs.Option.{option_and_then, option_map, option_map_or}
use Rattle.std.proofs.lemmas.Bool.Decides.{eqb_tells}
use Rattle.tree_objects.specs.declared.content.Content.{Content}
use Rattle.tree_objects.specs.declared.content.Object.{Object}
use Rattle.tree_objects.specs.declared.content.Anode.{Anode}
use Rattle.tree_objects.specs.Changes.{content_changed, anode_changed}
use Rattle.tree_objects.specs.Sound.{is_sound}
use Rattle.tree_filesets.specs.declared.fileset.Fileset.{Fileset}
use Rattle.tree_filesets.specs.Walk.{object_at, unique_at}
use Rattle.tree_filesets.specs.WellFormed.{IsWellFormed}
use Rattle.tree_filesets.proofs.Alike.{HasSameEntries, IsAlike, AreAlike, well_formed_alike}

pub mapped_object : (change : Content → Content) (anodes : List Anode) (at : ℕ) → object_at (map (anode_changed change) anodes) at ≡ option_map (content_changed change) (object_at anodes at)
mapped_object change anodes at =
    elim (eqb_tells at 0) as (λ _. object_at (map (anode_changed change) anodes) at ≡ option_map (content_changed change) (object_at anodes at))
    [ inl (e, k) ↦ rw e refl | inr (e, k) ↦ rw e (mapped_place anodes (at - 1)) ]
  where
    mapped_place : (anodes : List Anode) (i : ℕ) → option_and_then (λ a. a.object) (slice_get (map (anode_changed change) anodes) i) ≡ option_map (content_changed change) (option_and_then (λ a. a.object) (slice_get anodes i))
    mapped_place [] i = refl
    mapped_place (anode ∷ anodes) zero = refl
    mapped_place (anode ∷ anodes) (suc i) = mapped_place anodes i

pub mapped_unique : (change : Content → Content) (anodes : List Anode) (i : ℕ) → option_map_or (λ a. a.unique) (slice_get (map (anode_changed change) anodes) i) 0 ≡ option_map_or (λ a. a.unique) (slice_get anodes i) 0
mapped_unique change [] i = refl
mapped_unique change (anode ∷ anodes) zero = refl
mapped_unique change (anode ∷ anodes) (suc i) = mapped_unique change anodes i

mapped_length : {X Y : Type 0} (f : X → Y) (xs : List X) → length (map f xs) ≡ length xs
mapped_length f [] = refl
mapped_length f (x ∷ xs) = ap suc (mapped_length f xs)

alike_object : (change : Content → Content) (o : Option Object) → ((content : Content) → HasSameEntries content (change content)) → ((content : Content) → is_sound content ≡ true → is_sound (change content) ≡ true) → IsAlike o (option_map (content_changed change) o)
alike_object change None same keeps = tt
alike_object change (Some object) same keeps = (same object.content, keeps object.content)

pub alike_mapped : (old new : Fileset) (change : Content → Content) → new.anodes ≡ map (anode_changed change) old.anodes → new.objects ≡ old.objects →
    ((content : Content) → HasSameEntries content (change content)) → ((content : Content) → is_sound content ≡ true → is_sound (change content) ≡ true) → AreAlike old new
alike_mapped old new change anodes objects same keeps = record {
  count = ap length anodes ∙ mapped_length (anode_changed change) old.anodes;
  objects = objects;
  unique = λ at. ap (λ list. unique_at list at) anodes ∙ mapped_unique change old.anodes (at - 1);
  each = λ at.
      let P : Option Object → Type 0 = λ o. IsAlike (object_at old.anodes at) o in
      subst P (sym (ap (λ list. object_at list at) anodes ∙ mapped_object change old.anodes at)) (alike_object change (object_at old.anodes at) same keeps);
}

pub well_formed_mapped : (old new : Fileset) (change : Content → Content) → IsWellFormed old → new.anodes ≡ map (anode_changed change) old.anodes → new.objects ≡ old.objects →
    ((content : Content) → HasSameEntries content (change content)) → ((content : Content) → is_sound content ≡ true → is_sound (change content) ≡ true) → IsWellFormed new
well_formed_mapped old new change w anodes objects same keeps = well_formed_alike old new w (alike_mapped old new change anodes objects same keeps)
