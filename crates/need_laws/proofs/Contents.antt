-- Filesets in which the content of one object changed, and what is kept of them.
use Rattle.std.proofs.Common.{List, None, Option, Some, [], ap, refl, suc, zero, ℕ, ◌-◌, ◌∙◌, ◌∷◌, ◌≡◌, ◌≢◌, sym}
use Rattle.std.proofs.Common.{Bool, true, length}
use Rattle.std.proofs.lemmas.List.{ext_get_or}
use Rattle.std.specs.List.{find}
use Rattle.std.specs.Option.{option_map}
use Rattle.std.specs.Prelude.{if◌then◌else◌, map, option_and_then, slice_get, slice_set}
use Rattle.base_types.specs.Image.{byte_at}
use Rattle.base_types.specs.Lists.{changed_at}
use Rattle.base_types.specs.declared.access.AccessEntry.{AccessEntry}
use Rattle.base_types.specs.declared.ids.Fid.{Fid}
use Rattle.base_types.specs.declared.ids.HostId.{HostId}
use Rattle.tree_filesets.proofs.Observations.{object_from}
use Rattle.tree_filesets.specs.Updates.{changed, updated}
use Rattle.tree_filesets.specs.Walk.{object_at}
use Rattle.tree_filesets.specs.declared.fileset.Fileset.{Fileset}
use Rattle.tree_objects.specs.Changes.{anode_changed, content_changed, content_forgotten, content_written}
use Rattle.tree_objects.specs.Stores.{content_synced}
use Rattle.tree_objects.specs.declared.content.Anode.{Anode}
use Rattle.tree_objects.specs.declared.content.Content.{Content}
use Rattle.tree_objects.specs.declared.content.Content.TheVariants.{Dir, File}
use Rattle.tree_objects.specs.declared.content.Object.{Object}
use Rattle.tree_answers.specs.Finding.{has_id}
use Rattle.need_server.specs.Kept.{content_settled, kept_fileset}
use Rattle.tree_laws.proofs.Objects.{use_changed}
use Rattle.tree_laws.specs.Fates.{names_use}
use Rattle.tree_laws.specs.Parts.{Part, byte_cell, cell_found, cell_in, cell_of, object_in, size_cell}

-- files that show the same keep the same
pub same_bytes : (list : List AccessEntry) (xs ys : List ℕ) → length xs ≡ length ys
    → ((at : ℕ) → byte_at xs at ≡ byte_at ys at) → File list xs [] None ≡ File list ys [] None
same_bytes list xs ys size bytes = ap (λ zs. File list zs [] None) (ext_get_or 0 xs ys size (λ i h. bytes i))

pub synced_kept : (host : HostId) (content : Content)
    → (size_cell (content_synced host content)).kept ≡ (size_cell content).kept
    → ((at : ℕ) → (byte_cell (content_synced host content) at).kept ≡ (byte_cell content at).kept)
    → content_settled (content_synced host content) ≡ content_settled content
synced_kept host (Dir entries lists) size bytes = refl
synced_kept host (File list kept unsaved len) size bytes = same_bytes list _ kept size bytes

pub written_kept : (host : HostId) (from : ℕ) (bytes : List ℕ) (content : Content)
    → content_settled (content_written host from bytes content) ≡ content_settled content
written_kept host from [] content = refl
written_kept host from (byte ∷ bytes) (Dir entries lists) = refl
written_kept host from (byte ∷ bytes) (File list kept unsaved len) = refl

pub forgotten_kept : (host : HostId) (content : Content)
    → content_settled (content_forgotten host content) ≡ content_settled content
forgotten_kept host (Dir entries lists) = refl
forgotten_kept host (File list kept unsaved len) = refl

-- lists in which one element changes
map_changed : {X Y : Type 0} (g : X → Y) (f : X → X) (h : Y → Y) (xs : List X) (i : ℕ)
    → ((x : X) → slice_get xs i ≡ Some x → g (f x) ≡ h (g x)) → map g (changed_at xs i f) ≡ changed_at (map g xs) i h
map_changed g f h [] i same = refl
map_changed g f h (x ∷ xs) zero same = ap (λ y. y ∷ map g xs) (same x refl)
map_changed g f h (x ∷ xs) (suc i) same = ap (λ ys. g x ∷ ys) (map_changed g f h xs i same)

map_changed_same : {X Y : Type 0} (g : X → Y) (f : X → X) (xs : List X) (i : ℕ)
    → ((x : X) → slice_get xs i ≡ Some x → g (f x) ≡ g x) → map g (changed_at xs i f) ≡ map g xs
map_changed_same g f [] i same = refl
map_changed_same g f (x ∷ xs) zero same = ap (λ y. y ∷ map g xs) (same x refl)
map_changed_same g f (x ∷ xs) (suc i) same = ap (λ ys. g x ∷ ys) (map_changed_same g f xs i same)

pub map_set : {X Y : Type 0} (g : X → Y) (xs : List X) (i : ℕ) (x y : X) → slice_get xs i ≡ Some x → g y ≡ g x
    → map g (slice_set xs i y) ≡ map g xs
map_set g [] i x y e same = refl
map_set g (z ∷ zs) zero x y e same =
    let one : z ≡ x = (let q : Some z ≡ Some x = e in cc) in
    ap (λ w. w ∷ map g zs) (same ∙ ap g (sym one))
map_set g (z ∷ zs) (suc i) x y e same = ap (λ ws. g z ∷ ws) (map_set g zs i x y e same)

pub map_alike : {X Y : Type 0} (g h : X → Y) (xs : List X) → ((x : X) → g x ≡ h x) → map g xs ≡ map h xs
map_alike g h [] same = refl
map_alike g h (x ∷ xs) same = ap (λ y. y ∷ map g xs) (same x) ∙ ap (λ ys. h x ∷ ys) (map_alike g h xs same)

pub map_twice : {X Y Z : Type 0} (g : Y → Z) (f : X → Y) (xs : List X) → map g (map f xs) ≡ map (λ x. g (f x)) xs
map_twice g f [] = refl
map_twice g f (x ∷ xs) = ap (λ ys. g (f x) ∷ ys) (map_twice g f xs)

-- an object whose content changes
abbrev kept_object : Object → Object
kept_object object = content_changed content_settled object

object_both : (f g : Content → Content) (unique : ℕ) (o : Option Object)
    → ((object : Object) → o ≡ Some object → content_settled (f object.content) ≡ g (content_settled object.content))
    → (let a : Anode = record {
      unique = unique;
      object = option_map kept_object (option_map (content_changed f) o);
    } in a)
    ≡ (let a : Anode = record {
      unique = unique;
      object = option_map (content_changed g) (option_map kept_object o);
    } in a)
object_both f g unique None same = refl
object_both f g unique (Some object) same =
    ap (λ content. let a : Anode = record { unique = unique; object = Some (record object { content = content }) } in a)
    (same object refl)

object_same : (f : Content → Content) (unique : ℕ) (o : Option Object)
    → ((object : Object) → o ≡ Some object → content_settled (f object.content) ≡ content_settled object.content)
    → (let a : Anode = record {
      unique = unique;
      object = option_map kept_object (option_map (content_changed f) o);
    } in a)
    ≡ (let a : Anode = record { unique = unique; object = option_map kept_object o } in a)
object_same f unique None same = refl
object_same f unique (Some object) same =
    ap (λ content. let a : Anode = record { unique = unique; object = Some (record object { content = content }) } in a)
    (same object refl)

-- what is kept of a fileset in which a content changed, where it is the same for what is kept
module _ (fileset : Fileset) (anode : ℕ) (f : Content → Content) where
  there : anode ≢ 0 → (a : Anode) → slice_get fileset.anodes (anode - 1) ≡ Some a → (object : Object)
      → a.object ≡ Some object → object_at fileset.anodes anode ≡ Some object
  there place a h object k =
      object_from fileset.anodes anode place ∙ (ap (λ (o : Option Anode). option_and_then (λ a. a.object) o) h ∙ k)

  pub kept_changed : (g : Content → Content) → anode ≢ 0
      → ((object : Object) → object_at fileset.anodes anode ≡ Some object
      → content_settled (f object.content) ≡ g (content_settled object.content))
      → kept_fileset (changed fileset anode f) ≡ changed (kept_fileset fileset) anode g
  unfolding updated
  kept_changed g place same =
      ap (λ anodes. record fileset { anodes = anodes })
      (map_changed (anode_changed content_settled) (anode_changed f) (anode_changed g) fileset.anodes (anode - 1)
      (λ a h. object_both f g a.unique a.object (λ object k. same object (there place a h object k))))

  pub kept_same : anode ≢ 0
      → ((object : Object) → object_at fileset.anodes anode ≡ Some object
      → content_settled (f object.content) ≡ content_settled object.content)
      → kept_fileset (changed fileset anode f) ≡ kept_fileset fileset
  unfolding updated
  kept_same place same =
      ap (λ anodes. record fileset { anodes = anodes })
      (map_changed_same (anode_changed content_settled) (anode_changed f) fileset.anodes (anode - 1)
      (λ a h. object_same f a.unique a.object (λ object k. same object (there place a h object k))))

  pub kept_always : ((content : Content) → content_settled (f content) ≡ content_settled content)
      → kept_fileset (changed fileset anode f) ≡ kept_fileset fileset
  unfolding updated
  kept_always same =
      ap (λ anodes. record fileset { anodes = anodes })
      (map_changed_same (anode_changed content_settled) (anode_changed f) fileset.anodes (anode - 1)
      (λ a h. object_same f a.unique a.object (λ object k. same object.content)))

  -- what is seen of the object then
  pub seen_changed : (filesets : List Fileset) (fid : Fid) (object : Object) (part : Part)
      → find (has_id fid.fileset) filesets ≡ Some (changed fileset anode f) → object_in fileset fid ≡ Some object
      → names_use fileset anode fid ≡ true → anode ≢ 0
      → cell_in (find (has_id fid.fileset) filesets) fid part
      ≡ cell_of fileset.read_only (content_changed f object) part
  unfolding updated
  seen_changed filesets fid object part found is_it names place =
      ap (λ (o : Option Fileset). cell_in o fid part) found
      ∙ ap (λ (o : Option Object). cell_found fileset.read_only o part)
      (use_changed fileset anode f fid place
      ∙ (ap (λ (b : Bool). if b then option_map (content_changed f) (object_in fileset fid) else object_in fileset fid)
      names
      ∙ ap (λ (o : Option Object). option_map (content_changed f) o) is_it))
