-- Filesets with the same objects, whose contents may differ but are as sound.
use Rattle.std.proofs.Common.{◌≡◌, ℕ, Bool, true, false, length, Option, Some, is_some, inl, inr, sym, ap, ◌∙◌, subst}
use Rattle.std.specs.Option.{option_map_or}
use Rattle.std.proofs.lemmas.Bool.Decides.{eqb_tells}
use Rattle.tree_objects.specs.declared.content.Content.{Content}
use Rattle.tree_objects.specs.declared.content.Object.{Object}
use Rattle.tree_objects.specs.Changes.{content_changed}
use Rattle.tree_objects.specs.Objects.{is_dir}
use Rattle.tree_objects.specs.Sound.{is_sound}
use Rattle.tree_filesets.specs.declared.fileset.Fileset.{Fileset}
use Rattle.tree_filesets.specs.Updates.{changed}
use Rattle.tree_filesets.specs.Walk.{object_at, unique_at}
use Rattle.tree_filesets.proofs.Observations.{object_not_zero, object_changed_to, object_updated_other, unique_changed, length_updated, objects_updated}

-- whether what may stand at an anode is a directory
abbrev pub is_dir_there : Option Object → Bool
is_dir_there o = option_map_or (λ object. is_dir object.content) o false

pub record AreKin (old new : Fileset) : Type 0 where
  pub count : length new.anodes ≡ length old.anodes
  pub objects : new.objects ≡ old.objects
  pub unique : (at : ℕ) → unique_at new.anodes at ≡ unique_at old.anodes at
  pub there : (at : ℕ) → is_some (object_at new.anodes at) ≡ is_some (object_at old.anodes at)
  pub kind : (at : ℕ) → is_dir_there (object_at new.anodes at) ≡ is_dir_there (object_at old.anodes at)
  pub sound : (at : ℕ) (object : Object) → object_at new.anodes at ≡ Some object → (was : Object) × (object_at old.anodes at ≡ Some was) × (is_sound was.content ≡ true → is_sound object.content ≡ true)

pub kin_trans : (a b c : Fileset) → AreKin a b → AreKin b c → AreKin a c
kin_trans a b c h k = record {
  count = k.count ∙ h.count;
  objects = k.objects ∙ h.objects;
  unique = λ at. k.unique at ∙ h.unique at;
  there = λ at. k.there at ∙ h.there at;
  kind = λ at. k.kind at ∙ h.kind at;
  sound = λ at object e.
      let (mid, f, keeps) = k.sound at object e in
      let (was, g, kept) = h.sound at mid f in
      (was, g, λ s. keeps (kept s));
}

-- one content is changed
pub kin_changed : (fileset : Fileset) (anode : ℕ) (object : Object) (change : Content → Content) → object_at fileset.anodes anode ≡ Some object →
    is_dir (change object.content) ≡ is_dir object.content → (is_sound object.content ≡ true → is_sound (change object.content) ≡ true) → AreKin fileset (changed fileset anode change)
kin_changed fileset anode object change h kind keeps =
    let place = object_not_zero fileset.anodes anode object h in
    let here = object_changed_to fileset anode change object h in
    let after : Fileset = changed fileset anode change in
    record {
      count = length_updated fileset anode _;
      objects = objects_updated fileset anode _;
      unique = λ at. unique_changed fileset anode change at;
      there = λ at. elim (eqb_tells at anode) as (λ _. is_some (object_at after.anodes at) ≡ is_some (object_at fileset.anodes at)) [
        | inl (e, k) ↦
            let P : ℕ → Type 0 = λ n. is_some (object_at after.anodes n) ≡ is_some (object_at fileset.anodes n) in
            subst P (sym k) (ap is_some here ∙ sym (ap is_some h))
        | inr (e, k) ↦ ap is_some (object_updated_other fileset anode _ at place k)
      ];
      kind = λ at. elim (eqb_tells at anode) as (λ _. is_dir_there (object_at after.anodes at) ≡ is_dir_there (object_at fileset.anodes at)) [
        | inl (e, k) ↦
            let P : ℕ → Type 0 = λ n. is_dir_there (object_at after.anodes n) ≡ is_dir_there (object_at fileset.anodes n) in
            let new : is_dir_there (object_at after.anodes anode) ≡ is_dir object.content = ap is_dir_there here ∙ kind in
            let old : is_dir_there (object_at fileset.anodes anode) ≡ is_dir object.content = ap is_dir_there h in
            subst P (sym k) (new ∙ sym old)
        | inr (e, k) ↦ ap is_dir_there (object_updated_other fileset anode _ at place k)
      ];
      sound = λ at other found. elim (eqb_tells at anode) as (λ _. (was : Object) × (object_at fileset.anodes at ≡ Some was) × (is_sound was.content ≡ true → is_sound other.content ≡ true)) [
        | inl (e, k) ↦
            let P : ℕ → Type 0 = λ n. object_at after.anodes n ≡ Some other in
            let Q : ℕ → Type 0 = λ n. object_at fileset.anodes n ≡ Some object in
            let there : object_at after.anodes anode ≡ Some other = subst P k found in
            let same : content_changed change object ≡ other = cc in
            let R : Object → Type 0 = λ o. is_sound object.content ≡ true → is_sound o.content ≡ true in
            (object, subst Q (sym k) h, subst R same keeps)
        | inr (e, k) ↦ (other, sym (object_updated_other fileset anode _ at place k) ∙ found, λ s. s)
      ];
    }
