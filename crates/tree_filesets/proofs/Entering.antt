-- The entries of a fileset after one was put into a directory.
use Rattle.std.proofs.Common.{◌≡◌, ◌≢◌, ℕ, true, ◌⊎◌, inl, inr, List, Some, None, refl, sym, ap, ◌∙◌, subst}
use Rattle.std.specs.Option.{option_and_then}
use Rattle.std.proofs.lemmas.Bool.Decides.{eqb_tells}
use Rattle.base_types.specs.declared.access.AccessEntry.{AccessEntry}
use Rattle.tree_calls.specs.declared.part.DirEntry.{DirEntry}
use Rattle.tree_objects.specs.declared.content.Content.{Content}
use Rattle.tree_objects.specs.declared.content.Content.TheVariants.{Dir}
use Rattle.tree_objects.specs.declared.content.Object.{Object}
use Rattle.tree_objects.specs.Changes.{content_changed}
use Rattle.tree_objects.specs.Entries.{entry_named, entry_place, content_with_entry}
use Rattle.tree_objects.specs.Objects.{is_dir}
use Rattle.tree_objects.specs.Sound.{is_sound}
use Rattle.tree_objects.proofs.StaysSound.{sound_with_entry}
use Rattle.tree_filesets.specs.declared.fileset.Fileset.{Fileset}
use Rattle.tree_filesets.specs.Updates.{changed}
use Rattle.tree_filesets.specs.Walk.{object_at}
use Rattle.tree_filesets.specs.WellFormed.{entry_in, entry_at}
use Rattle.tree_filesets.proofs.Kin.{AreKin, kin_changed}
use Rattle.tree_filesets.proofs.Found.{entry_known, none_some, same_found}
use Rattle.tree_filesets.proofs.Names.{name_or, named_insert_here, named_insert_other}
use Rattle.tree_filesets.proofs.Observations.{object_not_zero, object_changed_to, object_updated_other}

-- a directory that takes an entry
pub record Takes (fileset : Fileset) (at : ℕ) (entry : DirEntry) (directory : Object) (entries : List DirEntry) (lists : List (List AccessEntry)) : Type 0 where
  pub there : object_at fileset.anodes at ≡ Some directory
  pub content : directory.content ≡ Dir entries lists
  pub fresh : entry_named entries entry.name ≡ None

module _ (fileset : Fileset) (to : ℕ) (entry : DirEntry) (directory : Object) (entries : List DirEntry) (lists : List (List AccessEntry)) (takes : Takes fileset to entry directory entries lists) where
  abbrev pub after : Fileset
  after = changed fileset to (content_with_entry entry)

  object_to : object_at after.anodes to ≡ Some (content_changed (content_with_entry entry) directory)
  object_to = object_changed_to fileset to (content_with_entry entry) directory takes.there

  pub entered_new : entry_at after.anodes to entry.name ≡ Some entry
  entered_new = entry_known after to _ entry.name object_to ∙ rw takes.content (named_insert_here entries (entry_place entries entry.name) entry takes.fresh)

  pub not_entered : entry_at fileset.anodes to entry.name ≡ None
  not_entered = entry_known fileset to directory entry.name takes.there ∙ rw takes.content takes.fresh

  entered_beside : (name : List ℕ) → entry.name ≢ name → entry_at after.anodes to name ≡ entry_at fileset.anodes to name
  entered_beside name h =
      let new : entry_at after.anodes to name ≡ entry_named entries name = entry_known after to _ name object_to ∙ rw takes.content (named_insert_other entries (entry_place entries entry.name) entry name h) in
      let old : entry_at fileset.anodes to name ≡ entry_named entries name = entry_known fileset to directory name takes.there ∙ rw takes.content refl in
      new ∙ sym old

  entered_other : (at : ℕ) (name : List ℕ) → at ≢ to → entry_at after.anodes at name ≡ entry_at fileset.anodes at name
  entered_other at name h =
      ap (λ o. option_and_then (λ object. entry_in object.content name) o) (object_updated_other fileset to _ at (object_not_zero fileset.anodes to directory takes.there) h)

  pub entered_stays : (at : ℕ) (name : List ℕ) (found : DirEntry) → entry_at fileset.anodes at name ≡ Some found → entry_at after.anodes at name ≡ Some found
  entered_stays at name found h =
      elim (eqb_tells at to) as (λ _. entry_at after.anodes at name ≡ Some found) [
        | inl (e, k) ↦
            let P : ℕ → Type 0 = λ n. entry_at fileset.anodes n name ≡ Some found → entry_at after.anodes n name ≡ Some found in
            subst P (sym k) (λ there.
            elim (name_or entry.name name) as (λ _. entry_at after.anodes to name ≡ Some found) [
              | inl same ↦
                  let Q : List ℕ → Type 0 = λ n. entry_at fileset.anodes to n ≡ Some found in
                  none_some _ found not_entered (subst Q (sym same) there)
              | inr differs ↦ entered_beside name differs ∙ there
            ]) h
        | inr (e, k) ↦ entered_other at name k ∙ h
      ]

  pub entered_was : (at : ℕ) (name : List ℕ) (found : DirEntry) → entry_at after.anodes at name ≡ Some found →
      (entry_at fileset.anodes at name ≡ Some found) ⊎ ((at ≡ to) × (name ≡ entry.name) × (found ≡ entry))
  entered_was at name found h =
      elim (eqb_tells at to) as (λ _. (entry_at fileset.anodes at name ≡ Some found) ⊎ ((at ≡ to) × (name ≡ entry.name) × (found ≡ entry))) [
        | inl (e, k) ↦
            let P : ℕ → Type 0 = λ n. entry_at after.anodes n name ≡ Some found in
            let there : entry_at after.anodes to name ≡ Some found = subst P k h in
            elim (name_or entry.name name) as (λ _. (entry_at fileset.anodes at name ≡ Some found) ⊎ ((at ≡ to) × (name ≡ entry.name) × (found ≡ entry))) [
              | inl same ↦
                  let Q : List ℕ → Type 0 = λ n. entry_at after.anodes to n ≡ Some found in
                  inr (k, sym same, same_found _ found entry (subst Q (sym same) there) entered_new)
              | inr differs ↦
                  let R : ℕ → Type 0 = λ n. entry_at fileset.anodes n name ≡ Some found in
                  inl (subst R (sym k) (sym (entered_beside name differs) ∙ there))
            ]
        | inr (e, k) ↦ inl (sym (entered_other at name k) ∙ h)
      ]

  pub kin_entered : AreKin fileset after
  kin_entered =
      let C : Content → Type 0 = λ c. is_sound c ≡ true in
      let D : Content → Type 0 = λ c. is_dir (content_with_entry entry c) ≡ is_dir c in
      let S : Content → Type 0 = λ c. is_sound c ≡ true → is_sound (content_with_entry entry c) ≡ true in
      kin_changed fileset to directory (content_with_entry entry) takes.there (subst D (sym takes.content) refl) (subst S (sym takes.content) (sound_with_entry entry entries lists takes.fresh))
