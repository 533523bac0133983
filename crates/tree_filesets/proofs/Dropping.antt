-- The entries of a fileset after one was taken out of a directory.
use Rattle.std.proofs.Common.{◌≡◌, ◌≢◌, ℕ, ◌⊎◌, inl, inr, List, Some, None, refl, sym, ap, ◌∙◌, subst, rules}
use Rattle.std.specs.Option.{option_and_then}
use Rattle.std.proofs.lemmas.Bool.Decides.{eqb_tells}
use Rattle.base_types.specs.declared.access.AccessEntry.{AccessEntry}
use Rattle.tree_calls.specs.declared.part.DirEntry.{DirEntry}
use Rattle.tree_objects.specs.declared.content.Content.{Content}
use Rattle.tree_objects.specs.declared.content.Content.TheVariants.{Dir, File}
use Rattle.tree_objects.specs.declared.content.Object.{Object}
use Rattle.tree_objects.specs.Changes.{content_changed}
use Rattle.tree_objects.specs.Entries.{entry_named, content_without_entry}
use Rattle.tree_objects.specs.Objects.{is_dir}
use Rattle.tree_objects.proofs.StaysSound.{sound_without_entry}
use Rattle.tree_filesets.specs.declared.fileset.Fileset.{Fileset}
use Rattle.tree_filesets.specs.Updates.{changed}
use Rattle.tree_filesets.specs.Walk.{object_at}
use Rattle.tree_filesets.specs.WellFormed.{entry_in, entry_at}
use Rattle.tree_filesets.proofs.Kin.{AreKin, kin_changed}
use Rattle.tree_filesets.proofs.Found.{entry_known, none_some}
use Rattle.tree_filesets.proofs.Names.{name_or, named_filter_here, named_filter_other}
use Rattle.tree_filesets.proofs.Observations.{object_not_zero, object_changed_to, object_updated_other}

-- a directory, as it is there
pub record IsDirectory (fileset : Fileset) (at : ℕ) (directory : Object) (entries : List DirEntry) (lists : List (List AccessEntry)) : Type 0 where
  pub there : object_at fileset.anodes at ≡ Some directory
  pub content : directory.content ≡ Dir entries lists

-- an object with an entry is a directory
content_of_entry : (content : Content) (name : List ℕ) (found : DirEntry) → entry_in content name ≡ Some found → (entries : List DirEntry) × (lists : List (List AccessEntry)) × (content ≡ Dir entries lists)
content_of_entry (Dir entries lists) name found h = (entries, lists, refl)
content_of_entry (File list kept unsaved len) name found h = absurd (search (rules, h))

pub record Found (fileset : Fileset) (at : ℕ) : Type 0 where
  pub directory : Object
  pub entries : List DirEntry
  pub lists : List (List AccessEntry)
  pub is : IsDirectory fileset at directory entries lists

pub directory_of_entry : (fileset : Fileset) (at : ℕ) (name : List ℕ) (found : DirEntry) → entry_at fileset.anodes at name ≡ Some found → Found fileset at
directory_of_entry fileset at name found h =
    elim (object_at fileset.anodes at) as (λ o. object_at fileset.anodes at ≡ o → option_and_then (λ object. entry_in object.content name) o ≡ Some found → Found fileset at) [
      | None ↦ λ e k. absurd (search (rules, k))
      | Some object ↦ λ e k.
          let (entries, lists, c) = content_of_entry object.content name found k in
          record { directory = object; entries = entries; lists = lists; is = record { there = e; content = c } }
    ] refl h

module _ (fileset : Fileset) (from : ℕ) (name : List ℕ) (directory : Object) (entries : List DirEntry) (lists : List (List AccessEntry)) (is : IsDirectory fileset from directory entries lists) where
  abbrev pub after : Fileset
  after = changed fileset from (content_without_entry name)

  object_from : object_at after.anodes from ≡ Some (content_changed (content_without_entry name) directory)
  object_from = object_changed_to fileset from (content_without_entry name) directory is.there

  pub dropped_gone : entry_at after.anodes from name ≡ None
  dropped_gone = entry_known after from _ name object_from ∙ rw is.content (named_filter_here entries name)

  dropped_beside : (other : List ℕ) → name ≢ other → entry_at after.anodes from other ≡ entry_at fileset.anodes from other
  dropped_beside other h =
      let new : entry_at after.anodes from other ≡ entry_named entries other = entry_known after from _ other object_from ∙ rw is.content (named_filter_other entries name other h) in
      let old : entry_at fileset.anodes from other ≡ entry_named entries other = entry_known fileset from directory other is.there ∙ rw is.content refl in
      new ∙ sym old

  dropped_other : (at : ℕ) (other : List ℕ) → at ≢ from → entry_at after.anodes at other ≡ entry_at fileset.anodes at other
  dropped_other at other h =
      ap (λ o. option_and_then (λ object. entry_in object.content other) o) (object_updated_other fileset from _ at (object_not_zero fileset.anodes from directory is.there) h)

  pub dropped_stays : (at : ℕ) (other : List ℕ) (found : DirEntry) → entry_at fileset.anodes at other ≡ Some found →
      ((at ≡ from) × (other ≡ name)) ⊎ (entry_at after.anodes at other ≡ Some found)
  dropped_stays at other found h =
      elim (eqb_tells at from) as (λ _. ((at ≡ from) × (other ≡ name)) ⊎ (entry_at after.anodes at other ≡ Some found)) [
        | inl (e, k) ↦
            elim (name_or name other) as (λ _. ((at ≡ from) × (other ≡ name)) ⊎ (entry_at after.anodes at other ≡ Some found)) [
              | inl same ↦ inl (k, sym same)
              | inr differs ↦
                  let P : ℕ → Type 0 = λ n. entry_at fileset.anodes n other ≡ Some found → entry_at after.anodes n other ≡ Some found in
                  inr (subst P (sym k) (λ there. dropped_beside other differs ∙ there) h)
            ]
        | inr (e, k) ↦ inr (dropped_other at other k ∙ h)
      ]

  pub dropped_was : (at : ℕ) (other : List ℕ) (found : DirEntry) → entry_at after.anodes at other ≡ Some found →
      (entry_at fileset.anodes at other ≡ Some found) × (at ≡ from → other ≡ name → ⊥)
  dropped_was at other found h =
      elim (eqb_tells at from) as (λ _. (entry_at fileset.anodes at other ≡ Some found) × (at ≡ from → other ≡ name → ⊥)) [
        | inl (e, k) ↦
            let P : ℕ → Type 0 = λ n. entry_at after.anodes n other ≡ Some found in
            let there : entry_at after.anodes from other ≡ Some found = subst P k h in
            elim (name_or name other) as (λ _. (entry_at fileset.anodes at other ≡ Some found) × (at ≡ from → other ≡ name → ⊥)) [
              | inl same ↦
                  let Q : List ℕ → Type 0 = λ n. entry_at after.anodes from n ≡ Some found in
                  none_some _ found dropped_gone (subst Q (sym same) there)
              | inr differs ↦
                  let R : ℕ → Type 0 = λ n. entry_at fileset.anodes n other ≡ Some found in
                  (subst R (sym k) (sym (dropped_beside other differs) ∙ there), λ _ same. differs (sym same))
            ]
        | inr (e, k) ↦ (sym (dropped_other at other k) ∙ h, λ here _. k here)
      ]

  pub kin_dropped : AreKin fileset after
  kin_dropped =
      let D : Content → Type 0 = λ c. is_dir (content_without_entry name c) ≡ is_dir c in
      kin_changed fileset from directory (content_without_entry name) is.there (subst D (sym is.content) refl) (λ s. sound_without_entry name directory.content s)
