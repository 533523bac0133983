-- A fileset from which an object went stays well formed.
use Rattle.std.proofs.Common.{◌≡◌, ◌≢◌, ℕ, true, ◌⊎◌, inl, inr, List, [], ◌∷◌, Some, None, is_some, refl, sym, ap, ◌∙◌, subst}
use Rattle.std.specs.Option.{option_and_then}
use Rattle.std.proofs.lemmas.Bool.Decides.{eqb_tells}
use Rattle.tree_calls.specs.declared.part.DirEntry.{DirEntry}
use Rattle.tree_objects.specs.declared.content.Object.{Object}
use Rattle.tree_objects.specs.Changes.{anode_freed}
use Rattle.tree_objects.specs.Entries.{content_without_entry}
use Rattle.tree_filesets.specs.declared.fileset.Fileset.{Fileset}
use Rattle.tree_filesets.specs.Updates.{updated, changed}
use Rattle.tree_filesets.specs.Walk.{object_at, unique_at}
use Rattle.tree_filesets.specs.WellFormed.{entry_in, entry_at, leads, IsWellFormed}
use Rattle.tree_filesets.proofs.Dropping.{Found, directory_of_entry, dropped_was, dropped_stays, kin_dropped}
use Rattle.tree_filesets.proofs.Kin.{AreKin, is_dir_there}
use Rattle.tree_filesets.proofs.Leads.{some_then, leads_first}
use Rattle.tree_filesets.proofs.Found.{entry_known, entry_nowhere, none_some, same_found}
use Rattle.tree_filesets.proofs.Observations.{object_not_zero, object_updated_other, object_freed_here, unique_updated_same, length_updated, objects_updated}

-- what goes: an entry, and the object that it names, in which there is nothing
pub record Goes (fileset : Fileset) (from : ℕ) (name : List ℕ) (entry : DirEntry) (object : Object) : Type 0 where
  pub entry_there : entry_at fileset.anodes from name ≡ Some entry
  pub object_there : object_at fileset.anodes entry.anode ≡ Some object
  pub empty : (other : List ℕ) → entry_in object.content other ≡ None

module _ (fileset : Fileset) (from : ℕ) (name : List ℕ) (entry : DirEntry) (object : Object) (goes : Goes fileset from name entry object) (w : IsWellFormed fileset) where
  found : Found fileset from
  found = directory_of_entry fileset from name entry goes.entry_there

  abbrev pub left : Fileset
  left = changed fileset from (content_without_entry name)

  abbrev pub after : Fileset
  after = updated left entry.anode anode_freed

  pub kin : AreKin fileset left
  kin = kin_dropped fileset from name found.directory found.entries found.lists found.is

  place : entry.anode ≢ 0
  place = object_not_zero fileset.anodes entry.anode object goes.object_there

  -- nothing is left at the anode
  object_gone : object_at after.anodes entry.anode ≡ None
  object_gone = object_freed_here left entry.anode place

  pub object_other : (at : ℕ) → at ≢ entry.anode → object_at after.anodes at ≡ object_at left.anodes at
  object_other at h = object_updated_other left entry.anode anode_freed at place h

  entry_other : (at : ℕ) (other : List ℕ) → at ≢ entry.anode → entry_at after.anodes at other ≡ entry_at left.anodes at other
  entry_other at other h = ap (λ o. option_and_then (λ object. entry_in object.content other) o) (object_other at h)

  nothing_inside : (other : List ℕ) → entry_at fileset.anodes entry.anode other ≡ None
  nothing_inside other = entry_known fileset entry.anode object other goes.object_there ∙ goes.empty other

  -- the entries that are left were there
  entry_was : (at : ℕ) (other : List ℕ) (e : DirEntry) → entry_at after.anodes at other ≡ Some e → (entry_at fileset.anodes at other ≡ Some e) × (at ≡ from → other ≡ name → ⊥)
  entry_was at other e h =
      elim (eqb_tells at entry.anode) as (λ _. (entry_at fileset.anodes at other ≡ Some e) × (at ≡ from → other ≡ name → ⊥)) [
        | inl (t, k) ↦
            let P : ℕ → Type 0 = λ n. entry_at after.anodes n other ≡ Some e in
            none_some _ e (entry_nowhere after entry.anode other object_gone) (subst P k h)
        | inr (t, k) ↦ dropped_was fileset from name found.directory found.entries found.lists found.is at other e (sym (entry_other at other k) ∙ h)
      ]

  -- and all others are left
  entry_stays : (at : ℕ) (other : List ℕ) (e : DirEntry) → entry_at fileset.anodes at other ≡ Some e → ((at ≡ from) × (other ≡ name)) ⊎ (entry_at after.anodes at other ≡ Some e)
  entry_stays at other e h =
      elim (eqb_tells at entry.anode) as (λ _. ((at ≡ from) × (other ≡ name)) ⊎ (entry_at after.anodes at other ≡ Some e)) [
        | inl (t, k) ↦
            let P : ℕ → Type 0 = λ n. entry_at fileset.anodes n other ≡ Some e in
            none_some _ e (nothing_inside other) (subst P k h)
        | inr (t, k) ↦
            elim (dropped_stays fileset from name found.directory found.entries found.lists found.is at other e h) as (λ _. ((at ≡ from) × (other ≡ name)) ⊎ (entry_at after.anodes at other ≡ Some e))
            [ inl gone ↦ inl gone | inr stays ↦ inr (entry_other at other k ∙ stays) ]
      ]

  -- no entry that is left names the anode
  not_named : (at : ℕ) (other : List ℕ) (e : DirEntry) → entry_at after.anodes at other ≡ Some e → e.anode ≢ entry.anode
  not_named at other e h same =
      let (was, away) = entry_was at other e h in
      let (here, called) = w.once at from other name e entry was goes.entry_there same in
      away here called

  pub unique_same : (at : ℕ) → unique_at after.anodes at ≡ unique_at fileset.anodes at
  unique_same at = unique_updated_same left entry.anode anode_freed at (λ a. refl) ∙ kin.unique at

  -- names lead as before to what is left
  leads_left : (path : List (List ℕ)) (at to : ℕ) → leads fileset.anodes at path ≡ Some to → to ≢ entry.anode → leads after.anodes at path ≡ Some to
  leads_left [] at to h away = h
  leads_left (first ∷ names) at to h away =
      let (e, there, rest) = some_then (entry_at fileset.anodes at first) (λ e. leads fileset.anodes e.anode names) to h in
      elim (entry_stays at first e there) as (λ _. leads after.anodes at (first ∷ names) ≡ Some to) [
        | inl gone ↦
            let P : ℕ → Type 0 = λ n. entry_at fileset.anodes n first ≡ Some e in
            let Q : List ℕ → Type 0 = λ n. entry_at fileset.anodes from n ≡ Some e in
            let same : e ≡ entry = same_found _ e entry (subst Q gone.1 (subst P gone.0 there)) goes.entry_there in
            let R : DirEntry → Type 0 = λ x. leads fileset.anodes x.anode names ≡ Some to in
            absurd (stops names to (subst R same rest) away)
        | inr stays ↦ leads_first after.anodes at first names e to stays (leads_left names e.anode to rest away)
      ]
    where
      -- no name leads on from what goes
      stops : (names : List (List ℕ)) (to : ℕ) → leads fileset.anodes entry.anode names ≡ Some to → to ≢ entry.anode → ⊥
      stops [] to h away = away (let same : entry.anode ≡ to = cc in sym same)
      stops (first ∷ names) to h away =
          let (e, there, rest) = some_then (entry_at fileset.anodes entry.anode first) (λ e. leads fileset.anodes e.anode names) to h in
          none_some _ e (nothing_inside first) there

  after_root : is_dir_there (object_at after.anodes 1) ≡ true
  after_root =
      let away : 1 ≢ entry.anode = λ e. w.rootless from name entry goes.entry_there (sym e) in
      ap is_dir_there (object_other 1 away) ∙ kin.kind 1 ∙ w.root

  object_was : (at : ℕ) (there : Object) → object_at after.anodes at ≡ Some there → (at ≢ entry.anode) × (object_at left.anodes at ≡ Some there)
  object_was at there h =
      elim (eqb_tells at entry.anode) as (λ _. (at ≢ entry.anode) × (object_at left.anodes at ≡ Some there)) [
        | inl (t, k) ↦
            let P : ℕ → Type 0 = λ n. object_at after.anodes n ≡ Some there in
            none_some _ there object_gone (subst P k h)
        | inr (t, k) ↦ (k, sym (object_other at k) ∙ h)
      ]

  pub well_formed_removed : IsWellFormed after
  well_formed_removed = record {
    count = length_updated left entry.anode _ ∙ kin.count ∙ w.count ∙ sym (objects_updated left entry.anode _ ∙ kin.objects);
    limit = rw (objects_updated left entry.anode _, kin.objects) w.limit;
    first = unique_same 1 ∙ w.first;
    root = after_root;
    sound = λ at there h.
        let (away, e) = object_was at there h in
        let (was, f, keeps) = kin.sound at there e in
        keeps (w.sound at was f);
    named = λ at other e h.
        let (was, away) = entry_was at other e h in
        let used = w.named at other e was in
        (ap is_some (object_other e.anode (not_named at other e h)) ∙ kin.there e.anode ∙ used.0, unique_same e.anode ∙ used.1);
    once = λ a b m n e f h k same. w.once a b m n e f (entry_was a m e h).0 (entry_was b n f k).0 same;
    rootless = λ at other e h. w.rootless at other e (entry_was at other e h).0;
    reached = λ at there h.
        let (away, e) = object_was at there h in
        let (was, f, keeps) = kin.sound at there e in
        let (path, way) = w.reached at was f in
        (path, leads_left path 1 at way away);
  }
