-- A fileset with a new object stays well formed.
use Rattle.std.proofs.Common.{◌≡◌, ◌≢◌, ◌≤◌, ℕ, true, false, ◌⊎◌, inl, inr, List, [], ◌∷◌, ◌++◌, length, Some, None, is_some, refl, sym, ap, ◌∙◌, subst, rules, arith}
use Rattle.std.specs.Option.{option_and_then}
use Rattle.std.proofs.lemmas.Bool.Decides.{eqb_tells}
use Rattle.base_types.specs.declared.access.AccessEntry.{AccessEntry}
use Rattle.tree_calls.specs.declared.part.DirEntry.{DirEntry}
use Rattle.tree_objects.specs.declared.content.Object.{Object}
use Rattle.tree_objects.specs.Entries.{content_with_entry}
use Rattle.tree_objects.specs.Sound.{is_sound}
use Rattle.tree_filesets.specs.declared.creating.Creation.{Creation}
use Rattle.tree_filesets.specs.declared.fileset.Fileset.{Fileset}
use Rattle.tree_filesets.specs.Creation.{with_object}
use Rattle.tree_filesets.specs.Updates.{changed}
use Rattle.tree_filesets.specs.Walk.{object_at, unique_at}
use Rattle.tree_filesets.specs.WellFormed.{entry_in, entry_at, leads, IsUsed, IsWellFormed}
use Rattle.tree_filesets.proofs.Entering.{Takes, entered_new, entered_stays, entered_was, kin_entered}
use Rattle.tree_filesets.proofs.Found.{same_object, none_some, some_of, none_of, is_some_of, entry_known, entry_nowhere}
use Rattle.tree_filesets.proofs.Kin.{AreKin, is_dir_there}
use Rattle.tree_filesets.proofs.Leads.{leads_first, leads-append, leads_more}
use Rattle.tree_filesets.proofs.Observations.{object_not_zero, object_updated_other, object_occupied_here, unique_occupied_here, unique_updated_other, length_updated, objects_updated}

-- where a new object goes, and what it is
pub record IsNew (fileset : Fileset) (creation : Creation) (directory : Object) (entries : List DirEntry) (lists : List (List AccessEntry)) : Type 0 where
  pub takes : Takes fileset creation.parent creation.entry directory entries lists
  pub vacant : object_at fileset.anodes creation.entry.anode ≡ None
  pub place : creation.entry.anode ≢ 0
  pub within : creation.entry.anode ≤ length fileset.anodes
  pub sound : is_sound creation.object.content ≡ true
  pub empty : (name : List ℕ) → entry_in creation.object.content name ≡ None

module _ (fileset : Fileset) (creation : Creation) (directory : Object) (entries : List DirEntry) (lists : List (List AccessEntry)) (new : IsNew fileset creation directory entries lists) (w : IsWellFormed fileset) where
  abbrev pub entered : Fileset
  entered = changed fileset creation.parent (content_with_entry creation.entry)

  abbrev pub made : Fileset
  made = with_object fileset creation

  pub kin : AreKin fileset entered
  kin = kin_entered fileset creation.parent creation.entry directory entries lists new.takes

  -- what stands where
  object_new : object_at made.anodes creation.entry.anode ≡ Some creation.object
  object_new = object_occupied_here entered creation.entry.anode creation.entry.unique creation.object new.place (rw kin.count new.within)

  pub object_other : (at : ℕ) → at ≢ creation.entry.anode → object_at made.anodes at ≡ object_at entered.anodes at
  object_other at h = object_updated_other entered creation.entry.anode _ at new.place h

  entry_other : (at : ℕ) (name : List ℕ) → at ≢ creation.entry.anode → entry_at made.anodes at name ≡ entry_at entered.anodes at name
  entry_other at name h = ap (λ o. option_and_then (λ object. entry_in object.content name) o) (object_other at h)

  -- nothing stood at the new anode
  nothing_entered : object_at entered.anodes creation.entry.anode ≡ None
  nothing_entered = none_of _ (kin.there creation.entry.anode ∙ ap is_some new.vacant)

  entry_inside : (name : List ℕ) → entry_at made.anodes creation.entry.anode name ≡ None
  entry_inside name = entry_known made creation.entry.anode creation.object name object_new ∙ new.empty name

  -- all entries stay
  entry_stays : (at : ℕ) (name : List ℕ) (entry : DirEntry) → entry_at fileset.anodes at name ≡ Some entry → entry_at made.anodes at name ≡ Some entry
  entry_stays at name entry h =
      let mid = entered_stays fileset creation.parent creation.entry directory entries lists new.takes at name entry h in
      elim (eqb_tells at creation.entry.anode) as (λ _. entry_at made.anodes at name ≡ Some entry) [
        | inl (e, k) ↦
            let P : ℕ → Type 0 = λ n. entry_at fileset.anodes n name ≡ Some entry in
            none_some _ entry (entry_nowhere fileset creation.entry.anode name new.vacant) (subst P k h)
        | inr (e, k) ↦ entry_other at name k ∙ mid
      ]

  -- and one is new
  entry_was : (at : ℕ) (name : List ℕ) (entry : DirEntry) → entry_at made.anodes at name ≡ Some entry →
      (entry_at fileset.anodes at name ≡ Some entry) ⊎ ((at ≡ creation.parent) × (name ≡ creation.entry.name) × (entry ≡ creation.entry))
  entry_was at name entry h =
      elim (eqb_tells at creation.entry.anode) as (λ _. (entry_at fileset.anodes at name ≡ Some entry) ⊎ ((at ≡ creation.parent) × (name ≡ creation.entry.name) × (entry ≡ creation.entry))) [
        | inl (e, k) ↦
            let P : ℕ → Type 0 = λ n. entry_at made.anodes n name ≡ Some entry in
            none_some _ entry (entry_inside name) (subst P k h)
        | inr (e, k) ↦ entered_was fileset creation.parent creation.entry directory entries lists new.takes at name entry (sym (entry_other at name k) ∙ h)
      ]

  -- the directory isn't the new anode
  apart : creation.parent ≢ creation.entry.anode
  apart e =
      let P : ℕ → Type 0 = λ n. object_at fileset.anodes n ≡ Some directory in
      none_some _ directory new.vacant (subst P e new.takes.there)

  entry_new : entry_at made.anodes creation.parent creation.entry.name ≡ Some creation.entry
  entry_new = entry_other creation.parent creation.entry.name apart ∙ entered_new fileset creation.parent creation.entry directory entries lists new.takes

  -- objects stay
  object_stays : (at : ℕ) → is_some (object_at fileset.anodes at) ≡ true → is_some (object_at made.anodes at) ≡ true
  object_stays at h =
      elim (eqb_tells at creation.entry.anode) as (λ _. is_some (object_at made.anodes at) ≡ true) [
        | inl (e, k) ↦
            let P : ℕ → Type 0 = λ n. is_some (object_at made.anodes n) ≡ true in
            subst P (sym k) (is_some_of _ _ object_new)
        | inr (e, k) ↦ ap is_some (object_other at k) ∙ kin.there at ∙ h
      ]

  -- no old entry names the new anode
  no_old : (at : ℕ) (name : List ℕ) (entry : DirEntry) → entry_at fileset.anodes at name ≡ Some entry → entry.anode ≢ creation.entry.anode
  no_old at name entry h e =
      let P : ℕ → Type 0 = λ n. is_some (object_at fileset.anodes n) ≡ true in
      let (object, k) = some_of _ (subst P e (w.named at name entry h).0) in
      none_some _ object new.vacant k

  pub unique_stays : (at : ℕ) → at ≢ 0 → at ≢ creation.entry.anode → unique_at made.anodes at ≡ unique_at fileset.anodes at
  unique_stays at h k = unique_updated_other entered creation.entry.anode _ at new.place h k ∙ kin.unique at

  unique_new : unique_at made.anodes creation.entry.anode ≡ creation.entry.unique
  unique_new = unique_occupied_here entered creation.entry.anode creation.entry.unique creation.object new.place (rw kin.count new.within)

  -- the root isn't the new anode
  not_root : creation.entry.anode ≢ 1
  not_root e =
      let P : ℕ → Type 0 = λ n. object_at fileset.anodes n ≡ None in
      let nothing : is_dir_there (object_at fileset.anodes 1) ≡ false = ap is_dir_there (subst P e new.vacant) in
      let root = w.root in
      search (rules, nothing, root)

  made_sound : (at : ℕ) (object : Object) → object_at made.anodes at ≡ Some object → is_sound object.content ≡ true
  made_sound at object h =
      elim (eqb_tells at creation.entry.anode) as (λ _. is_sound object.content ≡ true) [
        | inl (e, k) ↦
            let P : ℕ → Type 0 = λ n. object_at made.anodes n ≡ Some object in
            let R : Object → Type 0 = λ o. is_sound o.content ≡ true in
            subst R (same_object _ _ object object_new (subst P k h)) new.sound
        | inr (e, k) ↦
            let (was, f, keeps) = kin.sound at object (sym (object_other at k) ∙ h) in
            keeps (w.sound at was f)
      ]

  made_named : (at : ℕ) (name : List ℕ) (entry : DirEntry) → entry_at made.anodes at name ≡ Some entry → IsUsed made.anodes entry
  made_named at name entry h =
      elim (entry_was at name entry h) as (λ _. IsUsed made.anodes entry) [
        | inl was ↦
            let used = w.named at name entry was in
            let (object, k) = some_of _ used.0 in
            (object_stays entry.anode used.0, unique_stays entry.anode (object_not_zero fileset.anodes entry.anode object k) (no_old at name entry was) ∙ used.1)
        | inr (p, n, e) ↦
            let R : DirEntry → Type 0 = λ x. IsUsed made.anodes x in
            subst R (sym e) (is_some_of _ _ object_new, unique_new)
      ]

  made_once : (a b : ℕ) (m n : List ℕ) (e f : DirEntry) → entry_at made.anodes a m ≡ Some e → entry_at made.anodes b n ≡ Some f → e.anode ≡ f.anode → (a ≡ b) × (m ≡ n)
  made_once a b m n e f h k same =
      elim (entry_was a m e h) as (λ _. (a ≡ b) × (m ≡ n)) [
        | inl was ↦
            elim (entry_was b n f k) as (λ _. (a ≡ b) × (m ≡ n)) [
              | inl old ↦ w.once a b m n e f was old same
              | inr (p, q, new_one) ↦ absurd (no_old a m e was (same ∙ ap (λ x. x.anode) new_one))
            ]
        | inr (p, q, new_one) ↦
            elim (entry_was b n f k) as (λ _. (a ≡ b) × (m ≡ n)) [
              | inl old ↦ absurd (no_old b n f old (sym same ∙ ap (λ x. x.anode) new_one))
              | inr (r, s, other) ↦ (p ∙ sym r, q ∙ sym s)
            ]
      ]

  made_rootless : (at : ℕ) (name : List ℕ) (entry : DirEntry) → entry_at made.anodes at name ≡ Some entry → entry.anode ≢ 1
  made_rootless at name entry h e =
      elim (entry_was at name entry h) as (λ _. ⊥) [
        | inl was ↦ w.rootless at name entry was e
        | inr (p, n, new_one) ↦ not_root (sym (ap (λ x. x.anode) new_one) ∙ e)
      ]

  made_reached : (at : ℕ) (object : Object) → object_at made.anodes at ≡ Some object → (path : List (List ℕ)) × (leads made.anodes 1 path ≡ Some at)
  made_reached at object h =
      elim (eqb_tells at creation.entry.anode) as (λ _. (path : List (List ℕ)) × (leads made.anodes 1 path ≡ Some at)) [
        | inl (e, k) ↦
            let (front, way) = w.reached creation.parent directory new.takes.there in
            let P : ℕ → Type 0 = λ n. leads made.anodes 1 (front ++ creation.entry.name ∷ []) ≡ Some n in (
              front ++ creation.entry.name ∷ [],
              subst P (sym k) (leads-append made.anodes 1 front (creation.entry.name ∷ []) creation.parent creation.entry.anode
                  (leads_more fileset.anodes made.anodes entry_stays front 1 creation.parent way)
                  (leads_first made.anodes creation.parent creation.entry.name [] creation.entry creation.entry.anode entry_new refl)),
            )
        | inr (e, k) ↦
            let (was, f, keeps) = kin.sound at object (sym (object_other at k) ∙ h) in
            let (path, way) = w.reached at was f in
            (path, leads_more fileset.anodes made.anodes entry_stays path 1 at way)
      ]

  one_not : ◌≢◌ {A = ℕ} 1 0
  one_not h = absurd (omega (arith, h))

  pub well_formed_made : IsWellFormed made
  well_formed_made = record {
    count = length_updated entered creation.entry.anode _ ∙ kin.count ∙ w.count ∙ sym (objects_updated entered creation.entry.anode _ ∙ kin.objects);
    limit = rw (objects_updated entered creation.entry.anode _, kin.objects) w.limit;
    first = unique_stays 1 one_not (λ e. not_root (sym e)) ∙ w.first;
    root = ap is_dir_there (object_other 1 (λ e. not_root (sym e))) ∙ kin.kind 1 ∙ w.root;
    sound = made_sound;
    named = made_named;
    once = made_once;
    rootless = made_rootless;
    reached = made_reached;
  }
