-- A new fileset is well formed.
use Rattle.std.proofs.Common.{◌≡◌, ◌≢◌, ◌≤◌, ℕ, zero, suc, ◌-◌, true, List, [], length, replicate, Some, None, refl, sym, ap, ◌∙◌, subst, inl, inr, arith, rules}
use Rattle.std.specs.Prelude.{slice_get}
use Rattle.std.specs.Option.{option_and_then}
use Rattle.std.proofs.lemmas.Bool.Decides.{eqb_tells}
use Rattle.base_types.specs.declared.ids.FilesetId.{FilesetId}
use Rattle.base_types.specs.declared.ids.ServerId.{ServerId}
use Rattle.base_types.specs.declared.limits.TheConstants.{OBJECTS_MAX}
use Rattle.base_types.specs.declared.user.User.{User}
use Rattle.tree_calls.specs.declared.part.DirEntry.{DirEntry}
use Rattle.tree_objects.specs.declared.content.Content.TheVariants.{Dir}
use Rattle.tree_objects.specs.declared.content.Object.{Object}
use Rattle.tree_objects.specs.Sound.{is_sound}
use Rattle.tree_filesets.specs.Creation.{owned}
use Rattle.tree_filesets.specs.Founding.{new_fileset, new_anodes, unused_anode, root_lists}
use Rattle.tree_filesets.specs.Laws.{StartsWellFormed}
use Rattle.tree_filesets.specs.Walk.{object_at}
use Rattle.tree_filesets.specs.WellFormed.{entry_in, entry_at, IsWellFormed}
use Rattle.tree_filesets.proofs.Found.{none_some}
use Rattle.tree_filesets.proofs.Observations.{object_from}
use Rattle.tree_filesets.proofs.StaysWellFormed.{stays_well_formed_cloned, stays_well_formed_moved}

-- nothing stands at an anode that was never used
unused_there : (n i : ℕ) → option_and_then (λ a. a.object) (slice_get (replicate n unused_anode) i) ≡ None
unused_there zero i = refl
unused_there (suc n) zero = refl
unused_there (suc n) (suc i) = unused_there n i

length_unused : (n : ℕ) → length (replicate n unused_anode) ≡ n
length_unused zero = refl
length_unused (suc n) = ap suc (length_unused n)

abbrev root_of : User → Object
root_of owner = owned owner (Dir [] root_lists)

behind_root : (owner : User) (objects i : ℕ) → i ≢ 0 → option_and_then (λ a. a.object) (slice_get (new_anodes owner objects) i) ≡ None
behind_root owner objects zero h = absurd (h refl)
behind_root owner objects (suc i) h = unused_there (objects - 1) i

-- only the root stands in a new fileset
only_root : (owner : User) (objects at : ℕ) (object : Object) → object_at (new_anodes owner objects) at ≡ Some object → (at ≡ 1) × (root_of owner ≡ object)
only_root owner objects at object h =
    elim (eqb_tells at 0) as (λ _. (at ≡ 1) × (root_of owner ≡ object)) [
      | inl (e, k) ↦
          let P : ℕ → Type 0 = λ n. object_at (new_anodes owner objects) n ≡ Some object in
          none_some None object refl (subst P k h)
      | inr (e, k) ↦
          elim (eqb_tells at 1) as (λ _. (at ≡ 1) × (root_of owner ≡ object)) [
            | inl (f, one) ↦
                let P : ℕ → Type 0 = λ n. object_at (new_anodes owner objects) n ≡ Some object in
                let there : Some (root_of owner) ≡ Some object = subst P one h in
                (one, cc)
            | inr (f, other) ↦
                let behind : at - 1 ≢ 0 = λ zero_there. (let one : at ≡ 1 = omega (arith, k, zero_there) in other one) in
                none_some _ object (object_from (new_anodes owner objects) at k ∙ behind_root owner objects (at - 1) behind) h
          ]
    ]

no_entries : (owner : User) (objects at : ℕ) (name : List ℕ) (entry : DirEntry) → entry_at (new_anodes owner objects) at name ≡ Some entry → ⊥
no_entries owner objects at name entry h =
    elim (object_at (new_anodes owner objects) at) as
    (λ o. object_at (new_anodes owner objects) at ≡ o → option_and_then (λ object. entry_in object.content name) o ≡ Some entry → ⊥) [
      | None ↦ λ e k. search (rules, k)
      | Some object ↦ λ e k.
          let (place, same) = only_root owner objects at object e in
          let P : Object → Type 0 = λ o. entry_in o.content name ≡ Some entry in
          let found : None ≡ Some entry = subst P (sym same) k in
          search (rules, found)
    ] refl h

new_is_well_formed : (server : ServerId) (id : FilesetId) (name : List ℕ) (objects : ℕ) (owner : User) → 1 ≤ objects → objects ≤ OBJECTS_MAX → IsWellFormed (new_fileset server id name objects owner)
unfolding new_fileset
new_is_well_formed server id name objects owner some few = record {
  count = ap suc (length_unused (objects - 1)) ∙ omega (arith, some);
  limit = few;
  first = refl;
  root = refl;
  sound = λ at object h.
      let (place, same) = only_root owner objects at object h in
      let P : Object → Type 0 = λ o. is_sound o.content ≡ true in
      subst P same refl;
  named = λ at other entry h. absurd (no_entries owner objects at other entry h);
  once = λ a b m n e f h k same. absurd (no_entries owner objects a m e h);
  rootless = λ at other entry h. absurd (no_entries owner objects at other entry h);
  reached = λ at object h. let (place, same) = only_root owner objects at object h in ([], ap Some (sym place));
}

pub starts_well_formed : StartsWellFormed
starts_well_formed = record { new = new_is_well_formed; clone = stays_well_formed_cloned; moved = stays_well_formed_moved }
