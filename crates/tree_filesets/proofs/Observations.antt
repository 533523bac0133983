-- What stands at the anodes of a fileset after one of them was changed.
use Rattle.std.proofs.Common.{◌≡◌, ◌≢◌, ℕ, zero, suc, ◌-◌, ◌<◌, ◌≤◌, inl, inr, List, [], ◌∷◌, length, Option, Some, None, refl, sym, ap, ◌∙◌, subst, arith, rules}
use Rattle.std.specs.Prelude.{slice_get}
use Rattle.std.specs.Option.{option_map, option_map_or, option_and_then}
use Rattle.std.proofs.lemmas.Bool.Decides.{eqb_tells}
use Rattle.base_types.specs.Lists.{changed_at}
use Rattle.tree_objects.specs.declared.content.Content.{Content}
use Rattle.tree_objects.specs.declared.content.Object.{Object}
use Rattle.tree_objects.specs.declared.content.Anode.{Anode}
use Rattle.tree_objects.specs.Changes.{content_changed, anode_changed, anode_freed}
use Rattle.tree_filesets.specs.declared.fileset.Fileset.{Fileset}
use Rattle.tree_filesets.specs.Creation.{occupied}
use Rattle.tree_filesets.specs.Updates.{updated, changed}
use Rattle.tree_filesets.specs.Walk.{object_at, unique_at}
use Rattle.tree_filesets.proofs.Places.{get-changed_here, get-changed_other, get-changed_same, length-changed}

-- at an anode that isn't 0
pub object_from : (anodes : List Anode) (at : ℕ) → at ≢ 0 → object_at anodes at ≡ option_and_then (λ a. a.object) (slice_get anodes (at - 1))
object_from anodes at h =
    elim (eqb_tells at 0) as (λ _. object_at anodes at ≡ option_and_then (λ a. a.object) (slice_get anodes (at - 1)))
    [ inl (e, k) ↦ absurd (h k) | inr (e, k) ↦ rw e refl ]

-- an object stands at no anode 0
pub object_not_zero : (anodes : List Anode) (at : ℕ) (object : Object) → object_at anodes at ≡ Some object → at ≢ 0
object_not_zero anodes at object h e =
    let P : ℕ → Type 0 = λ n. object_at anodes n ≡ Some object in
    let nothing : None ≡ Some object = subst P e h in
    search (rules, nothing)

-- at another anode
pub object_updated_other : (fileset : Fileset) (anode : ℕ) (change : Anode → Anode) (at : ℕ) → anode ≢ 0 → at ≢ anode → object_at (updated fileset anode change).anodes at ≡ object_at fileset.anodes at
unfolding updated
object_updated_other fileset anode change at h k =
    elim (eqb_tells at 0) as (λ _. object_at (changed_at fileset.anodes (anode - 1) change) at ≡ object_at fileset.anodes at) [
      | inl (e, z) ↦ rw e refl
      | inr (e, z) ↦
          let apart : at - 1 ≢ anode - 1 = λ same. k (omega (arith, same)) in
          rw e (ap (λ o. option_and_then (λ a. a.object) o) (get-changed_other fileset.anodes (anode - 1) (at - 1) change apart))
    ]

-- at the anode itself
pub object_updated_here : (fileset : Fileset) (anode : ℕ) (change : Anode → Anode) → anode ≢ 0 → object_at (updated fileset anode change).anodes anode ≡ option_and_then (λ a. a.object) (option_map change (slice_get fileset.anodes (anode - 1)))
unfolding updated
object_updated_here fileset anode change h =
    object_from (changed_at fileset.anodes (anode - 1) change) anode h ∙ ap (λ o. option_and_then (λ a. a.object) o) (get-changed_here fileset.anodes (anode - 1) change)

-- what stands there where the content was changed
content_here : (place : Option Anode) (change : Content → Content) →
    option_and_then (λ a. a.object) (option_map (anode_changed change) place) ≡ option_map (content_changed change) (option_and_then (λ a. a.object) place)
content_here None change = refl
content_here (Some anode) change = refl

pub object_changed_here : (fileset : Fileset) (anode : ℕ) (change : Content → Content) → anode ≢ 0 → object_at (changed fileset anode change).anodes anode ≡ option_map (content_changed change) (object_at fileset.anodes anode)
object_changed_here fileset anode change h =
    object_updated_here fileset anode (anode_changed change) h ∙ content_here (slice_get fileset.anodes (anode - 1)) change ∙ ap (option_map (content_changed change)) (sym (object_from fileset.anodes anode h))

-- where the object is known
pub object_changed_to : (fileset : Fileset) (anode : ℕ) (change : Content → Content) (object : Object) → object_at fileset.anodes anode ≡ Some object →
    object_at (changed fileset anode change).anodes anode ≡ Some (content_changed change object)
object_changed_to fileset anode change object h =
    object_changed_here fileset anode change (object_not_zero fileset.anodes anode object h) ∙ ap (option_map (content_changed change)) h

-- a place within a list
pub get_within : {X : Type 0} (xs : List X) (i : ℕ) → i < length xs → (x : X) × (slice_get xs i ≡ Some x)
get_within [] i h = absurd (omega arith)
get_within (x ∷ xs) zero h = (x, refl)
get_within (x ∷ xs) (suc i) h = get_within xs i (omega arith)

pub object_occupied_here : (fileset : Fileset) (anode unique : ℕ) (object : Object) → anode ≢ 0 → anode ≤ length fileset.anodes →
    object_at (updated fileset anode (occupied unique object)).anodes anode ≡ Some object
object_occupied_here fileset anode unique object h k =
    let (here, e) = get_within fileset.anodes (anode - 1) (omega arith) in
    object_updated_here fileset anode (occupied unique object) h ∙ ap (λ o. option_and_then (λ a. a.object) (option_map (occupied unique object) o)) e

freed_here : (place : Option Anode) → option_and_then (λ a. a.object) (option_map anode_freed place) ≡ None
freed_here None = refl
freed_here (Some anode) = refl

pub object_freed_here : (fileset : Fileset) (anode : ℕ) → anode ≢ 0 → object_at (updated fileset anode anode_freed).anodes anode ≡ None
object_freed_here fileset anode h = object_updated_here fileset anode anode_freed h ∙ freed_here (slice_get fileset.anodes (anode - 1))

-- unique numbers
pub unique_updated_same : (fileset : Fileset) (anode : ℕ) (change : Anode → Anode) (at : ℕ) → ((a : Anode) → (change a).unique ≡ a.unique) → unique_at (updated fileset anode change).anodes at ≡ unique_at fileset.anodes at
unfolding updated
unique_updated_same fileset anode change at h = get-changed_same fileset.anodes (anode - 1) (at - 1) change (λ a. a.unique) 0 h

pub unique_changed : (fileset : Fileset) (anode : ℕ) (change : Content → Content) (at : ℕ) → unique_at (changed fileset anode change).anodes at ≡ unique_at fileset.anodes at
unique_changed fileset anode change at = unique_updated_same fileset anode (anode_changed change) at (λ a. refl)

pub unique_occupied_here : (fileset : Fileset) (anode unique : ℕ) (object : Object) → anode ≢ 0 → anode ≤ length fileset.anodes → unique_at (updated fileset anode (occupied unique object)).anodes anode ≡ unique
unfolding updated
unique_occupied_here fileset anode unique object h k =
    let (here, e) = get_within fileset.anodes (anode - 1) (omega arith) in
    ap (λ o. option_map_or (λ a. a.unique) o 0) (get-changed_here fileset.anodes (anode - 1) (occupied unique object) ∙ ap (option_map (occupied unique object)) e)

pub unique_updated_other : (fileset : Fileset) (anode : ℕ) (change : Anode → Anode) (at : ℕ) → anode ≢ 0 → at ≢ 0 → at ≢ anode → unique_at (updated fileset anode change).anodes at ≡ unique_at fileset.anodes at
unfolding updated
unique_updated_other fileset anode change at h z k =
    let apart : at - 1 ≢ anode - 1 = λ same. k (omega (arith, same)) in
    ap (λ o. option_map_or (λ a. a.unique) o 0) (get-changed_other fileset.anodes (anode - 1) (at - 1) change apart)

-- how many anodes there are
pub length_updated : (fileset : Fileset) (anode : ℕ) (change : Anode → Anode) → length (updated fileset anode change).anodes ≡ length fileset.anodes
unfolding updated
length_updated fileset anode change = length-changed fileset.anodes (anode - 1) change

pub objects_updated : (fileset : Fileset) (anode : ℕ) (change : Anode → Anode) → (updated fileset anode change).objects ≡ fileset.objects
unfolding updated
objects_updated fileset anode change = refl
