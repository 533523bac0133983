-- What came of a fileset so far.
use Rattle.std.proofs.Common.{◌≡◌, ◌≤◌, ◌⊎◌, ℕ, ◌-◌, List, [], ◌∷◌, length, inl, inr, refl, sym, ◌∙◌, ap, arith}
use Rattle.std.specs.Prelude.{Bool, true, false, ◌==◌, nat_le, Option, Some, None}
use Rattle.std.specs.List.{list_all}
use Rattle.std.specs.Option.{option_map_or}
use Rattle.std.proofs.lemmas.Bool.{and_parts, and_from, eqb-true, eq-eqb, leb-true, le-leb, false≢true}
use Rattle.base_types.specs.declared.limits.TheConstants.{OBJECTS_MAX}
use Rattle.tree_calls.specs.declared.part.DirEntry.{DirEntry}
use Rattle.tree_objects.specs.Objects.{is_dir}
use Rattle.tree_objects.specs.declared.content.Anode.{Anode}
use Rattle.tree_objects.specs.declared.content.Object.{Object}
use Rattle.tree_filesets.specs.Laws.{entries_in}
use Rattle.tree_filesets.specs.Walk.{object_at, unique_at}
use Rattle.tree_filesets.specs.WellFormed.{entry_at, entry_in}
use Rattle.tree_filesets.proofs.Leads.{some_then}
use Rattle.store_records.specs.Stored.{MayArrive}
use Rattle.store_records.specs.Stands.{are_within, is_within, AllRise}
use Rattle.store_records.specs.Tree.{has_root}
use Rattle.store_records.proofs.Members.{Has}
use Rattle.store_records.proofs.Trees.{all_has, content_has, each_anode, has_listed, object_passes}

root_there : (o : Option Object) → option_map_or (λ object. is_dir object.content) o false ≡ true → (object : Object) × (o ≡ Some object) × (is_dir object.content ≡ true)
root_there None e = absurd (false≢true e)
root_there (Some object) e = (object, refl, e)

entry_within : (anodes : List Anode) (at : ℕ) (name : List ℕ) (entry : DirEntry) → are_within anodes ≡ true → entry_at anodes at name ≡ Some entry → is_within entry ≡ true
entry_within anodes at name entry all e =
    let (object, there, named) = some_then (object_at anodes at) (λ (o : Object). entry_in o.content name) entry e in
    let (anode, is, passes) = object_passes (λ (a : Anode). option_map_or (λ object. list_all is_within (entries_in object.content)) a.object true) anodes at object all there in
    let each : list_all is_within (entries_in object.content) ≡ true = ap (λ o. option_map_or (λ (x : Object). list_all is_within (entries_in x.content)) o true) (sym is) ∙ passes in
    all_has is_within entry (entries_in object.content) each (content_has object.content name entry named).0

pub they_arrive : (objects parts : ℕ) (anodes : List Anode) → 1 ≤ parts → parts ≤ objects → length anodes ≡ parts - 1 → (parts ≡ 1) ⊎ (has_root anodes ≡ true) → are_within anodes ≡ true → MayArrive objects parts anodes
they_arrive objects parts anodes least most count root all = record {
  least = least;
  most = most;
  count = count;
  first = λ two. first two root;
  within = λ at name entry e. (
      let is = entry_within anodes at name entry all e in
      let (low, high) = and_parts (nat_le 1 entry.anode) (nat_le entry.anode OBJECTS_MAX) is in
      (leb-true 1 entry.anode low, leb-true entry.anode OBJECTS_MAX high));
}
  where
    first : 2 ≤ parts → (parts ≡ 1) ⊎ (has_root anodes ≡ true) → (unique_at anodes 1 ≡ 1) × ((object : Object) × (object_at anodes 1 ≡ Some object) × (is_dir object.content ≡ true))
    first two (inl one) = absurd (omega (arith, two, one))
    first two (inr root) =
        let (first_use, dir) = and_parts (unique_at anodes 1 == 1) _ root in (eqb-true (unique_at anodes 1) 1 first_use, root_there (object_at anodes 1) dir)

-- those that arrive have a root, if any came, and lead where they may
pub arrived_root : (objects parts : ℕ) (anodes : List Anode) → MayArrive objects parts anodes → (parts ≡ 1 → ⊥) → has_root anodes ≡ true
arrived_root objects parts anodes may more =
    let least = may.least in
    let (first_use, (object, there, dir)) = may.first (omega (arith, least, more)) in
    and_from (unique_at anodes 1 == 1) _ (eq-eqb (unique_at anodes 1) 1 first_use) (ap (λ o. option_map_or (λ (x : Object). is_dir x.content) o false) there ∙ dir)

all_from : (p : DirEntry → Bool) (xs : List DirEntry) → ((x : DirEntry) → Has x xs → p x ≡ true) → list_all p xs ≡ true
all_from p [] h = refl
all_from p (x ∷ xs) h = and_from (p x) (list_all p xs) (h x (inl refl)) (all_from p xs (λ y k. h y (inr k)))

pub arrived_within : (objects parts : ℕ) (anodes : List Anode) → MayArrive objects parts anodes → AllRise anodes → are_within anodes ≡ true
arrived_within objects parts anodes may rise =
    each_anode (λ o. option_map_or (λ (object : Object). list_all is_within (entries_in object.content)) o true) anodes refl
    (λ at object there.
    all_from is_within (entries_in object.content) (λ entry h.
    (let (low, high) = may.within at entry.name entry (has_listed anodes at object entry there (rise at) h) in
    and_from (nat_le 1 entry.anode) (nat_le entry.anode OBJECTS_MAX) (le-leb 1 entry.anode low) (le-leb entry.anode OBJECTS_MAX high))))
