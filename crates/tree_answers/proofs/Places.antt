-- What is found in a list, and stands at its places.
use Rattle.std.proofs.Common.{◌≡◌, ℕ, zero, suc, ◌+◌, ◌==◌, nat_lt, Bool, true, false, ◌&&◌, ◌||◌, not, cond, List, [], ◌∷◌, Some, refl, sym, ap, ◌∙◌, subst, arith, inl, inr, rules}
use Rattle.std.specs.Prelude.{slice_get, slice_set, map, if◌then◌else◌}
use Rattle.std.specs.List.{find, list_any, list_all, prefix_len}
use Rattle.std.specs.Option.{option_map}
use Rattle.std.proofs.lemmas.Grind.{common_steps}
use Rattle.std.proofs.lemmas.Bool.Decides.{eqb_tells}
use Rattle.base_types.specs.declared.ids.FilesetId.{FilesetId}
use Rattle.base_types.specs.declared.ids.HostId.{HostId}
use Rattle.base_types.specs.declared.ids.ServerId.{ServerId}
use Rattle.tree_objects.proofs.Observed.{and_left, and_right}
use Rattle.tree_objects.proofs.Rising.{and_both}
use Rattle.tree_filesets.specs.declared.fileset.Fileset.{Fileset}
use Rattle.tree_answers.specs.Finding.{has_id}
use Rattle.tree_answers.specs.Losses.{fileset_forgotten}
use Rattle.tree_answers.specs.WellFormed.{ids_rise}

-- equal numbers
pub equal_is : (a b : ℕ) → (a == b) ≡ true → a ≡ b
equal_is a b h = elim (eqb_tells a b) as (λ _. a ≡ b) [ inl (e, k) ↦ k | inr (e, k) ↦ let wrong : false ≡ true = sym e ∙ h in absurd (search (rules, wrong)) ]

-- what holds of all holds of what stands at a place
pub get_all : {X : Type 0} (q : X → Bool) (xs : List X) (i : ℕ) (x : X) → Some x ≡ slice_get xs i → list_all q xs ≡ true → q x ≡ true
get_all q [] i x h k = absurd (search (rules, h))
get_all q (y ∷ ys) zero x h k = let same : y ≡ x = cc in subst (λ z. q z ≡ true) same (and_left _ _ k)
get_all q (y ∷ ys) (suc i) x h k = get_all q ys i x h (and_right _ _ k)

-- a fileset of which the id is sought, put at a place
pub find_put : (id : FilesetId) (filesets : List Fileset) (place : ℕ) (old new : Fileset) → Some old ≡ slice_get filesets place → ids_rise filesets ≡ true → new.id ≡ old.id → has_id id old ≡ true →
    find (has_id id) (slice_set filesets place new) ≡ Some new
find_put id [] place old new h r s k = absurd (search (rules, h))
find_put id (x ∷ xs) zero old new h r s k = let e : (new.id.0 == id.0) ≡ true = ap (λ i. i.0 == id.0) s ∙ k in ap (λ t. cond t (Some new) (find (has_id id) xs)) e
find_put id (x ∷ xs) (suc place) old new h r s k =
    let before : nat_lt x.id.0 old.id.0 ≡ true = get_all (λ other. nat_lt x.id.0 other.id.0) xs place old h (and_left _ _ r) in
    let e : (x.id.0 == id.0) ≡ false = grind (arith, common_steps, before, k) in
    ap (λ t. cond t (Some x) (find (has_id id) (slice_set xs place new))) e ∙ find_put id xs place old new h (and_right _ _ r) s k

-- another one
pub find_put_other : (id : FilesetId) (filesets : List Fileset) (place : ℕ) (old new : Fileset) → Some old ≡ slice_get filesets place → new.id ≡ old.id → has_id id old ≡ false →
    find (has_id id) (slice_set filesets place new) ≡ find (has_id id) filesets
find_put_other id [] place old new h s k = refl
find_put_other id (x ∷ xs) zero old new h s k =
    let same : old ≡ x = cc in
    let e : (new.id.0 == id.0) ≡ false = ap (λ i. i.0 == id.0) s ∙ k in
    let f : (x.id.0 == id.0) ≡ false = subst (λ z. has_id id z ≡ false) same k in
    ap (λ t. cond t (Some new) (find (has_id id) xs)) e ∙ sym (ap (λ t. cond t (Some x) (find (has_id id) xs)) f)
find_put_other id (x ∷ xs) (suc place) old new h s k = ap (λ o. cond (has_id id x) (Some x) o) (find_put_other id xs place old new h s k)

-- the one of which the id is sought
pub find_at_place : (id : FilesetId) (filesets : List Fileset) (place : ℕ) (old : Fileset) → Some old ≡ slice_get filesets place → ids_rise filesets ≡ true → has_id id old ≡ true → find (has_id id) filesets ≡ Some old
find_at_place id [] place old h r k = absurd (search (rules, h))
find_at_place id (x ∷ xs) zero old h r k = let same : old ≡ x = cc in let f : (x.id.0 == id.0) ≡ true = subst (λ z. has_id id z ≡ true) same k in ap (λ t. cond t (Some x) (find (has_id id) xs)) f ∙ sym h
find_at_place id (x ∷ xs) (suc place) old h r k =
    let before : nat_lt x.id.0 old.id.0 ≡ true = get_all (λ other. nat_lt x.id.0 other.id.0) xs place old h (and_left _ _ r) in
    let e : (x.id.0 == id.0) ≡ false = grind (arith, common_steps, before, k) in
    ap (λ t. cond t (Some x) (find (has_id id) xs)) e ∙ find_at_place id xs place old h (and_right _ _ r) k

-- what is found stands at the place
pub place_found : {X : Type 0} (p : X → Bool) (xs : List X) → find p xs ≡ slice_get xs (prefix_len (λ x. not (p x)) xs)
place_found p [] = refl
place_found p (x ∷ xs) =
    let one : 1 + prefix_len (λ x. not (p x)) xs ≡ suc (prefix_len (λ x. not (p x)) xs) = omega arith in
    elim (p x) as (λ t. cond t (Some x) (find p xs) ≡ slice_get (x ∷ xs) (cond (not t) (1 + prefix_len (λ x. not (p x)) xs) 0))
    [ true ↦ refl | false ↦ place_found p xs ∙ ap (λ i. slice_get (x ∷ xs) i) (sym one) ]

-- what is found passes the test
pub found_passes : {X : Type 0} (p : X → Bool) (xs : List X) (x : X) → find p xs ≡ Some x → p x ≡ true
found_passes p [] x = λ h. absurd (search (rules, h))
found_passes p (y ∷ ys) x =
    elim (p y) as (λ t. p y ≡ t → cond t (Some y) (find p ys) ≡ Some x → p x ≡ true)
    [ true ↦ λ e h. let same : y ≡ x = cc in subst (λ z. p z ≡ true) same e | false ↦ λ e h. found_passes p ys x h ] refl

-- in a list whose elements are all changed
pub find_map : (id : FilesetId) (change : Fileset → Fileset) → ((fileset : Fileset) → (change fileset).id ≡ fileset.id) → (filesets : List Fileset) → find (has_id id) (map change filesets) ≡ option_map change (find (has_id id) filesets)
find_map id change k [] = refl
find_map id change k (x ∷ xs) =
    let same : has_id id (change x) ≡ has_id id x = ap (λ i. i.0 == id.0) (k x) in
    ap (λ t. cond t (Some (change x)) (find (has_id id) (map change xs))) same ∙ choice (has_id id x) (find_map id change k xs)
  where
    choice : (b : Bool) → find (has_id id) (map change xs) ≡ option_map change (find (has_id id) xs) → cond b (Some (change x)) (find (has_id id) (map change xs)) ≡ option_map change (cond b (Some x) (find (has_id id) xs))
    choice true e = refl
    choice false e = e

-- the fileset that has a name has its id alone
pub find_all : {X : Type 0} (p q : X → Bool) (xs : List X) (x : X) → find p xs ≡ Some x → list_all q xs ≡ true → q x ≡ true
find_all p q [] x = λ h k. absurd (search (rules, h))
find_all p q (y ∷ ys) x =
    elim (p y) as (λ t. cond t (Some y) (find p ys) ≡ Some x → list_all q (y ∷ ys) ≡ true → q x ≡ true)
    [ true ↦ λ h k. let same : y ≡ x = cc in subst (λ z. q z ≡ true) same (and_left _ _ k) | false ↦ λ h k. find_all p q ys x h (and_right _ _ k) ]

pub found_by_id : (p : Fileset → Bool) (filesets : List Fileset) (fileset : Fileset) → find p filesets ≡ Some fileset → ids_rise filesets ≡ true → find (has_id fileset.id) filesets ≡ Some fileset
found_by_id p [] fileset = λ h k. absurd (search (rules, h))
found_by_id p (x ∷ xs) fileset =
    elim (p x) as (λ t. cond t (Some x) (find p xs) ≡ Some fileset → ids_rise (x ∷ xs) ≡ true → find (has_id fileset.id) (x ∷ xs) ≡ Some fileset) [
      | true ↦ λ h k.
          let same : x ≡ fileset = cc in
          let e : (fileset.id.0 == fileset.id.0) ≡ true = grind (arith, common_steps) in
          subst (λ z. find (has_id fileset.id) (z ∷ xs) ≡ Some fileset) (sym same) (ap (λ t. cond t (Some fileset) (find (has_id fileset.id) xs)) e)
      | false ↦ λ h k.
          let before : nat_lt x.id.0 fileset.id.0 ≡ true = find_all p (λ other. nat_lt x.id.0 other.id.0) xs fileset h (and_left _ _ k) in
          let e : (x.id.0 == fileset.id.0) ≡ false = grind (arith, common_steps, before) in
          ap (λ t. cond t (Some x) (find (has_id fileset.id) xs)) e ∙ found_by_id p xs fileset h (and_right _ _ k)
    ]

-- what holds of all others, and of one that is put among them
pub all_set : {X : Type 0} (q : X → Bool) (xs : List X) (i : ℕ) (x : X) → q x ≡ true → list_all q xs ≡ true → list_all q (slice_set xs i x) ≡ true
all_set q [] i x h k = k
all_set q (y ∷ ys) zero x h k = and_both _ _ h (and_right _ _ k)
all_set q (y ∷ ys) (suc i) x h k = and_both _ _ (and_left _ _ k) (all_set q ys i x h (and_right _ _ k))

-- what holds of none doesn't hold of each
pub none_all : {X : Type 0} (p : X → Bool) (xs : List X) → list_any p xs ≡ false → list_all (λ x. not (p x)) xs ≡ true
none_all p [] h = refl
none_all p (x ∷ xs) h = by_test (p x) h (λ k. none_all p xs k)
  where
    by_test : (b : Bool) → (b || list_any p xs) ≡ false → (list_any p xs ≡ false → list_all (λ x. not (p x)) xs ≡ true) → (not b && list_all (λ x. not (p x)) xs) ≡ true
    by_test true k rest = absurd (search (rules, k))
    by_test false k rest = rest k

pub not_true : (b : Bool) → not b ≡ true → b ≡ false
not_true true h = absurd (search (rules, h))
not_true false h = refl

pub not_false : (b : Bool) → b ≡ false → not b ≡ true
not_false b h = ap not h

-- a host that is down leaves the id of a fileset
pub same_after : (host : HostId) (server : ServerId) (fileset : Fileset) → (if fileset.server.0 == server.0 then fileset_forgotten host fileset else fileset).id ≡ fileset.id
same_after host server fileset = elim (fileset.server.0 == server.0) as (λ t. (if t then fileset_forgotten host fileset else fileset).id ≡ fileset.id) [ true ↦ refl | false ↦ refl ]
