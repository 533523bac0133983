-- What stays of a list when only what passes a test counts.
use Rattle.std.proofs.Common.{◌≡◌, ℕ, zero, suc, ◌+◌, nat_lt, Bool, true, false, ◌||◌, not, cond, List, [], ◌∷◌, Some, None, length, refl, sym, ap, ◌∙◌, subst, arith, rules}
use Rattle.std.specs.Prelude.{slice_get, slice_set, insert, filter}
use Rattle.std.specs.List.{find, list_any, list_all, prefix_len, position, count_by}
use Rattle.std.proofs.lemmas.Grind.{common_steps}
use Rattle.base_types.specs.declared.ids.FilesetId.{FilesetId}
use Rattle.tree_objects.proofs.Observed.{and_left, and_right}
use Rattle.tree_filesets.specs.declared.fileset.Fileset.{Fileset}
use Rattle.tree_answers.specs.Finding.{id_place}
use Rattle.tree_answers.specs.WellFormed.{ids_rise}
use Rattle.tree_answers.proofs.Inserted.{position_or_end}
use Rattle.tree_answers.proofs.Totals.{total, sum_total}

-- a test that another one implies
abbrev pub Implies : {X : Type 0} → (X → Bool) → (X → Bool) → Type 0
Implies {X} p q = (x : X) → p x ≡ true → q x ≡ true

pub not_passed : (b c : Bool) → b ≡ false → (c ≡ true → b ≡ true) → c ≡ false
not_passed b true e h = sym (h refl) ∙ e
not_passed b false e h = refl

pub or_left : (b c : Bool) → b ≡ true → (b || c) ≡ true
or_left b c h = ap (λ t. t || c) h

pub or_right : (b c : Bool) → c ≡ true → (b || c) ≡ true
or_right true c h = refl
or_right false c h = h

-- some element passes
pub any_filter : {X : Type 0} (p q : X → Bool) (xs : List X) → Implies p q → list_any p (filter q xs) ≡ list_any p xs
any_filter p q [] h = refl
any_filter p q (x ∷ xs) h = by_test (any_filter p q xs h) (q x) refl
  where
    by_test : list_any p (filter q xs) ≡ list_any p xs → (b : Bool) → q x ≡ b → list_any p (cond b (x ∷ filter q xs) (filter q xs)) ≡ (p x || list_any p xs)
    by_test rest true e = ap (λ t. p x || t) rest
    by_test rest false e = rest ∙ ap (λ t. t || list_any p xs) (sym (not_passed (q x) (p x) e (h x)))

-- what was found is one of them
pub any_found : {X : Type 0} (p q : X → Bool) (xs : List X) (x : X) → find p xs ≡ Some x → q x ≡ true → list_any q xs ≡ true
any_found p q [] x h k = absurd (search (rules, h))
any_found p q (y ∷ ys) x h k = by_test (λ e. any_found p q ys x e k) (p y) h
  where
    by_test : (find p ys ≡ Some x → list_any q ys ≡ true) → (b : Bool) → cond b (Some y) (find p ys) ≡ Some x → (q y || list_any q ys) ≡ true
    by_test rest true e = let same : y ≡ x = cc in or_left (q y) (list_any q ys) (ap q same ∙ k)
    by_test rest false e = or_right (q y) (list_any q ys) (rest e)

-- sums
pub total_kept : {X : Type 0} (f : X → ℕ) (q : X → Bool) (xs : List X) → ((x : X) → q x ≡ false → f x ≡ 0) → total f (filter q xs) ≡ total f xs
total_kept f q [] h = refl
total_kept f q (x ∷ xs) h = by_test (total_kept f q xs h) (q x) refl
  where
    by_test : total f (filter q xs) ≡ total f xs → (b : Bool) → q x ≡ b → total f (cond b (x ∷ filter q xs) (filter q xs)) ≡ f x + total f xs
    by_test rest true e = ap (λ n. f x + n) rest
    by_test rest false e = let none = h x e in omega (arith, none, rest)

pub count_kept : {X : Type 0} (p q : X → Bool) (xs : List X) → Implies p q → count_by p (filter q xs) ≡ count_by p xs
count_kept p q xs h =
    sum_total (λ x. cond (p x) 1 0) (filter q xs)
    ∙ total_kept (λ x. cond (p x) 1 0) q xs (λ x e. ap (λ t. cond t 1 0) (not_passed (q x) (p x) e (h x)))
    ∙ sym (sum_total (λ x. cond (p x) 1 0) xs)

-- one that is put in the place of the first that passes
abbrev pub put_first : {X : Type 0} → (X → Bool) → X → List X → List X
put_first p new [] = []
put_first p new (x ∷ xs) = cond (p x) (new ∷ xs) (x ∷ put_first p new xs)

set_prefix : {X : Type 0} (p q : X → Bool) (xs : List X) (new : X) → Implies p q → q new ≡ true →
    filter q (slice_set xs (prefix_len (λ x. not (p x)) xs) new) ≡ put_first p new (filter q xs)
set_prefix p q [] new h k = refl
set_prefix p q (x ∷ xs) new h k = by_test (set_prefix p q xs new h k) (p x) refl
  where
    one : 1 + prefix_len (λ x. not (p x)) xs ≡ suc (prefix_len (λ x. not (p x)) xs)
    one = omega arith

    kept : (b : Bool) → p x ≡ false →
        cond b (x ∷ put_first p new (filter q xs)) (put_first p new (filter q xs)) ≡ put_first p new (cond b (x ∷ filter q xs) (filter q xs))
    kept true e = sym (ap (λ t. cond t (new ∷ filter q xs) (x ∷ put_first p new (filter q xs))) e)
    kept false e = refl

    by_test : filter q (slice_set xs (prefix_len (λ x. not (p x)) xs) new) ≡ put_first p new (filter q xs) → (b : Bool) → p x ≡ b →
        filter q (slice_set (x ∷ xs) (cond (not b) (1 + prefix_len (λ x. not (p x)) xs) 0) new) ≡ put_first p new (filter q (x ∷ xs))
    by_test rest true e =
        ap (λ t. cond t (new ∷ filter q xs) (filter q xs)) k
        ∙ sym (ap (λ t. put_first p new (cond t (x ∷ filter q xs) (filter q xs))) (h x e) ∙ ap (λ t. cond t (new ∷ filter q xs) (x ∷ put_first p new (filter q xs))) e)
    by_test rest false e =
        ap (λ i. filter q (slice_set (x ∷ xs) i new)) one
        ∙ ap (λ ys. cond (q x) (x ∷ ys) ys) rest
        ∙ kept (q x) e

prefix_is : {X : Type 0} (p : X → Bool) (xs : List X) (i : ℕ) → position p xs ≡ Some i → prefix_len (λ x. not (p x)) xs ≡ i
prefix_is p xs i h = by_test (nat_lt (prefix_len (λ x. not (p x)) xs) (length xs)) h
  where
    by_test : (b : Bool) → cond b (Some (prefix_len (λ x. not (p x)) xs)) None ≡ Some i → prefix_len (λ x. not (p x)) xs ≡ i
    by_test true k = cc
    by_test false k = absurd (search (rules, k))

pub set_kept : {X : Type 0} (p q : X → Bool) (xs : List X) (i : ℕ) (new : X) → position p xs ≡ Some i → Implies p q → q new ≡ true →
    filter q (slice_set xs i new) ≡ put_first p new (filter q xs)
set_kept p q xs i new at h k = subst (λ n. filter q (slice_set xs n new) ≡ put_first p new (filter q xs)) (prefix_is p xs i at) (set_prefix p q xs new h k)

-- and where none of both counts
pub set_beside : {X : Type 0} (r : X → Bool) (xs : List X) (i : ℕ) (old new : X) → slice_get xs i ≡ Some old → r old ≡ false → r new ≡ false →
    filter r (slice_set xs i new) ≡ filter r xs
set_beside r [] i old new at h k = refl
set_beside r (x ∷ xs) zero old new at h k =
    let same : x ≡ old = cc in
    ap (λ t. cond t (new ∷ filter r xs) (filter r xs)) k ∙ sym (ap (λ t. cond t (x ∷ filter r xs) (filter r xs)) (ap r same ∙ h))
set_beside r (x ∷ xs) (suc i) old new at h k = ap (λ ys. cond (r x) (x ∷ ys) ys) (set_beside r xs i old new at h k)

-- one more, where it doesn't count
pub insert_beside : {X : Type 0} (r : X → Bool) (xs : List X) (i : ℕ) (new : X) → r new ≡ false → filter r (insert xs i new) ≡ filter r xs
insert_beside r xs zero new h = ap (λ t. cond t (new ∷ filter r xs) (filter r xs)) h
insert_beside r [] (suc i) new h = ap (λ t. cond t (new ∷ []) []) h
insert_beside r (x ∷ xs) (suc i) new h = ap (λ ys. cond (r x) (x ∷ ys) ys) (insert_beside r xs i new h)

-- one more in the order of ids: it stands in front of the first above it
abbrev front : FilesetId → List Fileset → ℕ
front id xs = prefix_len (λ x. not (nat_lt id.0 x.id.0)) xs

place_is : (filesets : List Fileset) (id : FilesetId) → id_place filesets id ≡ front id filesets
place_is filesets id = position_or_end (λ x. nat_lt id.0 x.id.0) filesets

all_above : (id : FilesetId) (q : Fileset → Bool) (first : Fileset) (xs : List Fileset) → nat_lt id.0 first.id.0 ≡ true → list_all (λ other. nat_lt first.id.0 other.id.0) xs ≡ true →
    front id (filter q xs) ≡ 0
all_above id q first [] h k = refl
all_above id q first (x ∷ xs) h k = by_test (all_above id q first xs h (and_right _ _ k)) (q x)
  where
    more : nat_lt id.0 x.id.0 ≡ true
    more = let next : nat_lt first.id.0 x.id.0 ≡ true = and_left _ _ k in grind (arith, common_steps, h, next)

    by_test : front id (filter q xs) ≡ 0 → (b : Bool) → front id (cond b (x ∷ filter q xs) (filter q xs)) ≡ 0
    by_test rest true = ap (λ t. cond (not t) (1 + front id (filter q xs)) 0) more
    by_test rest false = rest

one_more : (n : ℕ) → 1 + n ≡ suc n
one_more n = omega arith

insert_first : (q : Fileset → Bool) (x : Fileset) (xs : List Fileset) (id : FilesetId) (new : Fileset) → list_all (λ other. nat_lt x.id.0 other.id.0) xs ≡ true → nat_lt id.0 x.id.0 ≡ true → (b : Bool) →
    new ∷ cond b (x ∷ filter q xs) (filter q xs) ≡ insert (cond b (x ∷ filter q xs) (filter q xs)) (front id (cond b (x ∷ filter q xs) (filter q xs))) new
insert_first q x xs id new r e true = sym (ap (λ t. insert (x ∷ filter q xs) (cond (not t) (1 + front id (filter q xs)) 0) new) e)
insert_first q x xs id new r e false = sym (ap (λ i. insert (filter q xs) i new) (all_above id q x xs e r))

insert_later : (q : Fileset → Bool) (x : Fileset) (xs : List Fileset) (id : FilesetId) (new : Fileset) → nat_lt id.0 x.id.0 ≡ false → (b : Bool) →
    cond b (x ∷ insert (filter q xs) (front id (filter q xs)) new) (insert (filter q xs) (front id (filter q xs)) new)
    ≡ insert (cond b (x ∷ filter q xs) (filter q xs)) (front id (cond b (x ∷ filter q xs) (filter q xs))) new
insert_later q x xs id new e true =
    sym (ap (λ t. insert (x ∷ filter q xs) (cond (not t) (1 + front id (filter q xs)) 0) new) e ∙ ap (λ i. insert (x ∷ filter q xs) i new) (one_more (front id (filter q xs))))
insert_later q x xs id new e false = refl

insert_prefix : (q : Fileset → Bool) (xs : List Fileset) (id : FilesetId) (new : Fileset) → ids_rise xs ≡ true → q new ≡ true →
    filter q (insert xs (front id xs) new) ≡ insert (filter q xs) (front id (filter q xs)) new
insert_prefix q [] id new r k = ap (λ t. cond t (new ∷ []) []) k
insert_prefix q (x ∷ xs) id new r k = by_test (insert_prefix q xs id new (and_right _ _ r) k) (nat_lt id.0 x.id.0) refl
  where
    by_test : filter q (insert xs (front id xs) new) ≡ insert (filter q xs) (front id (filter q xs)) new → (b : Bool) → nat_lt id.0 x.id.0 ≡ b →
        filter q (insert (x ∷ xs) (cond (not b) (1 + front id xs) 0) new) ≡ insert (filter q (x ∷ xs)) (front id (filter q (x ∷ xs))) new
    by_test rest true e = ap (λ t. cond t (new ∷ filter q (x ∷ xs)) (filter q (x ∷ xs))) k ∙ insert_first q x xs id new (and_left _ _ r) e (q x)
    by_test rest false e =
        ap (λ i. filter q (insert (x ∷ xs) i new)) (one_more (front id xs))
        ∙ ap (λ ys. cond (q x) (x ∷ ys) ys) rest
        ∙ insert_later q x xs id new e (q x)

pub insert_kept : (q : Fileset → Bool) (xs : List Fileset) (id : FilesetId) (new : Fileset) → ids_rise xs ≡ true → q new ≡ true →
    filter q (insert xs (id_place xs id) new) ≡ insert (filter q xs) (id_place (filter q xs) id) new
insert_kept q xs id new r k =
    ap (λ i. filter q (insert xs i new)) (place_is xs id) ∙ insert_prefix q xs id new r k ∙ sym (ap (λ i. insert (filter q xs) i new) (place_is (filter q xs) id))

-- tests that follow one another
pub filter_twice : {X : Type 0} (p q : X → Bool) (xs : List X) → Implies p q → filter p (filter q xs) ≡ filter p xs
filter_twice p q [] h = refl
filter_twice p q (x ∷ xs) h = by_test (filter_twice p q xs h) (q x) refl
  where
    by_test : filter p (filter q xs) ≡ filter p xs → (b : Bool) → q x ≡ b → filter p (cond b (x ∷ filter q xs) (filter q xs)) ≡ cond (p x) (x ∷ filter p xs) (filter p xs)
    by_test rest true e = ap (λ ys. cond (p x) (x ∷ ys) ys) rest
    by_test rest false e = rest ∙ sym (ap (λ t. cond t (x ∷ filter p xs) (filter p xs)) (not_passed (q x) (p x) e (h x)))
