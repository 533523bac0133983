-- Lists, as the rules see them.
use Rattle.std.proofs.Common.{[]}
use Rattle.base_types.specs.Ids.{same_fid}
use Rattle.base_types.specs.Name.{same_name}
use Rattle.base_types.specs.declared.ids.Fid.{Fid}
use Rattle.run_rules.specs.Past.{EachOnce, In}
use Rattle.std.proofs.Common.{Bool, List, ap, arith, cond, eqb-true, false, filter, flat_map, inl, inr, length}
use Rattle.std.proofs.Common.{map, nat_eq, not, refl, subst, suc, sym, true, ℕ, ◌&&◌, ◌++◌, ◌==◌, ◌||◌, ◌∙◌, ◌∷◌, ◌≡◌}
use Rattle.std.proofs.Common.{◌≤◌, ◌⊎◌}
use Rattle.std.proofs.lemmas.Bool.{and_from, and_parts, eq-eqb, or_cases}
use Rattle.std.specs.Cmp.Lexicographic.{pointwise}
use Rattle.std.specs.List.{list_any}
use Rattle.token_types.specs.Conflicts.{same_id}
use Rattle.token_types.specs.declared.token.TokenId.{TokenId}

pub not_true : (b : Bool) → not b ≡ true → b ≡ true → ⊥
not_true true p q = absurd (cc)
not_true false p q = absurd (cc)

pub true_not : (b : Bool) → (b ≡ true → ⊥) → not b ≡ true
true_not true p = absurd (p refl)
true_not false p = refl

pub or_left : (x y : Bool) → x ≡ true → (x || y) ≡ true
or_left x y p = rw p refl

pub or_right : (x y : Bool) → y ≡ true → (x || y) ≡ true
or_right true y p = refl
or_right false y p = p

pub any_in : {A : Type 0} (test : A → Bool) (xs : List A) (x : A) → In x xs → test x ≡ true → list_any test xs ≡ true
any_in test [] x m e = elim m [ ]
any_in test (y ∷ ys) x (inl p) e = or_left (test y) (list_any test ys) (ap test (sym p) ∙ e)
any_in test (y ∷ ys) x (inr m) e = or_right (test y) (list_any test ys) (any_in test ys x m e)

pub in_any : {A : Type 0} (test : A → Bool) (xs : List A) → list_any test xs ≡ true → (x : A) × In x xs
    × (test x ≡ true)
in_any test [] e = absurd (cc)
in_any test (y ∷ ys) e =
    elim (or_cases (test y) (list_any test ys) e) [
      | inl p ↦ (y, inl refl, p)
      | inr p ↦ (let r = in_any test ys p in (r.0, inr r.1, r.2))
    ]

-- none passes the test
pub no_any : {A : Type 0} (test : A → Bool) (xs : List A) → not (list_any test xs) ≡ true → (x : A) → In x xs
    → test x ≡ true → ⊥
no_any test xs e x m t = not_true (list_any test xs) e (any_in test xs x m t)

pub any_no : {A : Type 0} (test : A → Bool) (xs : List A) → ((x : A) → In x xs → test x ≡ true → ⊥)
    → not (list_any test xs) ≡ true
any_no test xs none = true_not (list_any test xs) (λ e. let r = in_any test xs e in none r.0 r.1 r.2)

pub fid_same : (a b : Fid) → a ≡ b → same_fid a b ≡ true
fid_same a b e = and_from ((a.fileset.0 == b.fileset.0) && (a.anode == b.anode)) (a.unique == b.unique)
    (and_from (a.fileset.0 == b.fileset.0) (a.anode == b.anode) (eq-eqb a.fileset.0 b.fileset.0
    (ap (λ (x : Fid). x.fileset.0) e)) (eq-eqb a.anode b.anode (ap (λ (x : Fid). x.anode) e)))
    (eq-eqb a.unique b.unique (ap (λ (x : Fid). x.unique) e))

pub same_fid_is : (a b : Fid) → same_fid a b ≡ true → a ≡ b
same_fid_is a b e =
    let p = and_parts ((a.fileset.0 == b.fileset.0) && (a.anode == b.anode)) (a.unique == b.unique) e in
    let q = and_parts (a.fileset.0 == b.fileset.0) (a.anode == b.anode) p.0 in
    let x = eqb-true a.fileset.0 b.fileset.0 q.0 in let y = eqb-true a.anode b.anode q.1 in let z =
    eqb-true a.unique b.unique p.1 in
    λ i. record { fileset = record { 0 = x i }; anode = y i; unique = z i }

-- all that pass one test pass another
pub any_also : {A : Type 0} (test other : A → Bool) (xs : List A) → ((x : A) → test x ≡ true → other x ≡ true)
    → list_any test xs ≡ true → list_any other xs ≡ true
any_also test other xs also e = let r = in_any test xs e in any_in other xs r.0 r.1 (also r.0 r.2)

-- a list with one element less
split : {A : Type 0} (x : A) (ys : List A) → In x ys → (rest : List A) × (length ys ≡ suc (length rest))
    × ((z : A) → In z ys → (z ≡ x) ⊎ In z rest)
split x [] m = elim m [ ]
split x (y ∷ ys) (inl e) = (ys, refl, λ z m. elim m [ inl p ↦ inl (p ∙ sym e) | inr q ↦ inr q ])
split x (y ∷ ys) (inr m) = let r = split x ys m in (
  y ∷ r.0,
  ap suc r.1,
  λ z k. elim k [
    | inl p ↦ inr (inl p)
    | inr q ↦ elim (r.2 z q) [ inl a ↦ inl a | inr b ↦ inr (inr b) ]
  ],
)

-- what stands once in a list, and in another, is no more than that
pub each_fits : {A : Type 0} (xs ys : List A) → EachOnce xs → ((x : A) → In x xs → In x ys) → length xs ≤ length ys
each_fits [] ys once within = omega arith
each_fits (x ∷ xs) ys once within =
    let r = split x ys (within x (inl refl)) in
    let e = each_fits xs r.0 once.1 (λ z m. elim (r.2 z (within z (inr m))) [
      | inl p ↦
          absurd (once.0 (subst (λ q. In q xs) p m))
      | inr q ↦ q
    ]) in
    let f = r.1 in omega (arith, e, f)

-- an element of two lists after one another
pub in_either : {A : Type 0} (xs ys : List A) (x : A) → In x (xs ++ ys) → In x xs ⊎ In x ys
in_either [] ys x m = inr m
in_either (z ∷ xs) ys x (inl e) = inl (inl e)
in_either (z ∷ xs) ys x (inr m) = elim (in_either xs ys x m) [ inl a ↦ inl (inr a) | inr b ↦ inr b ]

pub in_left : {A : Type 0} (xs ys : List A) (x : A) → In x xs → In x (xs ++ ys)
in_left [] ys x m = elim m [ ]
in_left (z ∷ xs) ys x (inl e) = inl e
in_left (z ∷ xs) ys x (inr m) = inr (in_left xs ys x m)

pub in_right : {A : Type 0} (xs ys : List A) (x : A) → In x ys → In x (xs ++ ys)
in_right [] ys x m = m
in_right (z ∷ xs) ys x m = inr (in_right xs ys x m)

pub same_id_is : (i j : TokenId) → same_id i j ≡ true → i ≡ j
same_id_is i j e =
    let p = and_parts ((i.server.0 == j.server.0) && (i.epoch == j.epoch)) (i.seq == j.seq) e in
    let q = and_parts (i.server.0 == j.server.0) (i.epoch == j.epoch) p.0 in
    let x = eqb-true i.server.0 j.server.0 q.0 in let y = eqb-true i.epoch j.epoch q.1 in let z =
    eqb-true i.seq j.seq p.1 in
    λ k. record { server = record { 0 = x k }; epoch = y k; seq = z k }

pub id_same : (i j : TokenId) → i ≡ j → same_id i j ≡ true
id_same i j e = and_from ((i.server.0 == j.server.0) && (i.epoch == j.epoch)) (i.seq == j.seq)
    (and_from (i.server.0 == j.server.0) (i.epoch == j.epoch)
    (eq-eqb i.server.0 j.server.0 (ap (λ (x : TokenId). x.server.0) e))
    (eq-eqb i.epoch j.epoch (ap (λ (x : TokenId). x.epoch) e))) (eq-eqb i.seq j.seq (ap (λ (x : TokenId). x.seq) e))

-- an element of a filtered list
in_cond : {A : Type 0} (b : Bool) (x y : A) (ys : List A) → In x (cond b (y ∷ ys) ys) → ((b ≡ true) × (x ≡ y)) ⊎ In x ys
in_cond true x y ys (inl e) = inl (refl, e)
in_cond true x y ys (inr e) = inr e
in_cond false x y ys e = inr e

cond_in : {A : Type 0} (b : Bool) (x y : A) (ys : List A) → ((b ≡ true) × (x ≡ y)) ⊎ In x ys → In x (cond b (y ∷ ys) ys)
cond_in true x y ys (inl e) = inl e.1
cond_in true x y ys (inr e) = inr e
cond_in false x y ys (inl e) = absurd (let p = e.0 in cc)
cond_in false x y ys (inr e) = e

pub in_filter : {A : Type 0} (test : A → Bool) (xs : List A) (x : A) → In x (filter test xs) → In x xs × (test x ≡ true)
in_filter test [] x m = elim m [ ]
in_filter test (y ∷ ys) x m =
    elim (in_cond (test y) x y (filter test ys) m) [
      | inl p ↦ (inl p.1, ap test p.1 ∙ p.0)
      | inr p ↦ (let r = in_filter test ys x p in (inr r.0, r.1))
    ]

pub filter_in : {A : Type 0} (test : A → Bool) (xs : List A) (x : A) → In x xs → test x ≡ true → In x (filter test xs)
filter_in test [] x m e = elim m [ ]
filter_in test (y ∷ ys) x (inl p) e = cond_in (test y) x y (filter test ys) (inl (ap test (sym p) ∙ e, p))
filter_in test (y ∷ ys) x (inr m) e = cond_in (test y) x y (filter test ys) (inr (filter_in test ys x m e))

pub in_map : {A B : Type 0} (f : A → B) (xs : List A) (y : B) → In y (map f xs) → (x : A) × In x xs × (y ≡ f x)
in_map f [] y m = elim m [ ]
in_map f (x ∷ xs) y (inl e) = (x, inl refl, e)
in_map f (x ∷ xs) y (inr m) = let r = in_map f xs y m in (r.0, inr r.1, r.2)

pub map_in : {A B : Type 0} (f : A → B) (xs : List A) (x : A) → In x xs → In (f x) (map f xs)
map_in f [] x m = elim m [ ]
map_in f (y ∷ ys) x (inl e) = inl (ap f e)
map_in f (y ∷ ys) x (inr m) = inr (map_in f ys x m)

-- elements of lists that are made of others
pub in_flat : {A B : Type 0} (f : A → List B) (xs : List A) (y : B) → In y (flat_map f xs) → (x : A) × In x xs
    × In y (f x)
in_flat f [] y m = elim m [ ]
in_flat f (x ∷ xs) y m =
    elim (in_either (f x) (flat_map f xs) y m) [
      | inl a ↦ (x, inl refl, a)
      | inr b ↦ (let r = in_flat f xs y b in (r.0, inr r.1, r.2))
    ]

pub flat_in : {A B : Type 0} (f : A → List B) (xs : List A) (x : A) (y : B) → In x xs → In y (f x)
    → In y (flat_map f xs)
flat_in f [] x y m k = elim m [ ]
flat_in f (z ∷ xs) x y (inl e) k = in_left (f z) (flat_map f xs) y (subst (λ q. In y (f q)) e k)
flat_in f (z ∷ xs) x y (inr m) k = in_right (f z) (flat_map f xs) y (flat_in f xs x y m k)

-- nothing stands in an empty list
pub none_in : {A : Type 0} (xs : List A) → xs ≡ [] → (x : A) → In x xs → ⊥
none_in xs e x m = elim (subst (In x) e m) [ ]

-- names
pub name_same : (a : List ℕ) → same_name a a ≡ true
name_same [] = refl
name_same (x ∷ a) = and_from (nat_eq x x) (pointwise nat_eq a a) (eq-eqb x x refl) (name_same a)

pub names_are : (a b : List ℕ) → same_name a b ≡ true → a ≡ b
names_are [] [] e = refl
names_are [] (y ∷ b) e = cc
names_are (x ∷ a) [] e = cc
names_are (x ∷ a) (y ∷ b) e =
    let p = and_parts (nat_eq x y) (pointwise nat_eq a b) e in
    let q = eqb-true x y p.0 in
    let r = names_are a b p.1 in
    λ i. q i ∷ r i

-- either way of a test
pub by_test : (b : Bool) → (b ≡ true) ⊎ (b ≡ false)
by_test true = inl refl
by_test false = inr refl

pub true_false : (b : Bool) → b ≡ true → b ≡ false → ⊥
true_false true p q = absurd (cc)
true_false false p q = absurd (cc)

pub not_false : (b : Bool) → not b ≡ true → b ≡ false
not_false true p = absurd (cc)
not_false false p = refl

pub false_not : (b : Bool) → b ≡ false → not b ≡ true
false_not true p = absurd (cc)
false_not false p = refl

pub any_false : {A : Type 0} (test : A → Bool) (xs : List A) → list_any test xs ≡ false → (x : A) → In x xs
    → test x ≡ true → ⊥
any_false test xs e x m t = true_false (list_any test xs) (any_in test xs x m t) e

pub false_any : {A : Type 0} (test : A → Bool) (xs : List A) → ((x : A) → In x xs → test x ≡ true → ⊥)
    → list_any test xs ≡ false
false_any test xs none = not_false (list_any test xs) (any_no test xs none)

-- an element of a list stands at a place
pub in_parts : {A : Type 0} (xs : List A) (x : A) → In x xs → (us : List A) × (vs : List A) × (xs ≡ us ++ x ∷ vs)
in_parts [] x i = elim i [ ]
in_parts (y ∷ ys) x (inl e) = ([], ys, λ i. (sym e) i ∷ ys)
in_parts {A = A} (y ∷ ys) x (inr i) =
    let r = in_parts ys x i in (y ∷ r.0, r.1, ap (λ (zs : List A). y ∷ zs) r.2)
