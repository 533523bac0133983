-- A host that has the labels which the tree has in use of it knows them.
use Rattle.std.proofs.Common.{Bool, List, ap, arith, false, inl, inr, length, not, refl, subst, suc, sym, true, ℕ}
use Rattle.std.proofs.Common.{◌&&◌, ◌==◌, ◌||◌, ◌∙◌, ◌∷◌, ◌≡◌, ◌≤◌}
use Rattle.std.proofs.lemmas.Bool.{and_parts, eqb-true, false≢true}
use Rattle.std.proofs.lemmas.List.Sums.{length-filter}
use Rattle.std.specs.List.{filter, list_all, list_any}
use Rattle.std.specs.Prelude.{[], count_by, if◌then◌else◌, ◌↔◌}
use Rattle.base_types.specs.Ids.{same_fid}
use Rattle.base_types.specs.Name.{same_name}
use Rattle.base_types.specs.Opens.{opens_conflict}
use Rattle.base_types.specs.Spans.{overlap}
use Rattle.base_types.specs.declared.ids.HostId.{HostId}
use Rattle.tree_filesets.proofs.Names.{same_self}
use Rattle.need_host.specs.Calls.{Own}
use Rattle.tree_answers.specs.Locks.{covers}
use Rattle.tree_answers.specs.declared.tree.LockUse.{LockUse}
use Rattle.tree_answers.specs.declared.tree.OpenUse.{OpenUse}
use Rattle.tree_answers.specs.declared.tree.Tree.{Tree}
use Rattle.tree_laws.specs.Labels.{UsesAgree, each_two, locks_agree, opens_agree}
use Rattle.tree_laws.proofs.Steps.{same_number}
use Rattle.run_history.proofs.Answering.{SameLabels}
use Rattle.run_contents.proofs.Words.{any_in, in_any}
use Rattle.run_rules.specs.Past.{EachOnce, In}

-- a list without one of its elements
one_less : {X : Type 0} (x : X) (ys : List X) → In x ys → (zs : List X) × (length ys ≡ suc (length zs))
    × ((z : X) → In z ys → (z ≡ x → ⊥) → In z zs)
one_less x [] i = elim i [ ]
one_less x (y ∷ ys) (inl e) = (ys, refl, λ z i two. elim i [ inl q ↦ absurd (two (q ∙ sym e)) | inr k ↦ k ])
one_less x (y ∷ ys) (inr i) =
    let r = one_less x ys i in
    (y ∷ r.0, ap suc r.1, λ z k two. elim k [ inl q ↦ inl q | inr j ↦ inr (r.2 z j two) ])

-- what stands in it once is no more
pub no_more : {X : Type 0} (xs ys : List X) → EachOnce xs → ((x : X) → In x xs → In x ys) → length xs ≤ length ys
no_more [] ys once all = omega arith
no_more {X} (x ∷ xs) ys once all =
    let r = one_less x ys (all x (inl refl)) in
    let rest : length xs ≤ length r.0 =
    no_more xs r.0 once.1 (λ z i. r.2 z (all z (inr i)) (λ e. once.0 (subst (λ (y : X). In y xs) e i))) in
    let longer = r.1 in
    omega (arith, rest, longer)

-- a test that is passed by some element of a list, of another
any_same : {X : Type 0} (test : X → Bool) (xs ys : List X) → ((x : X) → In x xs → test x ≡ true → In x ys)
    → ((x : X) → In x ys → test x ≡ true → In x xs) → list_any test xs ≡ list_any test ys
any_same test xs ys to back = go (list_any test xs) (list_any test ys) refl refl
  where
    go : (a b : Bool) → list_any test xs ≡ a → list_any test ys ≡ b → list_any test xs ≡ list_any test ys
    go true true p q = p ∙ sym q
    go false false p q = p ∙ sym q
    go true false p q =
        let x = any_in test xs p in
        absurd (false≢true (sym q ∙ in_any test ys x.0 (to x.0 x.1 x.2) x.2))
    go false true p q =
        let x = any_in test ys q in
        absurd (false≢true (sym p ∙ in_any test xs x.0 (back x.0 x.1 x.2) x.2))

-- what a filter leaves
pub in_filter : {X : Type 0} (test : X → Bool) (xs : List X) (x : X) → In x (filter test xs)
    → In x xs × (test x ≡ true)
in_filter test [] x i = elim i [ ]
in_filter {X} test (y ∷ ys) x i = go (λ j. in_filter test ys x j) (test y) refl i
  where
    go : (In x (filter test ys) → In x ys × (test x ≡ true)) → (b : Bool) → test y ≡ b → In x (if b then y ∷ filter test ys else filter test ys)
        → In x (y ∷ ys) × (test x ≡ true)
    go rest true e (inl q) = (inl q, ap test q ∙ e)
    go rest true e (inr k) = let r = rest k in (inr r.0, r.1)
    go rest false e k = let r = rest k in (inr r.0, r.1)

pub filter_in : {X : Type 0} (test : X → Bool) (xs : List X) (x : X) → In x xs → test x ≡ true → In x (filter test xs)
filter_in test [] x i e = elim i [ ]
filter_in {X} test (y ∷ ys) x i e = go (λ j. filter_in test ys x j e) (test y) refl i
  where
    go : (In x ys → In x (filter test ys)) → (b : Bool) → test y ≡ b → In x (y ∷ ys) → In x (if b then y ∷ filter test ys else filter test ys)
    go rest true q (inl r) = inl r
    go rest true q (inr k) = inr (rest k)
    go rest false q (inl r) = absurd (false≢true (sym q ∙ (ap test (sym r) ∙ e)))
    go rest false q (inr k) = rest k

pub filter_once : {X : Type 0} (test : X → Bool) (xs : List X) → EachOnce xs → EachOnce (filter test xs)
filter_once test [] once = tt
filter_once {X} test (x ∷ xs) once = go (test x) (filter_once test xs once.1)
  where
    go : (b : Bool) → EachOnce (filter test xs) → EachOnce (if b then x ∷ filter test xs else filter test xs)
    go true rest = (λ i. once.0 (in_filter test xs x i).0, rest)
    go false rest = rest

-- of two lists that have the same of a kind each once, as many are of the kind
count_same : {X : Type 0} (test : X → Bool) (xs ys : List X) → EachOnce xs → EachOnce ys
    → ((x : X) → In x xs → test x ≡ true → In x ys) → ((x : X) → In x ys → test x ≡ true → In x xs)
    → count_by test xs ≡ count_by test ys
count_same test xs ys one other to back =
    let le = no_more (filter test xs) (filter test ys) (filter_once test xs one) (λ x i.
    let k = in_filter test xs x i in filter_in test ys x (to x k.0 k.1) k.1) in
    let ge = no_more (filter test ys) (filter test xs) (filter_once test ys other) (λ x i.
    let k = in_filter test ys x i in filter_in test xs x (back x k.0 k.1) k.1) in
    let same : length (filter test xs) ≡ length (filter test ys) = omega (arith, le, ge) in
    sym (length-filter test xs) ∙ (same ∙ length-filter test ys)

-- locks that agree, opens that agree, stand each once
pub once_of_two : {X : Type 0} (agree : X → X → Bool) → ((x : X) → agree x x ≡ false) → (xs : List X)
    → each_two agree xs ≡ true → EachOnce xs
once_of_two agree never [] e = tt
once_of_two {X} agree never (x ∷ xs) e =
    let q = and_parts (list_all (agree x) xs) (each_two agree xs) e in
    (alone xs q.0, once_of_two agree never xs q.1)
  where
    alone : (ys : List X) → list_all (agree x) ys ≡ true → In x ys → ⊥
    alone [] all i = i
    alone (y ∷ ys) all (inl k) =
        false≢true (sym (ap (agree x) (sym k) ∙ never x) ∙ (and_parts (agree x y) (list_all (agree x) ys) all).0)
    alone (y ∷ ys) all (inr k) = alone ys (and_parts (agree x y) (list_all (agree x) ys) all).1 k

pub lock_alone : (x : LockUse) → locks_agree x x ≡ false
lock_alone x =
    ap (λ b. if b then not (same_name x.label x.label) && not (same_fid x.fid x.fid && overlap x.span x.span)
    else not (same_fid x.fid x.fid && overlap x.span x.span) || (not x.writing && not x.writing)) (same_number x.host.0)
    ∙ ap (λ b. not b && not (same_fid x.fid x.fid && overlap x.span x.span)) (same_self x.label)

pub open_alone : (x : OpenUse) → opens_agree x x ≡ false
open_alone x =
    ap (λ b. if b then not (same_name x.label x.label) else not (same_fid x.fid x.fid && opens_conflict x.kind x.kind))
    (same_number x.host.0)
    ∙ ap not (same_self x.label)

pub of_host : (a b : HostId) → (a.0 == b.0) ≡ true → a ≡ b
of_host a b e = ap (λ (n : ℕ). record { 0 = n }) (eqb-true a.0 b.0 e)

-- a host's labels and those of the tree: two lists that have the same of the host
module _ (own : Own) (h : HostId) (tree : Tree) (uses : UsesAgree tree) (locks_once : EachOnce own.locks)
    (opens_once : EachOnce own.opens)
    (locks : (x : LockUse) → In x own.locks ↔ (In x tree.locks × (x.host ≡ h)))
    (opens : (x : OpenUse) → In x own.opens ↔ (In x tree.opens × (x.host ≡ h))) where
  lock_to : (x : LockUse) → In x own.locks → In x tree.locks
  lock_to x i = ((locks x).0 i).0

  lock_back : (x : LockUse) → In x tree.locks → (x.host.0 == h.0) ≡ true → In x own.locks
  lock_back x i e = (locks x).1 (i, of_host x.host h e)

  open_to : (x : OpenUse) → In x own.opens → In x tree.opens
  open_to x i = ((opens x).0 i).0

  open_back : (x : OpenUse) → In x tree.opens → (x.host.0 == h.0) ≡ true → In x own.opens
  open_back x i e = (opens x).1 (i, of_host x.host h e)

  pub same_labels : SameLabels own h tree
  same_labels = record {
    has_lock_is = λ label. any_same (λ (x : LockUse). (x.host.0 == h.0) && same_name x.label label) own.locks tree.locks
        (λ x i e. lock_to x i)
        (λ x i e. lock_back x i (and_parts (x.host.0 == h.0) (same_name x.label label) e).0);
    lock_count_is = count_same (λ (x : LockUse). x.host.0 == h.0) own.locks tree.locks locks_once
        (once_of_two locks_agree lock_alone tree.locks uses.locks) (λ x i e. lock_to x i) lock_back;
    own_locked_is = λ fid span. any_same (λ (x : LockUse). (x.host.0 == h.0) && covers fid span x) own.locks tree.locks
        (λ x i e. lock_to x i) (λ x i e. lock_back x i (and_parts (x.host.0 == h.0) (covers fid span x) e).0);
    has_open_is = λ label. any_same (λ (x : OpenUse). (x.host.0 == h.0) && same_name x.label label) own.opens tree.opens
        (λ x i e. open_to x i)
        (λ x i e. open_back x i (and_parts (x.host.0 == h.0) (same_name x.label label) e).0);
    open_count_is = count_same (λ (x : OpenUse). x.host.0 == h.0) own.opens tree.opens opens_once
        (once_of_two opens_agree open_alone tree.opens uses.opens) (λ x i e. open_to x i) open_back;
  }
