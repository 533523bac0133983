-- Locks and open files agree, whatever entries come.
use Rattle.std.proofs.Common.{◌≡◌, ◌<◌, ◌≤◌, ℕ, zero, suc, ◌+◌, ◌==◌, nat_lt, nat_le, min, max, Bool, true, false, ◌&&◌, ◌||◌, not, cond, List, [], ◌∷◌, length, insert, filter, Option, Some, None, Result, Ok, Err, unwrap_or, refl, sym, ap, ◌∙◌, subst, inl, inr, arith}
use Rattle.std.specs.Prelude.{if◌then◌else◌}
use Rattle.std.specs.List.{list_any, list_all, position, prefix_len, count_by}
use Rattle.std.proofs.Math.Nat.{max_comm}
use Rattle.std.proofs.lemmas.Bool.Decides.{eqb_tells}
use Rattle.std.proofs.lemmas.Grind.{common_steps}
use Rattle.std.proofs.lemmas.List.Sums.{sum_by-cons}
use Rattle.base_types.specs.Ids.{same_fid}
use Rattle.base_types.specs.Name.{same_name, is_before}
use Rattle.base_types.specs.Opens.{opens_conflict}
use Rattle.base_types.specs.Outcomes.{either}
use Rattle.base_types.specs.Spans.{overlap}
use Rattle.base_types.specs.declared.ids.HostId.{HostId}
use Rattle.base_types.specs.declared.ids.Fid.{Fid}
use Rattle.base_types.specs.declared.ids.OpenKind.{OpenKind}
use Rattle.base_types.specs.declared.ids.OpenKind.TheVariants.{Reading, Writing, Executing, Shared, Exclusive}
use Rattle.base_types.specs.declared.limits.TheConstants.{LABELS_MAX, FILE_BYTES_MAX}
use Rattle.base_types.specs.declared.span.Span.{Span}
use Rattle.base_types.specs.declared.user.User.{User}
use Rattle.tree_calls.specs.declared.call.Call.{Call as CallOf}
use Rattle.tree_calls.specs.declared.call.Call.TheVariants.{NewFileset, Create, MakeDir, Remove, Rename, Truncate, SetAcl, CloneFileset, Read, Write, List as ListNames, Stat, GetAcl, Sync, Lock, Unlock, OpenFile, CloseFile, MoveFileset}
use Rattle.tree_calls.specs.declared.entry.Entry.{Entry}
use Rattle.tree_calls.specs.declared.entry.Entry.TheVariants.{Call, Stored, Down, Left}
use Rattle.tree_calls.specs.declared.place.Place.{Place}
use Rattle.tree_calls.specs.declared.reply.Refusal.{Refusal}
use Rattle.tree_calls.specs.declared.reply.Refusal.TheVariants.{AlreadyLocked, AlreadyOpened, TooMany, TooBig, Locked, OpenConflict}
use Rattle.tree_calls.specs.Rosters.{user_of}
use Rattle.tree_objects.specs.Spans.{span_between}
use Rattle.tree_objects.proofs.Observed.{and_left, and_right}
use Rattle.tree_objects.proofs.Rising.{and_both, all_filter, all_implied, before_other, before_trans}
use Rattle.tree_filesets.specs.Uses.{lock_target, open_target}
use Rattle.tree_filesets.proofs.Targets.{then_ok, unless_ok, ok_is}
use Rattle.tree_answers.specs.declared.tree.Tree.{Tree}
use Rattle.tree_answers.specs.declared.tree.LockUse.{LockUse}
use Rattle.tree_answers.specs.declared.tree.OpenUse.{OpenUse}
use Rattle.tree_answers.specs.Finding.{fileset_named}
use Rattle.tree_answers.specs.Histories.{after_entry}
use Rattle.tree_answers.specs.Locks.{is_lock, has_lock, lock_count, is_own_locked, is_excluded, lock_check, lock_place}
use Rattle.tree_answers.specs.Opens.{is_open, has_open, open_count, is_barred, open_check, open_place}
use Rattle.tree_answers.specs.Uses.{same_label, label_before}
use Rattle.tree_answers.proofs.Inserted.{all_insert, same_name_sym, position_or_end}
use Rattle.tree_laws.specs.Labels.{locks_after, opens_after, locks_for, opens_for, each_two, locks_agree, opens_agree, UsesAgree, UsesKeepAgreeing}
use Rattle.tree_laws.proofs.Labels.{labels_change_so}
use Rattle.tree_laws.proofs.Steps.{no_dir, no_file}

-- each two of those that pass a test
two_filter : {X : Type 0} (test : X → X → Bool) (p : X → Bool) (xs : List X) → each_two test xs ≡ true → each_two test (filter p xs) ≡ true
two_filter test p [] h = refl
two_filter test p (x ∷ xs) h =
    let rest = two_filter test p xs (and_right _ _ h) in
    elim (p x) as (λ t. each_two test (cond t (x ∷ filter p xs) (filter p xs)) ≡ true)
    [ true ↦ and_both _ _ (all_filter (test x) p xs (and_left _ _ h)) rest | false ↦ rest ]

-- each two with one more
two_insert : {X : Type 0} (test : X → X → Bool) (new : X) (i : ℕ) (xs : List X) → list_all (test new) xs ≡ true → list_all (λ x. test x new) xs ≡ true → each_two test xs ≡ true → each_two test (insert xs i new) ≡ true
two_insert test new zero xs a b h = and_both _ _ a h
two_insert test new (suc i) [] a b h = refl
two_insert test new (suc i) (x ∷ xs) a b h = and_both _ _ (all_insert (test x) new i xs (and_left _ _ b) (and_left _ _ h)) (two_insert test new i xs (and_right _ _ a) (and_right _ _ b) (and_right _ _ h))

-- in order, with one more before the first that comes after it
pub order_insert : {X : Type 0} (before : X → X → Bool) (new : X) (xs : List X) → ((a b c : X) → before a b ≡ true → before b c ≡ true → before a c ≡ true) →
    list_all (λ x. before new x || before x new) xs ≡ true → each_two before xs ≡ true → each_two before (insert xs (prefix_len (λ x. not (before new x)) xs) new) ≡ true
order_insert before new [] trans other h = refl
order_insert before new (x ∷ xs) trans other h =
    let one : 1 + prefix_len (λ x. not (before new x)) xs ≡ suc (prefix_len (λ x. not (before new x)) xs) = omega arith in
    let rest = order_insert before new xs trans (and_right _ _ other) (and_right _ _ h) in
    elim (before new x) as (λ t. before new x ≡ t → (t || before x new) ≡ true → each_two before (insert (x ∷ xs) (cond (not t) (1 + prefix_len (λ x. not (before new x)) xs) 0) new) ≡ true) [
      | true ↦ λ e _. and_both _ _ (and_both _ _ e (all_implied (before x) (before new) (λ y k. trans new x y e k) xs (and_left _ _ h))) h
      | false ↦ λ e k. rw one (and_both _ _ (all_insert (before x) new (prefix_len (λ x. not (before new x)) xs) xs k (and_left _ _ h)) rest)
    ] refl (and_left _ _ other)

-- counts
count_cons : {X : Type 0} (p : X → Bool) (x : X) (xs : List X) → count_by p (x ∷ xs) ≡ cond (p x) 1 0 + count_by p xs
count_cons p x xs = sum_by-cons (λ x. cond (p x) 1 0) x xs

count_insert : {X : Type 0} (p : X → Bool) (new : X) (i : ℕ) (xs : List X) → count_by p (insert xs i new) ≡ cond (p new) 1 0 + count_by p xs
count_insert p new zero xs = count_cons p new xs
count_insert p new (suc i) [] = count_cons p new []
count_insert p new (suc i) (x ∷ xs) = let a = count_cons p x (insert xs i new) in let b = count_insert p new i xs in let c = count_cons p x xs in omega (arith, a, b, c)

count_filter : {X : Type 0} (p q : X → Bool) (xs : List X) → count_by p (filter q xs) ≤ count_by p xs
count_filter p q [] = omega arith
count_filter p q (x ∷ xs) =
    let rest = count_filter p q xs in let c = count_cons p x xs in
    elim (q x) as (λ t. count_by p (cond t (x ∷ filter q xs) (filter q xs)) ≤ count_by p (x ∷ xs))
    [ true ↦ (let a = count_cons p x (filter q xs) in omega (arith, rest, a, c)) | false ↦ omega (arith, rest, c) ]

-- one more of a host that had less
count_more : {X : Type 0} (host_of : X → ℕ) (new : X) (i : ℕ) (xs : List X) → ((host : ℕ) → count_by (λ x. host_of x == host) xs ≤ 64) → count_by (λ x. host_of x == host_of new) xs < 64 → (host : ℕ) →
    count_by (λ x. host_of x == host) (insert xs i new) ≤ 64
count_more host_of new i xs most less host =
    let a = count_insert (λ x. host_of x == host) new i xs in let m = most host in
    elim (eqb_tells (host_of new) host) as (λ _. count_by (λ x. host_of x == host) (insert xs i new) ≤ 64) [
      | inl (e, same) ↦
          let here : count_by (λ x. host_of x == host) xs < 64 = subst (λ n. count_by (λ x. host_of x == n) xs < 64) same less in
          let one : ◌≡◌ {A = ℕ} (cond (host_of new == host) 1 0) 1 = ap (λ t. cond t 1 0) e in omega (arith, a, here, one)
      | inr (e, other) ↦ let none : ◌≡◌ {A = ℕ} (cond (host_of new == host) 1 0) 0 = ap (λ t. cond t 1 0) e in omega (arith, a, m, none)
    ]

-- what three tests find none of
none_of : {X : Type 0} (p q r good : X → Bool) → ((x : X) → p x ≡ false → q x ≡ false → r x ≡ false → good x ≡ true) → (xs : List X) → list_any p xs ≡ false → list_any q xs ≡ false → list_any r xs ≡ false → list_all good xs ≡ true
none_of p q r good each [] a b c = refl
none_of p q r good each (x ∷ xs) a b c = and_both _ _ (each x (first _ _ a) (first _ _ b) (first _ _ c)) (none_of p q r good each xs (second _ _ a) (second _ _ b) (second _ _ c))
  where
    first : (a b : Bool) → (a || b) ≡ false → a ≡ false
    first true b h = no_dir h
    first false b h = refl

    second : (a b : Bool) → (a || b) ≡ false → b ≡ false
    second true b h = no_dir h
    second false b h = h

-- order of labels
pub eq_sym : (a b : ℕ) → (a == b) ≡ (b == a)
eq_sym a b = elim (eqb_tells a b) as (λ _. (a == b) ≡ (b == a)) [
  | inl (e, k) ↦ let f : (b == a) ≡ true = grind (arith, common_steps, k) in rw (e, f) refl
  | inr (e, k) ↦ let f : (b == a) ≡ false = grind (arith, common_steps, k) in rw (e, f) refl
]

pub record Label : Type 0 where
  pub host : HostId
  pub name : List ℕ

abbrev before : Label → Label → Bool
before a b = label_before a.host a.name b.host b.name

before_through : (a b c : Label) → before a b ≡ true → before b c ≡ true → before a c ≡ true
before_through a b c h k =
    by_order (nat_lt a.host.0 b.host.0) (nat_lt b.host.0 c.host.0) refl refl h k
  where
    lower : (m n : ℕ) → nat_lt m n ≡ true → m < n
    lower m n h = grind (arith, common_steps, h)

    less : a.host.0 < c.host.0 → before a c ≡ true
    less l = let e : nat_lt a.host.0 c.host.0 ≡ true = grind (arith, common_steps, l) in rw e refl

    number : (m n : ℕ) → (m == n) ≡ true → m ≡ n
    number m n h = grind (arith, common_steps, h)

    by_order : (s t : Bool) → nat_lt a.host.0 b.host.0 ≡ s → nat_lt b.host.0 c.host.0 ≡ t → (s || ((a.host.0 == b.host.0) && is_before a.name b.name)) ≡ true →
        (t || ((b.host.0 == c.host.0) && is_before b.name c.name)) ≡ true → before a c ≡ true
    by_order true true e f h k = let l = lower a.host.0 b.host.0 e in let m = lower b.host.0 c.host.0 f in less (omega (arith, l, m))
    by_order true false e f h k = let l = lower a.host.0 b.host.0 e in let m = number b.host.0 c.host.0 (and_left _ _ k) in less (omega (arith, l, m))
    by_order false true e f h k = let l = number a.host.0 b.host.0 (and_left _ _ h) in let m = lower b.host.0 c.host.0 f in less (omega (arith, l, m))
    by_order false false e f h k =
        let l = number a.host.0 b.host.0 (and_left _ _ h) in let m = number b.host.0 c.host.0 (and_left _ _ k) in
        let same : (a.host.0 == c.host.0) ≡ true = let n : a.host.0 ≡ c.host.0 = l ∙ m in grind (arith, common_steps, n) in
        let later = before_trans a.name b.name c.name (and_right _ _ h) (and_right _ _ k) in
        by_either (nat_lt a.host.0 c.host.0) (and_both _ _ same later)
      where
        by_either : (b : Bool) → ((a.host.0 == c.host.0) && is_before a.name c.name) ≡ true → (b || ((a.host.0 == c.host.0) && is_before a.name c.name)) ≡ true
        by_either true n = refl
        by_either false n = n

-- two labels that aren't one
before_either : (new x : Label) → same_label x.host x.name new.host new.name ≡ false → (before new x || before x new) ≡ true
before_either new x h =
    elim (eqb_tells x.host.0 new.host.0) as (λ _. (before new x || before x new) ≡ true) [
      | inl (e, same) ↦
          let back : (new.host.0 == x.host.0) ≡ true = eq_sym new.host.0 x.host.0 ∙ e in
          let differ : same_name x.name new.name ≡ false = by_first (x.host.0 == new.host.0) e h in
          let l : nat_lt new.host.0 x.host.0 ≡ false = grind (arith, common_steps, same) in
          let m : nat_lt x.host.0 new.host.0 ≡ false = grind (arith, common_steps, same) in
          rw (l, m, e, back) (by_names (is_before new.name x.name) refl differ)
      | inr (e, other) ↦ by_hosts (nat_lt new.host.0 x.host.0) refl other
    ]
  where
    by_first : (a : Bool) → a ≡ true → (a && same_name x.name new.name) ≡ false → same_name x.name new.name ≡ false
    by_first true e h = h
    by_first false e h = no_file e

    by_names : (b : Bool) → is_before new.name x.name ≡ b → same_name x.name new.name ≡ false → (b || is_before x.name new.name) ≡ true
    by_names true e d = refl
    by_names false e d = before_other new.name x.name e d

    by_hosts : (b : Bool) → nat_lt new.host.0 x.host.0 ≡ b → (x.host.0 ≡ new.host.0 → ⊥) →
        ((b || ((new.host.0 == x.host.0) && is_before new.name x.name)) || (nat_lt x.host.0 new.host.0 || ((x.host.0 == new.host.0) && is_before x.name new.name))) ≡ true
    by_hosts true e other = refl
    by_hosts false e other =
        let l : nat_lt x.host.0 new.host.0 ≡ true = grind (arith, common_steps, e, other) in
        rw l (or_true ((new.host.0 == x.host.0) && is_before new.name x.name))
      where
        or_true : (b : Bool) → (b || true) ≡ true
        or_true true = refl
        or_true false = refl

-- agreement goes both ways
fid_sym : (a b : Fid) → same_fid a b ≡ same_fid b a
fid_sym a b = rw (eq_sym a.fileset.0 b.fileset.0, eq_sym a.anode b.anode, eq_sym a.unique b.unique) refl

min_comm : (a b : ℕ) → min a b ≡ min b a
min_comm a b = omega arith

overlap_sym : (a b : Span) → overlap a b ≡ overlap b a
overlap_sym a b = ap (λ n. nat_lt n (min a.to b.to)) (max_comm a.from b.from) ∙ ap (λ n. nat_lt (max b.from a.from) n) (min_comm a.to b.to)

conflict_sym : (a b : OpenKind) → opens_conflict a b ≡ opens_conflict b a
conflict_sym Reading Reading = refl
conflict_sym Reading Writing = refl
conflict_sym Reading Executing = refl
conflict_sym Reading Shared = refl
conflict_sym Reading Exclusive = refl
conflict_sym Writing Reading = refl
conflict_sym Writing Writing = refl
conflict_sym Writing Executing = refl
conflict_sym Writing Shared = refl
conflict_sym Writing Exclusive = refl
conflict_sym Executing Reading = refl
conflict_sym Executing Writing = refl
conflict_sym Executing Executing = refl
conflict_sym Executing Shared = refl
conflict_sym Executing Exclusive = refl
conflict_sym Shared Reading = refl
conflict_sym Shared Writing = refl
conflict_sym Shared Executing = refl
conflict_sym Shared Shared = refl
conflict_sym Shared Exclusive = refl
conflict_sym Exclusive Reading = refl
conflict_sym Exclusive Writing = refl
conflict_sym Exclusive Executing = refl
conflict_sym Exclusive Shared = refl
conflict_sym Exclusive Exclusive = refl

locks_agree_sym : (a b : LockUse) → locks_agree a b ≡ locks_agree b a
locks_agree_sym a b =
    ap (λ t. if t then not (same_name a.label b.label) && not (same_fid a.fid b.fid && overlap a.span b.span) else not (same_fid a.fid b.fid && overlap a.span b.span) || (not a.writing && not b.writing)) (eq_sym a.host.0 b.host.0)
    ∙ ap (λ t. if b.host.0 == a.host.0 then not t && not (same_fid a.fid b.fid && overlap a.span b.span) else not (same_fid a.fid b.fid && overlap a.span b.span) || (not a.writing && not b.writing)) (same_name_sym a.label b.label)
    ∙ ap (λ t. if b.host.0 == a.host.0 then not (same_name b.label a.label) && not (t && overlap a.span b.span) else not (t && overlap a.span b.span) || (not a.writing && not b.writing)) (fid_sym a.fid b.fid)
    ∙ ap (λ t. if b.host.0 == a.host.0 then not (same_name b.label a.label) && not (same_fid b.fid a.fid && t) else not (same_fid b.fid a.fid && t) || (not a.writing && not b.writing)) (overlap_sym a.span b.span)
    ∙ ap (λ t. if b.host.0 == a.host.0 then not (same_name b.label a.label) && not (same_fid b.fid a.fid && overlap b.span a.span) else not (same_fid b.fid a.fid && overlap b.span a.span) || t) (and_sym (not a.writing) (not b.writing))
  where
    and_sym : (a b : Bool) → (a && b) ≡ (b && a)
    and_sym true true = refl
    and_sym true false = refl
    and_sym false true = refl
    and_sym false false = refl

opens_agree_sym : (a b : OpenUse) → opens_agree a b ≡ opens_agree b a
opens_agree_sym a b =
    ap (λ t. if t then not (same_name a.label b.label) else not (same_fid a.fid b.fid && opens_conflict a.kind b.kind)) (eq_sym a.host.0 b.host.0)
    ∙ ap (λ t. if b.host.0 == a.host.0 then not t else not (same_fid a.fid b.fid && opens_conflict a.kind b.kind)) (same_name_sym a.label b.label)
    ∙ ap (λ t. if b.host.0 == a.host.0 then not (same_name b.label a.label) else not (t && opens_conflict a.kind b.kind)) (fid_sym a.fid b.fid)
    ∙ ap (λ t. if b.host.0 == a.host.0 then not (same_name b.label a.label) else not (same_fid b.fid a.fid && t)) (conflict_sym a.kind b.kind)

-- by what the checks found
lock_fits : (h n s w v : Bool) → (h && n) ≡ false → (h && s) ≡ false → (not h && s && (w || v)) ≡ false → (if h then not n && not s else not s || (not w && not v)) ≡ true
lock_fits true true s w v a b c = no_dir a
lock_fits true false true w v a b c = no_dir b
lock_fits true false false w v a b c = refl
lock_fits false n true true v a b c = no_dir c
lock_fits false n true false true a b c = no_dir c
lock_fits false n true false false a b c = refl
lock_fits false n false w v a b c = refl

open_fits : (h n s c : Bool) → (h && n) ≡ false → (not h && s && c) ≡ false → (if h then not n else not (s && c)) ≡ true
open_fits true true s c a b = no_dir a
open_fits true false s c a b = refl
open_fits false n true true a b = no_dir b
open_fits false n true false a b = refl
open_fits false n false c a b = refl

-- uses under labels, with one more
module _ {X : Type 0} (label_of : X → Label) where
  abbrev in_order : X → X → Bool
  in_order a b = before (label_of a) (label_of b)

  order_more : (new : X) (xs : List X) → list_any (λ x. same_label (label_of x).host (label_of x).name (label_of new).host (label_of new).name) xs ≡ false → each_two in_order xs ≡ true →
      each_two in_order (insert xs (unwrap_or (position (λ x. before (label_of new) (label_of x)) xs) (length xs)) new) ≡ true
  order_more new xs free h =
      let taken : X → Bool = λ x. same_label (label_of x).host (label_of x).name (label_of new).host (label_of new).name in
      ap (λ i. each_two in_order (insert xs i new)) (position_or_end (λ x. before (label_of new) (label_of x)) xs)
      ∙ order_insert in_order new xs (λ a b c. before_through (label_of a) (label_of b) (label_of c))
      (none_of taken taken taken (λ x. in_order new x || in_order x new) (λ x e _ _. before_either (label_of new) (label_of x) e) xs free free free) h

-- the locks of a tree, and its open files
pub record LocksAgree (locks : List LockUse) : Type 0 where
  pub two : each_two locks_agree locks ≡ true
  pub order : each_two (λ a b. label_before a.host a.label b.host b.label) locks ≡ true
  pub limit : (host : HostId) → count_by (λ lock. lock.host.0 == host.0) locks ≤ 64

pub record OpensAgree (opens : List OpenUse) : Type 0 where
  pub two : each_two opens_agree opens ≡ true
  pub order : each_two (λ a b. label_before a.host a.label b.host b.label) opens ≡ true
  pub limit : (host : HostId) → count_by (λ opened. opened.host.0 == host.0) opens ≤ 64

fewer_locks : (p : LockUse → Bool) (locks : List LockUse) → LocksAgree locks → LocksAgree (filter p locks)
fewer_locks p locks a = record {
  two = two_filter locks_agree p locks a.two;
  order = two_filter (λ a b. label_before a.host a.label b.host b.label) p locks a.order;
  limit = λ host. let m = a.limit host in let f = count_filter (λ lock. lock.host.0 == host.0) p locks in omega (arith, m, f);
}

fewer_opens : (p : OpenUse → Bool) (opens : List OpenUse) → OpensAgree opens → OpensAgree (filter p opens)
fewer_opens p opens a = record {
  two = two_filter opens_agree p opens a.two;
  order = two_filter (λ a b. label_before a.host a.label b.host b.label) p opens a.order;
  limit = λ host. let m = a.limit host in let f = count_filter (λ opened. opened.host.0 == host.0) p opens in omega (arith, m, f);
}

-- what the checks of a lock, of an open, find
pub record LockIsFree (locks : List LockUse) (host : HostId) (label : List ℕ) (writing : Bool) (fid : Fid) (span : Span) : Type 0 where
  pub label_free : has_lock locks host label ≡ false
  pub few : nat_le LABELS_MAX (lock_count locks host) ≡ false
  pub own : is_own_locked locks host fid span ≡ false
  pub others : is_excluded locks host fid span writing ≡ false

lock_free : (tree : Tree) (host : HostId) (user : User) (label : List ℕ) (place : Place) (writing : Bool) (from len : ℕ) (found : Fid × Span) →
    lock_check tree host user label place writing from len ≡ Ok found → LockIsFree tree.locks host label writing found.0 found.1
unfolding lock_check
lock_free tree host user label place writing from len found h =
    let (a, h1) = unless_ok (has_lock tree.locks host label) AlreadyLocked _ found h in
    let (b, h2) = unless_ok (nat_le LABELS_MAX (lock_count tree.locks host)) TooMany _ found h1 in
    let (fileset, e, h3) = then_ok (fileset_named tree place.server place.fileset) _ found h2 in
    let (fid, led, h4) = then_ok (lock_target fileset user place.path writing) _ found h3 in
    let span = span_between from (from + len) in
    let (c, h5) = unless_ok (nat_lt FILE_BYTES_MAX (from + len)) TooBig _ found h4 in
    let (d, h6) = unless_ok (is_own_locked tree.locks host fid span) AlreadyLocked _ found h5 in
    let (f, h7) = unless_ok (is_excluded tree.locks host fid span writing) Locked _ found h6 in
    subst (λ x. LockIsFree tree.locks host label writing x.0 x.1) (ok_is _ found h7) (record { label_free = a; few = b; own = d; others = f })

lock_more : (locks : List LockUse) (host : HostId) (label : List ℕ) (writing : Bool) (fid : Fid) (span : Span) → LockIsFree locks host label writing fid span → LocksAgree locks →
    LocksAgree (insert locks (lock_place locks host label) (record { host = host; label = label; fid = fid; writing = writing; span = span }))
lock_more locks host label writing fid span free a =
    let new : LockUse = record { host = host; label = label; fid = fid; writing = writing; span = span } in
    let i = lock_place locks host label in
    let earlier : list_all (λ x. locks_agree x new) locks ≡ true
    = none_of _ _ _ (λ x. locks_agree x new) (λ x p q r. lock_fits (x.host.0 == host.0) (same_name x.label label) (same_fid x.fid fid && overlap x.span span) x.writing writing p q r) locks free.label_free free.own free.others in
    let later : list_all (locks_agree new) locks ≡ true = all_implied (λ x. locks_agree x new) (locks_agree new) (λ x k. locks_agree_sym new x ∙ k) locks earlier in
    let few = free.few in
    let less : count_by (λ lock. lock.host.0 == host.0) locks < 64 = grind (arith, common_steps, few) in
    record {
      two = two_insert locks_agree new i locks later earlier a.two;
      order = order_more (λ lock. record { host = lock.host; name = lock.label }) new locks free.label_free a.order;
      limit = λ other. count_more (λ lock. lock.host.0) new i locks (λ n. a.limit (record { 0 = n })) less other.0;
    }

pub record OpenIsFree (opens : List OpenUse) (host : HostId) (label : List ℕ) (kind : OpenKind) (fid : Fid) : Type 0 where
  pub label_free : has_open opens host label ≡ false
  pub few : nat_le LABELS_MAX (open_count opens host) ≡ false
  pub others : is_barred opens host fid kind ≡ false

open_free : (tree : Tree) (host : HostId) (user : User) (label : List ℕ) (place : Place) (kind : OpenKind) (found : Fid) →
    open_check tree host user label place kind ≡ Ok found → OpenIsFree tree.opens host label kind found
unfolding open_check
open_free tree host user label place kind found h =
    let (a, h1) = unless_ok (has_open tree.opens host label) AlreadyOpened _ found h in
    let (b, h2) = unless_ok (nat_le LABELS_MAX (open_count tree.opens host)) TooMany _ found h1 in
    let (fileset, e, h3) = then_ok (fileset_named tree place.server place.fileset) _ found h2 in
    let (fid, led, h4) = then_ok (open_target fileset user place.path kind) _ found h3 in
    let (c, h5) = unless_ok (is_barred tree.opens host fid kind) OpenConflict _ found h4 in
    subst (λ x. OpenIsFree tree.opens host label kind x) (ok_is fid found h5) (record { label_free = a; few = b; others = c })

open_more : (opens : List OpenUse) (host : HostId) (label : List ℕ) (kind : OpenKind) (fid : Fid) → OpenIsFree opens host label kind fid → OpensAgree opens →
    OpensAgree (insert opens (open_place opens host label) (record { host = host; label = label; fid = fid; kind = kind }))
open_more opens host label kind fid free a =
    let new : OpenUse = record { host = host; label = label; fid = fid; kind = kind } in
    let i = open_place opens host label in
    let earlier : list_all (λ x. opens_agree x new) opens ≡ true
    = none_of _ _ _ (λ x. opens_agree x new) (λ x p q _. open_fits (x.host.0 == host.0) (same_name x.label label) (same_fid x.fid fid) (opens_conflict x.kind kind) p q) opens free.label_free free.others free.others in
    let later : list_all (opens_agree new) opens ≡ true = all_implied (λ x. opens_agree x new) (opens_agree new) (λ x k. opens_agree_sym new x ∙ k) opens earlier in
    let few = free.few in
    let less : count_by (λ opened. opened.host.0 == host.0) opens < 64 = grind (arith, common_steps, few) in
    record {
      two = two_insert opens_agree new i opens later earlier a.two;
      order = order_more (λ opened. record { host = opened.host; name = opened.label }) new opens free.label_free a.order;
      limit = λ other. count_more (λ opened. opened.host.0) new i opens (λ n. a.limit (record { 0 = n })) less other.0;
    }

-- what calls make of them
locks_checked : (tree : Tree) (host : HostId) (label : List ℕ) (writing : Bool) (checked : Result (Fid × Span) Refusal) → ((found : Fid × Span) → checked ≡ Ok found → LockIsFree tree.locks host label writing found.0 found.1) → LocksAgree tree.locks →
    LocksAgree (either checked (λ (fid, span). insert tree.locks (lock_place tree.locks host label) (record { host = host; label = label; fid = fid; writing = writing; span = span })) (λ refusal. tree.locks))
locks_checked tree host label writing (Ok found) free a = lock_more tree.locks host label writing found.0 found.1 (free found refl) a
locks_checked tree host label writing (Err refusal) free a = a

opens_checked : (tree : Tree) (host : HostId) (label : List ℕ) (kind : OpenKind) (checked : Result Fid Refusal) → ((found : Fid) → checked ≡ Ok found → OpenIsFree tree.opens host label kind found) → OpensAgree tree.opens →
    OpensAgree (either checked (λ fid. insert tree.opens (open_place tree.opens host label) (record { host = host; label = label; fid = fid; kind = kind })) (λ refusal. tree.opens))
opens_checked tree host label kind (Ok found) free a = open_more tree.opens host label kind found (free found refl) a
opens_checked tree host label kind (Err refusal) free a = a

abbrev Agree : List LockUse → List OpenUse → Type 0
Agree locks opens = LocksAgree locks × OpensAgree opens

uses_for : (tree : Tree) (host : HostId) (user : User) (call : CallOf) → Agree tree.locks tree.opens → Agree (locks_for tree host call (Some user)) (opens_for tree host call (Some user))
uses_for tree host user (Lock label place writing from len) a =
    (locks_checked tree host label writing (lock_check tree host user label place writing from len) (λ found h. lock_free tree host user label place writing from len found h) a.0, a.1)
uses_for tree host user (Unlock label) a = (fewer_locks (λ lock. not (is_lock host label lock)) tree.locks a.0, a.1)
uses_for tree host user (OpenFile label place kind) a =
    (a.0, opens_checked tree host label kind (open_check tree host user label place kind) (λ found h. open_free tree host user label place kind found h) a.1)
uses_for tree host user (CloseFile label) a = (a.0, fewer_opens (λ opened. not (is_open host label opened)) tree.opens a.1)
uses_for tree host user (NewFileset server name objects owner) a = a
uses_for tree host user (MoveFileset server name to) a = a
uses_for tree host user (CloneFileset server source new) a = a
uses_for tree host user (Create place) a = a
uses_for tree host user (MakeDir place) a = a
uses_for tree host user (Remove place) a = a
uses_for tree host user (Rename from to) a = a
uses_for tree host user (Truncate place len) a = a
uses_for tree host user (SetAcl place which list) a = a
uses_for tree host user (Read place from len) a = a
uses_for tree host user (Write place from bytes) a = a
uses_for tree host user (ListNames place) a = a
uses_for tree host user (Stat place) a = a
uses_for tree host user (GetAcl place which) a = a
uses_for tree host user (Sync place) a = a

uses_found : (tree : Tree) (host : HostId) (call : CallOf) (found : Option User) → Agree tree.locks tree.opens → Agree (locks_for tree host call found) (opens_for tree host call found)
uses_found tree host call None a = a
uses_found tree host call (Some user) a = uses_for tree host user call a

uses_after : (tree : Tree) (entry : Entry) → Agree tree.locks tree.opens → Agree (locks_after tree entry) (opens_after tree entry)
uses_after tree (Call host k call reply) a = uses_found tree host call (user_of tree.roster host) a
uses_after tree (Stored host fid spans stored) a = a
uses_after tree (Left server id) a = a
uses_after tree (Down host server) a = (fewer_locks _ tree.locks a.0, fewer_opens _ tree.opens a.1)

uses_keep : (tree : Tree) (entry : Entry) → UsesAgree tree → UsesAgree (after_entry tree entry)
uses_keep tree entry a =
    let (locks, opens) = uses_after tree entry (
      record { two = a.locks; order = a.lock_order; limit = a.lock_limit },
      record { two = a.opens; order = a.open_order; limit = a.open_limit },
    ) in
    let change = labels_change_so tree entry in
    let l = subst LocksAgree (sym change.locks) locks in let o = subst OpensAgree (sym change.opens) opens in
    record { locks = l.two; lock_order = l.order; lock_limit = l.limit; opens = o.two; open_order = o.order; open_limit = o.limit }

pub uses_keep_agreeing : UsesKeepAgreeing
uses_keep_agreeing = record {
  start = λ roster. record { locks = refl; lock_order = refl; lock_limit = λ host. omega arith; opens = refl; open_order = refl; open_limit = λ host. omega arith };
  entry = uses_keep;
}
