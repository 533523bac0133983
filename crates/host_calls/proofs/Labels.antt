-- The labels of a host, as the call table sees them.
use Rattle.std.proofs.Common.{◌≡◌, ◌+◌, ◌&&◌, ◌||◌, ◌==◌, ◌++◌, ◌∷◌, ◌∙◌, Bool, List, None, Option, Some, [], ap, arith}
use Rattle.std.proofs.Common.{cond, inl, inr, false, filter, flat_map, length, map, refl, true, ℕ}
use Rattle.std.proofs.lemmas.Bool.{eq-eqb}
use Rattle.std.proofs.lemmas.List.Folds.{list_any-append}
use Rattle.std.proofs.lemmas.List.Sums.{sum_by-append}
use Rattle.std.specs.Bool.{beq}
use Rattle.std.specs.List.{count_by, list_any}
use Rattle.base_types.specs.Ids.{same_fid}
use Rattle.base_types.specs.Name.{same_name}
use Rattle.base_types.specs.Spans.{overlap}
use Rattle.base_types.specs.declared.ids.Fid.{Fid}
use Rattle.base_types.specs.declared.span.Span.{Span}
use Rattle.host_calls.specs.Looking.{AreUses}
use Rattle.host_labels.specs.Labels.{is_labelled, is_lock}
use Rattle.host_labels.specs.declared.uses.Labelled.{Labelled as UseOf}
use Rattle.host_leaves.specs.Owning.{ending_count, ending_locks, has_label, is_own_locked, label_count, locks}
use Rattle.host_leaves.specs.Owning.{locks_under}
use Rattle.host_tables.specs.Tables.{ends_label, labelled, locks_under as lock_uses, ones, opens_under}
use Rattle.host_tables.specs.Tables.{own_of}
use Rattle.host_tables.specs.declared.tables.Tables.{Tables}
use Rattle.run_rules.specs.Past.{In}
use Rattle.run_rules.specs.Tokens.{IsUseKind}
use Rattle.run_rules.specs.declared.step.Labelled.{Labelled}
use Rattle.token_types.specs.declared.token.Kind.{Kind}
use Rattle.token_types.specs.declared.token.Kind.TheVariants.{Bytes, Lock, Opening, Status}
use Rattle.tree_answers.specs.Locks.{covers, has_lock, is_own_locked as has_own_lock, lock_count}
use Rattle.tree_answers.specs.Opens.{has_open, open_count}
use Rattle.tree_answers.specs.Uses.{is_under, lock_hold, open_hold}
use Rattle.tree_answers.specs.declared.tree.LockUse.{LockUse}
use Rattle.tree_answers.specs.declared.tree.OpenUse.{OpenUse}

or_none : (b : Bool) → (b || false) ≡ b
or_none true = refl
or_none false = refl

or_grouped : (a b c : Bool) → (a || (b || c)) ≡ ((a || b) || c)
or_grouped true b c = refl
or_grouped false b c = refl

-- a test of what labels stand for is a test of the labels
module _ {X : Type 0} (under : Labelled → List X) (test : X → Bool) (good : UseOf → Type 0) (same : UseOf → Bool)
    (is : (used : UseOf) → good used → list_any test (under (labelled used)) ≡ same used) where
  any_under : (labels : List UseOf) (rest : List Labelled) → ((used : UseOf) → In used labels → good used) →
      list_any test (flat_map under (map labelled labels ++ rest))
      ≡ (list_any same labels || list_any test (flat_map under rest))
  any_under [] rest all = refl
  any_under (used ∷ labels) rest all =
      let tail = flat_map under (map labelled labels ++ rest) in
      list_any-append test (under (labelled used)) tail
      ∙ ap (λ b. b || list_any test tail) (is used (all used (inl refl)))
      ∙ ap (λ b. same used || b) (any_under labels rest (λ u i. all u (inr i)))
      ∙ or_grouped (same used) (list_any same labels) (list_any test (flat_map under rest))

-- and so is their count
module _ {X : Type 0} (under : Labelled → List X) (test : X → Bool) (good : UseOf → Type 0) (same : UseOf → Bool)
    (is : (used : UseOf) → good used → count_by test (under (labelled used)) ≡ cond (same used) 1 0) where
  counted : (b : Bool) (used : UseOf) (n m : ℕ) (us : List UseOf) → m ≡ length us + n →
      cond b 1 0 + m ≡ length (cond b (used ∷ us) us) + n
  counted true used n m us e = omega (arith, e)
  counted false used n m us e = omega (arith, e)

  count_under : (labels : List UseOf) (rest : List Labelled) → ((used : UseOf) → In used labels → good used) →
      count_by test (flat_map under (map labelled labels ++ rest))
      ≡ length (filter same labels) + count_by test (flat_map under rest)
  count_under [] rest all = omega arith
  count_under (used ∷ labels) rest all =
      let tail = flat_map under (map labelled labels ++ rest) in
      sum_by-append (λ x. cond (test x) 1 0) (under (labelled used)) tail
      ∙ ap (λ n. n + count_by test tail) (is used (all used (inl refl)))
      ∙ counted (same used) used (count_by test (flat_map under rest)) (count_by test tail) (filter same labels)
      (count_under labels rest (λ u i. all u (inr i)))

module _ (m : Tables) where
  abbrev locked : Labelled → List LockUse
  locked u = lock_uses m.host u.token.kind u

  abbrev opened : Labelled → List OpenUse
  opened u = opens_under m.host u.token.kind u

  mine : (m.host.0 == m.host.0) ≡ true
  mine = eq-eqb m.host.0 m.host.0 refl

  -- ---- whether a label is there
  module _ (label : List ℕ) where
    lock_under : (u : Labelled) (kind : Kind) →
        list_any (is_under lock_hold m.host label) (lock_uses m.host kind u)
        ≡ (beq (is_lock kind) true && same_name u.label label)
    lock_under u (Lock writing span) =
        or_none ((m.host.0 == m.host.0) && same_name u.label label) ∙ ap (λ b. b && same_name u.label label) mine
    lock_under u (Opening kind) = refl
    lock_under u (Bytes update span) = refl
    lock_under u (Status update) = refl

    open_under : (u : Labelled) (kind : Kind) → IsUseKind kind →
        list_any (is_under open_hold m.host label) (opens_under m.host kind u)
        ≡ (beq (is_lock kind) false && same_name u.label label)
    open_under u (Opening kind) given =
        or_none ((m.host.0 == m.host.0) && same_name u.label label) ∙ ap (λ b. b && same_name u.label label) mine
    open_under u (Lock writing span) given = refl
    open_under u (Bytes update span) given = elim given [ ]
    open_under u (Status update) given = elim given [ ]

    lock_ending : (ending : Option Labelled) →
        list_any (is_under lock_hold m.host label) (flat_map locked (ones ending)) ≡ ends_label true label ending
    lock_ending None = refl
    lock_ending (Some u) =
        list_any-append (is_under lock_hold m.host label) (locked u) []
        ∙ or_none (list_any (is_under lock_hold m.host label) (locked u)) ∙ lock_under u u.token.kind

    open_ending : (ending : Option Labelled) → ((u : Labelled) → ending ≡ Some u → IsUseKind u.token.kind) →
        list_any (is_under open_hold m.host label) (flat_map opened (ones ending)) ≡ ends_label false label ending
    open_ending None uses = refl
    open_ending (Some u) uses =
        list_any-append (is_under open_hold m.host label) (opened u) []
        ∙ or_none (list_any (is_under open_hold m.host label) (opened u)) ∙ open_under u u.token.kind (uses u refl)

    pub has_lock_is : has_lock (own_of m).locks m.host label ≡ has_label m true label
    has_lock_is =
        any_under locked (is_under lock_hold m.host label) (λ used. Unit {0}) (is_labelled true label)
        (λ used good. lock_under (labelled used) used.token.kind) m.uses.labels (ones m.ending) (λ used i. tt)
        ∙ ap (λ b. list_any (is_labelled true label) m.uses.labels || b) (lock_ending m.ending)

    pub has_open_is : AreUses m → has_open (own_of m).opens m.host label ≡ has_label m false label
    has_open_is uses =
        any_under opened (is_under open_hold m.host label) (λ used. IsUseKind used.token.kind)
        (is_labelled false label) (λ used good. open_under (labelled used) used.token.kind good) m.uses.labels
        (ones m.ending) uses.labels
        ∙ ap (λ b. list_any (is_labelled false label) m.uses.labels || b) (open_ending m.ending uses.ending)

  -- ---- how many there are
  lock_one : (u : Labelled) (kind : Kind) →
      count_by (λ one. (lock_hold one).host.0 == m.host.0) (lock_uses m.host kind u)
      ≡ cond (beq (is_lock kind) true) 1 0
  lock_one u (Lock writing span) = ap (λ b. 0 + cond b 1 0) mine
  lock_one u (Opening kind) = refl
  lock_one u (Bytes update span) = refl
  lock_one u (Status update) = refl

  open_one : (u : Labelled) (kind : Kind) → IsUseKind kind →
      count_by (λ one. (open_hold one).host.0 == m.host.0) (opens_under m.host kind u)
      ≡ cond (beq (is_lock kind) false) 1 0
  open_one u (Opening kind) given = ap (λ b. 0 + cond b 1 0) mine
  open_one u (Lock writing span) given = refl
  open_one u (Bytes update span) given = elim given [ ]
  open_one u (Status update) given = elim given [ ]

  lock_last : (ending : Option Labelled) →
      count_by (λ one. (lock_hold one).host.0 == m.host.0) (flat_map locked (ones ending)) ≡ ending_count true ending
  lock_last None = refl
  lock_last (Some u) =
      sum_by-append (λ one. cond ((lock_hold one).host.0 == m.host.0) 1 0) (locked u) []
      ∙ ap (λ n. n + 0) (lock_one u u.token.kind) ∙ plus_none (cond (beq (is_lock u.token.kind) true) 1 0)
    where
      plus_none : (n : ℕ) → n + 0 ≡ n
      plus_none n = omega arith

  open_last : (ending : Option Labelled) → ((u : Labelled) → ending ≡ Some u → IsUseKind u.token.kind) →
      count_by (λ one. (open_hold one).host.0 == m.host.0) (flat_map opened (ones ending)) ≡ ending_count false ending
  open_last None uses = refl
  open_last (Some u) uses =
      sum_by-append (λ one. cond ((open_hold one).host.0 == m.host.0) 1 0) (opened u) []
      ∙ ap (λ n. n + 0) (open_one u u.token.kind (uses u refl))
      ∙ plus_none (cond (beq (is_lock u.token.kind) false) 1 0)
    where
      plus_none : (n : ℕ) → n + 0 ≡ n
      plus_none n = omega arith

  pub lock_count_is : lock_count (own_of m).locks m.host ≡ label_count m true
  lock_count_is =
      count_under locked (λ one. (lock_hold one).host.0 == m.host.0) (λ used. Unit {0})
      (λ used. beq (is_lock used.token.kind) true) (λ used good. lock_one (labelled used) used.token.kind)
      m.uses.labels (ones m.ending) (λ used i. tt)
      ∙ ap (λ n. length (filter (λ (used : UseOf). beq (is_lock used.token.kind) true) m.uses.labels) + n)
      (lock_last m.ending)

  pub open_count_is : AreUses m → open_count (own_of m).opens m.host ≡ label_count m false
  open_count_is uses =
      count_under opened (λ one. (open_hold one).host.0 == m.host.0) (λ used. IsUseKind used.token.kind)
      (λ used. beq (is_lock used.token.kind) false) (λ used good. open_one (labelled used) used.token.kind good)
      m.uses.labels (ones m.ending) uses.labels
      ∙ ap (λ n. length (filter (λ (used : UseOf). beq (is_lock used.token.kind) false) m.uses.labels) + n)
      (open_last m.ending uses.ending)

  -- ---- whether a lock of the host's own has some bytes
  module _ (fid : Fid) (span : Span) where
    abbrev meets : LockUse → Bool
    meets lock = (lock.host.0 == m.host.0) && covers fid span lock

    own_under : (u : Labelled) (kind : Kind) → list_any meets (lock_uses m.host kind u) ≡ locks_under fid span u.token
        kind
    own_under u (Lock writing locked) =
        or_none ((m.host.0 == m.host.0) && (same_fid u.token.fid fid && overlap locked span))
        ∙ ap (λ b. b && (same_fid u.token.fid fid && overlap locked span)) mine
    own_under u (Opening kind) = refl
    own_under u (Bytes update bytes) = refl
    own_under u (Status update) = refl

    own_ending : (ending : Option Labelled) →
        list_any meets (flat_map locked (ones ending)) ≡ ending_locks fid span ending
    own_ending None = refl
    own_ending (Some u) =
        list_any-append meets (locked u) [] ∙ or_none (list_any meets (locked u)) ∙ own_under u u.token.kind

    pub own_locked_is : has_own_lock (own_of m).locks m.host fid span ≡ is_own_locked m fid span
    own_locked_is =
        any_under locked meets (λ used. Unit {0}) (λ used. locks fid span used.token)
        (λ used good. own_under (labelled used) used.token.kind) m.uses.labels (ones m.ending) (λ used i. tt)
        ∙ ap (λ b. list_any (λ (used : UseOf). locks fid span used.token) m.uses.labels || b) (own_ending m.ending)
