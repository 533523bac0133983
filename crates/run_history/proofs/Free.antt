-- A lock or an open that its host asked for has a label that is free in each tree in which the labels stand.
use Rattle.std.proofs.Common.{Bool, List, ap, arith, false, inl, inr, nat_le, refl, subst, sym, true, ℕ, ◌&&◌, ◌+◌}
use Rattle.std.proofs.Common.{◌<◌, ◌==◌, ◌∙◌, ◌≡◌, ◌≤◌}
use Rattle.std.proofs.lemmas.Bool.{and_parts, false≢true}
use Rattle.std.proofs.lemmas.Grind.{common_steps}
use Rattle.std.proofs.lemmas.List.Sums.{length-filter}
use Rattle.std.specs.List.{filter, list_any}
use Rattle.std.specs.Prelude.{count_by}
use Rattle.base_types.specs.Name.{same_name}
use Rattle.base_types.specs.declared.ids.HostId.{HostId}
use Rattle.base_types.specs.declared.ids.ServerId.{ServerId}
use Rattle.base_types.specs.declared.limits.TheConstants.{LABELS_MAX}
use Rattle.tree_calls.specs.declared.call.Call.{Call}
use Rattle.tree_calls.specs.declared.call.Call.TheVariants.{Lock, OpenFile}
use Rattle.tree_objects.specs.Spans.{span_between}
use Rattle.tree_answers.specs.Locks.{covers, has_lock, is_lock, is_own_locked, lock_count}
use Rattle.tree_answers.specs.Opens.{has_open, is_open, open_count}
use Rattle.tree_answers.specs.declared.tree.LockUse.{LockUse}
use Rattle.tree_answers.specs.declared.tree.OpenUse.{OpenUse}
use Rattle.tree_answers.specs.declared.tree.Tree.{Tree}
use Rattle.tree_laws.specs.Labels.{locks_agree, opens_agree}
use Rattle.message_types.specs.Soundness.{IsEnd}
use Rattle.message_types.specs.declared.asking.Change.{Change as ChangeOf}
use Rattle.script_lines.specs.declared.script.Script.{Script}
use Rattle.run_rules.specs.HostAsks.{HasChanged}
use Rattle.run_rules.specs.Messages.{Changing}
use Rattle.run_rules.specs.Past.{EachOnce, In}
use Rattle.run_rules.specs.Runs.{StepsMeet}
use Rattle.run_rules.specs.Steps.{steps_of_host}
use Rattle.run_rules.specs.Tokens.{LabelInUse}
use Rattle.run_rules.specs.Views.{IsLock, IsOpening}
use Rattle.run_history.proofs.Labels.{filter_in, filter_once, in_filter, lock_alone, no_more, of_host, once_of_two}
use Rattle.run_history.proofs.Labels.{open_alone}
use Rattle.run_parts.specs.Uses.{Locked}
use Rattle.run_contents.proofs.Calls.{one_open}
use Rattle.run_contents.proofs.Words.{any_in, in_any}
use Rattle.run_rules.specs.declared.step.Asked.{Asked}
use Rattle.run_rules.specs.declared.step.Labelled.{Labelled}
use Rattle.run_rules.specs.declared.step.Step.{Step}
use Rattle.run_history.proofs.Open.{Outstanding, Passes, ends_is_end, given_made}
use Rattle.run_history.proofs.State.{StandsWith, firm_now, host_run, locked_had}

-- the labels of a tree let the Change pass that its host asked for
abbrev pub TreePasses : Tree → HostId → ChangeOf → Call → Type 0
TreePasses tree host c (Lock label place writing from len) =
    (has_lock tree.locks host label ≡ false) × (nat_le LABELS_MAX (lock_count tree.locks host) ≡ false)
    × (c.enter ≡ false → is_own_locked tree.locks host c.fid (span_between from (from + len)) ≡ false)
TreePasses tree host c (OpenFile label place kind) =
    (has_open tree.opens host label ≡ false) × (nat_le LABELS_MAX (open_count tree.opens host) ≡ false)
TreePasses tree host c _ = Unit {0}

-- of fewer elements fewer pass a test, and none where none does
any_fewer : {X : Type 0} (test : X → Bool) (xs ys : List X) → ((x : X) → In x xs → test x ≡ true → In x ys)
    → list_any test ys ≡ false → list_any test xs ≡ false
any_fewer test xs ys to none = go (list_any test xs) refl
  where
    go : (b : Bool) → list_any test xs ≡ b → list_any test xs ≡ false
    go false e = e
    go true e =
        let x = any_in test xs e in
        absurd (false≢true (sym none ∙ in_any test ys x.0 (to x.0 x.1 x.2) x.2))

count_fewer : {X : Type 0} (test : X → Bool) (xs ys : List X) → EachOnce xs
    → ((x : X) → In x xs → test x ≡ true → In x ys) → count_by test xs ≤ count_by test ys
count_fewer test xs ys once to =
    let le = no_more (filter test xs) (filter test ys) (filter_once test xs once) (λ x i.
    let k = in_filter test xs x i in filter_in test ys x (to x k.0 k.1) k.1) in
    let a = length-filter test xs in
    let b = length-filter test ys in
    omega (arith, le, a, b)

below : (max n m : ℕ) → n ≤ m → nat_le max m ≡ false → nat_le max n ≡ false
below max n m le e = grind (arith, common_steps, le, e)

module _ (script : Script) (start : Tree) (firsts : ServerId → ℕ) (real : (v : ServerId) → 0 < firsts v)
    (past : List Step) (run : StepsMeet script start firsts past) (h : HostId) (c : ChangeOf) (v : ServerId)
    (has : HasChanged (steps_of_host h past) v c) (changing : Changing (steps_of_host h past) v c.fileset c.number) where
  abbrev A : List Step
  A = steps_of_host h past

  out : Outstanding h A v c
  out = (firm_now script start firsts real past run h).asked v c has changing

  -- a label of the host that is in use in the tree is in use there
  locked_used : (u : Labelled) → Locked firsts past h u → LabelInUse A u
  locked_used u l = elim (locked_had script start firsts real past run h u l) [
    | inl usage ↦ usage
    | inr (g, given, gives, unknown) ↦ (
        let ran = host_run script start firsts real past run h in
        let made = given_made A u g given in
        let o = (firm_now script start firsts real past run h).given_open g gives.0 made gives.1 unknown in
        let one = one_open script h A ran (record { k = c.k; call = c.call })
        (record { k = gives.0.k; call = gives.0.call }) out.is_open o in
        absurd (out.no_end (subst IsEnd (sym (ap (λ (z : Asked). z.call) one ∙ gives.2)) (ends_is_end u)))
        )
  ]

  module _ (had : HostId → Labelled → Type 0) (less : (u : Labelled) → had h u → Locked firsts past h u) (tree : Tree)
      (stands : StandsWith had tree) where
    locks_in : (lock : LockUse) → In lock tree.locks → lock.host ≡ h → In lock out.labels.own.locks
    locks_in lock i e =
        let k = (stands.locks lock).0 i in
        (out.labels.locks lock).1 (
          k.0,
          locked_used k.0 (less k.0 (subst (λ (g : HostId). had g k.0) e k.1)),
          subst (λ (g : HostId). IsLock g lock k.0) e k.2,
        )

    opens_in : (opened : OpenUse) → In opened tree.opens → opened.host ≡ h → In opened out.labels.own.opens
    opens_in opened i e =
        let k = (stands.opens opened).0 i in
        (out.labels.opens opened).1 (
          k.0,
          locked_used k.0 (less k.0 (subst (λ (g : HostId). had g k.0) e k.1)),
          subst (λ (g : HostId). IsOpening g opened k.0) e k.2,
        )

    pub passes : TreePasses tree h c c.call
    passes = go c.call out.labels.passes
      where
        go : (call : Call) → Passes out.labels.own h c call → TreePasses tree h c call
        go (Lock label place writing from len) k = (
          any_fewer (is_lock h label) tree.locks out.labels.own.locks (λ lock i e. locks_in lock i (of_host lock.host h
              (and_parts (lock.host.0 == h.0) (same_name lock.label label) e).0)) k.0,
          below LABELS_MAX (lock_count tree.locks h) (lock_count out.labels.own.locks h)
              (count_fewer (λ (lock : LockUse). lock.host.0 == h.0) tree.locks out.labels.own.locks
              (once_of_two locks_agree lock_alone tree.locks stands.agree.locks)
              (λ lock i e. locks_in lock i (of_host lock.host h e))) k.1,
          λ enter. any_fewer
              (λ (lock : LockUse). (lock.host.0 == h.0) && covers c.fid (span_between from
              (from + len)) lock) tree.locks
              out.labels.own.locks (λ lock i e. locks_in lock i (of_host lock.host h
              (and_parts (lock.host.0 == h.0) (covers c.fid (span_between from (from + len)) lock) e).0)) (k.2 enter),
        )
        go (OpenFile label place kind) k = (
          any_fewer (is_open h label) tree.opens out.labels.own.opens (λ opened i e. opens_in opened i
              (of_host opened.host h (and_parts (opened.host.0 == h.0) (same_name opened.label label) e).0)) k.0,
          below LABELS_MAX (open_count tree.opens h) (open_count out.labels.own.opens h)
              (count_fewer (λ (opened : OpenUse). opened.host.0 == h.0) tree.opens out.labels.own.opens
              (once_of_two opens_agree open_alone tree.opens stands.agree.opens)
              (λ opened i e. opens_in opened i (of_host opened.host h e))) k.1,
        )
        go _ k = tt
