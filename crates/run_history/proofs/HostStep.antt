-- After what a host answers, the labels in use in the tree are those of the run again.
use Rattle.std.proofs.Common.{Bool, Err, List, Ok, Option, Result, Some, ap, eqb-true, false, inl, inr, length, not}
use Rattle.std.proofs.Common.{refl, subst, sym, true, ℕ, ◌&&◌, ◌==◌, ◌∙◌, ◌≡◌, ◌≤◌}
use Rattle.std.proofs.lemmas.Bool.{and_parts, false≢true}
use Rattle.std.specs.Prelude.{insert}
use Rattle.base_types.specs.Name.{same_name}
use Rattle.base_types.specs.Outcomes.{either}
use Rattle.base_types.specs.declared.ids.Fid.{Fid}
use Rattle.base_types.specs.declared.ids.HostId.{HostId}
use Rattle.base_types.specs.declared.ids.Node.TheVariants.{Host}
use Rattle.base_types.specs.declared.ids.OpenKind.{OpenKind}
use Rattle.base_types.specs.declared.ids.ServerId.{ServerId}
use Rattle.base_types.specs.declared.span.Span.{Span}
use Rattle.base_types.specs.declared.user.User.{User}
use Rattle.tree_calls.specs.Rosters.{user_of}
use Rattle.tree_calls.specs.declared.call.Call.{Call}
use Rattle.tree_calls.specs.declared.call.Call.TheVariants.{CloseFile, Lock, OpenFile, Unlock}
use Rattle.tree_calls.specs.declared.place.Place.{Place}
use Rattle.tree_calls.specs.declared.reply.Refusal.{Refusal}
use Rattle.tree_calls.specs.declared.reply.Reply.TheVariants.{Ok as Fine, Refused}
use Rattle.tree_filesets.proofs.Names.{names_equal, same_self}
use Rattle.tree_answers.specs.Answers.{answer_to}
use Rattle.tree_answers.specs.Histories.{IsLegal, after_entry}
use Rattle.tree_answers.specs.Locks.{is_lock, lock_check, lock_place}
use Rattle.tree_answers.specs.Opens.{is_open, open_check, open_place}
use Rattle.tree_answers.specs.declared.tree.LockUse.{LockUse}
use Rattle.tree_answers.specs.declared.tree.OpenUse.{OpenUse}
use Rattle.tree_answers.specs.declared.tree.Tree.{Tree}
use Rattle.tree_laws.proofs.Agreeing.{uses_keep_agreeing}
use Rattle.tree_laws.proofs.Labels.{labels_change_so}
use Rattle.tree_laws.specs.Labels.{locks_for, opens_for}
use Rattle.token_types.specs.declared.token.Kind.{Kind}
use Rattle.token_types.specs.declared.token.Kind.TheVariants.{Lock as LockToken, Opening}
use Rattle.tree_laws.proofs.Steps.{same_number}
use Rattle.run_rules.specs.HostMay.{IsExact}
use Rattle.run_rules.specs.Past.{In}
use Rattle.run_rules.specs.Runs.{call_entry}
use Rattle.run_rules.specs.Tokens.{EndsUse, end_call, end_of}
use Rattle.run_rules.specs.Views.{IsLock, IsOpening}
use Rattle.run_parts.specs.Uses.{Locked}
use Rattle.run_contents.proofs.Views.{one_alone}
use Rattle.run_contents.proofs.Words.{both, in_any}
use Rattle.run_rules.specs.declared.applied.Answer.{Answer}
use Rattle.run_rules.specs.declared.step.Labelled.{Labelled}
use Rattle.run_rules.specs.declared.step.Step.{Step}
use Rattle.run_history.proofs.Found.{close_reply, lock_reply, open_reply, unlock_reply}
use Rattle.run_history.proofs.State.{LockedNow, StandsWith, TiedLocks, TiedOpens}
use Rattle.run_history.proofs.Tying.{tied_same, tied_with, tied_without}

-- calls that take or end the label of a lock, of an open file
abbrev minds_locks : Call → Bool
minds_locks (Lock label place writing from len) = true
minds_locks (Unlock label) = true
minds_locks _ = false

abbrev minds_opens : Call → Bool
minds_opens (OpenFile label place kind) = true
minds_opens (CloseFile label) = true
minds_opens _ = false

plain_lock : (call : Call) (u : Labelled) (w : Bool) (span : Span) → minds_locks call ≡ false → IsExact call u
    → u.token.kind ≡ LockToken w span → ⊥
plain_lock (Lock label place writing from len) u w span none x kind = false≢true (sym none)
plain_lock (OpenFile label place k) u w span none x kind =
    let q : Opening k ≡ LockToken w span = sym x.1 ∙ kind in cc
plain_lock _ u w span none x kind = elim x [ ]

plain_open : (call : Call) (u : Labelled) (k : OpenKind) → minds_opens call ≡ false → IsExact call u
    → u.token.kind ≡ Opening k → ⊥
plain_open (OpenFile label place kind) u k none x is = false≢true (sym none)
plain_open (Lock label place writing from len) u k none x is =
    let q : LockToken writing x.1.0 ≡ Opening k = sym x.1.1 ∙ is in cc
plain_open _ u k none x is = elim x [ ]

pub unlocks : (u : Labelled) (w : Bool) (span : Span) → u.token.kind ≡ LockToken w span → end_of u ≡ Unlock u.label
unlocks u w span e = ap (λ (k : Kind). end_call k u.label) e

pub closes : (u : Labelled) (k : OpenKind) → u.token.kind ≡ Opening k → end_of u ≡ CloseFile u.label
closes u k e = ap (λ (k : Kind). end_call k u.label) e

plain_locks_for : (tree : Tree) (host : HostId) (user : User) (call : Call) → minds_locks call ≡ false
    → locks_for tree host call (Some user) ≡ tree.locks
plain_locks_for tree host user (Lock label place writing from len) e = absurd (false≢true (sym e))
plain_locks_for tree host user (Unlock label) e = absurd (false≢true (sym e))
plain_locks_for tree host user _ e = refl

plain_opens_for : (tree : Tree) (host : HostId) (user : User) (call : Call) → minds_opens call ≡ false
    → opens_for tree host call (Some user) ≡ tree.opens
plain_opens_for tree host user (OpenFile label place kind) e = absurd (false≢true (sym e))
plain_opens_for tree host user (CloseFile label) e = absurd (false≢true (sym e))
plain_opens_for tree host user _ e = refl

-- a label is a host's where both are the same
pub is_under : (a b : HostId) (label other : List ℕ) → a ≡ b → label ≡ other
    → ((a.0 == b.0) && same_name label other) ≡ true
is_under a b label other host name =
    both (a.0 == b.0) (same_name label other) (ap (λ (k : HostId). a.0 == k.0) (sym host) ∙ same_number a.0)
    (ap (λ l. same_name label l) (sym name) ∙ same_self label)

pub under_is : (a b : HostId) (label other : List ℕ) → ((a.0 == b.0) && same_name label other) ≡ true
    → (a ≡ b) × (label ≡ other)
under_is a b label other e =
    let p = and_parts (a.0 == b.0) (same_name label other) e in
    (ap (λ (n : ℕ). record { 0 = n }) (eqb-true a.0 b.0 p.0), names_equal label other p.1)

-- of two kinds of lock tokens that are one
lock_parts : (a b : Bool) (x y : Span) → LockToken a x ≡ LockToken b y → (a ≡ b) × (x ≡ y)
lock_parts a b x y e = (cc, cc)

opening_is : (a b : OpenKind) → Opening a ≡ Opening b → a ≡ b
opening_is a b e = cc

-- what a call leaves of the labels: `now` says what is in use then, by what the step begins and ends
module _ (firsts : ServerId → ℕ) (past : List Step) (s : Step) (h : HostId) (tree : Tree)
    (old : StandsWith (Locked firsts past) tree) (a : Answer) (answered : In a s.answers)
    (single : length s.answers ≤ 1)
    (mine : a.host ≡ h) (user : User) (acts_for : user_of tree.roster a.host ≡ Some user)
    (legal : IsLegal tree (call_entry a))
    (begun : (u : Labelled) → In u s.begun → (b : Answer) × In b s.answers × (b.reply ≡ Fine) × IsExact b.call u)
    (one : (u w : Labelled) → In u s.begun → In w s.begun → u ≡ w)
    (takes_lock : (fid : Fid) (writing : Bool) (span : Span) (label : List ℕ) (place : Place) (from len : ℕ)
    → a.call ≡ Lock label place writing from len → a.reply ≡ Fine
    → lock_check tree a.host user label place writing from len ≡ Ok (fid, span)
    → (u : Labelled) × In u s.begun × IsExact a.call u × (u.token.fid ≡ fid) × (u.token.kind ≡ LockToken writing span))
    (takes_open : (fid : Fid) (kind : OpenKind) (label : List ℕ) (place : Place)
    → a.call ≡ OpenFile label place kind → a.reply ≡ Fine → open_check tree a.host user label place kind ≡ Ok fid
    → (u : Labelled) × In u s.begun × IsExact a.call u × (u.token.fid ≡ fid)) where
  abbrev Old : HostId → Labelled → Type 0
  Old = Locked firsts past

  abbrev Now : HostId → Labelled → Type 0
  Now = LockedNow firsts past s (Host h)

  abbrev left : Tree
  left = after_entry tree (call_entry a)

  begun_is : (u : Labelled) → In u s.begun → (a.reply ≡ Fine) × IsExact a.call u
  begun_is u i =
      let b = begun u i in
      let same = one_alone s.answers single b.0 a b.1 answered in
      subst (λ (x : Answer). (x.reply ≡ Fine) × IsExact x.call u) same (b.2, b.3)

  ended_is : (u : Labelled) → EndsUse s u → (a.call ≡ end_of u) × (a.reply ≡ Fine)
  ended_is u e =
      let same = one_alone s.answers single e.0 a e.1 answered in
      subst (λ (x : Answer). (x.call ≡ end_of u) × (x.reply ≡ Fine)) same (e.2, e.3)

  locks_now : left.locks ≡ locks_for tree a.host a.call (Some user)
  locks_now =
      (labels_change_so tree (call_entry a)).locks ∙ ap (λ (o : Option User). locks_for tree a.host a.call o) acts_for

  opens_now : left.opens ≡ opens_for tree a.host a.call (Some user)
  opens_now =
      (labels_change_so tree (call_entry a)).opens ∙ ap (λ (o : Option User). opens_for tree a.host a.call o) acts_for

  -- a call about none leaves all
  same_locks : ((u : Labelled) (w : Bool) (span : Span) → In u s.begun → u.token.kind ≡ LockToken w span → ⊥)
      → ((u : Labelled) (w : Bool) (span : Span) → EndsUse s u → u.token.kind ≡ LockToken w span → ⊥)
      → TiedLocks Now tree.locks
  same_locks none_begun none_ended =
      tied_same (λ (lock : LockUse). lock.host) (λ (lock : LockUse) u. IsLock lock.host lock u) Old Now tree.locks
      old.locks (λ lock u is l. inr (l, λ _ e. none_ended u lock.writing lock.span e is.3))
      (λ lock u is x. elim x [
        | inl m ↦ absurd (none_begun u lock.writing lock.span m.1 is.3)
        | inr y ↦ y.0
      ])

  same_opens : ((u : Labelled) (k : OpenKind) → In u s.begun → u.token.kind ≡ Opening k → ⊥)
      → ((u : Labelled) (k : OpenKind) → EndsUse s u → u.token.kind ≡ Opening k → ⊥) → TiedOpens Now tree.opens
  same_opens none_begun none_ended =
      tied_same (λ (opened : OpenUse). opened.host) (λ (opened : OpenUse) u. IsOpening opened.host opened u) Old Now
      tree.opens old.opens (λ opened u is l. inr (l, λ _ e. none_ended u opened.kind e is.3))
      (λ opened u is x. elim x [
        | inl m ↦ absurd (none_begun u opened.kind m.1 is.3)
        | inr y ↦ y.0
      ])

  plain_lock_side : (call : Call) → a.call ≡ call → minds_locks call ≡ false → TiedLocks Now left.locks
  plain_lock_side call is none =
      subst (TiedLocks Now)
      (sym (locks_now ∙ (ap (λ (k : Call). locks_for tree a.host k (Some user)) is
      ∙ plain_locks_for tree a.host user call none)))
      (same_locks
      (λ u w span i kind. plain_lock call u w span none (subst (λ (k : Call). IsExact k u) is (begun_is u i).1) kind)
      (λ u w span e kind. false≢true (sym none
      ∙ ap minds_locks (sym is ∙ ((ended_is u e).0 ∙ unlocks u w span kind)))))

  plain_open_side : (call : Call) → a.call ≡ call → minds_opens call ≡ false → TiedOpens Now left.opens
  plain_open_side call is none =
      subst (TiedOpens Now)
      (sym (opens_now ∙ (ap (λ (k : Call). opens_for tree a.host k (Some user)) is
      ∙ plain_opens_for tree a.host user call none)))
      (same_opens
      (λ u k i kind. plain_open call u k none (subst (λ (k : Call). IsExact k u) is (begun_is u i).1) kind)
      (λ u k e kind. false≢true (sym none ∙ ap minds_opens (sym is ∙ ((ended_is u e).0 ∙ closes u k kind)))))

  -- a Lock
  module _ (label : List ℕ) (place : Place) (writing : Bool) (from len : ℕ)
      (is : a.call ≡ Lock label place writing from len) where
    abbrev check : Result (Fid × Span) Refusal
    check = lock_check tree a.host user label place writing from len

    reply_so : a.reply ≡ either check (λ found. Fine) (λ refusal. Refused refusal)
    reply_so =
        legal
        ∙ (ap (λ (k : Call). (answer_to tree a.host k).reply) is
        ∙ lock_reply tree a.host user acts_for label place writing from len)

    locks_so : left.locks ≡ either check
        (λ (fid, span).
        let new : LockUse = record { host = a.host; label = label; fid = fid; writing = writing; span = span } in
        insert tree.locks (lock_place tree.locks a.host label) new)
        (λ refusal. tree.locks)
    locks_so = locks_now ∙ ap (λ (k : Call). locks_for tree a.host k (Some user)) is

    never_ended : (u : Labelled) (w : Bool) (span : Span) → EndsUse s u → u.token.kind ≡ LockToken w span → ⊥
    never_ended u w span e kind =
        let q : Lock label place writing from len ≡ Unlock u.label = sym is ∙ ((ended_is u e).0
        ∙ unlocks u w span kind) in
        cc

    taken : (found : Fid × Span) → check ≡ Ok found
        → TiedLocks Now (insert tree.locks (lock_place tree.locks a.host label)
        (record { host = a.host; label = label; fid = found.0; writing = writing; span = found.1 }))
    taken found e =
        tied_with (λ (lock : LockUse). lock.host) (λ (lock : LockUse) u. IsLock lock.host lock u) Old Now tree.locks
        old.locks (lock_place tree.locks a.host label) new k.0 (inl (sym mine, k.1))
        (refl, sym exact.0, sym k.3, k.4)
        (λ lock u w l. inr (l, λ _ x. never_ended u lock.writing lock.span x w.3))
        (λ lock u w x. elim x [ inl m ↦ inl (the_new lock u w m.0 m.1) | inr y ↦ inr y.0 ])
      where
        new : LockUse
        new = record { host = a.host; label = label; fid = found.0; writing = writing; span = found.1 }

        fine : a.reply ≡ Fine
        fine = reply_so ∙ ap (λ (r : Result (Fid × Span) Refusal).
            either r (λ found. Fine) (λ refusal. Refused refusal)) e

        k : (u : Labelled) × In u s.begun × IsExact a.call u × (u.token.fid ≡ found.0)
            × (u.token.kind ≡ LockToken writing found.1)
        k = takes_lock found.0 writing found.1 label place from len is fine e

        exact : IsExact (Lock label place writing from len) k.0
        exact = subst (λ (c : Call). IsExact c k.0) is k.2

        the_new : (lock : LockUse) (u : Labelled) → IsLock lock.host lock u → h ≡ lock.host → In u s.begun → lock ≡ new
        the_new lock u w host m =
            let same : u ≡ k.0 = one u k.0 m k.1 in
            let label_is : lock.label ≡ label = w.1 ∙ (ap (λ (z : Labelled). z.label) same ∙ exact.0) in
            let fid_is : lock.fid ≡ found.0 = w.2 ∙ (ap (λ (z : Labelled). z.token.fid) same ∙ k.3) in
            let parts = lock_parts lock.writing writing lock.span found.1
            (sym w.3 ∙ (ap (λ (z : Labelled). z.token.kind) same ∙ k.4)) in
            let host_is : lock.host ≡ a.host = sym host ∙ sym mine in
            λ i. record {
              host = host_is i;
              label = label_is i;
              fid = fid_is i;
              writing = parts.0 i;
              span = parts.1 i;
            }

    lock_side : TiedLocks Now left.locks
    lock_side = go check refl
      where
        go : (r : Result (Fid × Span) Refusal) → check ≡ r → TiedLocks Now left.locks
        go (Ok found) e =
            subst (TiedLocks Now)
            (sym (locks_so ∙ ap (λ (r : Result (Fid × Span) Refusal). either r
            (λ (fid, span).
            let new : LockUse = record { host = a.host; label = label; fid = fid; writing = writing; span = span } in
            insert tree.locks (lock_place tree.locks a.host label) new)
            (λ refusal. tree.locks)) e))
            (taken found e)
        go (Err refusal) e =
            subst (TiedLocks Now)
            (sym (locks_so ∙ ap (λ (r : Result (Fid × Span) Refusal). either r
            (λ (fid, span).
            let new : LockUse = record { host = a.host; label = label; fid = fid; writing = writing; span = span } in
            insert tree.locks (lock_place tree.locks a.host label) new)
            (λ refusal. tree.locks)) e))
            (same_locks (λ u w span i kind. (
            let q : Refused refusal ≡ Fine =
            sym (reply_so ∙ ap (λ (r : Result (Fid × Span) Refusal). either r (λ found. Fine)
            (λ refusal. Refused refusal)) e)
            ∙ (begun_is u i).0 in
            cc)) never_ended)

  -- an Unlock
  module _ (label : List ℕ) (is : a.call ≡ Unlock label) where
    unlock_side : TiedLocks Now left.locks
    unlock_side =
        subst (TiedLocks Now) (sym (locks_now ∙ ap (λ (k : Call). locks_for tree a.host k (Some user)) is))
        (tied_without (λ (lock : LockUse). lock.host) (λ (lock : LockUse) u. IsLock lock.host lock u) Old Now tree.locks
        old.locks (λ lock. not (is_lock a.host label lock)) stays
        (λ lock u w x. elim x [ inl m ↦ absurd (none_begun u m.1) | inr y ↦ y.0 ]) left_out)
      where
        none_begun : (u : Labelled) → In u s.begun → ⊥
        none_begun u i = elim (subst (λ (k : Call). IsExact k u) is (begun_is u i).1) [ ]

        stays : (lock : LockUse) (u : Labelled) → IsLock lock.host lock u → Old lock.host u
            → In lock tree.locks → not (is_lock a.host label lock) ≡ true → Now lock.host u
        stays lock u w l j test = inr (l, ends)
          where
            ends : h ≡ lock.host → EndsUse s u → ⊥
            ends host e =
                let q : Unlock label ≡ Unlock u.label =
                sym is ∙ ((ended_is u e).0 ∙ unlocks u lock.writing lock.span w.3) in
                let name : label ≡ u.label = cc in
                false≢true (sym (ap not (is_under lock.host a.host lock.label label (sym host ∙ sym mine)
                (w.1 ∙ sym name))) ∙ test)

        left_out : (lock : LockUse) (u : Labelled) → IsLock lock.host lock u → Now lock.host u → In lock tree.locks
            → not (is_lock a.host label lock) ≡ true
        left_out lock u w (inl m) j = absurd (none_begun u m.1)
        left_out lock u w (inr y) j = go (is_lock a.host label lock) refl
          where
            go : (b : Bool) → is_lock a.host label lock ≡ b → not b ≡ true
            go false e = refl
            go true e =
                let p = under_is lock.host a.host lock.label label e in
                let fine : a.reply ≡ Fine =
                legal
                ∙ (ap (λ (k : Call). (answer_to tree a.host k).reply) is
                ∙ unlock_reply tree a.host user acts_for label (in_any (is_lock a.host label) tree.locks lock j e)) in
                absurd (y.1 (sym mine ∙ sym p.0) (
                  a,
                  answered,
                  is ∙ (ap Unlock (sym p.1 ∙ w.1) ∙ sym (unlocks u lock.writing lock.span w.3)),
                  fine,
                ))

  -- an OpenFile
  module _ (label : List ℕ) (place : Place) (kind : OpenKind) (is : a.call ≡ OpenFile label place kind) where
    abbrev opening : Result Fid Refusal
    opening = open_check tree a.host user label place kind

    reply_of_open : a.reply ≡ either opening (λ found. Fine) (λ refusal. Refused refusal)
    reply_of_open =
        legal
        ∙ (ap (λ (k : Call). (answer_to tree a.host k).reply) is
        ∙ open_reply tree a.host user acts_for label place kind)

    opens_so : left.opens ≡ either opening
        (λ fid.
        let new : OpenUse = record { host = a.host; label = label; fid = fid; kind = kind } in
        insert tree.opens (open_place tree.opens a.host label) new)
        (λ refusal. tree.opens)
    opens_so = opens_now ∙ ap (λ (k : Call). opens_for tree a.host k (Some user)) is

    never_closed : (u : Labelled) (k : OpenKind) → EndsUse s u → u.token.kind ≡ Opening k → ⊥
    never_closed u k e kind_is =
        let q : OpenFile label place kind ≡ CloseFile u.label = sym is ∙ ((ended_is u e).0 ∙ closes u k kind_is) in
        cc

    opened_one : (found : Fid) → opening ≡ Ok found
        → TiedOpens Now (insert tree.opens (open_place tree.opens a.host label)
        (record { host = a.host; label = label; fid = found; kind = kind }))
    opened_one found e =
        tied_with (λ (opened : OpenUse). opened.host) (λ (opened : OpenUse) u. IsOpening opened.host opened u) Old Now
        tree.opens old.opens (open_place tree.opens a.host label) new k.0 (inl (sym mine, k.1))
        (refl, sym exact.0, sym k.3, exact.1)
        (λ opened u w l. inr (l, λ _ x. never_closed u opened.kind x w.3))
        (λ opened u w x. elim x [ inl m ↦ inl (the_new opened u w m.0 m.1) | inr y ↦ inr y.0 ])
      where
        new : OpenUse
        new = record { host = a.host; label = label; fid = found; kind = kind }

        fine : a.reply ≡ Fine
        fine = reply_of_open ∙ ap (λ (r : Result Fid Refusal).
            either r (λ found. Fine) (λ refusal. Refused refusal)) e

        k : (u : Labelled) × In u s.begun × IsExact a.call u × (u.token.fid ≡ found)
        k = takes_open found kind label place is fine e

        exact : IsExact (OpenFile label place kind) k.0
        exact = subst (λ (c : Call). IsExact c k.0) is k.2

        the_new : (opened : OpenUse) (u : Labelled) → IsOpening opened.host opened u → h ≡ opened.host → In u s.begun
            → opened ≡ new
        the_new opened u w host m =
            let same : u ≡ k.0 = one u k.0 m k.1 in
            let label_is : opened.label ≡ label = w.1 ∙ (ap (λ (z : Labelled). z.label) same ∙ exact.0) in
            let fid_is : opened.fid ≡ found = w.2 ∙ (ap (λ (z : Labelled). z.token.fid) same ∙ k.3) in
            let kind_is = opening_is opened.kind kind
            (sym w.3 ∙ (ap (λ (z : Labelled). z.token.kind) same ∙ exact.1)) in
            let host_is : opened.host ≡ a.host = sym host ∙ sym mine in
            λ i. record { host = host_is i; label = label_is i; fid = fid_is i; kind = kind_is i }

    open_side : TiedOpens Now left.opens
    open_side = go opening refl
      where
        go : (r : Result Fid Refusal) → opening ≡ r → TiedOpens Now left.opens
        go (Ok found) e =
            subst (TiedOpens Now)
            (sym (opens_so ∙ ap (λ (r : Result Fid Refusal). either r
            (λ fid.
            let new : OpenUse = record { host = a.host; label = label; fid = fid; kind = kind } in
            insert tree.opens (open_place tree.opens a.host label) new)
            (λ refusal. tree.opens)) e))
            (opened_one found e)
        go (Err refusal) e =
            subst (TiedOpens Now)
            (sym (opens_so ∙ ap (λ (r : Result Fid Refusal). either r
            (λ fid.
            let new : OpenUse = record { host = a.host; label = label; fid = fid; kind = kind } in
            insert tree.opens (open_place tree.opens a.host label) new)
            (λ refusal. tree.opens)) e))
            (same_opens (λ u k i kind_is. (
            let q : Refused refusal ≡ Fine =
            sym (reply_of_open ∙ ap (λ (r : Result Fid Refusal). either r (λ found. Fine)
            (λ refusal. Refused refusal)) e)
            ∙ (begun_is u i).0 in
            cc)) never_closed)

  -- a CloseFile
  module _ (label : List ℕ) (is : a.call ≡ CloseFile label) where
    close_side : TiedOpens Now left.opens
    close_side =
        subst (TiedOpens Now) (sym (opens_now ∙ ap (λ (k : Call). opens_for tree a.host k (Some user)) is))
        (tied_without (λ (opened : OpenUse). opened.host) (λ (opened : OpenUse) u. IsOpening opened.host opened u) Old
        Now
        tree.opens old.opens (λ opened. not (is_open a.host label opened)) stays
        (λ opened u w x. elim x [ inl m ↦ absurd (none_begun u m.1) | inr y ↦ y.0 ]) left_out)
      where
        none_begun : (u : Labelled) → In u s.begun → ⊥
        none_begun u i = elim (subst (λ (k : Call). IsExact k u) is (begun_is u i).1) [ ]

        stays : (opened : OpenUse) (u : Labelled) → IsOpening opened.host opened u → Old opened.host u
            → In opened tree.opens → not (is_open a.host label opened) ≡ true → Now opened.host u
        stays opened u w l j test = inr (l, ends)
          where
            ends : h ≡ opened.host → EndsUse s u → ⊥
            ends host e =
                let q : CloseFile label ≡ CloseFile u.label =
                sym is ∙ ((ended_is u e).0 ∙ closes u opened.kind w.3) in
                let name : label ≡ u.label = cc in
                false≢true (sym (ap not (is_under opened.host a.host opened.label label (sym host ∙ sym mine)
                (w.1 ∙ sym name))) ∙ test)

        left_out : (opened : OpenUse) (u : Labelled) → IsOpening opened.host opened u → Now opened.host u
            → In opened tree.opens → not (is_open a.host label opened) ≡ true
        left_out opened u w (inl m) j = absurd (none_begun u m.1)
        left_out opened u w (inr y) j = go (is_open a.host label opened) refl
          where
            go : (b : Bool) → is_open a.host label opened ≡ b → not b ≡ true
            go false e = refl
            go true e =
                let p = under_is opened.host a.host opened.label label e in
                let fine : a.reply ≡ Fine =
                legal
                ∙ (ap (λ (k : Call). (answer_to tree a.host k).reply) is
                ∙ close_reply tree a.host user acts_for label (in_any (is_open a.host label) tree.opens opened j e)) in
                absurd (y.1 (sym mine ∙ sym p.0) (
                  a,
                  answered,
                  is ∙ (ap CloseFile (sym p.1 ∙ w.1) ∙ sym (closes u opened.kind w.3)),
                  fine,
                ))

  pub stands_left : StandsWith Now left
  stands_left = record {
    locks = locks_by a.call refl;
    opens = opens_by a.call refl;
    agree = uses_keep_agreeing.entry tree (call_entry a) old.agree;
  }
    where
      locks_by : (call : Call) → a.call ≡ call → TiedLocks Now left.locks
      locks_by (Lock label place writing from len) is = lock_side label place writing from len is
      locks_by (Unlock label) is = unlock_side label is
      locks_by call is = plain_lock_side _ is refl

      opens_by : (call : Call) → a.call ≡ call → TiedOpens Now left.opens
      opens_by (OpenFile label place kind) is = open_side label place kind is
      opens_by (CloseFile label) is = close_side label is
      opens_by call is = plain_open_side _ is refl
