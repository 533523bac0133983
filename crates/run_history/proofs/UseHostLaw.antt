-- In every run: what a host that answers knows of labels, and what it leaves of them.
use Rattle.std.proofs.Common.{List, Ok, Some, ap, arith, inl, inr, length, refl, subst, suc, sym, ℕ, ◌<◌, ◌≤◌, ◌∙◌}
use Rattle.std.proofs.Common.{◌∷◌, ◌≡◌}
use Rattle.std.specs.Prelude.{Bool, [], count_by, map, max, ◌==◌}
use Rattle.base_types.specs.declared.ids.Fid.{Fid}
use Rattle.base_types.specs.declared.ids.FilesetId.{FilesetId}
use Rattle.base_types.specs.declared.ids.HostId.{HostId}
use Rattle.base_types.specs.declared.ids.Node.{Node}
use Rattle.base_types.specs.declared.ids.Node.TheVariants.{Host}
use Rattle.base_types.specs.declared.ids.OpenKind.{OpenKind}
use Rattle.base_types.specs.declared.ids.ServerId.{ServerId}
use Rattle.base_types.specs.declared.span.Span.{Span}
use Rattle.base_types.specs.declared.user.User.{User}
use Rattle.tree_calls.specs.Rosters.{user_of}
use Rattle.tree_calls.specs.declared.call.Call.{Call}
use Rattle.tree_calls.specs.declared.call.Call.TheVariants.{Lock, OpenFile}
use Rattle.tree_calls.specs.declared.place.Place.{Place}
use Rattle.tree_calls.specs.declared.reply.Reply.{Reply}
use Rattle.tree_calls.specs.declared.reply.Reply.TheVariants.{Ok as Fine}
use Rattle.tree_calls.specs.declared.roster.Roster.{Roster}
use Rattle.tree_filesets.specs.declared.fileset.Fileset.{Fileset}
use Rattle.need_host.specs.Calls.{call_look, reply_now}
use Rattle.need_host.specs.Laws.{AgreeUnder}
use Rattle.need_host.specs.Looks.{IsCovered, outcome, tree_view}
use Rattle.tree_answers.specs.Finding.{fileset_named}
use Rattle.tree_answers.specs.Histories.{IsLegal, after_history}
use Rattle.tree_answers.specs.Locks.{lock_check}
use Rattle.tree_answers.specs.Opens.{open_check}
use Rattle.tree_answers.specs.Uses.{label_before}
use Rattle.tree_answers.specs.declared.tree.LockUse.{LockUse}
use Rattle.tree_answers.specs.declared.tree.OpenUse.{OpenUse}
use Rattle.tree_answers.specs.declared.tree.Tree.{Tree}
use Rattle.tree_laws.specs.Labels.{each_two, locks_agree, opens_agree}
use Rattle.script_lines.specs.declared.script.Script.{Script}
use Rattle.token_types.specs.declared.token.Kind.TheVariants.{Lock as LockToken}
use Rattle.run_rules.specs.HostMay.{IsExact}
use Rattle.run_rules.specs.Past.{Always, In}
use Rattle.run_rules.specs.Runs.{StepMeets, StepsMeet, call_entry, firsts_of, past_of}
use Rattle.run_rules.specs.Steps.{steps_of_host}
use Rattle.run_rules.specs.Tokens.{EndsUse}
use Rattle.run_rules.specs.Views.{IsLock, IsOpening, sees as host_sees}
use Rattle.run_tokens.specs.TokenLaws.{IsTokenRun}
use Rattle.run_history.proofs.Knowing.{agrees}
use Rattle.run_history.specs.Agreement.{AgreesAt}
use Rattle.run_parts.specs.Uses.{Locked}
use Rattle.run_parts.proofs.PlaceLaw.{coherent}
use Rattle.run_parts.specs.Contents.{Contents}
use Rattle.run_parts.specs.Legal.{ContentsRun, LegalStep}
use Rattle.run_contents.proofs.DeedSteps.{runs_meet}
use Rattle.run_contents.proofs.Uses.{run_tokens}
use Rattle.run_contents.specs.Steps.{IsOfJournal}
use Rattle.run_rules.specs.declared.applied.Answer.{Answer}
use Rattle.run_rules.specs.declared.step.Labelled.{Labelled}
use Rattle.run_rules.specs.declared.step.Step.{Step}
use Rattle.run_history.proofs.Found.{lock_at, lock_verdict, open_at, open_verdict}
use Rattle.run_history.proofs.HostStep.{stands_left}
use Rattle.run_history.proofs.UseKnowing.{met, uses_at}
use Rattle.run_history.proofs.State.{LockedNow, StandsWith, of_stand, stand_after}
use Rattle.run_history.proofs.Tying.{tied_same}
use Rattle.run_history.specs.HostLaws.{HostsKnowLabels, HostsLeaveLabels, KnowsLabels, LabelsAreOfUses, LabelsBegin}
use Rattle.run_history.specs.HostLaws.{LeavesLabels}
use Rattle.run_history.specs.UseStanding.{LabelsStand}

pub labels_are_of_uses : LabelsAreOfUses
labels_are_of_uses firsts past a b locks opens x = record {
  locks = λ lock. (
    λ i. (x.locks lock).0 (subst (In lock) (sym locks) i),
    λ k. subst (In lock) locks ((x.locks lock).1 k),
  );
  opens = λ opened. (
    λ i. (x.opens opened).0 (subst (In opened) (sym opens) i),
    λ k. subst (In opened) opens ((x.opens opened).1 k),
  );
  agree = record {
    locks = ap (λ ls. each_two locks_agree ls) (sym locks) ∙ x.agree.locks;
    lock_order = ap (λ ls. each_two (λ (l k : LockUse). label_before l.host l.label k.host k.label) ls) (sym locks)
        ∙ x.agree.lock_order;
    lock_limit = λ host. subst (λ (ls : List LockUse). count_by (λ (l : LockUse). l.host.0 == host.0) ls ≤ 64) locks
        (x.agree.lock_limit host);
    opens = ap (λ os. each_two opens_agree os) (sym opens) ∙ x.agree.opens;
    open_order = ap (λ os. each_two (λ (o k : OpenUse). label_before o.host o.label k.host k.label) os) (sym opens)
        ∙ x.agree.open_order;
    open_limit = λ host. subst (λ (os : List OpenUse). count_by (λ (o : OpenUse). o.host.0 == host.0) os ≤ 64) opens
        (x.agree.open_limit host);
  };
}

-- at the start nothing is in use
none_locked : (firsts : ServerId → ℕ) (tree : Tree) → tree.locks ≡ [] → tree.opens ≡ [] → LabelsStand firsts [] tree
none_locked firsts tree locks opens =
    labels_are_of_uses firsts [] (record tree { locks = []; opens = [] }) tree (sym locks) (sym opens) (record {
      locks = λ lock. (λ i. elim i [ ], λ k. elim k.1 [ ]);
      opens = λ opened. (λ i. elim i [ ], λ k. elim k.1 [ ]);
      agree = record {
        locks = refl;
        lock_order = refl;
        lock_limit = λ host. omega arith;
        opens = refl;
        open_order = refl;
        open_limit = λ host. omega arith;
      };
    })

pub labels_begin : LabelsBegin
labels_begin script journal run = none_locked (firsts_of journal) run.start run.valid.locks run.valid.opens

pub from_one : (n : ℕ) → 0 < max 1 n
from_one n = omega arith

module _ (script : Script) (start : Tree) (firsts : ServerId → ℕ) (real : (v : ServerId) → 0 < firsts v) where
  each_knows : (past : List Step) → StepsMeet script start firsts past → Always (KnowsLabels script firsts) past
  each_knows [] run = tt
  each_knows (s ∷ past) run = (
    each_knows past run.0,
    λ h tree node stands a i. uses_at script start firsts real past s run h node a i tree stands,
  )

pub hosts_know : HostsKnowLabels
hosts_know script journal run =
    each_knows script run.start (firsts_of journal) (λ v. from_one _) (past_of journal) run.steps

-- a host's step, and a tree that agrees with the run before it
module _ (script : Script) (start : Tree) (firsts : ServerId → ℕ) (real : (v : ServerId) → 0 < firsts v) (c : Contents)
    (same : IsOfJournal c) (past : List Step) (s : Step) (run : StepsMeet script start firsts (s ∷ past)) (h : HostId)
    (node : s.node ≡ Host h) (legal : LegalStep c firsts (Host h) s past) (tree : Tree)
    (stands : LabelsStand firsts past tree) where
  abbrev A : List Step
  A = steps_of_host h past

  m : StepMeets script start firsts (Host h) past s
  m = met script start firsts real past s run h node

  module _ (a : Answer) (i : In a s.answers) (agree : AgreesAt script.roster c past h s tree)
      (legal_entry : IsLegal tree (call_entry a)) where
    abbrev user : User
    user = m.0.stance.user

    mine : a.host ≡ h
    mine = (m.0.answers.answers a i).0

    acts_for : user_of tree.roster h ≡ Some user
    acts_for = ap (λ (r : Roster). user_of r h) agree.roster_is ∙ m.0.stance.acts_for

    under : AgreeUnder m.0.stance.held (host_sees A s) (tree_view tree)
    under = agrees script start firsts c same past run.0 h s m tree agree.formed agree.cells legal

    seen : (server : ServerId) (name : List ℕ) (id : FilesetId) → m.0.stance.own.seen server name ≡ Some id
        → (fileset : Fileset) × (fileset_named tree server name ≡ Ok fileset) × (fileset.id ≡ id)
    seen server name id e = agree.names server name id ((m.0.stance.knows.seen server name id).0 e)

    abbrev Settled : Call → Reply → Type 0
    Settled call reply =
        (reply_now (outcome (host_sees A s) (call_look m.0.stance.own h user call)) ≡ Some reply)
        × IsCovered m.0.stance.held (host_sees A s) (call_look m.0.stance.own h user call)

    settled : Settled a.call a.reply
    settled = ((m.0.answers.answers a i).2.settled, (m.0.answers.answers a i).2.covered)

    settled_so : (call : Call) → a.call ≡ call → a.reply ≡ Fine → Settled call Fine
    settled_so call is fine =
        subst (λ (x : Call × Reply). Settled x.0 x.1) (λ j. (is j, fine j)) settled

    takes_lock : (fid : Fid) (writing : Bool) (span : Span) (label : List ℕ) (place : Place) (from len : ℕ)
        → a.call ≡ Lock label place writing from len → a.reply ≡ Fine
        → lock_check tree a.host user label place writing from len ≡ Ok (fid, span)
        → (u : Labelled) × In u s.begun × IsExact a.call u × (u.token.fid ≡ fid)
        × (u.token.kind ≡ LockToken writing span)
    takes_lock fid writing span label place from len is fine check =
        let k = settled_so (Lock label place writing from len) is fine in
        let at = lock_at tree h user label place writing from len (fid, span)
        (subst (λ (g : HostId). lock_check tree g user label place writing from len ≡ Ok (fid, span)) mine check) in
        m.0.answers.locks a fid writing span i
        (ap (λ (call : Call). outcome (host_sees A s) (call_look m.0.stance.own h user call)) is
        ∙ lock_verdict tree agree.formed m.0.stance.held (host_sees A s) under m.0.stance.own h user seen place
        writing from
        len (fid, span) at label k.0 k.1)

    takes_open : (fid : Fid) (kind : OpenKind) (label : List ℕ) (place : Place)
        → a.call ≡ OpenFile label place kind → a.reply ≡ Fine → open_check tree a.host user label place kind ≡ Ok fid
        → (u : Labelled) × In u s.begun × IsExact a.call u × (u.token.fid ≡ fid)
    takes_open fid kind label place is fine check =
        let k = settled_so (OpenFile label place kind) is fine in
        let at = open_at tree h user label place kind fid
        (subst (λ (g : HostId). open_check tree g user label place kind ≡ Ok fid) mine check) in
        m.0.answers.opens a fid kind i
        (ap (λ (call : Call). outcome (host_sees A s) (call_look m.0.stance.own h user call)) is
        ∙ open_verdict tree agree.formed m.0.stance.held (host_sees A s) under m.0.stance.own h user seen place kind
        fid at
        label k.0 k.1)

    answer_left : StandsWith (LockedNow firsts past s (Host h)) (after_history tree (call_entry a ∷ []))
    answer_left =
        stands_left firsts past s h tree (of_stand firsts past tree stands) a i m.0.answers.answers_one mine user
        (ap (λ (g : HostId). user_of tree.roster g) mine ∙ acts_for) legal_entry
        (λ u j. let b = m.0.answers.begins u j in (b.0, b.1, b.2, b.3)) m.0.answers.begins_one takes_lock takes_open

  -- where nothing is answered nothing begins or ends
  none_left : s.answers ≡ [] → StandsWith (LockedNow firsts past s (Host h)) tree
  none_left none = record {
    locks = tied_same (λ (lock : LockUse). lock.host) (λ (lock : LockUse) u. IsLock lock.host lock u)
        (Locked firsts past) (LockedNow firsts past s (Host h)) tree.locks stands.locks
        (λ lock u is l. inr (l, λ _ e. no_end u e)) (λ lock u is x. elim x [
          | inl k ↦ absurd (no_begin u k.1)
          | inr y ↦ y.0
        ]);
    opens = tied_same (λ (opened : OpenUse). opened.host) (λ (opened : OpenUse) u. IsOpening opened.host opened u)
        (Locked firsts past) (LockedNow firsts past s (Host h)) tree.opens stands.opens
        (λ opened u is l. inr (l, λ _ e. no_end u e)) (λ opened u is x. elim x [
          | inl k ↦ absurd (no_begin u k.1)
          | inr y ↦ y.0
        ]);
    agree = stands.agree;
  }
    where
      no_answer : (a : Answer) → In a s.answers → ⊥
      no_answer a i = elim (subst (In a) none i) [ ]

      no_begin : (u : Labelled) → In u s.begun → ⊥
      no_begin u j = let b = m.0.answers.begins u j in no_answer b.0 b.1

      no_end : (u : Labelled) → EndsUse s u → ⊥
      no_end u e = no_answer e.0 e.1

  pub leaves : ((a : Answer) → In a s.answers → AgreesAt script.roster c past h s tree × IsLegal tree (call_entry a))
      → LabelsStand firsts (s ∷ past) (after_history tree (map call_entry s.answers))
  leaves agree = go s.answers refl m.0.answers.answers_one
    where
      go : (xs : List Answer) → s.answers ≡ xs → length s.answers ≤ 1
          → LabelsStand firsts (s ∷ past) (after_history tree (map call_entry xs))
      go [] e le = stand_after firsts past s (Host h) tree node (none_left e)
      go (a ∷ []) e le =
          let i : In a s.answers = subst (In a) (sym e) (inl refl) in
          let k = agree a i in
          stand_after firsts past s (Host h) (after_history tree (call_entry a ∷ [])) node (answer_left a i k.0 k.1)
      go (a ∷ b ∷ xs) e le =
          let two : length s.answers ≡ suc (suc (length xs)) = ap length e in absurd (omega (arith, two, le))

module _ (script : Script) (start : Tree) (firsts : ServerId → ℕ) (real : (v : ServerId) → 0 < firsts v) (c : Contents)
    (same : IsOfJournal c) where
  each_leaves : (past : List Step) → StepsMeet script start firsts past → IsTokenRun firsts past
      → ContentsRun c firsts past → Always (LeavesLabels c script firsts) past
  each_leaves [] run tokens rules = tt
  each_leaves (s ∷ past) run tokens rules = (
    each_leaves past run.0 tokens.0 rules.0,
    λ h tree node stands agree. leaves script start firsts real c same past s run h node
        (subst (λ (n : Node). LegalStep c firsts n s past) node (coherent c firsts (s ∷ past) tokens rules).1.1) tree
        stands agree,
  )

pub hosts_leave : HostsLeaveLabels
hosts_leave script journal run c of_run =
    each_leaves script run.start (firsts_of journal) (λ v. from_one _) c of_run.hosts (past_of journal) run.steps
    (run_tokens script journal run) (runs_meet script journal run c of_run)
