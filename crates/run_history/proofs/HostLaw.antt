-- In every run hosts answer legally, on each tree that agrees with the run.
use Rattle.std.proofs.Common.{Bool, Err, List, None, Ok, Option, Result, Some, ap, false, nat_le, not, refl, subst}
use Rattle.std.proofs.Common.{sym, true, ℕ, ◌&&◌, ◌+◌, ◌==◌, ◌||◌, ◌∙◌, ◌∷◌, ◌≡◌}
use Rattle.std.proofs.lemmas.Bool.{and_parts, false≢true}
use Rattle.std.specs.List.{list_any}
use Rattle.std.specs.Prelude.{[], if◌then◌else◌}
use Rattle.base_types.specs.Ids.{same_fid}
use Rattle.base_types.specs.Opens.{opens_conflict}
use Rattle.base_types.specs.Outcomes.{either}
use Rattle.base_types.specs.Spans.{overlap}
use Rattle.base_types.specs.declared.ids.Fid.{Fid}
use Rattle.base_types.specs.declared.ids.FilesetId.{FilesetId}
use Rattle.base_types.specs.declared.ids.HostId.{HostId}
use Rattle.base_types.specs.declared.ids.Node.{Node}
use Rattle.base_types.specs.declared.ids.Node.TheVariants.{Host, Server}
use Rattle.base_types.specs.declared.ids.OpenKind.{OpenKind}
use Rattle.base_types.specs.declared.ids.ServerId.{ServerId}
use Rattle.base_types.specs.declared.limits.TheConstants.{LABELS_MAX}
use Rattle.base_types.specs.declared.span.Span.{Span}
use Rattle.base_types.specs.declared.user.User.{User}
use Rattle.tree_calls.specs.declared.call.Call.{Call}
use Rattle.tree_calls.specs.declared.call.Call.TheVariants.{Lock as LockCall, OpenFile}
use Rattle.tree_calls.specs.declared.reply.Refusal.{Refusal}
use Rattle.tree_calls.specs.declared.reply.Refusal.TheVariants.{AlreadyLocked, AlreadyOpened, TooMany}
use Rattle.tree_calls.specs.declared.reply.Reply.TheVariants.{Refused}
use Rattle.tree_filesets.specs.Rights.{read_right, write_right}
use Rattle.tree_filesets.specs.Uses.{is_changing, right_to_open}
use Rattle.need_host.proofs.Rows.{outcome_judged}
use Rattle.need_host.specs.Calls.{Own, Verdict, refuse, call_look, from_root, lock_for, lock_look, open_for}
use Rattle.need_host.specs.Calls.{open_look}
use Rattle.need_host.specs.Calls.Verdict.{Asks, Locks, Opens, Replies}
use Rattle.need_host.specs.Looks.{View, checked, outcome}
use Rattle.need_host.specs.Questions.Question.{EnterAt}
use Rattle.need_host.specs.Walks.{root_of, use_look}
use Rattle.tree_objects.specs.Spans.{span_between}
use Rattle.tree_answers.specs.Answers.{answer_to}
use Rattle.tree_answers.specs.Histories.{IsLegal, after_entry}
use Rattle.tree_answers.specs.Locks.{covers, has_lock, is_excluded, lock_count}
use Rattle.tree_answers.specs.Opens.{has_open, is_barred, open_count}
use Rattle.tree_answers.specs.declared.tree.LockUse.{LockUse}
use Rattle.tree_answers.specs.declared.tree.OpenUse.{OpenUse}
use Rattle.tree_answers.specs.declared.tree.Tree.{Tree}
use Rattle.script_lines.specs.declared.script.Script.{Script}
use Rattle.token_types.specs.Conflicts.{kinds_conflict}
use Rattle.token_types.specs.declared.token.Kind.TheVariants.{Lock as LockToken, Opening}
use Rattle.tree_laws.proofs.Steps.{fid_is, same_number}
use Rattle.tree_laws.specs.Fates.{is_of}
use Rattle.tree_laws.specs.Parts.{Cell, Part, Seen, cell_at}
use Rattle.run_rules.specs.Doings.{doings_of}
use Rattle.run_rules.specs.HostMay.{IsExact}
use Rattle.run_rules.specs.Past.{Always, In}
use Rattle.run_rules.specs.Runs.{StepMeets, StepsMeet, call_entry, firsts_of, past_of}
use Rattle.run_rules.specs.Steps.{steps_of_host}
use Rattle.run_rules.specs.Views.{IsClean, sees as host_sees, verdict_in}
use Rattle.run_tokens.specs.TokenLaws.{IsTokenRun}
use Rattle.run_history.proofs.Answering.{SameLabels, cells_left, reply_is}
use Rattle.run_history.proofs.Knowing.{is_clean}
use Rattle.run_history.proofs.Labels.{same_labels}
use Rattle.run_history.specs.Agreement.{AgreesAt, AnswersLegally, HostsAnswerLegally}
use Rattle.run_parts.proofs.PlaceLaw.{Kept, coherent}
use Rattle.run_parts.specs.Cells.{written}
use Rattle.run_parts.specs.Contents.{Contents}
use Rattle.run_parts.specs.Legal.{ContentsRun, LegalStep, tree, tree_after}
use Rattle.run_contents.proofs.DeedSteps.{runs_meet}
use Rattle.run_contents.proofs.Uses.{run_tokens}
use Rattle.run_contents.proofs.Words.{any_in, both}
use Rattle.run_contents.specs.Steps.{IsOfJournal}
use Rattle.run_tokens.proofs.Law.{Whole, always}
use Rattle.run_tokens.proofs.Words.{acts_after, own_after}
use Rattle.run_rules.specs.declared.applied.Answer.{Answer}
use Rattle.run_rules.specs.declared.step.Labelled.{Labelled}
use Rattle.run_rules.specs.declared.step.Step.{Step}

pub any_false : {X : Type 0} (test : X → Bool) (xs : List X) → ((x : X) → In x xs → test x ≡ true → ⊥)
    → list_any test xs ≡ false
any_false test xs never = go (list_any test xs) refl
  where
    go : (b : Bool) → list_any test xs ≡ b → list_any test xs ≡ false
    go true e = let x = any_in test xs e in absurd (never x.0 x.1 x.2)
    go false e = e

pub two_hosts : (a b : HostId) → not (a.0 == b.0) ≡ true → a ≡ b → ⊥
two_hosts a b e same =
    false≢true (sym (ap not (ap (λ (k : HostId). k.0 == b.0) same ∙ same_number b.0)) ∙ e)

-- an open file that begins is of the kind of its call
open_judged : (r : Result Fid Refusal) (fid : Fid) (kind other : OpenKind)
    → either r (λ f. Opens f other) (λ refusal. Replies (Refused refusal)) ≡ Opens fid kind → other ≡ kind
open_judged (Ok f) fid kind other e = let q : Opens f other ≡ Opens fid kind = e in cc
open_judged (Err refusal) fid kind other e = absurd (let q : Replies (Refused refusal) ≡ Opens fid kind = e in cc)

lock_judged : (r : Result Fid Refusal) (fid : Fid) (kind : OpenKind) (writing : Bool) (span : Span)
    → either r (λ f. Locks f writing span) (λ refusal. Replies (Refused refusal)) ≡ Opens fid kind → ⊥
lock_judged (Ok f) fid kind writing span e = let q : Locks f writing span ≡ Opens fid kind = e in cc
lock_judged (Err refusal) fid kind writing span e = let q : Replies (Refused refusal) ≡ Opens fid kind = e in cc

module _ (view : View) (own : Own) (h : HostId) (user : User) (u : Labelled) (fid : Fid) (kind : OpenKind) where
  open_row : (has full : Bool) (server : ServerId) (o : Option FilesetId) (path : List (List ℕ)) (other : OpenKind)
      → outcome view (if has then refuse AlreadyOpened else if full then refuse TooMany
      else from_root server o (λ root. open_look user root path other)) ≡ Opens fid kind → other ≡ kind
  unfolding open_look
  open_row true full server o path other e =
      absurd (let q : Replies (Refused AlreadyOpened) ≡ Opens fid kind = e in cc)
  open_row false true server o path other e =
      absurd (let q : Replies (Refused TooMany) ≡ Opens fid kind = e in cc)
  open_row false false server None path other e = absurd (let q : Asks (EnterAt server) ≡ Opens fid kind = e in cc)
  open_row false false server (Some id) path other e =
      let look = checked (use_look user (root_of id) path (is_changing other) (right_to_open other)) (open_for other) in
      open_judged (outcome view look) fid kind other
      (sym (outcome_judged view look (λ f. Opens f other)) ∙ e)

  lock_row : (has full : Bool) (server : ServerId) (o : Option FilesetId) (path : List (List ℕ)) (writing : Bool)
      (from len : ℕ)
      → outcome view (if has then refuse AlreadyLocked else if full then refuse TooMany
      else from_root server o (λ root. lock_look own h user root path writing from len)) ≡ Opens fid kind → ⊥
  unfolding lock_look
  lock_row true full server o path writing from len e =
      let q : Replies (Refused AlreadyLocked) ≡ Opens fid kind = e in cc
  lock_row false true server o path writing from len e =
      let q : Replies (Refused TooMany) ≡ Opens fid kind = e in cc
  lock_row false false server None path writing from len e =
      let q : Asks (EnterAt server) ≡ Opens fid kind = e in cc
  lock_row false false server (Some id) path writing from len e =
      let look = checked (use_look user (root_of id) path writing (if writing then write_right else read_right))
      (lock_for own h writing from len) in
      lock_judged (outcome view look) fid kind writing (span_between from (from + len))
      (sym (outcome_judged view look (λ f. Locks f writing (span_between from (from + len)))) ∙ e)

  exact_call : (call : Call) → IsExact call u → outcome view (call_look own h user call) ≡ Opens fid kind
      → u.token.kind ≡ Opening kind
  unfolding call_look
  exact_call (OpenFile label place other) x v =
      x.1 ∙ ap Opening (open_row (has_open own.opens h label) (nat_le LABELS_MAX (open_count own.opens h)) place.server
      (own.seen place.server place.fileset) place.path other v)
  exact_call (LockCall label place writing from len) x v =
      absurd (lock_row (has_lock own.locks h label) (nat_le LABELS_MAX (lock_count own.locks h)) place.server
      (own.seen place.server place.fileset) place.path writing from len v)
  exact_call _ x v = elim x [ ]

exact_open : (view : View) (own : Own) (h : HostId) (user : User) (u : Labelled) (fid : Fid) (kind : OpenKind)
    (call : Call) → IsExact call u → outcome view (call_look own h user call) ≡ Opens fid kind
    → u.token.kind ≡ Opening kind
exact_open view own h user u fid kind call x v = exact_call view own h user u fid kind call x v

module _ (script : Script) (start : Tree) (firsts : ServerId → ℕ) (c : Contents) (same : IsOfJournal c)
    (past : List Step) (run : StepsMeet script start firsts past) (h : HostId) (s : Step)
    (m : StepMeets script start firsts (Host h) past s) (tree_is : Tree)
    (agree : AgreesAt script.roster c past h s tree_is) (kept : Kept c firsts past)
    (whole : Whole (λ k. own_after k (Host h) s (steps_of_host k past)) (λ v. doings_of (firsts v) v past))
    (legal : LegalStep c firsts (Host h) s past) where
  abbrev A : List Step
  A = steps_of_host h past

  clean : (f : Fid) → IsClean A s f → (p : Part) → is_of h (cell_at tree_is f p).unsaved ≡ false
  clean = is_clean script start firsts c same past run h s m tree_is agree.formed agree.cells kept whole legal

  labels : SameLabels m.0.stance.own h tree_is
  labels = same_labels m.0.stance.own h tree_is agree.uses m.0.stance.knows.locks_once m.0.stance.knows.opens_once
      (λ x. (
        λ i. (agree.locks x).1 ((m.0.stance.knows.locks x).0 i),
        λ k. (m.0.stance.knows.locks x).1 ((agree.locks x).0 k),
      ))
      (λ x. (
        λ i. (agree.opens x).1 ((m.0.stance.knows.opens x).0 i),
        λ k. (m.0.stance.knows.opens x).1 ((agree.opens x).0 k),
      ))

  module _ (a : Answer) (i : In a s.answers) where
    abbrev verdict : Verdict
    verdict = verdict_in m.0.stance a.call

    none_locked : (fid : Fid) (writing : Bool) (span : Span) → verdict ≡ Locks fid writing span
        → is_excluded tree_is.locks h fid span writing ≡ false
    none_locked fid writing span v =
        any_false (λ (lock : LockUse). not (lock.host.0 == h.0) && covers fid span lock && (lock.writing || writing))
        tree_is.locks (λ lock j e.
        let u = m.0.answers.locks a fid writing span i v in
        let p = and_parts (not (lock.host.0 == h.0) && covers fid span lock) (lock.writing || writing) e in
        let q = and_parts (not (lock.host.0 == h.0)) (covers fid span lock) p.0 in
        let r = and_parts (same_fid lock.fid fid) (overlap lock.span span) q.1 in
        agree.locks_free lock u.0 j (two_hosts lock.host h q.0) u.1 (fid_is lock.fid fid r.0 ∙ sym u.3)
        (ap (λ k. kinds_conflict (LockToken lock.writing lock.span) k) u.4
        ∙ both (lock.writing || writing) (overlap lock.span span) p.1 r.1))

    none_opened : (fid : Fid) (kind : OpenKind) → verdict ≡ Opens fid kind
        → is_barred tree_is.opens h fid kind ≡ false
    none_opened fid kind v =
        any_false
        (λ (opened : OpenUse). not (opened.host.0 == h.0) && same_fid opened.fid fid && opens_conflict opened.kind kind)
        tree_is.opens (λ opened j e.
        let u = m.0.answers.opens a fid kind i v in
        let exact : u.0.token.kind ≡ Opening kind =
        exact_open (host_sees A s) m.0.stance.own h m.0.stance.user u.0 fid kind a.call u.2 v in
        let p = and_parts (not (opened.host.0 == h.0) && same_fid opened.fid fid) (opens_conflict opened.kind kind) e in
        let q = and_parts (not (opened.host.0 == h.0)) (same_fid opened.fid fid) p.0 in
        agree.opens_free opened u.0 j (two_hosts opened.host h q.0) u.1 (fid_is opened.fid fid q.1 ∙ sym u.3)
        (ap (λ k. kinds_conflict (Opening opened.kind) k) exact ∙ p.1))

    host_is : a.host ≡ h
    host_is = (m.0.answers.answers a i).0

    legal_answer : IsLegal tree_is (call_entry a)
    legal_answer =
        subst (λ (k : HostId). a.reply ≡ (answer_to tree_is k a.call).reply) (sym host_is)
        (reply_is script start firsts c same past run h s m tree_is agree.formed agree.cells legal agree.roster_is clean
        agree.names labels a i none_locked none_opened)

    cells_after_answer : (f : Fid) (p : Part)
        → cell_at (after_entry tree_is (call_entry a)) f p ≡ tree_after c (Host h) s past (tree c past) f p
    cells_after_answer f p =
        ap (λ (k : HostId). cell_at (answer_to tree_is k a.call).tree f p) host_is
        ∙ (cells_left script start firsts c same past run h s m tree_is agree.formed agree.cells legal agree.roster_is clean
        agree.names labels a i f p
        ∙ ap (λ (z : Cell (Seen p)). written h (c.wrote A s f p) z) (agree.cells f p))

module _ (script : Script) (start : Tree) (firsts : ServerId → ℕ) (c : Contents) (same : IsOfJournal c) where
  at_node : (n : Node) (past : List Step) (s : Step) → StepsMeet script start firsts past
      → StepMeets script start firsts n past s → Kept c firsts past
      → Whole (λ k. own_after k n s (steps_of_host k past)) (λ v. acts_after v n s (doings_of (firsts v) v past))
      → LegalStep c firsts n s past → (h : HostId) (tree_is : Tree) → n ≡ Host h
      → AgreesAt script.roster c past h s tree_is → (a : Answer) → In a s.answers
      → IsLegal tree_is (call_entry a)
      × ((f : Fid) (p : Part) → cell_at (after_entry tree_is (call_entry a)) f p
      ≡ tree_after c n s past (tree c past) f p)
  at_node (Server v) past s run m kept whole legal h tree_is e agree a i =
      absurd (let q : Server v ≡ Host h = e in cc)
  at_node (Host k) past s run m kept whole legal h tree_is e agree a i =
      let one : h ≡ k = (let q : Host k ≡ Host h = e in cc) in
      let agree' : AgreesAt script.roster c past k s tree_is =
      subst (λ (j : HostId). AgreesAt script.roster c past j s tree_is) one agree in (
        legal_answer script start firsts c same past run k s m tree_is agree' kept whole legal a i,
        cells_after_answer script start firsts c same past run k s m tree_is agree' kept whole legal a i,
      )

  pub each_answers : (past : List Step) → StepsMeet script start firsts past → IsTokenRun firsts past
      → ContentsRun c firsts past → Always (AnswersLegally script.roster c) past
  each_answers [] run tokens rules = tt
  each_answers (s ∷ past) run tokens rules = (
    each_answers past run.0 tokens.0 rules.0,
    at_node s.node past s run.0 run.1.0 (coherent c firsts past tokens.0 rules.0).0
        (always firsts (s ∷ past) tokens) (coherent c firsts (s ∷ past) tokens rules).1.1,
  )

pub hosts_answer : HostsAnswerLegally
hosts_answer script journal run c of_run =
    each_answers script run.start (firsts_of journal) c of_run.hosts (past_of journal) run.steps
    (run_tokens script journal run) (runs_meet script journal run c of_run)
