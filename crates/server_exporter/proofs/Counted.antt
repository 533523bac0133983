-- Each claim that counts is admitted in the step, and answered.
use Rattle.std.proofs.Common.{◌≡◌, ◌⊎◌, ◌==◌, true, not, List, [], ◌∷◌, ◌++◌, None, inl, inr, refl, sym, ◌∙◌}
use Rattle.std.proofs.Common.{ap, false, subst, eqb-true}
use Rattle.std.specs.List.{list_any}
use Rattle.std.proofs.lemmas.Bool.{and_from, cases_Bool}
use Rattle.base_types.specs.declared.ids.HostId.{HostId}
use Rattle.base_types.specs.declared.ids.ServerId.{ServerId}
use Rattle.message_types.specs.declared.giving.Reclaim.{Reclaim as ReclaimOf}
use Rattle.message_types.specs.declared.giving.Reclaimed.{Reclaimed as ReclaimedOf}
use Rattle.message_types.specs.declared.message.Body.TheVariants.{GiveBack, Reclaimed}
use Rattle.message_types.specs.declared.message.Message.{Message}
use Rattle.run_rules.specs.Doings.{Doing, HasReclaimed, after_cause, admitting, deciding}
use Rattle.run_rules.specs.Doings.Doing.{Admits, MakesWant, WritesDown}
use Rattle.run_rules.specs.Past.{In, appended}
use Rattle.run_rules.specs.ServerDue.{AnswersClaim}
use Rattle.run_rules.specs.ServerTokens.{HasTakenGives}
use Rattle.run_rules.specs.declared.applied.Admission.{Admission}
use Rattle.run_rules.specs.declared.applied.Applied.{Applied}
use Rattle.run_rules.specs.declared.applied.Applied.TheVariants.{Done as IsDone, IsDown, Replied, Stored, Wants}
use Rattle.run_rules.specs.declared.applied.Applied.TheVariants.{Moves as IsMoved}
use Rattle.run_rules.specs.declared.step.Cause.{Cause}
use Rattle.server_tables.specs.Judging.{first_ripe, has_all}
use Rattle.server_tables.specs.declared.recovering.Claimed.{Claimed}
use Rattle.server_tables.specs.declared.tables.Tables.{Tables}
use Rattle.server_tables.proofs.Alike.{IsInner, SameHeard, admit_inner, heard_back, heard_inner, heard_same, heard_then}
use Rattle.server_tables.proofs.Alike.{reclaimed_inner, want_inner, write_inner}
use Rattle.server_tables.proofs.Greeting.{in_end, in_front}
use Rattle.server_tables.proofs.Granting.{in_back}
use Rattle.server_tables.proofs.Judged.{answers_claim, none_found, taken_all}
use Rattle.server_tables.proofs.Settling.{in_map}
use Rattle.server_tables.proofs.Without.{to_filter}
use Rattle.server_decides.specs.Drafts.{word}
use Rattle.server_decides.specs.Taking.{Made}
use Rattle.server_decides.specs.Draft.{Draft}
use Rattle.server_decides.specs.Claiming.{AdmitsOne, answer_of}
use Rattle.server_decides.specs.Going.{GoesTo}
use Rattle.server_decides.proofs.Chains.{goes_keeps}
use Rattle.server_exporter.proofs.Claims.{IsGranting, admitted_in, decided_in, granted_one, said_in, said_to}
use Rattle.server_exporter.proofs.Claims.{sent_heard}
use Rattle.run_tokens.specs.Unmoved.{is_move}
use Rattle.server_exporter.proofs.Onsets.{SaysTo}

-- # What was heard before the decisions, claims and words of a step

module _ (server : ServerId) where
  one_heard : (p : List Doing) (a : Doing) → IsInner a → SameHeard server p (a ∷ p)
  one_heard p a i = heard_back (heard_inner server p a i)

  pub applied_heard : (applied : List Applied) → list_any is_move applied ≡ false → (p : List Doing)
      → SameHeard server p (appended (deciding applied) p)
  applied_heard [] none p = heard_same server p
  applied_heard (Wants w ∷ more) none p =
      heard_then (one_heard p (MakesWant w) (want_inner w)) (applied_heard more none (MakesWant w ∷ p))
  applied_heard (IsDone v ∷ more) none p =
      heard_then (one_heard p (WritesDown v) (write_inner v)) (applied_heard more none (WritesDown v ∷ p))
  applied_heard (IsDown host ∷ more) none p = applied_heard more none p
  applied_heard (IsMoved move ∷ more) none p = absurd (cc)
  applied_heard (Replied answer ∷ more) none p = applied_heard more none p
  applied_heard (Stored host fid spans length ∷ more) none p = applied_heard more none p

  admitted_heard : (more : List Admission) (p : List Doing) → SameHeard server p (appended (admitting more) p)
  admitted_heard [] p = heard_same server p
  admitted_heard (a ∷ more) p =
      heard_then (one_heard p (Admits a.host a.tokens) (admit_inner a.host a.tokens))
      (admitted_heard more (Admits a.host a.tokens ∷ p))

  pub said_heard : (cause : Cause) (past : List Doing) (d : Draft) → list_any is_move d.applied ≡ false
      → SameHeard server (after_cause cause past) (said_in cause past d)
  said_heard cause past d none =
      heard_then (applied_heard d.applied none (after_cause cause past))
      (heard_then (admitted_heard d.admitted (decided_in cause past d))
      (sent_heard server d.sent (admitted_in cause past d)))

  -- no decision lets a host reclaim
  pub applied_was : (applied : List Applied) → list_any is_move applied ≡ false → (p : List Doing) (h : HostId)
      → HasReclaimed (appended (deciding applied) p) h → HasReclaimed p h
  applied_was [] none p h r = r
  applied_was (Wants w ∷ more) none p h r =
      elim ((reclaimed_inner server p (MakesWant w) (want_inner w) h).0 (applied_was more none (MakesWant w ∷ p) h r)) [
        | inl q ↦ absurd (let e = q.1 in cc)
        | inr q ↦ q
      ]
  applied_was (IsDone v ∷ more) none p h r =
      elim ((reclaimed_inner server p (WritesDown v) (write_inner v) h).0 (applied_was more none (WritesDown v ∷ p) h r)) [
        | inl q ↦ absurd (let e = q.1 in cc)
        | inr q ↦ q
      ]
  applied_was (IsDown host ∷ more) none p h r = applied_was more none p h r
  applied_was (IsMoved move ∷ more) none p h r = absurd (cc)
  applied_was (Replied answer ∷ more) none p h r = applied_was more none p h r
  applied_was (Stored host fid spans length ∷ more) none p h r = applied_was more none p h r

  pub applied_is : (applied : List Applied) → list_any is_move applied ≡ false → (p : List Doing) (h : HostId)
      → HasReclaimed p h → HasReclaimed (appended (deciding applied) p) h
  applied_is [] none p h r = r
  applied_is (Wants w ∷ more) none p h r =
      applied_is more none (MakesWant w ∷ p) h ((reclaimed_inner server p (MakesWant w) (want_inner w) h).1 (inr r))
  applied_is (IsDone v ∷ more) none p h r =
      applied_is more none (WritesDown v ∷ p) h ((reclaimed_inner server p (WritesDown v) (write_inner v) h).1 (inr r))
  applied_is (IsDown host ∷ more) none p h r = applied_is more none p h r
  applied_is (IsMoved move ∷ more) none p h r = absurd (cc)
  applied_is (Replied answer ∷ more) none p h r = applied_is more none p h r
  applied_is (Stored host fid spans length ∷ more) none p h r = applied_is more none p h r

-- # Claims

-- what answers a claim hangs on what was heard alone
answers_so : (server : ServerId) (p q : List Doing) (h : HostId) (claim : ReclaimOf) (a : ReclaimedOf)
    → SameHeard server p q → AnswersClaim server p h claim a → AnswersClaim server q h claim a
answers_so server p q h claim a s c = record {
  applied = λ g t n. c.applied g ((s.took_of h g.fid.fileset (GiveBack g)).1 t) n;
  applied_only = λ n i. (let x = c.applied_only n i in
      (x.0, (s.took_of h x.0.fid.fileset (GiveBack x.0)).0 x.1, x.2, x.3));
  left_out = λ t i u. c.left_out t i ((s.given_up h t.id).1 u);
}

module _ (server : ServerId) (cause : Cause) (past : List Doing) (h : HostId) (claim : ReclaimOf)
    (taken : HasTakenGives server (after_cause cause past) h claim) where
  abbrev begun : List Doing
  begun = after_cause cause past

  abbrev its : Claimed
  its = record { host = h; claim = claim }

  -- the claim is granted and answered
  abbrev pub IsCounted : Draft → Type 0
  IsCounted d = ((c : Admission) × In c d.admitted × (c.host ≡ h))
      × ((a : ReclaimedOf) × SaysTo d.sent h (Reclaimed a) × AnswersClaim server begun h claim a)

  record IsWaiting (m : Made) : Type 0 where
    pub granting : IsGranting cause past m.tables m.draft
    pub server_is : m.tables.server ≡ server
    pub either : In its m.tables.recovering.claims ⊎ IsCounted m.draft

  given : (m : Made) → IsWaiting m → HasTakenGives m.tables.server (said_in cause past m.draft) h claim
  given m z = subst (λ (v : ServerId). HasTakenGives v (said_in cause past m.draft) h claim) (sym z.server_is)
      (λ o i some here. (let s = said_heard server cause past m.draft z.granting.none in
      let g = taken o i some (s.slots o.fileset ∙ here) in
      (g.0, (s.took_of h o.fileset (GiveBack g.0)).0 g.1, g.2, g.3)))

  has_its : (m : Made) → IsWaiting m → In its m.tables.recovering.claims
      → has_all m.tables.recovering.taken m.tables.server h claim ≡ true
  has_its m z i =
      let w = z.granting.waits its i in
      taken_all (said_in cause past m.draft) m.tables.server m.tables.recovering z.granting.stands.slots z.granting.stands.recovery h w.0 w.1.1
      claim (given m z)

  abbrev its_ad : (a b : Made) → AdmitsOne a b → Admission
  its_ad a b one = record { host = one.admission.host; tokens = one.admission.tokens }

  abbrev its_said : (a b : Made) → AdmitsOne a b → List Message
  its_said a b one = said_to a.tables one.admission.host one.so.answers

  -- one claim more is granted: this one, or another
  waits_one : (a b : Made) → IsWaiting a → AdmitsOne a b → IsWaiting b
  waits_one a b z one = record {
    granting = granted_one cause past a.tables a.draft z.granting b.tables b.draft one;
    server_is = ap (λ (y : Tables). y.server) one.so.tables ∙ z.server_is;
    either = elim z.either [
      | inr q ↦ inr (counted_on q)
      | inl i ↦ elim (cases_Bool (h.0 == one.admission.host.0)) [
        | inl e ↦ inr (counted_now i e)
        | inr e ↦ inl (subst (λ (y : Tables). In its y.recovering.claims) (sym one.so.tables)
            (to_filter (λ (c : Claimed). not (c.host.0 == one.admission.host.0)) its a.tables.recovering.claims i
            (ap not e)))
      ]
    ];
  }
    where
      sent_is : b.draft.sent ≡ a.draft.sent ++ (its_said a b one)
      sent_is = ap (λ (d : Draft). d.sent) one.so.draft

      admitted_is : b.draft.admitted ≡ a.draft.admitted ++ (its_ad a b one) ∷ []
      admitted_is = ap (λ (d : Draft). d.admitted) one.so.draft

      counted_on : IsCounted a.draft → IsCounted b.draft
      counted_on q = (
        (
          q.0.0,
          subst (In q.0.0) (sym admitted_is) (in_front q.0.0 a.draft.admitted ((its_ad a b one) ∷ []) q.0.1),
          q.0.2,
        ),
        (
          q.1.0,
          (
            q.1.1.0,
            subst (In q.1.1.0) (sym sent_is) (in_front q.1.1.0 a.draft.sent (its_said a b one) q.1.1.1),
            q.1.1.2,
            q.1.1.3,
          ),
          q.1.2,
        ),
      )

      counted_now : In its a.tables.recovering.claims → (h.0 == one.admission.host.0) ≡ true → IsCounted b.draft
      counted_now i e =
          let same : h ≡ one.admission.host = (let q : h.0 ≡ one.admission.host.0 =
          eqb-true h.0 one.admission.host.0 e in λ j. record { 0 = q j }) in
          let w = z.granting.waits its i in
          let past_a = said_in cause past a.draft in
          let answer = answer_of a.tables.recovering one.admission.host claim in
          let told = word a.tables one.admission.host (Reclaimed answer) in
          let ripe = and_from (h.0 == one.admission.host.0)
          (has_all a.tables.recovering.taken a.tables.server one.admission.host claim) e
          (subst (λ (k : HostId). has_all a.tables.recovering.taken a.tables.server k claim ≡ true) same
          (has_its a z i)) in
          let there = one.so.are.all its i ripe in
          let by_tables = answers_claim past_a a.tables.server a.tables.recovering z.granting.stands.slots z.granting.stands.recovery h w.0
          w.1.1
          claim in
          let so : AnswersClaim server begun h claim answer =
          subst (λ (v : ServerId). AnswersClaim v begun h claim answer) z.server_is
          (answers_so a.tables.server past_a begun h claim answer
          (heard_back (said_heard a.tables.server cause past a.draft z.granting.none))
          (subst (λ (k : HostId). AnswersClaim a.tables.server past_a h claim (answer_of a.tables.recovering k claim))
          same by_tables)) in (
            (
              (its_ad a b one),
              subst (In (its_ad a b one)) (sym admitted_is) (in_end (its_ad a b one) a.draft.admitted),
              sym same,
            ),
            (
              answer,
              (
                told,
                subst (In told) (sym sent_is) (in_back told a.draft.sent (its_said a b one)
                    (in_map (λ (r : ReclaimedOf). word a.tables one.admission.host (Reclaimed r)) answer one.so.answers
                    there)),
                sym same,
                refl,
              ),
              so,
            ),
          )

  -- at the end none is left that could be
  pub claim_counts : (a z : Made) → GoesTo AdmitsOne a z → IsGranting cause past a.tables a.draft
      → a.tables.server ≡ server → In its a.tables.recovering.claims
      → first_ripe z.tables.recovering z.tables.server ≡ None → IsCounted z.draft
  claim_counts a z goes granting v i none =
      let w = goes_keeps AdmitsOne IsWaiting waits_one a z goes
      (record { granting = granting; server_is = v; either = inl i }) in
      elim w.either [
        | inr q ↦ q
        | inl j ↦ absurd (none_found
            (λ (c : Claimed). has_all z.tables.recovering.taken z.tables.server c.host c.claim)
            z.tables.recovering.claims none its j (has_its z w j))
      ]
