-- What a server answers at once, what it applies, its lines: computed; and all rules of its step.
use Rattle.base_types.specs.declared.ids.Fid.{Fid}
use Rattle.base_types.specs.declared.ids.HostId.{HostId}
use Rattle.base_types.specs.declared.ids.Node.TheVariants.{Server}
use Rattle.base_types.specs.declared.ids.ServerId.{ServerId}
use Rattle.tree_answers.specs.declared.tree.Tree.{Tree}
use Rattle.message_types.specs.declared.giving.AppliedGive.{AppliedGive}
use Rattle.message_types.specs.declared.giving.Give.{Give}
use Rattle.message_types.specs.declared.giving.Reclaim.{Reclaim as ReclaimOf}
use Rattle.message_types.specs.declared.message.Body.{Body}
use Rattle.message_types.specs.declared.message.Body.TheVariants.{Bye, Down, GiveBack, Gone, Hello, Reclaim, Reclaimed}
use Rattle.message_types.specs.declared.message.Body.TheVariants.{Restarted}
use Rattle.message_types.specs.declared.message.Message.{Message}
use Rattle.run_examples.proofs.AnswerChecks.{no_asked}
use Rattle.run_examples.proofs.LapseChecks.{bye_body, hello_body, is_hello, is_lapse, is_restarted, lapse_cause}
use Rattle.run_examples.proofs.LapseChecks.{not_asked, restarted_body}
use Rattle.run_examples.proofs.MayTests.{act_right, acts_right, may_act, may_all}
use Rattle.run_examples.proofs.SendTests.{TellsAll, all_decided, at_cause, decided_tests, decides_all, has_decided}
use Rattle.run_examples.proofs.SendTests.{has_sent, send_words, sends_all, sends_right, sent_tests}
use Rattle.run_examples.proofs.ServerChecks.{bye_only, gives_body, gives_gone, gives_number, gone_body, gone_only}
use Rattle.run_examples.proofs.ServerChecks.{reclaimed_by}
use Rattle.run_examples.proofs.ServerChecks.{is_gone, is_restart, is_taken, is_to, restart_cause, restarted_only}
use Rattle.run_examples.proofs.ServerChecks.{sends_now, sends_to, tells_again, tells_restart}
use Rattle.run_examples.proofs.ServerLists.{none_given, none_taken, quiet}
use Rattle.run_examples.proofs.ServerWords.{applied, applied_is, claimants, claims_in, down, down_is, heard, here}
use Rattle.run_examples.proofs.ServerWords.{here_yes, listed, listed_heard, listed_is, live, live_is, live_yes}
use Rattle.run_examples.proofs.ServerWords.{reclaimed, reclaimed_is, reclaimed_yes}
use Rattle.run_examples.proofs.Tests.{AllTrue, all_true, at_all, host_is, implies, is_none, is_not, none_in, none_is}
use Rattle.run_examples.proofs.Tests.{not_is, passes, same_host, so, some_in}
use Rattle.run_examples.proofs.TokenChecks.{is_bye, is_down}
use Rattle.run_examples.proofs.Words.{by_message}
use Rattle.script_lines.specs.declared.script.Deed.{Deed}
use Rattle.script_lines.specs.declared.script.Deed.TheVariants.{Restart as Restarts}
use Rattle.script_lines.specs.declared.script.Line.{Line}
use Rattle.script_lines.specs.declared.script.Script.{Script}
use Rattle.std.proofs.Common.{Bool, List, None, Option, Some, [], false, inl, inr, refl, subst, suc, sym, true, ℕ}
use Rattle.std.proofs.Common.{◌&&◌, ◌++◌, ◌==◌, ◌||◌, ◌∙◌, ◌∷◌, ◌≡◌}
use Rattle.std.proofs.lemmas.Bool.{and_from, and_parts, eq-eqb, eqb-true, or_cases}
use Rattle.std.specs.List.{list_all, list_any}
use Rattle.std.specs.Prelude.{not, slice_get}
use Rattle.token_types.specs.declared.token.Token.{Token}
use Rattle.run_rules.specs.Doings.{Doing, HasGoneDown, HasReclaimed, HeardNow, IsLive, Listed, SentNow, TakenNow}
use Rattle.run_rules.specs.Doings.{TookNow, admitting, after_admitting, after_cause, after_deciding, after_sending}
use Rattle.run_rules.specs.Doings.{after_step, deciding, epoch, sending}
use Rattle.run_rules.specs.Doings.Doing.{Reserves}
use Rattle.run_rules.specs.Kept.{filesets_kept, filesets_through}
use Rattle.run_rules.specs.ServerDecides.{FirstDown, FirstGiven, ServerApplies, by_cause, decisions, ended_by}
use Rattle.run_rules.specs.ServerDecides.{is_decision, stored_of}
use Rattle.run_rules.specs.ServerDue.{ServerAnswers, empty_reclaimed}
use Rattle.run_tokens.specs.ServerRest.{ServerMeets}
use Rattle.run_rules.specs.ServerMay.{OnlyAnswers}
use Rattle.run_rules.specs.Steps.{IsBareStep, IsNextLine, lines_gone, lines_of}
use Rattle.run_rules.specs.Tokens.{number_of}
use Rattle.run_rules.specs.declared.applied.Applied.TheVariants.{IsDown as GoesDown}
use Rattle.run_rules.specs.declared.applied.Admission.{Admission}
use Rattle.run_rules.specs.declared.step.Cause.{Cause}
use Rattle.run_rules.specs.declared.step.Cause.TheVariants.{End, Evict, Flushed, Freight, Lapse, Message as Came}
use Rattle.run_rules.specs.declared.step.Cause.TheVariants.{Line as LineOf, Restart}
use Rattle.run_rules.specs.Doings.{after_shipping}
use Rattle.run_rules.specs.declared.step.Step.{Step}

unfoldable pub is_empty : Body → Bool
is_empty (Reclaimed r) = is_none r.applied && is_none r.left_out
is_empty _ = false

unfoldable pub is_claim_body : Body → Bool
is_claim_body (Reclaim claim) = true
is_claim_body _ = false

-- a claim that comes is the host's first of the epoch, nothing was given up, and all is granted again
unfoldable pub admits_so : List Doing → Step → Message → Bool
admits_so past s m =
    (not (reclaimed past m.host) && list_any (λ (c : Admission). same_host c.host m.host) s.admitted)
    && (sends_to s m.host is_empty && quiet (after_cause s.cause past))

unfoldable pub answers_so : List Doing → Step → Message → List Bool
answers_so past s m =
    implies (is_hello m.body) (not (listed past m.host) && sends_to s m.host is_empty)
    ∷ implies (is_bye m.body) (sends_to s m.host is_bye)
    ∷ ((m.epoch == epoch past) || (is_hello m.body || is_down m.body))
    ∷ implies (is_taken past m) (gives_gone s m m.body)
    ∷ implies (is_claim_body m.body) (admits_so past s m)
    ∷ []

unfoldable pub reclaimed_only : List Doing → Step → Message → Body → Bool
reclaimed_only past s k (Reclaimed r) =
    reclaimed_by past s.cause k || list_any (λ (c : Admission). same_host c.host k.host) s.admitted
reclaimed_only past s k _ = true

unfoldable pub answer_list : List Doing → Step → List Bool
answer_list past s =
    by_message true (λ m. passes (answers_so past s m)) s.cause
    ∷ list_all (bye_only past s.cause) s.sent
    ∷ implies (is_restart s.cause) (list_all (tells_restart past s) (heard past))
    ∷ implies (is_lapse s.cause) (list_all (tells_again past s) (heard past))
    ∷ list_all (restarted_only past s.cause) s.sent
    ∷ list_all (λ k. gone_only past s.cause k k.body) s.sent
    ∷ list_all (reclaimed past) (claimants past)
    ∷ list_all (λ k. reclaimed_only past s k k.body) s.sent
    ∷ []

unfoldable pub first_body : ServerId → List Doing → Message → Body → Bool
first_body server past m (GiveBack g) =
    is_taken past m && (here server past g.fid.fileset m.moves && not (applied server past m.host (number_of g)))
first_body server past m Down = not (down past m.host)
first_body server past m _ = true

unfoldable pub is_restart_deed : Deed → Bool
is_restart_deed Restarts = true
is_restart_deed _ = false

unfoldable pub is_restart_line : ℕ → Option Line → Bool
is_restart_line n None = false
is_restart_line n (Some line) = (line.number == n) && is_restart_deed line.deed

unfoldable pub is_other_line : ℕ → Option Line → Bool
is_other_line n None = false
is_other_line n (Some line) = (line.number == n) && not (is_restart_deed line.deed)

unfoldable pub lines_right : List Line → List Step → Cause → Bool
lines_right lines steps (Came m) = true
lines_right lines steps Lapse = true
lines_right lines steps Flushed = true
lines_right lines steps (LineOf n) = is_other_line n (slice_get lines (lines_gone steps))
lines_right lines steps (Restart n) = is_restart_line n (slice_get lines (lines_gone steps))
lines_right lines steps _ = false

unfoldable pub no_file : Option Fid → Bool
no_file None = true
no_file (Some fid) = false

unfoldable pub step_tests : ServerId → List Line → Tree → List Step → List Doing → Step → List Bool
step_tests server lines tree steps past s =
    passes (answer_list past s)
    ∷ acts_right server (deciding s.applied) (after_cause s.cause past)
    ∷ acts_right server (admitting s.admitted) (after_deciding s past)
    ∷ acts_right server (sending s.sent) (after_admitting s past)
    ∷ is_none s.reserved
    ∷ by_message true (λ m. first_body server past m m.body) s.cause
    ∷ list_all is_decision (decisions s.applied)
    ∷ lines_right lines steps s.cause
    ∷ no_asked s.asked ∷ is_none s.taken ∷ is_none s.answers ∷ no_file s.wrote ∷ is_none s.begun ∷ is_none s.made
    ∷ is_none s.dropped
    ∷ all_decided server (filesets_through s.cause (by_cause s.applied) tree) past (after_cause s.cause past) s
    (decisions s.applied)
    ∷ passes (decided_tests server (filesets_through s.cause s.applied tree) past (after_deciding s past) s)
    ∷ sends_right server (filesets_through s.cause s.applied tree) s (sending s.sent) (after_admitting s past)
    ∷ passes (sent_tests server past (after_step s past) s)
    ∷ []

unfoldable pub answer_words : ℕ
unfolding send_words is_hello is_bye is_down is_restarted is_lapse is_to sends_to is_gone is_restart is_taken gives_gone
    gives_number gone_only bye_only restarted_only tells_restart tells_again no_asked is_empty is_claim_body admits_so answers_so
    answer_list reclaimed_only reclaimed_by first_body is_restart_deed is_restart_line
    is_other_line lines_right no_file step_tests
answer_words = 0

empty_body : (b : Body) → is_empty b ≡ true → b ≡ Reclaimed empty_reclaimed
unfolding is_empty
empty_body (Reclaimed r) e =
    let p = and_parts (is_none r.applied) (is_none r.left_out) e in
    let a = none_is r.applied p.0 in
    let l = none_is r.left_out p.1 in
    λ i. Reclaimed (record { applied = a i; left_out = l i })
empty_body b e = absurd (cc)

module _ (server : ServerId) (past : List Doing) (s : Step) where
  claims_before : (h : HostId) (n : ℕ) (claim : ReclaimOf) → list_all (reclaimed past) (claimants past) ≡ true
      → TookNow past h n (Reclaim claim) → HasReclaimed past h
  claims_before h n claim t x =
      reclaimed_yes past h (at_all (reclaimed past) (claimants past) h t (claims_in past h n claim x))

  claim_from : (cause : Cause) → s.cause ≡ cause → (h : HostId) (n : ℕ) (claim : ReclaimOf)
      → list_all (reclaimed past) (claimants past) ≡ true → (HasReclaimed past h → ⊥)
      → TookNow (after_cause cause past) h n (Reclaim claim)
      → (m : Message) × (s.cause ≡ Came m) × (m.host ≡ h) × (m.body ≡ Reclaim claim)
  claim_from (Came m) c h n claim t first (inl (is, l)) = (m, c, (let p = is in cc), (let p = is in cc))
  claim_from (Came m) c h n claim t first (inr (x, b)) = absurd (first (claims_before h n claim t x))
  claim_from (Restart line) c h n claim t first (inl (is, l)) = absurd (let p = is in cc)
  claim_from (Restart line) c h n claim t first (inr (x, b)) = absurd (b (suc (epoch past), refl))
  claim_from Flushed c h n claim t first (inl (is, l)) = absurd (let p = is in cc)
  claim_from Flushed c h n claim t first (inr (x, b)) = absurd (first (claims_before h n claim t x))
  claim_from (LineOf line) c h n claim t first x = absurd (first (claims_before h n claim t x))
  claim_from Lapse c h n claim t first x = absurd (first (claims_before h n claim t x))
  claim_from Evict c h n claim t first x = absurd (first (claims_before h n claim t x))
  claim_from (Freight freight) c h n claim t first (inl (is, l)) = absurd (let p = is in cc)
  claim_from (Freight freight) c h n claim t first (inr (x, b)) = absurd (first (claims_before h n claim t x))
  claim_from End c h n claim t first x = absurd (first (claims_before h n claim t x))

  pub all_answered : passes (answer_list past s) ≡ true → OnlyAnswers past s × ServerAnswers server past s
  unfolding answer_words
  all_answered e = (
    record {
      bye_only = λ h (k, i, at, is).
          let a = by_message false (λ m. is_bye m.body && same_host m.host k.host) s.cause in
          let p = so (is_bye k.body) (a && not (down past k.host)) (at_all (bye_only past s.cause) s.sent k t.1.0 i)
          (subst (λ b. is_bye b ≡ true) (sym is) refl) in
          let q = and_parts a (not (down past k.host)) p in
          let r = came_bye k.host s.cause refl q.0 in (
            subst (λ y. HeardNow s y Bye) at r,
            (λ x. is_not (down past k.host) q.1 (down_is past k.host (subst (λ y. HasGoneDown past y) (sym at) x))),
            λ l. let r = subst (λ y. HeardNow s y Bye) at r in
                (r.0.moves, ((r.0, r.1, r.2, in_epoch r.0 r.1 r.3, refl, r.3), l)),
          );
      reclaimed_only = λ h r (k, i, at, is).
          let a = by_message false (λ m. is_hello m.body && same_host m.host k.host) s.cause in
          let b = list_any (λ (c : Admission). same_host c.host k.host) s.admitted in
          let p = subst (λ b. reclaimed_only past s k b ≡ true) is (at_all
          (λ k. reclaimed_only past s k k.body) s.sent k t.1.1.1.1.1.1.1.0 i) in
          let u = not (down past k.host) in
          let v = not (live past k.host) in
          elim (or_cases (a && (u && v)) b p) [
            | inl x ↦ (let q = and_parts a (u && v) x in let w = and_parts u v q.1 in inl (
              subst (λ y. HeardNow s y Hello) at (came_hello k.host s.cause refl q.0),
              (λ z. is_not (down past k.host) w.0 (down_is past k.host (subst (λ y. HasGoneDown past y) (sym at) z))),
              inl (λ z. is_not (live past k.host) w.1 (live_is past k.host (subst (λ y. IsLive past y) (sym at) z))),
            ))
            | inr x ↦ (let c = some_in (λ (c : Admission). same_host c.host k.host) s.admitted x in
                inr (inl (c.0, c.1, host_is c.0.host k.host c.2 ∙ at)))
          ];
    },
    record {
      hello_old = λ h (m, c, at, is) l old.
          absurd (is_not (listed past m.host) (hello m c is).0 (listed_is past m.host (subst (Listed past) (sym at) l.0)));
      hello = λ h (m, c, at, is) d l.
          subst (λ y. SentNow s y (Reclaimed empty_reclaimed)) at (sends_now s m.host is_empty (Reclaimed empty_reclaimed) empty_body
          (hello m c is).1);
      bye = λ h (m, c, at, is) d l.
          subst (λ y. SentNow s y Bye) at (sends_now s m.host is_bye Bye bye_body (so (is_bye m.body)
          (sends_to s m.host is_bye) (parts m c).1.0 (subst (λ b. is_bye b ≡ true) (sym is) refl)));
      late = λ h m c at l other hello_ downs.
          elim (or_cases (m.epoch == epoch past) (is_hello m.body || is_down m.body) (parts m c).1.1.0) [
            | inl x ↦ absurd (other (eqb-true m.epoch (epoch past) x))
            | inr x ↦ elim (or_cases (is_hello m.body) (is_down m.body) x) [
              | inl y ↦ absurd (hello_ (hello_body m.body y))
              | inr y ↦ absurd (downs (down_body m.body y))
            ]
          ];
      restarted = λ line h c l.
          let p = so (is_restart s.cause) (list_all (tells_restart past s) (heard past)) t.1.1.0 (subst
          (λ x. is_restart x ≡ true) (sym c) refl) in
          sends_now s h is_restarted Restarted restarted_body (so (live past h) (sends_to s h is_restarted) (at_all
          (tells_restart past s) (heard past) h p (listed_heard past h l.0)) (live_is past h l));
      restarted_again = λ h c l n.
          let p = so (is_lapse s.cause) (list_all (tells_again past s) (heard past)) t.1.1.1.0 (subst
          (λ x. is_lapse x ≡ true) (sym c) refl) in
          sends_now s h is_restarted Restarted restarted_body (so (live past h && not (reclaimed past h))
          (sends_to s h is_restarted) (at_all (tells_again past s) (heard past) h p (listed_heard past h l.0))
          (and_from (live past h) (not (reclaimed past h)) (live_is past h l) (not_is (reclaimed past h) (λ e. n
          (reclaimed_yes past h e)))));
      restarted_only = λ h (k, i, at, is).
          let b = is_lapse s.cause && not (reclaimed past k.host) in
          let a = is_restart s.cause || b in
          let p = so (is_restarted k.body) (live past k.host && a) (at_all
          (restarted_only past s.cause) s.sent k t.1.1.1.1.0 i) (subst (λ b. is_restarted b ≡ true) (sym is) refl) in
          let q = and_parts (live past k.host) a p in (
            subst (λ y. IsLive past y) at (live_yes past k.host q.0),
            elim (or_cases (is_restart s.cause) b q.1) [
              | inl x ↦ inr (inr (inl (restart_cause s.cause x)))
              | inr x ↦ (let r = and_parts (is_lapse s.cause) (not (reclaimed past k.host)) x in
                  inr (inr (inr (
                    lapse_cause s.cause r.0,
                    λ z. is_not (reclaimed past k.host) r.1
                        (reclaimed_is past k.host (subst (λ y. HasReclaimed past y) (sym at) z)),
                  ))))
            ],
          );
      gone = λ h n g x at_.
          let m = x.0.0 in
          let p = so (is_taken past m) (gives_gone s m m.body) (parts m x.0.1).1.1.1.0 (taken h n (GiveBack g) x) in
          let q : sends_to s m.host (is_gone (number_of g)) ≡ true = subst (λ b. gives_gone s m b ≡ true) x.0.5 p in
          subst (λ y. SentNow s y (Gone (number_of g))) x.0.2 (sends_now s m.host (is_gone (number_of g)) (Gone
          (number_of g)) (gone_body (number_of g)) q);
      gone_only = λ h n (k, i, at, is).
          let p = subst (λ b. gone_only past s.cause k b ≡ true) is (at_all
          (λ k. gone_only past s.cause k k.body) s.sent k t.1.1.1.1.1.0 i) in
          subst (λ y. (moves : ℕ) × (g : Give) × TakenNow past s y moves (GiveBack g) × (number_of g ≡ n)) at
          (came_gift k.host n s.cause refl p);
      claim_now = λ h n claim x first l all.
          let f = claim_from s.cause refl h n claim t.1.1.1.1.1.1.0 first x in
          let r = admits_ f.0 f.1 (subst (λ b. is_claim_body b ≡ true) (sym f.3) refl) in
          let c = some_in (λ (c : Admission). same_host c.host f.0.host) s.admitted r.1 in (
            (c.0, c.1, host_is c.0.host f.0.host c.2 ∙ f.2),
            (
              empty_reclaimed,
              subst (λ y. SentNow s y (Reclaimed empty_reclaimed)) f.2 (sends_now s f.0.host is_empty (Reclaimed empty_reclaimed) empty_body r.2),
              record {
                applied = λ g y named. absurd (none_taken server (after_cause s.cause past) h g.fid.fileset g r.3 y);
                applied_only = λ n m. elim m [ ];
                left_out = λ u m given. absurd (none_given server (after_cause s.cause past) h u.id r.3 given);
              },
            ),
          );
      claim_again = λ h n claim x again.
          let m = x.0.0 in
          let r = admits_ m x.0.1 (subst (λ b. is_claim_body b ≡ true) (sym x.0.5) refl) in
          absurd (is_not (reclaimed past m.host) r.0 (reclaimed_is past m.host (subst (HasReclaimed past) (sym x.0.2) again)));
    },
  )
    where
      t : AllTrue (answer_list past s)
      t = all_true (answer_list past s) e

      parts : (m : Message) → s.cause ≡ Came m → AllTrue (answers_so past s m)
      parts m c = all_true (answers_so past s m) (at_cause (λ m. passes (answers_so past s m)) s m t.0 c)

      in_epoch : (m : Message) → s.cause ≡ Came m → m.body ≡ Bye → m.epoch ≡ epoch past
      in_epoch m c is = elim (or_cases (m.epoch == epoch past) (is_hello m.body || is_down m.body) (parts m c).1.1.0) [
        | inl x ↦ eqb-true m.epoch (epoch past) x
        | inr x ↦ absurd (let y : false ≡ true = subst (λ b. (is_hello b || is_down b) ≡ true) is x in cc)
      ]

      hello : (m : Message) → s.cause ≡ Came m → m.body ≡ Hello
          → (not (listed past m.host) ≡ true) × (sends_to s m.host is_empty ≡ true)
      hello m c is =
          and_parts (not (listed past m.host)) (sends_to s m.host is_empty) (so (is_hello m.body)
          (not (listed past m.host) && sends_to s m.host is_empty) (parts m c).0
          (subst (λ b. is_hello b ≡ true) (sym is) refl))

      down_body : (b : Body) → is_down b ≡ true → b ≡ Down
      down_body Down x = refl
      down_body b x = absurd (cc)

      taken : (h : HostId) (n : ℕ) (b : Body) → (x : TakenNow past s h n b) → is_taken past x.0.0 ≡ true
      taken h n b ((m, c, at, e, k, is), l) =
          and_from (live past m.host) (m.epoch == epoch past) (live_is past m.host (subst (λ y. IsLive past y)
          (sym at) l)) (eq-eqb m.epoch (epoch past) e)

      admits_ : (m : Message) → s.cause ≡ Came m → is_claim_body m.body ≡ true
          → (not (reclaimed past m.host) ≡ true)
          × (list_any (λ (c : Admission). same_host c.host m.host) s.admitted ≡ true)
          × (sends_to s m.host is_empty ≡ true) × (quiet (after_cause s.cause past) ≡ true)
      admits_ m c is =
          let x = not (reclaimed past m.host) && list_any (λ (c : Admission). same_host c.host m.host) s.admitted in
          let y = sends_to s m.host is_empty && quiet (after_cause s.cause past) in
          let p = and_parts x y (so (is_claim_body m.body) (admits_so past s m) (parts m c).1.1.1.1.0 is) in
          let q = and_parts (not (reclaimed past m.host)) (list_any (λ (c : Admission). same_host c.host m.host) s.admitted)
          p.0 in
          let r = and_parts (sends_to s m.host is_empty) (quiet (after_cause s.cause past)) p.1 in
          (q.0, q.1, r.0, r.1)

      came_bye : (h : HostId) (cause : Cause) → s.cause ≡ cause → by_message false
          (λ m. is_bye m.body && same_host m.host h) cause ≡ true → HeardNow s h Bye
      came_bye h (Came m) c x =
          let p = and_parts (is_bye m.body) (same_host m.host h) x in
          (m, c, host_is m.host h p.1, bye_body m.body p.0)
      came_bye h cause c x = absurd (cc)

      came_hello : (h : HostId) (cause : Cause) → s.cause ≡ cause → by_message false
          (λ m. is_hello m.body && same_host m.host h) cause ≡ true → HeardNow s h Hello
      came_hello h (Came m) c x =
          let p = and_parts (is_hello m.body) (same_host m.host h) x in
          (m, c, host_is m.host h p.1, hello_body m.body p.0)
      came_hello h cause c x = absurd (cc)

      as_live : (m : Message) → is_taken past m ≡ true → (live past m.host && (m.epoch == epoch past)) ≡ true
      as_live m x = x

      came_gift : (h : HostId) (n : AppliedGive) (cause : Cause) → s.cause ≡ cause
          → by_message false (λ m. (same_host m.host h && is_taken past m) && gives_number n m.body) cause ≡ true
          → (moves : ℕ) × (g : Give) × TakenNow past s h moves (GiveBack g) × (number_of g ≡ n)
      came_gift h n (Came m) c x =
          let p = and_parts (same_host m.host h && is_taken past m) (gives_number n m.body) x in
          let q = and_parts (same_host m.host h) (is_taken past m) p.0 in
          let r = and_parts (live past m.host) (m.epoch == epoch past) (as_live m q.1) in
          let g = gives_body n m.body p.1 in
          let at = host_is m.host h q.0 in (
            m.moves,
            g.0,
            (
              (m, c, at, eqb-true m.epoch (epoch past) r.1, refl, g.1),
              subst (λ y. IsLive past y) at (live_yes past m.host r.0),
            ),
            g.2,
          )
      came_gift h n cause c x = absurd (cc)

-- what the cause makes kept; a line makes nothing
abbrev pub AppliesBody : Tree → Step → HostId → Body → Type 0
AppliesBody tree s h (GiveBack g) = by_cause s.applied ≡ stored_of tree h g ++ ended_by h g
AppliesBody tree s h Down = by_cause s.applied ≡ GoesDown h ∷ []
AppliesBody tree s h _ = by_cause s.applied ≡ []

abbrev pub AppliesCause : Tree → Step → Cause → Type 0
AppliesCause tree s (Came m) = AppliesBody tree s m.host m.body
AppliesCause tree s (LineOf n) = (by_cause s.applied ≡ []) × IsBareStep s
AppliesCause tree s _ = by_cause s.applied ≡ []

module _ (server : ServerId) (tree : Tree) (past : List Doing) (s : Step) where
  pub all_applied : AppliesCause tree s s.cause → by_message true (λ m. first_body server past m m.body) s.cause ≡ true
      → list_all is_decision (decisions s.applied) ≡ true → is_none s.reserved ≡ true → ServerApplies server tree past s
  unfolding first_body is_taken
  all_applied so_ first all free = record {
    given = λ h g ((n, ((m, c, at, _, _, is), _), _), new).
        let p : AppliesBody tree s m.host (GiveBack g) = subst (λ b. AppliesBody tree s m.host b) is
        (subst (AppliesCause tree s) c so_) in
        subst (λ h. by_cause s.applied ≡ stored_of tree h g ++ ended_by h g) at p;
    down = λ h ((m, c, at, is), up).
        let p : AppliesBody tree s m.host Down = subst (λ b. AppliesBody tree s m.host b) is
        (subst (AppliesCause tree s) c so_) in
        subst (λ h. by_cause s.applied ≡ GoesDown h ∷ []) at p;
    else_none = λ a b. none s.cause refl so_ a b;
    decided = all;
    reserves = λ t m. absurd (none_in s.reserved t free m);
  }
    where
      first_down : (m : Message) → s.cause ≡ Came m → m.body ≡ Down → FirstDown past s m.host
      first_down m c is =
          let e : first_body server past m Down ≡ true = subst (λ b. first_body server past m b ≡ true) is
          (at_cause (λ m. first_body server past m m.body) s m first c) in
          ((m, c, refl, is), λ x. is_not (down past m.host) e (down_is past m.host x))

      first_is : (m : Message) (g : Give) → s.cause ≡ Came m → m.body ≡ GiveBack g → FirstGiven server past s m.host g
      first_is m g c is =
          let e : first_body server past m (GiveBack g) ≡ true = subst (λ b. first_body server past m b ≡ true) is
          (at_cause (λ m. first_body server past m m.body) s m first c) in
          let x = here server past g.fid.fileset m.moves && not (applied server past m.host (number_of g)) in
          let p = and_parts (live past m.host && (m.epoch == epoch past)) x e in
          let q = and_parts (live past m.host) (m.epoch == epoch past) p.0 in
          let r = and_parts (here server past g.fid.fileset m.moves) (not (applied server past m.host (number_of g))) p.1 in (
            (
              m.moves,
              ((m, c, refl, eqb-true m.epoch (epoch past) q.1, refl, is), live_yes past m.host q.0),
              here_yes server past g.fid.fileset m.moves r.0,
            ),
            λ y. is_not (applied server past m.host (number_of g)) r.1 (applied_is server past m.host (number_of g) y),
          )

      by_body : (m : Message) (b : Body) → s.cause ≡ Came m → m.body ≡ b → AppliesBody tree s m.host b
          → ((h : HostId) (g : Give) → FirstGiven server past s h g → ⊥)
          → ((h : HostId) → FirstDown past s h → ⊥) → by_cause s.applied ≡ []
      by_body m (GiveBack g) c is x no_ up = absurd (no_ m.host g (first_is m g c is))
      by_body m Down c is x no_ up = absurd (up m.host (first_down m c is))
      by_body m b c is x no_ up = x

      none : (cause : Cause) → s.cause ≡ cause → AppliesCause tree s cause
          → ((h : HostId) (g : Give) → FirstGiven server past s h g → ⊥)
          → ((h : HostId) → FirstDown past s h → ⊥) → by_cause s.applied ≡ []
      none (Came m) c x no_ up = by_body m m.body c refl x no_ up
      none (LineOf n) c x no_ up = x.0
      none cause c x no_ up = x

no_file_is : (o : Option Fid) → no_file o ≡ true → o ≡ None
unfolding no_file
no_file_is None e = refl
no_file_is (Some fid) e = absurd (cc)

restart_deed : (d : Deed) → is_restart_deed d ≡ true → d ≡ Restarts
unfolding is_restart_deed
restart_deed Restarts e = refl
restart_deed d e = absurd (cc)

restart_line : (lines : List Line) (steps : List Step) (n : ℕ) (o : Option Line) → slice_get lines (lines_gone steps) ≡ o
    → is_restart_line n o ≡ true → (line : Line) × IsNextLine lines steps n line × (line.deed ≡ Restarts)
unfolding is_restart_line
restart_line lines steps n None is e = absurd (cc)
restart_line lines steps n (Some line) is e =
    let p = and_parts (line.number == n) (is_restart_deed line.deed) e in
    (line, (is, eqb-true line.number n p.0), restart_deed line.deed p.1)

other_line : (lines : List Line) (steps : List Step) (n : ℕ) (o : Option Line) → slice_get lines (lines_gone steps) ≡ o
    → is_other_line n o ≡ true → (line : Line) × IsNextLine lines steps n line × (line.deed ≡ Restarts → ⊥)
unfolding is_other_line is_restart_deed
other_line lines steps n None is e = absurd (cc)
other_line lines steps n (Some line) is e =
    let p = and_parts (line.number == n) (not (is_restart_deed line.deed)) e in (
      line,
      (is, eqb-true line.number n p.0),
      λ r. is_not (is_restart_deed line.deed) p.1 (subst (λ d. is_restart_deed d ≡ true) (sym r) refl),
    )

-- all rules of a step
pub step_meets : (script : Script) (start : Tree) (server : ServerId) (steps : List Step) (past : List Doing) (s : Step)
    → AppliesCause (filesets_kept start server steps) s s.cause
    → TellsAll (filesets_through s.cause s.applied (filesets_kept start server steps)) s.sent
    → passes (step_tests server (lines_of script (Server server)) (filesets_kept start server steps) steps past s) ≡ true
    → ServerMeets script start server steps past s
unfolding step_tests lines_right act_right
step_meets script start server steps past s applies_ tells e =
    let tree = filesets_kept start server steps in
    let now = filesets_through s.cause s.applied tree in
    let lines = lines_of script (Server server) in
    let t = all_true (step_tests server lines tree steps past s) e in
    let u = t.1.1.1.1.1.1.1 in
    let v = u.1.1.1.1.1.1.1.1 in
    let said = all_answered server past s t.0 in
    record {
      may = record {
        tokens = record {
          writes = may_all server (deciding s.applied) (after_cause s.cause past) t.1.0;
          admits = may_all server (admitting s.admitted) (after_deciding s past) t.1.1.0;
          sends = may_all server (sending s.sent) (after_admitting s past) t.1.1.1.0;
          reserves = may_act server (after_shipping s past) (Reserves s.reserved) (none_right s.reserved t.1.1.1.1.0);
        };
        no_host = record {
          causes = (
            λ c. not_evict lines (subst (λ c. lines_right lines steps c ≡ true) c u.0),
            λ c. not_end lines (subst (λ c. lines_right lines steps c ≡ true) c u.0),
          );
          does_none = (
            not_asked s.asked u.1.0,
            none_is s.taken u.1.1.0,
            none_is s.answers u.1.1.1.0,
            no_file_is s.wrote u.1.1.1.1.0,
            none_is s.begun u.1.1.1.1.1.0,
            none_is s.made u.1.1.1.1.1.1.0,
            none_is s.dropped u.1.1.1.1.1.1.1.0,
          );
        };
        answers = said.0;
        works = record {
          applies = all_applied server tree past s applies_ t.1.1.1.1.1.0 t.1.1.1.1.1.1.0 t.1.1.1.1.0;
          decides = decides_all server (filesets_through s.cause (by_cause s.applied) tree) past (after_cause s.cause past)
              s (decisions s.applied) v.0;
          sends = sends_all server now s s.sent (after_admitting s past) tells v.1.1.0;
        };
      };
      due = record {
        lines = record {
          bare = λ n c. (
            (subst (AppliesCause tree s) c applies_).1,
            line_at lines n (subst (λ c. lines_right lines steps c ≡ true) c u.0),
          );
          restarts = λ n c. restart_at lines n (subst (λ c. lines_right lines steps c ≡ true) c u.0);
        };
        answers = said.1;
        decided = has_decided server now past (after_deciding s past) s v.1.0;
        sent = has_sent server now past (after_step s past) s v.1.1.1.0;
      };
    }
  where
    none_right : (ts : List Token) → is_none ts ≡ true → act_right server (after_shipping s past) (Reserves ts) ≡ true
    none_right ts e = e

    line_at : (lines : List Line) (n : ℕ) → lines_right lines steps (LineOf n) ≡ true
        → (line : Line) × IsNextLine lines steps n line × (line.deed ≡ Restarts → ⊥)
    line_at lines n e = other_line lines steps n (slice_get lines (lines_gone steps)) refl e

    not_evict : (lines : List Line) → lines_right lines steps Evict ≡ true → ⊥
    not_evict lines e = cc

    not_end : (lines : List Line) → lines_right lines steps End ≡ true → ⊥
    not_end lines e = cc

    restart_at : (lines : List Line) (n : ℕ) → lines_right lines steps (Restart n) ≡ true
        → (line : Line) × IsNextLine lines steps n line × (line.deed ≡ Restarts)
    restart_at lines n e = restart_line lines steps n (slice_get lines (lines_gone steps)) refl e
