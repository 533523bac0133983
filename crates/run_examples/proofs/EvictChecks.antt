-- All rules of a host's step that evicts a token, computed. Each idle token was used in the host's last step, so that
-- each is the oldest.
use Rattle.std.proofs.Common.{Bool, List, Some, [], arith, inl, inr, length, refl, subst, suc, sym, true}
use Rattle.std.proofs.Common.{ℕ, ◌||◌, ◌==◌, ◌∙◌, ◌∷◌, ◌≡◌}
use Rattle.std.proofs.lemmas.Bool.{eqb-true, or_cases}
use Rattle.std.specs.Prelude.{map, not}
use Rattle.std.specs.List.{list_all, list_any}
use Rattle.base_types.specs.declared.ids.HostId.{HostId}
use Rattle.base_types.specs.declared.ids.ServerId.{ServerId}
use Rattle.base_types.specs.declared.ids.Node.TheVariants.{Host}
use Rattle.base_types.specs.declared.user.User.{User}
use Rattle.tree_calls.specs.Rosters.{user_of}
use Rattle.tree_calls.specs.declared.roster.Roster.{Roster}
use Rattle.script_lines.specs.declared.script.Script.{Script}
use Rattle.token_types.specs.declared.token.Token.{Token}
use Rattle.run_tokens.proofs.Evicting.{last_before}
use Rattle.run_rules.specs.HostDue.{HostDue, LeavesDue}
use Rattle.run_rules.specs.HostMay.{HostLines, HostMay}
use Rattle.run_rules.specs.HostTokens.{HostLeaves, IsOldest, IsUnused, LastUsed, MayEvict, MayLeave, UsesToken}
use Rattle.run_rules.specs.HostTokens.{helps_cover}
use Rattle.run_rules.specs.Past.{EachOnce, In}
use Rattle.run_rules.specs.Steps.{limit_of, lines_of, servers_of}
use Rattle.run_rules.specs.Tokens.{AtHand}
use Rattle.run_rules.specs.declared.applied.Why.TheVariants.{Evicted}
use Rattle.run_rules.specs.declared.applied.Answer.{Answer}
use Rattle.run_rules.specs.declared.applied.Leave.{Leave}
use Rattle.run_rules.specs.declared.step.Cause.TheVariants.{Line as LineOf, Restart, Evict, End, Flushed}
use Rattle.run_rules.specs.declared.step.Step.{Step}
use Rattle.run_examples.proofs.Tests.{AllTrue, all_true, apart, fids, from_filter, is_none, is_not, none_in, none_is, passes}
use Rattle.run_examples.proofs.Tests.{at_all, same_token, some_in, token_is, tokens}
use Rattle.run_examples.proofs.Words.{held, in_held}
use Rattle.run_examples.proofs.TokenChecks.{is_down, says, stops_it, token_tests, tokens_meet}
use Rattle.run_examples.proofs.LabelWords.{is_local, is_used, is_used_is}
use Rattle.run_examples.proofs.CallWords.{begins_in, begins_now, open_calls, the_call}
use Rattle.run_examples.proofs.StanceChecks.{once_from, stance_of, stance_tests}
use Rattle.run_examples.proofs.AnswerChecks.{answer_tests, answers_meet, needs_at}
use Rattle.run_examples.proofs.AskTests.{all_asked, asking_tests}
use Rattle.run_examples.proofs.GiveChecks.{give_tests, gives_meet, recall_tests, revoked_meet, revokes_due}
use Rattle.run_examples.proofs.HostChecks.{are_alike, calls_due, same_gift, sent_once}
use Rattle.run_examples.specs.Laws.{Does}
use Rattle.run_examples.proofs.LapseChecks.{repeats_due, resend_tests, resends_meet, take_tests, taken_once, takes_meet}
use Rattle.run_examples.proofs.LeaveChecks.{end_tests, ends_meet, idle, idle_in, none_open_is}

-- a step uses a token
unfoldable pub uses_now : ServerId → HostId → User → List Step → Step → Token → Bool
uses_now site host user past s u =
    list_any (same_token u) s.taken
    || list_any (λ (a : Answer). list_any (helps_cover u) (needs_at site host user past s a.call)) s.answers

module _ (site : ServerId) (roster : Roster) (host : HostId) (user : User) (past : List Step) (s : Step)
    (acts : user_of roster host ≡ Some user) (known : passes (stance_tests site host past s) ≡ true) where
  uses_is : (u : Token) → uses_now site host user past s u ≡ true → UsesToken roster host past s u
  unfolding uses_now
  uses_is u e =
      elim (or_cases (list_any (same_token u) s.taken) (list_any (λ (a : Answer). list_any (helps_cover u)
      (needs_at site host user past s a.call)) s.answers) e) [
        | inl x ↦ (
            let p = some_in (same_token u) s.taken x in
            inl (subst (λ t. In t s.taken) (sym (token_is u p.0 p.2)) p.1)
            )
        | inr x ↦ (
            let p = some_in (λ (a : Answer). list_any (helps_cover u) (needs_at site host user past s a.call)) s.answers x in
            let q = some_in (helps_cover u) (needs_at site host user past s p.0.call) p.2 in
            inr (stance_of site roster host user past s acts known, p.0, q.0, p.1, q.1, q.2)
            )
      ]

last_now : (roster : Roster) (host : HostId) (past : List Step) (s : Step) (t : Token) (n : ℕ)
    → UsesToken roster host past s t → LastUsed roster host (s ∷ past) t n → n ≡ suc (length past)
last_now roster host past s t n uses (inl x) = x.1
last_now roster host past s t n uses (inr x) = absurd (x.1 uses)

in_idle : (past : List Step) (t : Token) → In t (idle past) → IsUnused past t
unfolding idle
in_idle past t m =
    let p = from_filter (λ (t : Token). not (is_used past t.id)) (held past) t m in
    (in_held past t p.0, λ u. is_not (is_used past t.id) p.1 (is_used_is past t.id u))

unfoldable pub may_evict : ServerId → ℕ → List Step → List Bool
may_evict site limit past =
    is_none (open_calls site past) ∷ apart same_token (idle past) ∷ (length (idle past) == suc limit) ∷ []

may_evict_is : (site : ServerId) (limit : ℕ) (past : List Step) → is_local site past ≡ true
    → passes (may_evict site limit past) ≡ true → MayEvict past limit
unfolding may_evict
may_evict_is site limit past local e =
    let t = all_true (may_evict site limit past) e in (
      none_open_is site past local t.0,
      (
        idle past,
        once_from same_token (idle past) (λ x. tokens x x refl) t.1.0,
        eqb-true (length (idle past)) (suc limit) t.1.1.0,
        λ u m. in_idle past u m,
      ),
    )

unfoldable pub evict_tests : ServerId → Script → HostId → User → List Step → Step → Step → Token → List Bool
evict_tests site script host user before last s t =
    passes (stance_tests site host (last ∷ before) s)
    ∷ passes (token_tests site (last ∷ before) s)
    ∷ passes (take_tests (last ∷ before) s)
    ∷ passes (answer_tests site host user (last ∷ before) s)
    ∷ passes (asking_tests site host user (last ∷ before) s)
    ∷ passes (give_tests site (last ∷ before) s)
    ∷ passes (recall_tests (last ∷ before) s)
    ∷ passes (resend_tests site (last ∷ before) s)
    ∷ passes (end_tests site (lines_of script (Host host)) (limit_of script.roster host) (last ∷ before) s)
    ∷ is_local site (last ∷ before)
    ∷ passes (may_evict site (limit_of script.roster host) (last ∷ before))
    ∷ passes (stance_tests site host before last)
    ∷ list_all (uses_now site host user before last) (idle (last ∷ before))
    ∷ list_any (same_token t) (idle (last ∷ before))
    ∷ is_none (begins_now s)
    ∷ not (says is_down s)
    ∷ is_none s.applied
    ∷ is_none s.admitted
    ∷ is_none s.reserved
    ∷ apart are_alike s.sent
    ∷ apart same_gift s.made
    ∷ []

module _ (site : ServerId) (script : Script) (host : HostId) (user : User) (before : List Step) (last s : Step)
    (t : Token) (acts : user_of script.roster host ≡ Some user) (at : s.cause ≡ Evict)
    (leaves : s.dropped ≡ record { token = t; why = Evicted } ∷ [])
    (e : passes (evict_tests site script host user before last s t) ≡ true) where
  abbrev limit : ℕ
  limit = limit_of script.roster host

  abbrev past : List Step
  past = last ∷ before

  all : AllTrue (evict_tests site script host user before last s t)
  all = all_true (evict_tests site script host user before last s t) e

  evict_lines : MayEvict past limit → is_none (begins_now s) ≡ true → not (says is_down s) ≡ true → s.applied ≡ []
      → s.admitted ≡ [] → s.reserved ≡ []
      → HostLines (lines_of script (Host host)) (servers_of script.roster) limit past s
  evict_lines may none quiet a b c = record {
    next = λ m is. absurd (let w : Evict ≡ LineOf m = sym at ∙ is in cc);
    free = λ m is. absurd (let w : Evict ≡ LineOf m = sym at ∙ is in cc);
    begins = λ k call begun. absurd (none_in (begins_now s) (the_call k call) none (begins_in s k call begun));
    stops = λ st. absurd (is_not (says is_down s) quiet (stops_it s st));
    no_server = (
      λ m is. (let w : Evict ≡ Restart m = sym at ∙ is in cc),
      λ is. (let w : Evict ≡ Flushed = sym at ∙ is in cc),
    );
    applies_none = (a, b, c);
  }

  oldest : passes (stance_tests site host before last) ≡ true
      → list_all (uses_now site host user before last) (idle past) ≡ true → IsOldest script.roster host past t
  oldest known used u n m its x y =
      let p = last_before script.roster host past t n x in
      let q = last_now script.roster host before last u m (uses_is site script.roster host user before last acts known u
      (at_all (uses_now site host user before last) (idle past) u used (idle_in past u its))) y in
      omega (arith, p, q)

  evict_leaves : MayEvict past limit → IsUnused past t → IsOldest script.roster host past t
      → HostLeaves script.roster host limit past s
  evict_leaves may its old = record { leaves = λ l m. go l (subst (In l) leaves m) }
    where
      go : (l : Leave) → In l (record { token = t; why = Evicted } ∷ [])
          → MayLeave script.roster host limit past s l.why l.token
      go l (inl p) = subst (λ (x : Leave). MayLeave script.roster host limit past s x.why x.token) (sym p)
          (at, may, its, old)
      go l (inr p) = elim p [ ]

  pub evict_meets : HostMay script host past s
  unfolding evict_tests
  evict_meets =
      let known = all.0 in
      let tail = all.1.1.1.1.1.1.1.1.1 in
      let may = may_evict_is site limit past tail.0 tail.1.0 in
      let its = some_in (same_token t) (idle past) tail.1.1.1.1.0 in
      let idles = in_idle past t (subst (λ u. In u (idle past)) (sym (token_is t its.0 its.2)) its.1) in
      let rest = tail.1.1.1.1.1 in
      record {
        tokens = tokens_meet site past s all.1.0;
        takes = takes_meet past s all.1.1.0;
        stance = stance_of site script.roster host user past s acts known;
        answers = answers_meet site script.roster host user past s acts known all.1.1.1.0;
        asks = all_asked site script.roster host user past s acts known all.1.1.1.1.0;
        gives = gives_meet site past s all.1.1.1.1.1.0;
        revoked = revoked_meet past s all.1.1.1.1.1.1.0;
        resends = resends_meet site past s all.1.1.1.1.1.1.1.0;
        leaves = evict_leaves may idles (oldest tail.1.1.0 tail.1.1.1.0);
        lines = evict_lines may rest.0 rest.1.0 (none_is s.applied rest.1.1.0) (none_is s.admitted rest.1.1.1.0)
            (none_is s.reserved rest.1.1.1.1.0);
        ends = ends_meet site (lines_of script (Host host)) limit past s all.1.1.1.1.1.1.1.1.0;
      }

  leaves_one : MayEvict past limit → IsUnused past t → LeavesDue limit past s
  leaves_one may its = record {
    held = λ l m. elim (subst (In l) leaves m) [
      | inl p ↦ subst (λ (x : Leave). AtHand s past x.token) (sym p) (inr its.0)
      | inr p ↦ elim p [ ]
    ];
    evicts = λ is. (may, (record { token = t; why = Evicted }, leaves));
    ends = λ is. absurd (let w : Evict ≡ End = sym at ∙ is in cc);
    ends_all = λ l is. absurd (let w : Evict ≡ End = sym at ∙ is in cc);
  }

  evict_due : HostDue script host past s
  unfolding evict_tests
  evict_due =
      let known = all.0 in
      let tail = all.1.1.1.1.1.1.1.1.1 in
      let may = may_evict_is site limit past tail.0 tail.1.0 in
      let its = some_in (same_token t) (idle past) tail.1.1.1.1.0 in
      let idles = in_idle past t (subst (λ u. In u (idle past)) (sym (token_is t its.0 its.2)) its.1) in
      let rest = tail.1.1.1.1.1 in
      record {
        stance = stance_of site script.roster host user past s acts known;
        calls = calls_due site script host user past s acts known all.1.1.1.0 all.1.1.1.1.0;
        revokes = revokes_due past s (tokens_meet site past s all.1.0) all.1.1.1.1.1.1.0;
        repeats = repeats_due site past s all.1.1.1.1.1.1.1.0;
        leaves = leaves_one may idles;
        once = sent_once s.sent rest.1.1.1.1.1.0;
        once_taken = taken_once past s all.1.1.0;
        once_dropped = subst (λ (ls : List Leave). EachOnce (map (λ l. l.token) ls)) (sym leaves) (λ m. elim m [ ], tt);
        once_made = once_from same_gift s.made (λ g. fids g.fid g.fid refl) rest.1.1.1.1.1.1.0;
      }

  pub evict_does : Does script host past s
  evict_does = (evict_meets, evict_due)
