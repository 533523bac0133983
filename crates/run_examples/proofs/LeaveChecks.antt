-- The rules of lines, of leaving and of ending for a host's step, computed. A step that evicts passes no test here.
use Rattle.run_rules.specs.HostDue.{LeavesDue}
use Rattle.run_rules.specs.HostMay.{DoesLine, HostEnds, HostLines, TakenBefore}
use Rattle.run_rules.specs.HostTokens.{HostLeaves, IsUnused, MayEvict, MayLeave}
use Rattle.run_rules.specs.Messages.{HasGreeted, HasSaid, Said, Says, Sends}
use Rattle.run_rules.specs.Past.{EachOnce, In}
use Rattle.run_rules.specs.Steps.{IsNextLine, lines_gone}
use Rattle.run_rules.specs.Tokens.{BeginsCall, Drops, HasCall, Held, NoneOpen, calls_begun, end_of}
use Rattle.run_rules.specs.Views.{FindsFile, IsDirtyUnder, Stance, sees}
use Rattle.run_rules.specs.declared.applied.Why.TheVariants.{Ended, Evicted, ForCall, Revoked, Stopped}
use Rattle.std.proofs.Common.{Bool, List, None, Option, Some, [], arith, false, inl, inr, length, refl, subst}
use Rattle.std.proofs.Common.{suc, sym, true}
use Rattle.std.proofs.Common.{ℕ, ◌&&◌, ◌||◌, ◌==◌, ◌∙◌, ◌∷◌, ◌≡◌, ◌≤◌, ◌⊎◌}
use Rattle.std.proofs.lemmas.Bool.{and_parts, and_from, or_cases, or_left, or_right, eqb-true, leb-true}
use Rattle.std.specs.Prelude.{not, nat_le, slice_get}
use Rattle.std.specs.List.{filter, list_all, list_any}
use Rattle.base_types.specs.declared.ids.Fid.{Fid}
use Rattle.base_types.specs.Ids.{same_fid}
use Rattle.base_types.specs.declared.ids.FilesetId.{FilesetId}
use Rattle.base_types.specs.declared.ids.HostId.{HostId}
use Rattle.base_types.specs.declared.ids.ServerId.{ServerId}
use Rattle.base_types.specs.declared.user.User.{User}
use Rattle.tree_calls.specs.Rosters.{user_of}
use Rattle.tree_calls.specs.declared.call.Call.{Call}
use Rattle.tree_calls.specs.declared.call.Call.TheVariants.{Sync}
use Rattle.tree_calls.specs.declared.place.Place.{Place}
use Rattle.tree_calls.specs.declared.reply.Refusal.{Refusal}
use Rattle.tree_calls.specs.declared.roster.Roster.{Roster}
use Rattle.need_host.specs.Looks.{needs_of, outcome}
use Rattle.need_host.specs.Walks.{file_look, root_of}
use Rattle.script_lines.specs.declared.script.Deed.{Deed}
use Rattle.script_lines.specs.declared.script.Deed.TheVariants.{Call as MakesCall, Stop}
use Rattle.script_lines.specs.declared.script.Line.{Line}
use Rattle.std.specs.Prelude.{Result, Ok, Err}
use Rattle.token_types.specs.Conflicts.{same_id}
use Rattle.token_types.specs.declared.token.Token.{Token}
use Rattle.message_types.specs.declared.message.Body.TheVariants.{Hello, Down, Bye}
use Rattle.message_types.specs.declared.message.Message.{Message}
use Rattle.tree_laws.specs.Parts.{Nature}
use Rattle.run_rules.specs.declared.applied.Leave.{Leave}
use Rattle.run_rules.specs.declared.applied.Why.{Why}
use Rattle.run_rules.specs.declared.step.Asked.{Asked as AskedCall}
use Rattle.run_rules.specs.declared.step.Cause.{Cause}
use Rattle.run_rules.specs.declared.step.Cause.TheVariants.{Message as Came, Line as LineOf, Restart, Lapse, Evict}
use Rattle.run_rules.specs.declared.step.Cause.TheVariants.{End, Flushed}
use Rattle.run_rules.specs.declared.step.Labelled.{Labelled}
use Rattle.run_rules.specs.declared.step.Step.{Step}
use Rattle.run_examples.proofs.Tests.{AllTrue, passes, all_true, implies, so, is_not, not_is, at_all, some_in, any_of}
use Rattle.run_examples.proofs.Tests.{is_none, none_is}
use Rattle.run_examples.proofs.Tests.{none_in, same_server, server_is, servers, fid_is, same_token, token_is}
use Rattle.run_examples.proofs.Tests.{same_end, end_is, in_filter}
use Rattle.run_examples.proofs.Words.{at_sends, drops_it, drops_yes, held, held_in, hand, in_hand, in_said, said}
use Rattle.run_examples.proofs.Words.{recalled}
use Rattle.run_examples.proofs.Words.{is_recalled}
use Rattle.run_examples.proofs.TokenChecks.{is_bye, is_down, says, stops_it, stops_yes, down_is}
use Rattle.run_examples.proofs.LabelWords.{in_use, in_used, used_in, frees, frees_yes, is_local, is_used, is_used_is, in_any_use}
use Rattle.run_examples.proofs.LabelWords.{is_used_yes, same_use}
use Rattle.run_examples.proofs.LabelWords.{use_same}
use Rattle.run_examples.proofs.DirtWords.{dirty_under, dirty_under_yes}
use Rattle.run_examples.proofs.CallWords.{begins_in, begins_now, entered, in_begins, in_turns, open_calls, open_in}
use Rattle.run_examples.proofs.CallWords.{the_call, turns}
use Rattle.run_examples.proofs.StanceChecks.{seen_in, stance_of, stance_tests}
use Rattle.run_examples.proofs.AnswerChecks.{call_is, cover_all, covers_it, no_asked, same_call}
use Rattle.run_examples.proofs.LapseChecks.{bye_body, hello_body, is_hello, not_asked}

unfoldable pub is_end : Cause → Bool
is_end End = true
is_end _ = false

end_cause : (c : Cause) → is_end c ≡ true → c ≡ End
unfolding is_end is_bye
end_cause End e = refl
end_cause c e = absurd (cc)

-- the pigeonhole: distinct elements of a list are no more than it has
without : {A : Type 0} (x : A) (ys : List A) → In x ys
    → (zs : List A) × (suc (length zs) ≡ length ys) × ((y : A) → In y ys → (y ≡ x) ⊎ In y zs)
unfolding is_end is_bye
without x [] m = elim m [ ]
without x (z ∷ ys) (inl p) = (ys, omega arith, λ y m. elim m [ inl q ↦ inl (q ∙ sym p) | inr n ↦ inr n ])
without x (z ∷ ys) (inr m) =
    let r = without x ys m in
    let e = r.1 in (
      z ∷ r.0,
      omega arith,
      λ y k. elim k [
        | inl q ↦ inr (inl q)
        | inr n ↦ (elim
            (r.2 y n) [ inl q ↦ inl q | inr q ↦ inr (inr q) ])
      ],
    )

pub no_more : {A : Type 0} (xs ys : List A) → EachOnce xs → ((x : A) → In x xs → In x ys) → length xs ≤ length ys
unfolding is_end is_bye
no_more {A = A} [] ys once all = omega arith
no_more {A = A} (x ∷ xs) ys once all =
    let r = without x ys (all x (inl refl)) in
    let e = r.1 in
    let h = no_more xs r.0 once.1 (λ y m. others r.0 y m (r.2 y (all y (inr m)))) in
    omega arith
  where
    others : (zs : List A) (y : A) → In y xs → (y ≡ x) ⊎ In y zs → In y zs
    others zs y m (inl q) = absurd (once.0 (subst (λ w. In w xs) q m))
    others zs y m (inr q) = q

unfoldable pub idle : List Step → List Token
idle past = filter (λ t. not (is_used past t.id)) (held past)

pub idle_in : (past : List Step) (t : Token) → IsUnused past t → In t (idle past)
unfolding is_end idle is_bye
idle_in past t (h, n) =
    in_filter (λ (t : Token). not (is_used past t.id)) (held past) t (held_in past t h) (not_is (is_used past t.id)
    (λ e. n (is_used_yes past t.id e)))

unfoldable pub few_idle : List Step → ℕ → Bool
few_idle past limit = nat_le (length (idle past)) limit

pub few_is : (past : List Step) (limit : ℕ) → few_idle past limit ≡ true → MayEvict past limit → ⊥
unfolding is_end idle few_idle is_bye
few_is past limit e (none_, (tokens, once, long, all)) =
    let a = no_more tokens (idle past) once (λ t m. idle_in past t (all t m)) in
    let b = leb-true (length (idle past)) limit e in
    omega (arith, long)

unfoldable pub all_dropped : List Step → Step → Bool
all_dropped past s = list_all (drops_it s) (held past)

all_dropped_is : (past : List Step) (s : Step) → all_dropped past s ≡ true → (t : Token) → Held past t → Drops s t
unfolding is_end idle few_idle all_dropped is_bye
all_dropped_is past s e t h = drops_yes s t (at_all (drops_it s) (held past) t e (held_in past t h))

-- lines
unfoldable pub begins_as : List Step → Call → AskedCall → Bool
begins_as past call c = (c.k == suc (calls_begun past)) && same_call c.call call

unfoldable pub says_down : Step → ServerId → Bool
says_down s v = list_any (λ m. is_down m.body && same_server m.server v) s.sent

unfoldable pub deed_right : List ServerId → List Step → Step → Deed → Bool
deed_right servers past s (MakesCall call) = list_any (begins_as past call) (begins_now s)
deed_right servers past s Stop =
    (list_all (says_down s) servers && all_dropped past s) && (no_asked s.asked &&
    (is_none s.answers && is_none s.made))
deed_right servers past s _ = false

down_to : (s : Step) (v : ServerId) → says_down s v ≡ true → (e n : ℕ) × Sends s v e n Down
unfolding is_end idle few_idle all_dropped begins_as says_down deed_right is_bye
down_to s v e =
    let p = some_in (λ m. is_down m.body && same_server m.server v) s.sent e in
    let q = and_parts (is_down p.0.body) (same_server p.0.server v) p.2 in
    (p.0.epoch, p.0.moves, (p.0, p.1, server_is p.0.server v q.1, refl, refl, down_is p.0.body q.0))

deed_is : (servers : List ServerId) (past : List Step) (s : Step) (d : Deed) → deed_right servers past s d ≡ true
    → DoesLine servers past s d
unfolding is_end idle few_idle all_dropped begins_as says_down deed_right is_bye
deed_is servers past s (MakesCall call) e =
    let p = some_in (begins_as past call) (begins_now s) e in
    let q = and_parts (p.0.k == suc (calls_begun past)) (same_call p.0.call call) p.2 in
    let k = eqb-true p.0.k (suc (calls_begun past)) q.0 in
    let c = call_is p.0.call call q.1 in
    subst (λ (x : AskedCall). BeginsCall s x.k x.call) (λ i. the_call (k i) (c i)) (in_begins s p.0 p.1)
deed_is servers past s Stop e =
    let a = list_all (says_down s) servers in
    let p = and_parts (a && all_dropped past s) (no_asked s.asked && (is_none s.answers && is_none s.made)) e in
    let q = and_parts a (all_dropped past s) p.0 in
    let r = and_parts (no_asked s.asked) (is_none s.answers && is_none s.made) p.1 in
    let u = and_parts (is_none s.answers) (is_none s.made) r.1 in (
      λ v m. down_to s v (at_all (says_down s) servers v q.0 m),
      all_dropped_is past s q.1,
      not_asked s.asked r.0,
      none_is s.answers u.0,
      none_is s.made u.1,
    )
deed_is servers past s d e = absurd (cc)

unfoldable pub next_right : List ServerId → List Step → Step → ℕ → Option Line → Bool
next_right servers past s n None = false
next_right servers past s n (Some line) = (line.number == n) && deed_right servers past s line.deed

next_is : (lines : List Line) (servers : List ServerId) (past : List Step) (s : Step) (n : ℕ) (o : Option Line)
    → slice_get lines (lines_gone past) ≡ o → next_right servers past s n o ≡ true
    → (line : Line) × IsNextLine lines past n line × DoesLine servers past s line.deed
unfolding is_end idle few_idle all_dropped begins_as says_down deed_right next_right is_bye
next_is lines servers past s n None is e = absurd (cc)
next_is lines servers past s n (Some line) is e =
    let p = and_parts (line.number == n) (deed_right servers past s line.deed) e in
    (line, (is, eqb-true line.number n p.0), deed_is servers past s line.deed p.1)

unfoldable pub is_stop_deed : Deed → Bool
is_stop_deed Stop = true
is_stop_deed _ = false

unfoldable pub is_stop_line : Option Line → Bool
is_stop_line None = false
is_stop_line (Some line) = is_stop_deed line.deed

stop_deed : (d : Deed) → is_stop_deed d ≡ true → d ≡ Stop
unfolding is_end idle few_idle all_dropped begins_as says_down deed_right next_right is_stop_deed is_stop_line is_bye
stop_deed Stop e = refl
stop_deed d e = absurd (cc)

unfoldable pub line_right : ServerId → List Line → List ServerId → ℕ → List Step → Step → Cause → Bool
line_right site lines servers limit past s (LineOf n) =
    next_right servers past s n (slice_get lines (lines_gone past))
    && ((is_none (open_calls site past) && few_idle past limit)
    && implies (says is_down s) (is_stop_line (slice_get lines (lines_gone past))))
line_right site lines servers limit past s End = not (says is_down s)
line_right site lines servers limit past s (Came m) = is_none (begins_now s) && not (says is_down s)
line_right site lines servers limit past s Lapse = is_none (begins_now s) && not (says is_down s)
line_right site lines servers limit past s _ = false

unfoldable pub line_tests : ServerId → List Line → List ServerId → ℕ → List Step → Step → List Bool
line_tests site lines servers limit past s =
    line_right site lines servers limit past s s.cause
    ∷ is_none s.applied ∷ is_none s.admitted ∷ is_none s.reserved
    ∷ is_local site past
    ∷ []

pub none_open_is : (site : ServerId) (past : List Step) → is_local site past ≡ true → is_none
    (open_calls site past) ≡ true → NoneOpen past
unfolding is_end idle few_idle all_dropped begins_as says_down deed_right next_right is_stop_deed is_stop_line
    line_right line_tests is_bye
none_open_is site past local e c o = none_in (open_calls site past) c e (open_in site past c local o)

pub lines_by : (site : ServerId) (lines : List Line) (servers : List ServerId) (limit : ℕ) (past : List Step)
    (s : Step) (cause : Cause)
    → s.cause ≡ cause → line_right site lines servers limit past s cause ≡ true → is_none s.applied ≡ true
    → is_none s.admitted ≡ true
    → is_none s.reserved ≡ true → is_local site past ≡ true → HostLines lines servers limit past s
unfolding is_end idle few_idle all_dropped begins_as says_down deed_right next_right is_stop_deed is_stop_line
    line_right line_tests is_bye
lines_by site lines servers limit past s (LineOf n) is e a b c local =
    let x = next_right servers past s n (slice_get lines (lines_gone past)) in
    let y = is_none (open_calls site past) && few_idle past limit in
    let z = implies (says is_down s) (is_stop_line (slice_get lines (lines_gone past))) in
    let p = and_parts x (y && z) e in
    let q = and_parts y z p.1 in
    let r = and_parts (is_none (open_calls site past)) (few_idle past limit) q.0 in
    record {
      next = λ m at. next_is lines servers past s m (slice_get lines (lines_gone past)) refl (subst
          (λ k. next_right servers past s k (slice_get lines (lines_gone past)) ≡ true) (same n m (sym is ∙ at)) p.0);
      free = λ m at. (none_open_is site past local r.0, few_is past limit r.1);
      begins = λ k call begun. inl (n, is);
      stops = λ st. stopping (slice_get lines (lines_gone past)) refl (so (says is_down s) (is_stop_line
          (slice_get lines (lines_gone past))) q.1 (stops_it s st)) p.0;
      no_server = (
        λ m at. (let w : LineOf n ≡ Restart m = sym is ∙ at in cc),
        λ at.
            (let w : LineOf n ≡ Flushed = sym is ∙ at in cc),
      );
      applies_none = (none_is s.applied a, none_is s.admitted b, none_is s.reserved c);
    }
  where
    same : (n m : ℕ) → LineOf n ≡ LineOf m → n ≡ m
    same n m w = cc

    stopping : (o : Option Line) → slice_get lines (lines_gone past) ≡ o → is_stop_line o ≡ true
        → next_right servers past s n o ≡ true
        → (k : ℕ) × (line : Line) × (s.cause ≡ LineOf k) × IsNextLine lines past k line × (line.deed ≡ Stop)
    stopping None at t u = absurd (cc)
    stopping (Some line) at t u =
        let w = and_parts (line.number == n) (deed_right servers past s line.deed) u in
        (n, line, is, (at, eqb-true line.number n w.0), stop_deed line.deed t)
lines_by site lines servers limit past s End is e a b c local = record {
  next = λ m at. absurd (let w : End ≡ LineOf m = sym is ∙ at in cc);
  free = λ m at. absurd (let w : End ≡ LineOf m = sym is ∙ at in cc);
  begins = λ k call begun. inr is;
  stops = λ st. absurd (is_not (says is_down s) e (stops_it s st));
  no_server = (
    λ m at. (let w : End ≡ Restart m = sym is ∙ at in cc),
    λ at.
        (let w : End ≡ Flushed = sym is ∙ at in cc),
  );
  applies_none = (none_is s.applied a, none_is s.admitted b, none_is s.reserved c);
}
lines_by site lines servers limit past s (Came m) is e a b c local =
    let p = and_parts (is_none (begins_now s)) (not (says is_down s)) e in
    record {
      next = λ n at. absurd (let w : Came m ≡ LineOf n = sym is ∙ at in cc);
      free = λ n at. absurd (let w : Came m ≡ LineOf n = sym is ∙ at in cc);
      begins = λ k call begun. absurd (none_in (begins_now s) (the_call k call) p.0 (begins_in s k call begun));
      stops = λ st. absurd (is_not (says is_down s) p.1 (stops_it s st));
      no_server = (
        λ n at. (let w : Came m ≡ Restart n = sym is ∙ at in cc),
        λ at.
            (let w : Came m ≡ Flushed = sym is ∙ at in cc),
      );
      applies_none = (none_is s.applied a, none_is s.admitted b, none_is s.reserved c);
    }
lines_by site lines servers limit past s Lapse is e a b c local =
    let p = and_parts (is_none (begins_now s)) (not (says is_down s)) e in
    record {
      next = λ n at. absurd (let w : Lapse ≡ LineOf n = sym is ∙ at in cc);
      free = λ n at. absurd (let w : Lapse ≡ LineOf n = sym is ∙ at in cc);
      begins = λ k call begun. absurd (none_in (begins_now s) (the_call k call) p.0 (begins_in s k call begun));
      stops = λ st. absurd (is_not (says is_down s) p.1 (stops_it s st));
      no_server = (
        λ n at. (let w : Lapse ≡ Restart n = sym is ∙ at in cc),
        λ at.
            (let w : Lapse ≡ Flushed = sym is ∙ at in cc),
      );
      applies_none = (none_is s.applied a, none_is s.admitted b, none_is s.reserved c);
    }
lines_by site lines servers limit past s cause is e a b c local = absurd (cc)

pub lines_meet : (site : ServerId) (lines : List Line) (servers : List ServerId) (limit : ℕ) (past : List Step)
    (s : Step)
    → passes (line_tests site lines servers limit past s) ≡ true → HostLines lines servers limit past s
unfolding is_end idle few_idle all_dropped begins_as says_down deed_right next_right is_stop_deed is_stop_line
    line_right line_tests is_bye
lines_meet site lines servers limit past s e =
    let t = all_true (line_tests site lines servers limit past s) e in
    lines_by site lines servers limit past s s.cause refl t.0 t.1.0 t.1.1.0 t.1.1.1.0 t.1.1.1.1.0

-- why tokens leave
unfoldable pub finds_it : Result (Fid × Nature) Refusal → Fid → Bool
finds_it (Ok found) fid = same_fid found.0 fid
finds_it (Err refusal) fid = false

finds_is : (r : Result (Fid × Nature) Refusal) (fid : Fid) → finds_it r fid ≡ true → (nature : Nature) × (r ≡ Ok
    (fid, nature))
unfolding is_end idle few_idle all_dropped begins_as says_down deed_right next_right is_stop_deed is_stop_line
    line_right line_tests finds_it is_bye
finds_is (Ok found) fid e = let p = fid_is found.0 fid e in (found.1, λ i. Ok (p i, found.1))
finds_is (Err refusal) fid e = absurd (cc)

unfoldable pub finds_from : ServerId → User → List Step → Step → Place → Fid → Option FilesetId → Bool
finds_from site user past s place fid None = false
finds_from site user past s place fid (Some id) =
    list_all (covers_it (hand s past)) (needs_of (sees past s) (file_look user (root_of id) place.path))
    && finds_it (outcome (sees past s) (file_look user (root_of id) place.path)) fid

abbrev pub syncs_by : ServerId → User → List Step → Step → Token → Call → Bool
syncs_by site user past s t (Sync place) =
    finds_from site user past s place t.fid (seen_in (entered site (s ∷ past)) place.server place.fileset)
syncs_by site user past s t _ = false

unfoldable pub syncs_token : ServerId → User → List Step → Step → Token → AskedCall → Bool
syncs_token site user past s t c = syncs_by site user past s t c.call

unfoldable pub last_use : ServerId → List Step → Step → Token → Labelled → Bool
last_use site past s t u =
    (same_token u.token t && frees past u) && list_any (λ c. same_end c.call (end_of u)) (turns site past s)

unfoldable pub may_leave : ServerId → User → List Step → Step → Why → Token → Bool
may_leave site user past s Revoked t = list_any (same_id t.id) (recalled past s.cause) && not (is_used past t.id)
may_leave site user past s Evicted t = false
may_leave site user past s ForCall t =
    (list_any (syncs_token site user past s t) (turns site past s) && dirty_under past s t)
    || list_any (last_use site past s t) (in_use past)
may_leave site user past s Ended t = is_end s.cause && is_none (in_use past)
may_leave site user past s Stopped t = says is_down s

unfoldable pub is_evict : Cause → Bool
is_evict Evict = true
is_evict _ = false

unfoldable pub leave_tests : ServerId → User → List Step → Step → List Bool
leave_tests site user past s =
    list_all (λ (l : Leave). may_leave site user past s l.why l.token) s.dropped ∷ not (is_evict s.cause)
    ∷ is_local site past ∷ list_all (λ (l : Leave). list_any (same_token l.token) (hand s past)) s.dropped ∷ []

module _ (site : ServerId) (roster : Roster) (host : HostId) (user : User) (past : List Step) (s : Step)
    (acts : user_of roster host ≡ Some user) (known : passes (stance_tests site host past s) ≡ true)
    (local : is_local site past ≡ true) where
  finds : (place : Place) (fid : Fid) (o : Option FilesetId) → seen_in (entered site (s
      ∷ past)) place.server place.fileset ≡ o
      → finds_from site user past s place fid o ≡ true
      → FindsFile (stance_of site roster host user past s acts known) place fid
  unfolding finds_from
  finds place fid None is e = absurd (cc)
  finds place fid (Some id) is e =
      let look = file_look user (root_of id) place.path in
      let p = and_parts (list_all (covers_it (hand s past)) (needs_of (sees past s) (file_look user
      (root_of id) place.path))) (finds_it (outcome (sees past s) (file_look user
      (root_of id) place.path)) fid) e in
      let q = finds_is (outcome (sees past s) (file_look user (root_of id) place.path)) fid p.1 in
      (id, q.0, is, cover_all (hand s past) (needs_of (sees past s) (file_look user (root_of id) place.path)) p.0, q.1)

  synced : (t : Token) (k : ℕ) (call : Call) → HasCall past s k call → syncs_by site user past s t call ≡ true
      → IsDirtyUnder past s t
      → (k : ℕ) × (place : Place) × (stance : Stance roster host past s) × HasCall past s k (Sync place)
      × FindsFile stance place t.fid × IsDirtyUnder past s t
  synced t k (Sync place) turn e d = (
    k,
    place,
    stance_of site roster host user past s acts known,
    turn,
    finds place t.fid (seen_in (entered site (s
        ∷ past)) place.server place.fileset) refl e,
    d,
  )
  synced t k call turn e d = absurd (cc)

  leave_is : (limit : ℕ) (why : Why) (t : Token) → may_leave site user past s why t ≡ true
      → MayLeave roster host limit past s why t
  unfolding may_leave syncs_token last_use
  leave_is limit Revoked t e =
      let p = and_parts (list_any (same_id t.id) (recalled past s.cause)) (not (is_used past t.id)) e in
      (is_recalled past s t.id p.0, λ u. is_not (is_used past t.id) p.1 (is_used_is past t.id u))
  leave_is limit Evicted t e = absurd (cc)
  leave_is limit ForCall t e =
      elim (or_cases (list_any (syncs_token site user past s t) (turns site past s) && dirty_under past s t)
      (list_any (last_use site past s t) (in_use past)) e) [
        | inl x ↦ (
            let p = and_parts (list_any (syncs_token site user past s t) (turns site past s))
            (dirty_under past s t) x in
            let q = some_in (syncs_token site user past s t) (turns site past s) p.0 in
            inl (synced t q.0.k q.0.call (in_turns site past s q.0 local q.1) q.2 (dirty_under_yes past s t p.1))
            )
        | inr x ↦ (
            let q = some_in (last_use site past s t) (in_use past) x in
            let p = and_parts (same_token q.0.token t && frees past q.0) (list_any (λ c. same_end c.call
            (end_of q.0)) (turns site past s)) q.2 in
            let r = and_parts (same_token q.0.token t) (frees past q.0) p.0 in
            let c = some_in (λ c. same_end c.call (end_of q.0)) (turns site past s) p.1 in
            inr (
              c.0.k,
              q.0,
              subst (λ x. HasCall past s c.0.k x) (end_is c.0.call (end_of q.0) c.2)
                  (in_turns site past s c.0 local c.1),
              frees_yes past q.0 r.1,
              token_is q.0.token t r.0,
            )
            )
      ]
  leave_is limit Ended t e =
      let p = and_parts (is_end s.cause) (is_none (in_use past)) e in
      (end_cause s.cause p.0, λ u x. none_in (in_use past) u p.1 (used_in past u x))
  leave_is limit Stopped t e = stops_yes s e

  pub leaves_meet : (limit : ℕ) → passes (leave_tests site user past s) ≡ true → HostLeaves roster host limit past s
  unfolding leave_tests is_evict
  leaves_meet limit e =
      let t = all_true (leave_tests site user past s) e in
      record {
        leaves = λ l m. leave_is limit l.why l.token (at_all (λ
            (l : Leave). may_leave site user past s l.why l.token) s.dropped l t.0 m);
      }

-- the end
unfoldable pub taken_before : List Step → Labelled → Labelled → Bool
taken_before [] u other = false
taken_before (s ∷ past) u other =
    (list_any (same_use other) s.begun && list_any (same_use u) (in_use past))
    || (taken_before past u other && not (list_any (same_use u) s.begun))

taken_before_is : (past : List Step) (u other : Labelled) → TakenBefore past u other → taken_before past u other ≡ true
unfolding is_end idle few_idle all_dropped begins_as says_down deed_right next_right is_stop_deed is_stop_line
    line_right line_tests finds_it finds_from syncs_token last_use may_leave is_evict leave_tests taken_before is_bye
taken_before_is [] u other x = elim x [ ]
taken_before_is (s ∷ past) u other (inl (m, x)) =
    or_left (list_any (same_use other) s.begun && list_any (same_use u) (in_use past))
    (taken_before past u other && not (list_any (same_use u) s.begun))
    (and_from (list_any (same_use other) s.begun) (list_any (same_use u) (in_use past)) (any_of
    (same_use other) s.begun other m (use_same other other refl))
    (any_of (same_use u) (in_use past) u (used_in past u x) (use_same u u refl)))
taken_before_is (s ∷ past) u other (inr x) =
    or_right (list_any (same_use other) s.begun && list_any (same_use u) (in_use past))
    (taken_before past u other && not (list_any (same_use u) s.begun))
    (and_from (taken_before past u other) (not (list_any (same_use u) s.begun)) (taken_before_is past u other x.0)
    (not_is (list_any (same_use u) s.begun) (λ e. x.1 (in_any_use s.begun u e))))

unfoldable pub is_first_use : List Step → Labelled → Bool
is_first_use past u = list_all (λ other. not (taken_before past other u)) (in_use past)

unfoldable pub ends_first : List Step → AskedCall → Labelled → Bool
ends_first past c u = same_end c.call (end_of u) && is_first_use past u

unfoldable pub implied_right : List Step → AskedCall → Bool
implied_right past c = (c.k == suc (calls_begun past)) && list_any (ends_first past c) (in_use past)

unfoldable pub bye_right : List Step → Step → Message → Bool
bye_right past s m =
    implies (is_bye m.body)
    (list_any (λ k. is_hello k.body && same_server k.server m.server) (said past)
    && (is_none (held (s ∷ past)) && (is_end s.cause || list_any
    (λ k. is_bye k.body && same_server k.server m.server) (said past))))

unfoldable pub at_its_end : Why → Bool
at_its_end Ended = true
at_its_end _ = false

unfoldable pub end_right : ServerId → List Line → ℕ → List Step → Step → List Bool
end_right site lines limit past s =
    (lines_gone past == length lines)
    ∷ is_none (open_calls site past)
    ∷ few_idle past limit
    ∷ (not (is_none (begins_now s)) || (not (is_none s.dropped) || says is_bye s))
    ∷ list_all (implied_right past) (begins_now s)
    ∷ list_all (λ (l : Leave). implies (at_its_end l.why) (is_none (in_use past) && all_dropped past s)) s.dropped
    ∷ []

unfoldable pub end_tests : ServerId → List Line → ℕ → List Step → Step → List Bool
end_tests site lines limit past s =
    implies (is_end s.cause) (passes (end_right site lines limit past s)) ∷ list_all (bye_right past s) s.sent
    ∷ is_local site past ∷ []

some_one : {A : Type 0} (xs : List A) → not (is_none xs) ≡ true → (x : A) × In x xs
unfolding is_end idle few_idle all_dropped begins_as says_down deed_right next_right is_stop_deed is_stop_line
    line_right line_tests finds_it finds_from syncs_token last_use may_leave is_evict leave_tests taken_before
    is_first_use ends_first implied_right bye_right at_its_end end_right end_tests is_bye
some_one [] e = absurd (cc)
some_one (x ∷ xs) e = (x, inl refl)

pub ends_meet : (site : ServerId) (lines : List Line) (limit : ℕ) (past : List Step) (s : Step)
    → passes (end_tests site lines limit past s) ≡ true → HostEnds lines limit past s
unfolding says is_end idle few_idle all_dropped begins_as says_down deed_right next_right is_stop_deed is_stop_line
    line_right line_tests finds_it finds_from syncs_token last_use may_leave is_evict leave_tests taken_before
    is_first_use ends_first implied_right bye_right at_its_end end_right end_tests is_bye
ends_meet site lines limit past s e =
    let t = all_true (end_tests site lines limit past s) e in
    let local = t.1.1.0 in
    record {
      after = λ c. let r = at_end t.0 c in (
        eqb-true (lines_gone past)
            (length lines) r.0,
        none_open_is site past local r.1.0,
        few_is past limit r.1.1.0,
      );
      implied = λ k call c b.
          let r = at_all (implied_right past) (begins_now s) (the_call k call) (at_end t.0 c).1.1.1.1.0
          (begins_in s k call b) in
          let p = and_parts (k == suc (calls_begun past)) (list_any (ends_first past (the_call k call))
          (in_use past)) r in
          let q = some_in (ends_first past (the_call k call)) (in_use past) p.1 in
          let w = and_parts (same_end call (end_of q.0)) (is_first_use past q.0) q.2 in (
            eqb-true k (suc (calls_begun past)) p.0,
            (
              q.0,
              in_used past q.0 q.1,
              end_is call (end_of q.0) w.0,
              λ other x b. is_not
                  (taken_before past other q.0) (at_all (λ other. not (taken_before past other q.0))
                  (in_use past) other w.1 (used_in past other x)) (taken_before_is past other q.0 b),
            ),
          );
      bye = λ v (e, n, p). byes t.1.0 v e n p;
    }
  where
    at_end : implies (is_end s.cause) (passes (end_right site lines limit past s)) ≡ true → s.cause ≡ End → AllTrue
        (end_right site lines limit past s)
    at_end t c = all_true (end_right site lines limit past s) (so (is_end s.cause) (passes
        (end_right site lines limit past s)) t (subst (λ x. is_end x ≡ true) (sym c) refl))

    byes : list_all (bye_right past s) s.sent ≡ true → (v : ServerId) (e n : ℕ) → Sends s v e n Bye
        → HasGreeted past v × ((t : Token) → Held (s ∷ past) t → ⊥) × ((s.cause ≡ End) ⊎ HasSaid past v Bye)
    byes t v e n p =
        let a = list_any (λ k. is_hello k.body && same_server k.server v) (said past) in
        let b = is_end s.cause || list_any (λ k. is_bye k.body && same_server k.server v) (said past) in
        let r = at_sends (bye_right past s) s v e n Bye t p in
        let q = and_parts a (is_none (held (s ∷ past)) && b) r in
        let u = and_parts (is_none (held (s ∷ past))) b q.1 in
        let h = some_in (λ k. is_hello k.body && same_server k.server v) (said past) q.0 in
        let hp = and_parts (is_hello h.0.body) (same_server h.0.server v) h.2 in (
          (
            h.0.epoch,
            h.0.moves,
            subst (λ (x : ServerId). Said past x h.0.epoch h.0.moves Hello)
                (server_is h.0.server v hp.1) (subst (λ b. Said past h.0.server h.0.epoch h.0.moves b)
                (hello_body h.0.body hp.0) (in_said past h.0 h.1)),
          ),
          λ t x. none_in (held (s ∷ past)) t u.0 (held_in (s ∷ past) t x),
          elim (or_cases (is_end s.cause) (list_any (λ k. is_bye k.body && same_server k.server v) (said past)) u.1) [
            | inl x ↦ inl (end_cause s.cause x)
            | inr x ↦ (
                let k = some_in (λ k. is_bye k.body && same_server k.server v) (said past) x in
                let kp = and_parts (is_bye k.0.body) (same_server k.0.server v) k.2 in
                inr (
                  k.0.epoch,
                  k.0.moves,
                  subst (λ (x : ServerId). Said past x k.0.epoch k.0.moves Bye)
                      (server_is k.0.server v kp.1) (subst (λ b. Said past k.0.server k.0.epoch k.0.moves b)
                      (bye_body k.0.body kp.0) (in_said past k.0 k.1)),
                )
                )
          ],
        )

pub leaves_due : (site : ServerId) (user : User) (lines : List Line) (limit : ℕ) (past : List Step) (s : Step)
    → passes (leave_tests site user past s) ≡ true → passes (end_tests site lines limit past s) ≡ true
    → LeavesDue limit past s
unfolding says is_end idle few_idle all_dropped begins_as says_down deed_right next_right is_stop_deed is_stop_line
    line_right line_tests finds_it finds_from syncs_token last_use may_leave is_evict leave_tests taken_before
    is_first_use ends_first implied_right bye_right at_its_end end_right end_tests is_bye
leaves_due site user lines limit past s left e =
    let leave = all_true (leave_tests site user past s) left in
    let t = all_true (end_tests site lines limit past s) e in
    record {
      held = λ l m.
          let k = some_in (same_token l.token) (hand s past)
          (at_all (λ (l : Leave). list_any (same_token l.token) (hand s past)) s.dropped l leave.1.1.1.0 m) in
          in_hand s past l.token (subst (λ x. In x (hand s past)) (sym (token_is l.token k.0 k.2)) k.1);
      evicts = λ c. absurd (is_not (is_evict s.cause) leave.1.0 (subst (λ x. is_evict x ≡ true) (sym c) refl));
      ends = λ c. does (at_end t.0 c).1.1.1.0;
      ends_all = λ l c m w.
          let x = so (at_its_end l.why) (is_none (in_use past) && all_dropped past s)
          (at_all (λ (l : Leave). implies (at_its_end l.why) (is_none (in_use past) && all_dropped past s)) s.dropped l
          (at_end t.0 c).1.1.1.1.1.0 m) (subst (λ y. at_its_end y ≡ true) (sym w) refl) in
          let p = and_parts (is_none (in_use past)) (all_dropped past s) x in
          (λ u y. none_in (in_use past) u p.0 (used_in past u y), all_dropped_is past s p.1);
    }
  where
    at_end : implies (is_end s.cause) (passes (end_right site lines limit past s)) ≡ true → s.cause ≡ End → AllTrue
        (end_right site lines limit past s)
    at_end t c = all_true (end_right site lines limit past s) (so (is_end s.cause) (passes
        (end_right site lines limit past s)) t (subst (λ x. is_end x ≡ true) (sym c) refl))

    does : (not (is_none (begins_now s)) || (not (is_none s.dropped) || says is_bye s)) ≡ true
        → ((k : ℕ) × (call : Call) × BeginsCall s k call) ⊎ (((l : Leave) × In l s.dropped) ⊎ ((v : ServerId)
        × Says s v Bye))
    does t =
        elim (or_cases (not (is_none (begins_now s))) (not (is_none s.dropped) || says is_bye s) t) [
          | inl x ↦ (let p = some_one (begins_now s) x in inl (p.0.k, p.0.call, in_begins s p.0 p.1))
          | inr x ↦
              elim (or_cases (not (is_none s.dropped)) (says is_bye s) x) [
                | inl y ↦ inr (inl (some_one s.dropped y))
                | inr y ↦ (let p = some_in (λ m. is_bye m.body) s.sent y in inr (inr (
                  p.0.server,
                  (p.0.epoch, p.0.moves, (p.0, p.1, refl, refl, refl, bye_body p.0.body p.2)),
                )))
              ]
        ]
