-- The end of a step: what was decided, granted, answered and asked back meets the rules, and the tables stand for it.
use Rattle.std.proofs.Common.{◌≡◌, ◌⊎◌, ◌≤◌, ℕ, Bool, true, List, [], ◌∷◌, ◌++◌, None, length, map}
use Rattle.std.proofs.Common.{inl, inr, refl, sym, ◌∙◌, ap, subst, arith}
use Rattle.std.specs.List.{list_all}
use Rattle.base_types.specs.declared.ids.HostId.{HostId}
use Rattle.base_types.specs.declared.ids.Node.TheVariants.{Server}
use Rattle.base_types.specs.declared.ids.ServerId.{ServerId}
use Rattle.tree_answers.specs.declared.tree.Tree.{Tree}
use Rattle.tree_calls.specs.declared.reply.Refusal.{Refusal}
use Rattle.tree_calls.specs.declared.roster.Roster.{Roster}
use Rattle.token_manager.specs.Managers.{wanted}
use Rattle.token_table.specs.Tables.{Table}
use Rattle.token_types.specs.declared.token.Token.{Token}
use Rattle.token_types.specs.declared.token.TokenId.{TokenId}
use Rattle.message_types.specs.Soundness.{IsHost}
use Rattle.message_types.specs.declared.asking.Change.{Change as ChangeOf}
use Rattle.message_types.specs.declared.giving.Reclaim.{Reclaim as ReclaimOf}
use Rattle.message_types.specs.declared.giving.Reclaimed.{Reclaimed as ReclaimedOf}
use Rattle.message_types.specs.declared.message.Body.{Body}
use Rattle.message_types.specs.declared.message.Body.TheVariants.{Bye, Change, Done, Gone, Grant}
use Rattle.message_types.specs.declared.message.Body.TheVariants.{Reclaim, Reclaimed, Restarted, Revoke}
use Rattle.message_types.specs.declared.message.Message.{Message}
use Rattle.message_types.specs.declared.telling.Done.{Done as DoneOf}
use Rattle.message_types.specs.declared.tokens.Revoke.{Revoke as RevokeOf}
use Rattle.script_lines.specs.declared.script.Script.{Script}
use Rattle.run_rules.specs.Doings.{Doing, HasReclaimed, IsLive, NoGrace, SentNow, TakenNow, TookNow, admitting}
use Rattle.run_rules.specs.Doings.{after_cause}
use Rattle.run_rules.specs.Doings.{after_step, deciding, sending, after_sending}
use Rattle.run_rules.specs.Doings.Doing.{Reserves}
use Rattle.run_rules.specs.Kept.{filesets_kept, filesets_through}
use Rattle.run_rules.specs.Past.{EachInTurn, EachOnce, In, appended}
use Rattle.run_rules.specs.ServerDecides.{IsNewRequest, MayDecideAll, RefusedOn, by_cause, decisions, is_decision}
use Rattle.run_rules.specs.ServerDue.{AdmitsNow, HasDecided, HasSent, ServerAnswers, ServerDue}
use Rattle.run_rules.specs.ServerMay.{MaySend, OnlyAnswers, ServerMay}
use Rattle.run_rules.specs.ServerTokens.{HasTakenGives, ServerTokens}
use Rattle.run_rules.specs.Steps.{bare}
use Rattle.run_rules.specs.Wants.{IsQueued, exporter}
use Rattle.run_rules.specs.declared.applied.Admission.{Admission}
use Rattle.run_rules.specs.declared.applied.Applied.{Applied}
use Rattle.run_rules.specs.declared.applied.Applied.TheVariants.{Done as IsDone, IsDown, Replied, Stored, Wants}
use Rattle.run_rules.specs.declared.applied.Applied.TheVariants.{Moves as IsMoved}
use Rattle.run_rules.specs.declared.applied.Request.TheVariants.{Change as Changes}
use Rattle.run_rules.specs.declared.applied.Wanted.{Wanted}
use Rattle.run_rules.specs.declared.step.Cause.{Cause}
use Rattle.run_rules.specs.declared.step.Step.{Step}
use Rattle.server_decides.specs.StoreKeeping.{StandsFor}
use Rattle.run_tokens.specs.ServerRest.{ServerMeets}
use Rattle.store_state.specs.declared.state.StoreState.{StoreState}
use Rattle.server_decides.specs.Acting.{GivesBelow}
use Rattle.server_tables.specs.Answers.{AreLastChanges}
use Rattle.server_tables.specs.Gives.{AreLast, last_give}
use Rattle.server_tables.specs.Places.{is_of}
use Rattle.server_tables.specs.Standing.{AnsweredStand, Stands, tokens_of}
use Rattle.server_tables.specs.declared.hosts.Hosts.{Hosts}
use Rattle.server_tables.specs.declared.tables.LastGive.{LastGive}
use Rattle.server_tables.specs.declared.tables.Tables.{Tables}
use Rattle.server_tables.proofs.Drafting.{SameReady, decide_ready, refuse_ready}
use Rattle.server_tables.proofs.Greeting.{in_front, in_parts}
use Rattle.server_tables.proofs.Judged.{none_ripe}
use Rattle.server_tables.proofs.Making.{after_both, deciding_both}
use Rattle.server_tables.proofs.Quiet.{reserves_may}
use Rattle.server_tables.proofs.Settling.{of_map, in_map}
use Rattle.server_decides.specs.Drafts.{step_of}
use Rattle.server_decides.specs.Taking.{made}
use Rattle.server_decides.specs.Draft.{Draft}
use Rattle.server_decides.specs.Revoking.{Asking, asked, asked_all, askings, not_asked, revoking}
use Rattle.server_decides.specs.Finishing.{IsFinished}
use Rattle.server_exporter.specs.Machines.{IsAt, IsQuiet, Keeps, IsRested}
use Rattle.server_decides.specs.Serving.{IsServed}
use Rattle.server_decides.specs.Running.{Making}
use Rattle.server_decides.specs.Sending.{Looking, looking}
use Rattle.server_exporter.specs.declared.exporter.Exporter.{Exporter}
use Rattle.server_exporter.proofs.Asks.{AreAnswered, back_answered, back_may, back_once, back_quiet, back_stands}
use Rattle.server_exporter.proofs.Asks.{back_tokens, are_to_ask}
use Rattle.server_exporter.proofs.Calls.{numbered}
use Rattle.server_exporter.proofs.Claims.{sent_heard, sent_is, sent_was}
use Rattle.server_exporter.proofs.Decisions.{decided_by, said_by}
use Rattle.server_exporter.proofs.Doings.{few_hosts}
use Rattle.server_exporter.proofs.Ends.{all_enters, all_grants, all_others, all_uses, none_fresh, none_rested}
use Rattle.server_exporter.proofs.Lapses.{asked_all_is, asks_of, in_turn_both, once_both, sending_append, table_all}
use Rattle.server_exporter.proofs.Lines.{at_end}
use Rattle.server_exporter.proofs.Onsets.{HasBegun, SaysTo, SaysAtOnce}
use Rattle.server_exporter.proofs.Phases.{StaysDeciding, StaysGranting, StaysSending, all_said}
use Rattle.server_exporter.proofs.Phases.{grants_stay, sends_stay}
use Rattle.server_exporter.proofs.Sends.{IsOnTheWay}
use Rattle.server_exporter.proofs.Words.{IsLater, IsSaid}
use Rattle.server_exporter.proofs.Words.IsLater.{OfClaim, OfDone, OfGrant}
use Rattle.server_tables.specs.declared.recovering.Claimed.{Claimed}
use Rattle.message_types.specs.declared.telling.Grant.{Grant as GrantOf}
use Rattle.run_rules.specs.ServerDue.{IsOfChange, empty_reclaimed}
use Rattle.run_rules.specs.ServerDecides.{ServerApplies}
use Rattle.server_exporter.proofs.Lapses.{ask_of, groups_apart}
use Rattle.server_exporter.proofs.Phases.{decisions_stay}
use Rattle.server_tables.specs.Judging.{first_ripe}
use Rattle.server_tables.proofs.Alike.{live_both}
use Rattle.run_rules.specs.Tokens.{number_of}
use Rattle.server_tables.specs.declared.recovering.Recovering.{Recovering}
use Rattle.server_exporter.specs.Machines.{AreTold}
use Rattle.server_exporter.proofs.Tolds.{told_admitted, told_caused, told_decided, told_words}
use Rattle.run_rules.specs.Doings.{after_shipping}
use Rattle.server_exporter.proofs.Middle.{AreGranted, HasCause, IsMid, cause_of, granted_of, mid_of}

-- # What the cause applied stands before what was decided

none_by_cause : (more : List Applied) → list_all is_decision more ≡ true → by_cause more ≡ []
none_by_cause [] e = refl
none_by_cause (Wants w ∷ more) e = refl
none_by_cause (IsDone v ∷ more) e = refl
none_by_cause (IsDown host ∷ more) e = absurd (cc)
none_by_cause (IsMoved move ∷ more) e = absurd (cc)
none_by_cause (Replied answer ∷ more) e = absurd (cc)
none_by_cause (Stored host fid spans length ∷ more) e = absurd (cc)

by_cause_is : (base more : List Applied) → deciding base ≡ [] → list_all is_decision more ≡ true
    → by_cause (base ++ more) ≡ base
by_cause_is [] more n e = none_by_cause more e
by_cause_is (Wants w ∷ base) more n e = absurd (cc)
by_cause_is (IsDone v ∷ base) more n e = absurd (cc)
by_cause_is (IsDown host ∷ base) more n e = ap (λ l. IsDown host ∷ l) (by_cause_is base more n e)
by_cause_is (IsMoved move ∷ base) more n e = absurd (cc)
by_cause_is (Replied answer ∷ base) more n e = ap (λ l. Replied answer ∷ l) (by_cause_is base more n e)
by_cause_is (Stored host fid spans length ∷ base) more n e =
    ap (λ l. Stored host fid spans length ∷ l) (by_cause_is base more n e)

none_left : (more : List Applied) → list_all is_decision more ≡ true → decisions more ≡ more
none_left [] e = refl
none_left (Wants w ∷ more) e = refl
none_left (IsDone v ∷ more) e = refl
none_left (IsDown host ∷ more) e = absurd (cc)
none_left (IsMoved move ∷ more) e = absurd (cc)
none_left (Replied answer ∷ more) e = absurd (cc)
none_left (Stored host fid spans length ∷ more) e = absurd (cc)

decisions_are : (base more : List Applied) → deciding base ≡ [] → list_all is_decision more ≡ true
    → decisions (base ++ more) ≡ more
decisions_are [] more n e = none_left more e
decisions_are (Wants w ∷ base) more n e = absurd (cc)
decisions_are (IsDone v ∷ base) more n e = absurd (cc)
decisions_are (IsDown host ∷ base) more n e = decisions_are base more n e
decisions_are (IsMoved move ∷ base) more n e = absurd (cc)
decisions_are (Replied answer ∷ base) more n e = decisions_are base more n e
decisions_are (Stored host fid spans length ∷ base) more n e = decisions_are base more n e

-- # What stays where tokens are asked back

back_same : {A : Type 0} (f : Tables → A) → ((x : Tables) (r : RevokeOf) → f (asked x r) ≡ f x) → (x : Tables)
    (rs : List Asking) → f (asked_all x rs) ≡ f x
back_same f on x [] = refl
back_same f on x (a ∷ rs) = back_same f on (asked x a.revoke) rs ∙ on x a.revoke

-- the setup host and all that are declared are no exporter
pub no_exporter : (h : HostId) → h.0 ≤ 16 → h ≡ exporter → ⊥
no_exporter h few e = let q : h.0 ≡ 17 = ap (λ (k : HostId). k.0) e in omega (arith, few, q)

module _ (start : Tree) (server : ServerId) (steps : List Step) (past : List Doing) (cause : Cause) (a : Making)
    (y : Tables) (e : Draft) (next : StoreState) (rested : Bool)
    (h : HasCause server cause (filesets_kept start server steps) past a)
    (f : IsFinished a.tables a.draft a.state y e next rested) (served : IsServed y next)
    (held : IsMid server cause (filesets_kept start server steps) past h.base f.decided)
    (g1 : AreGranted server cause (filesets_kept start server steps) past a.draft f.decided f.admitted) where
  abbrev tree : Tree
  tree = filesets_kept start server steps

  abbrev begun : List Doing
  begun = after_cause cause past

  abbrev mid : Making
  mid = f.decided

  abbrev kept : Tree
  kept = filesets_through cause mid.draft.applied tree

  stay0 : StaysDeciding a mid
  stay0 = decisions_stay a mid f.decides

  keeps : StandsFor kept mid.state
  keeps = held.stored.keeps

  stay1 : StaysGranting (made mid.tables mid.draft) f.admitted
  stay1 = grants_stay (made mid.tables mid.draft) f.admitted f.admits

  abbrev before : List Doing
  before = appended (admitting f.admitted.draft.admitted) (decided_by server cause tree past mid.draft)

  server1 : f.admitted.tables.server ≡ server
  server1 = stay1.server ∙ held.server_is

  -- where wants were answered
  abbrev x2 : Tables
  x2 = f.sent.tables

  abbrev d2 : Draft
  d2 = f.sent.draft

  abbrev end : Looking
  end = looking x2 d2 f.sends.end.at

  abbrev back : List Message
  back = map (revoking x2) (askings x2.stamp (not_asked (wanted x2.tokens)))

  -- the step
  abbrev s : Step
  s = record (bare (Server server) cause) {
    applied = mid.draft.applied;
    admitted = f.admitted.draft.admitted;
    sent = d2.sent ++ back;
  }

  end_is : f.sends.end ≡ end
  end_is i = looking (f.sends.tables i) (f.sends.draft i) f.sends.end.at

  stay2 : StaysSending (looking f.admitted.tables f.admitted.draft 0) end
  stay2 = subst (StaysSending (looking f.admitted.tables f.admitted.draft 0)) end_is
      (sends_stay mid.state (looking f.admitted.tables f.admitted.draft 0) f.sends.end f.sends.goes)

  step_is : step_of server cause e ≡ s
  step_is i = record (bare (Server server) cause) {
    applied = (ap (λ (d : Draft). d.applied) f.asks.draft ∙ stay2.applied ∙ stay1.applied) i;
    admitted = (ap (λ (d : Draft). d.admitted) f.asks.draft ∙ stay2.admitted) i;
    sent = ap (λ (d : Draft). d.sent) f.asks.draft i;
  }

  way0 : IsOnTheWay server kept mid.state s before keeps (looking f.admitted.tables f.admitted.draft 0)
  way0 = record {
    server_is = server1;
    stands = g1.stands;
    served = f.served;
    single = subst AreLastChanges (sym stay1.changes) held.changes;
    enters = λ p c i. held.enters p c (subst (In p) stay1.pending i);
    allowed = g1.allowed kept s;
    left = λ i p l. absurd (omega (arith, l));
  }

  said : IsSaid cause past a.draft server kept mid.state s before keeps held.stored.homes end
  said = subst (IsSaid cause past a.draft server kept mid.state s before keeps held.stored.homes) end_is
      (all_said cause past a.draft server kept mid.state s before keeps held.stored.homes
      (looking f.admitted.tables f.admitted.draft 0) f.sends.end f.sends.goes (record {
        way = way0;
        spoken = g1.spoken;
        once = g1.once;
        homes = g1.homes;
        answered = g1.answered;
      }))

  abbrev now : List Doing
  now = appended (sending d2.sent) before

  stands2 : Stands now x2
  stands2 = said.way.stands

  server2 : x2.server ≡ server
  server2 = said.way.server_is

  one : (t u : Token) → In t (tokens_of x2.tokens.grants) → In u (tokens_of x2.tokens.grants) → t.id ≡ u.id → t ≡ u
  one = numbered x2 f.laws

  abbrev asks : List Asking
  asks = askings x2.stamp (not_asked (wanted x2.tokens))

  -- # What stays of the tables

  -- where tokens are asked back
  back_is : {A : Type 0} (g : Tables → A) → ((x : Tables) (r : RevokeOf) → g (asked x r) ≡ g x) → g y ≡ g x2
  back_is g on = ap g f.asks.tables ∙ back_same g on x2 (askings x2.stamp (not_asked (wanted x2.tokens)))

  hosts2 : y.hosts ≡ f.admitted.tables.hosts
  hosts2 = back_is (λ (x : Tables). x.hosts) (λ x r. refl) ∙ stay2.hosts

  listed2 : y.hosts.listed ≡ mid.tables.hosts.listed
  listed2 = ap (λ (z : Hosts). z.listed) hosts2 ∙ stay1.listed

  epoch2 : y.hosts.epoch ≡ mid.tables.hosts.epoch
  epoch2 = ap (λ (z : Hosts). z.epoch) hosts2 ∙ stay1.epoch

  roster2 : y.roster ≡ a.tables.roster
  roster2 = back_is (λ (x : Tables). x.roster) (λ x r. refl) ∙ stay2.roster ∙ stay1.roster ∙ stay0.roster

  gives2 : y.gives ≡ mid.tables.gives
  gives2 = back_is (λ (x : Tables). x.gives) (λ x r. refl) ∙ stay2.gives ∙ stay1.gives

  recovering2 : y.recovering ≡ x2.recovering
  recovering2 = back_is (λ (x : Tables). x.recovering) (λ x r. refl)

  server_y : y.server ≡ server
  server_y = back_is (λ (x : Tables). x.server) (λ x r. refl) ∙ server2

  table2 : y.tokens.grants.table ≡ x2.tokens.grants.table
  table2 = ap (λ (x : Tables). x.tokens.grants.table) (f.asks.tables ∙ asked_all_is x2 asks)
      ∙ table_all x2 (asks_of asks)

  known2 : (k : HostId) → In k y.hosts.listed → IsHost y.roster k
  known2 k i = subst (λ (r : Roster). IsHost r k) (sym roster2)
      (h.known k (subst (In k) (listed2 ∙ ap (λ (z : Hosts). z.listed) stay0.hosts) i))

  -- no host is the exporter
  own : (k : HostId) → IsLive now k → k ≡ exporter → ⊥
  own k l = no_exporter k (few_hosts kept mid.state k keeps
      (subst (λ (r : Roster). IsHost r k) (roster2 ∙ sym stay0.roster ∙ sym held.served.store.roster)
      (known2 k (subst (In k) (sym (ap (λ (z : Hosts). z.listed) (back_is (λ (x : Tables). x.hosts) (λ x r. refl))))
      (stands2.hosts.listed_all k l.0)))))

  -- # How it stands at the end

  -- no want that waits can be answered, and no claim granted
  answered_all : AreAnswered x2.server kept now
  answered_all = subst (λ (v : ServerId). AreAnswered v kept now) (sym server2) (record {
    grants = all_grants server kept mid.state s before keeps end said.way few;
    uses = all_uses server kept mid.state s before keeps end said.way few;
    others = all_others server kept mid.state s before keeps end said.way few;
    enters = all_enters server kept mid.state s before keeps end said.way few;
    claims = λ k n claim took never live taken. none_ripe now x2.server x2.recovering stands2.slots stands2.recovery none k n claim
        took
        never live (subst (λ (v : ServerId). HasTakenGives v now k claim) (sym server2) taken);
  })
    where
      few : length x2.pending ≤ f.sends.end.at
      few = f.sends.all

      none : first_ripe x2.recovering x2.server ≡ None
      none = subst (λ (q : Recovering × ServerId). first_ripe q.0 q.1 ≡ None)
          (λ i. (sym stay2.recovering i, sym stay2.server i)) f.none_ripe

  abbrev then : List Doing
  then = appended (sending back) now

  then_is : appended (sending s.sent) before ≡ then
  then_is = ap (λ (l : List Doing). appended l before) (sending_append d2.sent back)
      ∙ after_both (sending d2.sent) (sending back) before

  stands_y : Stands then y
  stands_y = subst (Stands then) (sym f.asks.tables) (back_stands now x2 stands2 said.homes one d2)

  keeps_y : StandsFor kept next
  keeps_y = subst (StandsFor kept) (sym f.stored) keeps

  -- a claim that waits does so until the end
  claim_waits : (c : Claimed) → In c y.recovering.claims → (HasReclaimed then c.host → ⊥) × IsLive then c.host
  claim_waits c i =
      let w = g1.waits c (subst (λ (r : Recovering). In c r.claims) (recovering2 ∙ stay2.recovering) i) in (
        (λ r. w.0 (sent_is server f.admitted.draft.sent before c.host (sent_was server d2.sent before c.host
            (sent_was server back now c.host r)))),
        (live_both server now then (sent_heard server back now) c.host).0
            ((live_both server before now (sent_heard server d2.sent before) c.host).0
            ((live_both server before (appended (sending f.admitted.draft.sent) before)
            (sent_heard server f.admitted.draft.sent before) c.host).1 w.1)),
      )

  -- what was told of claims
  tokens_back : EachInTurn (ServerTokens server) (sending back) now
  tokens_back = subst (λ (v : ServerId). EachInTurn (ServerTokens v) (sending back) now) server2
      (back_tokens now x2 stands2 said.homes one)

  decided_is : appended (deciding held.more) begun ≡ decided_by server cause tree past mid.draft
  decided_is = ap (λ (l : List Doing). appended l begun)
      (sym (ap deciding held.applied ∙ deciding_both h.base held.more
      ∙ ap (λ (l : List Doing). l ++ deciding held.more) held.none))

  told_then : AreTold server then
  told_then =
      told_words server back now tokens_back
      (told_words server d2.sent before said.way.allowed.tokens
      (told_admitted server f.admitted.draft.admitted (decided_by server cause tree past mid.draft)
      (subst (AreTold server) decided_is
      (told_decided server past s held.more (filesets_through cause h.base tree) begun
      (held.may s refl) (told_caused server cause past h.plain.restart h.told)))))

  abbrev z : Exporter
  z = record { tables = y; rested = rested }

  at_then : IsAt then kept z
  at_then = record {
    tables = stands_y;
    once = subst EachOnce (sym listed2) held.listed;
    known = known2;
    gives = subst AreLast (sym gives2) held.gives;
    changes = subst AreLastChanges (sym (back_is (λ (x : Tables). x.changes) (λ x r. refl))) said.way.single;
    enters = λ p c i. said.way.enters p c (subst (In p) (back_is (λ (x : Tables). x.pending) (λ x r. refl)) i);
    homes = λ t i. subst (λ (v : ServerId). is_of v t.fid.fileset ≡ true) (server2 ∙ sym server_y)
        (said.homes t (subst (λ (w : Table). In t w.tokens) table2 i));
    answered = subst (λ (r : Recovering). AnsweredStand then r.answers) (sym recovering2)
        (back_answered now x2 stands2 said.homes one x2.recovering.answers said.answered);
    claims = claim_waits;
    told = subst (λ (v : ServerId). AreTold v then) (sym server_y) told_then;
    quiet = subst (λ (v : ServerId). IsQuiet v kept then) (server2 ∙ sym server_y)
        (back_quiet now x2 stands2 said.homes one own kept answered_all);
    rested = λ r. none_rested then y next kept stands_y served keeps_y None (f.rests r);
  }

  at_step : IsAt (after_step s past) kept z
  at_step = subst (λ (l : List Doing). IsAt (Reserves [] ∷ l) kept z) (sym then_is) (at_end then kept z at_then)

  keeps_all : Keeps y kept next
  keeps_all = record {
    stands = keeps_y;
    homes = held.stored.homes;
    taken = subst (λ (q : List LastGive × StoreState). GivesBelow (last_give q.0) q.1)
        (λ i. (sym gives2 i, sym f.stored i)) held.stored.taken;
    epoch = ap (λ (st : StoreState). st.epoch) f.stored ∙ held.stored.epoch ∙ sym epoch2;
  }

  pub end_follows : IsAt (after_step (step_of server cause e) past)
      (filesets_kept start server (step_of server cause e ∷ steps)) z
      × Keeps y (filesets_kept start server (step_of server cause e ∷ steps)) next
  end_follows = subst (λ (t : Step). IsAt (after_step t past) (filesets_kept start server (t ∷ steps)) z
      × Keeps y (filesets_kept start server (t ∷ steps)) next) (sym step_is) (at_step, keeps_all)

  -- # Its words

  abbrev at_once : SaysAtOnce server past s a.draft.sent
  at_once = h.at_once s refl

  -- what is said at once is said
  first_said : (k : HostId) (b : Body) → SaysTo a.draft.sent k b → SentNow s k b
  first_said k b q = (q.0, in_front q.0 d2.sent back (said.spoken.kept q.0 q.1), q.2, q.3)

  -- and so is what answers a claim
  claim_said : (k : HostId) (b : Body) → SaysTo f.admitted.draft.sent k b → SentNow s k b
  claim_said k b q = (q.0, in_front q.0 d2.sent back (stay2.words q.0 q.1), q.2, q.3)

  -- it is said later, or asks tokens back
  abbrev IsSaidLater : HostId → Body → Type 0
  IsSaidLater k b = (m : Message) × (m.host ≡ k) × (m.body ≡ b) × IsLater cause past a.draft d2.admitted m

  abbrev IsBack : HostId → Body → Type 0
  IsBack k b = (r : Asking) × In r asks × (r.host ≡ k) × (Revoke r.revoke ≡ b)

  what : (k : HostId) (b : Body) → SentNow s k b → SaysTo a.draft.sent k b ⊎ (IsSaidLater k b ⊎ IsBack k b)
  what k b q = elim (in_parts q.0 d2.sent back q.1) [
    | inl i ↦ elim (said.spoken.words q.0 i) [
      | inl j ↦ inl (q.0, j, q.2, q.3)
      | inr l ↦ inr (inl (q.0, q.2, q.3, l))
    ]
    | inr i ↦ (let r = of_map (revoking x2) q.0 asks i in
        inr (inr (r.0, r.1, ap (λ (m : Message). m.host) r.2 ∙ q.2, ap (λ (m : Message). m.body) r.2 ∙ q.3)))
  ]

  -- what is neither a Done, a Grant nor a Reclaimed isn't said later
  never_later : (m : Message) → IsLater cause past a.draft d2.admitted m → (b : Body) → m.body ≡ b
      → ((o : DoneOf) → b ≡ Done o → ⊥) → ((w : GrantOf) → b ≡ Grant w → ⊥)
      → ((r : ReclaimedOf) → b ≡ Reclaimed r → ⊥) → ⊥
  never_later m (OfDone o n c of from) b q d g r = d o (sym q ∙ n)
  never_later m (OfGrant w n) b q d g r = g w (sym q ∙ n)
  never_later m (OfClaim w n ad i same) b q d g r = r w (sym q ∙ n)

  -- so it was said at once
  of_first : (k : HostId) (b : Body) → SentNow s k b → ((o : DoneOf) → b ≡ Done o → ⊥)
      → ((w : GrantOf) → b ≡ Grant w → ⊥) → ((r : ReclaimedOf) → b ≡ Reclaimed r → ⊥)
      → ((r : RevokeOf) → b ≡ Revoke r → ⊥) → SaysTo a.draft.sent k b
  of_first k b q d g r v = elim (what k b q) [
    | inl p ↦ p
    | inr p ↦ elim p [
      | inl l ↦ absurd (never_later l.0 l.3 b l.2 d g r)
      | inr w ↦ absurd (v w.0.revoke (sym w.3))
    ]
  ]

  its_claim : (k : HostId) (r : ReclaimedOf) (m : Message) → m.host ≡ k → m.body ≡ Reclaimed r
      → IsLater cause past a.draft d2.admitted m → (c : Admission) × In c s.admitted × (c.host ≡ k)
  its_claim k r m host body (OfDone o n c of from) = absurd (let q : Reclaimed r ≡ Done o = sym body ∙ n in cc)
  its_claim k r m host body (OfGrant w n) = absurd (let q : Reclaimed r ≡ Grant w = sym body ∙ n in cc)
  its_claim k r m host body (OfClaim w n ad i same) = (ad, subst (In ad) stay2.admitted i, same ∙ host)

  only_answers : OnlyAnswers past s
  only_answers = record {
    bye_only = λ k q. at_once.bye_only k (of_first k Bye q (λ o n. cc) (λ o n. cc) (λ o n. cc) (λ o n. cc));
    reclaimed_only = λ k r q. elim (what k (Reclaimed r) q) [
      | inl p ↦ elim (at_once.reclaimed_only k r p) [ inl u ↦ inl u | inr u ↦ inr (inr u) ]
      | inr p ↦ elim p [
        | inl l ↦ inr (inl (its_claim k r l.0 l.1 l.2 l.3))
        | inr w ↦ absurd (let n : Revoke w.0.revoke ≡ Reclaimed r = w.3 in cc)
      ]
    ];
  }

  -- # What it may do

  base_is : by_cause s.applied ≡ h.base
  base_is = ap by_cause held.applied
      ∙ by_cause_is h.base held.more held.none held.all

  more_is : decisions s.applied ≡ held.more
  more_is = ap decisions held.applied
      ∙ decisions_are h.base held.more held.none held.all

  applies : ServerApplies server tree past s
  applies = record {
    given = λ k g q. base_is ∙ h.given s refl k g q;
    down = λ k q. base_is ∙ h.down s refl k q;
    else_none = λ p q. base_is ∙ h.else_none s refl p q;
    decided = ap (list_all is_decision) more_is ∙ held.all;
    reserves = λ t i. elim i [ ];
  }

  may_decide : MayDecideAll server (filesets_through cause (by_cause s.applied) tree) past begun s (decisions s.applied)
  may_decide =
      subst (λ (l : List Applied). MayDecideAll server (filesets_through cause l tree) past begun s
      (decisions s.applied)) (sym base_is)
      (subst (MayDecideAll server (filesets_through cause h.base tree) past begun s) (sym more_is)
      (held.may s refl))

  may_send : EachInTurn (MaySend server kept s) (sending s.sent) before
  may_send = subst (λ (l : List Doing). EachInTurn (MaySend server kept s) l before) (sym (sending_append d2.sent back))
      (in_turn_both (MaySend server kept s) (sending d2.sent) (sending back) before said.way.allowed.may
      (subst (λ (v : ServerId). EachInTurn (MaySend v kept s) (sending back) now) server2
      (back_may now x2 stands2 said.homes one kept s)))

  tokens_send : EachInTurn (ServerTokens server) (sending s.sent) before
  tokens_send = subst (λ (l : List Doing). EachInTurn (ServerTokens server) l before)
      (sym (sending_append d2.sent back))
      (in_turn_both (ServerTokens server) (sending d2.sent) (sending back) before said.way.allowed.tokens
      tokens_back)

  may_all : (script : Script) → ServerMay script start server steps past s
  may_all script = record {
    tokens = record {
      writes = held.writes;
      admits = g1.admits;
      sends = tokens_send;
      reserves = reserves_may server (after_shipping s past);
    };
    no_host = record {
      causes = (h.plain.evict, h.plain.end);
      does_none = (refl, refl, refl, refl, refl, refl, refl);
    };
    answers = only_answers;
    works = record { applies = applies; decides = may_decide; sends = may_send };
  }

  -- # What is due of it

  -- a claim that counts is admitted and answered
  claim_now : (k : HostId) (n : ℕ) (claim : ReclaimOf) → TookNow begun k n (Reclaim claim)
      → (HasReclaimed past k → ⊥) → IsLive begun k → HasTakenGives server begun k claim
      → AdmitsNow server begun s k claim
  claim_now k n claim took never live taken =
      let c = g1.counts k n claim took never live taken in
      (c.0, (c.1.0, claim_said k (Reclaimed c.1.0) c.1.1, c.1.2))

  answers : ServerAnswers server past s
  answers = record {
    hello_old = λ k q l n. first_said k Restarted (at_once.hello_old k q l n);
    hello = λ k q d u. first_said k (Reclaimed empty_reclaimed) (at_once.hello k q d u);
    bye = λ k q d u. first_said k Bye (at_once.bye k q d u);
    late = λ k m q i l n o p. first_said k Restarted (at_once.late k m q i l n o p);
    restarted = λ l k q. absurd (h.plain.restart l q);
    restarted_again = λ k q. absurd (h.plain.lapse q);
    restarted_only = λ k q.
        at_once.restarted_only k (of_first k Restarted q (λ o n. cc) (λ o n. cc) (λ o n. cc) (λ o n. cc));
    gone = λ k n g t i. first_said k (Gone (number_of g)) (at_once.gone k n g t i);
    gone_only = λ k n q.
        at_once.gone_only k n (of_first k (Gone n) q (λ o u. cc) (λ o u. cc) (λ o u. cc) (λ o u. cc));
    claim_now = claim_now;
    claim_again = λ k n claim t r. (let q = at_once.claim_again k n claim t r in
        (q.0, q.1, q.2, first_said k (Reclaimed q.0) q.3));
  }

  -- what was decided, before and behind the words so far
  abbrev decided : List Doing
  decided = decided_by server cause tree past mid.draft

  abbrev told : List Doing
  told = said_by server cause tree past mid.draft

  ready : SameReady server decided told
  ready = held.ready

  over_told : NoGrace decided → NoGrace told
  over_told over k live = (ready.reclaimed k).0 (over k ((live_both server decided told ready.heard k).1 live))

  rest : IsRested server kept told
  rest = subst (λ (v : ServerId). IsRested v kept told) held.server_is
      (none_rested told mid.tables mid.state kept held.stands held.served keeps mid.draft.fresh f.none_due)

  fresh_refused : (w : Wanted) (c : ChangeOf) (r : Refusal) → IsQueued told w → w.request ≡ Changes c
      → RefusedOn kept w.host c r → NoGrace told
      → IsNewRequest server past (after_cause s.cause past) s w.host w.moves w.request → ⊥
  fresh_refused w c r u is on over new =
      let p = held.stands.wants.pending_all w u in
      let fresh = held.fresh s refl p.0 p.1
      (subst (λ (v : Wanted). IsNewRequest server past (after_cause s.cause past) s v.host v.moves v.request) (sym p.2)
      new) in
      none_fresh told mid.tables mid.state kept held.stands held.served keeps mid.draft.fresh f.none_due p.0
      p.1
      fresh c (ap (λ (v : Wanted). v.request) p.2 ∙ is) r
      (subst (λ (v : Wanted). RefusedOn kept v.host c r) (sym p.2) on) over

  decided_so : HasDecided server kept past decided s
  decided_so = record {
    news = λ k n r q. (let w = h.news s refl k n r q in (w.0, stay0.applied (Wants w.0) w.1, w.2, w.3));
    refused = λ w c r u is on q. elim q [
      | inl d ↦ rest.refused w c r ((ready.queued w).0 u) is on (decide_ready server decided told ready w d)
      | inr g ↦ fresh_refused w c r ((ready.queued w).0 u) is on (over_told g.0) g.1
    ];
    effects = λ w c u is n m d.
        rest.effects w c ((ready.queued w).0 u) is n m (decide_ready server decided told ready w d);
    pinned = λ w c u is row n d.
        rest.pinned w c ((ready.queued w).0 u) is row n (refuse_ready server decided told ready w d);
  }

  -- no Revoke is said but at the end
  revoked : (k : HostId) (r : RevokeOf) → SentNow s k (Revoke r) → (q : Asking) × In q asks × (q.revoke ≡ r)
  revoked k r n = elim (what k (Revoke r) n) [
    | inl p ↦ absurd (at_once.no_revoke k r p)
    | inr p ↦ elim p [
      | inl l ↦ absurd (never_later l.0 l.3 (Revoke r) l.2 (λ o u. cc) (λ o u. cc) (λ o u. cc))
      | inr w ↦ (w.0, w.1, its_revoke w.0.revoke r w.3)
    ]
  ]
    where
      its_revoke : (u v : RevokeOf) → Revoke u ≡ Revoke v → u ≡ v
      its_revoke u v n = cc

  revoked_once : (q o : Asking) (i : TokenId) → In q asks → In o asks → In i q.revoke.ids → In i o.revoke.ids
      → q.revoke ≡ o.revoke
  revoked_once q o i m n j k =
      groups_apart (length (not_asked (wanted x2.tokens))) x2.stamp (not_asked (wanted x2.tokens))
      (λ t u p r same. one t u ((are_to_ask now x2 stands2 said.homes one).there t p)
      ((are_to_ask now x2 stands2 said.homes one).there u r) same)
      (ask_of q) (ask_of o) i (in_map ask_of q asks m) (in_map ask_of o asks n) j k

  apart : (m : Message) → In m d2.sent → In m back → ⊥
  apart m i j =
      let r = of_map (revoking x2) m asks j in
      let body : m.body ≡ Revoke r.0.revoke = sym (ap (λ (n : Message). n.body) r.2) in
      elim (said.spoken.words m i) [
        | inl p ↦ at_once.no_revoke m.host r.0.revoke (m, p, refl, body)
        | inr l ↦ never_later m l (Revoke r.0.revoke) body (λ o u. cc) (λ o u. cc) (λ o u. cc)
      ]

  its_done : (k : HostId) (d : DoneOf) (m : Message) → m.host ≡ k → m.body ≡ Done d
      → IsLater cause past a.draft d2.admitted m → (c : ChangeOf) × IsOfChange c d
      × (((n : ℕ) × TakenNow past s k n (Change c))
      ⊎ ((w : Wanted) × IsQueued past w × (w.host ≡ k) × (w.request ≡ Changes c)))
  its_done k d m host body (OfGrant w n) = absurd (let q : Done d ≡ Grant w = sym body ∙ n in cc)
  its_done k d m host body (OfClaim w n ad i same) = absurd (let q : Done d ≡ Reclaimed w = sym body ∙ n in cc)
  its_done k d m host body (OfDone o n c of from) = (
    c,
    subst (IsOfChange c) same of,
    elim from [
      | inl t ↦ inl (t.0, subst (λ (v : HostId). TakenNow past s v t.0 (Change c)) host (t.1 s refl))
      | inr w ↦ inr (w.0, w.1, w.2 ∙ host, w.3)
    ],
  )
    where
      its_word : (u v : DoneOf) → Done u ≡ Done v → u ≡ v
      its_word u v q = cc

      same : o ≡ d
      same = its_word o d (sym n ∙ body)

  applied2 : d2.applied ≡ mid.draft.applied
  applied2 = stay2.applied ∙ stay1.applied

  quiet : IsQuiet server kept (after_step s past)
  quiet = subst (λ (v : ServerId). IsQuiet v kept (after_step s past)) server_y at_step.quiet

  sent_so : HasSent server kept past (after_step s past) s
  sent_so = record {
    once = once_both d2.sent back said.once (back_once now x2 stands2 said.homes one) apart;
    revokes_once = λ k r o i p q m n. (let u = revoked k r p in let v = revoked k o q in
        sym u.2 ∙ revoked_once u.0 v.0 i u.1 v.1 (subst (λ (w : RevokeOf). In i w.ids) (sym u.2) m)
        (subst (λ (w : RevokeOf). In i w.ids) (sym v.2) n) ∙ v.2);
    written = λ v i. (let q = said.spoken.written v (subst (In (IsDone v)) (sym applied2) i) in
        (q.3.0, (q.0, in_front q.0 d2.sent back q.1, q.2, q.3.1), q.3.2, q.3.3, q.3.4));
    repeats = λ k n c d t i p q l w. (let u = at_once.repeats k n c d t i p q l w in
        (u.0, first_said k (Done u.0) u.1, u.2, u.3));
    dones_only = λ k d n. elim (what k (Done d) n) [
      | inl p ↦ (let u = at_once.dones_only k d p in (u.0, u.1, inl u.2))
      | inr p ↦ elim p [
        | inl l ↦ its_done k d l.0 l.1 l.2 l.3
        | inr w ↦ absurd (let q : Revoke w.0.revoke ≡ Done d = w.3 in cc)
      ]
    ];
    grants = quiet.grants;
    uses = quiet.uses;
    others = quiet.others;
    enters = quiet.enters;
    revokes = quiet.asked;
    revokes_again = λ t q. absurd (h.plain.lapse q);
  }

  due_all : (script : Script) → ServerDue script start server steps past s
  due_all script = record {
    lines = record { bare = λ n q. absurd (h.plain.line n q); restarts = λ n q. absurd (h.plain.restart n q) };
    answers = answers;
    decided = decided_so;
    sent = sent_so;
  }

  pub end_meets : (script : Script) → ServerMeets script start server steps past (step_of server cause e)
  end_meets script = subst (ServerMeets script start server steps past) (sym step_is)
      (record { may = may_all script; due = due_all script })

-- # By what the step began with

module _ (start : Tree) (server : ServerId) (steps : List Step) (past : List Doing) (cause : Cause) (a : Making)
    (y : Tables) (e : Draft) (next : StoreState) (rested : Bool)
    (h : HasBegun server cause (filesets_kept start server steps) past a)
    (f : IsFinished a.tables a.draft a.state y e next rested) (served : IsServed y next) where
  abbrev its_tree : Tree
  its_tree = filesets_kept start server steps

  pub ends_meets : (script : Script) → ServerMeets script start server steps past (step_of server cause e)
  ends_meets = end_meets start server steps past cause a y e next rested
      (cause_of server cause its_tree past a h) f served
      (mid_of server cause its_tree past a h f.decided f.decides)
      (granted_of server cause its_tree past a h f.decided f.decides f.admitted f.admits f.none_ripe)

  pub ends_follows : IsAt (after_step (step_of server cause e) past)
      (filesets_kept start server (step_of server cause e ∷ steps)) (record { tables = y; rested = rested })
      × Keeps y (filesets_kept start server (step_of server cause e ∷ steps)) next
  ends_follows = end_follows start server steps past cause a y e next rested (cause_of server cause its_tree past a h) f
      served (mid_of server cause its_tree past a h f.decided f.decides)
      (granted_of server cause its_tree past a h f.decided f.decides f.admitted f.admits f.none_ripe)
