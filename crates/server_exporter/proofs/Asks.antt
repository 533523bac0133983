-- What is in the way of wants is asked back, at the end of a step: the rules allow each, and all of it is then.
use Rattle.std.proofs.Common.{◌≡◌, ℕ, true, List, [], ◌∷◌, map, inl, inr, sym, ◌∙◌, ap, subst}
use Rattle.std.proofs.lemmas.Bool.{cases_Bool, false≢true}
use Rattle.base_types.specs.declared.ids.HostId.{HostId}
use Rattle.base_types.specs.declared.ids.ServerId.{ServerId}
use Rattle.tree_answers.specs.declared.tree.Tree.{Tree}
use Rattle.token_manager.specs.Managers.{wanted}
use Rattle.token_types.specs.declared.token.Token.{Token}
use Rattle.message_types.specs.declared.asking.Change.{Change as ChangeOf}
use Rattle.message_types.specs.declared.asking.Fetch.{Fetch as FetchOf}
use Rattle.message_types.specs.declared.giving.Reclaim.{Reclaim as ReclaimOf}
use Rattle.message_types.specs.declared.message.Body.TheVariants.{Reclaim, Revoke}
use Rattle.message_types.specs.declared.message.Message.{Message}
use Rattle.run_rules.specs.Doings.{Doing, HasReclaimed, IsLive, NoGrace, Reserved, TookNow, sending}
use Rattle.run_rules.specs.Doings.Doing.{Sent}
use Rattle.run_rules.specs.Past.{EachInTurn, EachOnce, In, appended}
use Rattle.run_rules.specs.ServerDecides.{IsOfRow, NotRefused}
use Rattle.run_rules.specs.ServerMay.{HasRevoked, IsAskedBack, MaySend}
use Rattle.run_rules.specs.ServerTokens.{HasTakenGives, ServerTokens}
use Rattle.run_rules.specs.Wants.{CanDecide, CanGrant, IsQueued, exporter, is_use}
use Rattle.run_rules.specs.declared.applied.Request.TheVariants.{Change as Changes, Fetch as Asks}
use Rattle.run_rules.specs.declared.applied.Wanted.{Wanted}
use Rattle.run_rules.specs.declared.step.Step.{Step}
use Rattle.server_tables.specs.Listing.{no_grace}
use Rattle.server_tables.specs.Places.{is_of}
use Rattle.server_tables.specs.Standing.{AnsweredStand, Stands, tokens_of}
use Rattle.server_tables.specs.declared.recovering.Answered.{Answered}
use Rattle.server_tables.specs.declared.tables.Tables.{Tables}
use Rattle.server_tables.proofs.Listed.{is_over, over_is}
use Rattle.server_tables.proofs.Recalling.{AreToAsk, IsSplit, all_recalled, may_ask_all}
use Rattle.server_tables.proofs.Resting.{claims_still}
use Rattle.server_tables.proofs.Still.{answered_still}
use Rattle.server_tables.proofs.Waiting.{Asking as Ask, MayAskAll, MayNameAll, asked as asks, asked_all as asks_all}
use Rattle.server_tables.proofs.Waiting.{may_send_all, names_all, once_all, revoke, stands_a, stands_asked}
use Rattle.server_tables.proofs.Waiting.{tokens_may_all}
use Rattle.server_tables.proofs.Wanting.{all_to_ask, none_to_ask, to_ask}
use Rattle.server_decides.specs.Draft.{Draft}
use Rattle.server_decides.specs.Revoking.{asking_back, askings, not_asked, revoking}
use Rattle.server_exporter.specs.Machines.{IsQuiet}
use Rattle.server_exporter.proofs.Lapses.{ask_even, ask_hosts, asked_all_is, asks_of, is_split, revokes_are}
use Rattle.server_exporter.proofs.Resting.{IsEven, decide, grant, waits}

-- # Nothing that waits can be answered

-- what `IsQuiet` says, but for what is asked back
pub record AreAnswered (server : ServerId) (tree : Tree) (past : List Doing) : Type 0 where
  pub grants : (w : Wanted) (f : FetchOf) → IsQueued past w → w.request ≡ Asks f → CanGrant server past w → ⊥
  pub uses : (w : Wanted) (c : ChangeOf) → IsQueued past w → w.request ≡ Changes c → is_use c.call ≡ true
      → NotRefused tree w.host c → CanGrant server past w → ⊥
  pub others : (w : Wanted) (c : ChangeOf) → IsQueued past w → w.request ≡ Changes c → is_use c.call ≡ true
      → NotRefused tree w.host c → (IsOfRow tree w c → ⊥) → CanDecide server past w → ⊥
  pub enters : (w : Wanted) (c : ChangeOf) → IsQueued past w → w.request ≡ Changes c → c.enter ≡ true
      → NotRefused tree w.host c → CanGrant server past w → ⊥
  pub claims : (h : HostId) (n : ℕ) (claim : ReclaimOf) → TookNow past h n (Reclaim claim)
      → (HasReclaimed past h → ⊥) → IsLive past h → HasTakenGives server past h claim → ⊥

-- so it stays
answered_even : (server : ServerId) (past : List Doing) (a : Doing) → IsEven server past a
    → ((t : Token) → Reserved past t → ⊥) → (tree : Tree) → AreAnswered server tree past
    → AreAnswered server tree (a ∷ past)
answered_even server past a e none tree z = record {
  grants = λ w f u is g. z.grants w f (waits server past a e none w u) is (grant server past a e none w g);
  uses = λ w c u is label so g.
      z.uses w c (waits server past a e none w u) is label so (grant server past a e none w g);
  others = λ w c u is label so row r.
      z.others w c (waits server past a e none w u) is label so row (decide server past a e none w r);
  enters = λ w c u is enter so g.
      z.enters w c (waits server past a e none w u) is enter so (grant server past a e none w g);
  claims = claims_still server past a e.calm e.claims z.claims;
}

answered_asked : (past : List Doing) (tree : Tree) (x : Tables) (rs : List Ask) → MayNameAll past x rs → Stands past x
    → AreAnswered x.server tree past → AreAnswered x.server tree (appended (sending (map (revoke x) rs)) past)
answered_asked past tree x [] may s z = z
answered_asked past tree x (r ∷ rs) may s z =
    let a = Sent r.0 x.hosts.epoch r.1 (Revoke r.2) in
    answered_asked (a ∷ past) tree (asks x r.2) rs may.1 (stands_a past x s r may.0)
    (answered_even x.server past a (ask_even past x s r may.0) s.tokens.none_reserved tree z)

-- and what was answered to claims is told
told_asked : (past : List Doing) (x : Tables) (rs : List Ask) (answers : List Answered) → MayNameAll past x rs
    → Stands past x → AnsweredStand past answers
    → AnsweredStand (appended (sending (map (revoke x) rs)) past) answers
told_asked past x [] answers may s z = z
told_asked past x (r ∷ rs) answers may s z =
    let a = Sent r.0 x.hosts.epoch r.1 (Revoke r.2) in
    told_asked (a ∷ past) (asks x r.2) rs answers may.1 (stands_a past x s r may.0)
    (answered_still past a (ask_hosts past x s r may.0) z)

-- # What is in the way is asked back

module _ (past : List Doing) (x : Tables) (s : Stands past x)
    (homes : (t : Token) → In t (tokens_of x.tokens.grants) → is_of x.server t.fid.fileset ≡ true)
    (one : (t u : Token) → In t (tokens_of x.tokens.grants) → In u (tokens_of x.tokens.grants) → t.id ≡ u.id → t ≡ u)
  where
    abbrev pub tokens : List Token
    tokens = not_asked (wanted x.tokens)

    abbrev rs : List Ask
    rs = asks_of (askings x.stamp tokens)

    abbrev pub sent : List Message
    sent = map (revoking x) (askings x.stamp tokens)

    abbrev pub then : List Doing
    then = appended (sending sent) past

    over_ask : NoGrace past → AreToAsk past x tokens
    over_ask over = record {
      there = λ t i. (to_ask past x s over t i).0;
      fresh = λ t i. (to_ask past x s over t i).1;
      asked_back = λ t i. (to_ask past x s over t i).2;
      homes = λ t i. homes t (to_ask past x s over t i).0;
      one = one;
    }

    grace_ask : (NoGrace past → ⊥) → AreToAsk past x tokens
    grace_ask grace = record {
      there = λ t i. absurd (none_to_ask past x s grace t i);
      fresh = λ t i. absurd (none_to_ask past x s grace t i);
      asked_back = λ t i. absurd (none_to_ask past x s grace t i);
      homes = λ t i. absurd (none_to_ask past x s grace t i);
      one = one;
    }

    pub are_to_ask : AreToAsk past x tokens
    are_to_ask = elim (cases_Bool (no_grace x.hosts)) [
      | inl e ↦ over_ask (over_is past x.hosts s.hosts e)
      | inr e ↦ grace_ask (λ over. false≢true (sym e ∙ is_over past x.hosts s.hosts over))
    ]

    split : IsSplit x.stamp tokens rs
    split = is_split x.stamp tokens (λ t u i j e. one t u (are_to_ask.there t i) (are_to_ask.there u j) e)

    may : MayAskAll past x rs
    may = may_ask_all past x tokens rs s are_to_ask split

    named : MayNameAll past x rs
    named = names_all past x rs may

    sent_is : sent ≡ map (revoke x) rs
    sent_is = revokes_are x (askings x.stamp tokens)

    then_is : then ≡ appended (sending (map (revoke x) rs)) past
    then_is = ap (λ (ms : List Message). appended (sending ms) past) sent_is

    -- the tables stand then
    pub back_stands : (d : Draft) → Stands then (asking_back x d tokens).tables
    back_stands d = subst (λ (z : Tables). Stands then z) (sym (asked_all_is x (askings x.stamp tokens)))
        (subst (λ (l : List Doing). Stands l (asks_all x rs)) (sym then_is) (stands_asked past x rs s named))

    -- the rules allow each
    pub back_tokens : EachInTurn (ServerTokens x.server) (sending sent) past
    back_tokens = subst (λ (ms : List Message). EachInTurn (ServerTokens x.server) (sending ms) past) (sym sent_is)
        (tokens_may_all past x rs s named)

    pub back_may : (tree : Tree) (step : Step) → EachInTurn (MaySend x.server tree step) (sending sent) past
    back_may tree step = subst (λ (ms : List Message). EachInTurn (MaySend x.server tree step) (sending ms) past)
        (sym sent_is) (may_send_all tree step past x rs s may)

    pub back_once : EachOnce sent
    back_once = subst EachOnce (sym sent_is) (once_all past x rs named)

    -- and all that is in the way was asked back
    pub back_asked : ((h : HostId) → IsLive past h → h ≡ exporter → ⊥) → (t : Token) → IsAskedBack x.server then t
        → HasRevoked then t
    back_asked own t b = subst (λ (l : List Doing). HasRevoked l t) (sym then_is)
        (all_recalled past x tokens rs s are_to_ask split (all_to_ask past x s one own) t
        (subst (λ (l : List Doing). IsAskedBack x.server l t) then_is b))

    pub back_quiet : ((h : HostId) → IsLive past h → h ≡ exporter → ⊥) → (tree : Tree) → AreAnswered x.server tree past
        → IsQuiet x.server tree then
    back_quiet own tree z =
        let k = subst (λ (l : List Doing). AreAnswered x.server tree l) (sym then_is)
        (answered_asked past tree x rs named s z) in
        record {
          grants = k.grants;
          uses = k.uses;
          others = k.others;
          enters = k.enters;
          asked = back_asked own;
          claims = k.claims;
        }

    pub back_answered : (answers : List Answered) → AnsweredStand past answers → AnsweredStand then answers
    back_answered answers z = subst (λ (l : List Doing). AnsweredStand l answers) (sym then_is)
        (told_asked past x rs answers named s z)
