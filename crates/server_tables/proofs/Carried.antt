-- Tables that stand for some doings stand for all doings that say the same; and so it is with what the rules say of
-- wants and tokens.
use Rattle.std.proofs.Common.{List, subst, sym, ℕ, ◌∙◌, inl, inr, ◌≤◌}
use Rattle.base_types.specs.declared.ids.FilesetId.{FilesetId}
use Rattle.base_types.specs.declared.ids.HostId.{HostId}
use Rattle.base_types.specs.declared.ids.ServerId.{ServerId}
use Rattle.message_types.specs.declared.giving.Reclaim.{Reclaim as ReclaimOf}
use Rattle.message_types.specs.declared.message.Body.TheVariants.{Done, GiveBack, Reclaim, Reclaimed}
use Rattle.message_types.specs.declared.telling.Done.{Done as DoneOf}
use Rattle.token_manager.specs.declared.grants.Grants.{Grants}
use Rattle.token_manager.specs.declared.want.Want.{Want as WantOf}
use Rattle.token_types.specs.declared.token.Token.{Token}
use Rattle.run_rules.specs.Doings.{Doing, IsLive, NoGrace, SentTo}
use Rattle.run_rules.specs.Doings.{IsDurable, epoch}
use Rattle.run_rules.specs.ServerMay.{IsAskedBack, IsLast, IsOwed}
use Rattle.run_rules.specs.ServerTokens.{HasTakenGives}
use Rattle.run_rules.specs.Wants.{CanDecide, CanGrant, CanRefuse, IsBehind, body_of}
use Rattle.run_rules.specs.declared.applied.Wanted.{Wanted}
use Rattle.server_tables.specs.declared.hosts.Hosts.{Hosts}
use Rattle.server_tables.specs.declared.pending.Pending.{Pending}
use Rattle.server_tables.specs.declared.recovering.Answered.{Answered}
use Rattle.server_tables.specs.declared.recovering.Claimed.{Claimed}
use Rattle.server_tables.specs.declared.recovering.GaveUp.{GaveUp}
use Rattle.server_tables.specs.declared.tables.LastChange.{LastChange}
use Rattle.server_tables.specs.declared.tables.LastGive.{LastGive}
use Rattle.server_tables.specs.declared.tables.Tables.{Tables}
use Rattle.server_tables.specs.Standing.{AnsweredStand, ChangesStand, GivesStand, HostsStand, IsLastChange}
use Rattle.server_tables.specs.Standing.{QueueStands, RecoveryStands, StampsStand, Stands, TokensStand, WantsStand}
use Rattle.server_tables.proofs.Still.{asked_by}
use Rattle.server_tables.proofs.Alike.{SameWords, live_both}

module _ (server : ServerId) (p q : List Doing) (s : SameWords server p q) where
  pub live_to : (h : HostId) → IsLive p h → IsLive q h
  live_to h = (live_both server p q s.heard h).0

  pub live_from : (h : HostId) → IsLive q h → IsLive p h
  live_from h = (live_both server p q s.heard h).1

  pub over_to : NoGrace p → NoGrace q
  over_to over h live = (s.reclaimed h).0 (over h (live_from h live))

  pub over_from : NoGrace q → NoGrace p
  over_from over h live = (s.reclaimed h).1 (over h (live_to h live))

  hosts_carried : {x : Hosts} → HostsStand p x → HostsStand q x
  hosts_carried z = record {
    epoch_is = z.epoch_is ∙ s.heard.epoch_is;
    sent_up_to = λ h e n b t. subst (λ m. e ≤ m) s.heard.epoch_is (z.sent_up_to h e n b ((s.sent h e n b).1 t));
    listed = λ h i. (s.heard.listed h).0 (z.listed h i);
    listed_all = λ h l. z.listed_all h ((s.heard.listed h).1 l);
    down = λ h i. (s.heard.down h).0 (z.down h i);
    down_all = λ h l. z.down_all h ((s.heard.down h).1 l);
    away = λ h i. (s.heard.away h).0 (z.away h i);
    away_all = λ h l. z.away_all h ((s.heard.away h).1 l);
    now = λ h i. (s.heard.now h).0 (z.now h i);
    now_all = λ h l. z.now_all h ((s.heard.now h).1 l);
    reclaimed = λ h i. (s.reclaimed h).0 (z.reclaimed h i);
    reclaimed_all = λ h l. z.reclaimed_all h ((s.reclaimed h).1 l);
  }

  tokens_carried : {grants : Grants} → TokensStand p server grants → TokensStand q server grants
  tokens_carried z = record {
    server_is = z.server_is;
    epoch_is = z.epoch_is ∙ s.heard.epoch_is;
    granted = λ t i. (s.granted t).0 (z.granted t i);
    granted_all = λ t g. z.granted_all t ((s.granted t).1 g);
    pinned = λ t i e. (s.pinned t).0 (z.pinned t i e);
    pinned_all = λ t g. z.pinned_all t ((s.pinned t).1 g);
    here = λ t g a. z.here t ((s.granted t).1 g) ((s.heard.away t.host).1 a);
    live = λ t g. live_to t.host (z.live t ((s.granted t).1 g));
    known = z.known;
    issued = λ t k i e. z.issued t k ((s.issued t k).1 i) (e ∙ sym s.heard.epoch_is);
    issued_up_to = λ t k i. subst (λ m. t.id.epoch ≤ m) s.heard.epoch_is (z.issued_up_to t k ((s.issued t k).1 i));
    noted = z.noted;
    old = λ t i e. z.old t i (e ∙ sym s.heard.epoch_is);
    none_reserved = λ t r. z.none_reserved t ((s.heard.reserved t).1 r);
    one = λ t u k i e g q. z.one t u k ((s.issued t k).1 i) (e ∙ sym s.heard.epoch_is) ((s.granted u).1 g) q;
  }

  stamps_carried : {grants : Grants} {stamp : ℕ} → StampsStand p grants stamp → StampsStand q grants stamp
  stamps_carried z = record {
    told = λ f k u. z.told f k ((s.stamps f k).1 u);
    revoked = λ t i e. (s.revoked t).0 (z.revoked t i e);
    revoked_all = λ t i r. z.revoked_all t i ((s.revoked t).1 r);
    revoked_old = λ t r e. z.revoked_old t ((s.revoked t).1 r) (e ∙ sym s.heard.epoch_is);
    revoked_live = λ t r. (s.reclaimed t.host).0 (z.revoked_live t ((s.revoked t).1 r));
  }

  wants_carried : {next : ℕ} {ps : List Pending} → WantsStand p server next ps → WantsStand q server next ps
  wants_carried z = record {
    pending = λ x i. (s.queued x.wanted).0 (z.pending x i);
    pending_all = λ w waits. z.pending_all w ((s.queued w).1 waits);
    order = λ x y i j l. (s.before x.wanted y.wanted).0 (z.order x y i j l);
    order_all = λ x y i j b. z.order_all x y i j ((s.before x.wanted y.wanted).1 b);
    live = λ w waits. live_to w.host (z.live w ((s.queued w).1 waits));
    took = λ w waits. (s.heard.took w.host w.moves (body_of w.request)).0 (z.took w ((s.queued w).1 waits));
    here = λ w waits.
        asked_by server p q (λ f. sym (s.heard.slots f)) w.moves w.request (z.here w ((s.queued w).1 waits));
    once = λ w v a b. z.once w v ((s.queued w).1 a) ((s.queued v).1 b);
    few = z.few;
    below = z.below;
  }

  queue_carried : {queue : List WantOf} {ps : List Pending} → QueueStands p queue ps → QueueStands q queue ps
  queue_carried z = record {
    calm = λ over. z.calm (over_from over);
    grace = λ none. z.grace (λ over. none (over_to over));
  }

  gives_carried : {gives : List LastGive} → GivesStand p server gives → GivesStand q server gives
  gives_carried z = record {
    applied = λ g i. (s.heard.applied g.host g.give).0 (z.applied g i);
    applied_all = λ h n a. z.applied_all h n ((s.heard.applied h n).1 a);
  }

  pub durable_from : (h : HostId) (f : FilesetId) (n : ℕ) → IsDurable q h f n → IsDurable p h f n
  durable_from h f n d = (d.0, d.1, (s.written h f d.0).1 d.2)

  pub durable_to : (h : HostId) (f : FilesetId) (n : ℕ) → IsDurable p h f n → IsDurable q h f n
  durable_to h f n d = (d.0, d.1, (s.written h f d.0).0 d.2)

  last_carried : {last : LastChange} → IsLastChange p last → IsLastChange q last
  last_carried {last} z = record {
    n = z.n;
    sent = (s.sent last.host last.epoch z.n (Done last.done)).0 z.sent;
    of = z.of;
    top = λ e k d t f. z.top e k d ((s.sent last.host e k (Done d)).1 t) f;
    newest = λ k d t f. elim (z.newest k d ((s.sent last.host (epoch p) k (Done d)).1
        (subst (λ m. SentTo q last.host m k (Done d)) (sym s.heard.epoch_is) t)) f) [
          | inl e ↦ inl (e ∙ s.heard.epoch_is)
          | inr w ↦ inr w
        ];
    wrote = λ w e. (let x = z.wrote w e in ((s.wrote w).0 x.0, x.1, x.2));
    wrote_all = λ w o h f. z.wrote_all w ((s.wrote w).1 o) h f;
    reply = z.reply;
    brings = z.brings;
    home = z.home;
  }

  changes_carried : {changes : List LastChange} → ChangesStand p changes → ChangesStand q changes
  changes_carried z = record {
    last = λ c i. last_carried (z.last c i);
    last_all = λ h e n d t. z.last_all h e n d ((s.sent h e n (Done d)).1 t);
    answered = λ w o. z.answered w ((s.wrote w).1 o);
    fresh = λ w c waits is d. z.fresh w c ((s.queued w).1 waits) is (durable_from w.host c.fileset c.number d);
    above = λ w c e n d waits is t f. z.above w c e n d ((s.queued w).1 waits) is ((s.sent w.host e n (Done d)).1 t) f;
  }

  recovery_carried : {claims : List Claimed} {takens : List LastGive} {ups : List GaveUp}
      → RecoveryStands p server claims takens ups → RecoveryStands q server claims takens ups
  recovery_carried z = record {
    claim = λ h n c t never l.
        z.claim h n c ((s.heard.took h n (Reclaim c)).1 t) (λ r. never ((s.reclaimed h).0 r)) (live_from h l);
    claimed = λ c i. (let x = z.claimed c i in (x.0, (s.heard.took c.host x.0 (Reclaim c.claim)).0 x.1));
    taken = λ h g t never here.
        z.taken h g ((s.heard.took_of h g.fid.fileset (GiveBack g)).1 t) (λ r. never ((s.reclaimed h).0 r))
        (λ o. here ((s.heard.away h).0 o));
    taken_only = λ l i. (let x = z.taken_only l i in
        (x.0, (s.heard.took_of l.host x.0.fid.fileset (GiveBack x.0)).0 x.1, x.2));
    given_up = λ h i u never here. z.given_up h i ((s.heard.given_up h i).1 u) (λ r. never ((s.reclaimed h).0 r))
        (λ o. here ((s.heard.away h).0 o));
    given_up_only = λ l i. (s.heard.given_up l.host l.id).0 (z.given_up_only l i);
  }

  pub answered_carried : {answers : List Answered} → AnsweredStand p answers → AnsweredStand q answers
  answered_carried z = record {
    answers_all = λ h r. z.answers_all h ((s.reclaimed h).1 r);
    answered = λ a i. (let x = z.answered a i in (
      x.0,
      subst (λ m. SentTo q a.host m x.0 (Reclaimed a.answer)) s.heard.epoch_is
          ((s.sent a.host (epoch p) x.0 (Reclaimed a.answer)).0 x.1),
    ));
  }

  -- # Of single wants and tokens

  pub behind_to : (w : Wanted) → IsBehind p w → IsBehind q w
  behind_to w b = (b.0, (s.before b.0 w).0 b.1, b.2)

  pub behind_from : (w : Wanted) → IsBehind q w → IsBehind p w
  behind_from w b = (b.0, (s.before b.0 w).1 b.1, b.2)

  pub grant_to : (w : Wanted) → CanGrant server p w → CanGrant server q w
  grant_to w g = record {
    over = over_to g.over;
    free = λ t h. g.free t (elim h [ inl x ↦ inl ((s.granted t).1 x) | inr x ↦ inr ((s.heard.reserved t).1 x) ]);
    first = λ b. g.first (behind_from w b);
  }

  pub refuse_to : (w : Wanted) → CanRefuse server p w → CanRefuse server q w
  refuse_to w g = record {
    over = over_to g.over;
    pinned = (g.pinned.0, (s.pinned g.pinned.0).0 g.pinned.1, g.pinned.2);
    first = λ b. g.first (behind_from w b);
  }

  pub decide_to : (w : Wanted) → CanDecide server p w → CanDecide server q w
  decide_to w (inl g) = inl (grant_to w g)
  decide_to w (inr g) = inr (refuse_to w g)

  pub asked_to : (t : Token) → IsAskedBack server p t → IsAskedBack server q t
  asked_to t z = record {
    over = over_to z.over;
    granted = (s.granted t).0 z.granted;
    unpinned = λ x. z.unpinned ((s.pinned t).1 x);
    w = z.w;
    waits = (s.queued z.w).0 z.waits;
    blocks_it = z.blocks_it;
  }

  pub owed_to : (t : Token) → IsOwed server p t → IsOwed server q t
  owed_to t z = record {
    granted = (s.granted t).0 z.granted;
    unpinned = λ x. z.unpinned ((s.pinned t).1 x);
    revoked = (s.revoked t).0 z.revoked;
  }

  pub last_to : (h : HostId) (d : DoneOf) → IsLast p h d → IsLast q h d
  last_to h d top e n o t f = top e n o ((s.sent h e n (Done o)).1 t) f

  pub taken_gives_to : (h : HostId) (claim : ReclaimOf) → HasTakenGives server p h claim
      → HasTakenGives server q h claim
  taken_gives_to h claim z o i low here =
      let x = z o i low (s.heard.slots o.fileset ∙ here) in
      (x.0, (s.heard.took_of h o.fileset (GiveBack x.0)).0 x.1, x.2, x.3)

pub stands_carried : (p q : List Doing) (x : Tables) → SameWords x.server p q → Stands p x → Stands q x
stands_carried p q x s z = record {
  slots = λ f. sym (s.heard.slots f) ∙ z.slots f;
  hosts = hosts_carried x.server p q s z.hosts;
  tokens = tokens_carried x.server p q s z.tokens;
  stamps = stamps_carried x.server p q s z.stamps;
  wants = wants_carried x.server p q s z.wants;
  queue = queue_carried x.server p q s z.queue;
  gives = gives_carried x.server p q s z.gives;
  changes = changes_carried x.server p q s z.changes;
  recovery = recovery_carried x.server p q s z.recovery;
}
