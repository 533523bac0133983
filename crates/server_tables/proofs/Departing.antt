-- All tables of a server once a host goes away: its Down is taken, or its Bye.
use Rattle.std.proofs.Common.{◌≡◌, ◌⊎◌, ℕ, ◌==◌, Bool, true, false, not, if◌then◌else◌, List, [], ◌∷◌, ◌++◌, inl, inr}
use Rattle.std.proofs.Common.{refl, sym, ◌∙◌, ap, subst, eq-eqb}
use Rattle.std.proofs.lemmas.Bool.{cases_Bool, false≢true}
use Rattle.base_types.specs.declared.ids.FilesetId.{FilesetId}
use Rattle.base_types.specs.declared.ids.HostId.{HostId}
use Rattle.message_types.specs.declared.giving.Give.{Give}
use Rattle.message_types.specs.declared.giving.Reclaim.{Reclaim as ReclaimOf}
use Rattle.message_types.specs.declared.message.Body.{Body}
use Rattle.message_types.specs.declared.message.Body.TheVariants.{Bye, Down, GiveBack, Reclaim}
use Rattle.token_manager.specs.Grants.{without_host}
use Rattle.token_manager.specs.Managers.{after_down}
use Rattle.token_manager.specs.declared.grants.Grants.{Grants}
use Rattle.run_rules.specs.Doings.{Doing, GoesAway, HasGoneAway, HasGoneDown, IsDurable, IsLive, IsNewEpoch, Listed}
use Rattle.run_rules.specs.Doings.{SentTo, TookNow, TookOf, epoch}
use Rattle.run_rules.specs.Doings.Doing.{Took}
use Rattle.run_rules.specs.Past.{In}
use Rattle.run_rules.specs.Wants.{IsQueued, exporter}
use Rattle.run_rules.specs.declared.applied.Wanted.{Wanted}
use Rattle.run_rules.specs.declared.applied.Written.{Written}
use Rattle.server_tables.specs.declared.hosts.Hosts.{Hosts}
use Rattle.server_tables.specs.declared.pending.Pending.{Pending}
use Rattle.server_tables.specs.declared.recovering.Claimed.{Claimed}
use Rattle.server_tables.specs.declared.recovering.GaveUp.{GaveUp}
use Rattle.server_tables.specs.declared.tables.LastChange.{LastChange}
use Rattle.server_tables.specs.declared.tables.LastGive.{LastGive}
use Rattle.server_tables.specs.declared.tables.Tables.{Tables}
use Rattle.server_tables.specs.Judging.{forgotten}
use Rattle.server_tables.specs.Listing.{has_host, leaving, no_grace, stopping}
use Rattle.server_tables.specs.Standing.{AnsweredStand, ChangesStand, GivesStand, HostsStand, IsLastChange, QueueStands}
use Rattle.server_tables.specs.Standing.{RecoveryStands, StampsStand, Stands, TokensStand, WroteThis}
use Rattle.server_tables.specs.Updates.{gone_away, left_by, wants_left}
use Rattle.server_tables.proofs.Fetching.{same_host}
use Rattle.server_tables.proofs.Greeting.{in_end, in_front, in_parts}
use Rattle.server_tables.proofs.Leaving.{hosts_gone, leaves, live_back, names, not_body, over_on, reclaimed_back}
use Rattle.server_tables.proofs.Leaving.{stamps_left, waited, wants_gone}
use Rattle.server_tables.proofs.Leaving.{its_body, tokens_left as tokens_gone}
use Rattle.server_tables.proofs.Linking.{AreOwned, host_without}
use Rattle.server_tables.proofs.Listed.{leaving_now, leaving_of, leaving_was, over_is}
use Rattle.server_tables.proofs.Numbered.{Rise, its_grants, left_empty, left_queue}
use Rattle.server_tables.proofs.Opening.{opened_grants, queue_opened, queue_was}
use Rattle.server_tables.proofs.Queueing.{one_is}
use Rattle.server_tables.proofs.Without.{in_filter, to_filter}

pub apart : (k h : HostId) → (k ≡ h → ⊥) → not (k.0 == h.0) ≡ true
apart k h other = elim (cases_Bool (k.0 == h.0)) [ inl e ↦ absurd (other (same_host k h e)) | inr e ↦ ap not e ]

pub differs : (k h : HostId) → not (k.0 == h.0) ≡ true → k ≡ h → ⊥
differs k h e q = false≢true (sym (ap not (eq-eqb k.0 h.0 (ap (λ (z : HostId). z.0) q))) ∙ e)

leaving_is : (x : Hosts) (h : HostId) → record x { away = (leaving x h).away } ≡ leaving x h
unfolding leaving
leaving_is x h = go (has_host x.away h)
  where
    go : (b : Bool) → record x { away = (if b then x else record x { away = x.away ++ h ∷ [] }).away }
        ≡ (if b then x else record x { away = x.away ++ h ∷ [] })
    go true = refl
    go false = refl

-- `downs` are the hosts that are down then
module _ (past : List Doing) (x : Tables) (s : Stands past x) (h : HostId) (e n : ℕ) (b : Body)
    (kind : (b ≡ Down) ⊎ ((b ≡ Bye) × (e ≡ epoch past) × Listed past h × (HasGoneDown past h → ⊥)))
    (not_own : h ≡ exporter → ⊥) (rise : Rise x.pending) (own : AreOwned x.tokens.grants) (downs : List HostId)
    (of : (k : HostId) → In k downs → In k x.hosts.down ⊎ ((k ≡ h) × (b ≡ Down)))
    (was : (k : HostId) → In k x.hosts.down → In k downs) (now : b ≡ Down → In h downs) where
  abbrev a : Doing
  a = Took h e n b

  abbrev after : List Doing
  after = a ∷ past

  abbrev z : Hosts
  z = record x.hosts { down = downs }

  abbrev y : Tables
  y = record x { hosts = z }

  abbrev l : Tables
  l = left_by y h

  same_epoch : IsNewEpoch a → ⊥
  same_epoch q = let p = q.1 in cc

  hosts_left : HostsStand after (leaving z h)
  hosts_left = subst (HostsStand after) (leaving_is z h)
      (hosts_gone past x.server h e n b kind x.hosts downs (leaving z h).away s.hosts of was now (leaving_of z h)
      (leaving_was z h) (leaving_now z h))

  grants_are : (gone_away y h).tokens.grants ≡ without_host x.tokens.grants h
  grants_are = opened_grants (no_grace z) l ∙ its_grants (after_down x.tokens h) h x.pending

  others : (p : Pending) → In p (wants_left x.pending h) → In p x.pending × (p.wanted.host ≡ h → ⊥)
  others p m = let q = in_filter (λ (p : Pending). not (p.wanted.host.0 == h.0)) p x.pending m in
      (q.0, differs p.wanted.host h q.1)

  stay : (p : Pending) → In p x.pending → (p.wanted.host ≡ h → ⊥) → In p (wants_left x.pending h)
  stay p m other = to_filter (λ (p : Pending). not (p.wanted.host.0 == h.0)) p x.pending m (apart p.wanted.host h other)

  queue_left : QueueStands after (gone_away y h).tokens.queue (wants_left x.pending h)
  queue_left =
      let q = queue_was past x s.hosts s.queue in
      queue_opened after l hosts_left (no_grace z)
      (λ o. left_queue h not_own x.pending rise x.tokens (q.0 o))
      (λ o. left_empty h x.pending x.tokens (q.1 o))
      (λ o. over_on past x.server h e n b kind (over_is past x.hosts s.hosts o))

  sent_back : (k : HostId) (f m : ℕ) (d : Body) → SentTo after k f m d → SentTo past k f m d
  sent_back k f m d (inl p) = absurd (cc)
  sent_back k f m d (inr p) = p

  wrote_back : (w : Written) → WroteThis after w → WroteThis past w
  wrote_back w (inl p) = absurd (cc)
  wrote_back w (inr p) = p

  durable_back : (k : HostId) (f : FilesetId) (m : ℕ) → IsDurable after k f m → IsDurable past k f m
  durable_back k f m d = (d.0, d.1, elim d.2 [ inl p ↦ absurd (let q = p.1 in cc) | inr p ↦ p ])

  pub no_give : (k : HostId) (m : ℕ) (g : Give) → a ≡ Took k (epoch past) m (GiveBack g) → ⊥
  no_give k m g p = not_body past x.server h e n b kind (GiveBack g) (λ q. cc) (λ q. cc)
      (its_body past x.server h e n b kind k (epoch past) m (GiveBack g) p)

  pub no_claim : (k : HostId) (m : ℕ) (c : ReclaimOf) → a ≡ Took k (epoch past) m (Reclaim c) → ⊥
  no_claim k m c p = not_body past x.server h e n b kind (Reclaim c) (λ q. cc) (λ q. cc)
      (its_body past x.server h e n b kind k (epoch past) m (Reclaim c) p)

  gives_gone : GivesStand after x.server x.gives
  gives_gone = record {
    applied = λ g m. inr (s.gives.applied g m);
    applied_all = λ k m w. elim w [ inl p ↦ absurd (no_give k p.1.0 p.0 p.1.2.0) | inr p ↦ s.gives.applied_all k m p ];
  }

  last_gone : (c : LastChange) → IsLastChange past c → IsLastChange after c
  last_gone c t = record {
    n = t.n;
    sent = inr t.sent;
    of = t.of;
    top = λ f m d w g. t.top f m d (sent_back c.host f m _ w) g;
    newest = λ m d w g. t.newest m d (sent_back c.host (epoch past) m _ w) g;
    wrote = λ w q. let p = t.wrote w q in (inr p.0, p.1, p.2);
    wrote_all = λ w o p q. t.wrote_all w (wrote_back w o) p q;
    reply = t.reply;
    brings = t.brings;
    home = t.home;
  }

  waits_back : (w : Wanted) → IsQueued after w → IsQueued past w
  waits_back w u = (waited past x.server h e n b kind x.next x.pending
      (wants_left x.pending h) s.wants others stay w u).0

  changes_gone : ChangesStand after x.changes
  changes_gone = record {
    last = λ c m. last_gone c (s.changes.last c m);
    last_all = λ k f m d t. s.changes.last_all k f m d (sent_back k f m _ t);
    answered = λ w t. s.changes.answered w (wrote_back w t);
    fresh = λ w c waits is d. s.changes.fresh w c (waits_back w waits) is (durable_back w.host c.fileset c.number d);
    above = λ w c f m d waits is t g. s.changes.above w c f m d (waits_back w waits) is (sent_back w.host f m _ t) g;
  }

  recovery_gone : RecoveryStands after x.server (forgotten x.recovering h).claims (forgotten x.recovering h).taken
      (forgotten x.recovering h).given_up
  recovery_gone = record {
    claim = λ k m d took never alive.
        let was : TookNow past k m (Reclaim d) = elim took [ inl p ↦ absurd (no_claim k m d p.0) | inr p ↦ p.0 ] in
        to_filter (λ (c : Claimed). not (c.host.0 == h.0)) (record { host = k; claim = d }) x.recovering.claims
        (s.recovery.claim k m d was (λ r. never (inr (r, same_epoch))) (live_back past x.server h e n b kind k alive))
        (apart k h (λ q. alive.1 (gone k q)));
    claimed = λ c m.
        let p = s.recovery.claimed c (in_filter (λ (c : Claimed). not (c.host.0 == h.0)) c x.recovering.claims m).0 in
        (p.0, inr (p.1, same_epoch));
    taken = λ k g took never here.
        let was : TookOf x.server past k g.fid.fileset (GiveBack g) = elim took [
          | inl p ↦ absurd
              (no_give k p.0 g p.2.0)
          | inr p ↦ p.0
        ] in
        to_filter (λ (t : LastGive). not (t.host.0 == h.0)) _ x.recovering.taken
        (s.recovery.taken k g was (λ r. never (inr (r, same_epoch))) (λ o. here (inr o))) (apart k h (λ q. here
        (gone k q)));
    taken_only = λ t m.
        let p = s.recovery.taken_only t (in_filter (λ (t : LastGive). not
        (t.host.0 == h.0)) t x.recovering.taken m).0 in
        (p.0, inr (p.1, same_epoch), p.2);
    given_up = λ k i up never here. elim up [
      | inl p ↦ absurd (names past x.server h e n b kind k i p)
      | inr p ↦ to_filter (λ (u : GaveUp). not (u.host.0 == h.0)) (record { host = k; id = i }) x.recovering.given_up
          (s.recovery.given_up k i p.0 (λ r. never (inr (r, same_epoch))) (λ o. here (inr o))) (apart k h (λ q. here
          (gone k q)))
    ];
    given_up_only = λ u m.
        inr (
          s.recovery.given_up_only u (in_filter (λ (u : GaveUp). not
              (u.host.0 == h.0)) u x.recovering.given_up m).0,
          same_epoch,
        );
  }
    where
      gone : (k : HostId) → k ≡ h → HasGoneAway after k
      gone k q = inl (subst (λ (v : HostId). GoesAway past a v) (sym q) (leaves past x.server h e n b kind))

  pub stands_gone : Stands after (gone_away y h)
  stands_gone = record {
    slots = s.slots;
    hosts = hosts_left;
    tokens = subst (TokensStand after x.server) (sym grants_are)
        (tokens_gone past x.server h e n b kind x.tokens.grants (without_host x.tokens.grants h) s.tokens
        (host_without x.tokens.grants h own));
    stamps = subst (λ (g : Grants). StampsStand after g x.stamp) (sym grants_are)
        (stamps_left past x.server h e n b kind x.tokens.grants (without_host x.tokens.grants h) s.tokens
        (host_without x.tokens.grants h own) s.stamps);
    wants = wants_gone past x.server h e n b kind x.next x.pending (wants_left x.pending h) s.wants others stay;
    queue = queue_left;
    gives = gives_gone;
    changes = changes_gone;
    recovery = recovery_gone;
  }

  pub answered_gone : AnsweredStand past x.recovering.answers → AnsweredStand after (gone_away y h).recovering.answers
  answered_gone t = record {
    answers_all = λ k r. t.answers_all k (reclaimed_back past x.server h e n b kind k r);
    answered = λ c m. let p = t.answered c m in (p.0, inr p.1);
  }

-- A host has stopped.
module _ (past : List Doing) (x : Tables) (s : Stands past x) (h : HostId) (e n : ℕ) (not_own : h ≡ exporter → ⊥)
    (rise : Rise x.pending) (own : AreOwned x.tokens.grants) where
  downs_of : (k : HostId) → In k (x.hosts.down ++ h ∷ []) → In k x.hosts.down ⊎ ((k ≡ h) × (Down ≡ Down))
  downs_of k m = elim (in_parts k x.hosts.down (h ∷ []) m) [ inl p ↦ inl p | inr p ↦ inr (one_is k h p, refl) ]

  pub stands_down : Stands (Took h e n Down ∷ past) (gone_away (record x { hosts = stopping x.hosts h }) h)
  stands_down = stands_gone past x s h e n Down (inl refl) not_own rise own (x.hosts.down ++ h ∷ []) downs_of
      (λ k m. in_front k x.hosts.down (h ∷ []) m) (λ _. in_end h x.hosts.down)

  pub answered_down : AnsweredStand past x.recovering.answers
      → AnsweredStand (Took h e n Down ∷ past) (gone_away (record x { hosts = stopping x.hosts h })
      h).recovering.answers
  answered_down = answered_gone past x s h e n Down (inl refl) not_own rise own (x.hosts.down ++ h ∷ []) downs_of
      (λ k m. in_front k x.hosts.down (h ∷ []) m) (λ _. in_end h x.hosts.down)

-- A host ends, in this epoch.
module _ (past : List Doing) (x : Tables) (s : Stands past x) (h : HostId) (e n : ℕ) (is_now : e ≡ epoch past)
    (live : IsLive past h) (not_own : h ≡ exporter → ⊥) (rise : Rise x.pending) (own : AreOwned x.tokens.grants) where
  never_down : HasGoneDown past h → ⊥
  never_down d = live.1 (downs past d)
    where
      downs : (acts : List Doing) → HasGoneDown acts h → HasGoneAway acts h
      downs [] d = elim d [ ]
      downs (c ∷ acts) (inl p) = inl (inl p)
      downs (c ∷ acts) (inr p) = inr (downs acts p)

  pub stands_bye : Stands (Took h e n Bye ∷ past) (gone_away x h)
  stands_bye = stands_gone past x s h e n Bye (inr (refl, is_now, live.0, never_down)) not_own rise own x.hosts.down
      (λ k m. inl m) (λ k m. m) (λ q. absurd (cc))

  pub answered_bye : AnsweredStand past x.recovering.answers
      → AnsweredStand (Took h e n Bye ∷ past) (gone_away x h).recovering.answers
  answered_bye = answered_gone past x s h e n Bye (inr (refl, is_now, live.0, never_down)) not_own rise own x.hosts.down
      (λ k m. inl m) (λ k m. m) (λ q. absurd (cc))
