-- All tables of a server once a claim of a host is taken: it waits, where the host hasn't reclaimed.
use Rattle.std.proofs.Common.{◌≡◌, ◌⊎◌, ℕ, List, [], ◌∷◌, inl, inr, refl, sym, subst}
use Rattle.base_types.specs.declared.ids.HostId.{HostId}
use Rattle.message_types.specs.declared.giving.Reclaim.{Reclaim as ReclaimOf}
use Rattle.message_types.specs.declared.message.Body.TheVariants.{Reclaim}
use Rattle.token_types.specs.declared.token.TokenId.{TokenId}
use Rattle.run_rules.specs.Doings.{Doing, GivesUp, HasReclaimed, IsLive, TookNow, epoch}
use Rattle.run_rules.specs.Doings.Doing.{Took}
use Rattle.run_rules.specs.Past.{In}
use Rattle.server_tables.specs.declared.recovering.Claimed.{Claimed}
use Rattle.server_tables.specs.declared.tables.Tables.{Tables}
use Rattle.server_tables.specs.Standing.{AnsweredStand, RecoveryStands, Stands}
use Rattle.server_tables.proofs.Giving.{IsWithout, stamps_up, tokens_up, up_hosts, up_wants}
use Rattle.server_tables.proofs.Still.{HostsStill, WantsStill, answered_still, changes_still, hosts_still, live_was}
use Rattle.server_tables.proofs.Still.{queue_still, took_listed, waits_back, wants_still}

-- `claims` are those that wait then; of a host that has reclaimed they are the same
module _ (past : List Doing) (x : Tables) (s : Stands past x) (h : HostId) (n : ℕ) (c : ReclaimOf)
    (live : IsLive past h)
    (claims : List Claimed) (has : (HasReclaimed past h → ⊥) → In (record { host = h; claim = c }) claims)
    (of : (l : Claimed) → In l claims → In l x.recovering.claims ⊎ (l ≡ record { host = h; claim = c }))
    (stay : (l : Claimed) → In l x.recovering.claims → In l claims) where
  abbrev a : Doing
  a = Took h (epoch past) n (Reclaim c)

  abbrev after : List Doing
  after = a ∷ past

  names : (k : HostId) (i : TokenId) → GivesUp x.server past a k i → (k ≡ h) × In i []
  names k i (inl p) = absurd (let q = p.1.2.0 in cc)
  names k i (inr p) = absurd (let q = p.1.2.0 in cc)

  hosts : HostsStill past a
  hosts = up_hosts past x.server h n (Reclaim c) [] live ((λ p. cc), (λ p. cc), (λ p. cc)) (λ k p. cc) names
      (λ i m. elim m [ ])

  wants : WantsStill past a
  wants = up_wants past x.server h n (Reclaim c) [] live ((λ p. cc), (λ p. cc), (λ p. cc)) (λ k p. cc) names
      (λ i m. elim m [ ])

  without_none : IsWithout x.tokens.grants x.tokens.grants h []
  without_none = record {
    server = refl;
    epoch = refl;
    last = refl;
    were = λ t m. m;
    gone = λ t m e i. elim i [ ];
    stay = λ t m f. m;
    same = λ t m. refl;
    noted = s.tokens.noted;
  }

  its_claim : (k : HostId) (e m : ℕ) (d : ReclaimOf) → a ≡ Took k e m (Reclaim d) → (h ≡ k) × (c ≡ d)
  its_claim k e m d p = (cc, cc)

  recovery_claimed : RecoveryStands after x.server claims x.recovering.taken x.recovering.given_up
  recovery_claimed = record {
    claim = λ k m d took never alive. elim took [
      | inl p ↦ (let q = its_claim k (epoch past) m d p.0 in
          subst (λ (z : HostId). In (record { host = z; claim = d }) claims) q.0
          (subst (λ (z : ReclaimOf). In (record { host = h; claim = z }) claims) q.1
          (has (λ r. never (inr (subst (HasReclaimed past) q.0 r, hosts.calm.begin))))))
      | inr p ↦ stay (record { host = k; claim = d }) (s.recovery.claim k m d p.0 (λ r. never (inr
          (r, hosts.calm.begin)))
          (live_was past a hosts.calm k (took_listed past k m (Reclaim d) p.0) alive))
    ];
    claimed = λ l m. elim (of l m) [
      | inl p ↦ (let q = s.recovery.claimed l p in (q.0, inr (q.1, hosts.calm.begin)))
      | inr p ↦ (n, subst (λ (z : Claimed). TookNow after z.host n (Reclaim z.claim)) (sym p) (inl (refl, live)))
    ];
    taken = λ k g took never here. elim took [
      | inl p ↦ absurd (let q = p.2.0 in cc)
      | inr p ↦ s.recovery.taken k g p.0 (λ r. never (inr (r, hosts.calm.begin))) (λ o. here (inr o))
    ];
    taken_only = λ l m. let p = s.recovery.taken_only l m in (p.0, inr (p.1, hosts.calm.begin), p.2);
    given_up = λ k i up never here. elim up [
      | inl p ↦ absurd (elim (names k i p).1 [ ])
      | inr p ↦ s.recovery.given_up k i p.0 (λ r. never (inr (r, hosts.calm.begin))) (λ o. here (inr o))
    ];
    given_up_only = λ u m. inr (s.recovery.given_up_only u m, hosts.calm.begin);
  }

  pub stands_claimed : Stands after (record x { recovering = record x.recovering { claims = claims } })
  stands_claimed = record {
    slots = s.slots;
    hosts = hosts_still past a hosts s.hosts;
    tokens = tokens_up past x.server h n (Reclaim c) [] live ((λ p. cc), (λ p. cc), (λ p. cc)) (λ k p. cc) names
        (λ i m. elim m [ ])
        x.tokens.grants x.tokens.grants s.tokens without_none;
    stamps = stamps_up past x.server h n (Reclaim c) [] live ((λ p. cc), (λ p. cc), (λ p. cc)) (λ k p. cc) names
        (λ i m. elim m [ ])
        x.tokens.grants x.tokens.grants s.tokens without_none s.stamps;
    wants = wants_still past a hosts.calm x.server wants s.wants;
    queue = queue_still past a hosts.calm s.queue;
    gives = record {
      applied = λ g m. inr (s.gives.applied g m);
      applied_all = λ k m w. elim w [ inl p ↦ absurd (let q = p.1.2.0 in cc) | inr p ↦ s.gives.applied_all k m p ];
    };
    changes = changes_still past a hosts.calm (record { dones = λ k e m d p. cc; writes = λ w p. cc })
        (waits_back past a hosts.calm x.server wants) s.changes;
    recovery = recovery_claimed;
  }

  pub answered_claimed : AnsweredStand past x.recovering.answers → AnsweredStand after x.recovering.answers
  answered_claimed t = answered_still past a hosts t
