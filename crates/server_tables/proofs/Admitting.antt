-- A claim is granted: its host has reclaimed from then on, and has the tokens again.
use Rattle.std.proofs.Common.{◌≡◌, ◌⊎◌, ℕ, ◌≤◌, ◌<◌, true, false, is_some, List, [], ◌∷◌, ◌++◌, inl, inr, refl, sym}
use Rattle.std.proofs.Common.{◌∙◌, ap, subst, arith}
use Rattle.std.specs.Option.{option_map_or}
use Rattle.std.proofs.lemmas.Bool.{false≢true}
use Rattle.base_types.specs.declared.ids.FilesetId.{FilesetId}
use Rattle.base_types.specs.declared.ids.HostId.{HostId}
use Rattle.base_types.specs.declared.ids.ServerId.{ServerId}
use Rattle.message_types.specs.declared.giving.Reclaim.{Reclaim as ReclaimOf}
use Rattle.message_types.specs.declared.message.Body.TheVariants.{Done, Reclaim}
use Rattle.message_types.specs.declared.telling.Done.{Done as DoneOf}
use Rattle.token_manager.specs.declared.grants.Grants.{Grants}
use Rattle.token_manager.specs.declared.want.Want.{Want as WantOf}
use Rattle.token_table.specs.declared.notes.Note.{Note}
use Rattle.token_table.specs.Marks.{is_pinned, is_revoked, note_at}
use Rattle.token_types.specs.declared.token.Token.{Token}
use Rattle.token_types.specs.declared.token.TokenId.{TokenId}
use Rattle.run_rules.specs.Doings.{Doing, GivesUp, GoesAway, Granted, HasGoneAway, HasReclaimed, IsDurable, IsLive}
use Rattle.run_rules.specs.Doings.{IsNewEpoch, IsNewlyGranted, Issues, Listed, NoGrace, Pinned, SentTo, StayStamp}
use Rattle.run_rules.specs.Doings.{TookNow, epoch}
use Rattle.run_rules.specs.Doings.Doing.{Admits}
use Rattle.run_rules.specs.Past.{In}
use Rattle.run_rules.specs.ServerMay.{HasRevoked}
use Rattle.run_rules.specs.Tokens.{number_of}
use Rattle.run_rules.specs.Wants.{Decides, IsQueued, Unwants}
use Rattle.run_rules.specs.declared.applied.Request.TheVariants.{Change as Changes, Fetch as Asks}
use Rattle.run_rules.specs.declared.applied.Request.{Request}
use Rattle.run_rules.specs.declared.applied.Wanted.{Wanted}
use Rattle.run_rules.specs.declared.applied.Written.{Written}
use Rattle.server_tables.specs.declared.hosts.Hosts.{Hosts}
use Rattle.server_tables.specs.declared.pending.Pending.{Pending}
use Rattle.server_tables.specs.declared.recovering.Claimed.{Claimed}
use Rattle.server_tables.specs.declared.recovering.GaveUp.{GaveUp}
use Rattle.server_tables.specs.declared.recovering.Recovering.{Recovering}
use Rattle.server_tables.specs.declared.tables.LastChange.{LastChange}
use Rattle.server_tables.specs.declared.tables.LastGive.{LastGive}
use Rattle.server_tables.specs.declared.tables.Tables.{Tables}
use Rattle.server_tables.specs.Standing.{ChangesStand, GivesStand, HostsStand, IsLastChange, QueueStands}
use Rattle.server_tables.specs.Standing.{RecoveryStands, Stands}
use Rattle.server_tables.specs.Standing.{StampsStand, TokensStand, WantsStand, WroteThis, tokens_of}
use Rattle.server_tables.proofs.Greeting.{in_end, in_front, in_parts}
use Rattle.server_tables.proofs.Still.{asked_by}
use Rattle.server_tables.proofs.Queueing.{one_is}

-- the same tokens and notes, and these tokens beside them, neither pinned nor asked back
pub record IsAdmitted (grants admitted : Grants) (tokens : List Token) : Type 0 where
  pub server : admitted.table.server ≡ grants.table.server
  pub epoch : admitted.table.epoch ≡ grants.table.epoch
  pub last : admitted.table.last ≡ grants.table.last
  pub were : (t : Token) → In t (tokens_of admitted) → In t (tokens_of grants) ⊎ In t tokens
  pub stay : (t : Token) → In t (tokens_of grants) → In t (tokens_of admitted)
  pub put : (t : Token) → In t tokens → In t (tokens_of admitted)
  pub same : (i : TokenId) → is_some (note_at grants.notes i) ≡ true → note_at admitted.notes i ≡ note_at grants.notes i
  pub known : (t : Token) → In t tokens → is_some (note_at admitted.notes t.id) ≡ true
  pub unpinned : (t : Token) → In t tokens → is_pinned admitted.notes t.id ≡ false
  pub unmarked : (t : Token) → In t tokens → is_revoked admitted.notes t.id ≡ false
  pub noted : (i : TokenId) → is_some (note_at admitted.notes i) ≡ true → (t : Token) × In t (tokens_of admitted) ×
      (t.id ≡ i)

-- the lists by which claims are judged, without those of a host
pub record IsForgotten (old new : Recovering) (h : HostId) : Type 0 where
  pub claim_of : (c : Claimed) → In c new.claims → In c old.claims
  pub claim_all : (c : Claimed) → In c old.claims → (c.host ≡ h → ⊥) → In c new.claims
  pub taken_of : (l : LastGive) → In l new.taken → In l old.taken
  pub taken_all : (l : LastGive) → In l old.taken → (l.host ≡ h → ⊥) → In l new.taken
  pub up_of : (l : GaveUp) → In l new.given_up → In l old.given_up
  pub up_all : (l : GaveUp) → In l old.given_up → (l.host ≡ h → ⊥) → In l new.given_up

-- The claim is of a live host that hasn't reclaimed; its tokens are the host's, of earlier epochs.
module _ (past : List Doing) (server : ServerId) (h : HostId) (tokens : List Token) (first : HasReclaimed past h → ⊥)
    (live : IsLive past h)
    (own : (t : Token) → In t tokens → t.host ≡ h) (earlier : (t : Token) → In t tokens → t.id.epoch < epoch past) where
  abbrev a : Doing
  a = Admits h tokens

  begin : IsNewEpoch a → ⊥
  begin b = let p = b.1 in cc

  goes : (k : HostId) → GoesAway past a k → ⊥
  goes k (inl p) = let q = p.2 in cc
  goes k (inr p) = let q = p.0.1 in cc

  listed_back : (k : HostId) → Listed (a ∷ past) k → Listed past k
  listed_back k (inl p) = absurd (let q = p.0.2 in cc)
  listed_back k (inr p) = p

  pub live_on : (k : HostId) → IsLive past k → IsLive (a ∷ past) k
  live_on k l = (inr l.0, λ w. elim w [ inl p ↦ goes k p | inr p ↦ l.1 p ])

  live_back : (k : HostId) → IsLive (a ∷ past) k → IsLive past k
  live_back k l = (listed_back k l.0, λ w. l.1 (inr w))

  reclaimed_now : HasReclaimed (a ∷ past) h
  reclaimed_now = inl (inl (tokens, refl))

  its_host : (k : HostId) (ts : List Token) → a ≡ Admits k ts → (k ≡ h) × (tokens ≡ ts)
  its_host k ts p = (cc, cc)

  pub reclaimed_back : (k : HostId) → HasReclaimed (a ∷ past) k → (k ≡ h) ⊎ HasReclaimed past k
  reclaimed_back k (inl p) = elim p [ inl q ↦ inl (its_host k q.0 q.1).0 | inr q ↦ absurd (q.1 (listed_back k q.0)) ]
  reclaimed_back k (inr p) = inr p.0

  -- a grace period lasts until then
  pub was_grace : NoGrace past → ⊥
  was_grace g = first (g h live)

  pub hosts_admitted : (x : Hosts) → HostsStand past x → HostsStand (a ∷ past) (record x {
    reclaimed =
        x.reclaimed ++ h ∷ [];
  })
  hosts_admitted x s = record {
    epoch_is = s.epoch_is;
    sent_up_to = λ k f m b w. elim w [ inl p ↦ absurd (cc) | inr p ↦ s.sent_up_to k f m b p ];
    listed = λ k m. inr (s.listed k m);
    listed_all = λ k w. s.listed_all k (listed_back k w);
    down = λ k m. inr (s.down k m);
    down_all = λ k w. elim w [ inl p ↦ absurd (let q = p.2 in cc) | inr p ↦ s.down_all k p ];
    away = λ k m. inr (s.away k m);
    away_all = λ k w. elim w [ inl p ↦ absurd (goes k p) | inr p ↦ s.away_all k p ];
    now = λ k m. inr (s.now k m, begin);
    now_all = λ k w. elim w [ inl p ↦ absurd (p.1 (listed_back k p.0)) | inr p ↦ s.now_all k p.0 ];
    reclaimed = λ k m. elim (in_parts k x.reclaimed (h ∷ []) m) [
      | inl p ↦ inr (s.reclaimed k p, begin)
      | inr p ↦
          subst (HasReclaimed (a ∷ past)) (sym (one_is k h p)) reclaimed_now
    ];
    reclaimed_all = λ k w. elim (reclaimed_back k w) [
      | inl e ↦ subst (λ (y : HostId). In y (x.reclaimed ++ h ∷ []))
          (sym e) (in_end h x.reclaimed)
      | inr r ↦ in_front k x.reclaimed (h ∷ []) (s.reclaimed_all k r)
    ];
  }

  newly : (t : Token) → IsNewlyGranted a t → In t tokens
  newly t (inl p) = absurd (elim p.1.3 [ inl q ↦ (let r = q.1 in cc) | inr q ↦ (let r = q.1 in cc) ])
  newly t (inr p) = subst (In t) (sym (its_host t.host p.0 p.1).1) p.2

  not_issued : (t : Token) (k : StayStamp) → Issues a t k → ⊥
  not_issued t k p = elim p.3 [ inl q ↦ (let r = q.1 in cc) | inr q ↦ (let r = q.1 in cc) ]

  names : (k : HostId) (i : TokenId) → GivesUp server past a k i → ⊥
  names k i (inl p) = let q = p.1.2.0 in cc
  names k i (inr p) = let q = p.1.2.0 in cc

  on : (t : Token) → Granted server past t → Granted server (a ∷ past) t
  on t g = inr (g, begin, names t.host t.id, goes t.host)

  granted_now : (t : Token) → In t tokens → Granted server (a ∷ past) t
  granted_now t m = inl (inr (tokens, ap (λ (z : HostId). Admits z tokens) (sym (own t m)), m))

  was_granted : (acts : List Doing) (t : Token) → Pinned server acts t → Granted server acts t
  was_granted [] t p = p
  was_granted (d ∷ acts) t p = p.1

  module _ (grants admitted : Grants) (s : TokensStand past server grants) (w : IsAdmitted grants admitted tokens) where
    pin_same : (t : Token) → In t (tokens_of grants) → is_pinned admitted.notes t.id ≡ is_pinned grants.notes t.id
    pin_same t m = ap (λ o. option_map_or (λ (note : Note). note.pinned) o false) (w.same t.id (s.known t m))

    mark_same : (t : Token) → In t (tokens_of grants) → is_revoked admitted.notes t.id ≡ is_revoked grants.notes t.id
    mark_same t m = ap (λ o. option_map_or (λ (note : Note). note.revoked) o false) (w.same t.id (s.known t m))

    pub tokens_admitted : TokensStand (a ∷ past) server admitted
    tokens_admitted = record {
      server_is = w.server ∙ s.server_is;
      epoch_is = w.epoch ∙ s.epoch_is;
      granted = λ t m. elim (w.were t m) [ inl k ↦ on t (s.granted t k) | inr k ↦ granted_now t k ];
      granted_all = λ t g. elim g [ inl p ↦ w.put t (newly t p) | inr p ↦ w.stay t (s.granted_all t p.0) ];
      pinned = λ t m p. elim (w.were t m) [
        | inl k ↦ (inr (s.pinned t k (sym (pin_same t k) ∙ p)), on t (s.granted t k))
        | inr k ↦ absurd (false≢true (sym (w.unpinned t k) ∙ p))
      ];
      pinned_all = λ t p. elim p.0 [
        | inl k ↦ absurd (let q = k.1.2.0 in cc)
        | inr k ↦ pin_same t (s.granted_all t (was_granted past t k)) ∙ s.pinned_all t k
      ];
      here = λ t g z. elim z [
        | inl p ↦ goes t.host p
        | inr p ↦ elim g [ inl q ↦ live.1 (subst (HasGoneAway past) (own t (newly t q)) p) | inr q ↦ s.here t q.0 p ]
      ];
      live = λ t g. live_on t.host (elim g [
        | inl q ↦ subst (IsLive past) (sym (own t (newly t q))) live
        | inr q ↦
            s.live t q.0
      ]);
      known = λ t m. elim (w.were t m) [
        | inl k ↦ ap is_some (w.same t.id (s.known t k)) ∙ s.known t k
        | inr k ↦
            w.known t k
      ];
      issued = λ t k i e. subst (λ (z : ℕ). t.id.seq ≤ z) (sym w.last) (elim i [
        | inl p ↦ absurd (not_issued t k p)
        | inr p ↦ s.issued t k p e
      ]);
      issued_up_to = λ t k i. elim i [ inl p ↦ absurd (not_issued t k p) | inr p ↦ s.issued_up_to t k p ];
      noted = w.noted;
      old = λ t m e. elim (w.were t m) [
        | inl k ↦ subst (λ (z : ℕ). t.id.seq ≤ z) (sym w.last) (s.old t k e)
        | inr k ↦ absurd (let l = earlier t k in let q : t.id.epoch ≡ epoch past = e in omega (arith, l, q))
      ];
      none_reserved = λ t r. elim r [ inl k ↦ (let q = k.1 in cc) | inr k ↦ s.none_reserved t k.0 ];
      one = λ t u k i e g q. elim i [
        | inl p ↦ absurd (not_issued t k p)
        | inr p ↦ elim g [
          | inl n ↦ absurd (let l = earlier u (newly u n) in let r : t.id.epoch ≡ epoch past = e in
              let o : u.id.epoch ≡ t.id.epoch = ap (λ (i : TokenId). i.epoch) q in omega (arith, l, r, o))
          | inr o ↦ s.one t u k p e o.0 q
        ]
      ];
    }

    was_revoked : (t : Token) → HasRevoked (a ∷ past) t → HasRevoked past t
    was_revoked t (inl p) = absurd (let q = p.3 in cc)
    was_revoked t (inr p) = p.0

    pub stamps_admitted : {stamp : ℕ} → StampsStand past grants stamp → StampsStand (a ∷ past) admitted stamp
    stamps_admitted z = record {
      told = λ f x t. elim t [
        | inl q ↦ absurd (elim q [
          | inl p ↦ elim p.4 [
            | inl r ↦ (let u = r.1 in cc)
            | inr r ↦
                (let u = r.1 in cc)
          ]
          | inr p ↦ (let u = p.4 in cc)
        ])
        | inr q ↦ z.told f x q.0
      ];
      revoked = λ t m p. elim (w.were t m) [
        | inl k ↦ inr (z.revoked t k (sym (mark_same t k) ∙ p), begin)
        | inr k ↦ absurd (false≢true (sym (w.unmarked t k) ∙ p))
      ];
      revoked_all = λ t m r. elim (w.were t m) [
        | inl k ↦ mark_same t k ∙ z.revoked_all t k (was_revoked t r)
        | inr k ↦ absurd (first (subst (HasReclaimed past) (own t k) (z.revoked_live t (was_revoked t r))))
      ];
      revoked_old = λ t r q. subst (λ (y : ℕ). t.id.seq ≤ y) (sym w.last) (z.revoked_old t (was_revoked t r) q);
      revoked_live = λ t r. inr (z.revoked_live t (was_revoked t r), begin);
    }

  unmade : (k : HostId) (r : Request) → Decides a k r → ⊥
  unmade k (Asks f) d = let p = d.3 in cc
  unmade k (Changes f) (inl d) = let p = d.1 in cc
  unmade k (Changes f) (inr d) = let p = d.3 in cc

  waits_on : (w : Wanted) → IsQueued past w → IsQueued (a ∷ past) w
  waits_on w p = inr (p, not)
    where
      not : Unwants past a w → ⊥
      not (inl d) = unmade w.host w.request d
      not (inr (inl v)) = let q = v.1 in cc
      not (inr (inr (inl g))) = goes w.host g
      not (inr (inr (inr z))) = let q = z.1 in cc

  waits_back : (w : Wanted) → IsQueued (a ∷ past) w → IsQueued past w
  waits_back w (inl p) = absurd (cc)
  waits_back w (inr p) = p.0

  pub wants_admitted : {next : ℕ} {ps : List Pending} → WantsStand past server next ps → WantsStand
      (a ∷ past) server next ps
  wants_admitted s = record {
    pending = λ p m. waits_on p.wanted (s.pending p m);
    pending_all = λ w u. s.pending_all w (waits_back w u);
    order = λ p q m n l. (
      inr (s.order p q m n l),
      waits_on p.wanted (s.pending p m),
      waits_on q.wanted (s.pending q n),
    );
    order_all = λ p q m n t. s.order_all p q m n (elim t.0 [ inl x ↦ absurd (let y = x.1 in cc) | inr x ↦ x ]);
    live = λ w u. live_on w.host (s.live w (waits_back w u));
    took = λ w u. inr (s.took w (waits_back w u), begin);
    here = λ w u. asked_by server past (a ∷ past) (λ f. refl) w.moves w.request (s.here w (waits_back w u));
    once = λ w v u x. s.once w v (waits_back w u) (waits_back v x);
    few = s.few;
    below = s.below;
  }

  pub gives_admitted : {gives : List LastGive} → GivesStand past server gives → GivesStand (a ∷ past) server gives
  gives_admitted s = record {
    applied = λ g m. inr (s.applied g m);
    applied_all = λ k n w. elim w [ inl p ↦ absurd (let q = p.1.2.0 in cc) | inr p ↦ s.applied_all k n p ];
  }

  sent_back : (k : HostId) (e n : ℕ) (d : DoneOf) → SentTo (a ∷ past) k e n (Done d) → SentTo past k e n (Done d)
  sent_back k e n d (inl p) = absurd (cc)
  sent_back k e n d (inr p) = p

  wrote_back : (v : Written) → WroteThis (a ∷ past) v → WroteThis past v
  wrote_back v (inl p) = absurd (cc)
  wrote_back v (inr p) = p

  durable_back : (k : HostId) (f : FilesetId) (n : ℕ) → IsDurable (a ∷ past) k f n → IsDurable past k f n
  durable_back k f n (m, l, inl p) = absurd (let q = p.1 in cc)
  durable_back k f n (m, l, inr p) = (m, l, p)

  last_admitted : {l : LastChange} → IsLastChange past l → IsLastChange (a ∷ past) l
  last_admitted {l} s = record {
    n = s.n;
    sent = inr s.sent;
    of = s.of;
    top = λ e n d t. s.top e n d (sent_back l.host e n d t);
    newest = λ n d t of. s.newest n d (sent_back l.host (epoch past) n d t) of;
    wrote = λ v is. let p = s.wrote v is in (inr p.0, p.1, p.2);
    wrote_all = λ v t. s.wrote_all v (wrote_back v t);
    reply = s.reply;
    brings = s.brings;
    home = s.home;
  }

  pub changes_admitted : {cs : List LastChange} → ChangesStand past cs → ChangesStand (a ∷ past) cs
  changes_admitted s = record {
    last = λ l m. last_admitted (s.last l m);
    last_all = λ k e n d t. s.last_all k e n d (sent_back k e n d t);
    answered = λ v t. s.answered v (wrote_back v t);
    fresh = λ v d u is was. s.fresh v d (waits_back v u) is (durable_back v.host d.fileset d.number was);
    above = λ v d e n o u is t. s.above v d e n o (waits_back v u) is (sent_back v.host e n o t);
  }

  not_now : (k : HostId) → (HasReclaimed (a ∷ past) k → ⊥) → (k ≡ h → ⊥)
  not_now k never e = never (subst (HasReclaimed (a ∷ past)) (sym e) reclaimed_now)

  pub recovery_admitted : (old new : Recovering) → IsForgotten old new h
      → RecoveryStands past server old.claims old.taken old.given_up
      → RecoveryStands (a ∷ past) server new.claims new.taken new.given_up
  recovery_admitted old new f s = record {
    claim = λ k n d took never l. f.claim_all (record { host = k; claim = d }) (s.claim k n d (took_back k n d took)
        (λ r. never (inr (r, begin))) (live_back k l)) (not_now k never);
    claimed = λ l m. let p = s.claimed l (f.claim_of l m) in (p.0, inr (p.1, begin));
    taken = λ k g took never here. elim took [
      | inl p ↦ absurd (let q = p.2.0 in cc)
      | inr p ↦ f.taken_all (record {
        host =
            k;
        give = number_of g;
      }) (s.taken k g p.0 (λ r. never (inr (r, begin))) (λ o. here (inr o))) (not_now k never)
    ];
    taken_only = λ l m. let p = s.taken_only l (f.taken_of l m) in (p.0, inr (p.1, begin), p.2);
    given_up = λ k i up never here. elim up [
      | inl p ↦ absurd (names k i p)
      | inr p ↦ f.up_all (record {
        host = k;
        id =
            i;
      }) (s.given_up k i p.0 (λ r. never (inr (r, begin))) (λ o. here (inr o))) (not_now k never)
    ];
    given_up_only = λ l m. inr (s.given_up_only l (f.up_of l m), begin);
  }
    where
      took_back : (k : HostId) (n : ℕ) (d : ReclaimOf) → TookNow (a ∷ past) k n (Reclaim d) → TookNow past k n
          (Reclaim d)
      took_back k n d (inl p) = absurd (let q = p.0 in cc)
      took_back k n d (inr p) = p.0

-- all tables, once a claim is granted; `queue` is the manager's then
pub stands_admitted : (past : List Doing) (x : Tables) (h : HostId) (tokens : List Token) → (HasReclaimed past h → ⊥)
    → IsLive past h
    → ((t : Token) → In t tokens → t.host ≡ h) → ((t : Token) → In t tokens → t.id.epoch < epoch past)
    → (admitted : Grants) → IsAdmitted x.tokens.grants admitted tokens
    → (queue : List WantOf) → QueueStands (Admits h tokens ∷ past) queue x.pending
    → (new : Recovering) → IsForgotten x.recovering new h → Stands past x
    → Stands (Admits h tokens ∷ past) (record x {
      hosts = record x.hosts { reclaimed = x.hosts.reclaimed ++ h ∷ [] };
      tokens = record x.tokens { grants = admitted; queue = queue };
      recovering = new;
    })
stands_admitted past x h tokens first live own earlier admitted w queue q new f s = record {
  slots = s.slots;
  hosts = hosts_admitted past x.server h tokens first live own earlier x.hosts s.hosts;
  tokens = tokens_admitted past x.server h tokens first live own earlier x.tokens.grants admitted s.tokens w;
  stamps = stamps_admitted past x.server h tokens first live own earlier x.tokens.grants admitted s.tokens w s.stamps;
  wants = wants_admitted past x.server h tokens first live own earlier s.wants;
  queue = q;
  gives = gives_admitted past x.server h tokens first live own earlier s.gives;
  changes = changes_admitted past x.server h tokens first live own earlier s.changes;
  recovery = recovery_admitted past x.server h tokens first live own earlier x.recovering new f s.recovery;
}
