-- A doing that changes none of the words of a server leaves all tables standing.
use Rattle.std.proofs.Common.{◌≡◌, ◌⊎◌, ℕ, ◌≤◌, ◌==◌, Bool, List, Some, [], ◌∷◌, false, if◌then◌else◌, inl, inr, refl}
use Rattle.std.proofs.Common.{sym, true, ◌∙◌, ap, subst}
use Rattle.base_types.specs.declared.ids.FilesetId.{FilesetId}
use Rattle.base_types.specs.declared.ids.Fid.{Fid}
use Rattle.base_types.specs.declared.ids.HostId.{HostId}
use Rattle.base_types.specs.declared.ids.ServerId.{ServerId}
use Rattle.message_types.specs.declared.giving.Give.{Give}
use Rattle.message_types.specs.declared.giving.Reclaim.{Reclaim as ReclaimOf}
use Rattle.message_types.specs.declared.message.Body.{Body}
use Rattle.message_types.specs.declared.message.Body.TheVariants.{Hello, Kept, Revoke, Down, GiveBack, Done, Reclaim}
use Rattle.message_types.specs.declared.message.Body.TheVariants.{Reclaimed}
use Rattle.message_types.specs.declared.telling.Done.{Done as DoneOf}
use Rattle.message_types.specs.declared.tokens.Named.{Named}
use Rattle.message_types.specs.declared.tokens.Revoke.{Revoke as RevokeOf}
use Rattle.token_manager.specs.declared.grants.Grants.{Grants}
use Rattle.token_manager.specs.declared.want.Want.{Want as WantOf}
use Rattle.token_types.specs.declared.token.Token.{Token}
use Rattle.token_types.specs.declared.token.TokenId.{TokenId}
use Rattle.run_rules.specs.Doings.{Doing, Enlists, GivesUp, GoesAway, Granted, HasGoneAway, HasGoneDown, HasReclaimed}
use Rattle.run_rules.specs.Doings.{Hears, IsDurable, IsLive, IsNewEpoch, IsNewlyGranted}
use Rattle.run_rules.specs.Doings.{Issues, Listed, NoGrace, Pinned, SentTo, StayStamp}
use Rattle.run_rules.specs.Doings.{TakesFrom, TakesOf, TookNow, UsesStamp, epoch, epoch_after, slot_of}
use Rattle.run_rules.specs.Doings.Slot.{Absent, Writable}
use Rattle.run_rules.specs.Doings.Doing.{Admits, BeginsEpoch, Flushes, MakesWant, Moves, Reserves, Sent, Took}
use Rattle.run_rules.specs.Doings.Doing.{WritesDown}
use Rattle.run_rules.specs.Messages.{home}
use Rattle.run_rules.specs.Past.{In}
use Rattle.run_rules.specs.ServerMay.{HasRevoked}
use Rattle.run_rules.specs.ServerDecides.{IsAskedHere, IsDecidedHere}
use Rattle.run_rules.specs.declared.applied.Request.{Request}
use Rattle.run_rules.specs.declared.applied.Request.TheVariants.{Change, Fetch}
use Rattle.run_rules.specs.Wants.{IsQueued, IsQueuedBefore, Unwants}
use Rattle.run_rules.specs.declared.applied.Wanted.{Wanted}
use Rattle.run_rules.specs.declared.applied.Written.{Written}
use Rattle.server_tables.specs.declared.tables.Tables.{Tables}
use Rattle.server_tables.specs.declared.hosts.Hosts.{Hosts}
use Rattle.server_tables.specs.declared.tables.LastChange.{LastChange}
use Rattle.server_tables.specs.declared.tables.LastGive.{LastGive}
use Rattle.server_tables.specs.declared.pending.Pending.{Pending}
use Rattle.server_tables.specs.declared.recovering.Claimed.{Claimed}
use Rattle.server_tables.specs.declared.recovering.GaveUp.{GaveUp}
use Rattle.server_tables.specs.declared.recovering.Answered.{Answered}
use Rattle.server_tables.specs.Standing.{AnsweredStand, ChangesStand, GivesStand, HostsStand, IsLastChange}
use Rattle.server_tables.specs.Standing.{QueueStands, RecoveryStands, Stands}
use Rattle.run_tokens.specs.Unmoved.{MovesOne}
use Rattle.run_tokens.proofs.Unmoved.{slot_on}
use Rattle.run_rules.specs.Doings.Doing.{Gets, Puts}
use Rattle.server_tables.specs.Standing.{StampsStand, TokensStand, WantsStand, WroteThis}

pub same_epoch : (a : Doing) (n : ℕ) → (IsNewEpoch a → ⊥) → epoch_after a n ≡ n
same_epoch (BeginsEpoch e) n calm = absurd (calm (e, refl))
same_epoch (Took h e m b) n calm = refl
same_epoch Flushes n calm = refl
same_epoch (MakesWant w) n calm = refl
same_epoch (WritesDown w) n calm = refl
same_epoch (Admits h ts) n calm = refl
same_epoch (Sent h e m b) n calm = refl
same_epoch (Reserves ts) n calm = refl
same_epoch (Moves move) n calm = refl
same_epoch (Gets from k b) n calm = refl
same_epoch (Puts to k b) n calm = refl

-- it begins no epoch, moves no fileset, admits no claim, and no host goes away by it; a host may come on the list
pub record HostsCalm (past : List Doing) (a : Doing) : Type 0 where
  pub begin : IsNewEpoch a → ⊥
  pub still : MovesOne a → ⊥
  pub away : (h : HostId) → GoesAway past a h → HasGoneAway past h
  pub admits : (h : HostId) (ts : List Token) → a ≡ Admits h ts → ⊥

-- and no host comes on the list
pub record HostsStill (past : List Doing) (a : Doing) : Type 0 where
  pub calm : HostsCalm past a
  pub hello : (h : HostId) → Hears a h Hello → (Listed past h → ⊥) → (HasGoneDown past h → ⊥) → ⊥
  pub down : (h : HostId) → Hears a h Down → HasGoneDown past h
  pub sends : (h : HostId) (e n : ℕ) (b : Body) → a ≡ Sent h e n b → e ≤ epoch (a ∷ past)

-- it grants, pins and ends no token
pub record TokensStill (server : ServerId) (past : List Doing) (a : Doing) : Type 0 where
  pub names : (h : HostId) (i : TokenId) → GivesUp server past a h i → ⊥
  pub kept : (h : HostId) (f : FilesetId) (n : Named) → TakesOf server past a h f (Kept n) → ⊥
  pub issues : (t : Token) (k : StayStamp) → Issues a t k → ⊥
  pub reserves : (t : Token) (ts : List Token) → a ≡ Reserves ts → In t ts → ⊥
  pub revokes : (h : HostId) (e n : ℕ) (r : RevokeOf) → a ≡ Sent h e n (Revoke r) → ⊥

-- it makes no want and takes none from the queue
pub record WantsStill (past : List Doing) (a : Doing) : Type 0 where
  pub wants : (w : Wanted) → a ≡ MakesWant w → ⊥
  pub unwants : (w : Wanted) → IsQueued past w → Unwants past a w → ⊥

-- it takes no give-back and no claim
pub record ClaimsStill (server : ServerId) (past : List Doing) (a : Doing) : Type 0 where
  pub gives : (h : HostId) (f : FilesetId) (g : Give) → TakesOf server past a h f (GiveBack g) → ⊥
  pub claims : (h : HostId) (n : ℕ) (c : ReclaimOf) → TakesFrom past a h n (Reclaim c) → ⊥

-- it answers no Change
pub record DonesStill (a : Doing) : Type 0 where
  pub dones : (h : HostId) (e n : ℕ) (d : DoneOf) → a ≡ Sent h e n (Done d) → ⊥
  pub writes : (w : Written) → a ≡ WritesDown w → ⊥

-- nor takes it a give-back or a claim
pub record AnswersStill (server : ServerId) (past : List Doing) (a : Doing) : Type 0 where
  pub gives : (h : HostId) (f : FilesetId) (g : Give) → TakesOf server past a h f (GiveBack g) → ⊥
  pub claims : (h : HostId) (n : ℕ) (c : ReclaimOf) → TakesFrom past a h n (Reclaim c) → ⊥
  pub dones : (h : HostId) (e n : ℕ) (d : DoneOf) → a ≡ Sent h e n (Done d) → ⊥
  pub writes : (w : Written) → a ≡ WritesDown w → ⊥

-- no fileset has moved, after these doings
abbrev pub StayPut : ServerId → List Doing → Type 0
StayPut server past = (f : FilesetId) → slot_of server past f ≡ slot_of server [] f

pub at_first : (b : Bool) (n : ℕ) → (if b then Writable 0 else Absent) ≡ Writable n → (n ≡ 0) × (b ≡ true)
at_first true n e = (cc, refl)
at_first false n e = absurd (let q : Absent ≡ Writable n = e in cc)

-- what is decided here is of the first stay
pub decided_home : (server : ServerId) (past : List Doing) (f : FilesetId) (n : ℕ) → StayPut server past
    → IsDecidedHere server past f n → n ≡ 0
decided_home server past f n put (inl p) = p.1
decided_home server past f n put (inr p) = (at_first ((home f).0 == server.0) n (sym (put f) ∙ p)).0

-- where filesets are as before, a request is about one that is here as before
pub asked_by : (server : ServerId) (p q : List Doing) → ((f : FilesetId) → slot_of server q f ≡ slot_of server p f)
    → (n : ℕ) (r : Request) → IsAskedHere server p n r → IsAskedHere server q n r
asked_by server p q same n (Fetch f) h = same f.fid.fileset ∙ h
asked_by server p q same n (Change c) h = (
  elim h.0 [ inl none ↦ inl none | inr here ↦ inr (same c.fileset ∙ here) ],
  h.1,
)

pub took_listed : (past : List Doing) (h : HostId) (n : ℕ) (b : Body) → TookNow past h n b → Listed past h
took_listed [] h n b w = elim w [ ]
took_listed (a ∷ past) h n b (inl p) = inr p.1.0
took_listed (a ∷ past) h n b (inr p) = inr (took_listed past h n b p.0)

module _ (past : List Doing) (a : Doing) (c : HostsCalm past a) where
  pub away_back : (h : HostId) → HasGoneAway (a ∷ past) h → HasGoneAway past h
  away_back h (inl p) = c.away h p
  away_back h (inr p) = p

  pub live_still : (h : HostId) → IsLive past h → IsLive (a ∷ past) h
  live_still h l = (inr l.0, λ w. l.1 (away_back h w))

  -- one that was on the list
  pub live_was : (h : HostId) → Listed past h → IsLive (a ∷ past) h → IsLive past h
  live_was h l w = (l, λ o. w.1 (inr o))

  pub reclaimed_still : (h : HostId) → HasReclaimed past h → HasReclaimed (a ∷ past) h
  reclaimed_still h r = inr (r, c.begin)

  pub reclaimed_was : (h : HostId) → Listed past h → HasReclaimed (a ∷ past) h → HasReclaimed past h
  reclaimed_was h l (inl p) = elim p [ inl q ↦ absurd (c.admits h q.0 q.1) | inr q ↦ absurd (q.1 l) ]
  reclaimed_was h l (inr p) = p.0

  pub over_back : NoGrace (a ∷ past) → NoGrace past
  over_back g h l = reclaimed_was h l.0 (g h (live_still h l))

  pub over_still : NoGrace past → NoGrace (a ∷ past)
  over_still g h l = on l.0 l
    where
      on : Listed (a ∷ past) h → IsLive (a ∷ past) h → HasReclaimed (a ∷ past) h
      on (inl p) w = inl (inr (inl p, p.1))
      on (inr p) w = reclaimed_still h (g h (live_was h p w))

  pub now_is : epoch (a ∷ past) ≡ epoch past
  now_is = same_epoch a (epoch past) c.begin

  pub queue_still : {queue : List WantOf} {ps : List Pending} → QueueStands past queue ps → QueueStands
      (a ∷ past) queue ps
  queue_still q = record { calm = λ g. q.calm (over_back g); grace = λ g. q.grace (λ o. g (over_still o)) }

  module _ (server : ServerId) (k : TokensStill server past a) where
    newly : (t : Token) → IsNewlyGranted a t → ⊥
    newly t (inl p) = k.issues t p.0 p.1
    newly t (inr p) = c.admits t.host p.0 p.1

    pub granted_still : ((t : Token) → Granted server past t → HasGoneAway past t.host → ⊥) → (t : Token)
        → Granted server past t → Granted server (a ∷ past) t
    granted_still here t g = inr (g, c.begin, k.names t.host t.id, λ w. here t g (c.away t.host w))

    pub granted_back : (t : Token) → Granted server (a ∷ past) t → Granted server past t
    granted_back t (inl p) = absurd (newly t p)
    granted_back t (inr p) = p.0

    pinned_back : (t : Token) → Pinned server (a ∷ past) t → Pinned server past t
    pinned_back t p = elim p.0 [ inl q ↦ absurd (k.kept t.host q.0.fid.fileset q.0 q.1) | inr q ↦ q ]

    pub tokens_still : {g : Grants} → TokensStand past server g → TokensStand (a ∷ past) server g
    tokens_still s = record {
      server_is = s.server_is;
      epoch_is = s.epoch_is ∙ sym now_is;
      granted = λ t m. granted_still s.here t (s.granted t m);
      granted_all = λ t g. s.granted_all t (granted_back t g);
      pinned = λ t m p. (inr (s.pinned t m p), granted_still s.here t (s.granted t m));
      pinned_all = λ t p. s.pinned_all t (pinned_back t p);
      here = λ t g w. s.here t (granted_back t g) (away_back t.host w);
      live = λ t g. live_still t.host (s.live t (granted_back t g));
      known = s.known;
      issued = λ t n i e. elim i [ inl q ↦ absurd (k.issues t n q) | inr q ↦ s.issued t n q (e ∙ now_is) ];
      issued_up_to = λ t n i. elim i [
        | inl q ↦ absurd (k.issues t n q)
        | inr q ↦ subst (λ (z : ℕ). t.id.epoch ≤ z)
            (sym now_is) (s.issued_up_to t n q)
      ];
      noted = s.noted;
      old = λ t m e. s.old t m (e ∙ now_is);
      none_reserved = λ t r. elim r [ inl q ↦ k.reserves t q.0 q.1 q.2 | inr q ↦ s.none_reserved t q.0 ];
      one = λ t u n i e g q. elim i [
        | inl w ↦ absurd (k.issues t n w)
        | inr w ↦ s.one t u n w (e ∙ now_is) (granted_back u g) q
      ];
    }

    revoked_back : (t : Token) → HasRevoked (a ∷ past) t → HasRevoked past t
    revoked_back t (inl p) = absurd (k.revokes t.host p.0 p.1 p.2 p.3)
    revoked_back t (inr p) = p.0

    pub stamps_still : {g : Grants} {stamp : ℕ} → ((f : Fid) (x : ℕ) → UsesStamp a f x → x ≤ stamp)
        → StampsStand past g stamp → StampsStand (a ∷ past) g stamp
    stamps_still tells s = record {
      told = λ f x w. elim w [ inl q ↦ tells f x q | inr q ↦ s.told f x q.0 ];
      revoked = λ t m i. inr (s.revoked t m i, c.begin);
      revoked_all = λ t m w. s.revoked_all t m (revoked_back t w);
      revoked_old = λ t w e. s.revoked_old t (revoked_back t w) (e ∙ now_is);
      revoked_live = λ t w. reclaimed_still t.host (s.revoked_live t (revoked_back t w));
    }

  module _ (server : ServerId) (k : WantsStill past a) where
    pub waits_still : (w : Wanted) → IsQueued past w → IsQueued (a ∷ past) w
    waits_still w p = inr (p, k.unwants w p)

    pub waits_back : (w : Wanted) → IsQueued (a ∷ past) w → IsQueued past w
    waits_back w (inl p) = absurd (k.wants w p)
    waits_back w (inr p) = p.0

    pub before_still : (w v : Wanted) → IsQueued past w → IsQueued past v → IsQueuedBefore past w v → IsQueuedBefore
        (a ∷ past) w v
    before_still w v p q b = (inr b, waits_still w p, waits_still v q)

    pub before_back : (w v : Wanted) → IsQueuedBefore (a ∷ past) w v → IsQueuedBefore past w v
    before_back w v b = elim b.0 [ inl p ↦ absurd (k.wants v p.1) | inr p ↦ p ]

    pub wants_still : {next : ℕ} {ps : List Pending} → WantsStand past server next ps → WantsStand
        (a ∷ past) server next ps
    wants_still s = record {
      pending = λ p m. waits_still p.wanted (s.pending p m);
      pending_all = λ w u. s.pending_all w (waits_back w u);
      order = λ p q m n l. before_still p.wanted q.wanted (s.pending p m) (s.pending q n) (s.order p q m n l);
      order_all = λ p q m n b. s.order_all p q m n (before_back p.wanted q.wanted b);
      live = λ w u. live_still w.host (s.live w (waits_back w u));
      took = λ w u. inr (s.took w (waits_back w u), c.begin);
      here = λ w u.
          asked_by server past (a ∷ past) (λ f. slot_on a f (slot_of server past f) c.still) w.moves w.request
          (s.here w (waits_back w u));
      once = λ w v u x. s.once w v (waits_back w u) (waits_back v x);
      few = s.few;
      below = s.below;
    }

  module _ (server : ServerId) (k : ClaimsStill server past a) where
    pub gives_still : {gives : List LastGive} → GivesStand past server gives → GivesStand (a ∷ past) server gives
    gives_still s = record {
      applied = λ g m. inr (s.applied g m);
      applied_all = λ h n w. elim w [ inl p ↦ absurd (k.gives h n.fileset p.0 p.1) | inr p ↦ s.applied_all h n p ];
    }

    pub recovery_still : {cs : List Claimed} {ts : List LastGive} {us : List GaveUp}
        → ((h : HostId) (i : TokenId) → GivesUp server past a h i → ⊥) → RecoveryStands past server cs ts us
        → RecoveryStands (a ∷ past) server cs ts us
    recovery_still names s = record {
      claim = λ h n d w no l. let was = took_back h n d w in
          s.claim h n d was (λ r. no (reclaimed_still h r)) (live_was h (took_listed past h n (Reclaim d) was) l);
      claimed = λ l m. let p = s.claimed l m in (p.0, inr (p.1, c.begin));
      taken = λ h g w no here. elim w [
        | inl p ↦ absurd (k.gives h g.fid.fileset g p)
        | inr p ↦
            s.taken h g p.0 (λ r. no (reclaimed_still h r)) (λ o. here (inr o))
      ];
      taken_only = λ l m. let p = s.taken_only l m in (p.0, inr (p.1, c.begin), p.2);
      given_up = λ h i w no here. elim w [
        | inl p ↦ absurd (names h i p)
        | inr p ↦ s.given_up h i p.0 (λ r. no
            (reclaimed_still h r)) (λ o. here (inr o))
      ];
      given_up_only = λ l m. inr (s.given_up_only l m, c.begin);
    }
      where
        took_back : (h : HostId) (n : ℕ) (d : ReclaimOf) → TookNow (a ∷ past) h n (Reclaim d) → TookNow past h n
            (Reclaim d)
        took_back h n d (inl p) = absurd (k.claims h n d p)
        took_back h n d (inr p) = p.0

module _ (past : List Doing) (a : Doing) (c : HostsCalm past a) (k : DonesStill a) where
  sent_back : (h : HostId) (e n : ℕ) (d : DoneOf) → SentTo (a ∷ past) h e n (Done d) → SentTo past h e n (Done d)
  sent_back h e n d (inl p) = absurd (k.dones h e n d p)
  sent_back h e n d (inr p) = p

  wrote_back : (w : Written) → WroteThis (a ∷ past) w → WroteThis past w
  wrote_back w (inl p) = absurd (k.writes w p)
  wrote_back w (inr p) = p

  durable_back : (h : HostId) (f : FilesetId) (n : ℕ) → IsDurable (a ∷ past) h f n → IsDurable past h f n
  durable_back h f n (m, l, inl p) = absurd (k.writes p.0 p.1)
  durable_back h f n (m, l, inr p) = (m, l, p)

  pub last_still : {last : LastChange} → IsLastChange past last → IsLastChange (a ∷ past) last
  last_still {last} s = record {
    n = s.n;
    sent = inr s.sent;
    of = s.of;
    top = λ e n d w. s.top e n d (sent_back last.host e n d w);
    newest = newest;
    wrote = λ w is. let p = s.wrote w is in (inr p.0, p.1, p.2);
    wrote_all = λ w t. s.wrote_all w (wrote_back w t);
    reply = s.reply;
    brings = s.brings;
    home = s.home;
  }
    where
      newest : (n : ℕ) (d : DoneOf) → SentTo (a ∷ past) last.host (epoch (a ∷ past)) n (Done d) → d.fileset
          ≡ last.fileset
          → (last.epoch ≡ epoch (a ∷ past))
          ⊎ ((v : Written) × (last.written ≡ Some v) × (last.done.bring.number ≤ v.number))
      newest n d w of = elim (s.newest n d (subst (λ (e : ℕ). SentTo past last.host e n (Done d)) (now_is past a c)
          (sent_back last.host (epoch (a ∷ past)) n d w)) of) [
            | inl q ↦ inl (q ∙ sym (now_is past a c))
            | inr q ↦ inr q
          ]

  pub changes_still : {cs : List LastChange} → ((w : Wanted) → IsQueued (a ∷ past) w → IsQueued past w)
      → ChangesStand past cs
      → ChangesStand (a ∷ past) cs
  changes_still back s = record {
    last = λ l m. last_still (s.last l m);
    last_all = λ h e n d t. s.last_all h e n d (sent_back h e n d t);
    answered = λ v t. s.answered v (wrote_back v t);
    fresh = λ v d u is old. s.fresh v d (back v u) is (durable_back v.host d.fileset d.number old);
    above = λ v d e n o u is t. s.above v d e n o (back v u) is (sent_back v.host e n o t);
  }

pub claims_of : (server : ServerId) (past : List Doing) (a : Doing) → AnswersStill server past a
    → ClaimsStill server past a
claims_of server past a k = record { gives = k.gives; claims = k.claims }

pub dones_of : (server : ServerId) (past : List Doing) (a : Doing) → AnswersStill server past a → DonesStill a
dones_of server past a k = record { dones = k.dones; writes = k.writes }

module _ (past : List Doing) (a : Doing) (c : HostsStill past a) where
  pub listed_back : (h : HostId) → Listed (a ∷ past) h → Listed past h
  listed_back h (inl p) = absurd (c.hello h p.0 p.1 p.2)
  listed_back h (inr p) = p

  not_enlists : (h : HostId) → Enlists past a h → ⊥
  not_enlists h p = p.1 (listed_back h p.0)

  pub reclaimed_back : (h : HostId) → HasReclaimed (a ∷ past) h → HasReclaimed past h
  reclaimed_back h (inl p) = elim p [ inl q ↦ absurd (c.calm.admits h q.0 q.1) | inr q ↦ absurd (not_enlists h q) ]
  reclaimed_back h (inr p) = p.0

  pub sent_still : {x : Hosts} → HostsStand past x → (h : HostId) (e n : ℕ) (b : Body) → SentTo (a ∷ past) h e n b
      → e ≤ epoch (a ∷ past)
  sent_still s h e n b (inl p) = c.sends h e n b p
  sent_still s h e n b (inr p) = subst (λ (z : ℕ). e ≤ z) (sym (now_is past a c.calm)) (s.sent_up_to h e n b p)

  pub hosts_still : {x : Hosts} → HostsStand past x → HostsStand (a ∷ past) x
  hosts_still s = record {
    epoch_is = s.epoch_is ∙ sym (now_is past a c.calm);
    sent_up_to = sent_still s;
    listed = λ h m. inr (s.listed h m);
    listed_all = λ h w. s.listed_all h (listed_back h w);
    down = λ h m. inr (s.down h m);
    down_all = λ h w. elim w [ inl p ↦ s.down_all h (c.down h p) | inr p ↦ s.down_all h p ];
    away = λ h m. inr (s.away h m);
    away_all = λ h w. s.away_all h (away_back past a c.calm h w);
    now = λ h m. inr (s.now h m, c.calm.begin);
    now_all = λ h w. elim w [ inl p ↦ absurd (not_enlists h p) | inr p ↦ s.now_all h p.0 ];
    reclaimed = λ h m. reclaimed_still past a c.calm h (s.reclaimed h m);
    reclaimed_all = λ h w. s.reclaimed_all h (reclaimed_back h w);
  }

  pub answered_still : {answers : List Answered} → AnsweredStand past answers → AnsweredStand (a ∷ past) answers
  answered_still s = record {
    answers_all = λ h r. s.answers_all h (reclaimed_back h r);
    answered = λ l m. let p = s.answered l m in
        (p.0, inr (subst (λ (e : ℕ). SentTo past l.host e p.0 (Reclaimed l.answer)) (sym (now_is past a c.calm)) p.1));
  }

-- none of its words changes
pub record IsStill (server : ServerId) (stamp : ℕ) (past : List Doing) (a : Doing) : Type 0 where
  pub hosts : HostsStill past a
  pub tokens : TokensStill server past a
  pub tells : (f : Fid) (x : ℕ) → UsesStamp a f x → x ≤ stamp
  pub wants : WantsStill past a
  pub answers : AnswersStill server past a

pub still : (past : List Doing) (a : Doing) (x : Tables) → IsStill x.server x.stamp past a → Stands past x → Stands
    (a ∷ past) x
still past a x c s = record {
  slots = λ f. slot_on a f (slot_of x.server past f) c.hosts.calm.still ∙ s.slots f;
  hosts = hosts_still past a c.hosts s.hosts;
  tokens = tokens_still past a c.hosts.calm x.server c.tokens s.tokens;
  stamps = stamps_still past a c.hosts.calm x.server c.tokens c.tells s.stamps;
  wants = wants_still past a c.hosts.calm x.server c.wants s.wants;
  queue = queue_still past a c.hosts.calm s.queue;
  gives = gives_still past a c.hosts.calm x.server (claims_of x.server past a c.answers) s.gives;
  changes = changes_still past a c.hosts.calm (dones_of x.server past a c.answers)
      (waits_back past a c.hosts.calm x.server c.wants) s.changes;
  recovery = recovery_still past a c.hosts.calm x.server (claims_of x.server past a c.answers) c.tokens.names
      s.recovery;
}
