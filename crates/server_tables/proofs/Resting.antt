-- A server that is settled stays so through a doing that changes none of its words.
use Rattle.std.proofs.Common.{ℕ, List, [], ◌∷◌, ◌∙◌, inl, inr}
use Rattle.base_types.specs.declared.ids.HostId.{HostId}
use Rattle.base_types.specs.declared.ids.ServerId.{ServerId}
use Rattle.message_types.specs.declared.giving.Give.{Give}
use Rattle.message_types.specs.declared.giving.Reclaim.{Reclaim as ReclaimOf}
use Rattle.message_types.specs.declared.message.Body.TheVariants.{GiveBack, Reclaim}
use Rattle.token_types.specs.declared.token.Token.{Token}
use Rattle.run_rules.specs.Doings.{Doing, Granted, HasReclaimed, IsLive, Pinned, TakesOf, TookNow, slot_of}
use Rattle.run_tokens.specs.Unmoved.{MovesOne}
use Rattle.run_tokens.proofs.Unmoved.{slot_on}
use Rattle.run_rules.specs.ServerMay.{IsAskedBack}
use Rattle.run_rules.specs.ServerTokens.{HasTakenGives}
use Rattle.run_rules.specs.Wants.{CanDecide, CanGrant, CanRefuse, IsQueued, IsQueuedBefore}
use Rattle.run_rules.specs.declared.applied.Wanted.{Wanted}
use Rattle.server_tables.specs.declared.tables.Tables.{Tables}
use Rattle.server_tables.specs.Standing.{IsSettled, Stands}
use Rattle.server_tables.proofs.Still.{ClaimsStill, claims_of, HostsCalm, IsStill, AnswersStill, TokensStill}
use Rattle.server_tables.proofs.Still.{WantsStill, granted_back, granted_still, live_was, over_back, took_listed}
use Rattle.server_tables.proofs.Still.{reclaimed_still, waits_back, waits_still}

pub waiting_both : (past : List Doing) (w v : Wanted) → IsQueuedBefore past w v → IsQueued past w × IsQueued past v
waiting_both [] w v b = elim b [ ]
waiting_both (a ∷ past) w v b = (b.1, b.2)

module _ (past : List Doing) (a : Doing) (x : Tables) (s : Stands past x) (c : HostsCalm past a)
    (k : TokensStill x.server past a) (on : (w : Wanted) → IsQueued past w → IsQueued (a ∷ past) w) where
  abbrev v : ServerId
  v = x.server

  granted : (t : Token) → Granted v past t → Granted v (a ∷ past) t
  granted t g = granted_still past a c v k s.tokens.here t g

  pub grant_back : (w : Wanted) → CanGrant v (a ∷ past) w → CanGrant v past w
  grant_back w g = record {
    over = over_back past a c g.over;
    free = λ t h. elim h [ inl p ↦ g.free t (inl (granted t p)) | inr p ↦ absurd (s.tokens.none_reserved t p) ];
    first = λ b. let p = waiting_both past b.0 w b.1 in g.first (b.0, (inr b.1, on b.0 p.0, on w p.1), b.2);
  }

  pinned_back : (t : Token) → Pinned v (a ∷ past) t → Pinned v past t
  pinned_back t p = elim p.0 [ inl q ↦ absurd (k.kept t.host q.0.fid.fileset q.0 q.1) | inr q ↦ q ]

  pub refuse_back : (w : Wanted) → CanRefuse v (a ∷ past) w → CanRefuse v past w
  refuse_back w g = record {
    over = over_back past a c g.over;
    pinned = (g.pinned.0, pinned_back g.pinned.0 g.pinned.1, g.pinned.2);
    first = λ b. let p = waiting_both past b.0 w b.1 in g.first (b.0, (inr b.1, on b.0 p.0, on w p.1), b.2);
  }

  pub ready_back : (w : Wanted) → CanDecide v (a ∷ past) w → CanDecide v past w
  ready_back w (inl g) = inl (grant_back w g)
  ready_back w (inr g) = inr (refuse_back w g)

  pub asked_back : ((w : Wanted) → IsQueued (a ∷ past) w → IsQueued past w) → (t : Token) → IsAskedBack v
      (a ∷ past) t → IsAskedBack v past t
  asked_back back t b = record {
    over = over_back past a c b.over;
    granted = granted_back past a c v k t b.granted;
    unpinned = λ p. b.unpinned (inr p, granted t (granted_back past a c v k t b.granted));
    w = b.w;
    waits = back b.w b.waits;
    blocks_it = b.blocks_it;
  }

-- that of a fileset was taken in this epoch, if no give-back is taken now
pub all_back : (server : ServerId) (past : List Doing) (a : Doing) (h : HostId) (claim : ReclaimOf)
    → (MovesOne a → ⊥) → ((g : Give) → TakesOf server past a h g.fid.fileset (GiveBack g) → ⊥)
    → HasTakenGives server (a ∷ past) h claim → HasTakenGives server past h claim
all_back server past a h claim still none all o m n is =
    let p = all o m n (slot_on a o.fileset (slot_of server past o.fileset) still ∙ is) in
    elim p.1 [
      | inl q ↦ absurd (none p.0 (q.0, (rw p.2 q.1), q.2))
      | inr q ↦ (p.0, q.0, p.2, p.3)
    ]

-- no claim that waits could be admitted
abbrev pub NoneClaims : ServerId → List Doing → Type 0
NoneClaims server past = (h : HostId) (n : ℕ) (claim : ReclaimOf) → TookNow past h n (Reclaim claim)
    → (HasReclaimed past h → ⊥) → IsLive past h → HasTakenGives server past h claim → ⊥

pub claims_still : (server : ServerId) (past : List Doing) (a : Doing) → HostsCalm past a → ClaimsStill server past a
    → NoneClaims server past → NoneClaims server (a ∷ past)
claims_still server past a c ans none h n claim took never live all =
    let was = took_back took in
    none h n claim was (λ r. never (reclaimed_still past a c h r)) (live_was past a c h (took_listed past h n
    (Reclaim claim) was) live)
    (all_back server past a h claim c.still (λ g t. ans.gives h g.fid.fileset g t) all)
  where
    took_back : TookNow (a ∷ past) h n (Reclaim claim) → TookNow past h n (Reclaim claim)
    took_back (inl p) = absurd (ans.claims h n claim p)
    took_back (inr p) = p.0

module _ (past : List Doing) (a : Doing) (x : Tables) (s : Stands past x) (c : HostsCalm past a)
    (k : TokensStill x.server past a) (ws : WantsStill past a) (ans : AnswersStill x.server past a) where
  pub calm_settled : IsSettled x.server past → IsSettled x.server (a ∷ past)
  calm_settled z = record {
    rested = λ w u r. z.rested w (waits_back past a c x.server ws w u) (ready_back past a x s c k
        (waits_still past a c x.server ws) w r);
    asked = λ t b. inr (
      z.asked t (asked_back past a x s c k (waits_still past a c x.server ws)
          (waits_back past a c x.server ws) t b),
      c.begin,
    );
    claims = claims_still x.server past a c (claims_of x.server past a ans) z.claims;
  }

pub still_settled : (past : List Doing) (a : Doing) (x : Tables) → Stands past x → IsStill x.server x.stamp past a
    → IsSettled x.server past → IsSettled x.server (a ∷ past)
still_settled past a x s c z = calm_settled past a x s c.hosts.calm c.tokens c.wants c.answers z
