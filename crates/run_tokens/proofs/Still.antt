-- A doing that takes no message, makes no want, decides and sends nothing leaves all words of a server as they were.
use Rattle.std.proofs.Common.{List, [], inl, inr, ◌∷◌}
use Rattle.base_types.specs.declared.ids.HostId.{HostId}
use Rattle.base_types.specs.declared.ids.ServerId.{ServerId}
use Rattle.token_types.specs.declared.token.Token.{Token}
use Rattle.token_types.specs.declared.token.TokenId.{TokenId}
use Rattle.run_rules.specs.Doings.{Doing, GivesUp, GoesAway, Granted, HasGoneAway, HasGoneDown, HasReclaimed, Hears}
use Rattle.run_rules.specs.Doings.{IsLive, IsNewEpoch, IsNewlyGranted, Listed, NoGrace, Pinned, Reserved}
use Rattle.run_rules.specs.Doings.Doing.{Reserves}
use Rattle.run_rules.specs.ServerMay.{HasRevoked, IsAskedBack, IsOwed}
use Rattle.run_rules.specs.Wants.{CanDecide, CanGrant, CanRefuse, Decides, IsQueued, IsQueuedBefore, Unwants}
use Rattle.run_rules.specs.declared.applied.Request.TheVariants.{Change as Changes, Fetch as Asks}
use Rattle.message_types.specs.declared.message.Body.{Body}
use Rattle.message_types.specs.declared.message.Body.TheVariants.{Hello, Down}
use Rattle.run_rules.specs.declared.applied.Request.{Request}
use Rattle.run_rules.specs.declared.applied.Wanted.{Wanted}

-- of two wants in their order both wait
both : (past : List Doing) (w v : Wanted) → IsQueuedBefore past w v → IsQueued past w × IsQueued past v
both [] w v b = elim b [ ]
both (a ∷ past) w v b = (b.1, b.2)

-- its exporter keeps nothing
module _ (server : ServerId) (past : List Doing) where
  abbrev a : Doing
  a = Reserves []

  heard : (h : HostId) (b : Body) → Hears a h b → ⊥
  heard h b x = let p = x.2 in cc

  down : (h : HostId) → HasGoneDown (a ∷ past) h → HasGoneDown past h
  down h (inl x) = absurd (heard h Down x)
  down h (inr p) = p

  listed : (h : HostId) → Listed (a ∷ past) h → Listed past h
  listed h (inl x) = absurd (heard h Hello x.0)
  listed h (inr p) = p

  goes_away : (h : HostId) → GoesAway past a h → ⊥
  goes_away h (inl x) = heard h Down x
  goes_away h (inr x) = let p = x.0.1 in cc

  not_begun : IsNewEpoch a → ⊥
  not_begun x = let p = x.1 in cc

  away : (h : HostId) → HasGoneAway (a ∷ past) h → HasGoneAway past h
  away h (inl x) = absurd (goes_away h x)
  away h (inr p) = p

  live : (h : HostId) → IsLive (a ∷ past) h → IsLive past h
  live h x = (listed h x.0, λ w. x.1 (inr w))

  reclaimed : (h : HostId) → HasReclaimed past h → HasReclaimed (a ∷ past) h
  reclaimed h r = inr (r, not_begun)

  pub over : NoGrace past → NoGrace (a ∷ past)
  over g h l = reclaimed h (g h (live h l))

  over_back : NoGrace (a ∷ past) → NoGrace past
  over_back g h x = elim (g h (inr x.0, λ w. x.1 (away h w))) [
    | inl y ↦ absurd (elim y [ inl z ↦ (let p = z.1 in cc) | inr z ↦ elim z.0 [ inl q ↦ heard h Hello q.0 | inr q ↦ z.1 q ] ])
    | inr y ↦ y.0
  ]

  names : (h : HostId) (i : TokenId) → GivesUp server past a h i → ⊥
  names h i (inl x) = let p = x.1.2.0 in cc
  names h i (inr x) = let p = x.1.2.0 in cc

  newly : (t : Token) → IsNewlyGranted a t → ⊥
  newly t (inl x) = elim x.1.3 [ inl g ↦ (let p = g.1 in cc) | inr d ↦ (let p = d.1 in cc) ]
  newly t (inr x) = let p = x.1 in cc

  granted : (t : Token) → Granted server (a ∷ past) t → Granted server past t
  granted t (inl x) = absurd (newly t x)
  granted t (inr p) = p.0

  is_granted : (t : Token) → Granted server past t → Granted server (a ∷ past) t
  is_granted t g = inr (g, not_begun, names t.host t.id, goes_away t.host)

  pinned : (t : Token) → Pinned server (a ∷ past) t → Pinned server past t
  pinned t x = elim x.0 [ inl k ↦ absurd (let p = k.1.2.0 in cc) | inr p ↦ p ]

  is_pinned : (t : Token) → Pinned server past t → Granted server past t → Pinned server (a ∷ past) t
  is_pinned t p g = (inr p, is_granted t g)

  is_reserved : (t : Token) → Reserved past t → Reserved (a ∷ past) t
  is_reserved t r = inr (r, λ x. elim x [ inl b ↦ not_begun b | inr f ↦ cc ])

  decides : (h : HostId) (r : Request) → Decides a h r → ⊥
  decides h (Asks f) x = let p = x.3 in cc
  decides h (Changes c) (inl x) = let p = x.1 in cc
  decides h (Changes c) (inr x) = let p = x.3 in cc

  unwants : (w : Wanted) → Unwants past a w → ⊥
  unwants w (inl d) = decides w.host w.request d
  unwants w (inr (inl v)) = let p = v.1 in cc
  unwants w (inr (inr (inl g))) = goes_away w.host g
  unwants w (inr (inr (inr b))) = not_begun b

  waits : (w : Wanted) → IsQueued (a ∷ past) w → IsQueued past w
  waits w (inl x) = absurd (cc)
  waits w (inr p) = p.0

  still_waits : (w : Wanted) → IsQueued past w → IsQueued (a ∷ past) w
  still_waits w p = inr (p, unwants w)

  before : (w v : Wanted) → IsQueuedBefore past w v → IsQueuedBefore (a ∷ past) w v
  before w v b = let p = both past w v b in (inr b, still_waits w p.0, still_waits v p.1)

  pub can_grant : (w : Wanted) → CanGrant server (a ∷ past) w → CanGrant server past w
  can_grant w c = record {
    over = over_back c.over;
    free = λ t g. c.free t (elim g [ inl p ↦ inl (is_granted t p) | inr p ↦ inr (is_reserved t p) ]);
    first = λ b. c.first (b.0, before b.0 w b.1, b.2);
  }

  pub can_refuse : (w : Wanted) → CanRefuse server (a ∷ past) w → CanRefuse server past w
  can_refuse w c = record {
    over = over_back c.over;
    pinned = (c.pinned.0, pinned c.pinned.0 c.pinned.1, c.pinned.2);
    first = λ b. c.first (b.0, before b.0 w b.1, b.2);
  }

  pub ready : (w : Wanted) → CanDecide server (a ∷ past) w → CanDecide server past w
  ready w (inl c) = inl (can_grant w c)
  ready w (inr c) = inr (can_refuse w c)

  pub waited : (w : Wanted) → IsQueued (a ∷ past) w → IsQueued past w
  waited = waits

  pub asked_back : (t : Token) → IsAskedBack server (a ∷ past) t → IsAskedBack server past t
  asked_back t k = record {
    over = over_back k.over;
    granted = granted t k.granted;
    unpinned = λ p. k.unpinned (is_pinned t p (granted t k.granted));
    w = k.w;
    waits = waits k.w k.waits;
    blocks_it = k.blocks_it;
  }

  is_revoked : (t : Token) → HasRevoked (a ∷ past) t → HasRevoked past t
  is_revoked t (inl x) = let p = x.3 in cc
  is_revoked t (inr p) = p.0

  pub owed : (t : Token) → IsOwed server (a ∷ past) t → IsOwed server past t
  owed t o = record {
    granted = granted t o.granted;
    unpinned = λ p. o.unpinned (is_pinned t p (granted t o.granted));
    revoked = is_revoked t o.revoked;
  }
