-- Doings that change no word: what has no effect by its kind, what a host says in vain, and what it asks for.
use Rattle.std.proofs.Common.{◌≡◌, ℕ, ◌≤◌, List, [], ◌∷◌, inl, inr, refl, arith}
use Rattle.base_types.specs.declared.ids.Fid.{Fid}
use Rattle.base_types.specs.declared.ids.HostId.{HostId}
use Rattle.base_types.specs.declared.ids.ServerId.{ServerId}
use Rattle.message_types.specs.declared.message.Body.{Body}
use Rattle.message_types.specs.declared.message.Body.TheVariants.{Bye, Change, Done, Down, Fetch, GiveBack, Gone}
use Rattle.message_types.specs.declared.message.Body.TheVariants.{Grant, Hello, Kept}
use Rattle.message_types.specs.declared.message.Body.TheVariants.{NotHere, Reclaim, Reclaimed, Restarted, Returned}
use Rattle.message_types.specs.declared.message.Body.TheVariants.{Revoke, Ship, Shipped}
use Rattle.message_types.specs.declared.telling.Bring.{Bring}
use Rattle.message_types.specs.declared.tokens.Revoke.{Revoke as RevokeOf}
use Rattle.token_types.specs.declared.token.Token.{Token}
use Rattle.run_rules.specs.Doings.{BringsTokens, Doing, GoesAway, HasGoneAway, HasGoneDown, Hears, IsNewEpoch}
use Rattle.run_rules.specs.Doings.{Listed, TakesFrom, UsesStamp, epoch}
use Rattle.run_rules.specs.Doings.Doing.{Admits, Flushes, MakesWant, Reserves, Sent, Took, WritesDown}
use Rattle.run_rules.specs.Past.{In}
use Rattle.run_rules.specs.Wants.{Decides, IsQueued, Unwants}
use Rattle.run_rules.specs.declared.applied.Request.TheVariants.{Change as Changes, Fetch as Asks}
use Rattle.run_rules.specs.declared.applied.Request.{Request}
use Rattle.run_rules.specs.declared.applied.Wanted.{Wanted}
use Rattle.run_rules.specs.declared.applied.Written.{Written}
use Rattle.run_tokens.specs.Unmoved.{MovesOne}
use Rattle.server_tables.proofs.Still.{AnswersStill, HostsCalm, IsStill, TokensStill, WantsStill}

-- it takes nothing, decides nothing, brings, asks back and keeps nothing
pub record IsIdle (a : Doing) : Type 0 where
  pub begin : IsNewEpoch a → ⊥
  pub still : MovesOne a → ⊥
  pub took : (h : HostId) (e n : ℕ) (b : Body) → a ≡ Took h e n b → ⊥
  pub wants : (w : Wanted) → a ≡ MakesWant w → ⊥
  pub writes : (w : Written) → a ≡ WritesDown w → ⊥
  pub admits : (h : HostId) (ts : List Token) → a ≡ Admits h ts → ⊥
  pub brings : (h : HostId) (e n : ℕ) (b : Bring) → BringsTokens a h e n b → ⊥
  pub revokes : (h : HostId) (e n : ℕ) (r : RevokeOf) → a ≡ Sent h e n (Revoke r) → ⊥
  pub reserves : (t : Token) (ts : List Token) → a ≡ Reserves ts → In t ts → ⊥

-- a message of the present epoch
pub up_to : (past : List Doing) (h : HostId) (e n : ℕ) (b : Body) → e ≡ epoch past → (k : HostId) (f m : ℕ)
    (d : Body) → Sent h e n b ≡ Sent k f m d → f ≤ epoch past
up_to past h e n b now k f m d p = let q : e ≡ f = cc in omega (arith, q, now)

module _ (server : ServerId) (stamp : ℕ) (past : List Doing) (a : Doing) (c : IsIdle a) (ups : (h : HostId) (e n : ℕ)
    (b : Body) → a ≡ Sent h e n b → e ≤ epoch (a ∷ past)) where
  goes : (h : HostId) → GoesAway past a h → HasGoneAway past h
  goes h w = absurd (elim w [ inl p ↦ c.took h p.0 p.1 Down p.2 | inr p ↦ c.took h (epoch past) p.0.0 Bye p.0.1 ])

  decides : (h : HostId) (r : Request) → Decides a h r → ⊥
  decides h (Asks f) d = c.brings h d.0 d.1 d.2.bring (inl (d.2, d.3, refl))
  decides h (Changes f) (inl d) = c.writes d.0 d.1
  decides h (Changes f) (inr d) = c.brings h d.0 d.1 d.2.bring (inr (d.2, d.3, refl))

  unwants : (w : Wanted) → Unwants past a w → ⊥
  unwants w (inl d) = decides w.host w.request d
  unwants w (inr (inl v)) = c.wants v.0 v.1
  unwants w (inr (inr (inl g))) = elim g [
    | inl p ↦ c.took w.host p.0 p.1 Down p.2
    | inr p ↦
        c.took w.host (epoch past) p.0.0 Bye p.0.1
  ]
  unwants w (inr (inr (inr b))) = c.begin b

  pub idle : IsStill server stamp past a
  idle = record {
    hosts = record {
      calm = record { begin = c.begin; still = c.still; away = goes; admits = c.admits };
      hello = λ h p l d. c.took h p.0 p.1 Hello p.2;
      down = λ h p. absurd (c.took h p.0 p.1 Down p.2);
      sends = ups;
    };
    tokens = record {
      names = λ h i n. elim n [
        | inl p ↦ c.took h (epoch past) p.1.0 (Returned p.0) p.1.2.0
        | inr p ↦
            c.took h (epoch past) p.1.0 (GiveBack p.0) p.1.2.0
      ];
      kept = λ h f n p. c.took h (epoch past) p.0 (Kept n) p.2.0;
      issues = λ t k i. c.brings i.0 i.1 k.moves i.2 i.3;
      reserves = c.reserves;
      revokes = c.revokes;
    };
    tells = λ f x t. absurd (elim t [ inl p ↦ c.brings p.0 p.1 p.2 p.3 p.4 | inr p ↦ c.revokes p.0 p.1 p.2 p.3 p.4 ]);
    wants = record { wants = c.wants; unwants = λ w p u. unwants w u };
    answers = record {
      gives = λ h f g p. c.took h (epoch past) p.0 (GiveBack g) p.2.0;
      claims = λ h n d p. c.took h (epoch past) n (Reclaim d) p.0;
      dones = λ h e n d p. c.brings h e n d.bring (inr (d, p, refl));
      writes = c.writes;
    };
  }

in_none : (t : Token) (ts : List Token) → Reserves [] ≡ Reserves ts → In t ts → ⊥
in_none t [] p m = m
in_none t (u ∷ us) p m = absurd (cc)

pub reserves_nothing : IsIdle (Reserves [])
reserves_nothing = record {
  begin = λ b. let p = b.1 in cc;
  still = λ b. let p = b.1 in cc;
  took = λ h e n b p. cc;
  wants = λ w p. cc;
  writes = λ w p. cc;
  admits = λ h ts p. cc;
  brings = λ h e n b w. elim w [ inl k ↦ (let p = k.1 in cc) | inr k ↦ (let p = k.1 in cc) ];
  revokes = λ h e n r p. cc;
  reserves = in_none;
}

pub no_words : (past : List Doing) (h : HostId) (e n : ℕ) (b : Body) → Reserves [] ≡ Sent h e n b → e ≤ epoch
    (Reserves [] ∷ past)
no_words past h e n b p = absurd (cc)

pub flushes_nothing : IsIdle Flushes
flushes_nothing = record {
  begin = λ b. let p = b.1 in cc;
  still = λ b. let p = b.1 in cc;
  took = λ h e n b p. cc;
  wants = λ w p. cc;
  writes = λ w p. cc;
  admits = λ h ts p. cc;
  brings = λ h e n b w. elim w [ inl k ↦ (let p = k.1 in cc) | inr k ↦ (let p = k.1 in cc) ];
  revokes = λ h e n r p. cc;
  reserves = λ t ts p m. absurd (cc);
}

pub no_words_flushed : (past : List Doing) (h : HostId) (e n : ℕ) (b : Body) → Flushes ≡ Sent h e n b → e ≤ epoch
    (Flushes ∷ past)
no_words_flushed past h e n b p = absurd (cc)

-- a server sends this without granting, deciding or asking back anything
pub record IsWord (b : Body) : Type 0 where
  pub brings : (h k : HostId) (e f m n : ℕ) (w : Bring) → BringsTokens (Sent h e m b) k f n w → ⊥
  pub revokes : (r : RevokeOf) → b ≡ Revoke r → ⊥

pub says : (h : HostId) (e n : ℕ) (b : Body) → IsWord b → IsIdle (Sent h e n b)
says h e n b c = record {
  begin = λ w. let p = w.1 in cc;
  still = λ w. let p = w.1 in cc;
  took = λ k f m d p. cc;
  wants = λ w p. cc;
  writes = λ w p. cc;
  admits = λ k ts p. cc;
  brings = λ k f m w p. c.brings h k e f n m w p;
  revokes = λ k f m r p. c.revokes r (cc);
  reserves = λ t ts p m. absurd (cc);
}

-- what a host asks for
abbrev pub IsAsk : Body → Type 0
IsAsk (Fetch f) = Unit {0}
IsAsk (Change c) = Unit {0}
IsAsk _ = ⊥

-- what changes no token and no claim, whoever says it
abbrev pub IsMild : Body → Type 0
IsMild (Returned named) = ⊥
IsMild (Kept named) = ⊥
IsMild (GiveBack give) = ⊥
IsMild (Reclaim claim) = ⊥
IsMild _ = Unit {0}

pub ask_mild : (b : Body) → IsAsk b → IsMild b
ask_mild (Fetch f) p = tt
ask_mild (Change c) p = tt
ask_mild (Hello) p = absurd p
ask_mild (Grant g) p = absurd p
ask_mild (Done d) p = absurd p
ask_mild (Revoke r) p = absurd p
ask_mild (Returned n) p = absurd p
ask_mild (Kept n) p = absurd p
ask_mild (GiveBack g) p = absurd p
ask_mild (Gone g) p = absurd p
ask_mild (Reclaim c) p = absurd p
ask_mild (Reclaimed r) p = absurd p
ask_mild (Restarted) p = absurd p
ask_mild (Down) p = absurd p
ask_mild (Bye) p = absurd p
ask_mild (NotHere n) p = absurd p
ask_mild (Ship ship) p = absurd p
ask_mild (Shipped shipped) p = absurd p

pub took_host : (h k : HostId) (e f m n : ℕ) (b d : Body) → Took h e m b ≡ Took k f n d → h ≡ k
took_host h k e f m n b d p = cc

-- What a host says ends no host, and is taken as a request at most.
pub record IsLight (past : List Doing) (h : HostId) (e n : ℕ) (b : Body) : Type 0 where
  pub taken : (k : HostId) (m : ℕ) (d : Body) → TakesFrom past (Took h e n b) k m d → IsMild d
  pub away : (k : HostId) → GoesAway past (Took h e n b) k → HasGoneAway past k

-- nor does it put one on the list
pub record IsMute (past : List Doing) (h : HostId) (e n : ℕ) (b : Body) : Type 0 where
  pub light : IsLight past h e n b
  pub hello : (k : HostId) → Hears (Took h e n b) k Hello → (Listed past k → ⊥) → (HasGoneDown past k → ⊥) → ⊥
  pub down : (k : HostId) → Hears (Took h e n b) k Down → HasGoneDown past k

module _ (server : ServerId) (stamp : ℕ) (past : List Doing) (h : HostId) (e n : ℕ) (b : Body)
    (c : IsLight past h e n b) (waiting : (w : Wanted) → IsQueued past w → GoesAway past (Took h e n b) w.host
    → ⊥) where
  abbrev a : Doing
  a = Took h e n b

  unmade : (k : HostId) (r : Request) → Decides a k r → ⊥
  unmade k (Asks f) d = let p = d.3 in cc
  unmade k (Changes f) (inl d) = let p = d.1 in cc
  unmade k (Changes f) (inr d) = let p = d.3 in cc

  unwanted : (w : Wanted) → IsQueued past w → Unwants past a w → ⊥
  unwanted w p (inl d) = unmade w.host w.request d
  unwanted w p (inr (inl v)) = let q = v.1 in cc
  unwanted w p (inr (inr (inl g))) = waiting w p g
  unwanted w p (inr (inr (inr z))) = let q = z.1 in cc

  pub light_calm : HostsCalm past a
  light_calm = record { begin = λ w. let p = w.1 in cc; still = λ w. let p = w.1 in cc; away = c.away; admits = λ k ts p. cc }

  pub light_tokens : TokensStill server past a
  light_tokens = record {
    names = λ k i w. elim w [
      | inl p ↦ c.taken k p.1.0 (Returned p.0) p.1.2
      | inr p ↦
          c.taken k p.1.0 (GiveBack p.0) p.1.2
    ];
    kept = λ k f w p. c.taken k p.0 (Kept w) p.2;
    issues = λ t k i. elim i.3 [ inl p ↦ (let q = p.1 in cc) | inr p ↦ (let q = p.1 in cc) ];
    reserves = λ t ts p m. absurd (cc);
    revokes = λ k f m r p. cc;
  }

  pub light_tells : (f : Fid) (x : ℕ) → UsesStamp a f x → x ≤ stamp
  light_tells f x t = absurd (elim t [
    | inl p ↦ elim p.4 [
      | inl q ↦ (let r = q.1 in cc)
      | inr q ↦
          (let r = q.1 in cc)
    ]
    | inr p ↦ (let q = p.4 in cc)
  ])

  pub light_wants : WantsStill past a
  light_wants = record { wants = λ w p. cc; unwants = unwanted }

  pub light_answers : AnswersStill server past a
  light_answers = record {
    gives = λ k f g p. c.taken k p.0 (GiveBack g) p.2;
    claims = λ k m d p. c.taken k m (Reclaim d) p;
    dones = λ k f m d p. cc;
    writes = λ w p. cc;
  }

pub mute : (server : ServerId) (stamp : ℕ) (past : List Doing) (h : HostId) (e n : ℕ) (b : Body) → IsMute past h e n b
    → ((w : Wanted) → IsQueued past w → GoesAway past (Took h e n b) w.host → ⊥) → IsStill server stamp past
    (Took h e n b)
mute server stamp past h e n b c waiting = record {
  hosts = record {
    calm = light_calm server stamp past h e n b c.light waiting;
    hello = c.hello;
    down = c.down;
    sends = λ h0 e0 n0 b0 p. absurd (cc);
  };
  tokens = light_tokens server stamp past h e n b c.light waiting;
  tells = light_tells server stamp past h e n b c.light waiting;
  wants = light_wants server stamp past h e n b c.light waiting;
  answers = light_answers server stamp past h e n b c.light waiting;
}
