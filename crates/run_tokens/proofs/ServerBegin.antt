-- The begin of an epoch keeps what a server has by itself, and what it has with each host.
use Rattle.std.proofs.Common.{ℕ, ◌<◌, List, ◌∷◌, inl, inr, refl, arith}
use Rattle.base_types.specs.declared.ids.HostId.{HostId}
use Rattle.base_types.specs.declared.ids.ServerId.{ServerId}
use Rattle.token_types.specs.declared.token.Token.{Token}
use Rattle.message_types.specs.declared.message.Body.{Body}
use Rattle.message_types.specs.declared.message.Body.TheVariants.{Grant, Done, Revoke, Gone, Reclaim, Reclaimed}
use Rattle.message_types.specs.declared.telling.Bring.{Bring}
use Rattle.message_types.specs.declared.giving.Reclaim.{Reclaim as ReclaimOf}
use Rattle.run_rules.specs.declared.step.Step.{Step}
use Rattle.run_rules.specs.Doings.{BringsTokens, Doing, Granted, HasGoneAway, HasReclaimed, Issued, SentTo, StayStamp}
use Rattle.run_rules.specs.Doings.{epoch}
use Rattle.run_rules.specs.Doings.Doing.{BeginsEpoch}
use Rattle.run_tokens.proofs.Owed.{Stays, Owed}
use Rattle.run_tokens.proofs.Unmoved.{put_on}
use Rattle.run_tokens.proofs.Invariant.{Served, Alone, Link, Brought, Claiming}

module _ (v : ServerId) (S : List Doing) (n : ℕ) where
  no_bring : (h : HostId) (e m : ℕ) (w : Bring) → BringsTokens (BeginsEpoch n) h e m w → ⊥
  no_bring h e m w (inl p) = (let q = p.1 in cc)
  no_bring h e m w (inr p) = (let q = p.1 in cc)

  old : (t : Token) (k : StayStamp) → Issued (BeginsEpoch n ∷ S) t k → Issued S t k
  old t k (inl (h, e, w, b, _, _)) = absurd (no_bring h e k.moves w b)
  old t k (inr i) = i

  was_owed : (t : Token) → Owed v (BeginsEpoch n ∷ S) t → Owed v S t
  was_owed t (inl (k, (h, e, w, b, _, _))) = absurd (no_bring h e k.moves w b)
  was_owed t (inr o) = o.0

  stays : (t : Token) → Stays v S (BeginsEpoch n) t
  stays t = record {
    unnamed = λ r k. elim k [ inl p ↦ (let q = p.1.2.0 in cc) | inr p ↦ (let q = p.1.2.0 in cc) ];
    here = λ w. elim w [ inl p ↦ (let q = p.2 in cc) | inr p ↦ (let q = p.0.1 in cc) ];
    admitted = λ ts e. absurd (cc);
  }

  still_owed : (t : Token) → Owed v S t → Owed v (BeginsEpoch n ∷ S) t
  still_owed t o = inr (o, stays t)

  not_granted : (t : Token) → Granted v (BeginsEpoch n ∷ S) t → ⊥
  not_granted t (inl (inl (k, (h, e, w, b, _, _)))) = no_bring h e k.moves w b
  not_granted t (inl (inr (ts, e, _))) = cc
  not_granted t (inr (g, q, _, _)) = q (n, refl)

  not_reclaimed : (h : HostId) → HasReclaimed (BeginsEpoch n ∷ S) h → ⊥
  not_reclaimed h (inl (inl (ts, e))) = cc
  not_reclaimed h (inl (inr e)) = elim e.0 [ inl z ↦ (let q = z.0.2 in cc) | inr z ↦ e.1 z ]
  not_reclaimed h (inr (r, q)) = q (n, refl)

  was_away : (h : HostId) → HasGoneAway (BeginsEpoch n ∷ S) h → HasGoneAway S h
  was_away h (inl (inl (e, m, p))) = absurd (cc)
  was_away h (inl (inr p)) = absurd (let q = p.0.1 in cc)
  was_away h (inr w) = w

  was_sent : (h : HostId) (e m : ℕ) (b : Body) → SentTo (BeginsEpoch n ∷ S) h e m b → SentTo S h e m b
  was_sent h e m b (inl p) = absurd (cc)
  was_sent h e m b (inr o) = o

  brought : (h : HostId) (e m : ℕ) (w : Bring) (t : Token) → Brought S h e w m t → Brought (BeginsEpoch n ∷ S) h e w m t
  brought h e m w t i = record { issued = inr i.issued; host = i.host; file = i.file; epoch_is = i.epoch_is }

  pub served_begin : epoch S < n → Served v S → Served v (BeginsEpoch n ∷ S)
  served_begin up served = record {
    put = put_on (BeginsEpoch n) S (λ m. let q = m.1 in cc) served.put;
    unique = λ t u x y i j. served.unique t u x y (old t x i) (old u y j);
    told = λ t x i e. absurd (let le = served.issued_epoch t x (old t x i) in omega arith);
    id = λ t x i. served.id t x (old t x i);
    at = λ t x i. served.at t x (old t x i);
    issued_epoch = λ t x i. (let le = served.issued_epoch t x (old t x i) in omega arith);
    issued_now = λ t x i e. absurd (let le = served.issued_epoch t x (old t x i) in omega arith);
    owed_issued = λ t o. let i = served.owed_issued t (was_owed t o) in (i.0, inr i.1);
    owed_live = λ t o. let l = served.owed_live t (was_owed t o) in (inr l.0, λ w. l.1 (was_away t.host w));
    owed_granted = λ t o r. absurd (not_reclaimed t.host r);
    granted_reclaimed = λ t g. absurd (not_granted t g);
    revokes = λ h d m r i p k. let x = served.revokes h d m r i (was_sent h d m (Revoke r) p) k in record { token = x.token; mark = x.mark; issued = inr x.issued; same = x.same; host = x.host; file = x.file; below = x.below };
    grants = λ h d m w t p k. brought h d m w.bring t (served.grants h d m w t (was_sent h d m (Grant w) p) k);
    dones = λ h d m w t p k. brought h d m w.bring t (served.dones h d m w t (was_sent h d m (Done w) p) k);
    gones = λ h d m k p. inr (served.gones h d m k (was_sent h d m (Gone k) p));
    reclaimed = λ h d m r k p i. inr (served.reclaimed h d m r k (was_sent h d m (Reclaimed r) p) i);
    sent_epoch = λ h d m b p. (let le = served.sent_epoch h d m b (was_sent h d m b p) in omega arith);
    apart = λ t u o p. served.apart t u (was_owed t o) (was_owed u p);
    reserved = λ r k. elim k [ inl x ↦ absurd (let q = x.1 in cc) | inr x ↦ absurd (x.1 (inl (n, refl))) ];
  }

  pub link_begin : (h : HostId) (A : List Step) → epoch S < n → Alone A → Link h v A S → Link h v A (BeginsEpoch n ∷ S)
  link_begin h A up alone link = record {
    behind = (let le = link.behind in omega arith);
    asked = λ t x i. link.asked t x (old t x i);
    took = λ m b t. elim t [ inl p ↦ absurd (let q = p.0 in cc) | inr o ↦ absurd (o.1 (n, refl)) ];
    took_of = λ fs b t. elim t [ inl p ↦ absurd (let q = p.2.0 in cc) | inr o ↦ absurd (o.1 (n, refl)) ];
    took_ever = λ fs b t. elim t [ inl p ↦ absurd (let q = p.2.0 in cc) | inr o ↦ link.took_ever fs b o ];
    known = λ k at m. inr (link.known k at m);
    in_flight = λ t x i mine e above live. still_owed t (link.in_flight t x (old t x i) mine e above (λ w. live (inr w)));
    held = λ t at k. let x = link.held t at k in record { mark = x.mark; issued = inr x.issued; host = x.host; passed = x.passed; stays = x.stays; owed = λ live. still_owed t (x.owed (λ w. live (inr w))) };
    ever = λ t at e. let x = link.ever t at e in (x.0, inr x.1, x.2);
    left = λ i at l. let x = link.left i at l in record { token = x.token; mark = x.mark; issued = inr x.issued; same = x.same; host = x.host; passed = x.passed };
    made_id = link.made_id;
    given = λ g i at m k not live. let x = link.given g i at m k (λ p. not (inr p)) (λ w. live (inr w)) in record { token = x.token; owed = still_owed x.token x.owed; same = x.same; host = x.host };
    returned = λ i g at r m k. inr (link.returned i g at r m k);
    made_once = link.made_once;
    applied_made = λ k a. elim a [ inl p ↦ absurd (let q = p.1.2.0 in cc) | inr o ↦ link.applied_made k o ];
    applied_taken = λ g m a. elim a [ inl p ↦ absurd (let q = p.1.2.0 in cc) | inr o ↦ inr (link.applied_taken g m o) ];
    taken = λ g t m i mine a k. not_granted t k;
    claim_spent = λ c g t k. absurd (too_new c k);
    claim_held = λ c t k. absurd (too_new c k);
    claim_given = λ c g i k. absurd (too_new c k);
    claim_owed = λ c t k. absurd (too_new c k);
    granted_owed = λ t mine g. absurd (not_granted t g);
    left_out = λ e m r i p k. link.left_out e m r i (was_sent h e m (Reclaimed r) p) k;
    away = λ w. link.away (was_away h w);
  }
    where
      -- no host has claimed in an epoch that begins
      too_new : (c : ReclaimOf) → Claiming v (BeginsEpoch n ∷ S) h A c → ⊥
      too_new c k = (let q = k.now in let lo = alone.said_epoch v k.epoch_is k.moves (Reclaim c) k.said in let hi = link.behind in omega arith)
