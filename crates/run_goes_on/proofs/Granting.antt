-- A granted token that was issued in its epoch before was granted all the time since, and is pinned where it was.
use Rattle.std.proofs.Common.{List, [], arith, inl, inr, subst, suc, sym, ℕ, ◌∷◌, ◌≡◌, ◌⊎◌}
use Rattle.base_types.specs.declared.ids.HostId.{HostId}
use Rattle.base_types.specs.declared.ids.ServerId.{ServerId}
use Rattle.token_types.specs.declared.token.Token.{Token}
use Rattle.token_types.specs.declared.token.TokenId.{TokenId}
use Rattle.message_types.specs.declared.message.Body.{Body}
use Rattle.message_types.specs.declared.message.Body.TheVariants.{Done, Grant, Revoke}
use Rattle.message_types.specs.declared.message.Message.{Message}
use Rattle.message_types.specs.declared.telling.Bring.{Bring}
use Rattle.message_types.specs.declared.tokens.Revoke.{Revoke as RevokeOf}
use Rattle.run_rules.specs.Doings.{after_shipping}
use Rattle.run_rules.specs.Doings.{Doing, Enlists, Granted, HasReclaimed, IsNewlyGranted, Issued, Issues, Pinned}
use Rattle.run_rules.specs.Doings.{StayStamp, admitting, after_admitting, after_cause, after_deciding, after_sending}
use Rattle.run_rules.specs.Doings.{after_step, deciding, epoch, sending}
use Rattle.run_rules.specs.Doings.Doing.{Gets, Puts}
use Rattle.run_rules.specs.Doings.Doing.{Admits, BeginsEpoch, Flushes, MakesWant, Moves, Reserves, Sent, Took}
use Rattle.run_rules.specs.Doings.Doing.{WritesDown}
use Rattle.run_rules.specs.Past.{EachInTurn, In, appended}
use Rattle.run_rules.specs.ServerTokens.{ServerStep, ServerTokens}
use Rattle.run_rules.specs.declared.applied.Admission.{Admission}
use Rattle.run_rules.specs.declared.applied.Applied.{Applied}
use Rattle.run_rules.specs.declared.applied.Applied.TheVariants.{Done as IsDone, IsDown, Replied, Stored}
use Rattle.run_rules.specs.declared.applied.Applied.TheVariants.{Moves as IsMoved, Wants as IsWanted}
use Rattle.run_rules.specs.declared.step.Cause.{Cause}
use Rattle.run_rules.specs.declared.step.Cause.TheVariants.{End, Evict, Flushed, Freight, Lapse}
use Rattle.run_rules.specs.declared.step.Cause.TheVariants.{Line, Message as Came, Restart}
use Rattle.run_rules.specs.declared.step.Step.{Step}
use Rattle.run_goes_on.proofs.Grown.{in_admitting, in_deciding}
use Rattle.run_tokens.proofs.Ships.{ships_back, ships_keep}
use Rattle.run_goes_on.proofs.Positions.{once_on}

abbrev Reclaims : HostId → List Doing → Doing → Type 0
Reclaims h S a = ((tokens : List Token) × (a ≡ Admits h tokens)) ⊎ Enlists S a h

module _ (v : ServerId) (t : Token) (x : StayStamp) where
  -- granted before, and pinned then where it was
  abbrev pub Keeps : List Doing → List Doing → Type 0
  Keeps S T = Granted v S t × (Pinned v S t → Pinned v T t)

  -- a token that was issued is brought no more but by a repeat, nor claimed by a host that has reclaimed
  newly : (S : List Doing) (a : Doing) → ServerTokens v S a → HasReclaimed S t.host → Issued S t x
      → IsNewlyGranted a t → Granted v S t
  newly S a may r i (inr (tokens, q, among)) = absurd ((may.admits t.host tokens q).first r)
  newly S a may r i (inl (mark, (k, e, bring, inl (grant, q, is), among, stamp))) =
      let new = (may.grants k e mark.moves grant q).0 in
      let j : In t grant.bring.tokens = subst (λ (y : Bring). In t y.tokens) (sym is) among in
      let lt = new.new t t x j i (new.now t j) in
      absurd (omega (arith, lt))
  newly S a may r i (inl (mark, (k, e, bring, inr (done, q, is), among, stamp))) =
      elim (may.dones k e mark.moves done q) [
        | inl none ↦ absurd (subst (In t) none j)
        | inr (inl new) ↦ (let lt = new.0.new t t x j i (new.0.now t j) in absurd (omega (arith, lt)))
        | inr (inr again) ↦ again.1 t j
      ]
    where
      j : In t done.bring.tokens
      j = subst (λ (y : Bring). In t y.tokens) (sym is) among

  keep_one : (S T : List Doing) (a : Doing) → (IsNewlyGranted a t → Granted v S t) → Keeps (a ∷ S) T → Keeps S T
  keep_one S T a new k = (elim k.0 [ inl n ↦ new n | inr g ↦ g.0 ], λ p. k.1 (inr p, k.0))

  -- a doing that sends nothing and admits nothing brings none
  abbrev pub IsPlain : Doing → Type 0
  IsPlain a =
      ((h : HostId) (e n : ℕ) (b : Body) → a ≡ Sent h e n b → ⊥) × ((h : HostId) (ts : List Token) → a ≡ Admits h ts
      → ⊥)

  pub plain : (a : Doing) → IsPlain a → IsNewlyGranted a t → ⊥
  plain a apart (inr (tokens, q, among)) = apart.1 t.host tokens q
  plain a apart (inl (mark, (k, e, bring, inl (grant, q, is), among, stamp))) = apart.0 k e mark.moves (Grant grant) q
  plain a apart (inl (mark, (k, e, bring, inr (done, q, is), among, stamp))) = apart.0 k e mark.moves (Done done) q

  keep_plain : (S T : List Doing) (a : Doing) → IsPlain a → Keeps (a ∷ S) T → Keeps S T
  keep_plain S T a apart = keep_one S T a (λ n. absurd (plain a apart n))

  keep_writes : (xs : List Applied) (S T : List Doing) → Keeps (appended (deciding xs) S) T → Keeps S T
  keep_writes [] S T k = k
  keep_writes (IsWanted w ∷ xs) S T k =
      keep_plain S T (MakesWant w) ((λ h e n b q. cc), (λ h ts q. cc)) (keep_writes xs (MakesWant w ∷ S) T k)
  keep_writes (IsDone w ∷ xs) S T k =
      keep_plain S T (WritesDown w) ((λ h e n b q. cc), (λ h ts q. cc)) (keep_writes xs (WritesDown w ∷ S) T k)
  keep_writes (Replied y ∷ xs) S T k = keep_writes xs S T k
  keep_writes (Stored h f ss n ∷ xs) S T k = keep_writes xs S T k
  keep_writes (IsDown h ∷ xs) S T k = keep_writes xs S T k
  keep_writes (IsMoved move ∷ xs) S T k =
      keep_plain S T (Moves move) ((λ h e n b q. cc), (λ h ts q. cc)) (keep_writes xs (Moves move ∷ S) T k)

  keep_admits : (cs : List Admission) (S T : List Doing) → EachInTurn (ServerTokens v) (admitting cs) S
      → HasReclaimed S t.host → Issued S t x → Keeps (appended (admitting cs) S) T → Keeps S T
  keep_admits [] S T may r i k = k
  keep_admits (c ∷ cs) S T may r i k =
      keep_one S T (Admits c.host c.tokens) (newly S (Admits c.host c.tokens) may.0 r i)
      (keep_admits cs (Admits c.host c.tokens ∷ S) T may.1
      (inr (r, λ n. (let z : Admits c.host c.tokens ≡ BeginsEpoch n.0 = n.1 in cc))) (inr i) k)

  keep_sends : (ms : List Message) (S T : List Doing) → EachInTurn (ServerTokens v) (sending ms) S
      → HasReclaimed S t.host → Issued S t x → Keeps (appended (sending ms) S) T → Keeps S T
  keep_sends [] S T may r i k = k
  keep_sends (m ∷ ms) S T may r i k =
      keep_one S T (Sent m.host m.epoch m.moves m.body) (newly S (Sent m.host m.epoch m.moves m.body) may.0 r i)
      (keep_sends ms (Sent m.host m.epoch m.moves m.body ∷ S) T may.1
      (inr (r, λ n. (let z : Sent m.host m.epoch m.moves m.body ≡ BeginsEpoch n.0 = n.1 in cc))) (inr i) k)

  -- so it goes back from the end of a step to its cause
  pub keep_caused : (s : Step) (S T : List Doing) → ServerStep v S s → HasReclaimed (after_cause s.cause S) t.host
      → Issued (after_cause s.cause S) t x → Keeps (after_step s S) T → Keeps (after_cause s.cause S) T
  keep_caused s S T may r i k =
      keep_writes s.applied (after_cause s.cause S) T
      (keep_admits s.admitted (after_deciding s S) T may.admits decided issued
      (keep_sends s.sent (after_admitting s S) T may.sends
      (in_admitting (Reclaims t.host) s.admitted (after_deciding s S) decided)
      (once_on (λ before a. Issues a t x) (admitting s.admitted) (after_deciding s S) issued)
      (ships_back (λ U. Keeps U T) (λ U to n b was. keep_plain U T (Puts to n b) ((λ h e n b q. cc), (λ h ts q. cc)) was)
      s.shipped (after_sending s S)
      (keep_plain (after_shipping s S) T (Reserves s.reserved) ((λ h e n b q. cc), (λ h ts q. cc)) k))))
    where
      decided : HasReclaimed (after_deciding s S) t.host
      decided = in_deciding (Reclaims t.host) s.applied (after_cause s.cause S) r

      issued : Issued (after_deciding s S) t x
      issued = once_on (λ before a. Issues a t x) (deciding s.applied) (after_cause s.cause S) i

  -- and before that
  pub keep_cause : (c : Cause) (S T : List Doing) → Keeps (after_cause c S) T → Keeps S T
  keep_cause (Came m) S T k =
      keep_plain S T (Took m.host m.epoch m.moves m.body) ((λ h e n b q. cc), (λ h ts q. cc)) k
  keep_cause (Restart line) S T k =
      keep_plain S T (BeginsEpoch (suc (epoch S))) ((λ h e n b q. cc), (λ h ts q. cc)) k
  keep_cause Flushed S T k = keep_plain S T Flushes ((λ h e n b q. cc), (λ h ts q. cc)) k
  keep_cause (Line line) S T k = k
  keep_cause Lapse S T k = k
  keep_cause Evict S T k = k
  keep_cause (Freight freight) S T k = keep_plain S T (Gets freight.server freight.moves freight.body) ((λ h e n b q. cc), (λ h ts q. cc)) k
  keep_cause End S T k = k

-- # A Revoke names granted tokens, which are granted after its step
module _ (v : ServerId) where
  sent_keeps : (ms : List Message) (S : List Doing) (u : Token) → Granted v S u
      → Granted v (appended (sending ms) S) u
  sent_keeps [] S u g = g
  sent_keeps (m ∷ ms) S u g =
      sent_keeps ms (Sent m.host m.epoch m.moves m.body ∷ S) u
      (inr (
        g,
        (λ n. (let z : Sent m.host m.epoch m.moves m.body ≡ BeginsEpoch n.0 = n.1 in cc)),
        (λ gives. elim gives [ inl k ↦ not_took k.1.2.0 | inr k ↦ not_took k.1.2.0 ]),
        (λ goes. elim goes [ inl k ↦ not_took k.2 | inr k ↦ not_took k.0.1 ]),
      ))
    where
      not_took : {h : HostId} {e n : ℕ} {b : Body} → Sent m.host m.epoch m.moves m.body ≡ Took h e n b → ⊥
      not_took q = cc

  named_in : (ms : List Message) (S : List Doing) → EachInTurn (ServerTokens v) (sending ms) S → (m : Message)
      → In m ms → (r : RevokeOf) → m.body ≡ Revoke r → (i : TokenId) → In i r.ids
      → (u : Token) × (u.id ≡ i) × (u.host ≡ m.host) × Granted v (appended (sending ms) S) u
  named_in [] S may m among r body i is = elim among [ ]
  named_in (y ∷ ms) S may m (inl q) r body i is =
      let named : y.body ≡ Revoke r = subst (λ (z : Message). z.body ≡ Revoke r) q body in
      let k = may.0.revokes y.host y.epoch y.moves r i (λ j. Sent y.host y.epoch y.moves (named j)) is in
      (k.0, k.2, subst (λ (z : Message). k.0.host ≡ z.host) (sym q) k.3, sent_keeps (y ∷ ms) S k.0 k.1)
  named_in (y ∷ ms) S may m (inr among) r body i is =
      named_in ms (Sent y.host y.epoch y.moves y.body ∷ S) may.1 m among r body i is

  pub revoked_granted : (s : Step) (S : List Doing) → ServerStep v S s → (m : Message) → In m s.sent → (r : RevokeOf)
      → m.body ≡ Revoke r → (i : TokenId) → In i r.ids
      → (u : Token) × (u.id ≡ i) × (u.host ≡ m.host) × Granted v (after_step s S) u
  revoked_granted s S may m among r body i is =
      let k = named_in s.sent (after_admitting s S) may.sends m among r body i is in (
        k.0,
        k.1,
        k.2,
        inr (
          ships_keep (λ T. Granted v T k.0) (λ T to n b g. put_keeps T to n b k.0 g) s.shipped (after_sending s S) k.3,
          (λ n. (let z : Reserves s.reserved ≡ BeginsEpoch n.0 = n.1 in cc)),
          (λ gives. elim gives [ inl g ↦ not_took g.1.2.0 | inr g ↦ not_took g.1.2.0 ]),
          (λ goes. elim goes [ inl g ↦ not_took g.2 | inr g ↦ not_took g.0.1 ]),
        ),
      )
    where
      not_took : {h : HostId} {e n : ℕ} {b : Body} → Reserves s.reserved ≡ Took h e n b → ⊥
      not_took q = cc

      not_put : {to : ServerId} {k : ℕ} {c : Body} {h : HostId} {e n : ℕ} {b : Body} → Puts to k c ≡ Took h e n b → ⊥
      not_put q = cc

      put_keeps : (T : List Doing) (to : ServerId) (n : ℕ) (b : Body) (u : Token) → Granted v T u
          → Granted v (Puts to n b ∷ T) u
      put_keeps T to n b u g = inr (
        g,
        (λ z. (let y : Puts to n b ≡ BeginsEpoch z.0 = z.1 in cc)),
        (λ gives. elim gives [ inl x ↦ not_put x.1.2.0 | inr x ↦ not_put x.1.2.0 ]),
        (λ goes. elim goes [ inl x ↦ not_put x.2 | inr x ↦ not_put x.0.1 ]),
      )
