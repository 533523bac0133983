-- What is so of a server's doings for good, and how words on them grow and go back over a step.
use Rattle.std.proofs.Common.{List, [], ap, arith, inl, inr, refl, subst, suc, sym, ℕ, ◌≤◌, ◌∙◌, ◌∷◌, ◌≡◌, ◌⊎◌}
use Rattle.base_types.specs.declared.ids.HostId.{HostId}
use Rattle.base_types.specs.declared.ids.Node.{Node}
use Rattle.base_types.specs.declared.ids.Node.TheVariants.{Host, Server}
use Rattle.base_types.specs.declared.ids.ServerId.{ServerId}
use Rattle.token_types.specs.declared.token.Token.{Token}
use Rattle.message_types.specs.declared.message.Body.{Body}
use Rattle.message_types.specs.declared.message.Body.TheVariants.{Hello}
use Rattle.message_types.specs.declared.message.Message.{Message}
use Rattle.run_rules.specs.Doings.{after_shipping}
use Rattle.run_rules.specs.Doings.{Doing, Enlists, HasReclaimed, Hears, InEpoch, Listed, ListedNow, SentTo}
use Rattle.run_rules.specs.Doings.{admitting, after_admitting}
use Rattle.run_rules.specs.Doings.{after_cause, after_deciding, after_sending, after_step, deciding, doings_of, epoch}
use Rattle.run_rules.specs.Doings.{sending}
use Rattle.run_rules.specs.Doings.Doing.{Gets, Puts}
use Rattle.run_rules.specs.Doings.Doing.{Admits, BeginsEpoch, Flushes, MakesWant, Moves, Reserves, Sent, Took}
use Rattle.run_rules.specs.Doings.Doing.{WritesDown}
use Rattle.run_rules.specs.Past.{EachInTurn, In, Once, appended}
use Rattle.run_rules.specs.ServerTokens.{MayAdmit, ServerTokens}
use Rattle.run_rules.specs.declared.applied.Admission.{Admission}
use Rattle.run_rules.specs.declared.applied.Applied.{Applied}
use Rattle.run_rules.specs.declared.applied.Applied.TheVariants.{Done as IsDone, IsDown, Replied, Stored}
use Rattle.run_rules.specs.declared.applied.Applied.TheVariants.{Moves as IsMoved, Wants as IsWanted}
use Rattle.run_rules.specs.declared.applied.Wanted.{Wanted}
use Rattle.run_rules.specs.declared.applied.Written.{Written}
use Rattle.run_rules.specs.declared.step.Cause.{Cause}
use Rattle.run_rules.specs.declared.step.Cause.TheVariants.{End, Evict, Flushed, Freight, Lapse}
use Rattle.run_rules.specs.declared.step.Cause.TheVariants.{Line, Message as Came, Restart}
use Rattle.run_rules.specs.declared.step.Step.{Step}
use Rattle.run_tokens.proofs.Words.{acts_after, if_server}
use Rattle.run_goes_on.proofs.Doings.{epoch_after_cause, epoch_after_step, epoch_on, epoch_step}
use Rattle.run_rules.specs.declared.applied.Move.{Move}
use Rattle.run_rules.specs.Doings.{shipping}
use Rattle.run_tokens.proofs.Ships.{once_ships, ships_back, since_shipped, since_ships}
use Rattle.run_goes_on.proofs.Positions.{doings_on, server_doings}

-- # What each doing leaves so, a step leaves so
module _ (Q : List Doing → Type 0) (one : (S : List Doing) (a : Doing) → Q S → Q (a ∷ S)) where
  all_on : (xs S : List Doing) → Q S → Q (appended xs S)
  all_on [] S q = q
  all_on (a ∷ xs) S q = all_on xs (a ∷ S) (one S a q)

  pub cause_each : (c : Cause) (S : List Doing) → Q S → Q (after_cause c S)
  cause_each (Came m) S q = one S (Took m.host m.epoch m.moves m.body) q
  cause_each (Restart line) S q = one S (BeginsEpoch (suc (epoch S))) q
  cause_each Flushed S q = one S Flushes q
  cause_each (Line line) S q = q
  cause_each Lapse S q = q
  cause_each Evict S q = q
  cause_each (Freight freight) S q = one S (Gets freight.server freight.moves freight.body) q
  cause_each End S q = q

  pub caused_on : (s : Step) (S : List Doing) → Q (after_cause s.cause S) → Q (after_step s S)
  caused_on s S q =
      one (after_shipping s S) (Reserves s.reserved)
      (all_on (shipping s.shipped) (after_sending s S) (all_on (sending s.sent) (after_admitting s S)
      (all_on (admitting s.admitted) (after_deciding s S) (all_on (deciding s.applied) (after_cause s.cause S) q))))

  pub each_on : (s : Step) (S : List Doing) → Q S → Q (after_step s S)
  each_on s S q = caused_on s S (cause_each s.cause S q)

-- a host on the list comes on it no more, so that it did so in no later epoch than some
abbrev pub ListedBy : List Doing → HostId → ℕ → Type 0
ListedBy S h e = Listed S h × (ListedNow S h → epoch S ≤ e)

listed_one : (h : HostId) (e : ℕ) (S : List Doing) (a : Doing) → ListedBy S h e → ListedBy (a ∷ S) h e
listed_one h e S a q = (
  inr q.0,
  λ l. elim l [
    | inl enlists ↦ absurd (enlists.1 q.0)
    | inr old ↦ (let same = epoch_on a S old.1 in let le = q.1 old.0 in omega (arith, same, le))
  ],
)

pub listed_by_step : (h : HostId) (e : ℕ) (s : Step) (S : List Doing) → ListedBy S h e → ListedBy (after_step s S) h e
listed_by_step h e s S q = each_on (λ (T : List Doing). ListedBy T h e) (λ T a x. listed_one h e T a x) s S q

abbrev pub ListedOld : List Doing → HostId → Type 0
ListedOld S h = Listed S h × (ListedNow S h → ⊥)

listed_old : (h : HostId) (S : List Doing) (a : Doing) → ListedOld S h → ListedOld (a ∷ S) h
listed_old h S a q = (inr q.0, λ l. elim l [ inl enlists ↦ enlists.1 q.0 | inr old ↦ q.1 old.0 ])

pub listed_old_step : (h : HostId) (s : Step) (S : List Doing) → ListedOld S h → ListedOld (after_step s S) h
listed_old_step h s S q = each_on (λ (T : List Doing). ListedOld T h) (λ T a x. listed_old h T a x) s S q

-- # What once was so in the epoch is so still, in a step in which none begins
module _ (P : List Doing → Doing → Type 0) where
  pub in_deciding : (xs : List Applied) (S : List Doing) → InEpoch P S → InEpoch P (appended (deciding xs) S)
  in_deciding [] S x = x
  in_deciding (IsWanted w ∷ xs) S x =
      in_deciding xs (MakesWant w ∷ S) (inr (x, λ k. (let z : MakesWant w ≡ BeginsEpoch k.0 = k.1 in cc)))
  in_deciding (IsDone w ∷ xs) S x =
      in_deciding xs (WritesDown w ∷ S) (inr (x, λ k. (let z : WritesDown w ≡ BeginsEpoch k.0 = k.1 in cc)))
  in_deciding (Replied y ∷ xs) S x = in_deciding xs S x
  in_deciding (Stored h f ss n ∷ xs) S x = in_deciding xs S x
  in_deciding (IsDown h ∷ xs) S x = in_deciding xs S x
  in_deciding (IsMoved move ∷ xs) S x =
      in_deciding xs (Moves move ∷ S) (inr (x, λ k. (let z : Moves move ≡ BeginsEpoch k.0 = k.1 in cc)))

  pub in_admitting : (cs : List Admission) (S : List Doing) → InEpoch P S → InEpoch P (appended (admitting cs) S)
  in_admitting [] S x = x
  in_admitting (c ∷ cs) S x =
      in_admitting cs (Admits c.host c.tokens ∷ S)
      (inr (x, λ k. (let z : Admits c.host c.tokens ≡ BeginsEpoch k.0 = k.1 in cc)))

  pub in_sending : (ms : List Message) (S : List Doing) → InEpoch P S → InEpoch P (appended (sending ms) S)
  in_sending [] S x = x
  in_sending (m ∷ ms) S x =
      in_sending ms (Sent m.host m.epoch m.moves m.body ∷ S)
      (inr (x, λ k. (let z : Sent m.host m.epoch m.moves m.body ≡ BeginsEpoch k.0 = k.1 in cc)))

  pub in_caused : (s : Step) (S : List Doing) → InEpoch P (after_cause s.cause S) → InEpoch P (after_step s S)
  in_caused s S x = inr (
    since_shipped P s.shipped (after_sending s S) (in_sending s.sent (after_admitting s S)
        (in_admitting s.admitted (after_deciding s S) (in_deciding s.applied (after_cause s.cause S) x))),
    λ k. (let z : Reserves s.reserved ≡ BeginsEpoch k.0 = k.1 in cc),
  )

  pub in_cause : (c : Cause) (S : List Doing) → epoch (after_cause c S) ≡ epoch S → InEpoch P S
      → InEpoch P (after_cause c S)
  in_cause (Came m) S same x =
      inr (x, λ k. (let z : Took m.host m.epoch m.moves m.body ≡ BeginsEpoch k.0 = k.1 in cc))
  in_cause (Restart line) S same x =
      let z : suc (epoch S) ≡ epoch S = same in absurd (omega (arith, z))
  in_cause Flushed S same x = inr (x, λ k. (let z : Flushes ≡ BeginsEpoch k.0 = k.1 in cc))
  in_cause (Line line) S same x = x
  in_cause Lapse S same x = x
  in_cause Evict S same x = x
  in_cause (Freight freight) S same x = inr (x, λ k. (let z : Gets freight.server freight.moves freight.body ≡ BeginsEpoch k.0 = k.1 in cc))
  in_cause End S same x = x

  -- # What no want, no Change that is written down, makes so was so before those
  module _ (no_want : (S : List Doing) (w : Wanted) → P S (MakesWant w) → ⊥)
      (no_write : (S : List Doing) (w : Written) → P S (WritesDown w) → ⊥)
      (no_move : (S : List Doing) (move : Move) → P S (Moves move) → ⊥) where
    pub back_deciding : (xs : List Applied) (S : List Doing) → InEpoch P (appended (deciding xs) S) → InEpoch P S
    back_deciding [] S x = x
    back_deciding (IsWanted w ∷ xs) S x = elim (back_deciding xs (MakesWant w ∷ S) x) [
      | inl k ↦ absurd (no_want S w k)
      | inr k ↦ k.0
    ]
    back_deciding (IsDone w ∷ xs) S x = elim (back_deciding xs (WritesDown w ∷ S) x) [
      | inl k ↦ absurd (no_write S w k)
      | inr k ↦ k.0
    ]
    back_deciding (Replied y ∷ xs) S x = back_deciding xs S x
    back_deciding (Stored h f ss n ∷ xs) S x = back_deciding xs S x
    back_deciding (IsDown h ∷ xs) S x = back_deciding xs S x
    back_deciding (IsMoved move ∷ xs) S x = elim (back_deciding xs (Moves move ∷ S) x) [
      | inl k ↦ absurd (no_move S move k)
      | inr k ↦ k.0
    ]

  -- what no admission makes so was so before those
  pub back_admitting : ((S : List Doing) (h : HostId) (ts : List Token) → P S (Admits h ts) → ⊥)
      → (cs : List Admission) (S : List Doing) → InEpoch P (appended (admitting cs) S) → InEpoch P S
  back_admitting no_admit [] S x = x
  back_admitting no_admit (c ∷ cs) S x = elim (back_admitting no_admit cs (Admits c.host c.tokens ∷ S) x) [
    | inl k ↦ absurd (no_admit S c.host c.tokens k)
    | inr k ↦ k.0
  ]

  -- what nothing that is sent makes so was so before that
  pub back_sending : ((S : List Doing) (h : HostId) (e n : ℕ) (b : Body) → P S (Sent h e n b) → ⊥)
      → (ms : List Message) (S : List Doing) → InEpoch P (appended (sending ms) S) → InEpoch P S
  back_sending no_send [] S x = x
  back_sending no_send (m ∷ ms) S x =
      elim (back_sending no_send ms (Sent m.host m.epoch m.moves m.body ∷ S) x) [
        | inl k ↦ absurd (no_send S m.host m.epoch m.moves m.body k)
        | inr k ↦ k.0
      ]

-- # Over many steps
module _ (firsts : ServerId → ℕ) (v : ServerId) where
  abbrev acts : List Step → List Doing
  acts past = doings_of (firsts v) v past

  pub grows_on : (l p : List Step) → epoch (acts p) ≤ epoch (acts (appended l p))
  grows_on l p =
      doings_on (firsts v) v (λ (S : List Doing). epoch (acts p) ≤ epoch S)
      (λ S t q. (let grows = epoch_after_step t S in omega (arith, q, grows))) l p (omega arith)

  pub listed_on : (h : HostId) (l p : List Step) → Listed (acts p) h → Listed (acts (appended l p)) h
  listed_on h l p x =
      doings_on (firsts v) v (λ (S : List Doing). Listed S h)
      (λ S t q. each_on (λ (T : List Doing). Listed T h) (λ T a k. inr k) t S q) l p x

  -- what was so in the epoch is so, where the epoch is still the same
  pub in_last : (P : List Doing → Doing → Type 0) (l p : List Step)
      → epoch (acts (appended l p)) ≤ epoch (acts p) → InEpoch P (acts p) → InEpoch P (acts (appended l p))
  in_last P [] p le x = x
  in_last P (u ∷ l) p le x = in_last P l (u ∷ p) (omega (arith, le, grown)) (go u.node refl)
    where
      grown : epoch (acts p) ≤ epoch (acts (u ∷ p))
      grown = grows_on (u ∷ []) p

      by_server : u.node ≡ Server v → InEpoch P (after_step u (acts p))
      by_server at =
          let ends : epoch (after_step u (acts p)) ≤ epoch (acts (appended l (u ∷ p))) =
          subst (λ (S : List Doing). epoch S ≤ epoch (acts (appended l (u ∷ p))))
          (server_doings (firsts v) v u p at) (grows_on l (u ∷ p)) in
          let steps = epoch_step u (acts p) in
          let up = epoch_after_cause u (acts p) in
          in_caused P u (acts p) (in_cause P u.cause (acts p) (omega (arith, le, ends, steps, up)) x)

      go : (k : Node) → u.node ≡ k → InEpoch P (acts_after v k u (acts p))
      go (Host k) at = x
      go (Server k) at =
          if_server (InEpoch P) k v (after_step u (acts p)) (acts p) (λ e. by_server (at ∙ ap Server e)) x

-- # What is taken in the epoch was taken once the cause was
abbrev pub IsTaking : (List Doing → Doing → Type 0) → Type 0
IsTaking P = (S : List Doing) (a : Doing) → P S a → (h : HostId) × (e n : ℕ) × (b : Body) × (a ≡ Took h e n b)

module _ (P : List Doing → Doing → Type 0) (takes : IsTaking P) where
  no_want : (S : List Doing) (w : Wanted) → P S (MakesWant w) → ⊥
  no_want S w x = let k = takes S (MakesWant w) x in let z : MakesWant w ≡ Took k.0 k.1 k.2 k.3 = k.4 in cc

  no_write : (S : List Doing) (w : Written) → P S (WritesDown w) → ⊥
  no_write S w x = let k = takes S (WritesDown w) x in let z : WritesDown w ≡ Took k.0 k.1 k.2 k.3 = k.4 in cc

  no_move : (S : List Doing) (move : Move) → P S (Moves move) → ⊥
  no_move S move x = let k = takes S (Moves move) x in let z : Moves move ≡ Took k.0 k.1 k.2 k.3 = k.4 in cc

  no_admit : (S : List Doing) (h : HostId) (ts : List Token) → P S (Admits h ts) → ⊥
  no_admit S h ts x = let k = takes S (Admits h ts) x in let z : Admits h ts ≡ Took k.0 k.1 k.2 k.3 = k.4 in cc

  no_send : (S : List Doing) (h : HostId) (e n : ℕ) (b : Body) → P S (Sent h e n b) → ⊥
  no_send S h e n b x = let k = takes S (Sent h e n b) x in let z : Sent h e n b ≡ Took k.0 k.1 k.2 k.3 = k.4 in cc

  no_put : (S : List Doing) (to : ServerId) (n : ℕ) (b : Body) → P S (Puts to n b) → ⊥
  no_put S to n b x = let k = takes S (Puts to n b) x in let z : Puts to n b ≡ Took k.0 k.1 k.2 k.3 = k.4 in cc

  pub taken_admitting : (cs : List Admission) (s : Step) (S : List Doing)
      → InEpoch P (appended (admitting cs) (after_deciding s S)) → InEpoch P (after_cause s.cause S)
  taken_admitting cs s S x =
      back_deciding P no_want no_write no_move s.applied (after_cause s.cause S)
      (back_admitting P no_admit cs (after_deciding s S) x)

  pub taken_step : (s : Step) (S : List Doing) → InEpoch P (after_step s S) → InEpoch P (after_cause s.cause S)
  taken_step s S (inl x) =
      let k = takes (after_shipping s S) (Reserves s.reserved) x in
      absurd (let z : Reserves s.reserved ≡ Took k.0 k.1 k.2 k.3 = k.4 in cc)
  taken_step s S (inr x) =
      taken_admitting s.admitted s S
      (back_sending P no_send s.sent (after_admitting s S) (since_ships P no_put s.shipped (after_sending s S) x.0))

-- and what once was taken
module _ (P : List Doing → Doing → Type 0) (takes : IsTaking P) where
  once_deciding : (xs : List Applied) (S : List Doing) → Once P (appended (deciding xs) S) → Once P S
  once_deciding [] S x = x
  once_deciding (IsWanted w ∷ xs) S x = elim (once_deciding xs (MakesWant w ∷ S) x) [
    | inl k ↦ absurd (no_want P takes S w k)
    | inr k ↦ k
  ]
  once_deciding (IsDone w ∷ xs) S x = elim (once_deciding xs (WritesDown w ∷ S) x) [
    | inl k ↦ absurd (no_write P takes S w k)
    | inr k ↦ k
  ]
  once_deciding (Replied y ∷ xs) S x = once_deciding xs S x
  once_deciding (Stored h f ss n ∷ xs) S x = once_deciding xs S x
  once_deciding (IsDown h ∷ xs) S x = once_deciding xs S x
  once_deciding (IsMoved move ∷ xs) S x = elim (once_deciding xs (Moves move ∷ S) x) [
    | inl k ↦ absurd (no_move P takes S move k)
    | inr k ↦ k
  ]

  once_admitting : (cs : List Admission) (S : List Doing) → Once P (appended (admitting cs) S) → Once P S
  once_admitting [] S x = x
  once_admitting (c ∷ cs) S x = elim (once_admitting cs (Admits c.host c.tokens ∷ S) x) [
    | inl k ↦ absurd (no_admit P takes S c.host c.tokens k)
    | inr k ↦ k
  ]

  once_sending : (ms : List Message) (S : List Doing) → Once P (appended (sending ms) S) → Once P S
  once_sending [] S x = x
  once_sending (m ∷ ms) S x = elim (once_sending ms (Sent m.host m.epoch m.moves m.body ∷ S) x) [
    | inl k ↦ absurd (no_send P takes S m.host m.epoch m.moves m.body k)
    | inr k ↦ k
  ]

  pub once_step : (s : Step) (S : List Doing) → Once P (after_step s S) → Once P (after_cause s.cause S)
  once_step s S (inl x) =
      let k = takes (after_shipping s S) (Reserves s.reserved) x in
      absurd (let z : Reserves s.reserved ≡ Took k.0 k.1 k.2 k.3 = k.4 in cc)
  once_step s S (inr x) =
      once_deciding s.applied (after_cause s.cause S)
      (once_admitting s.admitted (after_deciding s S) (once_sending s.sent (after_admitting s S)
      (once_ships P (no_put P takes) s.shipped (after_sending s S) x)))

-- # Who has reclaimed after a step has so once its cause was taken, or the step admits a claim of it
enlists_hearing : (S : List Doing) (a : Doing) (h : HostId) → Enlists S a h → Hears a h Hello
enlists_hearing S a h (l, new) = elim l [ inl p ↦ p.0 | inr p ↦ absurd (new p) ]

module _ (h : HostId) where
  abbrev Reclaims : List Doing → Doing → Type 0
  Reclaims S a = ((tokens : List Token) × (a ≡ Admits h tokens)) ⊎ Enlists S a h

  wanted_no : (S : List Doing) (w : Wanted) → Reclaims S (MakesWant w) → ⊥
  wanted_no S w (inl (ts, q)) = let z : MakesWant w ≡ Admits h ts = q in cc
  wanted_no S w (inr x) =
      let k = enlists_hearing S (MakesWant w) h x in let z : MakesWant w ≡ Took h k.0 k.1 Hello = k.2 in cc

  written_no : (S : List Doing) (w : Written) → Reclaims S (WritesDown w) → ⊥
  written_no S w (inl (ts, q)) = let z : WritesDown w ≡ Admits h ts = q in cc
  written_no S w (inr x) =
      let k = enlists_hearing S (WritesDown w) h x in let z : WritesDown w ≡ Took h k.0 k.1 Hello = k.2 in cc

  put_no : (S : List Doing) (to : ServerId) (n : ℕ) (b : Body) → Reclaims S (Puts to n b) → ⊥
  put_no S to n b (inl (ts, q)) = let z : Puts to n b ≡ Admits h ts = q in cc
  put_no S to n b (inr x) =
      let k = enlists_hearing S (Puts to n b) h x in let z : Puts to n b ≡ Took h k.0 k.1 Hello = k.2 in cc

  moved_no : (S : List Doing) (move : Move) → Reclaims S (Moves move) → ⊥
  moved_no S move (inl (ts, q)) = let z : Moves move ≡ Admits h ts = q in cc
  moved_no S move (inr x) =
      let k = enlists_hearing S (Moves move) h x in let z : Moves move ≡ Took h k.0 k.1 Hello = k.2 in cc

  sent_no : (S : List Doing) (j : HostId) (e n : ℕ) (b : Body) → Reclaims S (Sent j e n b) → ⊥
  sent_no S j e n b (inl (ts, q)) = let z : Sent j e n b ≡ Admits h ts = q in cc
  sent_no S j e n b (inr x) =
      let k = enlists_hearing S (Sent j e n b) h x in let z : Sent j e n b ≡ Took h k.0 k.1 Hello = k.2 in cc

  reclaims_admitting : (cs : List Admission) (S : List Doing) → HasReclaimed (appended (admitting cs) S) h
      → HasReclaimed S h ⊎ ((c : Admission) × In c cs × (c.host ≡ h))
  reclaims_admitting [] S r = inl r
  reclaims_admitting (c ∷ cs) S r = elim (reclaims_admitting cs (Admits c.host c.tokens ∷ S) r) [
    | inl (inl (inl (ts, q))) ↦ (let z : Admits c.host c.tokens ≡ Admits h ts = q in let is : c.host ≡ h = cc in
        inr (c, inl refl, is))
    | inl (inl (inr x)) ↦ (let k = enlists_hearing S (Admits c.host c.tokens) h x in
        absurd (let z : Admits c.host c.tokens ≡ Took h k.0 k.1 Hello = k.2 in cc))
    | inl (inr old) ↦ inl old.0
    | inr k ↦ inr (k.0, inr k.1, k.2)
  ]

  pub reclaims_step : (s : Step) (S : List Doing) → HasReclaimed (after_step s S) h
      → HasReclaimed (after_cause s.cause S) h ⊎ ((c : Admission) × In c s.admitted × (c.host ≡ h))
  reclaims_step s S (inl (inl (ts, q))) = absurd (let z : Reserves s.reserved ≡ Admits h ts = q in cc)
  reclaims_step s S (inl (inr x)) =
      let k = enlists_hearing (after_shipping s S) (Reserves s.reserved) h x in
      absurd (let z : Reserves s.reserved ≡ Took h k.0 k.1 Hello = k.2 in cc)
  reclaims_step s S (inr r) =
      elim (reclaims_admitting s.admitted (after_deciding s S)
      (back_sending Reclaims sent_no s.sent (after_admitting s S)
      (since_ships Reclaims put_no s.shipped (after_sending s S) r.0))) [
        | inl d ↦ inl (back_deciding Reclaims wanted_no written_no moved_no s.applied (after_cause s.cause S) d)
        | inr k ↦ inr k
      ]

  -- and a cause alone makes none that is on the list reclaim
  pub reclaims_cause : (c : Cause) (S : List Doing) → Listed S h → HasReclaimed (after_cause c S) h → HasReclaimed S h
  reclaims_cause (Came m) S l (inl (inl (ts, q))) =
      absurd (let z : Took m.host m.epoch m.moves m.body ≡ Admits h ts = q in cc)
  reclaims_cause (Came m) S l (inl (inr x)) = absurd (x.1 l)
  reclaims_cause (Came m) S l (inr r) = r.0
  reclaims_cause (Restart line) S l (inl (inl (ts, q))) =
      absurd (let z : BeginsEpoch (suc (epoch S)) ≡ Admits h ts = q in cc)
  reclaims_cause (Restart line) S l (inl (inr x)) = absurd (x.1 l)
  reclaims_cause (Restart line) S l (inr r) = r.0
  reclaims_cause Flushed S l (inl (inl (ts, q))) = absurd (let z : Flushes ≡ Admits h ts = q in cc)
  reclaims_cause Flushed S l (inl (inr x)) = absurd (x.1 l)
  reclaims_cause Flushed S l (inr r) = r.0
  reclaims_cause (Line line) S l r = r
  reclaims_cause Lapse S l r = r
  reclaims_cause Evict S l r = r
  reclaims_cause (Freight freight) S l (inl (inl (ts, q))) = absurd (let z : Gets freight.server freight.moves freight.body ≡ Admits h ts = q in cc)
  reclaims_cause (Freight freight) S l (inl (inr x)) = absurd (x.1 l)
  reclaims_cause (Freight freight) S l (inr r) = r.0
  reclaims_cause End S l r = r

-- of each admission of a step: what it may admit, after those before it
pub admitted_at : (v : ServerId) (cs : List Admission) (S : List Doing)
    → EachInTurn (ServerTokens v) (admitting cs) S → (c : Admission) → In c cs
    → (front : List Admission) × MayAdmit v (appended (admitting front) S) c.host c.tokens
admitted_at v [] S may c i = elim i [ ]
admitted_at v (x ∷ cs) S may c (inl q) =
    ([], subst (λ (y : Admission). MayAdmit v S y.host y.tokens) (sym q) (may.0.admits x.host x.tokens refl))
admitted_at v (x ∷ cs) S may c (inr i) =
    let k = admitted_at v cs (Admits x.host x.tokens ∷ S) may.1 c i in (x ∷ k.0, k.1)

-- # What was sent
module _ (h : HostId) (e n : ℕ) (b : Body) where
  sent_deciding : (xs : List Applied) (S : List Doing) → SentTo (appended (deciding xs) S) h e n b → SentTo S h e n b
  sent_deciding [] S o = o
  sent_deciding (IsWanted w ∷ xs) S o = elim (sent_deciding xs (MakesWant w ∷ S) o) [
    | inl q ↦ absurd (let z : MakesWant w ≡ Sent h e n b = q in cc)
    | inr k ↦ k
  ]
  sent_deciding (IsDone w ∷ xs) S o = elim (sent_deciding xs (WritesDown w ∷ S) o) [
    | inl q ↦ absurd (let z : WritesDown w ≡ Sent h e n b = q in cc)
    | inr k ↦ k
  ]
  sent_deciding (Replied x ∷ xs) S o = sent_deciding xs S o
  sent_deciding (Stored k f ss m ∷ xs) S o = sent_deciding xs S o
  sent_deciding (IsDown k ∷ xs) S o = sent_deciding xs S o
  sent_deciding (IsMoved move ∷ xs) S o = elim (sent_deciding xs (Moves move ∷ S) o) [
    | inl q ↦ absurd (let z : Moves move ≡ Sent h e n b = q in cc)
    | inr k ↦ k
  ]

  sent_admitting : (cs : List Admission) (S : List Doing) → SentTo (appended (admitting cs) S) h e n b
      → SentTo S h e n b
  sent_admitting [] S o = o
  sent_admitting (c ∷ cs) S o = elim (sent_admitting cs (Admits c.host c.tokens ∷ S) o) [
    | inl q ↦ absurd (let z : Admits c.host c.tokens ≡ Sent h e n b = q in cc)
    | inr k ↦ k
  ]

  sent_sending : (ms : List Message) (S : List Doing) → SentTo (appended (sending ms) S) h e n b
      → SentTo S h e n b ⊎ ((m : Message) × In m ms × (m.host ≡ h) × (m.epoch ≡ e) × (m.moves ≡ n) × (m.body ≡ b))
  sent_sending [] S o = inl o
  sent_sending (m ∷ ms) S o = elim (sent_sending ms (Sent m.host m.epoch m.moves m.body ∷ S) o) [
    | inr k ↦ inr (k.0, inr k.1, k.2, k.3, k.4, k.5)
    | inl (inr k) ↦ inl k
    | inl (inl q) ↦ (
        let host : m.host ≡ h = cc in
        let at : m.epoch ≡ e = cc in
        let moves : m.moves ≡ n = cc in
        let body : m.body ≡ b = cc in
        inr (m, inl refl, host, at, moves, body)
        )
  ]

  pub sent_cause : (c : Cause) (S : List Doing) → SentTo (after_cause c S) h e n b → SentTo S h e n b
  sent_cause (Came m) S (inl q) = absurd (let z : Took m.host m.epoch m.moves m.body ≡ Sent h e n b = q in cc)
  sent_cause (Came m) S (inr o) = o
  sent_cause (Restart line) S (inl q) = absurd (let z : BeginsEpoch (suc (epoch S)) ≡ Sent h e n b = q in cc)
  sent_cause (Restart line) S (inr o) = o
  sent_cause Flushed S (inl q) = absurd (let z : Flushes ≡ Sent h e n b = q in cc)
  sent_cause Flushed S (inr o) = o
  sent_cause (Line line) S o = o
  sent_cause Lapse S o = o
  sent_cause Evict S o = o
  sent_cause (Freight freight) S (inl q) = absurd (let z : Gets freight.server freight.moves freight.body ≡ Sent h e n b = q in cc)
  sent_cause (Freight freight) S (inr o) = o
  sent_cause End S o = o

  -- it was sent before the step, or the step sends it
  pub sent_split : (s : Step) (S : List Doing) → SentTo (after_step s S) h e n b
      → SentTo S h e n b
      ⊎ ((m : Message) × In m s.sent × (m.host ≡ h) × (m.epoch ≡ e) × (m.moves ≡ n) × (m.body ≡ b))
  sent_split s S (inl q) = absurd (let z : Reserves s.reserved ≡ Sent h e n b = q in cc)
  sent_split s S (inr o) = elim (sent_sending s.sent (after_admitting s S)
      (once_ships (λ before a. a ≡ Sent h e n b) (λ T to k c q. cc) s.shipped (after_sending s S) o)) [
        | inr k ↦ inr k
        | inl k ↦ inl (sent_cause s.cause S
            (sent_deciding s.applied (after_cause s.cause S) (sent_admitting s.admitted (after_deciding s S) k)))
      ]

-- # Who is on the list after a step was on it, or came on it in this epoch
module _ (h : HostId) where
  pub listed_deciding : (xs : List Applied) (S : List Doing) → Listed (appended (deciding xs) S) h → Listed S h
  listed_deciding [] S x = x
  listed_deciding (IsWanted w ∷ xs) S x = elim (listed_deciding xs (MakesWant w ∷ S) x) [
    | inl k ↦ (let q = k.0 in absurd (let z : MakesWant w ≡ Took h q.0 q.1 Hello = q.2 in cc))
    | inr k ↦ k
  ]
  listed_deciding (IsDone w ∷ xs) S x = elim (listed_deciding xs (WritesDown w ∷ S) x) [
    | inl k ↦ (let q = k.0 in absurd (let z : WritesDown w ≡ Took h q.0 q.1 Hello = q.2 in cc))
    | inr k ↦ k
  ]
  listed_deciding (Replied y ∷ xs) S x = listed_deciding xs S x
  listed_deciding (Stored k f ss n ∷ xs) S x = listed_deciding xs S x
  listed_deciding (IsDown k ∷ xs) S x = listed_deciding xs S x
  listed_deciding (IsMoved move ∷ xs) S x = elim (listed_deciding xs (Moves move ∷ S) x) [
    | inl k ↦ (let q = k.0 in absurd (let z : Moves move ≡ Took h q.0 q.1 Hello = q.2 in cc))
    | inr k ↦ k
  ]

  pub listed_admitting : (cs : List Admission) (S : List Doing) → Listed (appended (admitting cs) S) h → Listed S h
  listed_admitting [] S x = x
  listed_admitting (c ∷ cs) S x = elim (listed_admitting cs (Admits c.host c.tokens ∷ S) x) [
    | inl k ↦ (let q = k.0 in absurd (let z : Admits c.host c.tokens ≡ Took h q.0 q.1 Hello = q.2 in cc))
    | inr k ↦ k
  ]

  listed_sending : (ms : List Message) (S : List Doing) → Listed (appended (sending ms) S) h → Listed S h
  listed_sending [] S x = x
  listed_sending (m ∷ ms) S x = elim (listed_sending ms (Sent m.host m.epoch m.moves m.body ∷ S) x) [
    | inl k ↦ (let q = k.0 in absurd (let z : Sent m.host m.epoch m.moves m.body ≡ Took h q.0 q.1 Hello = q.2 in cc))
    | inr k ↦ k
  ]

  listed_cause : (c : Cause) (S : List Doing) → Listed (after_cause c S) h
      → Listed S h ⊎ ListedNow (after_cause c S) h
  listed_cause (Came m) S (inl k) = inr (inl (inl k, k.1))
  listed_cause (Came m) S (inr k) = inl k
  listed_cause (Restart line) S (inl k) =
      let q = k.0 in absurd (let z : BeginsEpoch (suc (epoch S)) ≡ Took h q.0 q.1 Hello = q.2 in cc)
  listed_cause (Restart line) S (inr k) = inl k
  listed_cause Flushed S (inl k) = let q = k.0 in absurd (let z : Flushes ≡ Took h q.0 q.1 Hello = q.2 in cc)
  listed_cause Flushed S (inr k) = inl k
  listed_cause (Line line) S k = inl k
  listed_cause Lapse S k = inl k
  listed_cause Evict S k = inl k
  listed_cause (Freight freight) S (inl k) = let q = k.0 in absurd (let z : Gets freight.server freight.moves freight.body ≡ Took h q.0 q.1 Hello = q.2 in cc)
  listed_cause (Freight freight) S (inr k) = inl k
  listed_cause End S k = inl k

  listed_ships : (ms : List Message) (S : List Doing) → Listed (appended (shipping ms) S) h → Listed S h
  listed_ships = ships_back (λ T. Listed T h) (λ T to n b l. elim l [
    | inl k ↦ (let q = k.0 in absurd (let z : Puts to n b ≡ Took h q.0 q.1 Hello = q.2 in cc))
    | inr k ↦ k
  ])

  pub listed_step : (s : Step) (S : List Doing) → Listed (after_step s S) h
      → Listed S h ⊎ ListedNow (after_step s S) h
  listed_step s S (inl k) =
      let q = k.0 in absurd (let z : Reserves s.reserved ≡ Took h q.0 q.1 Hello = q.2 in cc)
  listed_step s S (inr x) =
      elim (listed_cause s.cause S (listed_deciding s.applied (after_cause s.cause S)
      (listed_admitting s.admitted (after_deciding s S) (listed_sending s.sent (after_admitting s S)
      (listed_ships s.shipped (after_sending s S) x))))) [
        | inl k ↦ inl k
        | inr now ↦ inr (in_caused (λ before a. Enlists before a h) s S now)
      ]
