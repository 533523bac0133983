-- What a server's doings tell of a host: it is on the list where something was issued to it, and what it claims it
-- said.
use Rattle.std.proofs.Common.{List, [], arith, inl, inr, refl, subst, suc, sym, ℕ, ◌<◌, ◌≤◌, ◌∙◌, ◌∷◌, ◌≡◌, ◌⊎◌}
use Rattle.base_types.specs.declared.ids.HostId.{HostId}
use Rattle.base_types.specs.declared.ids.Node.{Node}
use Rattle.base_types.specs.declared.ids.Node.TheVariants.{Host, Server}
use Rattle.base_types.specs.declared.ids.ServerId.{ServerId}
use Rattle.tree_answers.specs.declared.tree.Tree.{Tree}
use Rattle.token_types.specs.declared.token.Token.{Token}
use Rattle.script_lines.specs.declared.script.Script.{Script}
use Rattle.message_types.specs.declared.giving.Reclaim.{Reclaim as ReclaimOf}
use Rattle.message_types.specs.declared.message.Body.{Body}
use Rattle.message_types.specs.declared.message.Body.TheVariants.{Done, Grant, Hello, Reclaim}
use Rattle.message_types.specs.declared.message.Message.{Message}
use Rattle.message_types.specs.declared.telling.Bring.{Bring}
use Rattle.message_types.specs.declared.telling.Done.{Done as DoneOf}
use Rattle.run_rules.specs.Doings.{after_shipping}
use Rattle.run_rules.specs.Doings.{Doing, HasReclaimed, InEpoch, IsNewEpoch, Issued, Issues, Listed, ListedNow}
use Rattle.run_rules.specs.Doings.{SentTo, StayStamp, TookNow, admitting, after_admitting, after_cause, after_deciding}
use Rattle.run_rules.specs.Doings.{after_sending, after_step, deciding, doings_of, epoch, sending}
use Rattle.run_rules.specs.Doings.Doing.{Gets, Puts}
use Rattle.run_rules.specs.Doings.Doing.{Admits, BeginsEpoch, Flushes, MakesWant, Moves, Reserves, Sent, Took}
use Rattle.run_rules.specs.Doings.Doing.{WritesDown}
use Rattle.run_rules.specs.Messages.{Said}
use Rattle.run_rules.specs.Past.{EachInTurn, In, Once, appended}
use Rattle.run_rules.specs.Runs.{CameToServer, StepMeets, StepsMeet}
use Rattle.run_rules.specs.ServerTokens.{MayBring, ServerStep, ServerTokens}
use Rattle.run_rules.specs.Steps.{steps_of_host}
use Rattle.run_rules.specs.declared.applied.Admission.{Admission}
use Rattle.run_rules.specs.declared.applied.Applied.{Applied}
use Rattle.run_rules.specs.declared.applied.Applied.TheVariants.{Done as IsDone, IsDown, Replied, Stored}
use Rattle.run_rules.specs.declared.applied.Applied.TheVariants.{Moves as IsMoved, Wants as IsWanted}
use Rattle.run_rules.specs.declared.step.Cause.{Cause}
use Rattle.run_rules.specs.declared.step.Cause.TheVariants.{End, Evict, Flushed, Freight, Lapse}
use Rattle.run_rules.specs.declared.step.Cause.TheVariants.{Line, Message as Came, Restart}
use Rattle.run_rules.specs.declared.step.Step.{Step}
use Rattle.run_tokens.specs.Unmoved.{StaysPut}
use Rattle.run_tokens.proofs.Unmoved.{put_on}
use Rattle.run_tokens.proofs.Ships.{ships_keep}
use Rattle.run_tokens.proofs.Ships.{epoch_shipping, once_ships}
use Rattle.run_tokens.proofs.Words.{acts_after, if_host, if_server, own_after}

-- # Epochs

pub epoch_on : (a : Doing) (S : List Doing) → (IsNewEpoch a → ⊥) → epoch (a ∷ S) ≡ epoch S
epoch_on (BeginsEpoch e) S none = absurd (none (e, refl))
epoch_on (Took h e n b) S none = refl
epoch_on Flushes S none = refl
epoch_on (MakesWant w) S none = refl
epoch_on (WritesDown w) S none = refl
epoch_on (Admits h ts) S none = refl
epoch_on (Sent h e n b) S none = refl
epoch_on (Reserves ts) S none = refl
epoch_on (Moves move) S none = refl
epoch_on (Gets from n b) S none = refl
epoch_on (Puts to n b) S none = refl

epoch_deciding : (xs : List Applied) (S : List Doing) → epoch (appended (deciding xs) S) ≡ epoch S
epoch_deciding [] S = refl
epoch_deciding (IsWanted w ∷ xs) S = epoch_deciding xs (MakesWant w ∷ S)
epoch_deciding (IsDone w ∷ xs) S = epoch_deciding xs (WritesDown w ∷ S)
epoch_deciding (Replied x ∷ xs) S = epoch_deciding xs S
epoch_deciding (Stored h f ss n ∷ xs) S = epoch_deciding xs S
epoch_deciding (IsDown h ∷ xs) S = epoch_deciding xs S
epoch_deciding (IsMoved move ∷ xs) S = epoch_deciding xs (Moves move ∷ S)

epoch_admitting : (cs : List Admission) (S : List Doing) → epoch (appended (admitting cs) S) ≡ epoch S
epoch_admitting [] S = refl
epoch_admitting (c ∷ cs) S = epoch_admitting cs (Admits c.host c.tokens ∷ S)

epoch_sending : (ms : List Message) (S : List Doing) → epoch (appended (sending ms) S) ≡ epoch S
epoch_sending [] S = refl
epoch_sending (m ∷ ms) S = epoch_sending ms (Sent m.host m.epoch m.moves m.body ∷ S)

epoch_before_sending : (s : Step) (S : List Doing) → epoch (after_admitting s S) ≡ epoch (after_cause s.cause S)
epoch_before_sending s S =
    epoch_admitting s.admitted (after_deciding s S) ∙ epoch_deciding s.applied (after_cause s.cause S)

pub epoch_step : (s : Step) (S : List Doing) → epoch (after_step s S) ≡ epoch (after_cause s.cause S)
epoch_step s S =
    epoch_shipping s.shipped (after_sending s S)
    ∙ (epoch_sending s.sent (after_admitting s S) ∙ epoch_before_sending s S)

epoch_caused : (c : Cause) (S : List Doing) → epoch S ≤ epoch (after_cause c S)
epoch_caused (Came m) S = omega arith
epoch_caused (Restart line) S = omega arith
epoch_caused Flushed S = omega arith
epoch_caused (Line line) S = omega arith
epoch_caused Lapse S = omega arith
epoch_caused Evict S = omega arith
epoch_caused (Freight freight) S = omega arith
epoch_caused End S = omega arith

pub epoch_after_cause : (s : Step) (S : List Doing) → epoch S ≤ epoch (after_cause s.cause S)
epoch_after_cause s S = epoch_caused s.cause S

pub epoch_after_step : (s : Step) (S : List Doing) → epoch S ≤ epoch (after_step s S)
epoch_after_step s S =
    let same : epoch (after_step s S) ≡ epoch (after_cause s.cause S) = epoch_step s S in
    let le : epoch S ≤ epoch (after_cause s.cause S) = epoch_caused s.cause S in
    omega (arith, same, le)

-- # What a step sends

sent_in_turn : (v : ServerId) (ms : List Message) (S : List Doing) → EachInTurn (ServerTokens v) (sending ms) S
    → (m : Message) → In m ms
    → (mid : List Doing) × ServerTokens v mid (Sent m.host m.epoch m.moves m.body) × (epoch mid ≡ epoch S)
    × (StaysPut S → StaysPut mid)
sent_in_turn v [] S may m i = elim i [ ]
sent_in_turn v (x ∷ ms) S may m (inl q) = (
  S,
  subst (λ (y : Message). ServerTokens v S (Sent y.host y.epoch y.moves y.body)) (sym q) may.0,
  refl,
  λ put. put,
)
sent_in_turn v (x ∷ ms) S may m (inr i) =
    let k = sent_in_turn v ms (Sent x.host x.epoch x.moves x.body ∷ S) may.1 m i in (
      k.0,
      k.1,
      k.2,
      λ put. k.3 (put_on (Sent x.host x.epoch x.moves x.body) S (λ p. let q = p.1 in cc) put),
    )

-- it carries the server's epoch, once the step has taken its cause
pub sent_so : (v : ServerId) (s : Step) (S : List Doing) → ServerStep v S s → (m : Message) → In m s.sent
    → (mid : List Doing) × ServerTokens v mid (Sent m.host m.epoch m.moves m.body)
    × (m.epoch ≡ epoch (after_cause s.cause S)) × (StaysPut (after_admitting s S) → StaysPut mid)
sent_so v s S may m i =
    let k = sent_in_turn v s.sent (after_admitting s S) may.sends m i in
    (k.0, k.1, k.1.epochs m.host m.epoch m.moves m.body refl ∙ (k.2 ∙ epoch_before_sending s S), k.3)

-- # The list of hosts, tokens and claims

module _ (v : ServerId) (h : HostId) where
  pub record Knows (S : List Doing) : Type 0 where
    -- who was issued a token is on the list; one who came on it in this epoch was issued none of an earlier one
    pub listed : (t : Token) (x : StayStamp) → Issued S t x → t.host ≡ h → Listed S h
    pub now : (t : Token) (x : StayStamp) → ListedNow S h → Issued S t x → t.host ≡ h → t.id.epoch ≡ epoch S
    pub above : (t : Token) (x : StayStamp) → Issued S t x → 0 < t.id.epoch
    -- a claim that was admitted in this epoch was taken in it
    pub claimed : InEpoch (λ before a. (tokens : List Token) × (a ≡ Admits h tokens)) S
        → (n : ℕ) × (claim : ReclaimOf) × TookNow S h n (Reclaim claim)

  -- what was sent was issued
  sent_issued : (S : List Doing) (t : Token) (x : StayStamp) (k : HostId) (e : ℕ) (d : DoneOf)
      → SentTo S k e x.moves (Done d) → (w : Bring) → d.bring ≡ w → In t w.tokens → w.stamp ≡ x.stamp → Issued S t x
  sent_issued [] t x k e d o w is i stamp = elim o [ ]
  sent_issued (a ∷ S) t x k e d (inl q) w is i stamp = inl (k, e, w, inr (d, q, is), i, stamp)
  sent_issued (a ∷ S) t x k e d (inr o) w is i stamp = inr (sent_issued S t x k e d o w is i stamp)

  module _ (a : Doing) (S : List Doing)
      (sent : (k : HostId) (e n : ℕ) (b : Body) → a ≡ Sent k e n b → ServerTokens v S a × (0 < epoch S))
      (admits : (k : HostId) (ts : List Token) → a ≡ Admits k ts → ServerTokens v S a) (old : Knows S) where
    -- a token that is issued is issued anew, to a host on the list, or was before
    abbrev NewTo : Token → Type 0
    NewTo t = (t.id.epoch ≡ epoch S) × (0 < epoch S) × Listed S t.host

    brought : (t : Token) (k : HostId) (n : ℕ) (w : Bring) → MayBring v S k n w → 0 < epoch S → In t w.tokens
        → NewTo t
    brought t k n w may above i =
        (may.now t i, above, subst (Listed S) (sym (may.host_is t i)) may.live.0)

    issued : (t : Token) (x : StayStamp) → Issues a t x → NewTo t ⊎ Issued S t x
    issued t x (k, e, w, inl (grant, q, is), i, stamp) =
        let may = sent k e x.moves (Grant grant) q in
        inl (brought t k x.moves grant.bring (may.0.grants k e x.moves grant q).0 may.1
        (subst (λ (y : Bring). In t y.tokens) (sym is) i))
    issued t x (k, e, w, inr (done, q, is), i, stamp) =
        let may = sent k e x.moves (Done done) q in
        let j : In t done.bring.tokens = subst (λ (y : Bring). In t y.tokens) (sym is) i in
        elim (may.0.dones k e x.moves done q) [
          | inl none ↦ absurd (subst (In t) none j)
          | inr (inl new) ↦ inl (brought t k x.moves done.bring new.0 may.1 j)
          | inr (inr again) ↦ inr (sent_issued S t x k e done again.0 w is i stamp)
        ]

    on : Knows (a ∷ S)
    on = record {
      listed = λ t x is host. inr (elim is [
        | inl new ↦ elim (issued t x new) [
          | inl k ↦ subst (Listed S) host k.2
          | inr was ↦ old.listed t x was host
        ]
        | inr was ↦ old.listed t x was host
      ]);
      now = λ t x l is host. is_now t x l is host;
      above = λ t x is. elim is [
        | inl new ↦ elim (issued t x new) [
          | inl k ↦ (let same = k.0 in let up = k.1 in omega (arith, same, up))
          | inr was ↦ old.above t x was
        ]
        | inr was ↦ old.above t x was
      ];
      claimed = λ c. is_claimed c;
    }
      where
        -- one that was issued is of the present epoch, where the host came on the list in it
        was_listed : (t : Token) (x : StayStamp) → Issues a t x ⊎ Issued S t x → t.host ≡ h → Listed S h
        was_listed t x (inl new) host = elim (issued t x new) [
          | inl k ↦ subst (Listed S) host k.2
          | inr was ↦ old.listed t x was host
        ]
        was_listed t x (inr was) host = old.listed t x was host

        is_now : (t : Token) (x : StayStamp) → ListedNow (a ∷ S) h → Issued (a ∷ S) t x → t.host ≡ h
            → t.id.epoch ≡ epoch (a ∷ S)
        is_now t x (inl enlists) is host = absurd (enlists.1 (was_listed t x is host))
        is_now t x (inr l) is host =
            let same : epoch (a ∷ S) ≡ epoch S = epoch_on a S l.1 in
            elim is [
              | inl new ↦ elim (issued t x new) [
                | inl k ↦ k.0 ∙ sym same
                | inr was ↦ old.now t x l.0 was host ∙ sym same
              ]
              | inr was ↦ old.now t x l.0 was host ∙ sym same
            ]

        is_claimed : InEpoch (λ before b. (tokens : List Token) × (b ≡ Admits h tokens)) (a ∷ S)
            → (n : ℕ) × (claim : ReclaimOf) × TookNow (a ∷ S) h n (Reclaim claim)
        is_claimed (inl (ts, q)) =
            let may = (admits h ts q).admits h ts q in (
              may.moves,
              may.claim,
              inr (may.took, λ new. (let z : BeginsEpoch new.0 ≡ Admits h ts = sym new.1 ∙ q in cc)),
            )
        is_claimed (inr c) = let k = old.claimed c.0 in (k.0, k.1, inr (k.2, c.1))

  causes : (c : Cause) (S : List Doing) → Knows S → Knows (after_cause c S)
  causes (Came m) S old =
      on (Took m.host m.epoch m.moves m.body) S (λ k e n b q. absurd (cc)) (λ k ts q. absurd (cc)) old
  causes (Restart line) S old =
      on (BeginsEpoch (suc (epoch S))) S (λ k e n b q. absurd (cc)) (λ k ts q. absurd (cc)) old
  causes Flushed S old = on Flushes S (λ k e n b q. absurd (cc)) (λ k ts q. absurd (cc)) old
  causes (Line line) S old = old
  causes Lapse S old = old
  causes Evict S old = old
  causes (Freight freight) S old = on (Gets freight.server freight.moves freight.body) S (λ k e n b q. absurd (cc)) (λ k ts q. absurd (cc)) old
  causes End S old = old

  decides : (xs : List Applied) (S : List Doing) → Knows S → Knows (appended (deciding xs) S)
  decides [] S old = old
  decides (IsWanted w ∷ xs) S old =
      decides xs (MakesWant w ∷ S) (on (MakesWant w) S (λ k e n b q. absurd (cc)) (λ k ts q. absurd (cc)) old)
  decides (IsDone w ∷ xs) S old =
      decides xs (WritesDown w ∷ S) (on (WritesDown w) S (λ k e n b q. absurd (cc)) (λ k ts q. absurd (cc)) old)
  decides (Replied x ∷ xs) S old = decides xs S old
  decides (Stored k f ss n ∷ xs) S old = decides xs S old
  decides (IsDown k ∷ xs) S old = decides xs S old
  decides (IsMoved move ∷ xs) S old =
      decides xs (Moves move ∷ S) (on (Moves move) S (λ k e n b q. absurd (cc)) (λ k ts q. absurd (cc)) old)

  admits_all : (cs : List Admission) (S : List Doing) → EachInTurn (ServerTokens v) (admitting cs) S → Knows S
      → Knows (appended (admitting cs) S)
  admits_all [] S may old = old
  admits_all (c ∷ cs) S may old =
      admits_all cs (Admits c.host c.tokens ∷ S) may.1
      (on (Admits c.host c.tokens) S (λ k e n b q. absurd (cc)) (λ k ts q. may.0) old)

  sends_all : (ms : List Message) (S : List Doing) → EachInTurn (ServerTokens v) (sending ms) S → 0 < epoch S
      → Knows S
      → Knows (appended (sending ms) S)
  sends_all [] S may above old = old
  sends_all (m ∷ ms) S may above old =
      sends_all ms (Sent m.host m.epoch m.moves m.body ∷ S) may.1 above
      (on (Sent m.host m.epoch m.moves m.body) S (λ k e n b q. (may.0, above)) (λ k ts q. absurd (cc)) old)

  knows_step : (s : Step) (S : List Doing) → ServerStep v S s → 0 < epoch S → Knows S → Knows (after_step s S)
  knows_step s S may above old =
      on (Reserves s.reserved) (after_shipping s S) (λ k e n b q. absurd (cc)) (λ k ts q. absurd (cc))
      (ships_keep Knows (λ T to n b was. on (Puts to n b) T (λ k e n b q. absurd (cc)) (λ k ts q. absurd (cc)) was) s.shipped
      (after_sending s S) (sends_all s.sent (after_admitting s S) may.sends up
      (admits_all s.admitted (after_deciding s S) may.admits
      (decides s.applied (after_cause s.cause S) (causes s.cause S old)))))
    where
      up : 0 < epoch (after_admitting s S)
      up =
          let same : epoch (after_admitting s S) ≡ epoch (after_cause s.cause S) = epoch_before_sending s S in
          let le : epoch S ≤ epoch (after_cause s.cause S) = epoch_caused s.cause S in
          omega (arith, same, le, above)

  knows_first : (first : ℕ) → Knows (BeginsEpoch first ∷ [])
  knows_first first = on (BeginsEpoch first) [] (λ k e n b q. absurd (cc)) (λ k ts q. absurd (cc)) (record {
    listed = λ t x is. elim is [ ];
    now = λ t x l. elim l [ ];
    above = λ t x is. elim is [ ];
    claimed = λ c. elim c [ ];
  })

-- a host that has reclaimed in this epoch has claimed, or came on the list in it
pub reclaimed_by : (S : List Doing) (h : HostId) → HasReclaimed S h
    → InEpoch (λ before a. (tokens : List Token) × (a ≡ Admits h tokens)) S ⊎ ListedNow S h
reclaimed_by [] h r = elim r [ ]
reclaimed_by (a ∷ S) h (inl (inl admits)) = inl (inl admits)
reclaimed_by (a ∷ S) h (inl (inr enlists)) = inr (inl enlists)
reclaimed_by (a ∷ S) h (inr r) = elim (reclaimed_by S h r.0) [
  | inl admits ↦ inl (inr (admits, r.1))
  | inr enlists ↦ inr (inr (enlists, r.1))
]

-- # What a server took its host said

abbrev pub TookIt : List Doing → HostId → ℕ → ℕ → Body → Type 0
TookIt S h e n b = Once (λ before a. a ≡ Took h e n b) S

pub listed_said : (S : List Doing) (h : HostId) → Listed S h → (e n : ℕ) × TookIt S h e n Hello
listed_said [] h l = elim l [ ]
listed_said (a ∷ S) h (inl l) = let k = l.0 in (k.0, k.1, inl k.2)
listed_said (a ∷ S) h (inr l) = let k = listed_said S h l in (k.0, k.1, inr k.2)

module _ (h : HostId) (e n : ℕ) (b : Body) where
  pub took_deciding : (xs : List Applied) (S : List Doing) → TookIt (appended (deciding xs) S) h e n b
      → TookIt S h e n b
  took_deciding [] S o = o
  took_deciding (IsWanted w ∷ xs) S o = elim (took_deciding xs (MakesWant w ∷ S) o) [
    | inl q ↦ absurd (let z : MakesWant w ≡ Took h e n b = q in cc)
    | inr k ↦ k
  ]
  took_deciding (IsDone w ∷ xs) S o = elim (took_deciding xs (WritesDown w ∷ S) o) [
    | inl q ↦ absurd (let z : WritesDown w ≡ Took h e n b = q in cc)
    | inr k ↦ k
  ]
  took_deciding (Replied x ∷ xs) S o = took_deciding xs S o
  took_deciding (Stored k f ss m ∷ xs) S o = took_deciding xs S o
  took_deciding (IsDown k ∷ xs) S o = took_deciding xs S o
  took_deciding (IsMoved move ∷ xs) S o = elim (took_deciding xs (Moves move ∷ S) o) [
    | inl q ↦ absurd (let z : Moves move ≡ Took h e n b = q in cc)
    | inr k ↦ k
  ]

  pub took_admitting : (cs : List Admission) (S : List Doing) → TookIt (appended (admitting cs) S) h e n b
      → TookIt S h e n b
  took_admitting [] S o = o
  took_admitting (c ∷ cs) S o = elim (took_admitting cs (Admits c.host c.tokens ∷ S) o) [
    | inl q ↦ absurd (let z : Admits c.host c.tokens ≡ Took h e n b = q in cc)
    | inr k ↦ k
  ]

  took_sending : (ms : List Message) (S : List Doing) → TookIt (appended (sending ms) S) h e n b → TookIt S h e n b
  took_sending [] S o = o
  took_sending (m ∷ ms) S o = elim (took_sending ms (Sent m.host m.epoch m.moves m.body ∷ S) o) [
    | inl q ↦ absurd (let z : Sent m.host m.epoch m.moves m.body ≡ Took h e n b = q in cc)
    | inr k ↦ k
  ]

  took_cause : (v : ServerId) (past : List Step) (s : Step) (S : List Doing) → CameToServer v past s → (c : Cause)
      → s.cause ≡ c → TookIt (after_cause c S) h e n b → TookIt S h e n b ⊎ Said (steps_of_host h past) v e n b
  took_cause v past s S came (Came m) q (inr o) = inl o
  took_cause v past s S came (Came m) q (inl t) =
      let host : m.host ≡ h = cc in
      let at : m.epoch ≡ e = cc in
      let moves : m.moves ≡ n = cc in
      let body : m.body ≡ b = cc in
      inr (subst (λ (y : HostId × ℕ × ℕ × Body). Said (steps_of_host y.0 past) v y.1 y.2 y.3)
      (λ i. (host i, at i, moves i, body i)) (came m q).2)
  took_cause v past s S came (Restart line) q (inl t) =
      absurd (let z : BeginsEpoch (suc (epoch S)) ≡ Took h e n b = t in cc)
  took_cause v past s S came (Restart line) q (inr o) = inl o
  took_cause v past s S came Flushed q (inl t) = absurd (let z : Flushes ≡ Took h e n b = t in cc)
  took_cause v past s S came Flushed q (inr o) = inl o
  took_cause v past s S came (Line line) q o = inl o
  took_cause v past s S came Lapse q o = inl o
  took_cause v past s S came Evict q o = inl o
  took_cause v past s S came (Freight freight) q (inl t) = absurd (let z : Gets freight.server freight.moves freight.body ≡ Took h e n b = t in cc)
  took_cause v past s S came (Freight freight) q (inr o) = inl o
  took_cause v past s S came End q o = inl o

  took_step : (v : ServerId) (past : List Step) (s : Step) (S : List Doing) → CameToServer v past s
      → TookIt (after_step s S) h e n b → TookIt S h e n b ⊎ Said (steps_of_host h past) v e n b
  took_step v past s S came (inl t) = absurd (let z : Reserves s.reserved ≡ Took h e n b = t in cc)
  took_step v past s S came (inr o) =
      took_cause v past s S came s.cause refl
      (took_deciding s.applied (after_cause s.cause S)
      (took_admitting s.admitted (after_deciding s S) (took_sending s.sent (after_admitting s S)
      (once_ships (λ before a. a ≡ Took h e n b) (λ T to k c q. cc) s.shipped (after_sending s S) o))))

module _ (script : Script) (start : Tree) (firsts : ServerId → ℕ) (real : (v : ServerId) → 0 < firsts v) where
  above_step : (v : ServerId) (past : List Step) (s : Step) (k : Node) → 0 < epoch (doings_of (firsts v) v past)
      → 0 < epoch (acts_after v k s (doings_of (firsts v) v past))
  above_step v past s (Host k) up = up
  above_step v past s (Server k) up =
      if_server (λ (S : List Doing). 0 < epoch S) k v (after_step s (doings_of (firsts v) v past))
      (doings_of (firsts v) v past)
      (λ e. (let le = epoch_after_step s (doings_of (firsts v) v past) in omega (arith, up, le))) up

  pub above_first : (past : List Step) (v : ServerId) → 0 < epoch (doings_of (firsts v) v past)
  above_first [] v = real v
  above_first (s ∷ past) v = above_step v past s s.node (above_first past v)

  knows_at : (h : HostId) (v : ServerId) (k : Node) (past : List Step) (s : Step)
      → StepMeets script start firsts k past s
      → Knows v h (doings_of (firsts v) v past) → Knows v h (acts_after v k s (doings_of (firsts v) v past))
  knows_at h v (Host k) past s m old = old
  knows_at h v (Server k) past s m old =
      if_server (Knows v h) k v (after_step s (doings_of (firsts v) v past)) (doings_of (firsts v) v past)
      (λ e. knows_step v h s (doings_of (firsts v) v past)
      (subst (λ (w : ServerId). ServerStep w (doings_of (firsts w) w past) s) e m.0.tokens) (above_first past v) old)
      old

  pub knows : (past : List Step) → StepsMeet script start firsts past → (v : ServerId) (h : HostId)
      → Knows v h (doings_of (firsts v) v past)
  knows [] run v h = knows_first v h (firsts v)
  knows (s ∷ past) run v h = knows_at h v s.node past s run.1.0 (knows past run.0 v h)

  -- of a server's step: what it took before, or takes now, its host said
  module _ (h : HostId) (e n : ℕ) (b : Body) (v : ServerId) where
    heard_at : (k : Node) (past : List Step) (s : Step) → StepMeets script start firsts k past s
        → (TookIt (doings_of (firsts v) v past) h e n b → Said (steps_of_host h past) v e n b)
        → TookIt (acts_after v k s (doings_of (firsts v) v past)) h e n b
        → Said (own_after h k s (steps_of_host h past)) v e n b
    heard_at (Host k) past s m old took =
        if_host (λ (A : List Step). Said A v e n b) k h (s ∷ steps_of_host h past) (steps_of_host h past)
        (λ q. inr (old took)) (old took)
    heard_at (Server k) past s m old took =
        if_server (λ (S : List Doing). TookIt S h e n b → Said (steps_of_host h past) v e n b) k v
        (after_step s (doings_of (firsts v) v past)) (doings_of (firsts v) v past)
        (λ q t. elim (took_step h e n b v past s (doings_of (firsts v) v past)
        (subst (λ (w : ServerId). CameToServer w past s) q m.1) t) [ inl o ↦ old o | inr said ↦ said ]) old took

    pub heard : (past : List Step) → StepsMeet script start firsts past
        → TookIt (doings_of (firsts v) v past) h e n b → Said (steps_of_host h past) v e n b
    heard [] run (inl t) = absurd (let z : BeginsEpoch (firsts v) ≡ Took h e n b = t in cc)
    heard [] run (inr o) = elim o [ ]
    heard (s ∷ past) run took = heard_at s.node past s run.1.0 (heard past run.0) took
