-- The doings of a server's step, one after the other: each meets the rules of tokens, and they are those of the step.
use Rattle.run_rules.specs.Doings.{after_shipping}
use Rattle.run_rules.specs.Doings.{Doing, Granted, IsNewEpoch, admitting, after_admitting, after_cause, after_deciding}
use Rattle.run_rules.specs.Doings.{after_sending, after_step, deciding, epoch, sending}
use Rattle.run_rules.specs.Doings.Doing.{Gets, Puts}
use Rattle.run_rules.specs.Doings.Doing.{Admits, BeginsEpoch, Flushes, MakesWant, Moves, Reserves, Sent, Took}
use Rattle.run_rules.specs.Doings.Doing.{WritesDown}
use Rattle.run_rules.specs.Messages.{Said}
use Rattle.run_rules.specs.Past.{EachInTurn, appended}
use Rattle.run_rules.specs.ServerTokens.{ServerStep, ServerTokens}
use Rattle.run_rules.specs.declared.applied.Applied.TheVariants.{Done as IsDone, IsDown, Replied, Stored}
use Rattle.run_rules.specs.declared.applied.Applied.TheVariants.{Moves as IsMoved, Wants as IsWanted}
use Rattle.std.proofs.Common.{◌≡◌, ℕ, ◌<◌, suc, List, [], ◌∷◌, ◌++◌, ◌∙◌, false, subst, refl, arith}
use Rattle.std.specs.List.{list_any}
use Rattle.base_types.specs.declared.ids.HostId.{HostId}
use Rattle.base_types.specs.declared.ids.ServerId.{ServerId}
use Rattle.token_types.specs.declared.token.Token.{Token}
use Rattle.message_types.specs.declared.message.Body.{Body}
use Rattle.message_types.specs.declared.message.Message.{Message}
use Rattle.run_rules.specs.declared.applied.Admission.{Admission}
use Rattle.run_rules.specs.declared.applied.Applied.{Applied}
use Rattle.run_rules.specs.declared.step.Cause.{Cause}
use Rattle.run_rules.specs.declared.step.Cause.TheVariants.{End, Evict, Freight, Lapse, Line, Message as Came, Restart}
use Rattle.run_rules.specs.declared.step.Cause.TheVariants.{Flushed}
use Rattle.run_rules.specs.declared.step.Step.{Step}
use Rattle.run_tokens.specs.Unmoved.{MovesNone, MovesOne, is_move}
use Rattle.run_tokens.proofs.Owed.{Owed}
use Rattle.run_tokens.proofs.Invariant.{Alone}
use Rattle.run_tokens.proofs.ServerAct.{served_act, link_act}
use Rattle.run_tokens.proofs.ServerBegin.{served_begin, link_begin}
use Rattle.run_tokens.proofs.Law.{AtServer}
use Rattle.run_rules.specs.Doings.{shipped_by_body, shipping}
use Rattle.run_parts.specs.Doings.{doings, doings_cause}

-- a doing that sends, admits, writes and keeps nothing needs no leave
took_may : (v : ServerId) (S : List Doing) (h : HostId) (e n : ℕ) (b : Body) → ServerTokens v S (Took h e n b)
took_may v S h e n b = record {
  epochs = λ k d m c p. absurd (cc);
  grants = λ k d m w p. absurd (cc);
  dones = λ k d m w p. absurd (cc);
  revokes = λ k d m r i p. absurd (cc);
  revokes_here = λ k d m r p. absurd (cc);
  stamps = λ k d m x r p. absurd (cc);
  gones = λ k d m g p. absurd (cc);
  reclaimed = λ k d m r g p. absurd (cc);
  left_out = λ k d m r i p. absurd (cc);
  admits = λ k ts p. absurd (cc);
  writes = λ w p. absurd (cc);
  writes_once = λ w p. absurd (cc);
  reserves = λ ts t u p. absurd (cc);
}

flush_may : (v : ServerId) (S : List Doing) → ServerTokens v S Flushes
flush_may v S = record {
  epochs = λ k d m c p. absurd (cc);
  grants = λ k d m w p. absurd (cc);
  dones = λ k d m w p. absurd (cc);
  revokes = λ k d m r i p. absurd (cc);
  revokes_here = λ k d m r p. absurd (cc);
  stamps = λ k d m x r p. absurd (cc);
  gones = λ k d m g p. absurd (cc);
  reclaimed = λ k d m r g p. absurd (cc);
  left_out = λ k d m r i p. absurd (cc);
  admits = λ k ts p. absurd (cc);
  writes = λ w p. absurd (cc);
  writes_once = λ w p. absurd (cc);
  reserves = λ ts t u p. absurd (cc);
}

begin_may : (v : ServerId) (S : List Doing) (n : ℕ) → ServerTokens v S (BeginsEpoch n)
begin_may v S n = record {
  epochs = λ k d m c p. absurd (cc);
  grants = λ k d m w p. absurd (cc);
  dones = λ k d m w p. absurd (cc);
  revokes = λ k d m r i p. absurd (cc);
  revokes_here = λ k d m r p. absurd (cc);
  stamps = λ k d m x r p. absurd (cc);
  gones = λ k d m g p. absurd (cc);
  reclaimed = λ k d m r g p. absurd (cc);
  left_out = λ k d m r i p. absurd (cc);
  admits = λ k ts p. absurd (cc);
  writes = λ w p. absurd (cc);
  writes_once = λ w p. absurd (cc);
  reserves = λ ts t u p. absurd (cc);
}

puts_may : (v : ServerId) (S : List Doing) (to : ServerId) (n : ℕ) (b : Body) → ServerTokens v S (Puts to n b)
puts_may v S to n b = record {
  epochs = λ k d m c p. absurd (cc);
  grants = λ k d m w p. absurd (cc);
  dones = λ k d m w p. absurd (cc);
  revokes = λ k d m r i p. absurd (cc);
  revokes_here = λ k d m r p. absurd (cc);
  stamps = λ k d m x r p. absurd (cc);
  gones = λ k d m g p. absurd (cc);
  reclaimed = λ k d m r g p. absurd (cc);
  left_out = λ k d m r i p. absurd (cc);
  admits = λ k ts p. absurd (cc);
  writes = λ w p. absurd (cc);
  writes_once = λ w p. absurd (cc);
  reserves = λ ts t u p. absurd (cc);
}

gets_may : (v : ServerId) (S : List Doing) (from : ServerId) (n : ℕ) (b : Body) → ServerTokens v S (Gets from n b)
gets_may v S from n b = record {
  epochs = λ k d m c p. absurd (cc);
  grants = λ k d m w p. absurd (cc);
  dones = λ k d m w p. absurd (cc);
  revokes = λ k d m r i p. absurd (cc);
  revokes_here = λ k d m r p. absurd (cc);
  stamps = λ k d m x r p. absurd (cc);
  gones = λ k d m g p. absurd (cc);
  reclaimed = λ k d m r g p. absurd (cc);
  left_out = λ k d m r i p. absurd (cc);
  admits = λ k ts p. absurd (cc);
  writes = λ w p. absurd (cc);
  writes_once = λ w p. absurd (cc);
  reserves = λ ts t u p. absurd (cc);
}

abbrev pub IsHeard : (HostId → List Step) → ServerId → Doing → Type 0
IsHeard own_of v a = (h : HostId) (e n : ℕ) (b : Body) → a ≡ Took h e n b → Said (own_of h) v e n b

-- a doing that meets the rules of tokens, and keeps what they keep
pub record Next (own_of : HostId → List Step) (v : ServerId) (S : List Doing) (a : Doing) : Type 0 where
  pub may : ServerTokens v S a
  pub heard : IsHeard own_of v a
  pub next : AtServer own_of v S → AtServer own_of v (a ∷ S)

module _ (own_of : HostId → List Step) (alone : (h : HostId) → Alone (own_of h)) (v : ServerId) where
  act : (S : List Doing) (a : Doing) → ServerTokens v S a → (IsNewEpoch a → ⊥) → (MovesOne a → ⊥)
      → epoch (a ∷ S) ≡ epoch S → IsHeard own_of v a
      → Next own_of v S a
  act S a may quiet still same came = record {
    may = may;
    heard = came;
    next = λ at.
        let owed : (t : Token) → Granted v S t → Owed v S t = λ t g. (at.link t.host).granted_owed t refl g in
        record {
          served = served_act v S a at.served may quiet still same owed;
          link = λ h. link_act h v (own_of h) S a at.served may quiet still same owed (alone h) (at.link h) (came h);
          changes = (at.changes, λ w e old. may.writes_once w e (w.number, omega arith, old));
        };
  }

  sents : (ms : List Message) (S more : List Doing) → EachInTurn (ServerTokens v) (sending ms) S → EachInTurn (Next own_of v) more (appended (sending ms) S)
      → EachInTurn (Next own_of v) (sending ms ++ more) S
  sents [] S more may rest = rest
  sents (m ∷ ms) S more may rest = (
    act S (Sent m.host m.epoch m.moves m.body) may.0 (λ p. let q = p.1 in cc) (λ p. let q = p.1 in cc) refl (λ h e n b p. absurd (cc)),
    sents ms (Sent m.host m.epoch m.moves m.body ∷ S) more may.1 rest,
  )

  ships : (ms : List Message) (S more : List Doing) → EachInTurn (Next own_of v) more (appended (shipping ms) S)
      → EachInTurn (Next own_of v) (shipping ms ++ more) S
  ships [] S more rest = rest
  ships (m ∷ ms) S more rest =
      let a = Puts (shipped_by_body m.body m.server) m.moves m.body in (
        act S a (puts_may v S (shipped_by_body m.body m.server) m.moves m.body) (λ p. let q = p.1 in cc)
            (λ p. let q = p.1 in cc) refl (λ h e n b p. absurd (cc)),
        ships ms (a ∷ S) more rest,
      )

  admits : (cs : List Admission) (S more : List Doing) → EachInTurn (ServerTokens v) (admitting cs) S
      → EachInTurn (Next own_of v) more (appended (admitting cs) S) → EachInTurn (Next own_of v) (admitting cs ++ more) S
  admits [] S more may rest = rest
  admits (c ∷ cs) S more may rest = (
    act S (Admits c.host c.tokens) may.0 (λ p. let q = p.1 in cc) (λ p. let q = p.1 in cc) refl (λ h e n b p. absurd (cc)),
    admits cs (Admits c.host c.tokens ∷ S) more may.1 rest,
  )

  writes : (xs : List Applied) (S more : List Doing) → list_any is_move xs ≡ false
      → EachInTurn (ServerTokens v) (deciding xs) S → EachInTurn (Next own_of v) more (appended (deciding xs) S)
      → EachInTurn (Next own_of v) (deciding xs ++ more) S
  writes [] S more none may rest = rest
  writes (IsWanted x ∷ xs) S more none may rest = (
    act S (MakesWant x) may.0 (λ p. let q = p.1 in cc) (λ p. let q = p.1 in cc) refl (λ h e n b p. absurd (cc)),
    writes xs (MakesWant x ∷ S) more none may.1 rest,
  )
  writes (IsDone x ∷ xs) S more none may rest = (
    act S (WritesDown x) may.0 (λ p. let q = p.1 in cc) (λ p. let q = p.1 in cc) refl (λ h e n b p. absurd (cc)),
    writes xs (WritesDown x ∷ S) more none may.1 rest,
  )
  writes (Replied x ∷ xs) S more none may rest = writes xs S more none may rest
  writes (Stored h f ss n ∷ xs) S more none may rest = writes xs S more none may rest
  writes (IsDown h ∷ xs) S more none may rest = writes xs S more none may rest
  writes (IsMoved move ∷ xs) S more none may rest = absurd (cc)

  begins : (S : List Doing) (n : ℕ) → epoch S < n → Next own_of v S (BeginsEpoch n)
  begins S n up = record {
    may = begin_may v S n;
    heard = λ h e k b p. absurd (cc);
    next = λ at. record {
      served = served_begin v S n up at.served;
      link = λ h. link_begin v S n h (own_of h) up (alone h) (at.link h);
      changes = (at.changes, λ w e. absurd (cc));
    };
  }

  causes : (c : Cause) (S more : List Doing)
      → ((m : Message) → c ≡ Came m → Said (own_of m.host) v m.epoch m.moves m.body)
      → EachInTurn (Next own_of v) more (after_cause c S) → EachInTurn (Next own_of v) (doings_cause c S more) S
  causes (Came m) S more came rest =
      let here = came m refl in (
        act S (Took m.host m.epoch m.moves m.body) (took_may v S m.host m.epoch m.moves m.body) (λ p. let q = p.1 in
            cc) (λ p. let q = p.1 in cc) refl (λ k d n c e. let p : m.host ≡ k = cc in let r : m.epoch ≡ d = cc in let o : m.moves ≡ n = cc in
            let q : m.body ≡ c = cc in subst (λ (x : HostId × ℕ × ℕ × Body). Said (own_of x.0) v x.1 x.2 x.3)
            (λ i. (p i, r i, o i, q i)) here),
        rest,
      )
  causes (Restart line) S more came rest = (begins S (suc (epoch S)) (omega arith), rest)
  causes Flushed S more came rest =
      (act S Flushes (flush_may v S) (λ p. let q = p.1 in cc) (λ p. let q = p.1 in cc) refl (λ k d n c e. absurd (cc)), rest)
  causes (Line line) S more came rest = rest
  causes Lapse S more came rest = rest
  causes Evict S more came rest = rest
  causes (Freight freight) S more came rest =
      (act S (Gets freight.server freight.moves freight.body) (gets_may v S freight.server freight.moves freight.body) (λ p. let q = p.1 in cc) (λ p. let q = p.1 in cc) refl (λ k d n c e. absurd (cc)), rest)
  causes End S more came rest = rest

  pub each_next : (s : Step) (S : List Doing) → MovesNone s → ServerStep v S s
      → ((m : Message) → s.cause ≡ Came m → Said (own_of m.host) v m.epoch m.moves m.body)
      → EachInTurn (Next own_of v) (doings s S) S
  each_next s S none may came =
      causes s.cause S _ came
      (writes s.applied (after_cause s.cause S) _ none may.writes
      (admits s.admitted (after_deciding s S) _ may.admits
      (sents s.sent (after_admitting s S) (shipping s.shipped ++ (Reserves s.reserved ∷ [])) may.sends
      (ships s.shipped (after_sending s S) (Reserves s.reserved ∷ []) (
        act (after_shipping s S) (Reserves s.reserved) may.reserves (λ p. let q = p.1 in cc) (λ p. let q = p.1 in cc) refl (λ h e n b p. absurd (cc)),
        tt,
      )))))

after_ships : (ms : List Message) (S more : List Doing) → appended (shipping ms ++ more) S ≡ appended more (appended (shipping ms) S)
after_ships [] S more = refl
after_ships (m ∷ ms) S more = after_ships ms (Puts (shipped_by_body m.body m.server) m.moves m.body ∷ S) more

after_sents : (ms : List Message) (S more : List Doing) → appended (sending ms ++ more) S ≡ appended more (appended (sending ms) S)
after_sents [] S more = refl
after_sents (m ∷ ms) S more = after_sents ms (Sent m.host m.epoch m.moves m.body ∷ S) more

after_admits : (cs : List Admission) (S more : List Doing)
    → appended (admitting cs ++ more) S ≡ appended more (appended (admitting cs) S)
after_admits [] S more = refl
after_admits (c ∷ cs) S more = after_admits cs (Admits c.host c.tokens ∷ S) more

after_writes : (xs : List Applied) (S more : List Doing)
    → appended (deciding xs ++ more) S ≡ appended more (appended (deciding xs) S)
after_writes [] S more = refl
after_writes (IsWanted x ∷ xs) S more = after_writes xs (MakesWant x ∷ S) more
after_writes (IsDone x ∷ xs) S more = after_writes xs (WritesDown x ∷ S) more
after_writes (Replied x ∷ xs) S more = after_writes xs S more
after_writes (Stored h f ss n ∷ xs) S more = after_writes xs S more
after_writes (IsDown h ∷ xs) S more = after_writes xs S more
after_writes (IsMoved move ∷ xs) S more = after_writes xs (Moves move ∷ S) more

after_causes : (c : Cause) (S more : List Doing) → appended (doings_cause c S more) S ≡ appended more (after_cause c S)
after_causes (Came m) S more = refl
after_causes (Restart line) S more = refl
after_causes Flushed S more = refl
after_causes (Line line) S more = refl
after_causes Lapse S more = refl
after_causes Evict S more = refl
after_causes (Freight freight) S more = refl
after_causes End S more = refl

-- after its doings a step is done
pub after_doings : (s : Step) (S : List Doing) → appended (doings s S) S ≡ after_step s S
after_doings s S =
    after_causes s.cause S _
    ∙ (after_writes s.applied (after_cause s.cause S) _
    ∙ (after_admits s.admitted (after_deciding s S) _ ∙ (after_sents s.sent (after_admitting s S) _ ∙ after_ships s.shipped (after_sending s S) (Reserves s.reserved ∷ []))))
