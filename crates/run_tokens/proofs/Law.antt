-- Every run keeps the invariant, and the laws follow from it.
use Rattle.run_tokens.proofs.Words.{acts_after, own_after}
use Rattle.run_rules.specs.Doings.{after_shipping}
use Rattle.run_rules.specs.Doings.{Doing, Granted, HasGoneAway, HasReclaimed, Here, IsApplied, IsNewEpoch, Reserved}
use Rattle.run_rules.specs.Doings.{SentTo, TakesOf, admitting, after_admitting, after_cause, after_deciding}
use Rattle.run_tokens.specs.Unmoved.{MovesNone, MovesOne, is_move}
use Rattle.run_rules.specs.Doings.{after_sending, after_step, deciding, doings_of, epoch, sending}
use Rattle.run_rules.specs.Doings.Doing.{Gets, Puts}
use Rattle.run_rules.specs.Doings.Doing.{Admits, BeginsEpoch, Flushes, MakesWant, Reserves, Sent, Took, WritesDown}
use Rattle.run_rules.specs.HostTokens.{HostTokens}
use Rattle.run_rules.specs.Messages.{ComesIn, HasStopped, Said, home}
use Rattle.run_rules.specs.Past.{EachInTurn, In, appended}
use Rattle.run_rules.specs.ServerTokens.{ServerTokens}
use Rattle.run_rules.specs.Steps.{steps_of_host}
use Rattle.run_rules.specs.Tokens.{Held, Made, number_of}
use Rattle.run_rules.specs.declared.applied.Applied.TheVariants.{Done as IsDone, IsDown, Replied, Stored}
use Rattle.run_rules.specs.declared.applied.Applied.TheVariants.{Moves as IsMoved, Wants as IsWanted}
use Rattle.run_tokens.specs.TokenLaws.{AreAlwaysSafe, ChangesOnce, GivesOnce, IsTokenRun, NoConflict, StepMay}
use Rattle.run_tokens.specs.TokenLaws.{TokensAreSafe, TokensNeverConflict, TookEver, WasApplied}
use Rattle.std.proofs.Common.{◌≡◌, ℕ, ◌<◌, suc, true, false, List, [], ◌∷◌, inl, inr, sym, ◌∙◌, ap, subst, refl, arith}
use Rattle.std.specs.List.{list_any}
use Rattle.base_types.specs.declared.ids.HostId.{HostId}
use Rattle.base_types.specs.declared.ids.ServerId.{ServerId}
use Rattle.base_types.specs.declared.ids.Fid.{Fid}
use Rattle.base_types.specs.declared.ids.Node.{Node}
use Rattle.base_types.specs.declared.ids.Node.TheVariants.{Host, Server}
use Rattle.token_types.specs.declared.token.Token.{Token}
use Rattle.token_types.specs.Conflicts.{conflict}
use Rattle.message_types.specs.declared.message.Body.{Body}
use Rattle.message_types.specs.declared.message.Body.TheVariants.{GiveBack, Reclaimed}
use Rattle.message_types.specs.declared.giving.Give.{Give}
use Rattle.message_types.specs.declared.giving.Reclaimed.{Reclaimed as ReclaimedOf}
use Rattle.message_types.specs.declared.message.Message.{Message}
use Rattle.message_types.specs.declared.giving.AppliedGive.{AppliedGive}
use Rattle.run_rules.specs.declared.applied.Admission.{Admission}
use Rattle.run_rules.specs.declared.applied.Applied.{Applied}
use Rattle.run_rules.specs.declared.step.Cause.{Cause}
use Rattle.run_rules.specs.declared.step.Cause.TheVariants.{End, Evict, Flushed, Freight, Lapse}
use Rattle.run_rules.specs.declared.step.Cause.TheVariants.{Line, Message as Came, Restart}
use Rattle.run_rules.specs.declared.step.Step.{Step}
use Rattle.run_tokens.proofs.Owed.{Owed}
use Rattle.run_tokens.proofs.Words.{of_one, if_host, if_server, made_at}
use Rattle.run_tokens.proofs.Invariant.{Served, Alone, Link}
use Rattle.run_tokens.proofs.HostStep.{alone_step, host_step}
use Rattle.run_tokens.proofs.ServerAct.{served_act, link_act}
use Rattle.run_tokens.proofs.Ships.{ships_keep}
use Rattle.run_tokens.proofs.ServerBegin.{served_begin, link_begin}

-- the law, part by part
abbrev GrantsApart : (ServerId → ℕ) → List Step → Type 0
GrantsApart firsts past =
    (v w : ServerId) (t u : Token) → Granted v (doings_of (firsts v) v past) t → Granted w (doings_of (firsts w) w past) u
    → conflict t u ≡ true → ⊥

abbrev GrantedHere : (ServerId → ℕ) → List Step → Type 0
GrantedHere firsts past =
    (v : ServerId) (t : Token) → Granted v (doings_of (firsts v) v past) t
    → (moves : ℕ) × Here v (doings_of (firsts v) v past) t.fid.fileset moves

abbrev HeldGranted : (ServerId → ℕ) → List Step → Type 0
HeldGranted firsts past =
    (h : HostId) (v : ServerId) (t : Token) → (HasStopped (steps_of_host h past) → ⊥) → Held (steps_of_host h past) t → t.id.server ≡ v
    → HasReclaimed (doings_of (firsts v) v past) h → Granted v (doings_of (firsts v) v past) t

abbrev NoneRefused : (ServerId → ℕ) → List Step → Type 0
NoneRefused firsts past =
    (h : HostId) (v : ServerId) (e n : ℕ) (r : ReclaimedOf) (t : Token)
    → SentTo (doings_of (firsts v) v past) h e n (Reclaimed r) → In t.id r.left_out → Held (steps_of_host h past) t → ⊥

abbrev GivenEnded : (ServerId → ℕ) → List Step → Type 0
GivenEnded firsts past =
    (h : HostId) (v : ServerId) (g : Give) (t : Token) → Made (steps_of_host h past) g → In t.id g.ids → t.host ≡ h
    → IsApplied v (doings_of (firsts v) v past) h (number_of g) → Granted v (doings_of (firsts v) v past) t → ⊥

abbrev NonePassed : (ServerId → ℕ) → List Step → Type 0
NonePassed firsts past =
    (h : HostId) (v : ServerId) (g : Give) → Made (steps_of_host h past) g → IsApplied v (doings_of (firsts v) v past) h (number_of g)
    → TookEver v (doings_of (firsts v) v past) h g.fid.fileset (GiveBack g)

abbrev OnceEach : (ServerId → ℕ) → List Step → Type 0
OnceEach firsts past = (v : ServerId) → GivesOnce v (doings_of (firsts v) v past) × ChangesOnce (doings_of (firsts v) v past)

abbrev ReservedApart : (ServerId → ℕ) → List Step → Type 0
ReservedApart firsts past =
    (v : ServerId) (r t : Token) → Reserved (doings_of (firsts v) v past) r → Granted v (doings_of (firsts v) v past) t
    → conflict t r ≡ true → ⊥

pub record AtServer (own_of : HostId → List Step) (v : ServerId) (S : List Doing) : Type 0 where
  pub served : Served v S
  pub link : (h : HostId) → Link h v (own_of h) S
  pub changes : ChangesOnce S

-- taking a message, a flush and wants need no leave
took_may : (v : ServerId) (S : List Doing) (h : HostId) (e n : ℕ) (b : Body) → ServerTokens v S (Took h e n b)
took_may v S h e n b = record {
  epochs = λ k d m c p. absurd (cc);
  grants = λ k d m w p. absurd (cc);
  dones = λ k d m w p. absurd (cc);
  revokes = λ k d m r i p. absurd (cc);
  revokes_here = λ k d m r p. absurd (cc);
  stamps = λ k d m x r p. absurd (cc);
  gones = λ k d m g p. absurd (cc);
  reclaimed = λ k d m r g p. absurd (cc);
  left_out = λ k d m r i p. absurd (cc);
  admits = λ k ts p. absurd (cc);
  writes = λ w p. absurd (cc);
  writes_once = λ w p. absurd (cc);
  reserves = λ ts t u p. absurd (cc);
}

flush_may : (v : ServerId) (S : List Doing) → ServerTokens v S Flushes
flush_may v S = record {
  epochs = λ k d m c p. absurd (cc);
  grants = λ k d m w p. absurd (cc);
  dones = λ k d m w p. absurd (cc);
  revokes = λ k d m r i p. absurd (cc);
  revokes_here = λ k d m r p. absurd (cc);
  stamps = λ k d m x r p. absurd (cc);
  gones = λ k d m g p. absurd (cc);
  reclaimed = λ k d m r g p. absurd (cc);
  left_out = λ k d m r i p. absurd (cc);
  admits = λ k ts p. absurd (cc);
  writes = λ w p. absurd (cc);
  writes_once = λ w p. absurd (cc);
  reserves = λ ts t u p. absurd (cc);
}

puts_may : (v : ServerId) (S : List Doing) (to : ServerId) (n : ℕ) (b : Body) → ServerTokens v S (Puts to n b)
puts_may v S to n b = record {
  epochs = λ k d m c p. absurd (cc);
  grants = λ k d m w p. absurd (cc);
  dones = λ k d m w p. absurd (cc);
  revokes = λ k d m r i p. absurd (cc);
  revokes_here = λ k d m r p. absurd (cc);
  stamps = λ k d m x r p. absurd (cc);
  gones = λ k d m g p. absurd (cc);
  reclaimed = λ k d m r g p. absurd (cc);
  left_out = λ k d m r i p. absurd (cc);
  admits = λ k ts p. absurd (cc);
  writes = λ w p. absurd (cc);
  writes_once = λ w p. absurd (cc);
  reserves = λ ts t u p. absurd (cc);
}

gets_may : (v : ServerId) (S : List Doing) (from : ServerId) (n : ℕ) (b : Body) → ServerTokens v S (Gets from n b)
gets_may v S from n b = record {
  epochs = λ k d m c p. absurd (cc);
  grants = λ k d m w p. absurd (cc);
  dones = λ k d m w p. absurd (cc);
  revokes = λ k d m r i p. absurd (cc);
  revokes_here = λ k d m r p. absurd (cc);
  stamps = λ k d m x r p. absurd (cc);
  gones = λ k d m g p. absurd (cc);
  reclaimed = λ k d m r g p. absurd (cc);
  left_out = λ k d m r i p. absurd (cc);
  admits = λ k ts p. absurd (cc);
  writes = λ w p. absurd (cc);
  writes_once = λ w p. absurd (cc);
  reserves = λ ts t u p. absurd (cc);
}

module _ (own_of : HostId → List Step) (alone : (h : HostId) → Alone (own_of h)) (v : ServerId) where
  act : (S : List Doing) (a : Doing) → AtServer own_of v S → ServerTokens v S a → (IsNewEpoch a → ⊥) → (MovesOne a → ⊥) → epoch (a ∷ S) ≡ epoch S → ((h : HostId) (e n : ℕ) (b : Body) → a ≡ Took h e n b → Said (own_of h) v e n b) → AtServer own_of v (a ∷ S)
  act S a at may quiet still same came =
      let owed : (t : Token) → Granted v S t → Owed v S t = λ t g. (at.link t.host).granted_owed t refl g in
      record {
        served = served_act v S a at.served may quiet still same owed;
        link = λ h. link_act h v (own_of h) S a at.served may quiet still same owed (alone h) (at.link h) (came h);
        changes = (at.changes, λ w e old. may.writes_once w e (w.number, omega arith, old));
      }

  sends : (ms : List Message) (S : List Doing) → AtServer own_of v S → EachInTurn (ServerTokens v) (sending ms) S → AtServer own_of v (appended (sending ms) S)
  sends [] S at may = at
  sends (m ∷ ms) S at may = sends ms (Sent m.host m.epoch m.moves m.body ∷ S) (act S (Sent m.host m.epoch m.moves m.body) at may.0 (λ p. let q = p.1 in cc) (λ p. let q = p.1 in cc) refl (λ h e n b p. absurd (cc))) may.1

  writes : (xs : List Applied) (S : List Doing) → AtServer own_of v S → EachInTurn (ServerTokens v) (deciding xs) S → list_any is_move xs ≡ false → AtServer own_of v (appended (deciding xs) S)
  writes [] S at may none = at
  writes (IsWanted x ∷ xs) S at may none = writes xs (MakesWant x ∷ S) (act S (MakesWant x) at may.0 (λ p. let q = p.1 in cc) (λ p. let q = p.1 in cc) refl (λ h e n b p. absurd (cc))) may.1 none
  writes (IsDone x ∷ xs) S at may none = writes xs (WritesDown x ∷ S) (act S (WritesDown x) at may.0 (λ p. let q = p.1 in cc) (λ p. let q = p.1 in cc) refl (λ h e n b p. absurd (cc))) may.1 none
  writes (Replied x ∷ xs) S at may none = writes xs S at may none
  writes (Stored h f ss n ∷ xs) S at may none = writes xs S at may none
  writes (IsDown h ∷ xs) S at may none = writes xs S at may none
  writes (IsMoved move ∷ xs) S at may none = absurd (cc)

  admits : (cs : List Admission) (S : List Doing) → AtServer own_of v S → EachInTurn (ServerTokens v) (admitting cs) S → AtServer own_of v (appended (admitting cs) S)
  admits [] S at may = at
  admits (c ∷ cs) S at may = admits cs (Admits c.host c.tokens ∷ S) (act S (Admits c.host c.tokens) at may.0 (λ p. let q = p.1 in cc) (λ p. let q = p.1 in cc) refl (λ h e n b p. absurd (cc))) may.1

  begins : (S : List Doing) (n : ℕ) → epoch S < n → AtServer own_of v S → AtServer own_of v (BeginsEpoch n ∷ S)
  begins S n up at = record { served = served_begin v S n up at.served; link = λ h. link_begin v S n h (own_of h) up (alone h) (at.link h); changes = (at.changes, λ w e. absurd (cc)) }

  takes : (c : Cause) (S : List Doing) → AtServer own_of v S → ((m : Message) → c ≡ Came m → Said (own_of m.host) v m.epoch m.moves m.body) → AtServer own_of v (after_cause c S)
  takes (Came m) S at came =
      let here = came m refl in
      act S (Took m.host m.epoch m.moves m.body) at (took_may v S m.host m.epoch m.moves m.body) (λ p. let q = p.1 in cc) (λ p. let q = p.1 in cc) refl (λ k d n c e. let p : m.host ≡ k = cc in let r : m.epoch ≡ d = cc in let o : m.moves ≡ n = cc in let q : m.body ≡ c = cc in subst (λ (x : HostId × ℕ × ℕ × Body). Said (own_of x.0) v x.1 x.2 x.3) (λ i. (p i, r i, o i, q i)) here)
  takes (Restart line) S at came = begins S (suc (epoch S)) (omega arith) at
  takes Flushed S at came = act S Flushes at (flush_may v S) (λ p. let q = p.1 in cc) (λ p. let q = p.1 in cc) refl (λ k d n c e. absurd (cc))
  takes (Line line) S at came = at
  takes Lapse S at came = at
  takes Evict S at came = at
  takes (Freight freight) S at came = act S (Gets freight.server freight.moves freight.body) at (gets_may v S freight.server freight.moves freight.body) (λ p. let q = p.1 in cc) (λ p. let q = p.1 in cc) refl (λ k d n c e. absurd (cc))
  takes End S at came = at

pub record Whole (own_of : HostId → List Step) (acts_of : ServerId → List Doing) : Type 0 where
  pub alone : (h : HostId) → Alone (own_of h)
  pub at : (v : ServerId) → AtServer own_of v (acts_of v)

-- what was applied counts as applied
was_applied : (v : ServerId) (S : List Doing) (h : HostId) (n : AppliedGive) → WasApplied v S h n → IsApplied v S h n
was_applied v [] h n e = elim e [ ]
was_applied v (a ∷ S) h n (inl (g, p, e)) =
    let files = ap (λ (x : AppliedGive). x.fileset) e in
    inl (g, subst (λ f. TakesOf v S a h f (GiveBack g)) files p.0, files, (let q : g.number ≡ n.number = ap (λ (x : AppliedGive). x.number) e in omega arith))
was_applied v (a ∷ S) h n (inr e) = inr (was_applied v S h n e)

gives_once : (v : ServerId) (S : List Doing) → GivesOnce v S
gives_once v [] = tt
gives_once v (a ∷ S) = (gives_once v S, λ h g p q. p.1 (was_applied v S h (number_of g) q))

module _ (firsts : ServerId → ℕ) where
  step : (n : Node) (past : List Step) (s : Step) → MovesNone s → Whole (λ h. steps_of_host h past) (λ v. doings_of (firsts v) v past) → StepMay firsts n past s → Whole (λ h. own_after h n s (steps_of_host h past)) (λ v. acts_after v n s (doings_of (firsts v) v past))
  step (Host k) past s none kept may = record {
    alone = λ h. if_host Alone k h (s ∷ steps_of_host h past) (steps_of_host h past) (λ e. alone_step (steps_of_host h past) s (kept.alone h) (mine h e)) (kept.alone h);
    at = λ v. record {
      served = (kept.at v).served;
      link = λ h. if_host (λ A. Link h v A (doings_of (firsts v) v past)) k h (s ∷ steps_of_host h past) (steps_of_host h past) (λ e. host_step h (steps_of_host h past) (λ w. doings_of (firsts w) w past) s (λ w. (kept.at w).served) (kept.alone h) (λ w. (kept.at w).link h) (mine h e) (sent h e) v) ((kept.at v).link h);
      changes = (kept.at v).changes;
    };
  }
    where
      mine : (h : HostId) → k ≡ h → HostTokens (steps_of_host h past) s
      mine h e = subst (λ g. HostTokens (steps_of_host g past) s) e may.0

      sent : (h : HostId) → k ≡ h → (w : ServerId) (d n : ℕ) (b : Body) → ComesIn s w d n b → SentTo (doings_of (firsts w) w past) h d n b
      sent h e w d n b (m, cause, at, epoch_is, moves, body) =
          subst (λ (y : ServerId × HostId × ℕ × ℕ × Body). SentTo (doings_of (firsts y.0) y.0 past) y.1 y.2 y.3 y.4) (λ i. (at i, e i, epoch_is i, moves i, body i)) (may.1 m cause).2
  step (Server k) past s none kept may = record {
    alone = kept.alone;
    at = λ v. if_server (λ S. AtServer (λ h. steps_of_host h past) v S) k v (after_step s (doings_of (firsts v) v past)) (doings_of (firsts v) v past) (λ e. subst (λ w. AtServer (λ h. steps_of_host h past) w (after_step s (doings_of (firsts w) w past))) e here) (kept.at v);
  }
    where
      written : AtServer (λ h. steps_of_host h past) k (after_deciding s (doings_of (firsts k) k past))
      written =
          writes (λ h. steps_of_host h past) kept.alone k s.applied (after_cause s.cause (doings_of (firsts k) k past))
          (takes (λ h. steps_of_host h past) kept.alone k s.cause (doings_of (firsts k) k past) (kept.at k) (λ m e. (may.1 m e).2)) may.0.writes none

      sent : AtServer (λ h. steps_of_host h past) k (after_sending s (doings_of (firsts k) k past))
      sent =
          sends (λ h. steps_of_host h past) kept.alone k s.sent (after_admitting s (doings_of (firsts k) k past))
          (admits (λ h. steps_of_host h past) kept.alone k s.admitted (after_deciding s (doings_of (firsts k) k past)) written may.0.admits) may.0.sends

      shipped : AtServer (λ h. steps_of_host h past) k (after_shipping s (doings_of (firsts k) k past))
      shipped =
          ships_keep (AtServer (λ h. steps_of_host h past) k) (λ T to n b was. act (λ h. steps_of_host h past) kept.alone k T
          (Puts to n b) was (puts_may k T to n b) (λ p. let q = p.1 in cc) (λ p. let q = p.1 in cc) refl
          (λ h e m c p. absurd (cc))) s.shipped (after_sending s (doings_of (firsts k) k past)) sent

      here : AtServer (λ h. steps_of_host h past) k (after_step s (doings_of (firsts k) k past))
      here = act (λ h. steps_of_host h past) kept.alone k (after_shipping s (doings_of (firsts k) k past)) (Reserves s.reserved) shipped may.0.reserves (λ p. let q = p.1 in cc) (λ p. let q = p.1 in cc) refl (λ h e n b p. absurd (cc))

  -- before anything has happened
  alone_first : Alone []
  alone_first = record {
    said_made = λ g v e n p. elim p [ ];
    said_epoch = λ v e n b p. elim p [ ];
    said_first = λ g k v e n p. elim p [ ];
    claim_ever = λ v e n c t p. elim p [ ];
    claim_numbers = λ v e n c t p. elim p [ ];
    claim_moves = λ v e n c o p. elim p [ ];
    numbers = λ g k e. elim e [ ];
    from_one = λ g e. elim e [ ];
    bye_asking = λ v fs n e. elim e.2 [ ];
    bye_changing = λ v w fs n e. elim e.2 [ ];
    bye_held = λ t v e. elim e.2 [ ];
    owns = λ t e. elim e [ ];
    holds = λ up t e. elim e [ ];
  }

  served_first : (v : ServerId) → Served v []
  served_first v = record {
    put = λ o. elim o [ ];
    unique = λ t u x y i. elim i [ ];
    told = λ t x i. elim i [ ];
    id = λ t x i. elim i [ ];
    at = λ t x i. elim i [ ];
    issued_epoch = λ t x i. elim i [ ];
    issued_now = λ t x i. elim i [ ];
    owed_issued = λ t o. elim o [ ];
    owed_live = λ t o. elim o [ ];
    owed_granted = λ t o. elim o [ ];
    granted_reclaimed = λ t g. elim g [ ];
    revokes = λ h d n r i e. elim e [ ];
    grants = λ h d n w t e. elim e [ ];
    dones = λ h d n w t e. elim e [ ];
    gones = λ h d n g e. elim e [ ];
    reclaimed = λ h d n r g e. elim e [ ];
    sent_epoch = λ h d n b e. elim e [ ];
    apart = λ t u g. elim g [ ];
    reserved = λ r k. elim k [ ];
  }

  link_first : (h : HostId) (v : ServerId) → Link h v [] []
  link_first h v = record {
    behind = omega arith;
    asked = λ t x i. elim i [ ];
    took = λ n b e. elim e [ ];
    took_of = λ fs b e. elim e [ ];
    took_ever = λ fs b e. elim e [ ];
    known = λ n at e. elim e [ ];
    in_flight = λ t x e. elim e [ ];
    held = λ t at e. elim e [ ];
    ever = λ t at e. elim e [ ];
    left = λ i at e. elim e [ ];
    made_id = λ g i e. elim e [ ];
    given = λ g i at e. elim e [ ];
    returned = λ i g at e. elim e [ ];
    made_once = λ g k i at e. elim e [ ];
    applied_made = λ n e. elim e [ ];
    applied_taken = λ g e. elim e [ ];
    taken = λ g t e. elim e [ ];
    claim_spent = λ c g t k. elim k.said [ ];
    claim_held = λ c t k. elim k.said [ ];
    claim_given = λ c g i k. elim k.said [ ];
    claim_owed = λ c t k. elim k.said [ ];
    granted_owed = λ t mine g. elim g [ ];
    left_out = λ e n r i p. elim p [ ];
    away = λ e. elim e [ ];
  }

  pub always : (past : List Step) → IsTokenRun firsts past → Whole (λ h. steps_of_host h past) (λ v. doings_of (firsts v) v past)
  always [] run = record {
    alone = λ h. alone_first;
    at = λ v. begins (λ h. []) (λ h. alone_first) v [] (firsts v) (run v) (record { served = served_first v; link = λ h. link_first h v; changes = tt });
  }
  always (s ∷ past) run = step s.node past s run.3 (always past run.0) run.1

  module _ (past : List Step) (kept : Whole (λ h. steps_of_host h past) (λ v. doings_of (firsts v) v past)) where
    -- a host that hasn't stopped and holds a token hasn't gone away
    here : (v : ServerId) (g : HostId) → (HasStopped (steps_of_host g past) → ⊥) → (w : Token) → Held (steps_of_host g past) w → HasGoneAway (doings_of (firsts v) v past) g → ⊥
    here v g up w held away = elim (((kept.at v).link g).away away) [ inl d ↦ up d | inr b ↦ (kept.alone g).bye_held w v b ((kept.alone g).owns w held) ]

    placed : (v : ServerId) (t : Token) → Owed v (doings_of (firsts v) v past) t → home t.fid.fileset ≡ v
    placed v t o = let i = (kept.at v).served.owed_issued t o in made_at v (doings_of (firsts v) v past) t.fid.fileset i.0.moves (kept.at v).served.put ((kept.at v).served.at t i.0 i.1)

    -- what two servers owe doesn't conflict
    owed_apart : (v w : ServerId) (t u : Token) → Owed v (doings_of (firsts v) v past) t → Owed w (doings_of (firsts w) w past) u → conflict t u ≡ true → ⊥
    owed_apart v w t u o p c =
        let one : w ≡ v = sym (placed w u p) ∙ (ap (λ (f : Fid). home f.fileset) (sym (of_one t u c)) ∙ placed v t o) in
        (kept.at v).served.apart t u o (subst (λ x. Owed x (doings_of (firsts x) x past) u) one p) c

    owed : (v : ServerId) (t : Token) → Granted v (doings_of (firsts v) v past) t → Owed v (doings_of (firsts v) v past) t
    owed v t g = ((kept.at v).link t.host).granted_owed t refl g

    no_conflict : NoConflict past
    no_conflict h k t u up_h up_k held_t held_u c =
        let x = ((kept.at t.id.server).link h).held t refl ((kept.alone h).owns t held_t) in
        let y = ((kept.at u.id.server).link k).held u refl ((kept.alone k).owns u held_u) in
        owed_apart t.id.server u.id.server t u (x.owed (here t.id.server h up_h t held_t)) (y.owed (here u.id.server k up_k u held_u)) c

    grants_apart : GrantsApart firsts past
    grants_apart v w t u g k = owed_apart v w t u (owed v t g) (owed w u k)

    granted_here : GrantedHere firsts past
    granted_here v t g = let i = (kept.at v).served.owed_issued t (owed v t g) in (i.0.moves, (kept.at v).served.at t i.0 i.1)

    held_granted : HeldGranted firsts past
    held_granted h v t up held at r =
        let x = ((kept.at v).link h).held t at ((kept.alone h).owns t held) in
        (kept.at v).served.owed_granted t (x.owed (here v h up t held)) (subst (HasReclaimed (doings_of (firsts v) v past)) (sym x.host) r)

    none_refused : NoneRefused firsts past
    none_refused h v e n r t sent m held =
        (((kept.at t.id.server).link h).held t refl ((kept.alone h).owns t held)).stays (((kept.at v).link h).left_out e n r t.id sent m)

    given_ended : GivenEnded firsts past
    given_ended h v g t made named mine applied granted = ((kept.at v).link h).taken g t made named mine applied granted

    none_passed : NonePassed firsts past
    none_passed h v g made applied = ((kept.at v).link h).applied_taken g made applied

    once_each : OnceEach firsts past
    once_each v = (gives_once v (doings_of (firsts v) v past), (kept.at v).changes)

    reserved_apart : ReservedApart firsts past
    reserved_apart v r t k g c = ((kept.at v).served.reserved r k).1 t (owed v t g) c

    pub safe : TokensAreSafe firsts past
    safe = record {
      no_conflict = no_conflict;
      grants_apart = grants_apart;
      granted_here = granted_here;
      held_granted = held_granted;
      none_refused = none_refused;
      given_ended = given_ended;
      none_passed = none_passed;
      once_each = once_each;
      reserved_apart = reserved_apart;
    }

  pub always_safe : (past : List Step) → IsTokenRun firsts past → AreAlwaysSafe firsts past
  always_safe [] run = safe [] (always [] run)
  always_safe (s ∷ past) run = (always_safe past run.0, safe (s ∷ past) (always (s ∷ past) run))

pub never_conflict : TokensNeverConflict
never_conflict = always_safe
