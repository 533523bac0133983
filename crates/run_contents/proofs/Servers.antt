-- What servers have sent: each Grant was asked for, and no Done shows a part.
use Rattle.std.proofs.Common.{◌≡◌, ℕ, ◌⊎◌, true, List, [], ◌∷◌, inl, inr, sym, subst, refl, suc}
use Rattle.base_types.specs.declared.ids.HostId.{HostId}
use Rattle.base_types.specs.declared.ids.Node.{Node}
use Rattle.base_types.specs.declared.ids.Node.TheVariants.{Host, Server}
use Rattle.base_types.specs.declared.ids.ServerId.{ServerId}
use Rattle.need_host.specs.Shows.{shows}
use Rattle.tree_answers.specs.declared.tree.Tree.{Tree}
use Rattle.message_types.specs.declared.asking.Fetch.{Fetch as FetchOf}
use Rattle.message_types.specs.declared.message.Body.{Body}
use Rattle.message_types.specs.declared.message.Body.TheVariants.{Done, Fetch, Grant}
use Rattle.message_types.specs.declared.message.Message.{Message}
use Rattle.message_types.specs.declared.telling.Done.{Done as DoneOf}
use Rattle.message_types.specs.declared.telling.Grant.{Grant as GrantOf}
use Rattle.script_lines.specs.declared.script.Script.{Script}
use Rattle.token_types.specs.Conflicts.{need_of}
use Rattle.token_types.specs.declared.token.Token.{Token}
use Rattle.tree_laws.specs.Parts.{Part}
use Rattle.run_rules.specs.Doings.{after_shipping}
use Rattle.run_rules.specs.Doings.{Doing, SentTo, TookNow, admitting, after_admitting, after_cause, after_deciding}
use Rattle.run_rules.specs.Doings.{after_sending, after_step, deciding, doings_of, epoch, sending}
use Rattle.run_rules.specs.Doings.Doing.{Gets, Puts}
use Rattle.run_rules.specs.Doings.Doing.{Admits, BeginsEpoch, Flushes, MakesWant, Moves, Reserves, Sent, Took}
use Rattle.run_rules.specs.Doings.Doing.{WritesDown}
use Rattle.run_rules.specs.Messages.{Said}
use Rattle.run_rules.specs.Past.{In, appended}
use Rattle.run_rules.specs.Runs.{CameToServer, StepMeets, StepsMeet}
use Rattle.run_rules.specs.Steps.{steps_of_host}
use Rattle.run_rules.specs.declared.applied.Applied.TheVariants.{Done as IsDone, IsDown, Replied, Stored}
use Rattle.run_rules.specs.declared.applied.Applied.TheVariants.{Moves as IsMoved, Wants as IsWanted}
use Rattle.run_contents.specs.Laws.{DonesAreBlind, DonesShowNothing, EachSent, GrantsAreAsked, GrantsAtNode}
use Rattle.run_contents.specs.Laws.{GrantsBringNeeds, SentAtNode}
use Rattle.run_tokens.proofs.Words.{acts_after, if_host, if_server, own_after}
use Rattle.run_rules.specs.declared.applied.Admission.{Admission}
use Rattle.run_rules.specs.declared.applied.Applied.{Applied}
use Rattle.run_rules.specs.declared.step.Cause.{Cause}
use Rattle.run_rules.specs.declared.step.Cause.TheVariants.{Evict, Flushed, Freight, Lapse}
use Rattle.run_rules.specs.declared.step.Cause.TheVariants.{Line, Message as Came, Restart}
use Rattle.run_rules.specs.declared.step.Cause.TheVariants.{End}
use Rattle.run_tokens.proofs.Ships.{ships_back, ships_keep}
use Rattle.run_rules.specs.Doings.{shipping}
use Rattle.run_rules.specs.declared.step.Step.{Step}

-- a Fetch that asks for what the Grant brings was taken
abbrev pub IsAskedFor : List Doing → HostId → GrantOf → Type 0
IsAskedFor S h g =
    (f : FetchOf) × (e : ℕ) × (n : ℕ) × In (Took h e n (Fetch f)) S × (f.number ≡ g.bring.number)
    × (f.fid ≡ g.bring.fid) × ((t : Token) → In t g.bring.tokens → In (need_of t) f.needs)

pub record Sensible (S : List Doing) : Type 0 where
  pub grants : (h : HostId) (e n : ℕ) (g : GrantOf) → SentTo S h e n (Grant g) → IsAskedFor S h g
  pub dones : (h : HostId) (e n : ℕ) (d : DoneOf) (t : Token) (p : Part) → SentTo S h e n (Done d)
      → In t d.bring.tokens → shows t.kind p ≡ true → ⊥

later : (S : List Doing) (a : Doing) (h : HostId) (g : GrantOf) → IsAskedFor S h g → IsAskedFor (a ∷ S) h g
later S a h g (f, e, n, i, number, fid, needs) = (f, e, n, inr i, number, fid, needs)

other : (S : List Doing) (a : Doing) → ((h : HostId) (e n : ℕ) (b : Body) → a ≡ Sent h e n b → ⊥) → Sensible S
    → Sensible (a ∷ S)
other S a never old = record {
  grants = λ h e n g q. elim q [
    | inl is ↦ absurd (never h e n (Grant g) is)
    | inr k ↦ later S a h g (old.grants h e n g k)
  ];
  dones = λ h e n d t p q i cov. elim q [
    | inl is ↦ never h e n (Done d) is
    | inr k ↦ old.dones h e n d t p k i cov
  ];
}

pub took_in : (S : List Doing) (h : HostId) (n : ℕ) (b : Body) → TookNow S h n b → (e : ℕ) × In (Took h e n b) S
took_in [] h n b t = elim t [ ]
took_in (a ∷ S) h n b (inl t) = (epoch S, inl (sym t.0))
took_in (a ∷ S) h n b (inr t) = let k = took_in S h n b t.0 in (k.0, inr k.1)

sends : (S : List Doing) (a : Doing) → GrantsAreAsked S a → DonesAreBlind S a → Sensible S → Sensible (a ∷ S)
sends S a asked blind old = record {
  grants = λ h e n g q. elim q [
    | inl is ↦ (
        let (f, k, took, number, fid, needs) = asked h e n g is in
        let i = took_in S h k (Fetch f) took in
        (f, i.0, k, inr i.1, number, fid, needs)
        )
    | inr k ↦ later S a h g (old.grants h e n g k)
  ];
  dones = λ h e n d t p q i cov. elim q [
    | inl is ↦ old.dones h e n d t p (blind h e n p d t is i cov) i cov
    | inr k ↦ old.dones h e n d t p k i cov
  ];
}

sents : (ms : List Message) (S : List Doing) → EachSent GrantsAreAsked ms S → EachSent DonesAreBlind ms S → Sensible S
    → Sensible (appended (sending ms) S)
sents [] S asked blind old = old
sents (m ∷ ms) S asked blind old =
    sents ms (Sent m.host m.epoch m.moves m.body ∷ S) asked.1 blind.1
    (sends S (Sent m.host m.epoch m.moves m.body) asked.0 blind.0 old)

admits : (cs : List Admission) (S : List Doing) → Sensible S → Sensible (appended (admitting cs) S)
admits [] S old = old
admits (c ∷ cs) S old =
    admits cs (Admits c.host c.tokens ∷ S) (other S (Admits c.host c.tokens) (λ h e n b q. cc) old)

writes : (xs : List Applied) (S : List Doing) → Sensible S → Sensible (appended (deciding xs) S)
writes [] S old = old
writes (IsWanted x ∷ xs) S old = writes xs (MakesWant x ∷ S) (other S (MakesWant x) (λ h e n b q. cc) old)
writes (IsDone x ∷ xs) S old = writes xs (WritesDown x ∷ S) (other S (WritesDown x) (λ h e n b q. cc) old)
writes (Replied x ∷ xs) S old = writes xs S old
writes (Stored h f ss n ∷ xs) S old = writes xs S old
writes (IsDown h ∷ xs) S old = writes xs S old
writes (IsMoved move ∷ xs) S old = writes xs (Moves move ∷ S) (other S (Moves move) (λ h e n b q. cc) old)

causes : (c : Cause) (S : List Doing) → Sensible S → Sensible (after_cause c S)
causes (Came m) S old = other S (Took m.host m.epoch m.moves m.body) (λ h e n b q. cc) old
causes (Restart line) S old = other S (BeginsEpoch (suc (epoch S))) (λ h e n b q. cc) old
causes Flushed S old = other S Flushes (λ h e n b q. cc) old
causes (Line line) S old = old
causes Lapse S old = old
causes Evict S old = old
causes (Freight freight) S old = other S (Gets freight.server freight.moves freight.body) (λ h e n b q. cc) old
causes End S old = old

module _ (firsts : ServerId → ℕ) where
  node : (n : Node) (past : List Step) (s : Step) → GrantsAtNode firsts n past s → SentAtNode firsts n past s
      → ((v : ServerId) → Sensible (doings_of (firsts v) v past)) → (v : ServerId)
      → Sensible (acts_after v n s (doings_of (firsts v) v past))
  node (Host k) past s asked blind old v = old v
  node (Server k) past s asked blind old v =
      if_server Sensible k v (after_step s (doings_of (firsts v) v past)) (doings_of (firsts v) v past)
      (λ e. subst (λ w. Sensible (after_step s (doings_of (firsts w) w past))) e
      (other (after_shipping s (doings_of (firsts k) k past)) (Reserves s.reserved) (λ h e n b q. cc)
      (ships_keep Sensible (λ T to n b was. other T (Puts to n b) (λ h e n b q. cc) was) s.shipped
      (after_sending s (doings_of (firsts k) k past)) (sents s.sent (after_admitting s (doings_of (firsts k) k past)) asked blind
      (admits s.admitted (after_deciding s (doings_of (firsts k) k past))
      (writes s.applied (after_cause s.cause (doings_of (firsts k) k past))
      (causes s.cause (doings_of (firsts k) k past) (old k)))))))) (old v)

  pub sensible : (past : List Step) → GrantsBringNeeds firsts past → DonesShowNothing firsts past → (v : ServerId)
      → Sensible (doings_of (firsts v) v past)
  sensible [] asked blind v =
      other [] (BeginsEpoch (firsts v)) (λ h e n b q. cc)
      (record { grants = λ h e n g q. elim q [ ]; dones = λ h e n d t p q. elim q [ ] })
  sensible (s ∷ past) asked blind v = node s.node past s asked.1 blind.1 (sensible past asked.0 blind.0) v

-- what a server took its host said
module _ (h : HostId) (e n : ℕ) (b : Body) where
  not_sent : (ms : List Message) (S : List Doing) → In (Took h e n b) (appended (sending ms) S) → In (Took h e n b) S
  not_sent [] S i = i
  not_sent (m ∷ ms) S i = elim (not_sent ms (Sent m.host m.epoch m.moves m.body ∷ S) i) [
    | inl q ↦ absurd (cc)
    | inr k ↦ k
  ]

  not_shipped : (ms : List Message) (S : List Doing) → In (Took h e n b) (appended (shipping ms) S) → In (Took h e n b) S
  not_shipped = ships_back (λ T. In (Took h e n b) T) (λ T to k c i. elim i [ inl q ↦ absurd (cc) | inr j ↦ j ])

  not_admitted : (cs : List Admission) (S : List Doing) → In (Took h e n b) (appended (admitting cs) S) → In (Took h e n b) S
  not_admitted [] S i = i
  not_admitted (c ∷ cs) S i = elim (not_admitted cs (Admits c.host c.tokens ∷ S) i) [
    | inl q ↦ absurd (cc)
    | inr k ↦ k
  ]

  not_written : (xs : List Applied) (S : List Doing) → In (Took h e n b) (appended (deciding xs) S) → In (Took h e n b) S
  not_written [] S i = i
  not_written (IsWanted x ∷ xs) S i = elim (not_written xs (MakesWant x ∷ S) i) [ inl q ↦ absurd (cc) | inr k ↦ k ]
  not_written (IsDone x ∷ xs) S i = elim (not_written xs (WritesDown x ∷ S) i) [ inl q ↦ absurd (cc) | inr k ↦ k ]
  not_written (Replied x ∷ xs) S i = not_written xs S i
  not_written (Stored k f ss l ∷ xs) S i = not_written xs S i
  not_written (IsDown k ∷ xs) S i = not_written xs S i
  not_written (IsMoved move ∷ xs) S i = elim (not_written xs (Moves move ∷ S) i) [ inl q ↦ absurd (cc) | inr k ↦ k ]

  by_cause : (c : Cause) (S : List Doing) → In (Took h e n b) (after_cause c S)
      → ((m : Message) × (c ≡ Came m) × (Took h e n b ≡ Took m.host m.epoch m.moves m.body)) ⊎ In (Took h e n b) S
  by_cause (Came m) S (inl q) = inl (m, refl, q)
  by_cause (Came m) S (inr i) = inr i
  by_cause (Restart line) S (inl q) = absurd (cc)
  by_cause (Restart line) S (inr i) = inr i
  by_cause Flushed S (inl q) = absurd (cc)
  by_cause Flushed S (inr i) = inr i
  by_cause (Line line) S i = inr i
  by_cause Lapse S i = inr i
  by_cause Evict S i = inr i
  by_cause (Freight freight) S (inl q) = absurd (cc)
  by_cause (Freight freight) S (inr i) = inr i
  by_cause End S i = inr i

  in_step : (s : Step) (S : List Doing) → In (Took h e n b) (after_step s S)
      → ((m : Message) × (s.cause ≡ Came m) × (Took h e n b ≡ Took m.host m.epoch m.moves m.body))
      ⊎ In (Took h e n b) S
  in_step s S (inl q) = absurd (cc)
  in_step s S (inr i) =
      by_cause s.cause S (not_written s.applied (after_cause s.cause S)
      (not_admitted s.admitted (after_deciding s S) (not_sent s.sent (after_admitting s S)
      (not_shipped s.shipped (after_sending s S) i))))

  said_on : (k : Node) (s : Step) (A : List Step) (v : ServerId) → Said A v e n b → Said (own_after h k s A) v e n b
  said_on (Host k) s A v q = if_host (λ L. Said L v e n b) k h (s ∷ A) A (λ _. inr q) q
  said_on (Server k) s A v q = q

  module _ (script : Script) (start : Tree) (firsts : ServerId → ℕ) where
    -- so did what the cause of a step is
    pub cause_heard : (past : List Step) → StepsMeet script start firsts past → (v : ServerId) (s : Step)
        → CameToServer v past s → (old : In (Took h e n b) (doings_of (firsts v) v past) → Said (steps_of_host h past) v e n b)
        → In (Took h e n b) (after_cause s.cause (doings_of (firsts v) v past)) → Said (steps_of_host h past) v e n b
    cause_heard past run v s came old i =
        elim (by_cause s.cause (doings_of (firsts v) v past) i) [
          | inr q ↦ old q
          | inl (x, cause, same) ↦ (
              let said = (came x cause).2 in
              let a : x.host ≡ h = cc in
              let c : x.epoch ≡ e = cc in
              let d : x.moves ≡ n = cc in
              let f : x.body ≡ b = cc in
              subst (λ (z : HostId × ℕ × ℕ × Body). Said (steps_of_host z.0 past) v z.1 z.2 z.3) (λ i. (a i, c i, d i, f i)) said
              )
        ]

    heard_at : (k : Node) (past : List Step) (s : Step) (v : ServerId) → StepMeets script start firsts k past s
        → (In (Took h e n b) (doings_of (firsts v) v past) → Said (steps_of_host h past) v e n b)
        → In (Took h e n b) (acts_after v k s (doings_of (firsts v) v past)) → Said (steps_of_host h past) v e n b
    heard_at (Host k) past s v m old i = old i
    heard_at (Server k) past s v m old i =
        if_server (λ S. In (Took h e n b) S → Said (steps_of_host h past) v e n b) k v
        (after_step s (doings_of (firsts v) v past)) (doings_of (firsts v) v past) now old i
      where
        now : k ≡ v → In (Took h e n b) (after_step s (doings_of (firsts v) v past)) → Said (steps_of_host h past) v e n b
        now one j = elim (in_step s (doings_of (firsts v) v past) j) [
          | inr q ↦ old q
          | inl (x, cause, same) ↦ (
              let said = (m.1 x cause).2 in
              let a : x.host ≡ h = cc in
              let c : x.epoch ≡ e = cc in
              let d : x.moves ≡ n = cc in
              let f : x.body ≡ b = cc in
              subst (λ (z : HostId × ServerId × ℕ × ℕ × Body). Said (steps_of_host z.0 past) z.1 z.2 z.3 z.4)
              (λ i. (a i, one i, c i, d i, f i)) said
              )
        ]

    pub heard : (past : List Step) → StepsMeet script start firsts past → (v : ServerId)
        → In (Took h e n b) (doings_of (firsts v) v past) → Said (steps_of_host h past) v e n b
    heard [] run v (inl q) = absurd (cc)
    heard [] run v (inr i) = elim i [ ]
    heard (s ∷ past) run v i =
        said_on s.node s (steps_of_host h past) v (heard_at s.node past s v run.1.0 (heard past run.0 v) i)
