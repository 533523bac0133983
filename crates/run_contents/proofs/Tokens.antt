-- The tokens that servers grant are sound.
use Rattle.std.proofs.Common.{◌≡◌, ℕ, List, [], ◌∷◌, inl, inr, sym, subst, refl, suc}
use Rattle.base_types.specs.declared.ids.HostId.{HostId}
use Rattle.base_types.specs.declared.ids.Node.{Node}
use Rattle.base_types.specs.declared.ids.Node.TheVariants.{Host, Server}
use Rattle.base_types.specs.declared.ids.ServerId.{ServerId}
use Rattle.tree_answers.specs.declared.tree.Tree.{Tree}
use Rattle.message_types.specs.Soundness.{Brings as BringsSoundly, Each as EachSound, HasRoom, IsBody, IsBrought, IsClaim}
use Rattle.message_types.specs.Soundness.{IsDone as IsDoneSound, IsGrant, IsHost, IsSound, IsToken}
use Rattle.message_types.specs.declared.message.Body.{Body}
use Rattle.message_types.specs.declared.message.Body.TheVariants.{Done, Grant, Reclaim}
use Rattle.message_types.specs.declared.message.Message.{Message}
use Rattle.message_types.specs.declared.telling.Bring.{Bring}
use Rattle.script_lines.specs.declared.script.Script.{Script}
use Rattle.token_types.specs.declared.token.Token.{Token}
use Rattle.run_rules.specs.Doings.{after_shipping}
use Rattle.run_rules.specs.Doings.{Doing, Granted, IsNewlyGranted, admitting, after_admitting, after_cause}
use Rattle.run_rules.specs.Doings.{after_deciding, after_sending, after_step, deciding, doings_of, epoch, sending}
use Rattle.run_rules.specs.Doings.Doing.{Gets, Puts}
use Rattle.run_rules.specs.Doings.Doing.{Admits, BeginsEpoch, Flushes, MakesWant, Moves, Reserves, Sent, Took}
use Rattle.run_rules.specs.Doings.Doing.{WritesDown}
use Rattle.run_rules.specs.Messages.{Said}
use Rattle.run_rules.specs.Past.{EachInTurn, In, appended}
use Rattle.run_rules.specs.Runs.{StepMeets, StepsMeet, firsts_of, past_of}
use Rattle.run_rules.specs.ServerTokens.{MayAdmit, ServerTokens}
use Rattle.run_rules.specs.Steps.{steps_of_host}
use Rattle.run_rules.specs.declared.applied.Applied.TheVariants.{Done as IsDone, IsDown, Replied, Stored}
use Rattle.run_rules.specs.declared.applied.Applied.TheVariants.{Moves as IsMoved, Wants as IsWanted}
use Rattle.run_contents.proofs.Servers.{cause_heard, heard, took_in}
use Rattle.run_contents.proofs.Sound.{said_sound}
use Rattle.run_contents.specs.Tokens.{GrantedAreSound}
use Rattle.run_tokens.proofs.Words.{acts_after, if_server}
use Rattle.run_rules.specs.declared.applied.Admission.{Admission}
use Rattle.run_rules.specs.declared.applied.Applied.{Applied}
use Rattle.run_rules.specs.declared.step.Cause.{Cause}
use Rattle.run_rules.specs.declared.step.Cause.TheVariants.{Evict, Flushed, Freight, Lapse}
use Rattle.run_rules.specs.declared.step.Cause.TheVariants.{Line, Message as Came, Restart}
use Rattle.run_rules.specs.declared.step.Cause.TheVariants.{End}
use Rattle.run_tokens.proofs.Ships.{ships_keep}
use Rattle.run_rules.specs.declared.step.Step.{Step}

one_of : {A : Type 0} (P : A → Type 0) (xs : List A) (x : A) → EachSound P xs → In x xs → P x
one_of P [] x all i = elim i [ ]
one_of P (y ∷ ys) x all (inl e) = subst P (sym e) all.0
one_of P (y ∷ ys) x all (inr i) = one_of P ys x all.1 i

module _ (script : Script) (v : ServerId) where
  abbrev pub Good : Token → Type 0
  Good t = IsHost script.roster t.host × HasRoom t.kind

  abbrev pub AllGood : List Doing → Type 0
  AllGood S = (t : Token) → Granted v S t → Good t

  good_token : (m : Message) → IsSound script.roster m → (t : Token) → IsToken m t → Good t
  good_token m sound t k = (subst (λ (h : HostId). IsHost script.roster h) (sym k.host) sound.host, k.room)

  other : (S : List Doing) (a : Doing) → ((t : Token) → IsNewlyGranted a t → ⊥) → AllGood S → AllGood (a ∷ S)
  other S a never old t (inl n) = absurd (never t n)
  other S a never old t (inr g) = old t g.0

  -- what brings and claims nothing makes nothing granted
  dull : (a : Doing) → ((h : HostId) (e n : ℕ) (b : Body) → a ≡ Sent h e n b → ⊥)
      → ((h : HostId) (ts : List Token) → a ≡ Admits h ts → ⊥) → (t : Token) → IsNewlyGranted a t → ⊥
  dull a no_send no_admit t (inl (mark, issues)) = elim issues.3 [
    | inl g ↦ no_send issues.0 issues.1 mark.moves (Grant g.0) g.1
    | inr d ↦ no_send issues.0 issues.1 mark.moves (Done d.0) d.1
  ]
  dull a no_send no_admit t (inr c) = no_admit t.host c.0 c.1

  same_body : (m : Message) (h : HostId) (e n : ℕ) (b : Body) → Sent m.host m.epoch m.moves m.body ≡ Sent h e n b
      → m.body ≡ b
  same_body m h e n b q = cc

  sends : (S : List Doing) (m : Message) → IsSound script.roster m → AllGood S
      → AllGood (Sent m.host m.epoch m.moves m.body ∷ S)
  sends S m sound old t (inr g) = old t g.0
  sends S m sound old t (inl (inr c)) = absurd (let q = c.1 in cc)
  sends S m sound old t (inl (inl (mark, issues))) = elim issues.3 [
    | inl (g, is, same) ↦ (
        let b : IsGrant m g = subst (λ (z : Body). IsBody script.roster m z)
        (same_body m issues.0 issues.1 mark.moves (Grant g) is) sound.body in
        brought b.brings (subst (λ (y : Bring). In t y.tokens) (sym same) issues.4)
        )
    | inr (d, is, same) ↦ (
        let b : IsDoneSound script.roster m d = subst (λ (z : Body). IsBody script.roster m z)
        (same_body m issues.0 issues.1 mark.moves (Done d) is) sound.body in
        brought b.brings (subst (λ (y : Bring). In t y.tokens) (sym same) issues.4)
        )
  ]
    where
      brought : {w : Bring} → BringsSoundly m w → In t w.tokens → Good t
      brought {w} k i = good_token m sound t (one_of (IsBrought m w.fid) w.tokens t k.tokens i).own

  sents : (ms : List Message) (S : List Doing) → ((m : Message) → In m ms → IsSound script.roster m) → AllGood S
      → AllGood (appended (sending ms) S)
  sents [] S sound old = old
  sents (m ∷ ms) S sound old =
      sents ms (Sent m.host m.epoch m.moves m.body ∷ S) (λ x i. sound x (inr i)) (sends S m (sound m (inl refl)) old)

  writes : (xs : List Applied) (S : List Doing) → AllGood S → AllGood (appended (deciding xs) S)
  writes [] S old = old
  writes (IsWanted x ∷ xs) S old =
      writes xs (MakesWant x ∷ S) (other S (MakesWant x) (dull (MakesWant x) (λ h e n b q. cc) (λ h ts q. cc)) old)
  writes (IsDone x ∷ xs) S old =
      writes xs (WritesDown x ∷ S) (other S (WritesDown x) (dull (WritesDown x) (λ h e n b q. cc) (λ h ts q. cc)) old)
  writes (Replied x ∷ xs) S old = writes xs S old
  writes (Stored h f ss n ∷ xs) S old = writes xs S old
  writes (IsDown h ∷ xs) S old = writes xs S old
  writes (IsMoved move ∷ xs) S old =
      writes xs (Moves move ∷ S) (other S (Moves move) (dull (Moves move) (λ h e n b q. cc) (λ h ts q. cc)) old)

  pub plain : (S : List Doing) (a : Doing) → ((h : HostId) (e n : ℕ) (b : Body) → a ≡ Sent h e n b → ⊥)
      → ((h : HostId) (ts : List Token) → a ≡ Admits h ts → ⊥) → AllGood S → AllGood (a ∷ S)
  plain S a no_send no_admit old = other S a (dull a no_send no_admit) old

  pub causes : (c : Cause) (S : List Doing) → AllGood S → AllGood (after_cause c S)
  causes (Came m) S old = plain S (Took m.host m.epoch m.moves m.body) (λ h e n b q. cc) (λ h ts q. cc) old
  causes (Restart line) S old = plain S (BeginsEpoch (suc (epoch S))) (λ h e n b q. cc) (λ h ts q. cc) old
  causes Flushed S old = plain S Flushes (λ h e n b q. cc) (λ h ts q. cc) old
  causes (Line line) S old = old
  causes Lapse S old = old
  causes Evict S old = old
  causes (Freight freight) S old = plain S (Gets freight.server freight.moves freight.body) (λ h e n b q. cc) (λ h ts q. cc) old
  causes End S old = old

  module _ (start : Tree) (firsts : ServerId → ℕ) (past : List Step) (run : StepsMeet script start firsts past) where
    abbrev AllSaid : List Doing → Type 0
    AllSaid S = (h : HostId) (e n : ℕ) (b : Body) → In (Took h e n b) S → Said (steps_of_host h past) v e n b

    on_said : (S : List Doing) (a : Doing) → ((h : HostId) (e n : ℕ) (b : Body) → Took h e n b ≡ a → ⊥) → AllSaid S
        → AllSaid (a ∷ S)
    on_said S a never old h e n b (inl q) = absurd (never h e n b q)
    on_said S a never old h e n b (inr i) = old h e n b i

    said_written : (xs : List Applied) (S : List Doing) → AllSaid S → AllSaid (appended (deciding xs) S)
    said_written [] S old = old
    said_written (IsWanted x ∷ xs) S old = said_written xs (MakesWant x ∷ S) (on_said S (MakesWant x) (λ h e n b q. cc) old)
    said_written (IsDone x ∷ xs) S old = said_written xs (WritesDown x ∷ S) (on_said S (WritesDown x) (λ h e n b q. cc) old)
    said_written (Replied x ∷ xs) S old = said_written xs S old
    said_written (Stored h f ss n ∷ xs) S old = said_written xs S old
    said_written (IsDown h ∷ xs) S old = said_written xs S old
    said_written (IsMoved move ∷ xs) S old =
        said_written xs (Moves move ∷ S) (on_said S (Moves move) (λ h e n b q. cc) old)

    admits_one : (S : List Doing) (h : HostId) (ts : List Token) → MayAdmit v S h ts → AllSaid S → (t : Token) → In t ts
        → Good t
    admits_one S h ts k said t i =
        let took = took_in S h k.moves (Reclaim k.claim) k.took in
        let m = said_sound script start firsts h v took.0 k.moves (Reclaim k.claim) past run
        (said h took.0 k.moves (Reclaim k.claim) took.1) in
        let b : IsClaim m.message k.claim =
        subst (λ (z : Body). IsBody script.roster m.message z) m.body m.sound.body in
        good_token m.message m.sound t
        (one_of (λ (u : Token). IsToken m.message u) k.claim.tokens t b.tokens (k.sound t i).0)

    admits : (cs : List Admission) (S : List Doing) → EachInTurn (ServerTokens v) (admitting cs) S → AllSaid S → AllGood S
        → AllGood (appended (admitting cs) S)
    admits [] S may said old = old
    admits (c ∷ cs) S may said old =
        admits cs (Admits c.host c.tokens ∷ S) may.1 (on_said S (Admits c.host c.tokens) (λ h e n b q. cc) said) now
      where
        now : AllGood (Admits c.host c.tokens ∷ S)
        now t (inr g) = old t g.0
        now t (inl (inl (mark, issues))) = elim issues.3 [
          | inl g ↦ absurd (let q = g.1 in cc)
          | inr d ↦ absurd (let q = d.1 in cc)
        ]
        now t (inl (inr (ts, is, i))) =
            let same : ts ≡ c.tokens = cc in
            admits_one S c.host c.tokens (may.0.admits c.host c.tokens refl) said t (subst (In t) same i)

    step : (s : Step) → StepMeets script start firsts (Server v) past s
        → ((m : Message) → In m s.sent → IsSound script.roster m) → AllGood (doings_of (firsts v) v past)
        → AllGood (after_step s (doings_of (firsts v) v past))
    step s m sound old =
        let S = doings_of (firsts v) v past in
        let said : AllSaid (after_cause s.cause S) = λ h e n b i.
        cause_heard h e n b script start firsts past run v s m.1 (heard h e n b script start firsts past run v) i in
        plain (after_shipping s S) (Reserves s.reserved) (λ h e n b q. cc) (λ h ts q. cc)
        (ships_keep AllGood (λ T to n b was. plain T (Puts to n b) (λ h e n b q. cc) (λ h ts q. cc) was) s.shipped
        (after_sending s S) (sents s.sent (after_admitting s S) sound
        (admits s.admitted (after_deciding s S) m.0.tokens.admits
        (said_written s.applied (after_cause s.cause S) said)
        (writes s.applied (after_cause s.cause S) (causes s.cause S old)))))

module _ (script : Script) (start : Tree) (firsts : ServerId → ℕ) where
  at_node : (n : Node) (past : List Step) (s : Step) → StepsMeet script start firsts past
      → StepMeets script start firsts n past s → ((m : Message) → In m s.sent → IsSound script.roster m)
      → (v : ServerId) → AllGood script v (doings_of (firsts v) v past)
      → AllGood script v (acts_after v n s (doings_of (firsts v) v past))
  at_node (Host k) past s run m sound v old = old
  at_node (Server k) past s run m sound v old =
      if_server (AllGood script v) k v (after_step s (doings_of (firsts v) v past)) (doings_of (firsts v) v past)
      (λ e. subst (λ w. AllGood script w (doings_of (firsts w) w past)
      → AllGood script w (after_step s (doings_of (firsts w) w past))) e (step script k start firsts past run s m sound) old)
      old

  pub all_good : (past : List Step) → StepsMeet script start firsts past → (v : ServerId)
      → AllGood script v (doings_of (firsts v) v past)
  all_good [] run v =
      plain script v [] (BeginsEpoch (firsts v)) (λ h e n b q. cc) (λ h ts q. cc) (λ t g. elim g [ ])
  all_good (s ∷ past) run v =
      at_node s.node past s run.0 run.1.0 (λ m i. (run.1.3 m i).1) v (all_good past run.0 v)

pub granted_are_sound : GrantedAreSound
granted_are_sound script journal run server t g =
    all_good script run.start (firsts_of journal) (past_of journal) run.steps server t g
