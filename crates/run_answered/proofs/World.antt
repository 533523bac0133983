-- What is so of the hosts and servers of a run.
use Rattle.std.proofs.Common.{List, ap, arith, inl, inr, refl, subst, suc, sym, ℕ, ◌<◌, ◌≤◌, ◌∙◌, ◌∷◌, ◌≡◌}
use Rattle.std.specs.Prelude.{[]}
use Rattle.base_types.specs.declared.ids.HostId.{HostId}
use Rattle.base_types.specs.declared.ids.Node.{Node}
use Rattle.base_types.specs.declared.ids.Node.TheVariants.{Host, Server}
use Rattle.base_types.specs.declared.ids.ServerId.{ServerId}
use Rattle.tree_answers.specs.declared.tree.Tree.{Tree}
use Rattle.message_types.specs.declared.asking.Change.{Change as ChangeOf}
use Rattle.message_types.specs.declared.message.Body.{Body}
use Rattle.message_types.specs.declared.message.Body.TheVariants.{Change}
use Rattle.message_types.specs.declared.message.Message.{Message}
use Rattle.script_lines.specs.declared.script.Script.{Script}
use Rattle.run_answered.proofs.Back.{back_admitting, back_deciding, back_sending}
use Rattle.run_contents.proofs.Calls.{grows, open_last}
use Rattle.run_answered.proofs.Told.{Told, WrittenIn, step_told, told_first}
use Rattle.run_rules.specs.Doings.{Doing, TookNow, admitting, after_admitting, after_cause, after_deciding, after_step}
use Rattle.run_rules.specs.Doings.{deciding, doings_of, epoch, sending}
use Rattle.run_rules.specs.Doings.Doing.{Gets}
use Rattle.run_rules.specs.Doings.Doing.{Admits, BeginsEpoch, Flushes, MakesWant, Moves, Reserves, Sent, Took}
use Rattle.run_rules.specs.Doings.Doing.{WritesDown}
use Rattle.run_rules.specs.Messages.{Said}
use Rattle.run_rules.specs.Past.{EachInTurn, Once, appended}
use Rattle.run_rules.specs.Runs.{CameToServer, StepMeets, StepsMeet}
use Rattle.run_rules.specs.ServerTokens.{ServerTokens}
use Rattle.run_rules.specs.Steps.{steps_of_host, steps_of_server}
use Rattle.run_rules.specs.Tokens.{calls_begun}
use Rattle.run_rules.specs.declared.applied.Applied.TheVariants.{Done as IsDone, IsDown, Replied, Stored}
use Rattle.run_rules.specs.declared.applied.Applied.TheVariants.{Moves as IsMoved, Wants as IsWanted}
use Rattle.run_contents.specs.Steps.{HostRun}
use Rattle.run_tokens.proofs.Words.{acts_after, if_host, if_server, own_after}
use Rattle.run_rules.specs.declared.applied.Admission.{Admission}
use Rattle.run_rules.specs.declared.applied.Applied.{Applied}
use Rattle.run_rules.specs.declared.applied.Written.{Written}
use Rattle.run_rules.specs.declared.step.Cause.{Cause}
use Rattle.run_rules.specs.declared.step.Cause.TheVariants.{End, Evict, Flushed, Freight, Lapse, Line, Message as Came}
use Rattle.run_rules.specs.declared.step.Cause.TheVariants.{Restart}
use Rattle.run_rules.specs.Doings.Doing.{Puts}
use Rattle.run_tokens.proofs.Ships.{once_ships, ships_keep}
use Rattle.run_rules.specs.Doings.{after_sending}
use Rattle.run_rules.specs.declared.step.Step.{Step}

-- it was written down; this was taken
abbrev pub Wrote : List Doing → Written → Type 0
Wrote S w = Once (λ before a. a ≡ WritesDown w) S

abbrev pub TookIt : List Doing → HostId → ℕ → ℕ → Body → Type 0
TookIt S h e n b = Once (λ before a. a ≡ Took h e n b) S

-- what was written down was asked for, in the epoch in which it was written down
pub record AskedSo (S : List Doing) (w : Written) : Type 0 where
  pub change : ChangeOf
  pub in_epoch : ℕ
  pub moves : ℕ
  pub written : WrittenIn S w in_epoch
  pub took : TookIt S w.answer.host in_epoch moves (Change change)
  pub fileset : change.fileset ≡ w.fileset
  pub number : change.number ≡ w.number
  pub k : change.k ≡ w.answer.k
  pub call : change.call ≡ w.answer.call

pub epoch_on : (a : Doing) (S : List Doing) → ((e : ℕ) → a ≡ BeginsEpoch e → ⊥) → epoch (a ∷ S) ≡ epoch S
epoch_on (BeginsEpoch e) S none = absurd (none e refl)
epoch_on (Took h e n b) S none = refl
epoch_on Flushes S none = refl
epoch_on (MakesWant w) S none = refl
epoch_on (WritesDown w) S none = refl
epoch_on (Admits h ts) S none = refl
epoch_on (Sent h e n b) S none = refl
epoch_on (Reserves ts) S none = refl
epoch_on (Moves move) S none = refl
epoch_on (Gets from n b) S none = refl
epoch_on (Puts to n b) S none = refl

pub took_now : (S : List Doing) (h : HostId) (n : ℕ) (b : Body) → TookNow S h n b → TookIt S h (epoch S) n b
took_now [] h n b t = elim t [ ]
took_now (a ∷ S) h n b (inl t) =
    let same = epoch_on a S (λ e q. let z : BeginsEpoch e ≡ Took h (epoch S) n b = sym q ∙ t.0 in cc) in
    inl (t.0 ∙ ap (λ (e : ℕ). Took h e n b) (sym same))
took_now (a ∷ S) h n b (inr t) =
    let same = epoch_on a S (λ e q. t.1 (e, q)) in
    inr (subst (λ (e : ℕ). TookIt S h e n b) (sym same) (took_now S h n b t.0))

abbrev pub AllAsked : List Doing → Type 0
AllAsked S = (w : Written) → Wrote S w → AskedSo S w

asked_on : (a : Doing) (S : List Doing) (w : Written) → AskedSo S w → AskedSo (a ∷ S) w
asked_on a S w k = record {
  change = k.change;
  in_epoch = k.in_epoch;
  moves = k.moves;
  written = inr k.written;
  took = inr k.took;
  fileset = k.fileset;
  number = k.number;
  k = k.k;
  call = k.call;
}

on : (a : Doing) (S : List Doing) → ((w : Written) → a ≡ WritesDown w → ⊥) → AllAsked S → AllAsked (a ∷ S)
on a S none old w (inl q) = absurd (none w q)
on a S none old w (inr o) = asked_on a S w (old w o)

write : (v : ServerId) (x : Written) (S : List Doing) → ServerTokens v S (WritesDown x) → AllAsked S
    → AllAsked (WritesDown x ∷ S)
write v x S may old w (inr o) = asked_on (WritesDown x) S w (old w o)
write v x S may old w (inl q) =
    let k = may.writes w q in
    record {
      change = k.0;
      in_epoch = epoch S;
      moves = k.1;
      written = inl (q, refl);
      took = inr (took_now S w.answer.host k.1 (Change k.0) k.2);
      fileset = k.3;
      number = k.4;
      k = k.5;
      call = k.6;
    }

asked_causes : (c : Cause) (S : List Doing) → AllAsked S → AllAsked (after_cause c S)
asked_causes (Came m) S old = on (Took m.host m.epoch m.moves m.body) S (λ w e. cc) old
asked_causes (Restart line) S old = on (BeginsEpoch (suc (epoch S))) S (λ w e. cc) old
asked_causes Flushed S old = on Flushes S (λ w e. cc) old
asked_causes (Line line) S old = old
asked_causes Lapse S old = old
asked_causes Evict S old = old
asked_causes (Freight freight) S old = on (Gets freight.server freight.moves freight.body) S (λ w e. cc) old
asked_causes End S old = old

asked_decides : (v : ServerId) (xs : List Applied) (S : List Doing) → EachInTurn (ServerTokens v) (deciding xs) S
    → AllAsked S
    → AllAsked (appended (deciding xs) S)
asked_decides v [] S may old = old
asked_decides v (IsWanted x ∷ xs) S may old =
    asked_decides v xs (MakesWant x ∷ S) may.1 (on (MakesWant x) S (λ w e. cc) old)
asked_decides v (IsDone x ∷ xs) S may old =
    asked_decides v xs (WritesDown x ∷ S) may.1 (write v x S may.0 old)
asked_decides v (Replied x ∷ xs) S may old = asked_decides v xs S may old
asked_decides v (Stored h f ss n ∷ xs) S may old = asked_decides v xs S may old
asked_decides v (IsDown h ∷ xs) S may old = asked_decides v xs S may old
asked_decides v (IsMoved move ∷ xs) S may old =
    asked_decides v xs (Moves move ∷ S) may.1 (on (Moves move) S (λ w e. cc) old)

asked_admits : (cs : List Admission) (S : List Doing) → AllAsked S → AllAsked (appended (admitting cs) S)
asked_admits [] S old = old
asked_admits (c ∷ cs) S old =
    asked_admits cs (Admits c.host c.tokens ∷ S) (on (Admits c.host c.tokens) S (λ w e. cc) old)

asked_sends : (ms : List Message) (S : List Doing) → AllAsked S → AllAsked (appended (sending ms) S)
asked_sends [] S old = old
asked_sends (m ∷ ms) S old =
    asked_sends ms (Sent m.host m.epoch m.moves m.body ∷ S)
    (on (Sent m.host m.epoch m.moves m.body) S (λ w e. cc) old)

step_asked : (v : ServerId) (s : Step) (S : List Doing)
    → EachInTurn (ServerTokens v) (deciding s.applied) (after_cause s.cause S) → AllAsked S → AllAsked (after_step s S)
step_asked v s S may old =
    on (Reserves s.reserved) _ (λ w e. cc)
    (ships_keep AllAsked (λ T to n b was. on (Puts to n b) T (λ w e. cc) was) s.shipped (after_sending s S)
    (asked_sends s.sent (after_admitting s S) (asked_admits s.admitted (after_deciding s S)
    (asked_decides v s.applied (after_cause s.cause S) may (asked_causes s.cause S old)))))

pub server_of : (a b : ServerId) → a.0 ≡ b.0 → a ≡ b
server_of a b e = ap (λ (n : ℕ). record { 0 = n }) e

-- of a host's Changes
module _ (script : Script) (host : HostId) where
  -- they are of calls that it has begun
  pub said_begun : (A : List Step) → HostRun script host A → (v : ServerId) (e n : ℕ) (c : ChangeOf)
      → Said A v e n (Change c) → c.k ≤ calls_begun A
  said_begun [] run v e n c said = elim said [ ]
  said_begun (s ∷ A) run v e n c (inr said) = grows script host A s run.1 c.k (said_begun A run.0 v e n c said)
  said_begun (s ∷ A) run v e n c (inl sends) = elim (run.1.asks.changes v e n c sends) [
    | inl again ↦ (
        let has = again.0 in
        grows script host A s run.1 c.k (said_begun A run.0 has.0 has.1 has.2 c has.3)
        )
    | inr new ↦ (
        let last = open_last script host (s ∷ A) run (record { k = c.k; call = c.call }) new.is_open in
        omega (arith, last)
        )
  ]

module _ (script : Script) (start : Tree) (firsts : ServerId → ℕ) (real : (v : ServerId) → 0 < firsts v) where
  -- of each server's doings
  told_step : (k : Node) (past : List Step) (s : Step) → StepMeets script start firsts k past s
      → ((v : ServerId) → Told (doings_of (firsts v) v past)) → (v : ServerId)
      → Told (acts_after v k s (doings_of (firsts v) v past))
  told_step (Host k) past s m old v = old v
  told_step (Server k) past s m old v =
      if_server Told k v (after_step s (doings_of (firsts v) v past)) (doings_of (firsts v) v past)
      (λ e. subst (λ (w : ServerId). Told (after_step s (doings_of (firsts w) w past))) e
      (step_told script start k (steps_of_server k past) (doings_of (firsts k) k past) s m.0 (old k))) (old v)

  pub all_told : (past : List Step) → StepsMeet script start firsts past → (v : ServerId)
      → Told (doings_of (firsts v) v past)
  all_told [] run v = told_first (firsts v)
  all_told (s ∷ past) run v = told_step s.node past s run.1.0 (all_told past run.0) v

  asked_step : (k : Node) (past : List Step) (s : Step) → StepMeets script start firsts k past s
      → ((v : ServerId) → AllAsked (doings_of (firsts v) v past)) → (v : ServerId)
      → AllAsked (acts_after v k s (doings_of (firsts v) v past))
  asked_step (Host k) past s m old v = old v
  asked_step (Server k) past s m old v =
      if_server AllAsked k v (after_step s (doings_of (firsts v) v past)) (doings_of (firsts v) v past)
      (λ e. subst (λ (w : ServerId). AllAsked (after_step s (doings_of (firsts w) w past))) e
      (step_asked k s (doings_of (firsts k) k past) m.0.tokens.writes (old k))) (old v)

  pub all_asked : (past : List Step) → StepsMeet script start firsts past → (v : ServerId)
      → AllAsked (doings_of (firsts v) v past)
  all_asked [] run v = on (BeginsEpoch (firsts v)) [] (λ w e. cc) (λ w o. elim o [ ])
  all_asked (s ∷ past) run v = asked_step s.node past s run.1.0 (all_asked past run.0) v

  -- what a server took its host said
  module _ (h : HostId) (e n : ℕ) (b : Body) where
    pub cause_heard : (v : ServerId) (past : List Step) (s : Step) (S : List Doing) → CameToServer v past s
        → (TookIt S h e n b → Said (steps_of_host h past) v e n b) → TookIt (after_cause s.cause S) h e n b
        → Said (steps_of_host h past) v e n b
    cause_heard v past s S came old took = go s.cause refl took
      where
        go : (c : Cause) → s.cause ≡ c → TookIt (after_cause c S) h e n b → Said (steps_of_host h past) v e n b
        go (Came m) q (inr o) = old o
        go (Came m) q (inl t) =
            let host : m.host ≡ h = cc in
            let at : m.epoch ≡ e = cc in
            let moves : m.moves ≡ n = cc in
            let body : m.body ≡ b = cc in
            subst (λ (y : HostId × ℕ × ℕ × Body). Said (steps_of_host y.0 past) v y.1 y.2 y.3)
            (λ i. (host i, at i, moves i, body i)) (came m q).2
        go (Restart line) q (inl t) = absurd (let z : BeginsEpoch (suc (epoch S)) ≡ Took h e n b = t in cc)
        go (Restart line) q (inr o) = old o
        go Flushed q (inl t) = absurd (let z : Flushes ≡ Took h e n b = t in cc)
        go Flushed q (inr o) = old o
        go (Line line) q o = old o
        go Lapse q o = old o
        go Evict q o = old o
        go (Freight freight) q (inl t) = absurd (let z : Gets freight.server freight.moves freight.body ≡ Took h e n b = t in cc)
        go (Freight freight) q (inr o) = old o
        go End q o = old o

    step_heard : (v : ServerId) (past : List Step) (s : Step) (S : List Doing) → CameToServer v past s
        → (TookIt S h e n b → Said (steps_of_host h past) v e n b) → TookIt (after_step s S) h e n b
        → Said (steps_of_host h past) v e n b
    step_heard v past s S came old (inl t) = absurd (let z : Reserves s.reserved ≡ Took h e n b = t in cc)
    step_heard v past s S came old (inr o) =
        cause_heard v past s S came old
        (back_deciding (λ before a. a ≡ Took h e n b) (λ before w t. cc) (λ before w t. cc) (λ before w t. cc) s.applied
        (after_cause s.cause S)
        (back_admitting (λ before a. a ≡ Took h e n b) (λ before g ts t. cc) s.admitted (after_deciding s S)
        (back_sending (λ before a. a ≡ Took h e n b) (λ before g d m c t. cc) s.sent (after_admitting s S)
        (once_ships (λ before a. a ≡ Took h e n b) (λ T to k c q. cc) s.shipped (after_sending s S) o))))

    heard_step : (v : ServerId) (k : Node) (past : List Step) (s : Step) → StepMeets script start firsts k past s
        → (TookIt (doings_of (firsts v) v past) h e n b → Said (steps_of_host h past) v e n b)
        → TookIt (acts_after v k s (doings_of (firsts v) v past)) h e n b
        → Said (own_after h k s (steps_of_host h past)) v e n b
    heard_step v (Host k) past s m old took =
        if_host (λ A. Said A v e n b) k h (s ∷ steps_of_host h past) (steps_of_host h past) (λ q. inr (old took))
        (old took)
    heard_step v (Server k) past s m old took =
        if_server (λ S. TookIt S h e n b → Said (steps_of_host h past) v e n b) k v
        (after_step s (doings_of (firsts v) v past)) (doings_of (firsts v) v past)
        (λ q. step_heard v past s (doings_of (firsts v) v past)
        (subst (λ (w : ServerId). CameToServer w past s) q m.1) old)
        old took

    pub heard : (past : List Step) → StepsMeet script start firsts past → (v : ServerId)
        → TookIt (doings_of (firsts v) v past) h e n b → Said (steps_of_host h past) v e n b
    heard [] run v (inl t) = absurd (let z : BeginsEpoch (firsts v) ≡ Took h e n b = t in cc)
    heard [] run v (inr o) = elim o [ ]
    heard (s ∷ past) run v took = heard_step v s.node past s run.1.0 (heard past run.0 v) took
