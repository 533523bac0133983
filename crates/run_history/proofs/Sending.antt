-- What is so of each message that a server sends, in its steps and in a run.
use Rattle.std.proofs.Common.{List, ap, false, inl, inr, refl, subst, suc, sym, ℕ, ◌/◌, ◌∙◌, ◌∷◌, ◌≡◌, ◌≤◌}
use Rattle.std.specs.List.{list_any}
use Rattle.std.specs.Prelude.{[]}
use Rattle.base_types.specs.declared.ids.FilesetId.{FilesetId}
use Rattle.base_types.specs.declared.ids.HostId.{HostId}
use Rattle.base_types.specs.declared.ids.Node.{Node}
use Rattle.base_types.specs.declared.ids.Node.TheVariants.{Host, Server}
use Rattle.base_types.specs.declared.ids.ServerId.{ServerId}
use Rattle.tree_answers.specs.declared.tree.Tree.{Tree}
use Rattle.message_types.specs.Soundness.{IsBody, IsDone, IsHome, IsOutcome, IsSound}
use Rattle.message_types.specs.declared.message.Body.{Body}
use Rattle.message_types.specs.declared.message.Body.TheVariants.{Done}
use Rattle.message_types.specs.declared.message.Message.{Message}
use Rattle.message_types.specs.declared.telling.Done.{Done as DoneOf}
use Rattle.message_types.specs.declared.telling.DoneIs.{DoneIs}
use Rattle.message_types.specs.declared.telling.DoneIs.TheVariants.{Known}
use Rattle.script_lines.specs.declared.script.Script.{Script}
use Rattle.run_rules.specs.Doings.{after_shipping}
use Rattle.run_rules.specs.Doings.{Doing, SentTo, admitting, after_admitting, after_cause, after_deciding}
use Rattle.run_rules.specs.Doings.{after_sending, after_step, deciding, doings_of, epoch, sending}
use Rattle.run_rules.specs.Doings.Doing.{Puts}
use Rattle.run_rules.specs.Doings.Doing.{Admits, BeginsEpoch, Flushes, MakesWant, Moves, Reserves, Sent, Took}
use Rattle.run_rules.specs.Doings.Doing.{WritesDown}
use Rattle.run_rules.specs.Kept.{filesets_after, filesets_kept, filesets_through}
use Rattle.run_rules.specs.Messages.{Said, home}
use Rattle.run_rules.specs.Past.{EachInTurn, In, appended}
use Rattle.run_rules.specs.Runs.{IsFrom, StepMeets, StepsMeet}
use Rattle.run_rules.specs.ServerDecides.{MayDecide, MayDecideAll, by_cause, decisions}
use Rattle.run_rules.specs.ServerMay.{MaySend}
use Rattle.run_rules.specs.Steps.{steps_of_host, steps_of_server}
use Rattle.run_rules.specs.declared.applied.Applied.TheVariants.{Done as IsDoneChange, IsDown, Moves as IsMoved}
use Rattle.run_rules.specs.declared.applied.Applied.TheVariants.{Replied, Stored, Wants as IsWanted}
use Rattle.run_contents.proofs.Grants.{AllTaken, Heard, all_taken, causes as causes_taken, taken_took, wanted}
use Rattle.run_contents.proofs.Grants.{written_down}
use Rattle.run_contents.proofs.Servers.{cause_heard, heard}
use Rattle.run_tokens.proofs.Words.{acts_after, if_server, never_moved}
use Rattle.run_rules.specs.declared.applied.Admission.{Admission}
use Rattle.run_rules.specs.declared.applied.Applied.{Applied}
use Rattle.run_rules.specs.declared.applied.Wanted.{Wanted}
use Rattle.run_rules.specs.declared.applied.Written.{Written}
use Rattle.run_rules.specs.declared.step.Cause.{Cause}
use Rattle.run_rules.specs.declared.step.Cause.TheVariants.{Flushed, Message as Came, Restart}
use Rattle.run_tokens.specs.Unmoved.{MovesOne, StaysPut, is_move}
use Rattle.run_tokens.proofs.Unmoved.{cause_put, put_on}
use Rattle.run_tokens.proofs.TokenRun.{none_moves, stays_put}
use Rattle.run_tokens.proofs.Ships.{ships_keep}
use Rattle.run_rules.specs.Doings.Doing.{Gets}
use Rattle.run_rules.specs.declared.step.Cause.TheVariants.{Freight}
use Rattle.run_rules.specs.declared.step.Step.{Step}

-- no fileset has moved, what waits was taken, and what was taken its host said
pub record Good (past : List Step) (v : ServerId) (S : List Doing) : Type 0 where
  pub put : StaysPut S
  pub taken : AllTaken S
  pub said : (h : HostId) (e n : ℕ) (b : Body) → In (Took h e n b) S → Said (steps_of_host h past) v e n b

module _ (past : List Step) (v : ServerId) where
  on_said : (S : List Doing) (a : Doing) → ((h : HostId) (e n : ℕ) (b : Body) → Took h e n b ≡ a → ⊥) → (MovesOne a → ⊥)
      → Good past v S → AllTaken (a ∷ S) → Good past v (a ∷ S)
  on_said S a no_took still g taken = record {
    put = put_on a S still g.put;
    taken = taken;
    said = λ h e n b i. elim i [
      | inl q ↦ absurd (no_took h e n b q)
      | inr i ↦ g.said h e n b i
    ];
  }

  quiet : (S : List Doing) (a : Doing) → ((w : Wanted) → a ≡ MakesWant w → ⊥)
      → ((h : HostId) (e n : ℕ) (b : Body) → Took h e n b ≡ a → ⊥) → (MovesOne a → ⊥) → Good past v S
      → Good past v (a ∷ S)
  quiet S a no_want no_took still g = on_said S a no_took still g (λ w k. elim k [
    | inl e ↦ absurd (no_want w e)
    | inr k ↦ inr (g.taken w k.0, λ b. k.1 (inr (inr (inr b))))
  ])

  -- after one decision, and after all
  pub on_want : (S0 : List Doing) (s : Step) (x : Wanted) (K : Tree) (S : List Doing) → MayDecide v K S0 S s (IsWanted x)
      → Good past v S → Heard v S0 s S → Good past v (MakesWant x ∷ S) × Heard v S0 s (MakesWant x ∷ S)
  on_want S0 s x K S may g heard =
      let q = wanted v S0 s x K S may g.taken heard in
      (on_said S (MakesWant x) (λ h e n b p. cc) (λ p. let q = p.1 in cc) g q.0, q.1)

  pub on_write : (S0 : List Doing) (s : Step) (x : Written) (S : List Doing) → Good past v S → Heard v S0 s S
      → Good past v (WritesDown x ∷ S) × Heard v S0 s (WritesDown x ∷ S)
  on_write S0 s x S g heard =
      let q = written_down v S0 s x S g.taken heard in
      (on_said S (WritesDown x) (λ h e n b p. cc) (λ p. let q = p.1 in cc) g q.0, q.1)

  decides : (S0 : List Doing) (s : Step) (xs : List Applied) (K : Tree) (S : List Doing) → MayDecideAll v K S0 S s xs
      → Good past v S → Heard v S0 s S → Good past v (appended (deciding xs) S)
  decides S0 s [] K S may g heard = g
  decides S0 s (IsWanted x ∷ xs) K S may g heard =
      let q = on_want S0 s x K S may.0 g heard in decides S0 s xs K (MakesWant x ∷ S) may.1 q.0 q.1
  decides S0 s (IsDoneChange x ∷ xs) K S may g heard =
      let q = on_write S0 s x S g heard in
      decides S0 s xs (filesets_after s.cause K (IsDoneChange x)) (WritesDown x ∷ S) may.1 q.0 q.1
  decides S0 s (_ ∷ xs) K S may g heard = elim may.0 [ ]

  admits : (cs : List Admission) (S : List Doing) → Good past v S → Good past v (appended (admitting cs) S)
  admits [] S g = g
  admits (c ∷ cs) S g =
      admits cs (Admits c.host c.tokens ∷ S)
      (quiet S (Admits c.host c.tokens) (λ w e. absurd (cc)) (λ h e n b p. absurd (cc)) (λ p. let q = p.1 in cc) g)

same_decisions : (xs : List Applied) (S : List Doing) → list_any is_move xs ≡ false
    → appended (deciding (decisions xs)) S ≡ appended (deciding xs) S
same_decisions [] S none = refl
same_decisions (IsWanted x ∷ xs) S none = refl
same_decisions (IsDoneChange x ∷ xs) S none = refl
same_decisions (IsMoved move ∷ xs) S none = absurd (cc)
same_decisions (Replied x ∷ xs) S none = same_decisions xs S none
same_decisions (Stored h f ss n ∷ xs) S none = same_decisions xs S none
same_decisions (IsDown h ∷ xs) S none = same_decisions xs S none

-- each message that was sent is so
module _ (Q : HostId → ℕ → ℕ → Body → Type 0) where
  abbrev pub AllSent : List Doing → Type 0
  AllSent S = (h : HostId) (e n : ℕ) (b : Body) → SentTo S h e n b → Q h e n b

  other : (S : List Doing) (a : Doing) → ((h : HostId) (e n : ℕ) (b : Body) → a ≡ Sent h e n b → ⊥) → AllSent S
      → AllSent (a ∷ S)
  other S a never old h e n b (inl q) = absurd (never h e n b q)
  other S a never old h e n b (inr q) = old h e n b q

  admits_sent : (cs : List Admission) (S : List Doing) → AllSent S → AllSent (appended (admitting cs) S)
  admits_sent [] S old = old
  admits_sent (c ∷ cs) S old =
      admits_sent cs (Admits c.host c.tokens ∷ S) (other S (Admits c.host c.tokens) (λ h e n b q. absurd (cc)) old)

  writes_sent : (xs : List Applied) (S : List Doing) → AllSent S → AllSent (appended (deciding xs) S)
  writes_sent [] S old = old
  writes_sent (IsWanted x ∷ xs) S old =
      writes_sent xs (MakesWant x ∷ S) (other S (MakesWant x) (λ h e n b q. absurd (cc)) old)
  writes_sent (IsDoneChange x ∷ xs) S old =
      writes_sent xs (WritesDown x ∷ S) (other S (WritesDown x) (λ h e n b q. absurd (cc)) old)
  writes_sent (IsMoved move ∷ xs) S old =
      writes_sent xs (Moves move ∷ S) (other S (Moves move) (λ h e n b q. absurd (cc)) old)
  writes_sent (_ ∷ xs) S old = writes_sent xs S old

  causes_sent : (c : Cause) (S : List Doing) → AllSent S → AllSent (after_cause c S)
  causes_sent (Came m) S old = other S (Took m.host m.epoch m.moves m.body) (λ h e n b q. absurd (cc)) old
  causes_sent (Restart line) S old = other S (BeginsEpoch (suc (epoch S))) (λ h e n b q. absurd (cc)) old
  causes_sent Flushed S old = other S Flushes (λ h e n b q. absurd (cc)) old
  causes_sent (Freight freight) S old =
      other S (Gets freight.server freight.moves freight.body) (λ h e n b q. absurd (cc)) old
  causes_sent _ S old = old

  pub none_sent : (first : ℕ) → AllSent (BeginsEpoch first ∷ [])
  none_sent first = other [] (BeginsEpoch first) (λ h e n b q. absurd (cc)) (λ h e n b q. elim q [ ])

-- a step of a server
module _ (script : Script) (start : Tree) (firsts : ServerId → ℕ) (past : List Step)
    (run : StepsMeet script start firsts past) (v : ServerId) (s : Step)
    (m : StepMeets script start firsts (Server v) past s) where
  abbrev S : List Doing
  S = doings_of (firsts v) v past

  abbrev kept_then : Tree
  kept_then = filesets_through s.cause s.applied (filesets_kept start v (steps_of_server v past))

  pub caused : Good past v (after_cause s.cause S)
  caused = record {
    put = cause_put s.cause S (stays_put script start firsts past run v);
    taken = causes_taken s.cause S (all_taken script start firsts past run v);
    said = λ h e n b i. cause_heard h e n b script start firsts past run v s m.1
        (heard h e n b script start firsts past run v) i;
  }

  admitted : Good past v (after_admitting s S)
  admitted =
      admits past v s.admitted (after_deciding s S)
      (subst (Good past v) (same_decisions s.applied (after_cause s.cause S) (none_moves script start firsts (Server v) past s m))
      (decides past v S s (decisions s.applied)
      (filesets_through s.cause (by_cause s.applied) (filesets_kept start v (steps_of_server v past))) (after_cause s.cause S)
      m.0.works.decides caused (taken_took S s)))

  module _ (Q : HostId → ℕ → ℕ → Body → Type 0)
      (each : (T : List Doing) (x : Message) → In x s.sent → Good past v T → AllSent Q T
      → MaySend v kept_then s T (Sent x.host x.epoch x.moves x.body) → Q x.host x.epoch x.moves x.body) where
    sends : (ms : List Message) (T : List Doing) → ((x : Message) → In x ms → In x s.sent)
        → EachInTurn (MaySend v kept_then s) (sending ms) T → Good past v T → AllSent Q T → AllSent Q (appended (sending ms) T)
    sends [] T sub may g old = old
    sends (x ∷ ms) T sub may g old =
        sends ms (Sent x.host x.epoch x.moves x.body ∷ T) (λ y i. sub y (inr i)) may.1
        (quiet past v T (Sent x.host x.epoch x.moves x.body) (λ w e. absurd (cc)) (λ h e n b p. absurd (cc))
        (λ p. let q = p.1 in cc) g) now
      where
        now : AllSent Q (Sent x.host x.epoch x.moves x.body ∷ T)
        now h e n b (inl q) =
            let a : x.host ≡ h = cc in
            let c : x.epoch ≡ e = cc in
            let d : x.moves ≡ n = cc in
            let f : x.body ≡ b = cc in
            subst (λ (z : HostId × ℕ × ℕ × Body). Q z.0 z.1 z.2 z.3) (λ i. (a i, c i, d i, f i))
            (each T x (sub x (inl refl)) g old may.0)
        now h e n b (inr q) = old h e n b q

    pub after_sends : AllSent Q S → AllSent Q (after_step s S)
    after_sends old =
        other Q (after_shipping s S) (Reserves s.reserved) (λ h e n b q. absurd (cc))
        (ships_keep (AllSent Q) (λ T to k c was. other Q T (Puts to k c) (λ h e n b q. absurd (cc)) was) s.shipped
        (after_sending s S) (sends s.sent (after_admitting s S) (λ x i. i) m.0.works.sends admitted
        (admits_sent Q s.admitted (after_deciding s S)
        (writes_sent Q s.applied (after_cause s.cause S) (causes_sent Q s.cause S old)))))

-- a Done that tells a fileset's number is of the server at which that was made
abbrev pub KnownAtHome : ServerId → HostId → ℕ → ℕ → Body → Type 0
KnownAtHome v h e n b =
    (d : DoneOf) (id : FilesetId) → b ≡ Done d → d.outcome ≡ Known id → (1 ≤ v.0) × (home id ≡ v)

home_is : (id : FilesetId) (v : ServerId) → id.0 / 65536 ≡ v.0 → home id ≡ v
unfolding home
home_is id v e = ap (λ (n : ℕ). record { 0 = n }) e

module _ (script : Script) (start : Tree) (firsts : ServerId → ℕ) where
  known_at_home : (v : ServerId) (tree : Tree) (s : Step) (T : List Doing) → StaysPut T → (x : Message) → IsFrom (Server v) x
      → IsSound script.roster x → MaySend v tree s T (Sent x.host x.epoch x.moves x.body)
      → KnownAtHome v x.host x.epoch x.moves x.body
  known_at_home v tree s T put x from sound may d id body outcome = (
    subst (λ (w : ServerId). 1 ≤ w.0) from.0 sound.server.first,
    home_is id v (says stays ∙ ap (λ (w : ServerId). w.0) from.0),
  )
    where
      is_done : IsDone script.roster x d
      is_done = subst (λ (b : Body). IsBody script.roster x b) body sound.body

      says : IsHome x id
      says = subst (λ (o : DoneIs). IsOutcome script.roster x o) outcome is_done.outcome

      stays : x.moves ≡ 0
      stays =
          let q = may.done_for x.host x.epoch x.moves d (ap (λ (b : Body). Sent x.host x.epoch x.moves b) body) in
          elim q.1 [
            | inl none ↦ none.1
            | inr here ↦ sym (never_moved v T d.fileset x.moves put here)
          ]

  at_node : (k : Node) (past : List Step) (s : Step) (run : StepsMeet script start firsts past)
      → StepMeets script start firsts k past s
      → ((x : Message) → In x s.sent → IsFrom k x × IsSound script.roster x)
      → ((v : ServerId) → AllSent (KnownAtHome v) (doings_of (firsts v) v past)) → (v : ServerId)
      → AllSent (KnownAtHome v) (acts_after v k s (doings_of (firsts v) v past))
  at_node (Host k) past s run m from old v = old v
  at_node (Server k) past s run m from old v =
      if_server (AllSent (KnownAtHome v)) k v (after_step s (doings_of (firsts v) v past)) (doings_of (firsts v) v past)
      (λ e. subst (λ w. AllSent (KnownAtHome w) (after_step s (doings_of (firsts w) w past))) e
      (after_sends script start firsts past run k s m (KnownAtHome k)
      (λ T x i g all may. known_at_home k _ s T g.put x (from x i).0 (from x i).1 may) (old k))) (old v)

  pub all_known : (past : List Step) → StepsMeet script start firsts past → (v : ServerId)
      → AllSent (KnownAtHome v) (doings_of (firsts v) v past)
  all_known [] run v = none_sent (KnownAtHome v) (firsts v)
  all_known (s ∷ past) run v = at_node s.node past s run.0 run.1.0 run.1.3 (all_known past run.0) v
