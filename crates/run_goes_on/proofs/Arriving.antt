-- A message of a host that is outstanding has come to its server, once all that was sent is over.
use Rattle.std.proofs.Common.{List, [], ap, arith, inl, inr, length, max, refl, subst, suc, sym, zero, ℕ}
use Rattle.std.proofs.Common.{◌<◌, ◌∙◌, ◌∷◌, ◌≡◌, ◌⊎◌}
use Rattle.base_types.specs.declared.ids.HostId.{HostId}
use Rattle.base_types.specs.declared.ids.Node.{Node}
use Rattle.base_types.specs.declared.ids.Node.TheVariants.{Host, Server}
use Rattle.base_types.specs.declared.ids.ServerId.{ServerId}
use Rattle.tree_answers.specs.declared.tree.Tree.{Tree}
use Rattle.script_lines.specs.declared.script.Script.{Script}
use Rattle.message_types.specs.declared.message.Body.{Body}
use Rattle.message_types.specs.declared.message.Direction.{Direction}
use Rattle.message_types.specs.declared.message.Direction.TheVariants.{ToHost, ToServer}
use Rattle.message_types.specs.declared.message.Message.{Message}
use Rattle.run_rules.specs.Doings.{Doing, Hears, admitting, after_admitting, after_cause, after_deciding, after_step}
use Rattle.run_rules.specs.Doings.{deciding, doings_of, sending}
use Rattle.run_rules.specs.Doings.Doing.{Took}
use Rattle.run_rules.specs.HostDue.{HostDue, IsUnanswered}
use Rattle.run_rules.specs.HostMay.{HostMay}
use Rattle.run_rules.specs.Messages.{HasStopped, Sends, epoch_at}
use Rattle.run_rules.specs.Past.{Always, In, Once, appended}
use Rattle.run_rules.specs.Plans.{receiver_by, resender, resender_by}
use Rattle.run_rules.specs.Runs.{IsDutiful, IsFrom, IsRun, StepDue, StepMeets, StepsMeet, firsts_of, past_of}
use Rattle.run_rules.specs.Steps.{steps_of_host}
use Rattle.run_rules.specs.declared.journal.Journal.{Journal}
use Rattle.run_rules.specs.declared.step.Cause.{Cause}
use Rattle.run_rules.specs.declared.step.Cause.TheVariants.{End, Evict, Flushed, Freight, Lapse}
use Rattle.run_rules.specs.declared.step.Cause.TheVariants.{Line, Message as Came, Restart}
use Rattle.run_rules.specs.declared.step.Step.{Step}
use Rattle.run_tokens.proofs.Invariant.{Alone}
use Rattle.run_tokens.proofs.Law.{Whole, always}
use Rattle.run_tokens.proofs.TokenRun.{token_run}
use Rattle.run_tokens.proofs.Words.{if_host, own_after}
use Rattle.run_goes_on.proofs.Positions.{Cut, always_back, cut, doings_on, host_steps, once_on, own_on, own_run}
use Rattle.run_goes_on.proofs.Positions.{server_doings, steps_back}
use Rattle.run_goes_on.proofs.Posted.{comes_of}
use Rattle.run_goes_on.proofs.Staying.{SendsIt, WasSent, for_itself, goes_there, host_resends, unanswered_back}
use Rattle.run_goes_on.proofs.Staying.{was_sent}
use Rattle.run_goes_on.specs.Rest.{AllIsOver, IsStopped, IsTakenIn, LapsesIn, NoneIsHeld}
use Rattle.run_tokens.proofs.Ships.{once_shipped}
use Rattle.run_rules.specs.Doings.{after_sending}
use Rattle.run_goes_on.specs.Waiting.{WhatWaitsHasCome}

-- what a server's doings once had they have after a step
pub cause_on : (P : List Doing → Doing → Type 0) (c : Cause) (S : List Doing) → Once P S → Once P (after_cause c S)
cause_on P (Came m) S o = inr o
cause_on P (Restart line) S o = inr o
cause_on P Flushed S o = inr o
cause_on P (Line line) S o = o
cause_on P Lapse S o = o
cause_on P Evict S o = o
cause_on P (Freight freight) S o = inr o
cause_on P End S o = o

pub from_cause : (P : List Doing → Doing → Type 0) (S : List Doing) (s : Step) → Once P (after_cause s.cause S)
    → Once P (after_step s S)
from_cause P S s o =
    inr (once_shipped P s.shipped (after_sending s S) (once_on P (sending s.sent) (after_admitting s S)
    (once_on P (admitting s.admitted) (after_deciding s S)
    (once_on P (deciding s.applied) (after_cause s.cause S) o))))

pub step_on : (P : List Doing → Doing → Type 0) (S : List Doing) (s : Step) → Once P S → Once P (after_step s S)
step_on P S s o = from_cause P S s (cause_on P s.cause S o)

-- a step of a host, in a run
pub record Found (host : HostId) (P : List Step → Step → Type 0) (run : List Step) : Type 0 where
  pub before : List Step
  pub after : List Step
  pub step : Step
  pub whole : appended (step ∷ after) before ≡ run
  pub node : step.node ≡ Host host
  pub here : P (steps_of_host host before) step

module _ (host : HostId) (P : List Step → Step → Type 0) where
  find : (later past : List Step) → Once P (steps_of_host host (appended later past))
      → Once P (steps_of_host host past) ⊎ Found host P (appended later past)
  find [] past o = inl o
  find (s ∷ later) past o = elim (find later (s ∷ past) o) [
    | inr f ↦ inr f
    | inl now ↦ at s.node refl now
  ]
    where
      Here : Type 0
      Here = Once P (steps_of_host host past) ⊎ Found host P (appended later (s ∷ past))

      at : (n : Node) → s.node ≡ n → Once P (own_after host n s (steps_of_host host past)) → Here
      at (Server v) e now = inl now
      at (Host k) e now =
          if_host (λ (L : List Step). Once P L → Here) k host (s ∷ steps_of_host host past) (steps_of_host host past)
          (λ same o. elim o [
            | inl p ↦ inr (record {
              before = past;
              after = later;
              step = s;
              whole = refl;
              node = e ∙ ap Host same;
              here = p;
            })
            | inr old ↦ inl old
          ]) (λ o. inl o) now

  pub found : (run : List Step) → Once P (steps_of_host host (appended run [])) → Found host P (appended run [])
  found run o = elim (find run [] o) [ inl none ↦ elim none [ ] | inr f ↦ f ]

-- # A run in which all that was sent is over
module _ (script : Script) (start : Tree) (firsts : ServerId → ℕ) (real : (v : ServerId) → 0 < firsts v)
    (run : List Step) (meets : StepsMeet script start firsts run)
    (due : Always (λ before s. StepDue script start firsts s.node before s) run) (over : AllIsOver script run)
    (none : NoneIsHeld script run) where
  pub meets_at : (later past : List Step) → appended later past ≡ run → StepsMeet script start firsts past
  meets_at later past e = steps_back script start firsts later past e meets

  pub due_at : (past later : List Step) (s : Step) → appended (s ∷ later) past ≡ run
      → StepDue script start firsts s.node past s
  due_at past later s e =
      (always_back (λ before s. StepDue script start firsts s.node before s) later (s ∷ past)
      (subst (Always (λ before s. StepDue script start firsts s.node before s)) (sym e) due)).1

  pub whole_at : (later past : List Step) → appended later past ≡ run
      → Whole (λ h. steps_of_host h past) (λ v. doings_of (firsts v) v past)
  whole_at later past e =
      always firsts past (token_run script start firsts past real (meets_at later past e))

  module _ (host : HostId) (live : HasStopped (steps_of_host host run) → ⊥) where
    -- what is sent by a step of the host goes on: it is taken, or the host has a lapse
    pub host_sends : (past later : List Step) (s : Step) → appended (s ∷ later) past ≡ run → s.node ≡ Host host
        → (m : Message) → In m s.sent → resender m ≡ Host m.host
        → (m.host ≡ host) × (m.direction ≡ ToServer) × (LapsesIn later (Host host) ⊎ IsTakenIn later m)
    host_sends past later s e node m i again = (
      from.0,
      from.1,
      elim going [
        | inl lapses ↦ inl (subst (LapsesIn later) (again ∙ ap Host from.0) lapses)
        | inr taken ↦ inr taken
      ],
    )
      where
        from : (m.host ≡ host) × (m.direction ≡ ToServer)
        from = subst (λ (n : Node). IsFrom n m) node ((meets_at later (s ∷ past) e).1.3 m i).0

        going : LapsesIn later (resender m) ⊎ IsTakenIn later m
        going = comes_of script run over none past later s e m i
            (λ st. subst (IsStopped run) (ap (λ (d : Direction). receiver_by d m) from.1) st)
            (λ st. live (subst (IsStopped run) (again ∙ ap Host from.0) st))

    module _ (v : ServerId) (n : ℕ) (b : Body) (x : IsUnanswered (steps_of_host host run) v n b) where
      -- it has been outstanding since it was sent
      back_step : (past : List Step) (s : Step) (k : Node) → StepMeets script start firsts k past s
          → Alone (steps_of_host host past) → WasSent v b (steps_of_host host past)
          → IsUnanswered (own_after host k s (steps_of_host host past)) v n b
          → IsUnanswered (steps_of_host host past) v n b
      back_step past s (Server u) m alone sent y = y
      back_step past s (Host k) m alone sent y =
          if_host
          (λ (L : List Step). IsUnanswered L v n b → IsUnanswered (steps_of_host host past) v n b) k host
          (s ∷ steps_of_host host past) (steps_of_host host past)
          (λ same z. unanswered_back script host (steps_of_host host past) s
          (subst (λ (h : HostId). HostMay script h (steps_of_host h past) s) same m.0) alone v n b sent z)
          (λ z. z) y

      pub unanswered_at : (later past : List Step) → appended later past ≡ run → WasSent v b (steps_of_host host past)
          → IsUnanswered (steps_of_host host past) v n b
      unanswered_at [] past e sent = subst (λ (L : List Step). IsUnanswered (steps_of_host host L) v n b) (sym e) x
      unanswered_at (s ∷ later) past e sent =
          back_step past s s.node (meets_at later (s ∷ past) e).1.0 ((whole_at (s ∷ later) past e).alone host) sent
          (unanswered_at later (s ∷ past) e
          (own_on host (WasSent v b) (λ A t o. inr o) (s ∷ []) past sent))

      abbrev Comes : Type 0
      Comes = Once (λ before a. Hears a host b) (doings_of (firsts v) v run)

      -- a server's step that takes it
      comes_by : (past later : List Step) (s : Step) → appended (s ∷ later) past ≡ run → (m : Message)
          → s.cause ≡ Came m → m.host ≡ host → m.direction ≡ ToServer → m.server ≡ v → m.body ≡ b → Comes
      comes_by past later s e m cause is direction server body = go s.node refl (meets_at later (s ∷ past) e).1.0
        where
          there : s.node ≡ Server v → Comes
          there node =
              subst (λ (L : List Step). Once (λ before a. Hears a host b) (doings_of (firsts v) v L)) e
              (doings_on (firsts v) v (Once (λ before a. Hears a host b))
              (λ S t o. step_on (λ before a. Hears a host b) S t o) later (s ∷ past)
              (subst (Once (λ before a. Hears a host b)) (sym (server_doings (firsts v) v s past node))
              (from_cause (λ before a. Hears a host b) (doings_of (firsts v) v past) s
              (subst (λ (c : Cause). Once (λ before a. Hears a host b) (after_cause c (doings_of (firsts v) v past)))
              (sym cause) (inl (m.epoch, m.moves, λ i. Took (is i) m.epoch m.moves (body i)))))))

          go : (k : Node) → s.node ≡ k → StepMeets script start firsts k past s → Comes
          go (Host k) node met =
              let to_host = (met.1 m cause).1 in absurd (let z : ToServer ≡ ToHost = sym direction ∙ to_host in cc)
          go (Server u) node met = there (node ∙ ap Server (sym (met.1 m cause).0 ∙ server))

      one_round : (past later : List Step) (s : Step) → appended (s ∷ later) past ≡ run → s.node ≡ Host host
          → SendsIt v b s
          → ((p l : List Step) (t : Step) → length l < length later → appended (t ∷ l) p ≡ run → t.node ≡ Host host
          → SendsIt v b t → Comes)
          → Comes
      one_round past later s e node (to, ep, mv, (m, i, server, epoch, moves, body), is) next =
          elim went.2 [
            | inl lapses ↦ again (cut later (s ∷ past) lapses.0 lapses.1) lapses.2 lapses.3
            | inr taken ↦ (
                let c = cut later (s ∷ past) taken.0 taken.1 in
                comes_by c.before c.after taken.0 (c.whole ∙ e) m taken.2 went.0 went.1 (server ∙ to_there) body
                )
          ]
        where
          went : (m.host ≡ host) × (m.direction ≡ ToServer) × (LapsesIn later (Host host) ⊎ IsTakenIn later m)
          went =
              host_sends past later s e node m i
              (ap (λ (y : Body). resender_by y m) body ∙ host_resends (steps_of_host host run) v n b x m)

          may : HostMay script host (steps_of_host host past) s
          may = (subst (λ (k : Node). StepMeets script start firsts k past s) node
              (meets_at later (s ∷ past) e).1.0).0

          to_there : to ≡ v
          to_there =
              goes_there script host (steps_of_host host past) s may v to n ep mv b (steps_of_host host run) x
              (m, i, server, epoch, moves, body) is

          sent_now : WasSent v b (steps_of_host host (s ∷ past))
          sent_now =
              subst (WasSent v b) (sym (host_steps host s past node))
              (inl (to, ep, mv, (m, i, server, epoch, moves, body), is))

          again : {t : Step} → Cut (s ∷ past) later t → t.node ≡ Host host → t.cause ≡ Lapse → Comes
          again {t = t} c at lapse = next c.before c.after t c.short (c.whole ∙ e) at
              (v, epoch_at (steps_of_host host c.before) v, n, sends, for_itself b v)
            where
              sent_then : WasSent v b (steps_of_host host c.before)
              sent_then =
                  subst (λ (L : List Step). WasSent v b (steps_of_host host L)) (sym c.grown)
                  (own_on host (WasSent v b) (λ A t o. inr o) c.between (s ∷ past) sent_now)

              dues : HostDue script host (steps_of_host host c.before) t
              dues = subst (λ (k : Node). StepDue script start firsts k c.before t) at
                  (due_at c.before c.after t (c.whole ∙ e))

              sends : Sends t v (epoch_at (steps_of_host host c.before) v) n b
              sends =
                  dues.repeats.lapse_all v n b lapse
                  (unanswered_at (t ∷ c.after) c.before (c.whole ∙ e) sent_then)

      from_sent : (fuel : ℕ) (past later : List Step) (s : Step) → length later < fuel
          → appended (s ∷ later) past ≡ run → s.node ≡ Host host → SendsIt v b s → Comes
      from_sent zero past later s lt e node sends = absurd (omega (arith, lt))
      from_sent (suc fuel) past later s lt e node sends =
          one_round past later s e node sends
          (λ p l t short whole at again. from_sent fuel p l t
          (let q : length later < suc fuel = lt in omega (arith, short, q)) whole at again)

pub start_is : (a b : Tree) → a ∷ [] ≡ b ∷ [] → a ≡ b
start_is a b e = cc

pub from_one : (n : ℕ) → 0 < max 1 n
from_one n = omega arith

-- what is due is done from the tree from which the run starts
pub due_of : (script : Script) (journal : Journal) (run : IsRun script journal) → IsDutiful script journal
    → Always (λ before s. StepDue script run.start (firsts_of journal) s.node before s) (past_of journal)
due_of script journal run dutiful =
    subst
    (λ (t : Tree). Always (λ before s. StepDue script t (firsts_of journal) s.node before s) (past_of journal))
    (start_is dutiful.start run.start (sym dutiful.starts ∙ run.starts)) dutiful.steps

pub what_waits_has_come : WhatWaitsHasCome
what_waits_has_come script journal q host live v n b x =
    let f = found host (λ before s. SendsIt v b s) journal.steps
    (was_sent script host (steps_of_host host (past_of journal))
    (own_run script q.run.start (firsts_of journal) (past_of journal) q.run.steps host) live v n b x) in
    from_sent script q.run.start (firsts_of journal) (λ v. from_one _) (past_of journal) q.run.steps
    (due_of script journal q.run q.dutiful) q.over q.none_held host live v n b x (suc (length f.after)) f.before
    f.after f.step (omega arith) f.whole f.node f.here
