-- No greeting of a host waits for its answer, once all that was sent is over, where the host hasn't gone away.
use Rattle.std.proofs.Common.{Bool, List, [], ap, arith, false, inl, inr, length, refl, subst, suc, sym, true, zero, ℕ}
use Rattle.std.proofs.Common.{◌<◌, ◌==◌, ◌∙◌, ◌∷◌, ◌≡◌, ◌≤◌, ◌⊎◌}
use Rattle.std.proofs.lemmas.Bool.{eq-eqb}
use Rattle.base_types.specs.declared.ids.HostId.{HostId}
use Rattle.base_types.specs.declared.ids.Node.{Node}
use Rattle.base_types.specs.declared.ids.Node.TheVariants.{Host, Server}
use Rattle.base_types.specs.declared.ids.ServerId.{ServerId}
use Rattle.tree_answers.specs.declared.tree.Tree.{Tree}
use Rattle.script_lines.specs.declared.script.Script.{Script}
use Rattle.message_types.specs.declared.giving.Reclaimed.{Reclaimed as ReclaimedOf}
use Rattle.message_types.specs.declared.message.Body.{Body}
use Rattle.message_types.specs.declared.message.Body.TheVariants.{Hello, Reclaimed, Restarted}
use Rattle.message_types.specs.declared.message.Direction.TheVariants.{ToHost, ToServer}
use Rattle.message_types.specs.declared.message.Message.{Message}
use Rattle.run_rules.specs.Doings.{Doing, GoesAway, HasGoneAway, IsLive, ListedNow, SentNow}
use Rattle.run_rules.specs.Doings.{after_cause, after_step, doings_of, epoch}
use Rattle.run_rules.specs.HostDue.{HostDue}
use Rattle.run_rules.specs.Messages.{HasGreeted, HasStopped, IsWelcome, Said, Sends}
use Rattle.run_rules.specs.Messages.{epoch_at, epoch_raised, epoch_raised_by}
use Rattle.run_rules.specs.Past.{Always, appended}
use Rattle.run_rules.specs.Plans.{resender_by}
use Rattle.run_rules.specs.Runs.{IsFrom, StepDue, StepMeets, StepsMeet, firsts_of, past_of}
use Rattle.run_rules.specs.ServerDue.{ServerDue, empty_reclaimed}
use Rattle.run_rules.specs.Steps.{steps_of_host, steps_of_server}
use Rattle.run_rules.specs.declared.step.Cause.{Cause}
use Rattle.run_rules.specs.declared.step.Cause.TheVariants.{Lapse, Message as Came}
use Rattle.run_rules.specs.declared.step.Step.{Step}
use Rattle.run_tokens.proofs.Words.{acts_after, epoch_grows, if_server}
use Rattle.run_goes_on.proofs.Answering.{claims_are_answered}
use Rattle.run_goes_on.proofs.Arriving.{due_at, due_of, found, from_one, host_sends, meets_at, step_on}
use Rattle.run_goes_on.proofs.Doings.{above_first, epoch_after_cause, sent_so}
use Rattle.run_goes_on.proofs.Grown.{ListedOld, listed_old_step}
use Rattle.run_goes_on.proofs.Hailing.{is_welcome, zero_at_end}
use Rattle.run_goes_on.proofs.Positions.{Cut, cut, doings_on, host_steps, own_on, server_doings}
use Rattle.run_goes_on.proofs.Staying.{SendsIt, WasSent}
use Rattle.run_goes_on.proofs.Stopping.{down_away}
use Rattle.run_goes_on.proofs.Telling.{server_due, server_may, server_sends, tells_none}
use Rattle.run_goes_on.specs.Rest.{AllIsOver, IsTakenIn, LapsesIn, NoneIsHeld}
use Rattle.run_goes_on.specs.Waiting.{GreetingsAreAnswered}

-- the first Reclaimed raises an epoch that is 0 to its own
first_raised : (v : ServerId) (A : List Step) (u : Step) (m : Message) (answer : ReclaimedOf) → u.cause ≡ Came m
    → m.server ≡ v → m.body ≡ Reclaimed answer → epoch_at A v ≡ 0 → epoch_at (u ∷ A) v ≡ m.epoch
first_raised v A u m answer cause server body zero_now =
    subst (λ (c : Cause). epoch_raised c v (epoch_at A v) ≡ m.epoch) (sym cause)
    (subst (λ (b : Body). epoch_raised_by b (m.server.0 == v.0) m.epoch (epoch_at A v) ≡ m.epoch) (sym body)
    (raised (m.server.0 == v.0) (epoch_at A v) (eq-eqb m.server.0 v.0 (ap (λ (y : ServerId). y.0) server)) zero_now))
  where
    raised : (mine : Bool) (now : ℕ) → mine ≡ true → now ≡ 0
        → epoch_raised_by (Reclaimed answer) mine m.epoch now ≡ m.epoch
    raised false now e z = absurd (cc)
    raised true zero e z = refl
    raised true (suc now) e z = absurd (omega (arith, z))

module _ (script : Script) (start : Tree) (firsts : ServerId → ℕ) (real : (v : ServerId) → 0 < firsts v)
    (run : List Step) (meets : StepsMeet script start firsts run)
    (due : Always (λ before s. StepDue script start firsts s.node before s) run) (over : AllIsOver script run)
    (none : NoneIsHeld script run) (host : HostId) (live : HasStopped (steps_of_host host run) → ⊥) (v : ServerId)
    (stays : HasGoneAway (doings_of (firsts v) v run) host → ⊥)
    (unwelcome : IsWelcome (steps_of_host host run) v → ⊥) (at_zero : epoch_at (steps_of_host host run) v ≡ 0) where
  abbrev own : List Step → List Step
  own past = steps_of_host host past

  abbrev acts : List Step → List Doing
  acts past = doings_of (firsts v) v past

  met : (l p : List Step) → appended l p ≡ run → StepsMeet script start firsts p
  met l p e = meets_at script start firsts real run meets due over none l p e

  host_due : (l p : List Step) (t : Step) → appended (t ∷ l) p ≡ run → t.node ≡ Host host
      → HostDue script host (own p) t
  host_due l p t e at =
      subst (λ (k : Node). StepDue script start firsts k p t) at
      (due_at script start firsts real run meets due over none p l t e)

  here_yet : (l p : List Step) → appended l p ≡ run → HasGoneAway (acts p) host → ⊥
  here_yet l p e gone =
      stays (subst (λ (L : List Step). HasGoneAway (acts L) host) e
      (doings_on (firsts v) v (λ (S : List Doing). HasGoneAway S host)
      (λ S t o. step_on (λ before a. GoesAway before a host) S t o) l p gone))

  unwelcome_at : (l p : List Step) → appended l p ≡ run → IsWelcome (own p) v → ⊥
  unwelcome_at l p e x =
      unwelcome (subst (λ (L : List Step). IsWelcome (own L) v) e
      (own_on host (λ (L : List Step). IsWelcome L v) (λ A s o. inr o) l p x))

  zero_then : (l p : List Step) → appended l p ≡ run → epoch_at (own p) v ≡ 0
  zero_then l p e =
      let le : epoch_at (own p) v ≤ epoch_at (own run) v =
      subst (λ (L : List Step). epoch_at (own p) v ≤ epoch_at (own L) v) e
      (own_on host (λ (L : List Step). epoch_at (own p) v ≤ epoch_at L v)
      (λ A x q. (let grows = epoch_grows A x v in omega (arith, q, grows))) l p (omega arith)) in
      let z = at_zero in
      omega (arith, le, z)

  -- it has greeted the server since then
  greets_on : (b p : List Step) → HasGreeted (own p) v → HasGreeted (own (appended b p)) v
  greets_on b p k = own_on host (λ (L : List Step). HasGreeted L v) (λ A x g. (g.0, g.1, inr g.2)) b p k

  -- it came on the list in an older epoch
  pub record IsOld (p : List Step) : Type 0 where
    pub listed : ListedOld (acts p) host
    pub greeted : HasGreeted (own p) v

  old_at : (p : List Step) (x : Step) (k : Node) → ListedOld (acts p) host
      → ListedOld (acts_after v k x (acts p)) host
  old_at p x (Host k) old = old
  old_at p x (Server k) old =
      if_server (λ (S : List Doing). ListedOld S host) k v (after_step x (acts p)) (acts p)
      (λ same. listed_old_step host x (acts p) old) old

  old_on : (p : List Step) (x : Step) → IsOld p → IsOld (x ∷ p)
  old_on p x old =
      record { listed = old_at p x x.node old.listed; greeted = greets_on (x ∷ []) p old.greeted }

  -- # The last step that says Hello
  module _ (past later : List Step) (s : Step) (e : appended (s ∷ later) past ≡ run) (node : s.node ≡ Host host)
      (to : ServerId) (ep mv : ℕ) (sends : Sends s to ep mv Hello) (is_v : to ≡ v)
      (again : (p l : List Step) (t : Step) → length l < length later → appended (t ∷ l) p ≡ run → t.node ≡ Host host
      → SendsIt v Hello t → ⊥) where
    abbrev m : Message
    m = sends.0

    greeted : HasGreeted (own (s ∷ past)) v
    greeted =
        subst (λ (L : List Step). HasGreeted L v) (sym (host_steps host s past node))
        (ep, mv, inl (subst (λ (u : ServerId). Sends s u ep mv Hello) is_v sends))

    -- each lapse says it again
    lapse_at : (l p : List Step) (u : Step) → length l < length later → appended (u ∷ l) p ≡ run → HasGreeted (own p) v
        → u.node ≡ Host host → u.cause ≡ Lapse → ⊥
    lapse_at l p u short w g at lapse =
        again p l u short w at (
          v,
          epoch_at (own p) v,
          0,
          (host_due l p u w at).repeats.lapse_all v 0 Hello lapse
              (g, unwelcome_at (u ∷ l) p w, refl),
          refl,
        )

    lapses_not : (l p : List Step) → appended l p ≡ run → length l ≤ length later → HasGreeted (own p) v
        → LapsesIn l (Host host) → ⊥
    lapses_not l p w le g (u, i, at, lapse) = by (cut l p u i)
      where
        by : Cut p l u → ⊥
        by c =
            lapse_at c.after c.before u (let short = c.short in omega (arith, short, le)) (c.whole ∙ w)
            (subst (λ (L : List Step). HasGreeted (own L) v) (sym c.grown) (greets_on c.between p g)) at lapse

    went : (m.host ≡ host) × (m.direction ≡ ToServer) × (LapsesIn later (Host host) ⊎ IsTakenIn later m)
    went = host_sends script start firsts real run meets due over none host live past later s e node m sends.1
        (ap (λ (b : Body). resender_by b m) sends.5)

    module _ {t : Step} (c : Cut (s ∷ past) later t) (cause : t.cause ≡ Came m) (at : t.node ≡ Server v) where
      whole : appended (t ∷ c.after) c.before ≡ run
      whole = c.whole ∙ e

      t_due : ServerDue script start v (steps_of_server v c.before) (acts c.before) t
      t_due = server_due script start firsts real run meets due over none host live v c.after c.before t whole at

      short : length c.after ≤ length later
      short = let lt = c.short in omega (arith, lt)

      after_t : HasGreeted (own (t ∷ c.before)) v
      after_t =
          greets_on (t ∷ []) c.before
          (subst (λ (L : List Step). HasGreeted (own L) v) (sym c.grown) (greets_on c.between (s ∷ past) greeted))

      -- a Reclaimed would raise the host's epoch
      welcomes_not : SentNow t host (Reclaimed empty_reclaimed) → ⊥
      welcomes_not (w, i, is, body) =
          elim (server_sends script start firsts real run meets due over none host live v c.after c.before t whole
          at w i
          is (Host host) (ap (λ (b : Body). resender_by b w) body ∙ ap Host is) live) [
            | inl lapses ↦ lapses_not c.after (t ∷ c.before) whole short after_t lapses
            | inr taken ↦ raises (cut c.after (t ∷ c.before) taken.0 taken.1) taken.2 taken.3
          ]
        where
          from : w.server ≡ v
          from = (subst (λ (k : Node). IsFrom k w) at ((met c.after (t ∷ c.before) whole).1.3 w i).0).0

          raises : {u : Step} → Cut (t ∷ c.before) c.after u → u.cause ≡ Came w → u.node ≡ Host host → ⊥
          raises {u = u} d cause_u node_u =
              let is_e = (sent_so v t (acts c.before)
              (server_may script start firsts real run meets due over none host live v c.after c.before t whole
              at).tokens
              w i).2 in
              let up : 0 < epoch (acts c.before) = above_first script start firsts real c.before v in
              let grows = epoch_after_cause t (acts c.before) in
              let raised : epoch_at (u ∷ own d.before) v ≡ w.epoch =
              first_raised v (own d.before) u w empty_reclaimed cause_u from body
              (zero_then (u ∷ d.after) d.before (d.whole ∙ whole)) in
              let end : epoch_at (u ∷ own d.before) v ≡ 0 =
              subst (λ (L : List Step). epoch_at L v ≡ 0) (host_steps host u d.before node_u)
              (zero_then d.after (u ∷ d.before) (d.whole ∙ whole)) in
              absurd (omega (arith, is_e, up, grows, raised, end))

      -- and so would a Restarted
      tells_not : IsLive (acts c.before) host → (ListedNow (acts c.before) host → ⊥) → SentNow t host Restarted → ⊥
      tells_not lives old sent =
          tells_none script start firsts real run meets due over none host live v IsOld old_on
          (λ l p w mark. (mark.listed.0, here_yet l p w)) (λ l p w mark now. absurd
          (mark.listed.1 now)) c.before c.after
          t whole is_old
          (λ l p u lt w mark at_u lapse. lapse_at l p u (let le = short in omega
          (arith, lt, le)) w mark.greeted at_u lapse)
          (λ l p u lt w mark at_u up. (
          let z : epoch_at (u ∷ own p) v ≡ 0 =
          subst (λ (L : List Step). epoch_at L v ≡ 0) (host_steps host u p at_u) (zero_then l (u ∷ p) w) in
          absurd (omega (arith, up, z))
          ))
          c.after c.before t (
            record {
              whole = whole;
              short = omega arith;
              above = omega arith;
              mark = is_old;
              on = old_on;
            },
            at,
            sent,
            above,
          )
        where
          is_old : IsOld (t ∷ c.before)
          is_old = record {
            listed = subst (λ (S : List Doing). ListedOld S host) (sym (server_doings (firsts v) v t c.before at))
                (listed_old_step host t (acts c.before) (lives.0, old));
            greeted = after_t;
          }

          above : epoch_at (own (t ∷ c.before)) v < epoch (after_cause t.cause (acts c.before))
          above =
              let z = zero_then c.after (t ∷ c.before) whole in
              let up : 0 < epoch (acts c.before) = above_first script start firsts real c.before v in
              let grows = epoch_after_cause t (acts c.before) in
              omega (arith, z, up, grows)

      answered : ⊥
      answered = welcomes (inl (λ lives. tells_not lives old
          (t_due.answers.hello_old host (m, cause, went.0, sends.5) lives old)))
        where
          welcomes : ((IsLive (acts c.before) host → ⊥) ⊎ ListedNow (acts c.before) host) → ⊥
          welcomes x =
              welcomes_not (t_due.answers.hello host (m, cause, went.0, sends.5)
              (λ down. here_yet (t ∷ c.after) c.before whole (down_away (acts c.before) host down)) x)

          old : ListedNow (acts c.before) host → ⊥
          old now = welcomes (inr now)

    never : ⊥
    never = elim went.2 [
      | inl lapses ↦ lapses_not later (s ∷ past) e (omega arith) greeted lapses
      | inr taken ↦ taken_none (cut later (s ∷ past) taken.0 taken.1) taken.2
    ]
      where
        taken_none : {t : Step} → Cut (s ∷ past) later t → t.cause ≡ Came m → ⊥
        taken_none {t = t} c cause = go t.node refl (met c.after (t ∷ c.before) (c.whole ∙ e)).1.0
          where
            go : (k : Node) → t.node ≡ k → StepMeets script start firsts k c.before t → ⊥
            go (Host k) at m' = absurd (let z : ToServer ≡ ToHost = sym went.1 ∙ (m'.1 m cause).1 in cc)
            go (Server k) at m' =
                answered c cause (at ∙ ap Server (sym (m'.1 m cause).0 ∙ (sends.2 ∙ is_v)))

  pub hellos_none : (fuel : ℕ) (past later : List Step) (s : Step) → length later < fuel
      → appended (s ∷ later) past ≡ run → s.node ≡ Host host → SendsIt v Hello s → ⊥
  hellos_none zero past later s lt e node sends = absurd (omega (arith, lt))
  hellos_none (suc fuel) past later s lt e node (to, ep, mv, sends, is_v) =
      never past later s e node to ep mv sends is_v
      (λ p l t short whole at more. hellos_none fuel p l t
      (let x : length later < suc fuel = lt in omega (arith, short, x)) whole at more)

-- who greeted a server said Hello to it
greets : (v : ServerId) (e n : ℕ) (A : List Step) → Said A v e n Hello → WasSent v Hello A
greets v e n [] o = elim o [ ]
greets v e n (s ∷ A) (inl sends) = inl (v, e, n, sends, refl)
greets v e n (s ∷ A) (inr o) = inr (greets v e n A o)

pub greetings_are_answered : GreetingsAreAnswered
greetings_are_answered script journal q host live v n stays (greeted, unwelcome, none) =
    let f = found host (λ before s. SendsIt v Hello s) journal.steps
    (greets v greeted.0 greeted.1 (steps_of_host host (past_of journal)) greeted.2) in
    hellos_none script q.run.start (firsts_of journal) (λ u. from_one _) (past_of journal) q.run.steps
    (due_of script journal q.run q.dutiful) q.over q.none_held host live v stays unwelcome
    (zero_at_end script q.run.start (firsts_of journal) (λ u. from_one _) (past_of journal) q.run.steps
    (due_of script journal q.run q.dutiful) host v
    (λ come. unwelcome (is_welcome v (epoch_at (steps_of_host host (past_of journal)) v)
    (steps_of_host host (past_of journal)) come))
    (claims_are_answered script journal q host live v stays)) (suc (length f.after)) f.before f.after f.step
    (omega arith)
    f.whole f.node f.here
