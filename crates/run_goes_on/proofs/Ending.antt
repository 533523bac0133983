-- A run in which nothing more can happen is ended; but where a flag is waited for, or a move.
use Rattle.std.proofs.Common.{Bool, List, [], arith, false, if◌then◌else◌, inl, inr, length, refl, subst, sym, true, ℕ}
use Rattle.std.proofs.Common.{◌+◌, ◌<◌, ◌==◌, ◌∙◌, ◌∷◌, ◌≡◌, ◌≤◌}
use Rattle.std.proofs.lemmas.Bool.{eqb-true, false≢true}
use Rattle.std.proofs.lemmas.Option.{slice_get_cases, slice_get_within}
use Rattle.base_types.specs.declared.ids.HostId.{HostId}
use Rattle.base_types.specs.declared.ids.Node.{Node}
use Rattle.base_types.specs.declared.ids.Node.TheVariants.{Host, Server}
use Rattle.base_types.specs.declared.ids.ServerId.{ServerId}
use Rattle.tree_answers.specs.declared.tree.Tree.{Tree}
use Rattle.script_lines.specs.Sound.{IsSound}
use Rattle.script_lines.specs.declared.script.Line.{Line}
use Rattle.script_lines.specs.declared.script.Script.{Script}
use Rattle.message_types.specs.declared.message.Body.{Body}
use Rattle.message_types.specs.declared.message.Body.TheVariants.{Bye, Hello}
use Rattle.message_types.specs.declared.message.Message.{Message}
use Rattle.run_examples.proofs.ServerWords.{away, away_is, away_yes}
use Rattle.run_rules.specs.Doings.{Doing, GoesAway, HasGoneAway, HasGoneDown, HeardNow, IsLive}
use Rattle.run_rules.specs.Doings.{Listed, SentNow, SentTo, TakenNow}
use Rattle.run_rules.specs.Doings.{after_cause, after_step, doings_of}
use Rattle.run_rules.specs.Doings.Doing.{BeginsEpoch, Sent, Took}
use Rattle.run_rules.specs.Messages.{ComesIn, HasBye, HasGreeted, Said, Sends}
use Rattle.run_rules.specs.Past.{Always}
use Rattle.run_rules.specs.Runs.{CameToHost, CameToServer, HostIsDone, StepDue, StepMeets, StepsMeet, TakesPart}
use Rattle.run_rules.specs.Runs.{firsts_of, past_of}
use Rattle.run_rules.specs.ServerDue.{ServerLines}
use Rattle.run_rules.specs.ServerMay.{ServerMay}
use Rattle.run_rules.specs.Steps.{goes_with, is_node, lines_gone, lines_of, servers_of}
use Rattle.run_rules.specs.Steps.{setup, steps_of_host, steps_of_server}
use Rattle.run_rules.specs.declared.journal.Journal.{Journal}
use Rattle.run_rules.specs.declared.step.Cause.{Cause}
use Rattle.run_rules.specs.declared.step.Cause.TheVariants.{End, Evict, Flushed, Freight}
use Rattle.run_rules.specs.declared.step.Cause.TheVariants.{Lapse, Line as LineOf, Message as Came}
use Rattle.run_rules.specs.declared.step.Cause.TheVariants.{Restart}
use Rattle.run_rules.specs.declared.step.Step.{Step}
use Rattle.run_rules.specs.Past.{In}
use Rattle.run_tokens.proofs.Words.{acts_after, if_server}
use Rattle.run_goes_on.proofs.Arriving.{Found, due_of, found, from_cause, from_one, step_on}
use Rattle.run_goes_on.proofs.Calling.{welcome_of_bye}
use Rattle.run_goes_on.proofs.Closing.{has_stopped, stopped_gone}
use Rattle.run_goes_on.proofs.Doings.{heard, listed_said}
use Rattle.run_goes_on.proofs.Done.{hosts_are_done}
use Rattle.run_goes_on.proofs.Grown.{sent_split}
use Rattle.run_goes_on.proofs.Hailing.{on_list}
use Rattle.run_goes_on.proofs.Positions.{always_back, doings_on, own_run, steps_back}
use Rattle.run_goes_on.proofs.Shutting.{no_calls_are_open}
use Rattle.run_goes_on.proofs.Stopping.{down, down_away}
use Rattle.run_goes_on.specs.Ended.{LocksBytes, NoMoveWaits, RunsEnd}
use Rattle.run_goes_on.specs.Rest.{RunRests}
use Rattle.run_goes_on.specs.Resting.{NoneAwaits}
use Rattle.run_goes_on.specs.Waiting.{IsQuiet}

-- # A server's Bye goes to a host that has gone away there
module _ (script : Script) (start : Tree) (firsts : ServerId → ℕ) (real : (v : ServerId) → 0 < firsts v)
    (host : HostId) (v : ServerId) where
  abbrev acts : List Step → List Doing
  acts past = doings_of (firsts v) v past

  abbrev Dues : List Step → Type 0
  Dues past = Always (λ before s. StepDue script start firsts s.node before s) past

  -- the Bye that a step answers
  module _ (p : List Step) (met : StepsMeet script start firsts p) (due : Dues p) (s : Step)
      (may : ServerMay script start v (steps_of_server v p) (acts p) s) (came : CameToServer v p s) where
    listed_of : HeardNow s host Bye → Listed (acts p) host
    listed_of (w, cause, is, body) =
        (on_list script start firsts real p met due host v [] p refl
        (welcome_of_bye script start firsts p met due host v (w.epoch, w.moves, said))).listed.0
      where
        said : Said (steps_of_host host p) v w.epoch w.moves Bye
        said =
            subst (λ (y : HostId × Body). Said (steps_of_host y.0 p) v w.epoch w.moves y.1) (λ i. (is i, body i))
            (came w cause).2

    byes_away : SentNow s host Bye → HasGoneAway (after_step s (acts p)) host
    byes_away sent = go (away (acts p) host) refl
      where
        k : HeardNow s host Bye × (HasGoneDown (acts p) host → ⊥)
            × (IsLive (acts p) host → (n : ℕ) × TakenNow (acts p) s host n Bye)
        k = may.answers.bye_only host sent

        takes : IsLive (acts p) host → (n : ℕ) × TakenNow (acts p) s host n Bye
            → HasGoneAway (after_cause s.cause (acts p)) host
        takes lives (n, ((m, cause, is, ep, mv, body), live)) =
            subst (λ (c : Cause). HasGoneAway (after_cause c (acts p)) host) (sym cause)
            (inl (inr ((n, λ i. Took (is i) (ep i) (mv i) (body i)), lives.0, k.1)))

        go : (b : Bool) → away (acts p) host ≡ b → HasGoneAway (after_step s (acts p)) host
        go true e =
            step_on (λ before a. GoesAway before a host) (acts p) s (away_yes (acts p) host e)
        go false e =
            let lives : IsLive (acts p) host =
            (listed_of k.0, λ gone. false≢true (sym e ∙ away_is (acts p) host gone)) in
            from_cause (λ before a. GoesAway before a host) (acts p) s (takes lives (k.2 lives))

  bye_at : (k : Node) (p : List Step) (s : Step) (e n : ℕ) → StepsMeet script start firsts p → Dues p
      → StepMeets script start firsts k p s → (SentTo (acts p) host e n Bye → HasGoneAway (acts p) host)
      → SentTo (acts_after v k s (acts p)) host e n Bye → HasGoneAway (acts_after v k s (acts p)) host
  bye_at (Host k) p s e n met due m old = old
  bye_at (Server k) p s e n met due m old =
      if_server (λ (S : List Doing). SentTo S host e n Bye → HasGoneAway S host) k v (after_step s (acts p)) (acts p)
      mine old
    where
      mine : k ≡ v → SentTo (after_step s (acts p)) host e n Bye → HasGoneAway (after_step s (acts p)) host
      mine same sent = elim (sent_split host e n Bye s (acts p) sent) [
        | inl was ↦ step_on (λ before a. GoesAway before a host) (acts p) s (old was)
        | inr now ↦ byes_away p met due s its.0 its.1 (now.0, now.1, now.2, now.5)
      ]
        where
          its : ServerMay script start v (steps_of_server v p) (acts p) s × CameToServer v p s
          its = subst (λ (u : ServerId). StepMeets script start firsts (Server u) p s) same m

  pub bye_away : (p : List Step) (e n : ℕ) → StepsMeet script start firsts p → Dues p
      → SentTo (acts p) host e n Bye → HasGoneAway (acts p) host
  bye_away [] e n met due (inl q) = absurd (let z : BeginsEpoch (firsts v) ≡ Sent host e n Bye = q in cc)
  bye_away [] e n met due (inr o) = elim o [ ]
  bye_away (s ∷ p) e n met due sent =
      bye_at s.node p s e n met.0 due.0 met.1.0 (bye_away p e n met.0 due.0) sent

-- # A server's lines
module _ (script : Script) (v : ServerId) where
  line_by : (A : List Step) (s : Step) → ServerLines (lines_of script (Server v)) A s → (c : Cause) → s.cause ≡ c
      → lines_gone A ≤ length (lines_of script (Server v))
      → goes_with c + lines_gone A ≤ length (lines_of script (Server v))
  line_by A s m (LineOf n) e le =
      let next = (m.bare n e).1 in
      let within : lines_gone A < length (lines_of script (Server v)) =
      slice_get_within (lines_of script (Server v)) (lines_gone A) next.0 next.1.0 in
      let goal : 1 + lines_gone A ≤ length (lines_of script (Server v)) = omega (arith, within) in goal
  line_by A s m (Restart n) e le =
      let next = m.restarts n e in
      let within : lines_gone A < length (lines_of script (Server v)) =
      slice_get_within (lines_of script (Server v)) (lines_gone A) next.0 next.1.0 in
      let goal : 1 + lines_gone A ≤ length (lines_of script (Server v)) = omega (arith, within) in goal
  line_by A s m Flushed e le =
      let goal : 0 + lines_gone A ≤ length (lines_of script (Server v)) = omega (arith, le) in goal
  line_by A s m (Came x) e le =
      let goal : 0 + lines_gone A ≤ length (lines_of script (Server v)) = omega (arith, le) in goal
  line_by A s m Lapse e le =
      let goal : 0 + lines_gone A ≤ length (lines_of script (Server v)) = omega (arith, le) in goal
  line_by A s m Evict e le =
      let goal : 0 + lines_gone A ≤ length (lines_of script (Server v)) = omega (arith, le) in goal
  line_by A s m (Freight freight) e le =
      let goal : 0 + lines_gone A ≤ length (lines_of script (Server v)) = omega (arith, le) in goal
  line_by A s m End e le =
      let goal : 0 + lines_gone A ≤ length (lines_of script (Server v)) = omega (arith, le) in goal

  module _ (start : Tree) (firsts : ServerId → ℕ) where
    abbrev AtMost : List Step → Type 0
    AtMost A = lines_gone A ≤ length (lines_of script (Server v))

    either : (b : Bool) (new old : List Step) → (b ≡ true → AtMost new) → AtMost old → AtMost (if b then new else old)
    either true new old n o = n refl
    either false new old n o = o

    line_at : (k : Node) (p : List Step) (s : Step) → StepDue script start firsts k p s → AtMost (steps_of_server v p)
        → AtMost (if is_node k (Server v) then s ∷ steps_of_server v p else steps_of_server v p)
    line_at (Host k) p s due le = le
    line_at (Server k) p s due le =
        either (k.0 == v.0) (s ∷ steps_of_server v p) (steps_of_server v p)
        (λ e. (
        let same : k.0 ≡ v.0 = eqb-true k.0 v.0 e in
        let its = subst (λ (u : ServerId). StepDue script start firsts (Server u) p s)
        (λ i. record { 0 = same i }) due in
        line_by (steps_of_server v p) s its.lines s.cause refl le
        )) le

    lines_at_most : (p : List Step) → Always (λ before s. StepDue script start firsts s.node before s) p
        → AtMost (steps_of_server v p)
    lines_at_most [] due = omega arith
    lines_at_most (s ∷ p) due = line_at s.node p s due.1 (lines_at_most p due.0)

-- # The run is ended
module _ (script : Script) (journal : Journal) (sound : IsSound script)
    (locks : LocksBytes script) (q : IsQuiet script journal) (rests : RunRests script journal)
    (awaits : NoneAwaits script (past_of journal)) (still : NoMoveWaits journal) where
  abbrev run : List Step
  run = past_of journal

  abbrev firsts : ServerId → ℕ
  firsts = firsts_of journal

  dues : Always (λ before s. StepDue script q.run.start firsts s.node before s) run
  dues = due_of script journal q.run q.dutiful

  host_done : (host : HostId) → TakesPart script (Host host) → ((host ≡ setup → ⊥) → HostIsDone script setup run)
      → HostIsDone script host run
  host_done host part done = elim (has_stopped (steps_of_host host run)) [
    | inl stopped ↦ (
      stopped_gone script sound host (steps_of_host host run)
          (own_run script q.run.start firsts run q.run.steps host) stopped,
      inl stopped,
    )
    | inr live ↦ hosts_are_done script journal q rests awaits host part live
        (no_calls_are_open script journal q rests still sound locks host live) done
  ]

  setup_done : HostIsDone script setup run
  setup_done = host_done setup (omega arith) (λ other. absurd (other refl))

  all_done : (host : HostId) → TakesPart script (Host host) → HostIsDone script host run
  all_done host part = host_done host part (λ other. setup_done)

  lines_done : (v : ServerId) → In v (servers_of script.roster)
      → lines_gone (steps_of_server v run) ≡ length (lines_of script (Server v))
  lines_done v part =
      elim (slice_get_cases (lines_of script (Server v)) (lines_gone (steps_of_server v run))).1 [
        | inl next ↦ (
            let line : Line = next.0 in
            absurd (rests.lines (Server v) line part (record {
              next = (next.2, refl);
              met = λ flag is. awaits (Server v) line flag part (next.2, refl) is;
              free = λ h same. absurd (let z : Server v ≡ Host h = same in cc);
            }))
            )
        | inr past ↦ (
            let over = past.0 in
            let most = lines_at_most script v q.run.start firsts run dues in
            omega (arith, over, most)
            )
      ]

  module _ (v : ServerId) (host : HostId) (listed : Listed (doings_of (firsts v) v run) host)
      (part : In v (servers_of script.roster)) where
    greeted : HasGreeted (steps_of_host host run) v
    greeted =
        let k = listed_said (doings_of (firsts v) v run) host listed in
        (k.0, k.1, heard script q.run.start firsts (λ u. from_one _) host k.0 k.1 Hello v run q.run.steps k.2)

    -- a host that has greeted takes part
    host_part : TakesPart script (Host host)
    host_part =
        subst (TakesPart script) f.node
        (steps_back script q.run.start firsts f.after (f.step ∷ f.before) f.whole q.run.steps).1.2
      where
        f : Found host (λ before s. Sends s v greeted.0 greeted.1 Hello) run
        f = found host (λ before s. Sends s v greeted.0 greeted.1 Hello) journal.steps greeted.2

    -- where a server's Bye has come to it, it has gone away there
    by_bye : HasBye (steps_of_host host run) v → HasGoneAway (doings_of (firsts v) v run) host
    by_bye bye =
        subst (λ (L : List Step). HasGoneAway (doings_of (firsts v) v L) host) f.whole
        (doings_on (firsts v) v (λ (S : List Doing). HasGoneAway S host)
        (λ S x o. step_on (λ before a. GoesAway before a host) S x o) (f.step ∷ f.after) f.before
        (bye_away script q.run.start firsts (λ u. from_one _) host v f.before m.epoch m.moves met.0 due.0 sent))
      where
        f : Found host (λ before s. (e n : ℕ) × ComesIn s v e n Bye) run
        f = found host (λ before s. (e n : ℕ) × ComesIn s v e n Bye) journal.steps bye

        m : Message
        m = f.here.2.0

        met : StepsMeet script q.run.start firsts (f.step ∷ f.before)
        met = steps_back script q.run.start firsts f.after (f.step ∷ f.before) f.whole q.run.steps

        due : Always (λ before s. StepDue script q.run.start firsts s.node before s) (f.step ∷ f.before)
        due =
            always_back (λ before s. StepDue script q.run.start firsts s.node before s) f.after (f.step ∷ f.before)
            (subst (Always (λ before s. StepDue script q.run.start firsts s.node before s)) (sym f.whole) dues)

        came : CameToHost firsts host f.before f.step
        came = (subst (λ (k : Node). StepMeets script q.run.start firsts k f.before f.step) f.node met.1.0).1

        sent : SentTo (doings_of (firsts v) v f.before) host m.epoch m.moves Bye
        sent =
            subst (λ (y : ServerId × Body). SentTo (doings_of (firsts y.0) y.0 f.before) host m.epoch m.moves y.1)
            (λ i. (f.here.2.2 i, f.here.2.5 i)) (came m f.here.2.1).2

    gone : HasGoneAway (doings_of (firsts v) v run) host
    gone = elim (all_done host host_part).1 [
      | inl stopped ↦ down_away (doings_of (firsts v) v run) host
          (down script q.run.start firsts run q.run.steps q.over q.none_held host v
          (λ P o. found host P journal.steps o) stopped part)
      | inr byes ↦ by_bye (byes v greeted)
    ]

pub runs_end : RunsEnd
runs_end script journal sound locks q rests awaits still = record {
  hosts = all_done script journal sound locks q rests awaits still;
  lines = lines_done script journal sound locks q rests awaits still;
  servers = λ v host part listed. gone script journal sound locks q rests awaits still v host listed part;
}
