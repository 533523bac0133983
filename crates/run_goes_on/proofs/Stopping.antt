-- A host that has stopped is live at no server, once all that was sent is over: each server has heard it.
use Rattle.std.proofs.Common.{List, Some, [], ap, inl, inr, refl, subst, sym, ℕ, ◌==◌, ◌∙◌, ◌∷◌, ◌≡◌}
use Rattle.base_types.specs.declared.ids.HostId.{HostId}
use Rattle.base_types.specs.declared.ids.Node.{Node}
use Rattle.base_types.specs.declared.ids.Node.TheVariants.{Host, Server}
use Rattle.base_types.specs.declared.ids.ServerId.{ServerId}
use Rattle.tree_answers.specs.declared.tree.Tree.{Tree}
use Rattle.script_lines.specs.declared.script.Deed.{Deed}
use Rattle.script_lines.specs.declared.script.Deed.TheVariants.{Stop}
use Rattle.script_lines.specs.declared.script.Line.{Line}
use Rattle.script_lines.specs.declared.script.Script.{Script}
use Rattle.message_types.specs.declared.message.Body.{Body}
use Rattle.message_types.specs.declared.message.Body.TheVariants.{Down, Hello}
use Rattle.message_types.specs.declared.message.Direction.{Direction}
use Rattle.message_types.specs.declared.message.Direction.TheVariants.{ToHost, ToServer}
use Rattle.message_types.specs.declared.message.Message.{Message}
use Rattle.run_rules.specs.Doings.{Doing, HasGoneAway, HasGoneDown, Hears, IsLive, Listed, after_cause, after_step}
use Rattle.run_rules.specs.Doings.{doings_of}
use Rattle.run_rules.specs.Doings.Doing.{BeginsEpoch, Took}
use Rattle.run_rules.specs.HostMay.{DoesLine, HostMay}
use Rattle.run_rules.specs.Messages.{HasStopped, Says, Sends}
use Rattle.run_rules.specs.Past.{In, Once, appended}
use Rattle.run_rules.specs.Plans.{kind_of, receiver_by}
use Rattle.run_rules.specs.Runs.{IsFrom, StepMeets, StepsMeet, TakesPart}
use Rattle.run_rules.specs.Steps.{IsNextLine, lines_of, servers_of, steps_of_host}
use Rattle.run_rules.specs.declared.step.Cause.{Cause}
use Rattle.run_rules.specs.declared.step.Cause.TheVariants.{Line as LineOf, Message as Came}
use Rattle.run_rules.specs.declared.step.Step.{Step}
use Rattle.run_tokens.proofs.Words.{acts_after, if_server}
use Rattle.run_goes_on.proofs.Arriving.{Found, from_cause, step_on}
use Rattle.run_goes_on.proofs.Positions.{Cut, cut, doings_on, server_doings, steps_back}
use Rattle.run_goes_on.proofs.Posted.{down_comes}
use Rattle.run_goes_on.specs.Rest.{AllIsOver, IsStopped, IsTakenIn, NoneIsHeld}

-- who is down has gone away
pub down_away : (S : List Doing) (h : HostId) → HasGoneDown S h → HasGoneAway S h
down_away [] h x = elim x [ ]
down_away (a ∷ S) h (inl x) = inl (inl x)
down_away (a ∷ S) h (inr x) = inr (down_away S h x)

-- a step that stops says Down to each server
stops_all : (script : Script) (host : HostId) (A : List Step) (s : Step) → HostMay script host A s → (u : ServerId)
    → Says s u Down → (v : ServerId) → In v (servers_of script.roster) → Says s v Down
stops_all script host A s may u (e, n, sends) v i = does.0 v i
  where
    stop : (n : ℕ) × (line : Line) × (s.cause ≡ LineOf n) × IsNextLine (lines_of script (Host host)) A n line
        × (line.deed ≡ Stop)
    stop = may.lines.stops (u, e, n, sends)

    next : (line : Line) × IsNextLine (lines_of script (Host host)) A stop.0 line
        × DoesLine (servers_of script.roster) A s line.deed
    next = may.lines.next stop.0 stop.2

    same : next.0 ≡ stop.1
    same =
        let first : Some next.0 ≡ Some stop.1 = sym next.1.0 ∙ stop.3.0 in
        cc

    does : DoesLine (servers_of script.roster) A s Stop
    does =
        subst (λ (d : Deed). DoesLine (servers_of script.roster) A s d)
        (ap (λ (l : Line). l.deed) same ∙ stop.4) next.2

module _ (script : Script) (start : Tree) (firsts : ServerId → ℕ) (run : List Step)
    (meets : StepsMeet script start firsts run) (over : AllIsOver script run) (none : NoneIsHeld script run)
    (host : HostId) (v : ServerId)
    (find : (P : List Step → Step → Type 0) → Once P (steps_of_host host run) → Found host P run) where
  abbrev acts : List Step → List Doing
  acts past = doings_of (firsts v) v past

  met : (l p : List Step) → appended l p ≡ run → StepsMeet script start firsts p
  met l p e = steps_back script start firsts l p e meets

  -- a server with a host on its list takes part
  takes_part : (l p : List Step) → appended l p ≡ run → Listed (acts p) host → In v (servers_of script.roster)
  takes_part l [] w listed = elim listed [
    | inl k ↦ (let q = k.0 in absurd (let z : BeginsEpoch (firsts v) ≡ Took host q.0 q.1 Hello = q.2 in cc))
    | inr k ↦ elim k [ ]
  ]
  takes_part l (s ∷ p) w listed = by s.node refl (met l (s ∷ p) w).1.2 (takes_part (s ∷ l) p w) listed
    where
      by : (k : Node) → s.node ≡ k → TakesPart script k → (Listed (acts p) host → In v (servers_of script.roster))
          → Listed (acts_after v k s (acts p)) host → In v (servers_of script.roster)
      by (Host k) at part old = old
      by (Server k) at part old =
          if_server (λ (S : List Doing). Listed S host → In v (servers_of script.roster)) k v (after_step s (acts p))
          (acts p) (λ same x. subst (λ (u : ServerId). In u (servers_of script.roster)) same part) old

  module _ (stopped : HasStopped (steps_of_host host run)) (part : In v (servers_of script.roster)) where
    f : Found host (λ before s. Sends s stopped.0 stopped.1 stopped.2 Down) run
    f = find (λ before s. Sends s stopped.0 stopped.1 stopped.2 Down) stopped.3

    says : Says f.step v Down
    says =
        stops_all script host (steps_of_host host f.before) f.step
        (subst (λ (k : Node). StepMeets script start firsts k f.before f.step) f.node
        (met f.after (f.step ∷ f.before) f.whole).1.0).0 stopped.0 (stopped.1, stopped.2, f.here) v part

    abbrev m : Message
    m = says.2.0

    from : (m.host ≡ host) × (m.direction ≡ ToServer)
    from =
        subst (λ (k : Node). IsFrom k m) f.node ((met f.after (f.step ∷ f.before) f.whole).1.3 m says.2.1).0

    taken : IsTakenIn f.after m
    taken =
        elim (down_comes script run over f.before f.after f.step f.whole m says.2.1
        (ap (λ (b : Body). kind_of b == 14) says.2.5)) [
          | inl t ↦ t
          | inr st ↦ absurd (subst (IsStopped run) (ap (λ (d : Direction). receiver_by d m) from.1) st)
        ]

    hears : {t : Step} → Cut (f.step ∷ f.before) f.after t → t.cause ≡ Came m → HasGoneDown (acts run) host
    hears {t = t} c cause = go t.node refl (met c.after (t ∷ c.before) whole).1.0
      where
        whole : appended (t ∷ c.after) c.before ≡ run
        whole = c.whole ∙ f.whole

        by_server : t.node ≡ Server v → HasGoneDown (acts run) host
        by_server at =
            subst (λ (L : List Step). HasGoneDown (acts L) host) whole
            (doings_on (firsts v) v (λ (S : List Doing). HasGoneDown S host)
            (λ S x o. step_on (λ before a. Hears a host Down) S x o) c.after (t ∷ c.before)
            (subst (λ (S : List Doing). HasGoneDown S host) (sym (server_doings (firsts v) v t c.before at))
            (from_cause (λ before a. Hears a host Down) (acts c.before) t
            (subst (λ (x : Cause). HasGoneDown (after_cause x (acts c.before)) host) (sym cause)
            (inl (m.epoch, m.moves, λ i. Took (from.0 i) m.epoch m.moves (says.2.5 i)))))))

        go : (k : Node) → t.node ≡ k → StepMeets script start firsts k c.before t → HasGoneDown (acts run) host
        go (Host k) at m' = absurd (let z : ToServer ≡ ToHost = sym from.1 ∙ (m'.1 m cause).1 in cc)
        go (Server k) at m' = by_server (at ∙ ap Server (sym (m'.1 m cause).0 ∙ says.2.2))

    pub down : HasGoneDown (acts run) host
    down = hears (cut f.after (f.step ∷ f.before) taken.0 taken.1) taken.2

  pub stopped_away : HasStopped (steps_of_host host run) → IsLive (acts run) host → ⊥
  stopped_away stopped lives =
      lives.1 (down_away (acts run) host (down stopped (takes_part [] run refl lives.0)))
