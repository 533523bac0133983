-- A host that is live at a server has reclaimed in its epoch, once all that was sent is over: no grace period stands.
use Rattle.std.proofs.Common.{Bool, List, [], ap, arith, false, inl, inr, length, refl, subst, suc, sym, true, zero, ℕ}
use Rattle.std.proofs.Common.{◌<◌, ◌∙◌, ◌∷◌, ◌≡◌, ◌≤◌, ◌⊎◌}
use Rattle.base_types.specs.declared.ids.HostId.{HostId}
use Rattle.base_types.specs.declared.ids.Node.{Node}
use Rattle.base_types.specs.declared.ids.Node.TheVariants.{Host, Server}
use Rattle.base_types.specs.declared.ids.ServerId.{ServerId}
use Rattle.tree_answers.specs.declared.tree.Tree.{Tree}
use Rattle.token_types.specs.declared.token.Token.{Token}
use Rattle.script_lines.specs.declared.script.Script.{Script}
use Rattle.message_types.specs.declared.giving.Reclaimed.{Reclaimed as ReclaimedOf}
use Rattle.message_types.specs.declared.message.Body.{Body}
use Rattle.message_types.specs.declared.message.Body.TheVariants.{Hello, Reclaimed, Restarted}
use Rattle.run_examples.proofs.ServerWords.{reclaimed, reclaimed_is, reclaimed_yes}
use Rattle.run_rules.specs.Doings.{Doing, Enlists, GoesAway, HasGoneAway, HasReclaimed, IsLive, Listed, ListedNow}
use Rattle.run_rules.specs.Doings.{SentNow, SentTo, after_cause, after_step, doings_of, epoch}
use Rattle.run_rules.specs.Doings.Doing.{Admits, BeginsEpoch, Took}
use Rattle.run_rules.specs.HostMay.{AwaitsReclaimed}
use Rattle.run_rules.specs.Messages.{ComesIn, HasGreeted, HasStopped, epoch_at}
use Rattle.run_rules.specs.Past.{Always, Once, appended}
use Rattle.run_rules.specs.Plans.{resender_by}
use Rattle.run_rules.specs.Runs.{CameToHost, IsFrom, StepDue, StepMeets, StepsMeet, firsts_of, past_of}
use Rattle.run_rules.specs.ServerDue.{ServerDue}
use Rattle.run_rules.specs.Steps.{steps_of_host, steps_of_server}
use Rattle.run_rules.specs.declared.step.Cause.{Cause}
use Rattle.run_rules.specs.declared.step.Cause.TheVariants.{End, Evict, Flushed, Freight, Lapse}
use Rattle.run_rules.specs.declared.step.Cause.TheVariants.{Line, Message as Came, Restart}
use Rattle.run_rules.specs.declared.step.Step.{Step}
use Rattle.run_tokens.proofs.Law.{Whole}
use Rattle.run_tokens.proofs.Words.{acts_after, epoch_grows, if_server}
use Rattle.run_goes_on.proofs.Answering.{claims_are_answered}
use Rattle.run_goes_on.proofs.Arriving.{Found, due_of, found, from_one, meets_at, step_on, whole_at}
use Rattle.run_goes_on.proofs.Doings.{above_first, epoch_step, sent_so}
use Rattle.run_goes_on.proofs.Grown.{grows_on, in_cause, in_caused, in_last, listed_on, listed_step}
use Rattle.run_goes_on.proofs.Hailing.{HasComeIn, listed_reclaims, says_reclaimed, zero_at_end}
use Rattle.run_goes_on.proofs.Positions.{Cut, cut, doings_on, host_steps, own_on, server_doings}
use Rattle.run_goes_on.proofs.Stopping.{stopped_away}
use Rattle.run_goes_on.proofs.Telling.{restarted_up, server_due, server_may, server_sends}
use Rattle.run_goes_on.specs.Rest.{AllIsOver, NoneIsHeld}
use Rattle.run_goes_on.specs.Waiting.{NoGracePeriodStands}

abbrev Reclaims : HostId → List Doing → Doing → Type 0
Reclaims h S a = ((tokens : List Token) × (a ≡ Admits h tokens)) ⊎ Enlists S a h

module _ (script : Script) (start : Tree) (firsts : ServerId → ℕ) (real : (v : ServerId) → 0 < firsts v)
    (run : List Step) (meets : StepsMeet script start firsts run)
    (due : Always (λ before s. StepDue script start firsts s.node before s) run) (over : AllIsOver script run)
    (none : NoneIsHeld script run) (host : HostId) (live : HasStopped (steps_of_host host run) → ⊥) (v : ServerId)
    (lives : IsLive (doings_of (firsts v) v run) host) (fresh : HasReclaimed (doings_of (firsts v) v run) host → ⊥)
    (idle : AwaitsReclaimed (steps_of_host host run) v → ⊥)
    (find : (P : List Step → Step → Type 0) → Once P (steps_of_host host run) → Found host P run) where
  abbrev own : List Step → List Step
  own past = steps_of_host host past

  abbrev acts : List Step → List Doing
  acts past = doings_of (firsts v) v past

  met : (l p : List Step) → appended l p ≡ run → StepsMeet script start firsts p
  met l p e = meets_at script start firsts real run meets due over none l p e

  all : (l p : List Step) → appended l p ≡ run → Whole (λ h. steps_of_host h p) (λ u. doings_of (firsts u) u p)
  all l p e = whole_at script start firsts real run meets due over none l p e

  due_then : (l p : List Step) (t : Step) → appended (t ∷ l) p ≡ run → t.node ≡ Server v
      → ServerDue script start v (steps_of_server v p) (acts p) t
  due_then = server_due script start firsts real run meets due over none host live v

  here_yet : (l p : List Step) → appended l p ≡ run → HasGoneAway (acts p) host → ⊥
  here_yet l p e gone =
      lives.1 (subst (λ (L : List Step). HasGoneAway (acts L) host) e
      (doings_on (firsts v) v (λ (S : List Doing). HasGoneAway S host)
      (λ S t o. step_on (λ before a. GoesAway before a host) S t o) l p gone))

  upto : (l p : List Step) → appended l p ≡ run → epoch (acts p) ≤ epoch (acts run)
  upto l p e = subst (λ (L : List Step). epoch (acts p) ≤ epoch (acts L)) e (grows_on firsts v l p)

  -- it hasn't reclaimed in the last epoch before either
  fresh_at : (l p : List Step) → appended l p ≡ run → epoch (acts run) ≤ epoch (acts p)
      → HasReclaimed (acts p) host → ⊥
  fresh_at l p e le r =
      fresh (subst (λ (L : List Step). HasReclaimed (acts L) host) e
      (in_last firsts v (Reclaims host) l p
      (subst (λ (L : List Step). epoch (acts L) ≤ epoch (acts p)) (sym e) le) r))

  -- # It was told when the last epoch began
  record Tells (e : ℕ) : Type 0 where
    pub before : List Step
    pub rest : List Step
    pub step : Step
    pub whole : appended (step ∷ rest) before ≡ run
    pub at : step.node ≡ Server v
    pub sent : SentNow step host Restarted
    pub epoch_is : epoch (after_cause step.cause (acts before)) ≡ e

  abbrev IsTold : List Doing → Type 0
  IsTold S = Listed S host → (ListedNow S host → ⊥) → Tells (epoch S)

  server_told : (l p : List Step) (s : Step) → appended (s ∷ l) p ≡ run → s.node ≡ Server v → IsTold (acts p)
      → IsTold (after_step s (acts p))
  server_told l p s w at old listed unlisted = elim (listed_step host s (acts p) listed) [
    | inr now ↦ absurd (unlisted now)
    | inl was ↦ by s.cause refl was
  ]
    where
      stays : epoch (after_cause s.cause (acts p)) ≡ epoch (acts p) → Listed (acts p) host
          → Tells (epoch (after_step s (acts p)))
      stays same was =
          subst Tells (sym (epoch_step s (acts p) ∙ same)) (old was (λ now. unlisted
          (in_caused (λ before a. Enlists before a host) s (acts p)
          (in_cause (λ before a. Enlists before a host) s.cause (acts p) same now))))

      steady : (c : Cause) → s.cause ≡ c → epoch (after_cause c (acts p)) ≡ epoch (acts p)
          → epoch (after_cause s.cause (acts p)) ≡ epoch (acts p)
      steady c is same = ap (λ (x : Cause). epoch (after_cause x (acts p))) is ∙ same

      by : (c : Cause) → s.cause ≡ c → Listed (acts p) host → Tells (epoch (after_step s (acts p)))
      by (Restart line) is was = record {
        before = p;
        rest = l;
        step = s;
        whole = w;
        at = at;
        sent = (due_then l p s w at).answers.restarted line host is (was, here_yet (s ∷ l) p w);
        epoch_is = sym (epoch_step s (acts p));
      }
      by (Came m) is was = stays (steady (Came m) is refl) was
      by Flushed is was = stays (steady Flushed is refl) was
      by (Line line) is was = stays (steady (Line line) is refl) was
      by Lapse is was = stays (steady Lapse is refl) was
      by Evict is was = stays (steady Evict is refl) was
      by (Freight freight) is was = stays (steady (Freight freight) is refl) was
      by End is was = stays (steady End is refl) was

  told_at : (l p : List Step) → appended l p ≡ run → IsTold (acts p)
  told_at l [] w = λ listed unlisted. elim listed [
    | inl k ↦ (let q = k.0 in absurd (let z : BeginsEpoch (firsts v) ≡ Took host q.0 q.1 Hello = q.2 in cc))
    | inr k ↦ elim k [ ]
  ]
  told_at l (s ∷ p) w = by s.node refl (told_at (s ∷ l) p w)
    where
      by : (k : Node) → s.node ≡ k → IsTold (acts p) → IsTold (acts_after v k s (acts p))
      by (Host k) at old = old
      by (Server k) at old =
          if_server IsTold k v (after_step s (acts p)) (acts p)
          (λ e. server_told l p s w (at ∙ ap Server e) old) old

  -- # And it has heard it
  own_grows : (l p : List Step) → appended l p ≡ run → epoch_at (own p) v ≤ epoch_at (own run) v
  own_grows l p e =
      subst (λ (L : List Step). epoch_at (own p) v ≤ epoch_at (own L) v) e
      (own_on host (λ (L : List Step). epoch_at (own p) v ≤ epoch_at L v)
      (λ A x q. (let grows = epoch_grows A x v in omega (arith, q, grows))) l p (omega arith))

  hears_round : (t : Tells (epoch (acts run)))
      → ((k : Tells (epoch (acts run))) → length k.rest < length t.rest → epoch (acts run) ≤ epoch_at (own run) v)
      → epoch (acts run) ≤ epoch_at (own run) v
  hears_round t next =
      elim (server_sends script start firsts real run meets due over none host live v t.rest t.before t.step t.whole
      t.at
      t.sent.0 t.sent.1 t.sent.2 (Server t.sent.0.server) (ap (λ (b : Body). resender_by b t.sent.0) t.sent.3)
      (λ st. st)) [
        | inl lapses ↦ lapsing (cut t.rest (t.step ∷ t.before) lapses.0 lapses.1) lapses.2 lapses.3
        | inr taken ↦ raising (cut t.rest (t.step ∷ t.before) taken.0 taken.1) taken.2 taken.3
      ]
    where
      from : t.sent.0.server ≡ v
      from =
          (subst (λ (k : Node). IsFrom k t.sent.0) t.at
          ((met t.rest (t.step ∷ t.before) t.whole).1.3 t.sent.0 t.sent.1).0).0

      raising : {u : Step} → Cut (t.step ∷ t.before) t.rest u → u.cause ≡ Came t.sent.0 → u.node ≡ Host host
          → epoch (acts run) ≤ epoch_at (own run) v
      raising {u = u} c cause node_u =
          let is_e = (sent_so v t.step (acts t.before)
          (server_may script start firsts real run meets due over none host live v t.rest t.before t.step t.whole
          t.at).tokens t.sent.0 t.sent.1).2 in
          let same = t.epoch_is in
          let ups = restarted_up v (own c.before) u t.sent.0 cause from t.sent.3 in
          let le = subst (λ (L : List Step). epoch_at L v ≤ epoch_at (own run) v) (host_steps host u c.before node_u)
          (own_grows c.after (u ∷ c.before) (c.whole ∙ t.whole)) in
          omega (arith, is_e, same, ups, le)

      lapsing : {u : Step} → Cut (t.step ∷ t.before) t.rest u → u.node ≡ Server t.sent.0.server → u.cause ≡ Lapse
          → epoch (acts run) ≤ epoch_at (own run) v
      lapsing {u = u} c node_m lapse =
          next (record {
            before = c.before;
            rest = c.after;
            step = u;
            whole = whole;
            at = node_u;
            sent = (due_then c.after c.before u whole node_u).answers.restarted_again host lapse
                (listed, here_yet (u ∷ c.after) c.before whole)
                (fresh_at (u ∷ c.after) c.before whole late);
            epoch_is = (
                let le = upto (u ∷ c.after) c.before whole in
                let same : epoch (after_cause u.cause (acts c.before)) ≡ epoch (acts c.before) =
                ap (λ (x : Cause). epoch (after_cause x (acts c.before))) lapse in
                let ge = late in
                omega (arith, le, ge, same));
          }) c.short
        where
          whole : appended (u ∷ c.after) c.before ≡ run
          whole = c.whole ∙ t.whole

          node_u : u.node ≡ Server v
          node_u = node_m ∙ ap Server from

          late : epoch (acts run) ≤ epoch (acts c.before)
          late =
              let then : epoch (acts (t.step ∷ t.before)) ≡ epoch (acts run) =
              ap epoch (server_doings (firsts v) v t.step t.before t.at)
              ∙ (epoch_step t.step (acts t.before) ∙ t.epoch_is) in
              let up : epoch (acts (t.step ∷ t.before)) ≤ epoch (acts c.before) =
              subst (λ (L : List Step). epoch (acts (t.step ∷ t.before)) ≤ epoch (acts L)) (sym c.grown)
              (grows_on firsts v c.between (t.step ∷ t.before)) in
              omega (arith, then, up)

          listed : Listed (acts c.before) host
          listed =
              subst (λ (L : List Step). Listed (acts L) host) (sym c.grown)
              (listed_on firsts v host c.between (t.step ∷ t.before)
              (listed_on firsts v host (t.step ∷ []) t.before
              ((due_then t.rest t.before t.step t.whole t.at).answers.restarted_only host t.sent).0.0))

  hears : (fuel : ℕ) (t : Tells (epoch (acts run))) → length t.rest < fuel
      → epoch (acts run) ≤ epoch_at (own run) v
  hears zero t lt = absurd (omega (arith, lt))
  hears (suc fuel) t lt =
      hears_round t (λ k short. hears fuel k
      (let x : length t.rest < suc fuel = lt in omega (arith, x, short)))

  told_end : Tells (epoch (acts run))
  told_end = told_at [] run refl lives.0 (λ now. fresh (listed_reclaims (acts run) host now))

  is_last : epoch_at (own run) v ≡ epoch (acts run)
  is_last =
      let ge = hears (suc (length told_end.rest)) told_end (omega arith) in
      let le = (((all [] run refl).at v).link host).behind in
      omega (arith, ge, le)

  abbrev ItComes : List Step → Step → Type 0
  ItComes before s =
      HasGreeted before v × (epoch_at (s ∷ before) v ≡ epoch_at (own run) v)
      × ((answer : ReclaimedOf) × ComesIn s v (epoch_at (own run) v) 0 (Reclaimed answer))

  -- so a Reclaimed of the last epoch came, and the server has said it to a host that has reclaimed
  come_not : HasComeIn v (epoch_at (own run) v) (own run) → ⊥
  come_not come = fresh_at (f.step ∷ f.after) f.before f.whole late reclaims
    where
      f : Found host ItComes run
      f = find ItComes come

      came : CameToHost firsts host f.before f.step
      came = (subst (λ (n : Node). StepMeets script start firsts n f.before f.step) f.node
          (met f.after (f.step ∷ f.before) f.whole).1.0).1

      answer : ReclaimedOf
      answer = f.here.2.0

      comes : ComesIn f.step v (epoch_at (own run) v) 0 (Reclaimed answer)
      comes = f.here.2.1

      sent : SentTo (acts f.before) host comes.0.epoch comes.0.moves (Reclaimed answer)
      sent =
          let server : comes.0.server ≡ v = comes.2 in
          let body : comes.0.body ≡ Reclaimed answer = comes.5 in
          subst (λ (y : ServerId × Body). SentTo (doings_of
          (firsts y.0) y.0 f.before) host comes.0.epoch comes.0.moves y.1)
          (λ i. (server i, body i)) (came comes.0 comes.1).2

      late : epoch (acts run) ≤ epoch (acts f.before)
      late =
          let le = ((all (f.step ∷ f.after) f.before f.whole).at v).served.sent_epoch host comes.0.epoch comes.0.moves
          (Reclaimed answer) sent in
          let at : comes.0.epoch ≡ epoch_at (own run) v = comes.3 in
          let last = is_last in
          omega (arith, le, at, last)

      reclaims : HasReclaimed (acts f.before) host
      reclaims =
          (says_reclaimed script start firsts real run meets due host v (f.step ∷ f.after) f.before f.whole).now
          (here_yet (f.step ∷ f.after) f.before f.whole) comes.0.epoch comes.0.moves answer sent
          (
          let le = upto (f.step ∷ f.after) f.before f.whole in
          let ge = late in
          let at : comes.0.epoch ≡ epoch_at (own run) v = comes.3 in
          let last = is_last in
          omega (arith, le, ge, at, last)
          )

  pub reclaims_else : ⊥
  reclaims_else =
      let zero_now = zero_at_end script start firsts real run meets due host v come_not idle in
      let last = is_last in
      let up = above_first script start firsts real run v in
      absurd (omega (arith, zero_now, last, up))

-- whether a host has reclaimed is computed
is_reclaimed : (S : List Doing) (h : HostId) → ((HasReclaimed S h → ⊥) → ⊥) → HasReclaimed S h
is_reclaimed S h some = go (reclaimed S h) refl
  where
    go : (b : Bool) → reclaimed S h ≡ b → HasReclaimed S h
    go true e = reclaimed_yes S h e
    go false e = absurd (some (λ r. (let z : true ≡ false = sym (reclaimed_is S h r) ∙ e in cc)))

-- a host that has stopped is live at no server
pub no_grace_period_stands : NoGracePeriodStands
no_grace_period_stands script journal q v host lives =
    is_reclaimed (doings_of (firsts_of journal v) v (past_of journal)) host (λ fresh.
    reclaims_else script q.run.start (firsts_of journal) (λ u. from_one _) (past_of journal) q.run.steps
    (due_of script journal q.run q.dutiful) q.over q.none_held host
    (λ stopped. stopped_away script q.run.start (firsts_of journal)
    (past_of journal) q.run.steps q.over q.none_held host
    v (λ P o. found host P journal.steps o) stopped lives) v lives fresh
    (claims_are_answered script journal q host
    (λ stopped. stopped_away script q.run.start (firsts_of journal)
    (past_of journal) q.run.steps q.over q.none_held host
    v (λ P o. found host P journal.steps o) stopped lives) v lives.1) (λ P o. found host P journal.steps o))
