-- A Bye of a host is answered, once all that was sent is over.
use Rattle.std.proofs.Common.{List, [], ap, arith, inl, inr, length, refl, subst, suc, sym, zero, ℕ}
use Rattle.std.proofs.Common.{◌<◌, ◌∙◌, ◌∷◌, ◌≡◌, ◌≤◌, ◌⊎◌}
use Rattle.base_types.specs.declared.ids.HostId.{HostId}
use Rattle.base_types.specs.declared.ids.Node.{Node}
use Rattle.base_types.specs.declared.ids.Node.TheVariants.{Host, Server}
use Rattle.base_types.specs.declared.ids.ServerId.{ServerId}
use Rattle.tree_answers.specs.declared.tree.Tree.{Tree}
use Rattle.script_lines.specs.declared.script.Script.{Script}
use Rattle.message_types.specs.declared.giving.Reclaimed.{Reclaimed as ReclaimedOf}
use Rattle.message_types.specs.declared.message.Body.{Body}
use Rattle.message_types.specs.declared.message.Body.TheVariants.{Bye, Down, Hello, Reclaimed}
use Rattle.message_types.specs.declared.message.Direction.TheVariants.{ToHost, ToServer}
use Rattle.message_types.specs.declared.message.Message.{Message}
use Rattle.run_rules.specs.Doings.{Doing, GoesAway, HasGoneAway, HasGoneDown, Hears, IsLive, SentNow, TakenNow}
use Rattle.run_rules.specs.Doings.{after_cause, after_step, doings_of, epoch}
use Rattle.run_rules.specs.Doings.Doing.{Gets}
use Rattle.run_rules.specs.Doings.Doing.{BeginsEpoch, Flushes, Took}
use Rattle.run_rules.specs.HostDue.{HostDue}
use Rattle.run_rules.specs.HostMay.{AwaitsReclaimed, HostMay}
use Rattle.run_rules.specs.Messages.{Comes, HasBye, HasGreeted, HasSaid, HasStopped, IsWelcome, Says, Sends, epoch_at}
use Rattle.run_rules.specs.Past.{Always, Once, appended}
use Rattle.run_rules.specs.Plans.{resender_by}
use Rattle.run_rules.specs.Runs.{IsFrom, StepDue, StepMeets, StepsMeet, firsts_of, past_of}
use Rattle.run_rules.specs.ServerDue.{ServerDue}
use Rattle.run_rules.specs.Steps.{steps_of_host, steps_of_server}
use Rattle.run_rules.specs.declared.step.Cause.{Cause}
use Rattle.run_rules.specs.declared.step.Cause.TheVariants.{End, Evict, Flushed, Freight, Lapse}
use Rattle.run_rules.specs.declared.step.Cause.TheVariants.{Line, Message as Came, Restart}
use Rattle.run_rules.specs.declared.step.Step.{Step}
use Rattle.run_tokens.proofs.Law.{Whole}
use Rattle.run_tokens.proofs.Words.{acts_after, if_host, if_server, own_after}
use Rattle.run_goes_on.proofs.Answering.{claims_are_answered}
use Rattle.run_goes_on.proofs.Arriving.{due_at, due_of, found, from_cause, from_one, host_sends, meets_at, step_on}
use Rattle.run_goes_on.proofs.Arriving.{whole_at}
use Rattle.run_goes_on.proofs.Calling.{byes_welcome}
use Rattle.run_goes_on.proofs.Claiming.{IsOnList, acts_later, own_later}
use Rattle.run_goes_on.proofs.Doings.{TookIt, epoch_after_cause, heard, listed_said}
use Rattle.run_goes_on.proofs.Grown.{once_step}
use Rattle.run_goes_on.proofs.Hailing.{on_list}
use Rattle.run_goes_on.proofs.Positions.{Cut, cut, doings_on, host_steps, own_on, server_doings}
use Rattle.run_goes_on.proofs.Telling.{After, above_before, after, decide, learns_by, server_due, server_sends}
use Rattle.run_goes_on.proofs.Telling.{tells_none}
use Rattle.run_goes_on.specs.Rest.{AllIsOver, IsTakenIn, LapsesIn, NoneIsHeld}
use Rattle.run_goes_on.specs.Waiting.{ByesAreAnswered}

-- who is down has said so
down_took : (S : List Doing) (h : HostId) → HasGoneDown S h → (e n : ℕ) × TookIt S h e n Down
down_took [] h x = elim x [ ]
down_took (a ∷ S) h (inl x) = (x.0, x.1, inl x.2)
down_took (a ∷ S) h (inr x) = let k = down_took S h x in (k.0, k.1, inr k.2)

-- who goes away does so by a message
away_takes : (h : HostId) (S : List Doing) (a : Doing) → GoesAway S a h
    → (k : HostId) × (e m : ℕ) × (c : Body) × (a ≡ Took k e m c)
away_takes h S a (inl x) = (h, x.0, x.1, Down, x.2)
away_takes h S a (inr x) = (h, epoch S, x.0.0, Bye, x.0.1)

module _ (script : Script) (start : Tree) (firsts : ServerId → ℕ) (real : (v : ServerId) → 0 < firsts v)
    (run : List Step) (meets : StepsMeet script start firsts run)
    (due : Always (λ before s. StepDue script start firsts s.node before s) run) (over : AllIsOver script run)
    (none : NoneIsHeld script run) (host : HostId) (live : HasStopped (steps_of_host host run) → ⊥) (v : ServerId)
    (unbyed : HasBye (steps_of_host host run) v → ⊥)
    (idle : (HasGoneAway (doings_of (firsts v) v run) host → ⊥) → AwaitsReclaimed (steps_of_host host run) v → ⊥) where
  abbrev own : List Step → List Step
  own past = steps_of_host host past

  abbrev acts : List Step → List Doing
  acts past = doings_of (firsts v) v past

  met : (l p : List Step) → appended l p ≡ run → StepsMeet script start firsts p
  met l p e = meets_at script start firsts real run meets due over none l p e

  all : (l p : List Step) → appended l p ≡ run → Whole (λ h. steps_of_host h p) (λ u. doings_of (firsts u) u p)
  all l p e = whole_at script start firsts real run meets due over none l p e

  host_due : (l p : List Step) (t : Step) → appended (t ∷ l) p ≡ run → t.node ≡ Host host
      → HostDue script host (own p) t
  host_due l p t e at =
      subst (λ (k : Node). StepDue script start firsts k p t) at
      (due_at script start firsts real run meets due over none p l t e)

  due_then : (l p : List Step) (t : Step) → appended (t ∷ l) p ≡ run → t.node ≡ Server v
      → ServerDue script start v (steps_of_server v p) (acts p) t
  due_then = server_due script start firsts real run meets due over none host live v

  unbyed_at : (l p : List Step) → appended l p ≡ run → HasBye (own p) v → ⊥
  unbyed_at l p e x =
      unbyed (subst (λ (L : List Step). HasBye (own L) v) e
      (own_on host (λ (L : List Step). HasBye L v) (λ A s o. inr o) l p x))

  not_down : (l p : List Step) → appended l p ≡ run → HasGoneDown (acts p) host → ⊥
  not_down l p e down =
      let k = down_took (acts p) host down in
      let said = heard script start firsts real host k.0 k.1 Down v p (met l p e) k.2 in
      live (subst (λ (L : List Step). HasStopped (own L)) e
      (own_on host HasStopped (λ A s x. (x.0, x.1, x.2, inr x.3)) l p (v, k.0, k.1, said)))

  -- # What is so once it said Bye when it was welcome
  pub record IsMarked (p : List Step) : Type 0 where
    pub said : HasSaid (own p) v Bye
    pub welcome : IsWelcome (own p) v
    pub on : IsOnList host v (own p) (acts p)

  on_at : (p : List Step) (x : Step) (k : Node) → IsOnList host v (own p) (acts p)
      → IsOnList host v (own_after host k x (own p)) (acts_after v k x (acts p))
  on_at p x (Host k) on =
      if_host (λ (L : List Step). IsOnList host v L (acts p)) k host (x ∷ own p) (own p)
      (λ same. own_later host v (own p) (acts p) x on) on
  on_at p x (Server k) on =
      if_server (λ (S : List Doing). IsOnList host v (own p) S) k v (after_step x (acts p)) (acts p)
      (λ same. acts_later host v (own p) (acts p) x on) on

  mark_on : (p : List Step) (x : Step) → IsMarked p → IsMarked (x ∷ p)
  mark_on p x k = record {
    said = own_on host (λ (L : List Step). HasSaid L v Bye) (λ A y g. (g.0, g.1, inr g.2)) (x ∷ []) p k.said;
    welcome = own_on host (λ (L : List Step). IsWelcome L v) (λ A y g. inr g) (x ∷ []) p k.welcome;
    on = on_at p x x.node k.on;
  }

  marks_on : (b p : List Step) → IsMarked p → IsMarked (appended b p)
  marks_on [] p k = k
  marks_on (x ∷ b) p k = marks_on b (x ∷ p) (mark_on p x k)

  greeted : (l p : List Step) → appended l p ≡ run → IsMarked p → HasGreeted (own p) v
  greeted l p e mark =
      let k = listed_said (acts p) host mark.on.listed.0 in
      (k.0, k.1, heard script start firsts real host k.0 k.1 Hello v p (met l p e) k.2)

  -- # The last step that says Bye
  module _ (past later : List Step) (s : Step) (e : appended (s ∷ later) past ≡ run) (node : s.node ≡ Host host)
      (ep mv : ℕ) (sends : Sends s v ep mv Bye) (welcome : IsWelcome (own past) v)
      (again : (p l : List Step) (t : Step) → length l < length later → appended (t ∷ l) p ≡ run → t.node ≡ Host host
      → IsWelcome (own p) v → Says t v Bye → ⊥) where
    abbrev m : Message
    m = sends.0

    -- a place in the run after it
    record IsAfter (l p : List Step) : Type 0 where
      pub whole : appended l p ≡ run
      pub short : length l ≤ length later
      pub mark : IsMarked p

    marked : IsMarked (s ∷ past)
    marked = record {
      said = subst (λ (L : List Step). HasSaid L v Bye) (sym (host_steps host s past node)) (ep, mv, inl sends);
      welcome = own_on host (λ (L : List Step). IsWelcome L v) (λ A y g. inr g) (s ∷ []) past welcome;
      on = on_at past s s.node (on_list script start firsts real run meets due host v (s ∷ later) past e welcome);
    }

    first_at : IsAfter later (s ∷ past)
    first_at = record { whole = e; short = omega arith; mark = marked }

    next_at : (l p : List Step) (x : Step) → IsAfter (x ∷ l) p → IsAfter l (x ∷ p)
    next_at l p x a = record {
      whole = a.whole;
      short = (let q : suc (length l) ≤ length later = a.short in omega (arith, q));
      mark = mark_on p x a.mark;
    }

    at_cut : {l p : List Step} {t : Step} → IsAfter l p → (c : Cut p l t) → IsAfter (t ∷ c.after) c.before
    at_cut {l = l} {p = p} {t = t} a c = record {
      whole = c.whole ∙ a.whole;
      short = (
          let lt = c.short in
          let le = a.short in
          let goal : suc (length c.after) ≤ length later = omega (arith, lt, le) in
          goal);
      mark = subst IsMarked (sym c.grown) (marks_on c.between p a.mark);
    }

    says_not : (l p : List Step) (t : Step) → IsAfter (t ∷ l) p → t.node ≡ Host host → Says t v Bye → ⊥
    says_not l p t a at says =
        again p l t (let q : suc (length l) ≤ length later = a.short in omega (arith, q)) a.whole at a.mark.welcome says

    -- no lapse comes: it would say it again
    lapse_not : (l p : List Step) (t : Step) → IsAfter (t ∷ l) p → t.node ≡ Host host → t.cause ≡ Lapse → ⊥
    lapse_not l p t a at lapse =
        says_not l p t a at (
          epoch_at (own p) v,
          0,
          (host_due l p t a.whole at).repeats.lapse_all v 0 Bye lapse
              (a.mark.said, unbyed_at (t ∷ l) p a.whole, refl),
        )

    lapses_not : (l p : List Step) → IsAfter l p → LapsesIn l (Host host) → ⊥
    lapses_not l p a (t, i, at, lapse) = by (cut l p t i)
      where
        by : Cut p l t → ⊥
        by c = lapse_not c.after c.before t (at_cut a c) at lapse

    -- nor does the server say Bye
    byes_not : (l p : List Step) (t : Step) → IsAfter (t ∷ l) p → t.node ≡ Server v → SentNow t host Bye → ⊥
    byes_not l p t a at (w, i, is, body) =
        elim (server_sends script start firsts real run meets due over none host live v l p t a.whole at w i is
        (Host host)
        (ap (λ (b : Body). resender_by b w) body ∙ ap Host is) live) [
          | inl lapses ↦ lapses_not l (t ∷ p) (next_at l p t a) lapses
          | inr taken ↦ ends (cut l (t ∷ p) taken.0 taken.1) taken.2 taken.3
        ]
      where
        from : w.server ≡ v
        from = (subst (λ (k : Node). IsFrom k w) at ((met l (t ∷ p) a.whole).1.3 w i).0).0

        ends : {u : Step} → Cut (t ∷ p) l u → u.cause ≡ Came w → u.node ≡ Host host → ⊥
        ends {u = u} c cause node_u =
            unbyed_at c.after (u ∷ c.before) (c.whole ∙ a.whole)
            (subst (λ (L : List Step). HasBye L v) (sym (host_steps host u c.before node_u))
            (inl (w.epoch, w.moves, (w, cause, from, refl, refl, body))))

    -- so the host stays there
    stays_step : (l p : List Step) (t : Step) → IsAfter (t ∷ l) p → t.node ≡ Server v
        → (HasGoneAway (acts p) host → ⊥) → HasGoneAway (after_step t (acts p)) host → ⊥
    stays_step l p t a at stays gone =
        by t.cause refl (once_step (λ before x. GoesAway before x host) (away_takes host) t (acts p) gone)
      where
        lives : IsLive (acts p) host
        lives = (a.mark.on.listed.0, stays)

        by : (c : Cause) → t.cause ≡ c → HasGoneAway (after_cause c (acts p)) host → ⊥
        by (Came w) is (inr old) = stays old
        by (Came w) is (inl (inl (d, n, q))) =
            not_down l (t ∷ p) a.whole
            (subst (λ (S : List Doing). HasGoneDown S host) (sym (server_doings (firsts v) v t p at))
            (from_cause (λ before x. Hears x host Down) (acts p) t
            (subst (λ (c : Cause). HasGoneDown (after_cause c (acts p)) host) (sym is) (inl (d, n, q)))))
        by (Came w) is (inl (inr ((n, q), listed, up))) =
            let h : w.host ≡ host = cc in
            let x : w.epoch ≡ epoch (acts p) = cc in
            let k : w.moves ≡ n = cc in
            let b : w.body ≡ Bye = cc in
            byes_not l p t a at
            ((due_then l p t a.whole at).answers.bye host (w, is, h, b) (not_down (t ∷ l) p a.whole)
            (inr (n, ((w, is, h, x, k, b), lives))))
        by (Restart line) is (inl x) =
            let k = away_takes host (acts p) (BeginsEpoch (suc (epoch (acts p)))) x in
            let z : BeginsEpoch (suc (epoch (acts p))) ≡ Took k.0 k.1 k.2 k.3 = k.4 in absurd (cc)
        by (Restart line) is (inr old) = stays old
        by Flushed is (inl x) =
            let k = away_takes host (acts p) Flushes x in
            let z : Flushes ≡ Took k.0 k.1 k.2 k.3 = k.4 in absurd (cc)
        by Flushed is (inr old) = stays old
        by (Line line) is old = stays old
        by Lapse is old = stays old
        by Evict is old = stays old
        by (Freight freight) is (inl x) =
            let k = away_takes host (acts p) (Gets freight.server freight.moves freight.body) x in
            let z : Gets freight.server freight.moves freight.body ≡ Took k.0 k.1 k.2 k.3 = k.4 in absurd (cc)
        by (Freight freight) is (inr old) = stays old
        by End is old = stays old

    stays_from : (l p : List Step) → IsAfter l p → (HasGoneAway (acts p) host → ⊥)
        → HasGoneAway (acts (appended l p)) host → ⊥
    stays_from [] p a stays = stays
    stays_from (t ∷ l) p a stays = stays_from l (t ∷ p) (next_at l p t a) (by t.node refl)
      where
        by : (k : Node) → t.node ≡ k → HasGoneAway (acts_after v k t (acts p)) host → ⊥
        by (Host k) at = stays
        by (Server k) at =
            if_server (λ (S : List Doing). HasGoneAway S host → ⊥) k v (after_step t (acts p)) (acts p)
            (λ same. stays_step l p t a (at ∙ ap Server same) stays) stays

    may_host : HostMay script host (own past) s
    may_host = (subst (λ (k : Node). StepMeets script start firsts k past s) node (met later (s ∷ past) e).1.0).0

    abbrev e0 : ℕ
    e0 = epoch_at (own (s ∷ past)) v

    went : (m.host ≡ host) × (m.direction ≡ ToServer) × (LapsesIn later (Host host) ⊎ IsTakenIn later m)
    went = host_sends script start firsts real run meets due over none host live past later s e node m sends.1
        (ap (λ (b : Body). resender_by b m) sends.5)

    module _ {t : Step} (c : Cut (s ∷ past) later t) (cause : t.cause ≡ Came m) (at : t.node ≡ Server v) where
      then_at : IsAfter (t ∷ c.after) c.before
      then_at = at_cut first_at c

      abbrev S : List Doing
      S = acts c.before

      t_due : ServerDue script start v (steps_of_server v c.before) S t
      t_due = due_then c.after c.before t then_at.whole at

      bye_not : ((IsLive S host → ⊥) ⊎ ((n : ℕ) × TakenNow S t host n Bye)) → ⊥
      bye_not x =
          byes_not c.after c.before t then_at at
          (t_due.answers.bye host (m, cause, went.0, sends.5) (not_down (t ∷ c.after) c.before then_at.whole) x)

      -- # Where it was live when that came, and its epoch older than the server's
      module _ (lives : IsLive S host) where
        stays_end : HasGoneAway (acts run) host → ⊥
        stays_end gone =
            stays_from (t ∷ c.after) c.before then_at lives.1
            (subst (λ (L : List Step). HasGoneAway (acts L) host) (sym then_at.whole) gone)

        here_yet : (l p : List Step) → appended l p ≡ run → HasGoneAway (acts p) host → ⊥
        here_yet l p w gone =
            stays_end (subst (λ (L : List Step). HasGoneAway (acts L) host) w
            (doings_on (firsts v) v (λ (T : List Doing). HasGoneAway T host)
            (λ T x o. step_on (λ before a. GoesAway before a host) T x o) l p gone))

        -- a Reclaimed that comes while it waits makes it say Bye again
        no_answer : (l p : List Step) (x : Step) → IsAfter (x ∷ l) p → x.node ≡ Host host → (answer : ReclaimedOf)
            → Comes (own p) x v (Reclaimed answer) → ⊥
        no_answer l p x a is answer comes =
            says_not l p x a is (
              epoch_at (x ∷ own p) v,
              0,
              (host_due l p x a.whole is).repeats.reclaimed_all v 0 answer Bye comes tt
                  (a.mark.said, unbyed_at (x ∷ l) p a.whole, refl)
                  ((a.mark.said.0, a.mark.said.1, inr a.mark.said.2), unbyed_then, refl),
            )
          where
            unbyed_then : HasBye (x ∷ own p) v → ⊥
            unbyed_then bye =
                unbyed_at l (x ∷ p) a.whole (subst (λ (L : List Step). HasBye L v) (sym (host_steps host x p is)) bye)

        claims_by : (l p : List Step) (x : Step) → IsAfter (x ∷ l) p → x.node ≡ Host host
            → epoch_at (own p) v < epoch_at (x ∷ own p) v → AwaitsReclaimed (x ∷ own p) v
        claims_by l p x a is up = (
          inl ((host_due l p x a.whole is).repeats.restarted_claims v
              (learns_by (own p) x v (greeted (x ∷ l) p a.whole a.mark) a.mark.on.above up)),
          no_answer l p x a is,
        )

        waits_still : (l p : List Step) (x : Step) → IsAfter (x ∷ l) p → x.node ≡ Host host
            → AwaitsReclaimed (own p) v → AwaitsReclaimed (x ∷ own p) v
        waits_still l p x a is aw = elim (decide (epoch_at (own p) v) (epoch_at (x ∷ own p) v)) [
          | inl up ↦ claims_by l p x a is up
          | inr le ↦ (inr (aw, λ up. omega (arith, le, up)), no_answer l p x a is)
        ]

        -- so it waits for no answer to a claim
        waits_not : (l p : List Step) → IsAfter l p → AwaitsReclaimed (own p) v → ⊥
        waits_not [] p a aw = idle stays_end (subst (λ (L : List Step). AwaitsReclaimed (own L) v) a.whole aw)
        waits_not (x ∷ l) p a aw = waits_not l (x ∷ p) (next_at l p x a) (by x.node refl)
          where
            by : (k : Node) → x.node ≡ k → AwaitsReclaimed (own_after host k x (own p)) v
            by (Server k) is = aw
            by (Host k) is =
                if_host (λ (L : List Step). AwaitsReclaimed L v) k host (x ∷ own p) (own p)
                (λ same. waits_still l p x a (is ∙ ap Host same) aw) aw

        after_it : (l p : List Step) (x : Step) → length l < length later → appended (x ∷ l) p ≡ run → IsMarked p
            → IsAfter (x ∷ l) p
        after_it l p x short w mark = record {
          whole = w;
          short = (let goal : suc (length l) ≤ length later = omega (arith, short) in goal);
          mark = mark;
        }

        lapse_none : (l p : List Step) (x : Step) → length l < length later → appended (x ∷ l) p ≡ run → IsMarked p
            → x.node ≡ Host host → x.cause ≡ Lapse → ⊥
        lapse_none l p x short w mark is lapse = lapse_not l p x (after_it l p x short w mark) is lapse

        raise_none : (l p : List Step) (x : Step) → length l < length later → appended (x ∷ l) p ≡ run → IsMarked p
            → x.node ≡ Host host → epoch_at (own p) v < epoch_at (x ∷ own p) v → ⊥
        raise_none l p x short w mark is up =
            let a = after_it l p x short w mark in
            waits_not l (x ∷ p) (next_at l p x a)
            (subst (λ (L : List Step). AwaitsReclaimed L v) (sym (host_steps host x p is)) (claims_by l p x a is up))

        start_at : After IsMarked run later e0 host v later (s ∷ past)
        start_at = record { whole = e; short = omega arith; above = omega arith; mark = marked; on = mark_on }

        is_epoch : m.epoch ≡ e0
        is_epoch = sends.3 ∙ (may_host.tokens.epochs v ep mv Bye sends
            ∙ sym (ap (λ (L : List Step). epoch_at L v) (host_steps host s past node)))

        differs : m.epoch ≡ epoch S → ⊥
        differs q = bye_not (inr (m.moves, ((m, cause, went.0, q, refl, sends.5), lives)))

        up_to : e0 < epoch (after_cause t.cause S)
        up_to = elim (decide e0 (epoch S)) [
          | inl up ↦ (let grows = epoch_after_cause t S in omega (arith, up, grows))
          | inr le ↦ (
              let behind = (((all (t ∷ c.after) c.before then_at.whole).at v).link host).behind in
              let ge = above_before start_at c in
              let is = is_epoch in
              absurd (differs (omega (arith, le, behind, ge, is)))
              )
        ]

        tells_not : ⊥
        tells_not =
            tells_none script start firsts real run meets due over none host live v IsMarked mark_on
            (λ l p w mark. (mark.on.listed.0, here_yet l p w)) (λ l p w mark now. mark.on.listed.1 now) past later s e
            marked lapse_none raise_none c.after c.before t (
              after start_at c,
              at,
              t_due.answers.late host m cause went.0 lives differs
                  (λ q. (let z : Bye ≡ Hello = sym sends.5 ∙ q in cc)) (λ q. (let z : Bye ≡ Down = sym sends.5
                  ∙ q in cc)),
              up_to,
            )

      answered : ⊥
      answered = bye_not (inl (λ lives. tells_not lives))

    never : ⊥
    never = elim went.2 [
      | inl lapses ↦ lapses_not later (s ∷ past) first_at lapses
      | inr taken ↦ taken_none (cut later (s ∷ past) taken.0 taken.1) taken.2
    ]
      where
        taken_none : {t : Step} → Cut (s ∷ past) later t → t.cause ≡ Came m → ⊥
        taken_none {t = t} c cause = go t.node refl (met c.after (t ∷ c.before) (c.whole ∙ e)).1.0
          where
            go : (k : Node) → t.node ≡ k → StepMeets script start firsts k c.before t → ⊥
            go (Host k) at m' = absurd (let z : ToServer ≡ ToHost = sym went.1 ∙ (m'.1 m cause).1 in cc)
            go (Server k) at m' = answered c cause (at ∙ ap Server (sym (m'.1 m cause).0 ∙ sends.2))

  pub byes_none : (fuel : ℕ) (past later : List Step) (s : Step) → length later < fuel
      → appended (s ∷ later) past ≡ run → s.node ≡ Host host → IsWelcome (own past) v → Says s v Bye → ⊥
  byes_none zero past later s lt e node welcome says = absurd (omega (arith, lt))
  byes_none (suc fuel) past later s lt e node welcome (ep, mv, sends) =
      never past later s e node ep mv sends welcome
      (λ p l t short whole at greets more. byes_none fuel p l t
      (let x : length later < suc fuel = lt in omega (arith, short, x)) whole at greets more)

says_bye : (v : ServerId) (A : List Step) → HasSaid A v Bye → Once (λ before s. Says s v Bye) A
says_bye v [] x = elim x.2 [ ]
says_bye v (s ∷ A) (e, n, inl sends) = inl (e, n, sends)
says_bye v (s ∷ A) (e, n, inr said) = inr (says_bye v A (e, n, said))

pub byes_are_answered : ByesAreAnswered
byes_are_answered script journal q host live v said unbyed =
    let due = due_of script journal q.run q.dutiful in
    let f = found host (λ before s. Says s v Bye) journal.steps
    (says_bye v (steps_of_host host (past_of journal)) said) in
    byes_none script q.run.start (firsts_of journal) (λ u. from_one _) (past_of journal) q.run.steps due q.over
    q.none_held host live v unbyed (λ stays. claims_are_answered script journal q host live v stays)
    (suc (length f.after)) f.before f.after f.step (omega arith) f.whole f.node
    (byes_welcome script q.run.start (firsts_of journal) (past_of journal) q.run.steps due host v f.after f.before
    f.step f.whole f.node f.here) f.here
