-- A claim of a host is answered, once all that was sent is over, where the host hasn't gone away at the server.
use Rattle.std.proofs.Common.{List, [], ap, arith, inl, inr, length, refl, subst, suc, sym, zero, ℕ}
use Rattle.std.proofs.Common.{◌<◌, ◌∙◌, ◌∷◌, ◌≡◌, ◌≤◌, ◌⊎◌}
use Rattle.base_types.specs.declared.ids.FilesetId.{FilesetId}
use Rattle.base_types.specs.declared.ids.HostId.{HostId}
use Rattle.base_types.specs.declared.ids.Node.{Node}
use Rattle.base_types.specs.declared.ids.Node.TheVariants.{Host, Server}
use Rattle.base_types.specs.declared.ids.ServerId.{ServerId}
use Rattle.tree_answers.specs.declared.tree.Tree.{Tree}
use Rattle.script_lines.specs.declared.script.Script.{Script}
use Rattle.message_types.specs.Soundness.{HasMoves, IsSound}
use Rattle.message_types.specs.declared.giving.AppliedGive.{AppliedGive}
use Rattle.message_types.specs.declared.giving.Give.{Give}
use Rattle.message_types.specs.declared.giving.Reclaim.{Reclaim as ReclaimOf}
use Rattle.message_types.specs.declared.giving.Reclaimed.{Reclaimed as ReclaimedOf}
use Rattle.message_types.specs.declared.message.Body.{Body}
use Rattle.message_types.specs.declared.message.Body.TheVariants.{Down, GiveBack, Gone, Hello, Reclaim, Reclaimed}
use Rattle.message_types.specs.declared.message.Body.TheVariants.{Restarted}
use Rattle.message_types.specs.declared.message.Direction.TheVariants.{ToHost, ToServer}
use Rattle.message_types.specs.declared.message.Message.{Message}
use Rattle.run_rules.specs.Doings.{Doing, GoesAway, HasGoneAway, HasReclaimed, IsApplied, IsLive, Listed}
use Rattle.run_rules.specs.Doings.{SentNow, SentTo, TakesFrom, TakesOf, TookNow, TookOf, admitting, after_cause}
use Rattle.run_rules.specs.Doings.{after_deciding, after_step, doings_of, epoch}
use Rattle.run_rules.specs.Doings.Doing.{Took}
use Rattle.run_rules.specs.HostDue.{HostDue}
use Rattle.run_rules.specs.HostMay.{AwaitsReclaimed, ClaimsAt, HostMay}
use Rattle.run_rules.specs.Messages.{HasGreeted, HasStopped, Stay, epoch_at, first_stay, home}
use Rattle.run_rules.specs.Past.{Always, In, Once, appended}
use Rattle.run_rules.specs.Plans.{resender_by}
use Rattle.run_rules.specs.Runs.{CameToHost, IsFrom, StepDue, StepMeets, StepsMeet, firsts_of, past_of}
use Rattle.run_rules.specs.ServerDue.{ServerDue}
use Rattle.run_rules.specs.ServerMay.{ServerMay}
use Rattle.run_rules.specs.ServerTokens.{HasTakenGives, MayAdmit}
use Rattle.run_rules.specs.Steps.{steps_of_host, steps_of_server}
use Rattle.run_rules.specs.Tokens.{IsKnown, IsOutstanding, Learns, Made, number_of}
use Rattle.run_rules.specs.declared.applied.Admission.{Admission}
use Rattle.run_rules.specs.declared.step.Cause.{Cause}
use Rattle.run_rules.specs.declared.step.Cause.TheVariants.{End, Evict, Flushed, Freight, Lapse}
use Rattle.run_rules.specs.declared.step.Cause.TheVariants.{Line, Message as Came, Restart}
use Rattle.run_rules.specs.declared.step.Step.{Step}
use Rattle.run_tokens.proofs.Law.{Whole}
use Rattle.run_rules.specs.Kept.{filesets_kept}
use Rattle.run_tokens.proofs.TokenRun.{works_none}
use Rattle.run_tokens.proofs.Unmoved.{admitting_put, cause_put, deciding_put, here_is, here_was, step_put}
use Rattle.run_tokens.proofs.Words.{acts_after, if_host, if_server, own_after, stay_first}
use Rattle.run_tokens.specs.Unmoved.{MovesNone, StaysPut}
use Rattle.run_goes_on.proofs.Arriving.{due_at, due_of, found, from_cause, from_one, host_sends, meets_at, step_on}
use Rattle.run_goes_on.proofs.Arriving.{whole_at}
use Rattle.run_goes_on.proofs.Claiming.{IsOnList, acts_later, own_later, waiting}
use Rattle.run_goes_on.proofs.Doings.{epoch_after_cause, epoch_step, heard, listed_said, sent_so}
use Rattle.run_goes_on.proofs.Giving.{gives_are_known}
use Rattle.run_goes_on.proofs.Grown.{admitted_at, cause_each, grows_on, in_cause, in_caused, in_last, reclaims_cause}
use Rattle.run_goes_on.proofs.Grown.{reclaims_step, sent_split, taken_admitting, taken_step}
use Rattle.run_goes_on.proofs.Positions.{Cut, always_back, cut, doings_on, host_steps, own_on, server_doings}
use Rattle.run_goes_on.proofs.Telling.{After, above_before, after, below, decide, first}
use Rattle.run_goes_on.proofs.Telling.{here, learns_by, less, mark_before}
use Rattle.run_goes_on.proofs.Telling.{no_lapse, server_due, server_may, server_sends, tells_none, whole_cut}
use Rattle.run_goes_on.specs.Rest.{AllIsOver, IsTakenIn, LapsesIn, NoneIsHeld}
use Rattle.run_rules.specs.Doings.{Here}
use Rattle.run_goes_on.specs.Waiting.{ClaimsAreAnswered}

-- what is taken is a doing that takes it
took_takes : (h : HostId) (n : ℕ) (b : Body) (S : List Doing) (a : Doing) → TakesFrom S a h n b
    → (k : HostId) × (e m : ℕ) × (c : Body) × (a ≡ Took k e m c)
took_takes h n b S a x = (h, epoch S, n, b, x.0)

of_takes : (v : ServerId) (h : HostId) (g : Give) (S : List Doing) (a : Doing)
    → TakesOf v S a h g.fid.fileset (GiveBack g) → (k : HostId) × (e m : ℕ) × (c : Body) × (a ≡ Took k e m c)
of_takes v h g S a x = (h, epoch S, x.0, GiveBack g, x.2.0)

-- it was of a fileset that is here
took_here : (v : ServerId) (h : HostId) (n : ℕ) (g : Give) (S : List Doing) → StaysPut S
    → first_stay g.fid.fileset ≡ record { server = v; moves = n } → TookNow S h n (GiveBack g)
    → TookOf v S h g.fid.fileset (GiveBack g)
took_here v h n g [] put is x = elim x [ ]
took_here v h n g (a ∷ S) put is (inl x) = inl (n, here_was v S g.fid.fileset n (λ o. put (inr o)) is, x)
took_here v h n g (a ∷ S) put is (inr x) = inr (took_here v h n g S (λ o. put (inr o)) is x.0, x.1)

-- # What a server said by Gone in its epoch it took in it
module _ (script : Script) (start : Tree) (firsts : ServerId → ℕ) (host : HostId) (v : ServerId) where
  abbrev IsGone : List Doing → Type 0
  IsGone S = (e n : ℕ) (k : AppliedGive) → SentTo S host e n (Gone k) → e ≡ epoch S
      → (g : Give) × (m : ℕ) × TookNow S host m (GiveBack g) × (number_of g ≡ k)

  gone_step : (steps : List Step) (S : List Doing) (s : Step) → ServerMay script start v steps S s
      → ServerDue script start v steps S s
      → ((e n : ℕ) (b : Body) → SentTo S host e n b → e ≤ epoch S) → IsGone S → IsGone (after_step s S)
  gone_step steps S s may due below_ old e n k sent is = elim (sent_split host e n (Gone k) s S sent) [
    | inl was ↦ (
        let le = below_ e n (Gone k) was in
        let same = epoch_step s S in
        let grows = epoch_after_cause s S in
        let stays : epoch (after_cause s.cause S) ≡ epoch S = omega (arith, le, is, same, grows) in
        let at : e ≡ epoch S = omega (arith, is, same, stays) in
        let o = old e n k was at in (
          o.0,
          o.1,
          in_caused (λ before a. TakesFrom before a host o.1 (GiveBack o.0)) s S
              (in_cause (λ before a. TakesFrom before a host o.1 (GiveBack o.0)) s.cause S stays o.2),
          o.3,
        )
        )
    | inr (m, i, at, ep, mv, body) ↦ (
        let o = due.answers.gone_only host k (m, i, at, body) in
        let g = o.1 in
        let taken = o.2 in (
          g,
          o.0,
          in_caused (λ before a. TakesFrom before a host o.0 (GiveBack g)) s S
              (now taken.0.0 taken.0.1 taken.0.2 taken.0.3 taken.0.4 taken.0.5 taken.1),
          o.3,
        )
        )
  ]
    where
      now : {j : ℕ} {g : Give} (w : Message) → s.cause ≡ Came w → w.host ≡ host → w.epoch ≡ epoch S → w.moves ≡ j
          → w.body ≡ GiveBack g → IsLive S host → TookNow (after_cause s.cause S) host j (GiveBack g)
      now {j = j} {g = g} w cause h e mv b lives =
          subst (λ (c : Cause). TookNow (after_cause c S) host j (GiveBack g)) (sym cause)
          (inl ((λ i. Took (h i) (e i) (mv i) (b i)), lives))

  gone_at : (k : Node) (past : List Step) (s : Step) → StepMeets script start firsts k past s
      → StepDue script start firsts k past s
      → ((e n : ℕ) (b : Body) → SentTo (doings_of (firsts v) v past) host e n b → e ≤ epoch (doings_of
      (firsts v) v past))
      → IsGone (doings_of (firsts v) v past) → IsGone (acts_after v k s (doings_of (firsts v) v past))
  gone_at (Host k) past s m d below_ old = old
  gone_at (Server k) past s m d below_ old =
      if_server IsGone k v (after_step s (doings_of (firsts v) v past)) (doings_of (firsts v) v past)
      (λ e. gone_step (steps_of_server v past) (doings_of (firsts v) v past) s
      (subst (λ (w : ServerId). ServerMay script start w (steps_of_server w past) (doings_of
      (firsts w) w past) s) e m.0)
      (subst (λ (w : ServerId). ServerDue script start w (steps_of_server w past) (doings_of (firsts w) w past) s) e d)
      below_ old) old

  gones_from : (past : List Step) → StepsMeet script start firsts past
      → Always (λ before s. StepDue script start firsts s.node before s) past
      → ((later p : List Step) → appended later p ≡ past → (e n : ℕ) (b : Body)
      → SentTo (doings_of (firsts v) v p) host e n b → e ≤ epoch (doings_of (firsts v) v p))
      → IsGone (doings_of (firsts v) v past)
  gones_from [] run due below_ = λ e n k sent is. elim sent [
    | inl q ↦ absurd (cc)
    | inr o ↦ elim o [ ]
  ]
  gones_from (s ∷ past) run due below_ =
      gone_at s.node past s run.1.0 due.1 (below_ (s ∷ []) past refl)
      (gones_from past run.0 due.0 (λ l p q. below_ (l_on l) p (on l p q)))
    where
      l_on : List Step → List Step
      l_on [] = s ∷ []
      l_on (x ∷ l) = x ∷ l_on l

      on : (l p : List Step) → appended l p ≡ past → appended (l_on l) p ≡ s ∷ past
      on [] p q = ap (λ (L : List Step). s ∷ L) q
      on (x ∷ l) p q = on l (x ∷ p) q

-- # A host that waits for the answer to its claim at the end
module _ (script : Script) (start : Tree) (firsts : ServerId → ℕ) (real : (v : ServerId) → 0 < firsts v)
    (run : List Step) (meets : StepsMeet script start firsts run)
    (due : Always (λ before s. StepDue script start firsts s.node before s) run) (over : AllIsOver script run)
    (none : NoneIsHeld script run) (host : HostId) (live : HasStopped (steps_of_host host run) → ⊥) (v : ServerId)
    (stays : HasGoneAway (doings_of (firsts v) v run) host → ⊥)
    (known : (g : Give) → Made (steps_of_host host run) g → IsKnown (steps_of_host host run) g)
    (waits : AwaitsReclaimed (steps_of_host host run) v) where
  abbrev own : List Step → List Step
  own past = steps_of_host host past

  abbrev acts : List Step → List Doing
  acts past = doings_of (firsts v) v past

  met : (l p : List Step) → appended l p ≡ run → StepsMeet script start firsts p
  met l p e = meets_at script start firsts real run meets due over none l p e

  dues : (l p : List Step) → appended l p ≡ run → Always (λ before s. StepDue script start firsts s.node before s) p
  dues l p e =
      always_back (λ before s. StepDue script start firsts s.node before s) l p
      (subst (Always (λ before s. StepDue script start firsts s.node before s)) (sym e) due)

  all : (l p : List Step) → appended l p ≡ run
      → Whole (λ h. steps_of_host h p) (λ u. doings_of (firsts u) u p)
  all l p e = whole_at script start firsts real run meets due over none l p e

  host_due : (l p : List Step) (t : Step) → appended (t ∷ l) p ≡ run → t.node ≡ Host host
      → HostDue script host (own p) t
  host_due l p t e at =
      subst (λ (k : Node). StepDue script start firsts k p t) at
      (due_at script start firsts real run meets due over none p l t e)

  -- the host hasn't gone away before either
  here_yet : (l p : List Step) → appended l p ≡ run → HasGoneAway (acts p) host → ⊥
  here_yet l p e gone =
      stays (subst (λ (L : List Step). HasGoneAway (acts L) host) e
      (doings_on (firsts v) v (λ (S : List Doing). HasGoneAway S host)
      (λ S t o. step_on (λ before a. GoesAway before a host) S t o) l p gone))

  abbrev Mark : List Step → Type 0
  Mark p = IsOnList host v (own p) (acts p)

  mark_at : (p : List Step) (x : Step) (k : Node) → Mark p
      → IsOnList host v (own_after host k x (own p)) (acts_after v k x (acts p))
  mark_at p x (Host k) mark =
      if_host (λ (L : List Step). IsOnList host v L (acts p)) k host (x ∷ own p) (own p)
      (λ same. own_later host v (own p) (acts p) x mark) mark
  mark_at p x (Server k) mark =
      if_server (λ (S : List Doing). IsOnList host v (own p) S) k v (after_step x (acts p)) (acts p)
      (λ same. acts_later host v (own p) (acts p) x mark) mark

  mark_on : (p : List Step) (x : Step) → Mark p → Mark (x ∷ p)
  mark_on p x mark = mark_at p x x.node mark

  mark_live : (l p : List Step) → appended l p ≡ run → Mark p → IsLive (acts p) host
  mark_live l p e mark = (mark.listed.0, here_yet l p e)

  greeted : (l p : List Step) → appended l p ≡ run → Mark p → HasGreeted (own p) v
  greeted l p e mark =
      let k = listed_said (acts p) host mark.listed.0 in
      (k.0, k.1, heard script start firsts real host k.0 k.1 Hello v p (met l p e) k.2)

  -- # The last step that claims
  module _ (past later : List Step) (s : Step) (e : appended (s ∷ later) past ≡ run) (node : s.node ≡ Host host)
      (claims : ClaimsAt s v)
      (again : (p l : List Step) (t : Step) → length l < length later → appended (t ∷ l) p ≡ run → t.node ≡ Host host
      → ClaimsAt t v → ⊥) where
    abbrev claim : ReclaimOf
    claim = claims.2

    abbrev m : Message
    m = claims.3.0

    -- it waits since then
    awaits_at : (l p : List Step) → appended l p ≡ run → length l ≤ length later → AwaitsReclaimed (own p) v
    awaits_at [] p w le = subst (λ (L : List Step). AwaitsReclaimed (own L) v) (sym w) waits
    awaits_at (x ∷ l) p w le = back x.node refl (awaits_at l (x ∷ p) w (omega (arith, lt)))
      where
        lt : length l < length later
        lt = let q : suc (length l) ≤ length later = le in omega (arith, q)

        back : (k : Node) → x.node ≡ k → AwaitsReclaimed (own_after host k x (own p)) v → AwaitsReclaimed (own p) v
        back (Server u) at aw = aw
        back (Host k) at aw =
            if_host (λ (L : List Step). AwaitsReclaimed L v → AwaitsReclaimed (own p) v) k host (x ∷ own p) (own p)
            (λ same now. elim now.0 [
              | inl claims_now ↦ absurd (again p l x lt w (at ∙ ap Host same) claims_now)
              | inr was ↦ was.0
            ]) (λ now. now) aw

    marked : Mark (s ∷ past)
    marked =
        waiting script start firsts host v (s ∷ past) (met later (s ∷ past) e) (dues later (s ∷ past) e)
        (awaits_at later (s ∷ past) e (omega arith))

    lapse_none : (l p : List Step) (t : Step) → length l < length later → appended (t ∷ l) p ≡ run → Mark p
        → t.node ≡ Host host → t.cause ≡ Lapse → ⊥
    lapse_none l p t short w mark at lapse =
        again p l t short w at
        ((host_due l p t w at).repeats.lapse_claims v lapse
        (awaits_at (t ∷ l) p w (let goal : suc (length l) ≤ length later = omega (arith, short) in goal)))

    raise_none : (l p : List Step) (t : Step) → length l < length later → appended (t ∷ l) p ≡ run → Mark p
        → t.node ≡ Host host → epoch_at (own p) v < epoch_at (t ∷ own p) v → ⊥
    raise_none l p t short w mark at up =
        again p l t short w at
        ((host_due l p t w at).repeats.restarted_claims v (learns_by (own p) t v (greeted
        (t ∷ l) p w mark) mark.above up))

    abbrev e0 : ℕ
    e0 = epoch_at (own (s ∷ past)) v

    abbrev At : List Step → List Step → Type 0
    At l p = After Mark run later e0 host v l p

    start_at : At later (s ∷ past)
    start_at =
        first script start firsts real run meets due over none host live v Mark mark_on mark_live
        (λ l p w mark listed. mark.listed.1 listed) past later s e marked lapse_none raise_none

    lapses_not : (l p : List Step) → At l p → LapsesIn l (Host host) → ⊥
    lapses_not =
        no_lapse script start firsts real run meets due over none host live v Mark mark_on mark_live
        (λ l p w mark listed. mark.listed.1 listed) past later s e marked lapse_none raise_none

    under : (l p : List Step) → appended l p ≡ run → epoch_at (own p) v ≤ e0
    under =
        below script start firsts real run meets due over none host live v Mark mark_on mark_live
        (λ l p w mark listed. mark.listed.1 listed) past later s e marked lapse_none raise_none

    tells_not : (l p : List Step) (t : Step) → At l (t ∷ p) → t.node ≡ Server v → SentNow t host Restarted
        → e0 < epoch (after_cause t.cause (acts p)) → ⊥
    tells_not l p t a at sent up =
        tells_none script start firsts real run meets due over none host live v Mark mark_on mark_live
        (λ l p w mark listed. mark.listed.1 listed) past later s e marked lapse_none raise_none l p t (a, at, sent, up)

    may_at : (l p : List Step) (t : Step) → appended (t ∷ l) p ≡ run → t.node ≡ Server v
        → ServerMay script start v (steps_of_server v p) (acts p) t
    may_at = server_may script start firsts real run meets due over none host live v

    due_then : (l p : List Step) (t : Step) → appended (t ∷ l) p ≡ run → t.node ≡ Server v
        → ServerDue script start v (steps_of_server v p) (acts p) t
    due_then = server_due script start firsts real run meets due over none host live v

    -- # The server can't have answered it
    no_answer : (l p : List Step) (t : Step) → At l (t ∷ p) → t.node ≡ Server v → (answer : ReclaimedOf)
        → SentNow t host (Reclaimed answer) → epoch (after_cause t.cause (acts p)) ≡ e0 → ⊥
    no_answer l p t a at answer (w, i, is, body) same =
        elim (server_sends script start firsts real run meets due over none host live v l p t a.whole at w i is
        (Host host) (ap (λ (b : Body). resender_by b w) body ∙ ap Host is) live) [
          | inl lapses ↦ lapses_not l (t ∷ p) a lapses
          | inr taken ↦ ends (cut l (t ∷ p) taken.0 taken.1) taken.2 taken.3
        ]
      where
        ends : {u : Step} → Cut (t ∷ p) l u → u.cause ≡ Came w → u.node ≡ Host host → ⊥
        ends {u = u} c cause node_u = now.1 answer (w, cause, from, present, moves, body)
          where
            now : AwaitsReclaimed (u ∷ own c.before) v
            now =
                subst (λ (L : List Step). AwaitsReclaimed L v) (host_steps host u c.before node_u)
                (awaits_at c.after (u ∷ c.before) (whole_cut a c) (let lt = less a c in omega (arith, lt)))

            sound : IsFrom t.node w × IsSound script.roster w
            sound = (met l (t ∷ p) a.whole).1.3 w i

            from : w.server ≡ v
            from = (subst (λ (k : Node). IsFrom k w) at sound.0).0

            present : w.epoch ≡ epoch_at (own c.before) v
            present =
                let is_e = (sent_so v t (acts p) (may_at l p t a.whole at).tokens w i).2 in
                let le = under (u ∷ c.after) c.before (whole_cut a c) in
                let ge = above_before a c in
                omega (arith, is_e, le, ge, same)

            moves : w.moves ≡ 0
            moves = subst (λ (b : Body). HasMoves b w.moves) body sound.1.moves

    -- # Since the server has taken it, it waits for a give-back
    record IsStuck (S : List Doing) : Type 0 where
      pub now : epoch S ≡ e0
      pub took : TookNow S host m.moves (Reclaim claim)
      pub reclaimed : HasReclaimed S host → ⊥
      pub lacks : HasTakenGives v S host claim → ⊥

    module _ (l p : List Step) (u : Step) (a : At l (u ∷ p)) (at : u.node ≡ Server v) (mark : Mark p)
        (now : epoch (acts p) ≡ e0) (fresh : HasReclaimed (acts p) host → ⊥) where
      abbrev S : List Doing
      S = acts p

      abbrev caused : List Doing
      caused = after_cause u.cause S

      u_due : ServerDue script start v (steps_of_server v p) S u
      u_due = due_then l p u a.whole at

      live_now : IsLive caused host
      live_now = (
        cause_each (λ (T : List Doing). Listed T host) (λ T x k. inr k) u.cause S mark.listed.0,
        λ gone. here_yet l (u ∷ p) a.whole
            (subst (λ (T : List Doing). HasGoneAway T host) (sym (server_doings (firsts v) v u p at))
            (from_cause (λ before x. GoesAway before x host) S u gone)),
      )

      lives : IsLive S host
      lives = (mark.listed.0, here_yet (u ∷ l) p a.whole)

      same_by : (c : Cause) → u.cause ≡ c → epoch (after_cause c S) ≡ epoch S
      same_by (Came w) is = refl
      same_by (Restart line) is =
          absurd (tells_not l p u a at (u_due.answers.restarted line host is lives)
          (subst (λ (c : Cause). e0 < epoch (after_cause c S)) (sym is)
          (let goal : e0 < suc (epoch S) = omega (arith, now) in goal)))
      same_by Flushed is = refl
      same_by (Line line) is = refl
      same_by Lapse is = refl
      same_by Evict is = refl
      same_by (Freight freight) is = refl
      same_by End is = refl

      same : epoch caused ≡ e0
      same = same_by u.cause refl ∙ now

      -- where filesets are
      put : StaysPut S
      put = ((all (u ∷ l) p a.whole).at v).served.put

      none_moved : MovesNone u
      none_moved =
          works_none v (filesets_kept start v (steps_of_server v p)) S u (may_at l p u a.whole at).works.applies

      here_later : (T : List Doing) → StaysPut T → (fs : FilesetId) (n : ℕ) → Here v caused fs n → Here v T fs n
      here_later T put_T fs n h = here_was v T fs n put_T (here_is v caused fs n (cause_put u.cause S put) h)

      module _ (took : TookNow caused host m.moves (Reclaim claim)) where
        lacks_caused : HasTakenGives v caused host claim → ⊥
        lacks_caused whole =
            let k = u_due.answers.claim_now host m.moves claim took fresh live_now whole in
            no_answer l p u a at k.1.0 k.1.1 same

        lacks_after : HasTakenGives v (after_step u S) host claim → ⊥
        lacks_after whole = lacks_caused (λ o i up h. (let k = whole o i up (here_later (after_step u S)
            (step_put u S none_moved put) o.fileset o.moves h) in (
              k.0,
              subst (λ (fs : FilesetId). TookOf v caused host fs (GiveBack k.0)) k.2
                  (taken_step (λ before x. TakesOf v before x host k.0.fid.fileset (GiveBack k.0)) (of_takes v host k.0) u S
                  (subst (λ (fs : FilesetId). TookOf v (after_step u S) host fs (GiveBack k.0)) (sym k.2) k.1)),
              k.2,
              k.3,
            )))

        admits_not : (c : Admission) → In c u.admitted → c.host ≡ host → ⊥
        admits_not c i is =
            let k = admitted_at v u.admitted (after_deciding u S) (may_at l p u a.whole at).tokens.admits c i in
            let may = subst (λ (h : HostId). MayAdmit v (appended (admitting k.0)
            (after_deciding u S)) h c.tokens) is k.1 in
            let d = u_due.answers.claim_now host may.moves may.claim
            (taken_admitting (λ before x. TakesFrom before x host may.moves (Reclaim may.claim))
            (took_takes host may.moves (Reclaim may.claim)) k.0 u S may.took) fresh live_now
            (λ o j up h. (let g = may.waited o j up (here_later (appended (admitting k.0) (after_deciding u S))
            (admitting_put k.0 (after_deciding u S) (deciding_put u.applied caused none_moved (cause_put u.cause S put)))
            o.fileset o.moves h) in (
              g.0,
              subst (λ (fs : FilesetId). TookOf v caused host fs (GiveBack g.0)) g.2
                  (taken_admitting (λ before x. TakesOf v before x host g.0.fid.fileset (GiveBack g.0))
                  (of_takes v host g.0) k.0 u S
                  (subst (λ (fs : FilesetId). TookOf v (appended (admitting k.0) (after_deciding u S)) host fs
                  (GiveBack g.0))
                  (sym g.2) g.1)),
              g.2,
              g.3,
            ))) in
            no_answer l p u a at d.1.0 d.1.1 same

        stuck_after : IsStuck (after_step u S)
        stuck_after = record {
          now = epoch_step u S ∙ same;
          took = in_caused (λ before x. TakesFrom before x host m.moves (Reclaim claim)) u S took;
          reclaimed = λ r. elim (reclaims_step host u S r) [
            | inl was ↦ fresh (reclaims_cause host u.cause S mark.listed.0 was)
            | inr k ↦ admits_not k.0 k.1 k.2
          ];
          lacks = lacks_after;
        }

    stuck_on : (l p : List Step) (u : Step) → At (u ∷ l) p → IsStuck (acts p) → IsStuck (acts (u ∷ p))
    stuck_on l p u a stuck = go u.node refl
      where
        then : At l (u ∷ p)
        then = after a (here l p u)

        by_server : u.node ≡ Server v → IsStuck (after_step u (acts p))
        by_server at =
            stuck_after l p u then at a.mark stuck.now stuck.reclaimed
            (in_cause (λ before x. TakesFrom before x host m.moves (Reclaim claim)) u.cause (acts p)
            (same l p u then at a.mark stuck.now stuck.reclaimed ∙ sym stuck.now) stuck.took)

        go : (k : Node) → u.node ≡ k → IsStuck (acts_after v k u (acts p))
        go (Host k) at = stuck
        go (Server k) at =
            if_server IsStuck k v (after_step u (acts p)) (acts p) (λ e. by_server (at ∙ ap Server e)) stuck

    to_end : (l p : List Step) → At l p → IsStuck (acts p) → IsStuck (acts (appended l p))
    to_end [] p a stuck = stuck
    to_end (u ∷ l) p a stuck = to_end l (u ∷ p) (after a (here l p u)) (stuck_on l p u a stuck)

    -- # But each give-back that the claim calls outstanding was taken in this epoch
    record Learnt (g : Give) : Type 0 where
      pub before : List Step
      pub later_on : List Step
      pub step : Step
      pub at : At (step ∷ later_on) before
      pub is_host : step.node ≡ Host host
      pub learns : Learns (own before) step (number_of g)

    find_after : (g : Give) (l p : List Step) → At l p → IsKnown (own (appended l p)) g → IsKnown (own p) g ⊎ Learnt g
    find_after g [] p a o = inl o
    find_after g (u ∷ l) p a o = elim (find_after g l (u ∷ p) (after a (here l p u)) o) [
      | inr f ↦ inr f
      | inl now ↦ at u.node refl now
    ]
      where
        at : (k : Node) → u.node ≡ k → IsKnown (own_after host k u (own p)) g → IsKnown (own p) g ⊎ Learnt g
        at (Server k) is now = inl now
        at (Host k) is now =
            if_host (λ (L : List Step). IsKnown L g → IsKnown (own p) g ⊎ Learnt g) k host (u ∷ own p) (own p)
            (λ same o. elim o [
              | inl learns ↦ inr (record {
                before = p;
                later_on = l;
                step = u;
                at = a;
                is_host = is ∙ ap Host same;
                learns = learns;
              })
              | inr old ↦ inl old
            ]) (λ o. inl o) now

    may_host : HostMay script host (own past) s
    may_host = (subst (λ (k : Node). StepMeets script start firsts k past s) node (met later (s ∷ past) e).1.0).0

    gone_taken : (g : Give) → home g.fid.fileset ≡ v → epoch (acts run) ≡ e0 → (f : Learnt g) (w : Message)
        → f.step.cause ≡ Came w → w.server ≡ home g.fid.fileset
        → w.epoch ≡ epoch_at (own f.before) (home g.fid.fileset) → w.body ≡ Gone (number_of g)
        → (k : Give) × TookOf v (acts run) host k.fid.fileset (GiveBack k) × (number_of k ≡ number_of g)
    gone_taken g at_v ends f w cause server epoch_is body = (k.0, took_here v host k.1 k.0 (acts run) ((all [] run refl).at v).served.put stay at_end, k.3)
      where
        whole : appended (f.step ∷ f.later_on) f.before ≡ run
        whole = f.at.whole

        came : CameToHost firsts host f.before f.step
        came = (subst (λ (n : Node). StepMeets script start firsts n f.before f.step) f.is_host
            (met f.later_on (f.step ∷ f.before) whole).1.0).1

        sent : SentTo (acts f.before) host w.epoch w.moves (Gone (number_of g))
        sent =
            let to_v : w.server ≡ v = server ∙ at_v in
            subst (λ (y : ServerId × Body). SentTo (doings_of (firsts y.0) y.0 f.before) host w.epoch w.moves y.1)
            (λ i. (to_v i, body i)) (came w cause).2

        behind : epoch_at (own f.before) v ≤ epoch (acts f.before)
        behind = (((all (f.step ∷ f.later_on) f.before whole).at v).link host).behind

        is_e0 : epoch (acts f.before) ≡ e0
        is_e0 =
            let ge = f.at.above in
            let le = subst (λ (L : List Step). epoch (acts f.before) ≤ epoch (acts L)) whole
            (grows_on firsts v (f.step ∷ f.later_on) f.before) in
            let b = behind in
            omega (arith, ge, le, b, ends)

        now : w.epoch ≡ epoch (acts f.before)
        now =
            let is : w.epoch ≡ epoch_at (own f.before) v =
            epoch_is ∙ ap (λ (u : ServerId). epoch_at (own f.before) u) at_v in
            let ge = f.at.above in
            let b = behind in
            let same = is_e0 in
            omega (arith, is, ge, b, same)

        k : (k : Give) × (j : ℕ) × TookNow (acts f.before) host j (GiveBack k) × (number_of k ≡ number_of g)
        k = gones_from script start firsts host v f.before (met (f.step ∷ f.later_on) f.before whole)
            (dues (f.step ∷ f.later_on) f.before whole)
            (λ l p q ep n b o. ((all (appended_on l) p (on l p q)).at v).served.sent_epoch host ep n b o)
            w.epoch w.moves (number_of g) sent now
          where
            rest : List Step
            rest = f.step ∷ f.later_on

            appended_on : List Step → List Step
            appended_on [] = rest
            appended_on (x ∷ l) = x ∷ appended_on l

            joins : (l p : List Step) → appended (appended_on l) p ≡ appended rest (appended l p)
            joins [] p = refl
            joins (x ∷ l) p = joins l (x ∷ p)

            on : (l p : List Step) → appended l p ≡ f.before → appended (appended_on l) p ≡ run
            on l p q = joins l p ∙ (ap (λ (L : List Step). appended rest L) q ∙ whole)

        at_end : TookNow (acts run) host k.1 (GiveBack k.0)
        at_end =
            subst (λ (L : List Step). TookNow (acts L) host k.1 (GiveBack k.0)) whole
            (in_last firsts v (λ before x. TakesFrom before x host k.1 (GiveBack k.0)) (f.step ∷ f.later_on) f.before
            (subst (λ (L : List Step). epoch (acts L) ≤ epoch (acts f.before)) (sym whole)
            (let same = is_e0 in omega (arith, ends, same))) k.2)

        stay : first_stay k.0.fid.fileset ≡ record { server = v; moves = k.1 }
        stay =
            let whole_run = all [] run refl in
            stay_first (own run) k.0.fid.fileset v k.1
            ((whole_run.alone host).said_made k.0 v (epoch (acts run)) k.1
            (((whole_run.at v).link host).took k.1 (GiveBack k.0) at_end)).1

    gives_taken : epoch (acts run) ≡ e0 → HasTakenGives v (acts run) host claim
    gives_taken ends o i up at = go (find_after g later (s ∷ past) start_at
        (subst (λ (L : List Step). IsKnown (own L) g) (sym e) (known g made)))
      where
        out : (g : Give) × IsOutstanding (s ∷ own past) g ×
            (number_of g ≡ record { fileset = o.fileset; number = o.give })
        out = (may_host.tokens.claims v claims.0 claims.1 claim claims.3).gives o i up

        g : Give
        g = out.0

        fileset : g.fid.fileset ≡ o.fileset
        fileset = ap (λ (y : AppliedGive). y.fileset) out.2

        at_v : home g.fid.fileset ≡ v
        at_v =
            ap home fileset
            ∙ ap (λ (y : Stay). y.server) (here_is v (acts run) o.fileset o.moves ((all [] run refl).at v).served.put at)

        made : Made (own run) g
        made =
            subst (λ (L : List Step). Made (own L) g) e
            (own_on host (λ (L : List Step). Made L g) (λ A t q. inr q) later (s ∷ past)
            (subst (λ (L : List Step). Made L g) (sym (host_steps host s past node)) out.1.made))

        Goal : Type 0
        Goal = (k : Give) × TookOf v (acts run) host o.fileset (GiveBack k) × (k.fid.fileset ≡ o.fileset)
            × (k.number ≡ o.give)

        go : IsKnown (own (s ∷ past)) g ⊎ Learnt g → Goal
        go (inl then) =
            absurd (out.1.unknown (subst (λ (L : List Step). IsKnown L g) (host_steps host s past node) then))
        go (inr f) = elim f.learns.1 [
          | inl (w, cause, server, epoch_is, moves, body) ↦ (
              let k = gone_taken g at_v ends f w cause server epoch_is body in
              let same : k.0.fid.fileset ≡ o.fileset = ap (λ (y : AppliedGive). y.fileset) k.2 ∙ fileset in (
                k.0,
                subst (λ (fs : FilesetId). TookOf v (acts run) host fs (GiveBack k.0)) same k.1,
                same,
                ap (λ (y : AppliedGive). y.number) k.2 ∙ ap (λ (y : AppliedGive). y.number) out.2,
              )
              )
          | inr (u, answer, (w, cause, server, epoch_is, moves, body), among) ↦ absurd
              (answered f u answer w cause server epoch_is moves body among)
        ]
          where
            applied_at : (u : ServerId) (T : List Doing) → StaysPut T → IsApplied u T host (number_of g)
                → (n : ℕ) × (first_stay g.fid.fileset ≡ record { server = u; moves = n })
            applied_at u [] put x = elim x [ ]
            applied_at u (a ∷ T) put (inl x) =
                let t = x.1 in (t.0, here_is u T g.fid.fileset t.0 (λ o. put (inr o)) t.1)
            applied_at u (a ∷ T) put (inr x) = applied_at u T (λ o. put (inr o)) x

            -- a Reclaimed that names it is another server's, or answers the claim
            answered : (f : Learnt g) (u : ServerId) (answer : ReclaimedOf) (w : Message) → f.step.cause ≡ Came w
                → w.server ≡ u → w.epoch ≡ epoch_at (own f.before) u → w.moves ≡ 0 → w.body ≡ Reclaimed answer
                → In (number_of g) answer.applied → ⊥
            answered f u answer w cause server epoch_is moves body among =
                now.1 answer (
                  w,
                  cause,
                  server ∙ is_v,
                  epoch_is ∙ ap (λ (x : ServerId). epoch_at (own f.before) x) is_v,
                  moves,
                  body,
                )
              where
                whole : appended (f.step ∷ f.later_on) f.before ≡ run
                whole = f.at.whole

                came : CameToHost firsts host f.before f.step
                came = (subst (λ (n : Node). StepMeets script start firsts n f.before f.step) f.is_host
                    (met f.later_on (f.step ∷ f.before) whole).1.0).1

                sent : SentTo (doings_of (firsts u) u f.before) host w.epoch w.moves (Reclaimed answer)
                sent =
                    subst (λ (y : ServerId × Body). SentTo (doings_of
                    (firsts y.0) y.0 f.before) host w.epoch w.moves y.1)
                    (λ i. (server i, body i)) (came w cause).2

                is_v : u ≡ v
                is_v =
                    let k = applied_at u (doings_of (firsts u) u f.before)
                    ((all (f.step ∷ f.later_on) f.before whole).at u).served.put
                    (((all (f.step ∷ f.later_on) f.before whole).at u).served.reclaimed host w.epoch w.moves answer
                    (number_of g) sent among) in
                    sym (ap (λ (y : Stay). y.server) k.1) ∙ at_v

                now : AwaitsReclaimed (f.step ∷ own f.before) v
                now =
                    subst (λ (L : List Step). AwaitsReclaimed L v) (host_steps host f.step f.before f.is_host)
                    (awaits_at f.later_on (f.step ∷ f.before) whole
                    (let q : suc (length f.later_on) ≤ length later = f.at.short in omega (arith, q)))

    stuck_none : (l p : List Step) → At l p → IsStuck (acts p) → ⊥
    stuck_none l p a stuck =
        let ends = subst (λ (L : List Step). IsStuck (acts L)) a.whole (to_end l p a stuck) in
        ends.lacks (gives_taken ends.now)

    -- so it can't have been taken
    never : ⊥
    never = elim went.2 [
      | inl lapses ↦ lapses_not later (s ∷ past) start_at lapses
      | inr taken ↦ taken_none (cut later (s ∷ past) taken.0 taken.1) taken.2
    ]
      where
        body : m.body ≡ Reclaim claim
        body = claims.3.5

        is_epoch : m.epoch ≡ e0
        is_epoch = claims.3.3 ∙ (may_host.tokens.epochs v claims.0 claims.1 (Reclaim claim) claims.3
            ∙ sym (ap (λ (L : List Step). epoch_at L v) (host_steps host s past node)))

        went : (m.host ≡ host) × (m.direction ≡ ToServer) × (LapsesIn later (Host host) ⊎ IsTakenIn later m)
        went = host_sends script start firsts real run meets due over none host live past later s e node m claims.3.1
            (ap (λ (b : Body). resender_by b m) body)

        by_server : {t : Step} → Cut (s ∷ past) later t → t.cause ≡ Came m → t.node ≡ Server v → ⊥
        by_server {t = t} c cause at = elim (decide e0 (epoch (acts c.before))) [
          | inl up ↦ tells_not c.after c.before t (after start_at c) at
              (t_due.answers.late host m cause went.0 alive
              (λ q. (let is_e = is_epoch in omega (arith, q, is_e, up)))
              (λ q. (let z : Reclaim claim ≡ Hello = sym body ∙ q in cc))
              (λ q. (let z : Reclaim claim ≡ Down = sym body ∙ q in cc)))
              (let grows = epoch_after_cause t (acts c.before) in omega (arith, up, grows))
          | inr le ↦ stuck_none c.after (t ∷ c.before) (after start_at c)
              (subst IsStuck (sym (server_doings (firsts v) v t c.before at))
              (stuck_after c.after c.before t (after start_at c) at (mark_before start_at c) (now le)
              (fresh (now le)) (taken_now (now le))))
        ]
          where
            whole : appended (t ∷ c.after) c.before ≡ run
            whole = whole_cut start_at c

            t_due : ServerDue script start v (steps_of_server v c.before) (acts c.before) t
            t_due = due_then c.after c.before t whole at

            alive : IsLive (acts c.before) host
            alive = mark_live (t ∷ c.after) c.before whole (mark_before start_at c)

            now : epoch (acts c.before) ≤ e0 → epoch (acts c.before) ≡ e0
            now le =
                let behind = (((all (t ∷ c.after) c.before whole).at v).link host).behind in
                let ge = above_before start_at c in
                omega (arith, le, behind, ge)

            taken_now : epoch (acts c.before) ≡ e0
                → TookNow (after_cause t.cause (acts c.before)) host m.moves (Reclaim claim)
            taken_now ends =
                let at_e : m.epoch ≡ epoch (acts c.before) = is_epoch ∙ sym ends in
                subst (λ (x : Cause). TookNow (after_cause x (acts c.before)) host m.moves (Reclaim claim)) (sym cause)
                (inl ((λ i. Took (went.0 i) (at_e i) m.moves (body i)), alive))

            fresh : epoch (acts c.before) ≡ e0 → HasReclaimed (acts c.before) host → ⊥
            fresh ends r =
                let k = t_due.answers.claim_again host m.moves claim
                ((m, cause, went.0, is_epoch ∙ sym ends, refl, body), alive) r in
                no_answer c.after c.before t (after start_at c) at k.0 k.3
                (ap (λ (x : Cause). epoch (after_cause x (acts c.before))) cause ∙ ends)

        taken_none : {t : Step} → Cut (s ∷ past) later t → t.cause ≡ Came m → ⊥
        taken_none {t = t} c cause = go t.node refl (met c.after (t ∷ c.before) (whole_cut start_at c)).1.0
          where
            go : (k : Node) → t.node ≡ k → StepMeets script start firsts k c.before t → ⊥
            go (Host k) at m' = absurd (let z : ToServer ≡ ToHost = sym went.1 ∙ (m'.1 m cause).1 in cc)
            go (Server k) at m' = by_server c cause (at ∙ ap Server (sym (m'.1 m cause).0 ∙ claims.3.2))

  pub claims_none : (fuel : ℕ) (past later : List Step) (s : Step) → length later < fuel
      → appended (s ∷ later) past ≡ run → s.node ≡ Host host → ClaimsAt s v → ⊥
  claims_none zero past later s lt e node claims = absurd (omega (arith, lt))
  claims_none (suc fuel) past later s lt e node claims =
      never past later s e node claims
      (λ p l t short whole at more. claims_none fuel p l t
      (let x : length later < suc fuel = lt in omega (arith, short, x)) whole at more)

-- what waits was sent
claimed : (v : ServerId) (A : List Step) → AwaitsReclaimed A v → Once (λ before s. ClaimsAt s v) A
claimed v [] aw = elim aw [ ]
claimed v (s ∷ A) aw = elim aw.0 [ inl claims ↦ inl claims | inr was ↦ inr (claimed v A was.0) ]

pub claims_are_answered : ClaimsAreAnswered
claims_are_answered script journal q host live v stays aw =
    let f = found host (λ before s. ClaimsAt s v) journal.steps
    (claimed v (steps_of_host host (past_of journal)) aw) in
    claims_none script q.run.start (firsts_of journal) (λ u. from_one _) (past_of journal) q.run.steps
    (due_of script journal q.run q.dutiful) q.over q.none_held host live v stays
    (λ g made. gives_are_known script journal q host live g made) aw (suc (length f.after)) f.before f.after f.step
    (omega arith) f.whole f.node f.here
