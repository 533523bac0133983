-- A give-back that a host has made is known as applied, once all that was sent is over.
use Rattle.std.proofs.Common.{Bool, List, [], ap, arith, false, inl, inr, length, refl, subst}
use Rattle.std.proofs.Common.{suc, sym, true, zero, ℕ, ◌<◌, ◌∙◌, ◌∷◌, ◌≡◌, ◌≤◌, ◌⊎◌}
use Rattle.base_types.specs.declared.ids.HostId.{HostId}
use Rattle.base_types.specs.declared.ids.Node.{Node}
use Rattle.base_types.specs.declared.ids.Node.TheVariants.{Host, Server}
use Rattle.base_types.specs.declared.ids.ServerId.{ServerId}
use Rattle.tree_answers.specs.declared.tree.Tree.{Tree}
use Rattle.token_types.specs.declared.token.Token.{Token}
use Rattle.token_types.specs.declared.token.TokenId.{TokenId}
use Rattle.script_lines.specs.declared.script.Script.{Script}
use Rattle.message_types.specs.declared.giving.Give.{Give}
use Rattle.message_types.specs.declared.message.Body.{Body}
use Rattle.message_types.specs.declared.message.Body.TheVariants.{Bye, Down, GiveBack, Gone, Hello}
use Rattle.message_types.specs.declared.message.Body.TheVariants.{Restarted}
use Rattle.message_types.specs.declared.message.Direction.TheVariants.{ToHost, ToServer}
use Rattle.message_types.specs.declared.message.Message.{Message}
use Rattle.message_types.specs.declared.telling.Bring.{Bring}
use Rattle.run_examples.proofs.Words.{is_known, known_is, known_yes}
use Rattle.run_rules.specs.Doings.{Doing, HasGoneAway, Here, IsLive, Issued, ListedNow, SentNow, StayStamp}
use Rattle.run_rules.specs.Doings.{after_cause, doings_of, epoch}
use Rattle.run_rules.specs.Doings.Doing.{Sent}
use Rattle.run_rules.specs.HostDue.{HostDue}
use Rattle.run_rules.specs.HostMay.{HostMay}
use Rattle.run_rules.specs.Messages.{HasGreeted, HasSaid, HasStopped, Sends, Stay, epoch_at}
use Rattle.run_rules.specs.Messages.{first_stay, home, stay_of}
use Rattle.run_rules.specs.Past.{Always, In, appended}
use Rattle.run_rules.specs.Plans.{resender_by}
use Rattle.run_rules.specs.Runs.{StepDue, StepMeets, StepsMeet, firsts_of, past_of}
use Rattle.run_rules.specs.ServerDue.{ServerDue}
use Rattle.run_rules.specs.ServerTokens.{ServerTokens}
use Rattle.run_rules.specs.Steps.{steps_of_host, steps_of_server}
use Rattle.run_rules.specs.Tokens.{AtHand, IsKnown, IsOutstanding, Made, Uses, number_of}
use Rattle.run_rules.specs.declared.step.Cause.{Cause}
use Rattle.run_rules.specs.declared.step.Cause.TheVariants.{Lapse, Message as Came}
use Rattle.run_rules.specs.declared.step.Step.{Step}
use Rattle.run_tokens.proofs.Invariant.{Alone}
use Rattle.run_tokens.proofs.Law.{Whole, always}
use Rattle.run_tokens.proofs.TokenRun.{token_run}
use Rattle.run_tokens.proofs.Unmoved.{here_was}
use Rattle.run_tokens.proofs.Words.{if_host, made_left, own_after, stay_first}
use Rattle.run_goes_on.proofs.Arriving.{due_at, due_of, found, from_one, host_sends, meets_at, whole_at}
use Rattle.run_goes_on.proofs.Calls.{outstanding_of}
use Rattle.run_goes_on.proofs.Doings.{Knows, epoch_after_cause, heard, knows}
use Rattle.run_goes_on.proofs.Doings.{listed_said, sent_so}
use Rattle.run_goes_on.proofs.Positions.{Cut, cut, host_steps, own_on, own_run}
use Rattle.run_goes_on.proofs.Staying.{SendsIt, WasSent, give_said, said_so}
use Rattle.run_goes_on.proofs.Telling.{After, above_before, after, below, decide, first, learns_by, mark_before}
use Rattle.run_goes_on.proofs.Telling.{no_lapse, server_due, server_from, server_may, server_sends, tells_none}
use Rattle.run_goes_on.proofs.Telling.{whole_cut}
use Rattle.run_goes_on.specs.Rest.{AllIsOver, IsTakenIn, LapsesIn, NoneIsHeld}
use Rattle.run_tokens.specs.Unmoved.{StaysPut}
use Rattle.run_rules.specs.Doings.{after_admitting}
use Rattle.run_tokens.proofs.TokenRun.{works_none}
use Rattle.run_tokens.proofs.Unmoved.{admitted_put}
use Rattle.run_tokens.proofs.Words.{never_moved}
use Rattle.run_rules.specs.Kept.{filesets_kept}
use Rattle.run_goes_on.specs.Waiting.{GivesAreKnown}

-- # A host that has said Bye makes no give-back any more
module _ (script : Script) (host : HostId) (g : Give) where
  named : (A : List Step) → Always (HostMay script host) A → Made A g → (i : TokenId) × In i g.ids
  named [] run made = elim made [ ]
  named (s ∷ A) run (inr made) = named A run.0 made
  named (s ∷ A) run (inl now) = go g.ids refl
    where
      go : (ids : List TokenId) → g.ids ≡ ids → (i : TokenId) × In i g.ids
      go [] e = absurd (run.1.gives.names g now e)
      go (i ∷ ids) e = (i, subst (In i) (sym e) (inl refl))

  made_none : (A : List Step) (s : Step) → HostMay script host A s → Alone A → (w : ServerId) → HasSaid A w Bye
      → In g s.made → ⊥
  made_none A s may alone w said now = go g.ids refl
    where
      uses : (b : Bring) → Uses A s b → ⊥
      uses b (inl (grant, about, is, asking), above, shut) =
          alone.bye_asking w b.fid.fileset b.number said asking
      uses b (inr (done, about, is, changing, lone), above, shut) =
          alone.bye_changing w (stay_of A b.fid.fileset).server done.fileset b.number said changing

      at_hand : (t : Token) → AtHand s A t → ⊥
      at_hand t (inl taken) = let k = may.tokens.takes t taken in uses k.0 k.1
      at_hand t (inr held) = alone.bye_held t w said (alone.owns t held)

      go : (ids : List TokenId) → g.ids ≡ ids → ⊥
      go [] e = may.gives.names g now e
      go (i ∷ ids) e = let k = may.tokens.makes g i now (subst (In i) (sym e) (inl refl)) in at_hand k.0 k.1

module _ (script : Script) (start : Tree) (firsts : ServerId → ℕ) (real : (v : ServerId) → 0 < firsts v)
    (host : HostId) (g : Give) (w : ServerId) where
  bye_at : (k : Node) (past : List Step) (s : Step) → StepsMeet script start firsts past
      → StepMeets script start firsts k past s
      → (HasSaid (steps_of_host host past) w Bye → Made (steps_of_host host past) g
      → IsKnown (steps_of_host host past) g)
      → HasSaid (own_after host k s (steps_of_host host past)) w Bye
      → Made (own_after host k s (steps_of_host host past)) g
      → IsKnown (own_after host k s (steps_of_host host past)) g
  bye_at (Server u) past s run m old = old
  bye_at (Host k) past s run m old =
      if_host (λ (L : List Step). HasSaid L w Bye → Made L g → IsKnown L g) k host (s ∷ steps_of_host host past)
      (steps_of_host host past) mine old
    where
      may : k ≡ host → HostMay script host (steps_of_host host past) s
      may same = subst (λ (h : HostId). HostMay script h (steps_of_host h past) s) same m.0

      alone : Alone (steps_of_host host past)
      alone = (always firsts past (token_run script start firsts past real run)).alone host

      mine : k ≡ host → HasSaid (s ∷ steps_of_host host past) w Bye → Made (s ∷ steps_of_host host past) g
          → IsKnown (s ∷ steps_of_host host past) g
      mine same (e, n, inl sends) made = (may same).tokens.bye_gives w e n g sends made
      mine same (e, n, inr said) (inr made) = inr (old (e, n, said) made)
      mine same (e, n, inr said) (inl now) =
          absurd (made_none script host g (steps_of_host host past) s (may same) alone w (e, n, said) now)

  bye_known : (past : List Step) → StepsMeet script start firsts past → HasSaid (steps_of_host host past) w Bye
      → Made (steps_of_host host past) g → IsKnown (steps_of_host host past) g
  bye_known [] run said made = elim made [ ]
  bye_known (s ∷ past) run said made = bye_at s.node past s run.0 run.1.0 (bye_known past run.0) said made

-- # A give-back that isn't known as applied
module _ (script : Script) (start : Tree) (firsts : ServerId → ℕ) (real : (v : ServerId) → 0 < firsts v)
    (run : List Step) (meets : StepsMeet script start firsts run)
    (due : Always (λ before s. StepDue script start firsts s.node before s) run) (over : AllIsOver script run)
    (none : NoneIsHeld script run) (host : HostId) (live : HasStopped (steps_of_host host run) → ⊥) (g : Give)
    (unknown : IsKnown (steps_of_host host run) g → ⊥) where
  abbrev own : List Step → List Step
  own past = steps_of_host host past

  -- the server that it goes to, and its doings
  abbrev v : ServerId
  v = home g.fid.fileset

  abbrev acts : List Step → List Doing
  acts past = doings_of (firsts v) v past

  abbrev WasGiven : List Step → Type 0
  WasGiven past = WasSent v (GiveBack g) (own past)

  met : (later past : List Step) → appended later past ≡ run → StepsMeet script start firsts past
  met later past e = meets_at script start firsts real run meets due over none later past e

  dues : (past later : List Step) (s : Step) → appended (s ∷ later) past ≡ run
      → StepDue script start firsts s.node past s
  dues past later s e = due_at script start firsts real run meets due over none past later s e

  all : (later past : List Step) → appended later past ≡ run
      → Whole (λ h. steps_of_host h past) (λ u. doings_of (firsts u) u past)
  all later past e = whole_at script start firsts real run meets due over none later past e

  knowing : (later past : List Step) → appended later past ≡ run → Knows v host (acts past)
  knowing later past e = knows script start firsts real past (met later past e) v host

  unknown_at : (later past : List Step) → appended later past ≡ run → IsKnown (own past) g → ⊥
  unknown_at later past e known =
      unknown (subst (λ (L : List Step). IsKnown (own L) g) e
      (own_on host (λ (L : List Step). IsKnown L g) (λ A s k. inr k) later past known))

  live_own : (later past : List Step) → appended later past ≡ run → HasStopped (own past) → ⊥
  live_own later past e stopped =
      live (subst (λ (L : List Step). HasStopped (own L)) e
      (own_on host HasStopped (λ A s k. (k.0, k.1, k.2, inr k.3)) later past stopped))

  outstanding_at : (later past : List Step) → appended later past ≡ run → WasGiven past → IsOutstanding (own past) g
  outstanding_at later past e sent =
      let alone = (all later past e).alone host in
      let k = said_so v (GiveBack g) (own past) sent in
      record {
        made = (alone.said_made g k.0 k.1 k.2 k.3).0;
        unknown = unknown_at later past e;
        first = λ w. w.4 (alone.said_first g w.0 k.0 k.1 k.2 k.3 w.1 w.2 w.3);
      }

  -- it names a token that the server issued to the host
  issued_to : (later past : List Step) → appended later past ≡ run → Made (own past) g
      → (t : Token) × (x : StayStamp) × Issued (acts past) t x × (t.host ≡ host)
  issued_to later past e made =
      let i = named script host g (own past) (own_run script start firsts past (met later past e) host) made in
      let there = ((all later past e).at i.0.server).link host in
      let same : i.0.server ≡ v = sym (there.made_id g i.0 made i.1 refl) in
      let spent = (((all later past e).at v).link host).left i.0 same (made_left (own past) g i.0 made i.1) in
      (spent.token, spent.mark, spent.issued, spent.host)

  away_at : (later past : List Step) → appended later past ≡ run → Made (own past) g → HasGoneAway (acts past) host → ⊥
  away_at later past e made away = elim ((((all later past e).at v).link host).away away) [
    | inl stopped ↦ live_own later past e stopped
    | inr said ↦ unknown_at later past e
        (bye_known script start firsts real host g v past (met later past e) said made)
  ]

  -- so the host is live there, and has greeted the server
  live_at : (later past : List Step) → appended later past ≡ run → WasGiven past → IsLive (acts past) host
  live_at later past e sent =
      let made = (outstanding_at later past e sent).made in
      let k = issued_to later past e made in
      ((knowing later past e).listed k.0 k.1 k.2 k.3, away_at later past e made)

  greeted_at : (later past : List Step) → appended later past ≡ run → WasGiven past → HasGreeted (own past) v
  greeted_at later past e sent =
      let k = listed_said (acts past) host (live_at later past e sent).0 in
      (k.0, k.1, heard script start firsts real host k.0 k.1 Hello v past (met later past e) k.2)

  above_at : (later past : List Step) → appended later past ≡ run → WasGiven past → 0 < epoch_at (own past) v
  above_at later past e sent =
      let k = issued_to later past e (outstanding_at later past e sent).made in
      let up = (knowing later past e).above k.0 k.1 k.2 in
      let le = (((all later past e).at v).link host).asked k.0 k.1 k.2 k.3 in
      omega (arith, up, le)

  sent_on : (p : List Step) (x : Step) → WasGiven p → WasGiven (x ∷ p)
  sent_on p x sent = own_on host (WasSent v (GiveBack g)) (λ A y o. inr o) (x ∷ []) p sent

  -- where it came on the list in this epoch, its own epoch is no older
  listed_new : (l p : List Step) → appended l p ≡ run → WasGiven p → ListedNow (acts p) host
      → epoch (acts p) ≤ epoch_at (own p) v
  listed_new l p whole sent listed =
      let k = issued_to l p whole (outstanding_at l p whole sent).made in
      let same = (knowing l p whole).now k.0 k.1 listed k.2 k.3 in
      let at = (((all l p whole).at v).link host).asked k.0 k.1 k.2 k.3 in
      omega (arith, same, at)

  host_due : (l p : List Step) (t : Step) → appended (t ∷ l) p ≡ run → t.node ≡ Host host
      → HostDue script host (own p) t
  host_due l p t whole at =
      subst (λ (k : Node). StepDue script start firsts k p t) at (dues p l t whole)

  -- # A step that sends it, where no later one does
  module _ (past later : List Step) (s : Step) (e : appended (s ∷ later) past ≡ run) (node : s.node ≡ Host host)
      (to : ServerId) (ep mv : ℕ) (sends : Sends s to ep mv (GiveBack g))
      (resent : (p l : List Step) (t : Step) → length l < length later → appended (t ∷ l) p ≡ run → t.node ≡ Host host
      → (u : ServerId) (d k : ℕ) → Sends t u d k (GiveBack g) → ⊥) where
    abbrev e0 : ℕ
    e0 = epoch_at (own (s ∷ past)) v

    abbrev At : List Step → List Step → Type 0
    At l p = After WasGiven run later e0 host v l p

    marked : WasGiven (s ∷ past)
    marked = subst (WasSent v (GiveBack g)) (sym (host_steps host s past node)) (inl (to, ep, mv, sends, tt))

    -- no lapse comes, and no Restarted that raises the epoch: each sends it again
    lapse_none : (l p : List Step) (t : Step) → length l < length later → appended (t ∷ l) p ≡ run → WasGiven p
        → t.node ≡ Host host → t.cause ≡ Lapse → ⊥
    lapse_none l p t short whole sent at lapse =
        resent p l t short whole at v (epoch_at (own p) v) 0
        ((host_due l p t whole at).repeats.lapse_all v 0 (GiveBack g) lapse
        (outstanding_at (t ∷ l) p whole sent, refl))

    raise_none : (l p : List Step) (t : Step) → length l < length later → appended (t ∷ l) p ≡ run → WasGiven p
        → t.node ≡ Host host → epoch_at (own p) v < epoch_at (t ∷ own p) v → ⊥
    raise_none l p t short whole sent at up =
        resent p l t short whole at v (epoch_at (t ∷ own p) v) 0
        ((host_due l p t whole at).repeats.restarted_gives v 0 g
        (learns_by (own p) t v (greeted_at (t ∷ l) p whole sent) (above_at (t ∷ l) p whole sent) up)
        (outstanding_at (t ∷ l) p whole sent, refl))

    start_at : At later (s ∷ past)
    start_at =
        first script start firsts real run meets due over none host live v WasGiven sent_on live_at listed_new past
        later s e marked lapse_none raise_none

    lapses_not : (l p : List Step) → At l p → LapsesIn l (Host host) → ⊥
    lapses_not =
        no_lapse script start firsts real run meets due over none host live v WasGiven sent_on live_at listed_new past
        later s e marked lapse_none raise_none

    under : (l p : List Step) → appended l p ≡ run → epoch_at (own p) v ≤ e0
    under =
        below script start firsts real run meets due over none host live v WasGiven sent_on live_at listed_new past
        later s e marked lapse_none raise_none

    tells_not : (l p : List Step) (t : Step) → At l (t ∷ p) → t.node ≡ Server v → SentNow t host Restarted
        → e0 < epoch (after_cause t.cause (acts p)) → ⊥
    tells_not l p t a at sent up =
        tells_none script start firsts real run meets due over none host live v WasGiven sent_on live_at listed_new past
        later s e marked lapse_none raise_none l p t (a, at, sent, up)

    -- the server can't have answered by Gone
    gone_none : (l p : List Step) (t : Step) → At l (t ∷ p) → t.node ≡ Server v
        → SentNow t host (Gone (number_of g))
        → epoch (after_cause t.cause (acts p)) ≡ e0 → ⊥
    gone_none l p t a at (m, i, is, body) same =
        elim (server_sends script start firsts real run meets due over none host live v l p t a.whole at m i is
        (Host host) (ap (λ (b : Body). resender_by b m) body ∙ ap Host is) live) [
          | inl lapses ↦ lapses_not l (t ∷ p) a lapses
          | inr taken ↦ learns (cut l (t ∷ p) taken.0 taken.1) taken.2 taken.3
        ]
      where
        from : (m.server ≡ v) × (m.direction ≡ ToHost)
        from = server_from script start firsts real run meets due over none host live v l p t a.whole at m i

        learns : {u : Step} → Cut (t ∷ p) l u → u.cause ≡ Came m → u.node ≡ Host host → ⊥
        learns {u = u} c cause node_u =
            unknown_at c.after (u ∷ c.before) (c.whole ∙ a.whole)
            (subst (λ (L : List Step). IsKnown L g) (sym (host_steps host u c.before node_u))
            (inl ((g, made_then, refl), inl (m, cause, from.0, present, moves, body))))
          where
            made_then : Made (own c.before) g
            made_then = (outstanding_at (u ∷ c.after) c.before (whole_cut a c) (mark_before a c)).made

            sent : (mid : List Doing) × ServerTokens v mid (Sent m.host m.epoch m.moves m.body)
                × (m.epoch ≡ epoch (after_cause t.cause (acts p)))
                × (StaysPut (after_admitting t (acts p)) → StaysPut mid)
            sent =
                sent_so v t (acts p)
                (server_may script start firsts real run meets due over none host live v l p t a.whole at).tokens m i

            present : m.epoch ≡ epoch_at (own c.before) v
            present =
                let is_e = sent.2 in
                let le = under (u ∷ c.after) c.before (whole_cut a c) in
                let ge = above_before a c in
                omega (arith, is_e, le, ge, same)

            moves : m.moves ≡ 0
            moves =
                let k = (sent.1.gones m.host m.epoch m.moves (number_of g)
                (λ j. Sent m.host m.epoch m.moves (body j))).0 in
                let still =
                works_none v (filesets_kept start v (steps_of_server v p)) (acts p) t
                (server_may script start firsts real run meets due over none host live v l p t a.whole at).works.applies in
                let put = admitted_put t (acts p) still ((all (t ∷ l) p a.whole).at v).served.put in
                sym (never_moved v sent.0 g.fid.fileset m.moves (sent.3 put) k)

    -- and it can't have taken the give-back
    never : ⊥
    never = elim went.2 [
      | inl lapses ↦ lapses_not later (s ∷ past) start_at lapses
      | inr taken ↦ taken_none (cut later (s ∷ past) taken.0 taken.1) taken.2
    ]
      where
        m : Message
        m = sends.0

        may : HostMay script host (own past) s
        may = (subst (λ (k : Node). StepMeets script start firsts k past s) node (met later (s ∷ past) e).1.0).0

        stays : first_stay g.fid.fileset ≡ record { server = to; moves = mv }
        stays = stay_first (s ∷ own past) g.fid.fileset to mv (may.tokens.gives g to ep mv sends).1

        to_v : to ≡ v
        to_v = sym (ap (λ (y : Stay). y.server) stays)

        is_epoch : m.epoch ≡ e0
        is_epoch = sends.3 ∙ (may.tokens.epochs to ep mv (GiveBack g) sends
            ∙ (ap (λ (w : ServerId). epoch_at (s ∷ own past) w) to_v
            ∙ sym (ap (λ (L : List Step). epoch_at L v) (host_steps host s past node))))

        went : (m.host ≡ host) × (m.direction ≡ ToServer) × (LapsesIn later (Host host) ⊎ IsTakenIn later m)
        went = host_sends script start firsts real run meets due over none host live past later s e node m sends.1
            (ap (λ (b : Body). resender_by b m) sends.5)

        by_server : {t : Step} → Cut (s ∷ past) later t → t.cause ≡ Came m → t.node ≡ Server v → ⊥
        by_server {t = t} c cause at = elim (decide e0 (epoch (acts c.before))) [
          | inl up ↦ tells_not c.after c.before t (after start_at c) at
              (dues_t.answers.late host m cause went.0 alive
              (λ q. (let is_e = is_epoch in omega (arith, q, is_e, up)))
              (λ q. (let z : GiveBack g ≡ Hello = sym sends.5 ∙ q in cc))
              (λ q. (let z : GiveBack g ≡ Down = sym sends.5 ∙ q in cc)))
              (let grows = epoch_after_cause t (acts c.before) in omega (arith, up, grows))
          | inr le ↦ gone_none c.after c.before t (after start_at c) at
              (dues_t.answers.gone host m.moves g
              ((m, cause, went.0, now le, refl, sends.5), alive) is_here)
              (caused ∙ (sym (now le) ∙ is_epoch))
        ]
          where
            whole : appended (t ∷ c.after) c.before ≡ run
            whole = whole_cut start_at c

            dues_t : ServerDue script start v (steps_of_server v c.before) (acts c.before) t
            dues_t = server_due script start firsts real run meets due over none host live v c.after c.before t whole at

            alive : IsLive (acts c.before) host
            alive = live_at (t ∷ c.after) c.before whole (mark_before start_at c)

            caused : epoch (after_cause t.cause (acts c.before)) ≡ epoch (acts c.before)
            caused = ap (λ (x : Cause). epoch (after_cause x (acts c.before))) cause

            now : epoch (acts c.before) ≤ e0 → m.epoch ≡ epoch (acts c.before)
            now le =
                let behind = (((all (t ∷ c.after) c.before whole).at v).link host).behind in
                let ge = above_before start_at c in
                let is_e = is_epoch in
                omega (arith, le, behind, ge, is_e)

            is_here : Here v (acts c.before) g.fid.fileset m.moves
            is_here =
                here_was v (acts c.before) g.fid.fileset m.moves ((all (t ∷ c.after) c.before whole).at v).served.put
                (subst (λ (y : ServerId × ℕ). first_stay g.fid.fileset ≡ record { server = y.0; moves = y.1 })
                (λ i. (to_v i, sym sends.4 i)) stays)

        taken_none : {t : Step} → Cut (s ∷ past) later t → t.cause ≡ Came m → ⊥
        taken_none {t = t} c cause = go t.node refl (met c.after (t ∷ c.before) (whole_cut start_at c)).1.0
          where
            go : (k : Node) → t.node ≡ k → StepMeets script start firsts k c.before t → ⊥
            go (Host k) at m' = absurd (let z : ToServer ≡ ToHost = sym went.1 ∙ (m'.1 m cause).1 in cc)
            go (Server k) at m' =
                by_server c cause (at ∙ ap Server (sym (m'.1 m cause).0 ∙ (sends.2 ∙ to_v)))

  sent_none : (fuel : ℕ) (past later : List Step) (s : Step) → length later < fuel → appended (s ∷ later) past ≡ run
      → s.node ≡ Host host → (to : ServerId) (ep mv : ℕ) → Sends s to ep mv (GiveBack g) → ⊥
  sent_none zero past later s lt e node to ep mv sends = absurd (omega (arith, lt))
  sent_none (suc fuel) past later s lt e node to ep mv sends =
      never past later s e node to ep mv sends
      (λ p l t short whole at u d k more. sent_none fuel p l t
      (let x : length later < suc fuel = lt in omega (arith, short, x)) whole at u d k more)

pub gives_are_known : GivesAreKnown
gives_are_known script journal q host live g made =
    go (is_known (steps_of_host host (past_of journal)) (number_of g)) refl
  where
    ran : Always (HostMay script host) (steps_of_host host (past_of journal))
    ran = own_run script q.run.start (firsts_of journal) (past_of journal) q.run.steps host

    none_out : (k : Give) → IsOutstanding (steps_of_host host (past_of journal)) k → ⊥
    none_out k out =
        let f = found host (λ before s. SendsIt (home k.fid.fileset) (GiveBack k) s) journal.steps
        (give_said script host (steps_of_host host (past_of journal)) ran live k out (home k.fid.fileset)) in
        sent_none script q.run.start (firsts_of journal) (λ v. from_one _) (past_of journal) q.run.steps
        (due_of script journal q.run q.dutiful) q.over q.none_held host live k out.unknown (suc (length f.after))
        f.before f.after f.step (omega arith) f.whole f.node f.here.0 f.here.1 f.here.2 f.here.3

    go : (b : Bool) → is_known (steps_of_host host (past_of journal)) (number_of g) ≡ b
        → IsKnown (steps_of_host host (past_of journal)) g
    go true e = known_yes (steps_of_host host (past_of journal)) (number_of g) e
    go false e = absurd (unknown_none (λ known. (
        let z : true ≡ false = sym (known_is (steps_of_host host (past_of journal)) (number_of g) known) ∙ e in cc
        )))
      where
        unknown_none : (IsKnown (steps_of_host host (past_of journal)) g → ⊥) → ⊥
        unknown_none unknown =
            let k = outstanding_of (steps_of_host host (past_of journal)) g made unknown in none_out k.0 k.1
