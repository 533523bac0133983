-- A run that is ended rests: no host has a token, a label or a line any more, and no want waits.
use Rattle.std.proofs.Common.{List, [], ap, arith, inl, inr, length, refl, subst, suc, sym, ℕ, ◌<◌, ◌∙◌, ◌∷◌, ◌≡◌}
use Rattle.std.specs.Prelude.{filter}
use Rattle.std.proofs.lemmas.Option.{slice_get_within}
use Rattle.base_types.specs.declared.ids.HostId.{HostId}
use Rattle.base_types.specs.declared.ids.Node.{Node}
use Rattle.base_types.specs.declared.ids.Node.TheVariants.{Host, Server}
use Rattle.base_types.specs.declared.ids.ServerId.{ServerId}
use Rattle.tree_answers.specs.declared.tree.Tree.{Tree}
use Rattle.token_types.specs.declared.token.Token.{Token}
use Rattle.script_lines.specs.declared.script.Line.{Line}
use Rattle.script_lines.specs.declared.script.Script.{Script}
use Rattle.message_types.specs.declared.message.Body.{Body}
use Rattle.message_types.specs.declared.message.Body.TheVariants.{Bye, Change, Down, Fetch, Hello}
use Rattle.message_types.specs.declared.message.Message.{Message}
use Rattle.run_rules.specs.Doings.{after_shipping}
use Rattle.run_rules.specs.Doings.{Doing, GoesAway, HasGoneAway, Listed, SentTo, TakenNow, TookNow, admitting}
use Rattle.run_rules.specs.Doings.{after_admitting, after_cause, after_deciding, after_sending, after_step, deciding}
use Rattle.run_rules.specs.Doings.{doings_of, epoch, sending}
use Rattle.run_rules.specs.Doings.Doing.{Gets, Puts}
use Rattle.run_rules.specs.Doings.Doing.{Admits, BeginsEpoch, Flushes, MakesWant, Reserves, Sent, Took, WritesDown}
use Rattle.run_rules.specs.HostTokens.{IsUnused, MayEvict}
use Rattle.run_rules.specs.Kept.{filesets_after, filesets_kept, filesets_through}
use Rattle.run_rules.specs.Messages.{HasBye, HasGreeted, HasSaid, HasStopped, Said}
use Rattle.run_rules.specs.Past.{In, appended}
use Rattle.run_rules.specs.Runs.{CameToHost, CameToServer, IsEnded, IsRun, StepMeets, StepsMeet, TakesPart, firsts_of}
use Rattle.run_rules.specs.Runs.{past_of}
use Rattle.run_rules.specs.ServerDecides.{MayDecide, MayDecideAll, by_cause, decisions}
use Rattle.run_rules.specs.ServerMay.{ServerMay}
use Rattle.run_rules.specs.Steps.{IsNextLine, is_node, limit_of, lines_gone, lines_of, steps_of_host, steps_of_server}
use Rattle.run_rules.specs.Tokens.{EverHeld, Held, LabelInUse, Owns}
use Rattle.run_rules.specs.Wants.{IsQueued, body_of}
use Rattle.run_rules.specs.declared.applied.Admission.{Admission}
use Rattle.run_rules.specs.declared.applied.Applied.{Applied}
use Rattle.run_rules.specs.declared.applied.Applied.TheVariants.{Done as IsDone, IsDown, Replied, Stored}
use Rattle.run_rules.specs.declared.applied.Applied.TheVariants.{Moves as IsMoved, Wants as IsWanted}
use Rattle.run_rules.specs.declared.applied.Request.{Request}
use Rattle.run_rules.specs.declared.applied.Request.TheVariants.{Change as Changes, Fetch as Asks}
use Rattle.run_rules.specs.declared.applied.Wanted.{Wanted}
use Rattle.run_rules.specs.declared.journal.Journal.{Journal}
use Rattle.run_rules.specs.declared.step.Cause.{Cause}
use Rattle.run_rules.specs.declared.step.Cause.TheVariants.{End, Evict, Flushed, Freight}
use Rattle.run_rules.specs.declared.step.Cause.TheVariants.{Lapse, Line as LineOf, Message as Came}
use Rattle.run_rules.specs.declared.step.Cause.TheVariants.{Restart}
use Rattle.run_rules.specs.declared.step.Labelled.{Labelled}
use Rattle.run_rules.specs.declared.step.Step.{Step}
use Rattle.run_contents.proofs.Calls.{use_owned}
use Rattle.run_contents.proofs.Grants.{all_taken, same_decisions}
use Rattle.run_contents.proofs.Runs.{own_run}
use Rattle.run_tokens.proofs.Law.{Whole, always}
use Rattle.run_tokens.proofs.TokenRun.{token_run}
use Rattle.run_tokens.proofs.Words.{acts_after, if_host, if_server, own_after}
use Rattle.run_goes_on.proofs.Arriving.{from_one}
use Rattle.run_goes_on.proofs.Doings.{heard, knows, listed_said}
use Rattle.run_goes_on.proofs.Grown.{sent_split}
use Rattle.run_goes_on.proofs.Unblocking.{takes_part}
use Rattle.run_goes_on.specs.Ended.{AllIsFlushed, EndedRunsRest, NoMoveWaits}
use Rattle.run_goes_on.specs.Rest.{CanEnd, RunRests}
use Rattle.run_tokens.proofs.TokenRun.{works_none}
use Rattle.run_tokens.proofs.Ships.{ships_keep}
use Rattle.run_goes_on.specs.Resting.{NoneAwaits}

-- # A host whose want waits hasn't gone away

abbrev AllHere : List Doing → Type 0
AllHere S = (w : Wanted) → IsQueued S w → HasGoneAway S w.host → ⊥

on : (S : List Doing) (a : Doing) → ((w : Wanted) → a ≡ MakesWant w → ⊥) → AllHere S → AllHere (a ∷ S)
on S a never old w (inl made) gone = never w made
on S a never old w (inr k) (inl goes) = k.1 (inr (inr (inl goes)))
on S a never old w (inr k) (inr gone) = old w k.0 gone

one_want : (v w : Wanted) → MakesWant v ≡ MakesWant w → v ≡ w
one_want v w e = cc

no_down : (r : Request) → body_of r ≡ Down → ⊥
no_down (Asks f) e = let z : Fetch f ≡ Down = e in cc
no_down (Changes c) e = let z : Change c ≡ Down = e in cc

no_bye : (r : Request) → body_of r ≡ Bye → ⊥
no_bye (Asks f) e = let z : Fetch f ≡ Bye = e in cc
no_bye (Changes c) e = let z : Change c ≡ Bye = e in cc

module _ (v : ServerId) (before : List Doing) (s : Step) where
  -- nor has one whose request the step takes
  abbrev TakesHere : List Doing → Type 0
  TakesHere S = (h : HostId) (n : ℕ) (r : Request) → TakenNow before s h n (body_of r) → HasGoneAway S h → ⊥

  takes_on : (S : List Doing) (a : Doing) → ((h : HostId) → GoesAway S a h → ⊥) → TakesHere S → TakesHere (a ∷ S)
  takes_on S a never here h n r t (inl goes) = never h goes
  takes_on S a never here h n r t (inr gone) = here h n r t gone

  takes_here : TakesHere (after_cause s.cause before)
  takes_here h n r ((m, cause, host, at, moves, body), live) gone =
      by (subst (λ (c : Cause). HasGoneAway (after_cause c before) h) cause gone)
    where
      by : HasGoneAway (Took m.host m.epoch m.moves m.body ∷ before) h → ⊥
      by (inr old) = live.1 old
      by (inl (inl (e, k, q))) = let is : m.body ≡ Down = cc in no_down r (sym body ∙ is)
      by (inl (inr ((k, q), listed, up))) = let is : m.body ≡ Bye = cc in no_bye r (sym body ∙ is)

  want_goes : (S : List Doing) (x : Wanted) (h : HostId) → GoesAway S (MakesWant x) h → ⊥
  want_goes S x h (inl z) = let y = z.2 in cc
  want_goes S x h (inr z) = let y = z.0.1 in cc

  write_goes : (S : List Doing) (x : _) (h : HostId) → GoesAway S (WritesDown x) h → ⊥
  write_goes S x h (inl z) = let y = z.2 in cc
  write_goes S x h (inr z) = let y = z.0.1 in cc

  wanted : (x : Wanted) (tree : Tree) (S : List Doing) → MayDecide v tree before S s (IsWanted x) → TakesHere S
      → AllHere S → AllHere (MakesWant x ∷ S)
  wanted x tree S may here old w (inr k) (inl goes) = want_goes S x w.host goes
  wanted x tree S may here old w (inr k) (inr gone) = old w k.0 gone
  wanted x tree S may here old w (inl made) (inl goes) = want_goes S x w.host goes
  wanted x tree S may here old w (inl made) (inr gone) =
      let mine : HasGoneAway S x.host =
      subst (λ (z : Wanted). HasGoneAway S z.host) (sym (one_want x w made)) gone in
      elim may.1 [
        | inl new ↦ here x.host x.moves x.request new.taken mine
        | inr k ↦ old k.0 k.1.waits
            (subst (HasGoneAway S) (sym (ap (λ (z : Wanted). z.host) k.1.same)) mine)
      ]

  decides : (xs : List Applied) (tree : Tree) (S : List Doing) → MayDecideAll v tree before S s xs → TakesHere S
      → AllHere S → AllHere (appended (deciding xs) S)
  decides [] tree S may here old = old
  decides (IsWanted x ∷ xs) tree S may here old =
      decides xs (filesets_after s.cause tree (IsWanted x)) (MakesWant x ∷ S) may.1
      (takes_on S (MakesWant x) (want_goes S x) here) (wanted x tree S may.0 here old)
  decides (IsDone x ∷ xs) tree S may here old =
      decides xs (filesets_after s.cause tree (IsDone x)) (WritesDown x ∷ S) may.1
      (takes_on S (WritesDown x) (write_goes S x) here) (on S (WritesDown x) (λ w e. cc) old)
  decides (Replied x ∷ xs) tree S may here old = elim may.0 [ ]
  decides (Stored h f ss n ∷ xs) tree S may here old = elim may.0 [ ]
  decides (IsDown h ∷ xs) tree S may here old = elim may.0 [ ]
  decides (IsMoved move ∷ xs) tree S may here old = elim may.0 [ ]

causes : (c : Cause) (S : List Doing) → AllHere S → AllHere (after_cause c S)
causes (Came m) S old = on S (Took m.host m.epoch m.moves m.body) (λ w e. cc) old
causes (Restart line) S old = on S (BeginsEpoch (suc (epoch S))) (λ w e. cc) old
causes Flushed S old = on S Flushes (λ w e. cc) old
causes (LineOf line) S old = old
causes Lapse S old = old
causes Evict S old = old
causes (Freight freight) S old = on S (Gets freight.server freight.moves freight.body) (λ w e. cc) old
causes End S old = old

admits : (cs : List Admission) (S : List Doing) → AllHere S → AllHere (appended (admitting cs) S)
admits [] S old = old
admits (c ∷ cs) S old = admits cs (Admits c.host c.tokens ∷ S) (on S (Admits c.host c.tokens) (λ w e. cc) old)

sends : (ms : List Message) (S : List Doing) → AllHere S → AllHere (appended (sending ms) S)
sends [] S old = old
sends (m ∷ ms) S old =
    sends ms (Sent m.host m.epoch m.moves m.body ∷ S) (on S (Sent m.host m.epoch m.moves m.body) (λ w e. cc) old)

here_step : (script : Script) (start : Tree) (v : ServerId) (steps : List Step) (S : List Doing) (s : Step)
    → ServerMay script start v steps S s → AllHere S → AllHere (after_step s S)
here_step script start v steps S s m old =
    on (after_shipping s S) (Reserves s.reserved) (λ w e. cc)
    (ships_keep AllHere (λ T to n b was. on T (Puts to n b) (λ w e. cc) was) s.shipped (after_sending s S)
    (sends s.sent (after_admitting s S) (admits s.admitted (after_deciding s S)
    (subst AllHere (sym (same_decisions s.applied (after_cause s.cause S)
    (works_none v (filesets_kept start v steps) S s m.works.applies)))
    (decides v S s (decisions s.applied) (filesets_through s.cause (by_cause s.applied) (filesets_kept start v steps))
    (after_cause s.cause S) m.works.decides (takes_here v S s) (causes s.cause S old))))))

-- what was taken in the epoch is of a host on the list
took_listed : (S : List Doing) (h : HostId) (n : ℕ) (b : Body) → TookNow S h n b → Listed S h
took_listed [] h n b t = elim t [ ]
took_listed (a ∷ S) h n b (inl t) = inr t.1.0
took_listed (a ∷ S) h n b (inr t) = inr (took_listed S h n b t.0)

owned_ever : (A : List Step) (t : Token) → Owns A t → EverHeld A t
owned_ever [] t o = elim o [ ]
owned_ever (s ∷ A) t o = elim o.0 [ inl now ↦ inl now | inr old ↦ inr (owned_ever A t old) ]

module _ (script : Script) (start : Tree) (firsts : ServerId → ℕ) (real : (v : ServerId) → 0 < firsts v) where
  here_at : (v : ServerId) (k : Node) (past : List Step) (s : Step) → StepMeets script start firsts k past s
      → AllHere (doings_of (firsts v) v past) → AllHere (acts_after v k s (doings_of (firsts v) v past))
  here_at v (Host k) past s m old = old
  here_at v (Server k) past s m old =
      if_server AllHere k v (after_step s (doings_of (firsts v) v past)) (doings_of (firsts v) v past)
      (λ e. here_step script start v (steps_of_server v past) (doings_of (firsts v) v past) s
      (subst (λ (w : ServerId). ServerMay script start w (steps_of_server w past) (doings_of (firsts w) w past) s) e
      m.0) old) old

  all_here : (past : List Step) → StepsMeet script start firsts past → (v : ServerId)
      → AllHere (doings_of (firsts v) v past)
  all_here [] run v w (inl made) gone = absurd (let z : BeginsEpoch (firsts v) ≡ MakesWant w = made in cc)
  all_here [] run v w (inr old) gone = elim old.0 [ ]
  all_here (s ∷ past) run v w waits gone = here_at v s.node past s run.1.0 (all_here past run.0 v) w waits gone

  -- a want that waits is of a host on the list
  queued_listed : (past : List Step) → StepsMeet script start firsts past → (v : ServerId) (w : Wanted)
      → IsQueued (doings_of (firsts v) v past) w → Listed (doings_of (firsts v) v past) w.host
  queued_listed past run v w waits =
      took_listed (doings_of (firsts v) v past) w.host w.moves (body_of w.request)
      (all_taken script start firsts past run v w waits)

  module _ (host : HostId) where
    abbrev own : List Step → List Step
    own past = steps_of_host host past

    -- # To whom a server says Bye it has said so

    module _ (v : ServerId) (e n : ℕ) where
      abbrev acts : List Step → List Doing
      acts past = doings_of (firsts v) v past

      said_step : (past : List Step) (s : Step) → ServerMay script start v (steps_of_server v past) (acts past) s
          → CameToServer v past s → (SentTo (acts past) host e n Bye → HasSaid (own past) v Bye)
          → SentTo (after_step s (acts past)) host e n Bye → HasSaid (own past) v Bye
      said_step past s may came old sent = elim (sent_split host e n Bye s (acts past) sent) [
        | inl was ↦ old was
        | inr (m, i, h, ep, mv, body) ↦ (
            let now = (may.answers.bye_only host (m, i, h, body)).0 in
            let w : Message = now.0 in
            let to : w.host ≡ host = now.2 in
            let is : w.body ≡ Bye = now.3 in (
              w.epoch,
              w.moves,
              subst (λ (y : HostId × Body). Said (steps_of_host y.0 past) v w.epoch w.moves y.1)
                  (λ j. (to j, is j)) (came w now.1).2,
            )
            )
      ]

      said_at : (k : Node) (past : List Step) (s : Step) → StepMeets script start firsts k past s
          → (SentTo (acts past) host e n Bye → HasSaid (own past) v Bye)
          → SentTo (acts_after v k s (acts past)) host e n Bye → HasSaid (own_after host k s (own past)) v Bye
      said_at (Host k) past s m old sent =
          if_host (λ (L : List Step). HasSaid L v Bye) k host (s ∷ own past) (own past)
          (λ same. (let x = old sent in (x.0, x.1, inr x.2))) (old sent)
      said_at (Server k) past s m old sent =
          if_server (λ (S : List Doing). SentTo S host e n Bye → HasSaid (own past) v Bye) k v
          (after_step s (acts past)) (acts past)
          (λ same. said_step past s
          (subst (λ (u : ServerId). ServerMay script start u (steps_of_server u past) (doings_of (firsts u) u past) s)
          same m.0) (subst (λ (u : ServerId). CameToServer u past s) same m.1) old) old sent

      bye_said : (past : List Step) → StepsMeet script start firsts past → SentTo (acts past) host e n Bye
          → HasSaid (own past) v Bye
      bye_said [] run (inl q) = absurd (let z : BeginsEpoch (firsts v) ≡ Sent host e n Bye = q in cc)
      bye_said [] run (inr o) = elim o [ ]
      bye_said (s ∷ past) run sent = said_at s.node past s run.1.0 (bye_said past run.0) sent

    module _ (v : ServerId) where
      comes_at : (k : Node) (past : List Step) (s : Step) → StepsMeet script start firsts past
          → StepMeets script start firsts k past s → (HasBye (own past) v → HasSaid (own past) v Bye)
          → HasBye (own_after host k s (own past)) v → HasSaid (own_after host k s (own past)) v Bye
      comes_at (Server k) past s run m old = old
      comes_at (Host k) past s run m old =
          if_host (λ (L : List Step). HasBye L v → HasSaid L v Bye) k host (s ∷ own past) (own past)
          (λ same bye. elim bye [
            | inr was ↦ (let x = old was in (x.0, x.1, inr x.2))
            | inl (e, n, (w, cause, server, ep, mv, body)) ↦ (
                let came = subst (λ (h : HostId). CameToHost firsts h past s) same m.1 in
                let sent : SentTo (doings_of (firsts v) v past) host w.epoch w.moves Bye =
                subst (λ (y : ServerId × Body). SentTo (doings_of
                (firsts y.0) y.0 past) host w.epoch w.moves y.1)
                (λ i. (server i, body i)) (came w cause).2 in
                let x = bye_said v w.epoch w.moves past run sent in
                (x.0, x.1, inr x.2)
                )
          ]) old

      pub bye_answers : (past : List Step) → StepsMeet script start firsts past → HasBye (own past) v
          → HasSaid (own past) v Bye
      bye_answers [] run bye = elim bye [ ]
      bye_answers (s ∷ past) run bye = comes_at s.node past s run.0 run.1.0 (bye_answers past run.0) bye

    -- # A host that owns a token has greeted its server

    owned_greeted : (past : List Step) → StepsMeet script start firsts past → (t : Token) → Owns (own past) t
        → HasGreeted (own past) t.id.server
    owned_greeted past run t owns =
        let v : ServerId = t.id.server in
        let whole = always firsts past (token_run script start firsts past real run) in
        let issued = ((whole.at v).link host).ever t refl (owned_ever (own past) t owns) in
        let listed = (knows script start firsts real past run v host).listed t issued.0 issued.1 issued.2 in
        let said = listed_said (doings_of (firsts v) v past) host listed in
        (said.0, said.1, heard script start firsts real host said.0 said.1 Hello v past run said.2)

-- # A run that is ended

module _ (script : Script) (journal : Journal) (r : IsRun script journal) (ended : IsEnded script journal) where
  abbrev firsts : ServerId → ℕ
  firsts = firsts_of journal

  abbrev run : List Step
  run = past_of journal

  real : (v : ServerId) → 0 < firsts v
  real v = from_one _

  whole : Whole (λ h. steps_of_host h run) (λ u. doings_of (firsts u) u run)
  whole = always firsts run (token_run script r.start firsts run real r.steps)

  -- no node has a line left
  no_line : (node : Node) → TakesPart script node → (line : Line)
      → IsNextLine (lines_of script node) (filter (λ s. is_node s.node node) run) line.number line → ⊥
  no_line (Host h) part line next =
      let within = slice_get_within (lines_of script (Host h)) (lines_gone (steps_of_host h run)) line next.0 in
      let gone = (ended.hosts h part).0 in
      omega (arith, within, gone)
  no_line (Server v) part line next =
      let within = slice_get_within (lines_of script (Server v)) (lines_gone (steps_of_server v run)) line next.0 in
      let gone = ended.lines v part in
      omega (arith, within, gone)

  -- no want waits
  no_want : (v : ServerId) (w : Wanted) → IsQueued (doings_of (firsts v) v run) w → ⊥
  no_want v w waits =
      all_here script r.start firsts real run r.steps v w waits
      (ended.servers v w.host (takes_part script r.start firsts v run r.steps w waits)
      (queued_listed script r.start firsts real run r.steps v w waits))

  module _ (host : HostId) (part : TakesPart script (Host host)) (live : HasStopped (steps_of_host host run) → ⊥) where
    abbrev mine : List Step
    mine = steps_of_host host run

    byed : (v : ServerId) → HasGreeted mine v → HasSaid mine v Bye
    byed v greeted = elim (ended.hosts host part).1 [
      | inl stopped ↦ absurd (live stopped)
      | inr byes ↦ bye_answers script r.start firsts real host v run r.steps (byes v greeted)
    ]

    -- a host that is done owns nothing
    owns_none : (t : Token) → Owns mine t → ⊥
    owns_none t owns =
        let v : ServerId = t.id.server in
        (whole.alone host).bye_held t v
        (byed v (owned_greeted script r.start firsts real host run r.steps t owns)) owns

    holds_none : (t : Token) → Held mine t → ⊥
    holds_none t held = owns_none t ((whole.alone host).owns t held)

    uses_none : (u : Labelled) → LabelInUse mine u → ⊥
    uses_none u used =
        owns_none u.token (use_owned script host mine (own_run script r.start firsts run r.steps host) u used)

    evicts_none : (limit : ℕ) → MayEvict mine limit → ⊥
    evicts_none limit (shut, (tokens, once, count, unused)) = by tokens count unused
      where
        by : (ts : List Token) → length ts ≡ suc limit → ((t : Token) → In t ts → IsUnused mine t) → ⊥
        by [] c each = absurd (let z : 0 ≡ suc limit = c in omega (arith, z))
        by (t ∷ ts) c each = holds_none t (each t (inl refl)).0

  can_end_none : (host : HostId) → TakesPart script (Host host) → CanEnd script host (steps_of_host host run) → ⊥
  can_end_none host part can = elim can.left [
    | inl u ↦ uses_none host part can.free.live u.0 u.1
    | inr (inl t) ↦ holds_none host part can.free.live t.0 t.1
    | inr (inr k) ↦ (let v = k.1 in v.2 (byed host part can.free.live v.0 v.1))
  ]

  -- nor after a flush
  none_after : (v : ServerId) (w : Wanted) → IsQueued (Flushes ∷ doings_of (firsts v) v run) w → ⊥
  none_after v w (inl made) = let z : Flushes ≡ MakesWant w = made in cc
  none_after v w (inr k) = no_want v w k.0

  module _ (flushed : AllIsFlushed script journal) where
    rests : RunRests script journal
    rests = record {
      lines = λ node line part can. no_line node part line can.next;
      evictions = λ host part live. evicts_none host part live (limit_of script.roster host);
      ends = can_end_none;
      servers = λ start server is part. record {
        flushed = λ token. flushed server token part;
        decided = record {
          news = λ h n request new. absurd (let z : Flushed ≡ Came new.taken.0.0 = new.taken.0.1 in cc);
          refused = λ w change refusal waits asks refused can. none_after server w waits;
          effects = λ w change waits asks effect accepted can. none_after server w waits;
          pinned = λ w change waits asks row accepted can. none_after server w waits;
        };
      };
    }

    awaits : NoneAwaits script run
    awaits node line flag part next is = absurd (no_line node part line next)

    still : NoMoveWaits journal
    still server w change waits asks moves = no_want server w waits

pub ended_runs_rest : EndedRunsRest
ended_runs_rest script journal r ended flushed =
    (rests script journal r ended flushed, awaits script journal r ended flushed, still script journal r ended flushed)
