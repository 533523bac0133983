-- Where all that was sent is over, a request that is outstanding waits as a want at its server: it is taken in the last
-- epoch after its host has said it last, and no answer goes, since one would come.
use Rattle.std.proofs.Common.{List, [], ap, arith, inl, inr, length, refl, subst, suc, sym, zero, ℕ}
use Rattle.std.proofs.Common.{◌<◌, ◌∙◌, ◌∷◌, ◌≡◌, ◌≤◌, ◌⊎◌}
use Rattle.base_types.specs.declared.ids.FilesetId.{FilesetId}
use Rattle.base_types.specs.declared.ids.HostId.{HostId}
use Rattle.base_types.specs.declared.ids.Node.{Node}
use Rattle.base_types.specs.declared.ids.Node.TheVariants.{Host, Server}
use Rattle.base_types.specs.declared.ids.ServerId.{ServerId}
use Rattle.tree_answers.specs.declared.tree.Tree.{Tree}
use Rattle.script_lines.specs.declared.script.Script.{Script}
use Rattle.message_types.specs.Soundness.{no_fid}
use Rattle.message_types.specs.declared.asking.Change.{Change as ChangeOf}
use Rattle.message_types.specs.declared.giving.Reclaimed.{Reclaimed as ReclaimedOf}
use Rattle.message_types.specs.declared.message.Body.{Body}
use Rattle.message_types.specs.declared.message.Body.TheVariants.{Bye, Change, Done, Fetch, GiveBack, Hello, Reclaim}
use Rattle.message_types.specs.declared.message.Body.TheVariants.{Reclaimed}
use Rattle.message_types.specs.declared.message.Direction.TheVariants.{ToHost, ToServer}
use Rattle.message_types.specs.declared.message.Message.{Message}
use Rattle.message_types.specs.declared.telling.Done.{Done as DoneOf}
use Rattle.message_types.specs.declared.telling.DoneIs.TheVariants.{Reply as HasReply}
use Rattle.run_rules.specs.Doings.{after_shipping}
use Rattle.run_rules.specs.Doings.{Doing, GoesAway, HasGoneAway, HasReclaimed, IsLive, IsNewEpoch, Listed, SentNow}
use Rattle.run_rules.specs.Doings.{SentTo, TakenNow, WasWritten, admitting, after_admitting, after_cause}
use Rattle.run_rules.specs.Doings.{after_deciding}
use Rattle.run_rules.specs.Doings.{after_sending, after_step, deciding, doings_of, epoch, sending}
use Rattle.run_rules.specs.Doings.Doing.{Gets, Puts}
use Rattle.run_rules.specs.Doings.Doing.{Admits, Flushes, MakesWant, Reserves, Sent, Took, WritesDown}
use Rattle.run_rules.specs.HostAsks.{IsChangeNumber}
use Rattle.run_rules.specs.HostDue.{HostDue, IsUnanswered}
use Rattle.run_rules.specs.HostMay.{AwaitsReclaimed, HostMay}
use Rattle.run_rules.specs.Kept.{filesets_after, filesets_kept, filesets_through}
use Rattle.run_rules.specs.Messages.{Changing, Comes, HasGreeted, HasSaid, HasStopped, IsWelcome, Said, Sends, epoch_at}
use Rattle.run_rules.specs.Past.{Always, In, appended}
use Rattle.run_rules.specs.Plans.{resender_by}
use Rattle.run_rules.specs.Runs.{IsFrom, StepDue, StepMeets, StepsMeet, firsts_of, past_of}
use Rattle.run_rules.specs.ServerDecides.{MayDecide, MayDecideAll, by_cause, decisions}
use Rattle.run_rules.specs.ServerDue.{ServerDue}
use Rattle.run_rules.specs.ServerMay.{HasWritten, ServerMay}
use Rattle.run_rules.specs.Steps.{steps_of_host, steps_of_server}
use Rattle.run_rules.specs.Wants.{CannotBothWait, IsOld, IsQueued, Unwants, body_of}
use Rattle.run_rules.specs.declared.applied.Admission.{Admission}
use Rattle.run_rules.specs.declared.applied.Applied.{Applied}
use Rattle.run_rules.specs.declared.applied.Applied.TheVariants.{Done as IsDone, IsDown, Replied, Stored}
use Rattle.run_rules.specs.declared.applied.Applied.TheVariants.{Moves as IsMoved, Wants as IsWanted}
use Rattle.run_rules.specs.declared.applied.Request.{Request}
use Rattle.run_rules.specs.declared.applied.Request.TheVariants.{Change as Changes}
use Rattle.run_rules.specs.declared.applied.Wanted.{Wanted}
use Rattle.run_rules.specs.declared.applied.Written.{Written}
use Rattle.run_rules.specs.declared.step.Cause.{Cause}
use Rattle.run_rules.specs.declared.step.Cause.TheVariants.{End, Evict, Flushed, Freight, Lapse}
use Rattle.run_rules.specs.declared.step.Cause.TheVariants.{Line, Message as Came, Restart}
use Rattle.run_rules.specs.declared.step.Step.{Step}
use Rattle.run_contents.proofs.Grants.{all_taken, same_decisions}
use Rattle.run_history.proofs.Waiting.{fresh_now, still_changing}
use Rattle.run_tokens.proofs.Invariant.{Alone}
use Rattle.run_tokens.proofs.Law.{Whole}
use Rattle.run_tokens.proofs.Words.{acts_after, epoch_grows, if_host, if_server, own_after}
use Rattle.run_goes_on.proofs.Answering.{claims_are_answered}
use Rattle.run_goes_on.proofs.Arriving.{Found, due_at, due_of, found, from_cause, from_one, host_sends, meets_at}
use Rattle.run_goes_on.proofs.Arriving.{step_on, unanswered_at, whole_at}
use Rattle.run_goes_on.proofs.Claiming.{IsOnList, acts_later, own_later}
use Rattle.run_goes_on.proofs.Doings.{epoch_step, heard, knows, listed_said, reclaimed_by, sent_so}
use Rattle.run_goes_on.proofs.Gracing.{no_grace_period_stands}
use Rattle.run_goes_on.proofs.Grown.{grows_on, listed_on, sent_cause}
use Rattle.run_goes_on.proofs.Hailing.{on_list}
use Rattle.run_goes_on.proofs.Meaning.{changes_are_meant_so}
use Rattle.run_goes_on.proofs.Numbering.{numbers_below, done_said, written_answered, written_cause}
use Rattle.run_goes_on.proofs.Positions.{Cut, always_back, cut, doings_on, host_steps, own_on, own_run, server_doings}
use Rattle.run_goes_on.proofs.Queueing.{both_back, one_waits}
use Rattle.run_goes_on.proofs.Requests.{GoesIn, IsAnswer, IsMeant, answer_ends, answer_goes, answer_resends}
use Rattle.run_goes_on.proofs.Requests.{asked_here, body_is, decided_here, decides_not, decides_sent}
use Rattle.run_goes_on.proofs.Requests.{decides_written, goes_in}
use Rattle.run_goes_on.proofs.Requests.{no_give, old_change, request_of, same_by, same_is, welcome_asks}
use Rattle.run_goes_on.proofs.Staying.{SendsIt, WasSent, for_itself, goes_there, host_resends, was_sent}
use Rattle.run_goes_on.proofs.Telling.{decide, learns_by, server_due, server_may, server_sends}
use Rattle.run_goes_on.specs.Ended.{IsRequest, IsSame, RequestsStandAsWants}
use Rattle.run_tokens.proofs.TokenRun.{works_none}
use Rattle.run_tokens.specs.Unmoved.{MovesNone}
use Rattle.run_tokens.proofs.Ships.{ships_keep}
use Rattle.run_goes_on.specs.Rest.{AllIsOver, IsTakenIn, LapsesIn, NoneIsHeld}

-- # Words

-- the decisions of a step are among what it applies, and its wants among the decisions
decided_applied : (xs : List Applied) (y : Applied) → In y (decisions xs) → In y xs
decided_applied [] y i = i
decided_applied (IsWanted w ∷ xs) y i = i
decided_applied (IsDone w ∷ xs) y i = i
decided_applied (Replied x ∷ xs) y i = inr (decided_applied xs y i)
decided_applied (Stored h f ss n ∷ xs) y i = inr (decided_applied xs y i)
decided_applied (IsDown h ∷ xs) y i = inr (decided_applied xs y i)
decided_applied (IsMoved move ∷ xs) y i = inr (decided_applied xs y i)

want_decided : (xs : List Applied) (w : Wanted) → In (IsWanted w) xs → In (IsWanted w) (decisions xs)
want_decided [] w i = i
want_decided (IsWanted y ∷ xs) w i = i
want_decided (IsDone y ∷ xs) w i = i
want_decided (Replied x ∷ xs) w (inl e) = absurd (let z : IsWanted w ≡ Replied x = e in cc)
want_decided (Replied x ∷ xs) w (inr i) = want_decided xs w i
want_decided (Stored h f ss n ∷ xs) w (inl e) = absurd (let z : IsWanted w ≡ Stored h f ss n = e in cc)
want_decided (Stored h f ss n ∷ xs) w (inr i) = want_decided xs w i
want_decided (IsDown h ∷ xs) w (inl e) = absurd (let z : IsWanted w ≡ IsDown h = e in cc)
want_decided (IsMoved move ∷ xs) w (inl e) = absurd (let z : IsWanted w ≡ IsMoved move = e in cc)
want_decided (IsDown h ∷ xs) w (inr i) = want_decided xs w i
want_decided (IsMoved move ∷ xs) w (inr i) = want_decided xs w i

-- the Done of what was written down
has_written : (h : HostId) (fs : FilesetId) (k : ℕ) (S : List Doing) → WasWritten S h fs k
    → (d : DoneOf) × HasWritten S h d × (d.fileset ≡ fs) × (d.bring.number ≡ k)
has_written h fs k [] o = elim o [ ]
has_written h fs k (a ∷ S) (inl (w, is, host, files, numbers)) = (
  record {
    fileset = fs;
    outcome = HasReply w.answer.reply;
    bring = record { number = k; fid = no_fid; stamp = 0; tokens = [] };
  },
  inl (w, is, host, files, numbers, refl),
  refl,
  refl,
)
has_written h fs k (a ∷ S) (inr o) = let d = has_written h fs k S o in (d.0, inr d.1, d.2, d.3)

-- one Change is outstanding
one_changing : (script : Script) (host : HostId) (A : List Step) → Always (HostMay script host) A → (v : ServerId)
    (fs gs : FilesetId) (n m : ℕ) → Changing A v fs n → Changing A v gs m → n ≡ m
one_changing script host [] run v fs gs n m x y = elim x [ ]
one_changing script host (s ∷ A) run v fs gs n m x y = (run.1.asks.one_change v v fs gs n m x y).1

-- # A request that is outstanding at the end

module _ (script : Script) (start : Tree) (firsts : ServerId → ℕ) (real : (v : ServerId) → 0 < firsts v)
    (run : List Step) (meets : StepsMeet script start firsts run)
    (due : Always (λ before s. StepDue script start firsts s.node before s) run) (over : AllIsOver script run)
    (none : NoneIsHeld script run) (host : HostId) (live : HasStopped (steps_of_host host run) → ⊥) (v : ServerId)
    (n : ℕ) (b : Body) (x : IsUnanswered (steps_of_host host run) v n b) (asks : IsRequest b) (meant : IsMeant b)
    (stays : HasGoneAway (doings_of (firsts v) v run) host → ⊥)
    (reclaims : HasReclaimed (doings_of (firsts v) v run) host)
    (idle : AwaitsReclaimed (steps_of_host host run) v → ⊥) where
  abbrev own : List Step → List Step
  own past = steps_of_host host past

  abbrev acts : List Step → List Doing
  acts past = doings_of (firsts v) v past

  met : (l p : List Step) → appended l p ≡ run → StepsMeet script start firsts p
  met l p e = meets_at script start firsts real run meets due over none l p e

  all : (l p : List Step) → appended l p ≡ run → Whole (λ h. steps_of_host h p) (λ u. doings_of (firsts u) u p)
  all l p e = whole_at script start firsts real run meets due over none l p e

  dues : (l p : List Step) → appended l p ≡ run → Always (λ before s. StepDue script start firsts s.node before s) p
  dues l p e = always_back (λ before s. StepDue script start firsts s.node before s) l p
      (subst (Always (λ before s. StepDue script start firsts s.node before s)) (sym e) due)

  host_may : (l p : List Step) (t : Step) → appended (t ∷ l) p ≡ run → t.node ≡ Host host
      → HostMay script host (own p) t
  host_may l p t e at = (subst (λ (k : Node). StepMeets script start firsts k p t) at (met l (t ∷ p) e).1.0).0

  host_due : (l p : List Step) (t : Step) → appended (t ∷ l) p ≡ run → t.node ≡ Host host
      → HostDue script host (own p) t
  host_due l p t e at =
      subst (λ (k : Node). StepDue script start firsts k p t) at
      (due_at script start firsts real run meets due over none p l t e)

  may_then : (l p : List Step) (t : Step) → appended (t ∷ l) p ≡ run → t.node ≡ Server v
      → ServerMay script start v (steps_of_server v p) (acts p) t
  may_then = server_may script start firsts real run meets due over none host live v

  due_then : (l p : List Step) (t : Step) → appended (t ∷ l) p ≡ run → t.node ≡ Server v
      → ServerDue script start v (steps_of_server v p) (acts p) t
  due_then = server_due script start firsts real run meets due over none host live v

  outstanding : (l p : List Step) → appended l p ≡ run → WasSent v b (own p) → IsUnanswered (own p) v n b
  outstanding l p e sent = unanswered_at script start firsts real run meets due over none host live v n b x l p e sent

  here_yet : (l p : List Step) → appended l p ≡ run → HasGoneAway (acts p) host → ⊥
  here_yet l p w gone =
      stays (subst (λ (L : List Step). HasGoneAway (acts L) host) w
      (doings_on (firsts v) v (λ (T : List Doing). HasGoneAway T host)
      (λ T y o. step_on (λ before a. GoesAway before a host) T y o) l p gone))

  -- # What is so once it was said
  record IsMarked (p : List Step) : Type 0 where
    pub sent : WasSent v b (own p)
    pub on : IsOnList host v (own p) (acts p)

  on_at : (p : List Step) (y : Step) (k : Node) → IsOnList host v (own p) (acts p)
      → IsOnList host v (own_after host k y (own p)) (acts_after v k y (acts p))
  on_at p y (Host k) on =
      if_host (λ (L : List Step). IsOnList host v L (acts p)) k host (y ∷ own p) (own p)
      (λ same. own_later host v (own p) (acts p) y on) on
  on_at p y (Server k) on =
      if_server (λ (S : List Doing). IsOnList host v (own p) S) k v (after_step y (acts p)) (acts p)
      (λ same. acts_later host v (own p) (acts p) y on) on

  mark_on : (p : List Step) (y : Step) → IsMarked p → IsMarked (y ∷ p)
  mark_on p y k = record {
    sent = own_on host (WasSent v b) (λ A z o. inr o) (y ∷ []) p k.sent;
    on = on_at p y y.node k.on;
  }

  marks_on : (l p : List Step) → IsMarked p → IsMarked (appended l p)
  marks_on [] p k = k
  marks_on (y ∷ l) p k = marks_on l (y ∷ p) (mark_on p y k)

  greeted : (l p : List Step) → appended l p ≡ run → IsMarked p → HasGreeted (own p) v
  greeted l p e mark =
      let k = listed_said (acts p) host mark.on.listed.0 in
      (k.0, k.1, heard script start firsts real host k.0 k.1 _ v p (met l p e) k.2)

  lives : (l p : List Step) → appended l p ≡ run → IsMarked p → IsLive (acts p) host
  lives l p e mark = (mark.on.listed.0, here_yet l p e)

  -- the server's last epoch isn't above the host's, where the host has reclaimed in it
  end_epoch : IsMarked run → epoch (acts run) ≤ epoch_at (own run) v
  end_epoch mark = elim (reclaimed_by (acts run) host reclaims) [
    | inl admits ↦ (
        let c = (knows script start firsts real run meets v host).claimed admits in
        let said = (((all [] run refl).at v).link host).took c.0 (Reclaim c.1) c.2 in
        ((all [] run refl).alone host).said_epoch v (epoch (acts run)) c.0 (Reclaim c.1) said
        )
    | inr listed ↦ mark.on.listed.1 listed
  ]

  -- # The last step that says it
  module _ (past later : List Step) (s : Step) (e : appended (s ∷ later) past ≡ run) (node : s.node ≡ Host host)
      (ep mv : ℕ) (sends : Sends s v ep mv b)
      (again : (p l : List Step) (t : Step) → length l < length later → appended (t ∷ l) p ≡ run → t.node ≡ Host host
      → SendsIt v b t → ⊥) where
    abbrev m : Message
    m = sends.0

    abbrev e0 : ℕ
    e0 = epoch_at (own (s ∷ past)) v

    may_host : HostMay script host (own past) s
    may_host = host_may later past s e node

    marked : IsMarked (s ∷ past)
    marked = record {
      sent = subst (WasSent v b) (sym (host_steps host s past node)) (inl (v, ep, mv, sends, for_itself b v));
      on = on_list script start firsts real run meets due host v later (s ∷ past) e
          (subst (λ (L : List Step). IsWelcome L v) (sym (host_steps host s past node))
          (welcome_asks script host (own past) s may_host v ep mv b asks sends));
    }

    -- a place in the run after it
    record IsAfter (l p : List Step) : Type 0 where
      pub whole : appended l p ≡ run
      pub short : length l ≤ length later
      pub mark : IsMarked p
      pub above : e0 ≤ epoch_at (own p) v

    first_at : IsAfter later (s ∷ past)
    first_at = record { whole = e; short = omega arith; mark = marked; above = omega arith }

    next_at : (l p : List Step) (y : Step) → IsAfter (y ∷ l) p → IsAfter l (y ∷ p)
    next_at l p y a = record {
      whole = a.whole;
      short = (let q : suc (length l) ≤ length later = a.short in omega (arith, q));
      mark = mark_on p y a.mark;
      above = own_on host (λ (L : List Step). e0 ≤ epoch_at L v)
          (λ A z le. (let grows = epoch_grows A z v in omega (arith, le, grows))) (y ∷ []) p a.above;
    }

    at_cut : {l p : List Step} {t : Step} → IsAfter l p → (c : Cut p l t) → IsAfter (t ∷ c.after) c.before
    at_cut {l = l} {p = p} {t = t} a c = record {
      whole = c.whole ∙ a.whole;
      short = (
          let lt = c.short in
          let le = a.short in
          let goal : suc (length c.after) ≤ length later = omega (arith, lt, le) in
          goal);
      mark = subst IsMarked (sym c.grown) (marks_on c.between p a.mark);
      above = subst (λ (L : List Step). e0 ≤ epoch_at (own L) v) (sym c.grown)
          (own_on host (λ (L : List Step). e0 ≤ epoch_at L v)
          (λ A z le. (let grows = epoch_grows A z v in omega (arith, le, grows))) c.between p a.above);
    }

    says_not : (l p : List Step) (t : Step) → IsAfter (t ∷ l) p → t.node ≡ Host host → SendsIt v b t → ⊥
    says_not l p t a at says =
        again p l t (let q : suc (length l) ≤ length later = a.short in omega (arith, q)) a.whole at says

    -- no lapse comes: it would say it again
    lapse_not : (l p : List Step) (t : Step) → IsAfter (t ∷ l) p → t.node ≡ Host host → t.cause ≡ Lapse → ⊥
    lapse_not l p t a at lapse =
        says_not l p t a at (
          v,
          epoch_at (own p) v,
          n,
          (host_due l p t a.whole at).repeats.lapse_all v n b lapse (outstanding (t ∷ l) p a.whole a.mark.sent),
          for_itself b v,
        )

    lapses_not : (l p : List Step) → IsAfter l p → LapsesIn l (Host host) → ⊥
    lapses_not l p a (t, i, at, lapse) = by (cut l p t i)
      where
        by : Cut p l t → ⊥
        by c = lapse_not c.after c.before t (at_cut a c) at lapse

    -- nor a Reclaimed
    no_answer : (l p : List Step) (y : Step) → IsAfter (y ∷ l) p → y.node ≡ Host host → (answer : ReclaimedOf)
        → Comes (own p) y v (Reclaimed answer) → ⊥
    no_answer l p y a is answer comes =
        says_not l p y a is (
          v,
          epoch_at (y ∷ own p) v,
          n,
          (host_due l p y a.whole is).repeats.reclaimed_all v n answer b comes (no_give b asks)
              (outstanding (y ∷ l) p a.whole a.mark.sent)
              (subst (λ (L : List Step). IsUnanswered L v n b) (host_steps host y p is)
              (outstanding l (y ∷ p) a.whole (mark_on p y a.mark).sent)),
          for_itself b v,
        )

    claims_by : (l p : List Step) (y : Step) → IsAfter (y ∷ l) p → y.node ≡ Host host
        → epoch_at (own p) v < epoch_at (y ∷ own p) v → AwaitsReclaimed (y ∷ own p) v
    claims_by l p y a is up = (
      inl ((host_due l p y a.whole is).repeats.restarted_claims v
          (learns_by (own p) y v (greeted (y ∷ l) p a.whole a.mark) a.mark.on.above up)),
      no_answer l p y a is,
    )

    waits_still : (l p : List Step) (y : Step) → IsAfter (y ∷ l) p → y.node ≡ Host host → AwaitsReclaimed (own p) v
        → AwaitsReclaimed (y ∷ own p) v
    waits_still l p y a is aw = elim (decide (epoch_at (own p) v) (epoch_at (y ∷ own p) v)) [
      | inl up ↦ claims_by l p y a is up
      | inr le ↦ (inr (aw, λ up. omega (arith, le, up)), no_answer l p y a is)
    ]

    -- so it waits for no answer to a claim
    waits_not : (l p : List Step) → IsAfter l p → AwaitsReclaimed (own p) v → ⊥
    waits_not [] p a aw = idle (subst (λ (L : List Step). AwaitsReclaimed (own L) v) a.whole aw)
    waits_not (y ∷ l) p a aw = waits_not l (y ∷ p) (next_at l p y a) (by y.node refl)
      where
        by : (k : Node) → y.node ≡ k → AwaitsReclaimed (own_after host k y (own p)) v
        by (Server k) is = aw
        by (Host k) is =
            if_host (λ (L : List Step). AwaitsReclaimed L v) k host (y ∷ own p) (own p)
            (λ same. waits_still l p y a (is ∙ ap Host same) aw) aw

    -- and its epoch stays as it is
    raise_not : (l p : List Step) (y : Step) → IsAfter (y ∷ l) p → y.node ≡ Host host
        → epoch_at (own p) v < epoch_at (y ∷ own p) v → ⊥
    raise_not l p y a is up =
        waits_not l (y ∷ p) (next_at l p y a)
        (subst (λ (L : List Step). AwaitsReclaimed L v) (sym (host_steps host y p is)) (claims_by l p y a is up))

    no_raise : (l p : List Step) → IsAfter l p → epoch_at (own p) v ≤ e0 → epoch_at (own (appended l p)) v ≤ e0
    no_raise [] p a le = le
    no_raise (y ∷ l) p a le = no_raise l (y ∷ p) (next_at l p y a) (by y.node refl)
      where
        by : (k : Node) → y.node ≡ k → epoch_at (own_after host k y (own p)) v ≤ e0
        by (Server k) is = le
        by (Host k) is =
            if_host (λ (L : List Step). epoch_at L v ≤ e0) k host (y ∷ own p) (own p)
            (λ same. elim (decide (epoch_at (own p) v) (epoch_at (y ∷ own p) v)) [
              | inl up ↦ absurd (raise_not l p y a (is ∙ ap Host same) up)
              | inr down ↦ omega (arith, le, down)
            ]) le

    last_epoch : epoch_at (own run) v ≤ e0
    last_epoch =
        subst (λ (L : List Step). epoch_at (own L) v ≤ e0) e (no_raise later (s ∷ past) first_at (omega arith))

    -- so the host and the server have that epoch from then on
    host_epoch : (l p : List Step) → IsAfter l p → epoch_at (own p) v ≡ e0
    host_epoch l p a =
        let up = a.above in
        let grown : epoch_at (own p) v ≤ epoch_at (own run) v =
        subst (λ (L : List Step). epoch_at (own p) v ≤ epoch_at (own L) v) a.whole
        (own_on host (λ (L : List Step). epoch_at (own p) v ≤ epoch_at L v)
        (λ A z le. (let grows = epoch_grows A z v in omega (arith, le, grows))) l p (omega arith)) in
        let last = last_epoch in
        omega (arith, up, grown, last)

    server_epoch : (l p : List Step) → IsAfter l p → epoch (acts p) ≡ e0
    server_epoch l p a =
        let behind = (((all l p a.whole).at v).link host).behind in
        let same = host_epoch l p a in
        let grown : epoch (acts p) ≤ epoch (acts run) =
        subst (λ (L : List Step). epoch (acts p) ≤ epoch (acts L)) a.whole (grows_on firsts v l p) in
        let mark : IsMarked run = subst IsMarked a.whole (marks_on l p a.mark) in
        let end = end_epoch mark in
        let last = last_epoch in
        omega (arith, behind, same, grown, end, last)

    -- # No answer goes
    answers_not : (l p : List Step) (t : Step) → IsAfter (t ∷ l) p → t.node ≡ Server v → (w : Message) → In w t.sent
        → w.host ≡ host → IsAnswer b w.body → ⊥
    answers_not l p t a at w i is answers =
        elim (server_sends script start firsts real run meets due over none host live v l p t a.whole at w i is
        (Host host) (answer_resends b w.body w answers ∙ ap Host is) live) [
          | inl lapses ↦ lapses_not l (t ∷ p) after_it lapses
          | inr taken ↦ ends (cut l (t ∷ p) taken.0 taken.1) taken.2 taken.3
        ]
      where
        after_it : IsAfter l (t ∷ p)
        after_it = next_at l p t a

        server : w.server ≡ v
        server = (subst (λ (k : Node). IsFrom k w) at ((met l (t ∷ p) a.whole).1.3 w i).0).0

        now : w.epoch ≡ e0
        now =
            (sent_so v t (acts p) (may_then l p t a.whole at).tokens w i).2
            ∙ (sym (epoch_step t (acts p))
            ∙ (ap epoch (sym (server_doings (firsts v) v t p at)) ∙ server_epoch l (t ∷ p) after_it))

        ends : {u : Step} → Cut (t ∷ p) l u → u.cause ≡ Came w → u.node ≡ Host host → ⊥
        ends {u = u} c cause node_u =
            let then_at = at_cut after_it c in
            answer_ends v (own c.before) u w cause server (now ∙ sym (host_epoch (u ∷ c.after) c.before then_at)) n b
            (answer_goes script start v (steps_of_server v p) (acts p) t (may_then l p t a.whole at)
            ((all (t ∷ l) p a.whole).at v).served.put w i b answers)
            answers
            (subst (λ (L : List Step). IsUnanswered L v n b) (host_steps host u c.before node_u)
            (outstanding c.after (u ∷ c.before) then_at.whole (mark_on c.before u then_at.mark).sent))

    -- # Its want
    abbrev Waits : List Doing → Type 0
    Waits S = (w : Wanted) × IsQueued S w × (w.host ≡ host) × IsSame b w.request

    -- it isn't without one
    abbrev HasOne : List Doing → Type 0
    HasOne S = (Waits S → ⊥) → ⊥

    -- where a doing takes one away it makes another
    abbrev Keeps : List Doing → Doing → Type 0
    Keeps S a = (w : Wanted) → IsQueued S w → w.host ≡ host → IsSame b w.request → Unwants S a w → Waits (a ∷ S)

    keep : (S : List Doing) (a : Doing) → Keeps S a → HasOne S → HasOne (a ∷ S)
    keep S a keeps has none =
        has (λ y. none (y.0, inr (y.1, λ u. none (keeps y.0 y.1 y.2 y.3 u)), y.2, y.3))

    -- what is no want, decides nothing and takes nothing
    keep_quiet : (S : List Doing) (a : Doing) → ((j : HostId) (d k : ℕ) (c : Body) → a ≡ Sent j d k c → ⊥)
        → ((y : Written) → a ≡ WritesDown y → ⊥) → ((y : Wanted) → a ≡ MakesWant y → ⊥) → (GoesAway S a host → ⊥)
        → (IsNewEpoch a → ⊥) → Keeps S a
    keep_quiet S a sent writes makes away new w q h same u = elim u [
      | inl d ↦ absurd (decides_not a w.host w.request (λ d k c z. sent w.host d k c z) writes d)
      | inr (inl y) ↦ absurd (makes y.0 y.1)
      | inr (inr (inl y)) ↦ absurd (away (subst (GoesAway S a) h y))
      | inr (inr (inr y)) ↦ absurd (new y)
    ]

    -- a server's step after that
    module _ (l p : List Step) (t : Step) (a : IsAfter (t ∷ l) p) (at : t.node ≡ Server v) where
      abbrev S : List Doing
      S = acts p

      may_t : ServerMay script start v (steps_of_server v p) S t
      may_t = may_then l p t a.whole at

      due_t : ServerDue script start v (steps_of_server v p) S t
      due_t = due_then l p t a.whole at

      answer_none : (d : Body) → SentNow t host d → IsAnswer b d → ⊥
      answer_none d (w, i, is, body) answers =
          answers_not l p t a at w i is (subst (IsAnswer b) (sym body) answers)

      -- it begins no epoch, and the host doesn't go away in it
      same_epoch : epoch (after_cause t.cause S) ≡ epoch S
      same_epoch =
          sym (epoch_step t S)
          ∙ (ap epoch (sym (server_doings (firsts v) v t p at))
          ∙ (server_epoch l (t ∷ p) (next_at l p t a) ∙ sym (server_epoch (t ∷ l) p a)))

      away_not : HasGoneAway (after_cause t.cause S) host → ⊥
      away_not gone =
          here_yet l (t ∷ p) a.whole
          (subst (λ (T : List Doing). HasGoneAway T host) (sym (server_doings (firsts v) v t p at))
          (from_cause (λ before y. GoesAway before y host) S t gone))

      keep_cause : (c : Cause) → t.cause ≡ c → HasOne S → HasOne (after_cause c S)
      keep_cause (Came w) is has =
          keep S (Took w.host w.epoch w.moves w.body)
          (keep_quiet S (Took w.host w.epoch w.moves w.body) (λ j d k c z. cc) (λ y z. cc) (λ y z. cc)
          (λ gone. away_not (subst (λ (c : Cause). HasGoneAway (after_cause c S) host) (sym is) (inl gone)))
          (λ new. (let z = new.1 in cc))) has
      keep_cause (Restart line) is has =
          let up : suc (epoch S) ≡ epoch S =
          subst (λ (c : Cause). epoch (after_cause c S) ≡ epoch S) is same_epoch in
          absurd (omega (arith, up))
      keep_cause Flushed is has =
          keep S Flushes
          (keep_quiet S Flushes (λ j d k c z. cc) (λ y z. cc) (λ y z. cc) (λ gone. none_goes gone)
          (λ new. (let z = new.1 in cc))) has
        where
          none_goes : GoesAway S Flushes host → ⊥
          none_goes (inl z) = let y = z.2 in cc
          none_goes (inr z) = let y = z.0.1 in cc
      keep_cause (Line line) is has = has
      keep_cause Lapse is has = has
      keep_cause Evict is has = has
      keep_cause (Freight freight) is has =
          keep S (Gets freight.server freight.moves freight.body)
          (keep_quiet S (Gets freight.server freight.moves freight.body) (λ j d k c z. cc) (λ y z. cc) (λ y z. cc) (λ gone. none_goes gone)
          (λ new. (let z = new.1 in cc))) has
        where
          none_goes : GoesAway S (Gets freight.server freight.moves freight.body) host → ⊥
          none_goes (inl z) = let y = z.2 in cc
          none_goes (inr z) = let y = z.0.1 in cc
      keep_cause End is has = has

      -- a want that is made in its place is one of it
      keep_want : (tree : Tree) (T : List Doing) (y : Wanted) → MayDecide v tree S T t (IsWanted y)
          → Keeps T (MakesWant y)
      keep_want tree T y may w q h same u = elim u [
        | inl d ↦ absurd (decides_not (MakesWant y) w.host w.request (λ d k c z. cc) (λ y z. cc) d)
        | inr (inl k) ↦ made k.0 k.1 k.2 k.3
        | inr (inr (inl (inl z))) ↦ (let r = z.2 in absurd (cc))
        | inr (inr (inl (inr z))) ↦ (let r = z.0.1 in absurd (cc))
        | inr (inr (inr z)) ↦ (let r = z.1 in absurd (cc))
      ]
        where
          one_want : (f g : Wanted) → MakesWant f ≡ MakesWant g → f ≡ g
          one_want f g z = cc

          made : (z : Wanted) → MakesWant y ≡ MakesWant z → z.host ≡ w.host → CannotBothWait z.request w.request
              → Waits (MakesWant y ∷ T)
          made z is to both = elim may.1 [
            | inl new ↦ absurd (new.alone w q (sym hosts) (both_back y.request w.request cannot))
            | inr k ↦ (
                let its : k.0.request ≡ y.request = ap (λ (f : Wanted). f.request) k.1.same in
                let one : k.0 ≡ w =
                one_waits T k.0 w k.1.waits q (ap (λ (f : Wanted). f.host) k.1.same ∙ hosts)
                (subst (λ (r : Request). CannotBothWait r w.request) (sym its) cannot) in (
                  y,
                  inl refl,
                  hosts ∙ h,
                  subst (IsSame b) (sym (ap (λ (f : Wanted). f.request) one) ∙ its) same,
                )
                )
          ]
            where
              same_one : y ≡ z
              same_one = one_want y z is

              hosts : y.host ≡ w.host
              hosts = ap (λ (f : Wanted). f.host) same_one ∙ to

              cannot : CannotBothWait y.request w.request
              cannot = subst (λ (f : Wanted). CannotBothWait f.request w.request) (sym same_one) both

      keep_written : (T : List Doing) (y : Written) → In (IsDone y) t.applied → Keeps T (WritesDown y)
      keep_written T y i w q h same u = elim u [
        | inl d ↦ (
            let k = decides_written b w.host y w.request same d in
            let told = due_t.sent.written y i in
            let sent : SentNow t host (Done told.0) =
            subst (λ (g : HostId). SentNow t g (Done told.0)) (k.2 ∙ h) told.1 in
            absurd (answer_none (Done told.0) sent
            (subst (λ (c : Body). IsAnswer c (Done told.0)) (sym k.1) (told.3 ∙ k.3, told.4 ∙ k.4)))
            )
        | inr (inl k) ↦ absurd (let z : WritesDown y ≡ MakesWant k.0 = k.1 in cc)
        | inr (inr (inl (inl z))) ↦ (let r = z.2 in absurd (cc))
        | inr (inr (inl (inr z))) ↦ (let r = z.0.1 in absurd (cc))
        | inr (inr (inr z)) ↦ (let r = z.1 in absurd (cc))
      ]

      keep_decides : (xs : List Applied) (tree : Tree) (T : List Doing) → MayDecideAll v tree S T t xs
          → ((y : Applied) → In y xs → In y t.applied) → HasOne T → HasOne (appended (deciding xs) T)
      keep_decides [] tree T may is has = has
      keep_decides (IsWanted y ∷ xs) tree T may is has =
          keep_decides xs (filesets_after t.cause tree (IsWanted y)) (MakesWant y ∷ T) may.1 (λ z i. is z (inr i))
          (keep T (MakesWant y) (keep_want tree T y may.0) has)
      keep_decides (IsDone y ∷ xs) tree T may is has =
          keep_decides xs (filesets_after t.cause tree (IsDone y)) (WritesDown y ∷ T) may.1 (λ z i. is z (inr i))
          (keep T (WritesDown y) (keep_written T y (is (IsDone y) (inl refl))) has)
      keep_decides (Replied y ∷ xs) tree T may is has = elim may.0 [ ]
      keep_decides (Stored j f ss k ∷ xs) tree T may is has = elim may.0 [ ]
      keep_decides (IsDown j ∷ xs) tree T may is has = elim may.0 [ ]
      keep_decides (IsMoved move ∷ xs) tree T may is has = elim may.0 [ ]

      -- one that is made there is one
      made_decides : (xs : List Applied) (tree : Tree) (T : List Doing) → MayDecideAll v tree S T t xs
          → ((y : Applied) → In y xs → In y t.applied) → (w : Wanted) → In (IsWanted w) xs → w.host ≡ host
          → IsSame b w.request → HasOne (appended (deciding xs) T)
      made_decides [] tree T may is w i h same = elim i [ ]
      made_decides (IsWanted y ∷ xs) tree T may is w i h same = elim i [
        | inl z ↦ keep_decides xs (filesets_after t.cause tree (IsWanted y)) (MakesWant y ∷ T) may.1
            (λ z i. is z (inr i)) (λ k. k (w, inl (sym (made_one z)), h, same))
        | inr j ↦ made_decides xs (filesets_after t.cause tree (IsWanted y)) (MakesWant y ∷ T) may.1
            (λ z i. is z (inr i)) w j h same
      ]
        where
          made_one : IsWanted w ≡ IsWanted y → MakesWant w ≡ MakesWant y
          made_one z = cc
      made_decides (IsDone y ∷ xs) tree T may is w i h same = elim i [
        | inl z ↦ absurd (let r : IsWanted w ≡ IsDone y = z in cc)
        | inr j ↦ made_decides xs (filesets_after t.cause tree (IsDone y)) (WritesDown y ∷ T) may.1
            (λ z i. is z (inr i)) w j h same
      ]
      made_decides (Replied y ∷ xs) tree T may is w i h same = elim may.0 [ ]
      made_decides (Stored j f ss k ∷ xs) tree T may is w i h same = elim may.0 [ ]
      made_decides (IsDown j ∷ xs) tree T may is w i h same = elim may.0 [ ]
      made_decides (IsMoved move ∷ xs) tree T may is w i h same = elim may.0 [ ]

      keep_admits : (cs : List Admission) (T : List Doing) → HasOne T → HasOne (appended (admitting cs) T)
      keep_admits [] T has = has
      keep_admits (c ∷ cs) T has =
          keep_admits cs (Admits c.host c.tokens ∷ T)
          (keep T (Admits c.host c.tokens)
          (keep_quiet T (Admits c.host c.tokens) (λ j d k c z. cc) (λ y z. cc) (λ y z. cc) (λ gone. none_goes gone)
          (λ new. (let z = new.1 in cc))) has)
        where
          none_goes : GoesAway T (Admits c.host c.tokens) host → ⊥
          none_goes (inl z) = let y = z.2 in cc
          none_goes (inr z) = let y = z.0.1 in cc

      keep_sent : (T : List Doing) (w : Message) → In w t.sent → Keeps T (Sent w.host w.epoch w.moves w.body)
      keep_sent T w i y q h same u = elim u [
        | inl d ↦ (
            let k = decides_sent b y.host w.host w.epoch w.moves w.body y.request same d in
            absurd (answers_not l p t a at w i (k.0 ∙ h) k.1)
            )
        | inr (inl k) ↦ absurd (let z : Sent w.host w.epoch w.moves w.body ≡ MakesWant k.0 = k.1 in cc)
        | inr (inr (inl (inl z))) ↦ (let r = z.2 in absurd (cc))
        | inr (inr (inl (inr z))) ↦ (let r = z.0.1 in absurd (cc))
        | inr (inr (inr z)) ↦ (let r = z.1 in absurd (cc))
      ]

      keep_sends : (ms : List Message) (T : List Doing) → ((w : Message) → In w ms → In w t.sent) → HasOne T
          → HasOne (appended (sending ms) T)
      keep_sends [] T is has = has
      keep_sends (w ∷ ms) T is has =
          keep_sends ms (Sent w.host w.epoch w.moves w.body ∷ T) (λ y i. is y (inr i))
          (keep T (Sent w.host w.epoch w.moves w.body) (keep_sent T w (is w (inl refl))) has)

      -- what is so once the step has decided is so at its end
      from_decided : HasOne (after_deciding t S) → HasOne (after_step t S)
      from_decided has =
          keep (after_shipping t S) (Reserves t.reserved)
          (keep_quiet (after_shipping t S) (Reserves t.reserved) (λ j d k c z. cc) (λ y z. cc) (λ y z. cc)
          (λ gone. none_goes gone) (λ new. (let z = new.1 in cc)))
          (ships_keep HasOne (λ T to n b was. keep T (Puts to n b)
          (keep_quiet T (Puts to n b) (λ j d k c z. cc) (λ y z. cc) (λ y z. cc) (λ gone. none_goes_by T to n b gone)
          (λ new. (let z = new.1 in cc))) was) t.shipped (after_sending t S) (keep_sends t.sent (after_admitting t S) (λ w i. i) (keep_admits t.admitted (after_deciding t S) has)))
        where
          none_goes_by : (T : List Doing) (to : ServerId) (n : ℕ) (b : Body) → GoesAway T (Puts to n b) host → ⊥
          none_goes_by T to n b (inl z) = let y = z.2 in cc
          none_goes_by T to n b (inr z) = let y = z.0.1 in cc

          none_goes : GoesAway (after_shipping t S) (Reserves t.reserved) host → ⊥
          none_goes (inl z) = let y = z.2 in cc
          none_goes (inr z) = let y = z.0.1 in cc

      none_moved : MovesNone t
      none_moved = works_none v (filesets_kept start v (steps_of_server v p)) S t may_t.works.applies

      abbrev kept_then : Tree
      kept_then =
          filesets_through t.cause (by_cause t.applied) (filesets_kept start v (steps_of_server v p))

      from_caused : HasOne (after_cause t.cause S) → HasOne (after_step t S)
      from_caused has =
          from_decided (subst HasOne (sym (same_decisions t.applied (after_cause t.cause S) none_moved))
          (keep_decides (decisions t.applied) kept_then (after_cause t.cause S) may_t.works.decides
          (λ y i. decided_applied t.applied y i) has))

      from_made : (w : Wanted) → In (IsWanted w) t.applied → w.host ≡ host → IsSame b w.request
          → HasOne (after_step t S)
      from_made w i h same =
          from_decided (subst HasOne (sym (same_decisions t.applied (after_cause t.cause S) none_moved))
          (made_decides (decisions t.applied) kept_then (after_cause t.cause S) may_t.works.decides
          (λ y i. decided_applied t.applied y i) w (want_decided t.applied w i) h same))

      keep_step : HasOne S → HasOne (after_step t S)
      keep_step has = from_caused (keep_cause t.cause refl has)

      -- # Where it takes the request
      module _ (cause : t.cause ≡ Came m) (to : m.host ≡ host) (now : m.epoch ≡ epoch S) where
        taken : TakenNow S t host m.moves b
        taken = ((m, cause, to, now, refl, sends.5), lives (t ∷ l) p a.whole a.mark)

        run_p : StepsMeet script start firsts p
        run_p = met (t ∷ l) p a.whole

        dues_p : Always (λ before s. StepDue script start firsts s.node before s) p
        dues_p = dues (t ∷ l) p a.whole

        -- what it was before its cause was taken
        sent_before : (h : HostId) (d k : ℕ) (c : Body) → SentTo (after_cause t.cause S) h d k c → SentTo S h d k c
        sent_before h d k c o = sent_cause h d k c t.cause S o

        queued_before : (w : Wanted) → IsQueued (after_cause t.cause S) w → IsQueued S w
        queued_before w q = by (subst (λ (c : Cause). IsQueued (after_cause c S) w) cause q)
          where
            by : IsQueued (Took m.host m.epoch m.moves m.body ∷ S) w → IsQueued S w
            by (inl z) = absurd (cc)
            by (inr k) = k.0

        module _ (c : ChangeOf) (is : b ≡ Change c) where
          changing : Changing (own p) v c.fileset c.number
          changing =
              (subst (λ (d : Body). IsUnanswered (own p) v n d) is (outstanding (t ∷ l) p a.whole a.mark.sent)).1

          -- no higher number was said
          said_below : (j : ℕ) → IsChangeNumber (own p) v c.fileset j → j ≤ c.number
          said_below j number =
              numbers_below script start firsts real host v c.fileset p run_p dues_p c.number j changing number

          done_below : (d k : ℕ) (o : DoneOf) → SentTo S host d k (Done o) → o.fileset ≡ c.fileset
              → o.bring.number ≤ c.number
          done_below d k o sent files =
              let y = done_said script start firsts real host v d k o p run_p dues_p sent in
              said_below o.bring.number (y.0, (v, y.1, y.2, y.3, λ z. refl), y.4 ∙ files, y.5)

          -- one that was answered is answered again
          repeats : (d : DoneOf) → d.fileset ≡ c.fileset → d.bring.number ≡ c.number
              → HasWritten S host d ⊎ ((k : ℕ) × SentTo S host (epoch S) k (Done d)) → ⊥
          repeats d files numbers was =
              let told = due_t.sent.repeats host m.moves c d (subst (TakenNow S t host m.moves) is taken)
              (decided_here v S ((all (t ∷ l) p a.whole).at v).served.put c.fileset m.moves here) files
              numbers
              (λ e k o sent its. (let le = done_below e k o sent (its ∙ files) in omega (arith, le, numbers))) was in
              answer_none (Done told.0) told.1
              (subst (λ (y : Body). IsAnswer y (Done told.0)) (sym is) (told.2, told.3))
            where
              here : GoesIn v (Change c) m.moves
              here = subst (λ (k : ℕ). GoesIn v (Change c) k) (sym sends.4)
                  (subst (λ (y : Body). GoesIn v y mv) is
                  (goes_in script host (own past) s may_host v ep mv b asks sends))

          -- so it isn't old
          fresh_change : IsOld (after_cause t.cause S) host (Changes c) → ⊥
          fresh_change (inl (later, le, was)) =
              let written = written_cause host c.fileset later t.cause S was in
              let answered = written_answered script start firsts real host v c.fileset later p dues_p written in
              let below = done_below answered.0 answered.1 answered.2 answered.3 answered.4 in
              let number = answered.5 in
              let w = has_written host c.fileset later S written in
              let its = w.3 in
              repeats w.0 w.2 (omega (arith, le, below, number, its)) (inl w.1)
          fresh_change (inr (d, k, o, sent, files, inl lt)) =
              let below = done_below d k o (sent_before host d k (Done o) sent) files in omega (arith, below, lt)
          fresh_change (inr (d, k, o, sent, files, inr (number, late))) =
              repeats o files (sym number)
              (inr (
                k,
                subst (λ (y : ℕ). SentTo S host y k (Done o)) (late ∙ same_epoch)
                    (sent_before host d k (Done o) sent),
              ))

          -- and the one that waits beside it has its number
          same_number : (w : Wanted) (d : ChangeOf) → IsQueued (after_cause t.cause S) w → w.host ≡ host
              → w.request ≡ Changes d → d.fileset ≡ c.fileset → d.number ≡ c.number
          same_number w d q h r files =
              one_changing script host (own p) (own_run script start firsts p run_p host) v d.fileset c.fileset
              d.number c.number
              (still_changing script start firsts real host v (epoch S) w.moves d p run_p said
              (host_epoch (t ∷ l) p a ∙ sym (server_epoch (t ∷ l) p a)) never) changing
            where
              before : IsQueued S w
              before = queued_before w q

              said : Said (own p) v (epoch S) w.moves (Change d)
              said =
                  subst (λ (y : HostId × Request). Said (steps_of_host y.0 p) v (epoch S) w.moves (body_of y.1))
                  (λ i. (h i, r i))
                  ((((all (t ∷ l) p a.whole).at v).link w.host).took w.moves (body_of w.request)
                  (all_taken script start firsts p run_p v w before))

              never : (k : ℕ) (o : DoneOf) → SentTo S host (epoch S) k (Done o) → o.fileset ≡ d.fileset
                  → o.bring.number ≡ d.number → ⊥
              never k o sent = fresh_now script start firsts real p run_p v w d before r k o
                  (subst (λ (y : HostId). SentTo S y (epoch S) k (Done o)) (sym h) sent)

        fresh : IsOld (after_cause t.cause S) host (request_of b asks) → ⊥
        fresh old = old_change b asks host (after_cause t.cause S) old (λ c is. fresh_change c is)

        -- the want of the request
        takes_it : HasOne (after_step t S)
        takes_it lacks =
            let made = due_t.decided.news host m.moves (request_of b asks) (record {
              taken = subst (TakenNow S t host m.moves) (sym (body_is b asks)) taken;
              here = asked_here v S ((all (t ∷ l) p a.whole).at v).served.put m.moves b asks meant goes;
              fresh = fresh;
              alone = λ w q h both. from_caused
                  (λ j. j (
                    w,
                    q,
                    h,
                    same_by b asks w.request both
                        (λ c d is r files. same_number c is w d q h r files),
                  )) lacks;
            }) in
            from_made made.0 made.1 made.2 (subst (IsSame b) (sym made.3) (same_is b asks)) lacks
          where
            goes : GoesIn v b m.moves
            goes = subst (λ (k : ℕ). GoesIn v b k) (sym sends.4)
                (goes_in script host (own past) s may_host v ep mv b asks sends)

    -- so it has one at the end
    carry : (l p : List Step) → IsAfter l p → HasOne (acts p) → HasOne (acts (appended l p))
    carry [] p a has = has
    carry (t ∷ l) p a has = carry l (t ∷ p) (next_at l p t a) (by t.node refl)
      where
        by : (k : Node) → t.node ≡ k → HasOne (acts_after v k t (acts p))
        by (Host k) at = has
        by (Server k) at =
            if_server HasOne k v (after_step t (acts p)) (acts p)
            (λ same. keep_step l p t a (at ∙ ap Server same) has) has

    went : (m.host ≡ host) × (m.direction ≡ ToServer) × (LapsesIn later (Host host) ⊎ IsTakenIn later m)
    went =
        host_sends script start firsts real run meets due over none host live past later s e node m sends.1
        (ap (λ (y : Body). resender_by y m) sends.5 ∙ host_resends (own run) v n b x m)

    has_one : HasOne (acts run)
    has_one = elim went.2 [
      | inl lapses ↦ absurd (lapses_not later (s ∷ past) first_at lapses)
      | inr taken ↦ by (cut later (s ∷ past) taken.0 taken.1) taken.2
    ]
      where
        by : {t : Step} → Cut (s ∷ past) later t → t.cause ≡ Came m → HasOne (acts run)
        by {t = t} c cause = go t.node refl (met c.after (t ∷ c.before) (c.whole ∙ e)).1.0
          where
            go : (k : Node) → t.node ≡ k → StepMeets script start firsts k c.before t → HasOne (acts run)
            go (Host k) at m' = absurd (let z : ToServer ≡ ToHost = sym went.1 ∙ (m'.1 m cause).1 in cc)
            go (Server k) at m' =
                let is : t.node ≡ Server v = at ∙ ap Server (sym (m'.1 m cause).0 ∙ sends.2) in
                let then_at = at_cut first_at c in
                let now : m.epoch ≡ epoch (acts c.before) =
                sends.3
                ∙ (may_host.tokens.epochs v ep mv b sends
                ∙ (sym (ap (λ (L : List Step). epoch_at L v) (host_steps host s past node))
                ∙ sym (server_epoch (t ∷ c.after) c.before then_at))) in
                subst (λ (L : List Step). HasOne (acts L)) then_at.whole
                (carry c.after (t ∷ c.before) (next_at c.after c.before t then_at)
                (subst HasOne (sym (server_doings (firsts v) v t c.before is))
                (takes_it c.after c.before t then_at is cause went.0 now)))

  -- it is so from each step on that says it, since the last one is such a step
  pub stands : (fuel : ℕ) (past later : List Step) (s : Step) → length later < fuel → appended (s ∷ later) past ≡ run
      → s.node ≡ Host host → SendsIt v b s
      → ((w : Wanted) × IsQueued (acts run) w × (w.host ≡ host) × IsSame b w.request → ⊥) → ⊥
  stands zero past later s lt e node sends lacks = absurd (omega (arith, lt))
  stands (suc fuel) past later s lt e node (to, ep, mv, sends, is) lacks =
      has_one past later s e node ep mv (subst (λ (u : ServerId). Sends s u ep mv b) there sends)
      (λ p l t short whole at again. stands fuel p l t
      (let y : length later < suc fuel = lt in omega (arith, short, y)) whole at again lacks) lacks
    where
      there : to ≡ v
      there = goes_there script host (own past) s (host_may later past s e node) v to n ep mv b (own run) x sends is

-- # At the end of a run

-- a host that asks has said no Bye
asks_still : (A : List Step) (v : ServerId) (n : ℕ) (b : Body) → IsRequest b → Alone A → IsUnanswered A v n b
    → HasSaid A v Bye → ⊥
asks_still A v n (Fetch f) asks alone x said = alone.bye_asking v f.fid.fileset f.number said x.1
asks_still A v n (Change c) asks alone x said = alone.bye_changing v v c.fileset c.number said x.1
asks_still A v n _ asks alone x said = elim asks [ ]

-- what it asks was said
asks_said : (A : List Step) (v : ServerId) (n : ℕ) (b : Body) → IsUnanswered A v n b → (c : ChangeOf) → b ≡ Change c
    → (w : ServerId) × (e k : ℕ) × Said A w e k (Change c)
asks_said A v n (Change d) x c is =
    let has = x.0 in
    (has.0, has.1, has.2, subst (λ (y : Body). Said A has.0 has.1 has.2 y) is has.3)
asks_said A v n (Fetch f) x c is = absurd (let z : Fetch f ≡ Change c = is in cc)
asks_said A v n (GiveBack g) x c is = absurd (let z : GiveBack g ≡ Change c = is in cc)
asks_said A v n Hello x c is = absurd (let z : Hello ≡ Change c = is in cc)
asks_said A v n Bye x c is = absurd (let z : Bye ≡ Change c = is in cc)
asks_said A v n _ x c is = elim x [ ]

pub requests_stand_as_wants : RequestsStandAsWants
requests_stand_as_wants script journal q sound locks host live v n b asks x lacks =
    stands script q.run.start firsts (λ u. from_one _) run q.run.steps dues q.over q.none_held host live v n b x asks
    meant stays reclaims (claims_are_answered script journal q host live v stays) (suc (length f.after)) f.before
    f.after f.step (omega arith) f.whole f.node f.here lacks
  where
    firsts : ServerId → ℕ
    firsts = firsts_of journal

    run : List Step
    run = past_of journal

    own_end : List Step
    own_end = steps_of_host host (past_of journal)

    dues : Always (λ before s. StepDue script q.run.start (firsts_of journal) s.node before s) (past_of journal)
    dues = due_of script journal q.run q.dutiful

    whole : Whole (λ h. steps_of_host h (past_of journal)) (λ u. doings_of (firsts_of journal u) u (past_of journal))
    whole =
        whole_at script q.run.start (firsts_of journal) (λ u. from_one _) (past_of journal) q.run.steps dues q.over
        q.none_held [] (past_of journal) refl

    meant : IsMeant b
    meant c is =
        let said = asks_said (steps_of_host host (past_of journal)) v n b x c is in
        changes_are_meant_so script journal q.run sound locks host said.0 said.1 said.2 c said.3

    stays : HasGoneAway (doings_of (firsts_of journal v) v (past_of journal)) host → ⊥
    stays gone = elim (((whole.at v).link host).away gone) [
      | inl stopped ↦ live stopped
      | inr said ↦ asks_still (steps_of_host host (past_of journal)) v n b asks (whole.alone host) x said
    ]

    f : Found host (λ before s. SendsIt v b s) (past_of journal)
    f = found host (λ before s. SendsIt v b s) journal.steps
        (was_sent script host (steps_of_host host (past_of journal))
        (own_run script q.run.start (firsts_of journal) (past_of journal) q.run.steps host) live v n b x)

    may : HostMay script host (steps_of_host host f.before) f.step
    may = (subst (λ (k : Node). StepMeets script q.run.start (firsts_of journal) k f.before f.step) f.node
        (meets_at script q.run.start (firsts_of journal) (λ u. from_one _) (past_of journal) q.run.steps dues q.over
        q.none_held f.after (f.step ∷ f.before) f.whole).1.0).0

    listed : Listed (doings_of (firsts_of journal v) v (past_of journal)) host
    listed =
        let to = f.here.0 in
        let there : to ≡ v =
        goes_there script host (steps_of_host host f.before) f.step may v to n f.here.1 f.here.2 b
        (steps_of_host host (past_of journal)) x f.here.3 f.here.4 in
        let sends : Sends f.step v f.here.1 f.here.2 b =
        subst (λ (u : ServerId). Sends f.step u f.here.1 f.here.2 b) there f.here.3 in
        let on =
        on_list script q.run.start (firsts_of journal) (λ u. from_one _) (past_of journal) q.run.steps dues host v
        f.after (f.step ∷ f.before) f.whole
        (subst (λ (L : List Step). IsWelcome L v) (sym (host_steps host f.step f.before f.node))
        (welcome_asks script host (steps_of_host host f.before) f.step may v f.here.1 f.here.2 b asks sends)) in
        subst (λ (L : List Step). Listed (doings_of (firsts_of journal v) v L) host) f.whole
        (listed_on (firsts_of journal) v host f.after (f.step ∷ f.before) on.listed.0)

    reclaims : HasReclaimed (doings_of (firsts_of journal v) v (past_of journal)) host
    reclaims = no_grace_period_stands script journal q v host (listed, stays)
