-- The numbers of Changes: a server answers none that wasn't said, and the one that is outstanding is the last that its
-- host said.
use Rattle.std.proofs.Common.{List, [], ap, arith, inl, inr, refl, subst, suc, sym, ℕ, ◌<◌, ◌∙◌, ◌∷◌, ◌≡◌, ◌≤◌, ◌⊎◌}
use Rattle.base_types.specs.declared.ids.FilesetId.{FilesetId}
use Rattle.base_types.specs.declared.ids.HostId.{HostId}
use Rattle.base_types.specs.declared.ids.Node.{Node}
use Rattle.base_types.specs.declared.ids.Node.TheVariants.{Host, Server}
use Rattle.base_types.specs.declared.ids.ServerId.{ServerId}
use Rattle.tree_answers.specs.declared.tree.Tree.{Tree}
use Rattle.script_lines.specs.declared.script.Script.{Script}
use Rattle.message_types.specs.declared.asking.Change.{Change as ChangeOf}
use Rattle.message_types.specs.declared.message.Body.{Body}
use Rattle.message_types.specs.declared.message.Body.TheVariants.{Change, Done}
use Rattle.message_types.specs.declared.message.Message.{Message}
use Rattle.message_types.specs.declared.telling.Done.{Done as DoneOf}
use Rattle.run_rules.specs.Doings.{Doing, SentTo, TakenNow, WasWritten, admitting, after_admitting, after_cause}
use Rattle.run_rules.specs.Doings.{after_deciding, after_step, deciding, doings_of, epoch, sending}
use Rattle.run_rules.specs.Doings.Doing.{Gets}
use Rattle.run_rules.specs.Doings.Doing.{Admits, BeginsEpoch, Flushes, MakesWant, Moves, Reserves, Sent, Took}
use Rattle.run_rules.specs.Doings.Doing.{WritesDown}
use Rattle.run_rules.specs.HostAsks.{IsChangeNumber, IsNextNumber}
use Rattle.run_rules.specs.HostMay.{HostMay}
use Rattle.run_rules.specs.Messages.{Changing, ComesIn, DoneComes, Said, Sends, epoch_at, home}
use Rattle.run_rules.specs.Past.{Always, EachInTurn, In, appended}
use Rattle.run_rules.specs.Runs.{CameToHost, CameToServer, StepDue, StepMeets, StepsMeet}
use Rattle.run_rules.specs.ServerDue.{IsOfChange, ServerDue}
use Rattle.run_rules.specs.ServerMay.{MaySend}
use Rattle.run_rules.specs.Steps.{steps_of_host, steps_of_server}
use Rattle.run_rules.specs.Wants.{IsQueued, body_of}
use Rattle.run_rules.specs.declared.applied.Admission.{Admission}
use Rattle.run_rules.specs.declared.applied.Applied.{Applied}
use Rattle.run_rules.specs.declared.applied.Applied.TheVariants.{Done as IsDone, IsDown, Replied, Stored}
use Rattle.run_rules.specs.declared.applied.Applied.TheVariants.{Moves as IsMoved, Wants as IsWanted}
use Rattle.run_rules.specs.declared.applied.Request.{Request}
use Rattle.run_rules.specs.declared.applied.Request.TheVariants.{Change as Changes}
use Rattle.run_rules.specs.declared.applied.Wanted.{Wanted}
use Rattle.run_rules.specs.declared.applied.Written.{Written}
use Rattle.run_rules.specs.declared.step.Cause.{Cause}
use Rattle.run_rules.specs.declared.step.Cause.TheVariants.{End, Evict, Flushed, Freight, Lapse}
use Rattle.run_rules.specs.declared.step.Cause.TheVariants.{Line, Message as Came, Restart}
use Rattle.run_rules.specs.declared.step.Step.{Step}
use Rattle.run_contents.proofs.Grants.{all_taken}
use Rattle.run_examples.proofs.Words.{moved}
use Rattle.run_history.proofs.Waiting.{zero_home, zero_silent}
use Rattle.run_tokens.proofs.Law.{always}
use Rattle.run_tokens.proofs.TokenRun.{token_run}
use Rattle.run_tokens.proofs.Words.{acts_after, if_host, if_server, own_after}
use Rattle.run_goes_on.proofs.Arriving.{step_on}
use Rattle.run_goes_on.proofs.Grown.{sent_split}
use Rattle.run_tokens.specs.Unmoved.{StaysPut}
use Rattle.run_tokens.proofs.Unmoved.{put_on}
use Rattle.run_tokens.proofs.Ships.{once_shipped, once_ships}
use Rattle.run_rules.specs.Doings.Doing.{Puts}
use Rattle.run_rules.specs.Doings.{after_sending}
use Rattle.run_goes_on.proofs.Positions.{once_on}

-- # What a step sends

-- for what it sends each message
pub sent_may : (v : ServerId) (tree : Tree) (s : Step) (ms : List Message) (S : List Doing)
    → EachInTurn (MaySend v tree s) (sending ms) S → (m : Message) → In m ms
    → (mid : List Doing) × MaySend v tree s mid (Sent m.host m.epoch m.moves m.body) × (StaysPut S → StaysPut mid)
sent_may v tree s [] S may m i = elim i [ ]
sent_may v tree s (x ∷ ms) S may m (inl q) =
    (S, subst (λ (y : Message). MaySend v tree s S (Sent y.host y.epoch y.moves y.body)) (sym q) may.0, λ put. put)
sent_may v tree s (x ∷ ms) S may m (inr i) =
    let k = sent_may v tree s ms (Sent x.host x.epoch x.moves x.body ∷ S) may.1 m i in (
      k.0,
      k.1,
      λ put. k.2 (put_on (Sent x.host x.epoch x.moves x.body) S (λ p. let q = p.1 in cc) put),
    )

in_sents : (ms : List Message) (S : List Doing) (m : Message) → In m ms
    → SentTo (appended (sending ms) S) m.host m.epoch m.moves m.body
in_sents [] S m i = elim i [ ]
in_sents (x ∷ ms) S m (inr i) = in_sents ms (Sent x.host x.epoch x.moves x.body ∷ S) m i
in_sents (x ∷ ms) S m (inl q) =
    subst (λ (y : Message). SentTo (appended (sending (x ∷ ms)) S) y.host y.epoch y.moves y.body) (sym q)
    (once_on (λ before a. a ≡ Sent x.host x.epoch x.moves x.body) (sending ms)
    (Sent x.host x.epoch x.moves x.body ∷ S) (inl refl))

-- after the step it was sent
pub was_sent_by : (s : Step) (S : List Doing) (m : Message) → In m s.sent
    → SentTo (after_step s S) m.host m.epoch m.moves m.body
was_sent_by s S m i =
    inr (once_shipped (λ before a. a ≡ Sent m.host m.epoch m.moves m.body) s.shipped (after_sending s S)
    (in_sents s.sent (after_admitting s S) m i))

-- # What is written down

module _ (h : HostId) (fs : FilesetId) (k : ℕ) where
  abbrev Writes : List Doing → Doing → Type 0
  Writes before a = (written : Written) × (a ≡ WritesDown written) × (written.answer.host ≡ h)
      × (written.fileset ≡ fs) × (written.number ≡ k)

  abbrev pub WritesNow : List Applied → Type 0
  WritesNow xs = (written : Written) × In (IsDone written) xs × (written.answer.host ≡ h) × (written.fileset ≡ fs)
      × (written.number ≡ k)

  written_deciding : (xs : List Applied) (S : List Doing) → WasWritten (appended (deciding xs) S) h fs k
      → WasWritten S h fs k ⊎ WritesNow xs
  written_deciding [] S o = inl o
  written_deciding (IsWanted w ∷ xs) S o = elim (written_deciding xs (MakesWant w ∷ S) o) [
    | inl (inl x) ↦ absurd (let z : MakesWant w ≡ WritesDown x.0 = x.1 in cc)
    | inl (inr old) ↦ inl old
    | inr x ↦ inr (x.0, inr x.1, x.2, x.3, x.4)
  ]
  written_deciding (IsDone w ∷ xs) S o = elim (written_deciding xs (WritesDown w ∷ S) o) [
    | inl (inl x) ↦ inr (x.0, inl (let z : WritesDown w ≡ WritesDown x.0 = x.1 in same_done w x.0 z), x.2, x.3, x.4)
    | inl (inr old) ↦ inl old
    | inr x ↦ inr (x.0, inr x.1, x.2, x.3, x.4)
  ]
    where
      same_done : (w y : Written) → WritesDown w ≡ WritesDown y → IsDone y ≡ IsDone w
      same_done w y e = cc
  written_deciding (Replied y ∷ xs) S o = elim (written_deciding xs S o) [
    | inl old ↦ inl old
    | inr x ↦ inr (x.0, inr x.1, x.2, x.3, x.4)
  ]
  written_deciding (Stored g f ss n ∷ xs) S o = elim (written_deciding xs S o) [
    | inl old ↦ inl old
    | inr x ↦ inr (x.0, inr x.1, x.2, x.3, x.4)
  ]
  written_deciding (IsDown g ∷ xs) S o = elim (written_deciding xs S o) [
    | inl old ↦ inl old
    | inr x ↦ inr (x.0, inr x.1, x.2, x.3, x.4)
  ]
  written_deciding (IsMoved move ∷ xs) S o = elim (written_deciding xs (Moves move ∷ S) o) [
    | inl (inl x) ↦ absurd (let z : Moves move ≡ WritesDown x.0 = x.1 in cc)
    | inl (inr old) ↦ inl old
    | inr x ↦ inr (x.0, inr x.1, x.2, x.3, x.4)
  ]

  written_admitting : (cs : List Admission) (S : List Doing) → WasWritten (appended (admitting cs) S) h fs k
      → WasWritten S h fs k
  written_admitting [] S o = o
  written_admitting (c ∷ cs) S o = elim (written_admitting cs (Admits c.host c.tokens ∷ S) o) [
    | inl x ↦ absurd (let z : Admits c.host c.tokens ≡ WritesDown x.0 = x.1 in cc)
    | inr old ↦ old
  ]

  written_sending : (ms : List Message) (S : List Doing) → WasWritten (appended (sending ms) S) h fs k
      → WasWritten S h fs k
  written_sending [] S o = o
  written_sending (m ∷ ms) S o = elim (written_sending ms (Sent m.host m.epoch m.moves m.body ∷ S) o) [
    | inl x ↦ absurd (let z : Sent m.host m.epoch m.moves m.body ≡ WritesDown x.0 = x.1 in cc)
    | inr old ↦ old
  ]

  pub written_cause : (c : Cause) (S : List Doing) → WasWritten (after_cause c S) h fs k → WasWritten S h fs k
  written_cause (Came m) S (inl x) =
      absurd (let z : Took m.host m.epoch m.moves m.body ≡ WritesDown x.0 = x.1 in cc)
  written_cause (Came m) S (inr o) = o
  written_cause (Restart line) S (inl x) = absurd (let z : BeginsEpoch (suc (epoch S)) ≡ WritesDown x.0 = x.1 in cc)
  written_cause (Restart line) S (inr o) = o
  written_cause Flushed S (inl x) = absurd (let z : Flushes ≡ WritesDown x.0 = x.1 in cc)
  written_cause Flushed S (inr o) = o
  written_cause (Line line) S o = o
  written_cause Lapse S o = o
  written_cause Evict S o = o
  written_cause (Freight freight) S (inl x) = absurd (let z : Gets freight.server freight.moves freight.body ≡ WritesDown x.0 = x.1 in cc)
  written_cause (Freight freight) S (inr o) = o
  written_cause End S o = o

  written_split : (s : Step) (S : List Doing) → WasWritten (after_step s S) h fs k
      → WasWritten S h fs k ⊎ WritesNow s.applied
  written_split s S (inl x) = absurd (let z : Reserves s.reserved ≡ WritesDown x.0 = x.1 in cc)
  written_split s S (inr o) =
      elim (written_deciding s.applied (after_cause s.cause S)
      (written_admitting s.admitted (after_deciding s S) (written_sending s.sent (after_admitting s S)
      (once_ships Writes (λ T to n b x. (let z : Puts to n b ≡ WritesDown x.0 = x.1 in cc)) s.shipped (after_sending s S) o)))) [
        | inl old ↦ inl (written_cause s.cause S old)
        | inr now ↦ inr now
      ]

-- # Numbers

-- a Change of a fileset and a number was said to the server
abbrev pub SaysNumber : ServerId → List Step → FilesetId → ℕ → Type 0
SaysNumber v A fs k =
    (c : ChangeOf) × (e n : ℕ) × Said A v e n (Change c) × (c.fileset ≡ fs) × (c.number ≡ k)

-- of two numbers that are next to the same ones neither is above the other
next_below : (P : ℕ → Type 0) (j k : ℕ) → IsNextNumber P j → IsNextNumber P k → j ≤ k
next_below P j k a b = elim a.after [
  | inl one ↦ elim b.after [
    | inl too ↦ omega (arith, one, too)
    | inr m ↦ (let up = m.2 in omega (arith, one, up))
  ]
  | inr i ↦ (let lt = b.above i.0 i.1 in let up = i.2 in omega (arith, lt, up))
]

module _ (script : Script) (start : Tree) (firsts : ServerId → ℕ) (real : (v : ServerId) → 0 < firsts v)
    (host : HostId) where
  abbrev own : List Step → List Step
  own past = steps_of_host host past

  abbrev Dues : List Step → Type 0
  Dues past = Always (λ before s. StepDue script start firsts s.node before s) past

  -- a Done that was sent is of a Change that was said
  module _ (v : ServerId) (e n : ℕ) (d : DoneOf) where
    abbrev acts : List Step → List Doing
    acts past = doings_of (firsts v) v past

    abbrev IsSaid : List Step → Type 0
    IsSaid A = SaysNumber v A d.fileset d.bring.number

    said_later : (A : List Step) (s : Step) → IsSaid A → IsSaid (s ∷ A)
    said_later A s k = (k.0, k.1, k.2, inr k.3, k.4, k.5)

    of_taken : (past : List Step) (s : Step) → CameToServer v past s → (c : ChangeOf) → IsOfChange c d → (k : ℕ)
        → TakenNow (acts past) s host k (Change c) → IsSaid (own past)
    of_taken past s came c is k ((m, cause, h, ep, mv, body), live) =
        let said = (came m cause).2 in (
          c,
          m.epoch,
          m.moves,
          subst (λ (y : HostId × Body). Said (steps_of_host y.0 past) v m.epoch m.moves y.1) (λ i. (h i, body i)) said,
          is.0,
          is.1,
        )

    of_queued : (past : List Step) → StepsMeet script start firsts past → (c : ChangeOf) → IsOfChange c d
        → (w : Wanted) → IsQueued (acts past) w → w.host ≡ host → w.request ≡ Changes c → IsSaid (own past)
    of_queued past run c is w waits h asks =
        let whole = always firsts past (token_run script start firsts past real run) in
        let took = all_taken script start firsts past run v w waits in
        let said = ((whole.at v).link w.host).took w.moves (body_of w.request) took in (
          c,
          epoch (acts past),
          w.moves,
          subst (λ (y : HostId × Request). Said (steps_of_host y.0 past) v (epoch (acts past)) w.moves (body_of y.1))
              (λ i. (h i, asks i)) said,
          is.0,
          is.1,
        )

    done_step : (past : List Step) (s : Step) → StepsMeet script start firsts past → CameToServer v past s
        → ServerDue script start v (steps_of_server v past) (acts past) s
        → (SentTo (acts past) host e n (Done d) → IsSaid (own past))
        → SentTo (after_step s (acts past)) host e n (Done d) → IsSaid (own past)
    done_step past s run came due old sent = elim (sent_split host e n (Done d) s (acts past) sent) [
      | inl was ↦ old was
      | inr (m, i, h, ep, mv, body) ↦ (
          let only = due.sent.dones_only host d (m, i, h, body) in
          elim only.2 [
            | inl taken ↦ of_taken past s came only.0 only.1 taken.0 taken.1
            | inr w ↦ of_queued past run only.0 only.1 w.0 w.1 w.2 w.3
          ]
          )
    ]

    done_at : (k : Node) (past : List Step) (s : Step) → StepsMeet script start firsts past
        → StepMeets script start firsts k past s → StepDue script start firsts k past s
        → (SentTo (acts past) host e n (Done d) → IsSaid (own past))
        → SentTo (acts_after v k s (acts past)) host e n (Done d) → IsSaid (own_after host k s (own past))
    done_at (Host k) past s run m due old sent =
        if_host IsSaid k host (s ∷ own past) (own past) (λ same. said_later (own past) s (old sent)) (old sent)
    done_at (Server k) past s run m due old sent =
        if_server (λ (S : List Doing). SentTo S host e n (Done d) → IsSaid (own past)) k v (after_step s (acts past))
        (acts past)
        (λ same. done_step past s run (subst (λ (u : ServerId). CameToServer u past s) same m.1)
        (subst (λ (u : ServerId). ServerDue script start u (steps_of_server u past) (doings_of (firsts u) u past) s)
        same due) old) old sent

    pub done_said : (past : List Step) → StepsMeet script start firsts past → Dues past
        → SentTo (acts past) host e n (Done d) → IsSaid (own past)
    done_said [] run due (inl q) = absurd (let z : BeginsEpoch (firsts v) ≡ Sent host e n (Done d) = q in cc)
    done_said [] run due (inr o) = elim o [ ]
    done_said (s ∷ past) run due sent =
        done_at s.node past s run.0 run.1.0 due.1 (done_said past run.0 due.0) sent

  -- what was written down was answered
  module _ (v : ServerId) (fs : FilesetId) (k : ℕ) where
    abbrev acts_of : List Step → List Doing
    acts_of past = doings_of (firsts v) v past

    abbrev IsAnswered : List Doing → Type 0
    IsAnswered S = (e n : ℕ) × (d : DoneOf) × SentTo S host e n (Done d) × (d.fileset ≡ fs) × (d.bring.number ≡ k)

    answered_step : (past : List Step) (s : Step) → ServerDue script start v (steps_of_server v past) (acts_of past) s
        → (WasWritten (acts_of past) host fs k → IsAnswered (acts_of past))
        → ((h : HostId) (e n : ℕ) (b : Body) → SentTo (acts_of past) h e n b
        → SentTo (after_step s (acts_of past)) h e n b)
        → WasWritten (after_step s (acts_of past)) host fs k → IsAnswered (after_step s (acts_of past))
    answered_step past s due old grows was = elim (written_split host fs k s (acts_of past) was) [
      | inl before ↦ (
          let a = old before in
          (a.0, a.1, a.2, grows host a.0 a.1 (Done a.2) a.3, a.4, a.5)
          )
      | inr (w, i, h, f, number) ↦ (
          let told = due.sent.written w i in
          let sent = told.1 in
          let m : Message = sent.0 in
          let to : m.host ≡ host = sent.2 ∙ h in
          let body : m.body ≡ Done told.0 = sent.3 in (
            m.epoch,
            m.moves,
            told.0,
            subst (λ (y : HostId × Body). SentTo (after_step s (acts_of past)) y.0 m.epoch m.moves y.1)
                (λ j. (to j, body j)) (was_sent_by s (acts_of past) m sent.1),
            told.3 ∙ f,
            told.4 ∙ number,
          )
          )
    ]

    answered_at : (c : Node) (past : List Step) (s : Step) → StepDue script start firsts c past s
        → (WasWritten (acts_of past) host fs k → IsAnswered (acts_of past))
        → WasWritten (acts_after v c s (acts_of past)) host fs k → IsAnswered (acts_after v c s (acts_of past))
    answered_at (Host c) past s due old was = old was
    answered_at (Server c) past s due old was =
        if_server (λ (S : List Doing). WasWritten S host fs k → IsAnswered S) c v (after_step s (acts_of past))
        (acts_of past)
        (λ same. answered_step past s
        (subst (λ (u : ServerId). ServerDue script start u (steps_of_server u past) (doings_of (firsts u) u past) s)
        same due) old (λ h e n b. step_on (λ before a. a ≡ Sent h e n b) (acts_of past) s)) old was

    pub written_answered : (past : List Step) → Dues past → WasWritten (acts_of past) host fs k
        → IsAnswered (acts_of past)
    written_answered [] due (inl x) = absurd (let z : BeginsEpoch (firsts v) ≡ WritesDown x.0 = x.1 in cc)
    written_answered [] due (inr o) = elim o [ ]
    written_answered (s ∷ past) due was = answered_at s.node past s due.1 (written_answered past due.0) was

  -- # The Change that is outstanding has the highest number
  module _ (v : ServerId) (fs : FilesetId) where
    abbrev IsNumber : List Step → ℕ → Type 0
    IsNumber A j = IsChangeNumber A v fs j

    module _ (past : List Step) (s : Step) (run : StepsMeet script start firsts past) (due : Dues past)
        (may : HostMay script host (own past) s) (came : CameToHost firsts host past s)
        (old : (k j : ℕ) → Changing (own past) v fs k → IsNumber (own past) j → j ≤ k) where
      abbrev A : List Step
      A = own past

      -- what is a number of Changes to another server is one of those to this
      of_server : (to : ServerId) (f : FilesetId) (j : ℕ) → (f.0 ≡ 0 → to ≡ v) → f ≡ fs → IsChangeNumber A to f j
          → IsNumber A j
      of_server to f j zero is (c, (w, e, n, said, at), files, numbers) = (
        c,
        (w, e, n, said, λ z. at z ∙ zero (ap (λ (x : FilesetId). x.0) (sym files) ∙ z)),
        files ∙ is,
        numbers,
      )

      to_server : (to : ServerId) (f : FilesetId) (j : ℕ) → (f.0 ≡ 0 → to ≡ v) → f ≡ fs → IsNumber A j
          → IsChangeNumber A to f j
      to_server to f j zero is (c, (w, e, n, said, at), files, numbers) = (
        c,
        (w, e, n, said, λ z. at z ∙ sym (zero (ap (λ (x : FilesetId). x.0) (is ∙ sym files) ∙ z))),
        files ∙ sym is,
        numbers,
      )

      next_here : (to : ServerId) (f : FilesetId) (j k : ℕ) → (f.0 ≡ 0 → to ≡ v) → f ≡ fs → j ≡ k
          → IsNextNumber (IsChangeNumber A to f) j → IsNextNumber (IsNumber A) k
      next_here to f j k zero is same next = subst (IsNextNumber (IsNumber A)) same (record {
        above = λ m i. next.above m (to_server to f m zero is i);
        after = elim next.after [
          | inl one ↦ inl one
          | inr m ↦ inr (m.0, of_server to f m.0 zero is m.1, m.2)
        ];
      })

      -- where an outstanding one comes from, and a number
      from_open : (k : ℕ) → Changing (s ∷ A) v fs k → Changing A v fs k ⊎ IsNextNumber (IsNumber A) k
      from_open k out = elim out.0 [
        | inr was ↦ inl was
        | inl (c, (to, e, n, sends, zero), files, numbers) ↦ elim (may.asks.changes to e n c sends) [
          | inl again ↦ inl (moved A to v fs k
              (λ z. zero (ap (λ (x : FilesetId). x.0) files ∙ z))
              (subst (λ (y : FilesetId × ℕ). Changing A to y.0 y.1) (λ i. (files i, numbers i)) again.1))
          | inr new ↦ inr (next_here to c.fileset c.number k zero files numbers new.next)
        ]
      ]

      -- no Done of a new number comes
      done_not : (j : ℕ) → IsNextNumber (IsNumber A) j → (done : DoneOf) → DoneComes A s v done → done.fileset ≡ fs
          → done.bring.number ≡ j → ⊥
      done_not j next done comes files numbers = elim comes [
        | inl k ↦ above v (λ z. refl) (sent_by v 0 k.1)
        | inr k ↦ (
            let u = home done.fileset in
            above u (λ z. absurd (
            let said = sent_by u 0 k in
            let none = zero_home script start firsts real done.fileset (ap (λ (x : FilesetId). x.0) files ∙ z) in
            zero_silent script start firsts real past run u none host said.0 said.1 (Done done) said.2
            )) (sent_by u 0 k)
            )
      ]
        where
          WasSaid : ServerId → Type 0
          WasSaid u = (e n : ℕ) × SentTo (doings_of (firsts u) u past) host e n (Done done)

          sent_by : (u : ServerId) (n : ℕ) → ComesIn s u (epoch_at A u) n (Done done) → WasSaid u
          sent_by u n (m, cause, server, ep, mv, body) = (
            m.epoch,
            m.moves,
            subst (λ (y : ServerId × Body). SentTo (doings_of (firsts y.0) y.0 past) host m.epoch m.moves y.1)
                (λ i. (server i, body i)) (came m cause).2,
          )

          above : (u : ServerId) → (fs.0 ≡ 0 → u ≡ v) → WasSaid u → ⊥
          above u zero (e, n, sent) =
              let k = done_said u e n done past run due sent in
              let lt : j < j = next.above j (
                k.0,
                (u, k.1, k.2, k.3, λ z. zero (ap (λ (x : FilesetId). x.0) (sym (k.4 ∙ files)) ∙ z)),
                k.4 ∙ files,
                k.5 ∙ numbers,
              ) in
              omega (arith, lt)

      below_step : (k j : ℕ) → Changing (s ∷ A) v fs k → IsNumber (s ∷ A) j → j ≤ k
      below_step k j out (c, (w, e, n, said, zero), files, numbers) = elim said [
        | inr before ↦ was (c, (w, e, n, before, zero), files, numbers)
        | inl sends ↦ elim (may.asks.changes w e n c sends) [
          | inl again ↦ (
              let has = again.0 in
              was (c, (has.0, has.1, has.2, has.3, λ z. has.4 z ∙ zero z), files, numbers)
              )
          | inr new ↦ now sends (next_here w c.fileset c.number j zero files numbers new.next)
        ]
      ]
        where
          was : IsNumber A j → j ≤ k
          was number = elim (from_open k out) [
            | inl older ↦ old k j older number
            | inr next ↦ (let lt = next.above j number in omega (arith, lt))
          ]

          now : Sends s w e n (Change c) → IsNextNumber (IsNumber A) j → j ≤ k
          now sends next = elim (from_open k out) [
            | inr too ↦ next_below (IsNumber A) j k next too
            | inl older ↦ (
                let one = (may.asks.one_change v v fs fs k j out
                ((inl (c, (w, e, n, sends, zero), files, numbers), done_not j next))).1 in
                omega (arith, one)
                )
          ]

    below_at : (c : Node) (past : List Step) (s : Step) → StepsMeet script start firsts past → Dues past
        → StepMeets script start firsts c past s
        → ((k j : ℕ) → Changing (own past) v fs k → IsNumber (own past) j → j ≤ k)
        → (k j : ℕ) → Changing (own_after host c s (own past)) v fs k → IsNumber (own_after host c s (own past)) j
        → j ≤ k
    below_at (Server c) past s run due m old = old
    below_at (Host c) past s run due m old =
        if_host (λ (L : List Step). (k j : ℕ) → Changing L v fs k → IsNumber L j → j ≤ k) c host (s ∷ own past)
        (own past)
        (λ same. below_step past s run due
        (subst (λ (h : HostId). HostMay script h (steps_of_host h past) s) same m.0)
        (subst (λ (h : HostId). CameToHost firsts h past s) same m.1) old) old

    pub numbers_below : (past : List Step) → StepsMeet script start firsts past → Dues past → (k j : ℕ)
        → Changing (own past) v fs k → IsNumber (own past) j → j ≤ k
    numbers_below [] run due k j out number = elim out [ ]
    numbers_below (s ∷ past) run due k j out number =
        below_at s.node past s run.0 due.0 run.1.0 (numbers_below past run.0 due.0) k j out number
