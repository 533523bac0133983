-- In an ended run no call is open.
use Rattle.run_contents.proofs.Runs.{own_run}
use Rattle.run_history.proofs.UseHostLaw.{from_one}
use Rattle.run_history.proofs.State.{whole}
use Rattle.std.proofs.Common.{List, arith, inl, inr, refl, subst, suc, sym, ℕ, ◌<◌, ◌∷◌, ◌≡◌, ◌⊎◌}
use Rattle.std.specs.Prelude.{[]}
use Rattle.base_types.specs.declared.ids.HostId.{HostId}
use Rattle.base_types.specs.declared.ids.Node.{Node}
use Rattle.base_types.specs.declared.ids.Node.TheVariants.{Host, Server}
use Rattle.base_types.specs.declared.ids.ServerId.{ServerId}
use Rattle.tree_answers.specs.declared.tree.Tree.{Tree}
use Rattle.message_types.specs.declared.giving.Give.{Give}
use Rattle.message_types.specs.declared.message.Body.{Body}
use Rattle.message_types.specs.declared.message.Body.TheVariants.{Bye, Reclaimed}
use Rattle.message_types.specs.declared.message.Message.{Message}
use Rattle.script_lines.specs.declared.script.Script.{Script}
use Rattle.token_types.specs.declared.token.Token.{Token}
use Rattle.token_types.specs.declared.token.TokenId.{TokenId}
use Rattle.run_answered.proofs.Back.{back_admitting, back_deciding, later, on_written}
use Rattle.run_answered.proofs.Stopping.{stopped_none}
use Rattle.run_answered.proofs.Byes.{HasEnded, SomeWelcome, asking_welcome, bye_step, changing_welcome}
use Rattle.run_answered.proofs.ServerStep.{step_on}
use Rattle.run_answered.proofs.World.{TookIt, heard}
use Rattle.run_answered.proofs.Endings.{GivesName, gives_name}
use Rattle.run_answered.specs.Answered.{EndedRunsLeaveNoneOpen}
use Rattle.run_rules.specs.Doings.{Doing, HeardNow, IsApplied, SentNow, SentTo, after_admitting, after_cause}
use Rattle.run_rules.specs.Doings.{after_deciding, after_step, deciding, doings_of, epoch, sending}
use Rattle.run_rules.specs.Doings.Doing.{Gets}
use Rattle.run_rules.specs.Doings.Doing.{BeginsEpoch, Flushes, Reserves, Sent, Took}
use Rattle.run_rules.specs.Messages.{HasBye}
use Rattle.run_rules.specs.Messages.{ComesIn, HasGreeted, HasSaid, HasStopped, IsWelcome, epoch_at, home, stay_of}
use Rattle.run_rules.specs.Past.{In, appended}
use Rattle.run_rules.specs.Runs.{StepMeets, StepsMeet, firsts_of, past_of}
use Rattle.run_rules.specs.ServerMay.{ServerMay}
use Rattle.run_rules.specs.Steps.{steps_of_host, steps_of_server}
use Rattle.run_rules.specs.Tokens.{Held, IsKnown, IsOpen, Made, NoneOpen, Uses, number_of}
use Rattle.message_types.specs.declared.telling.Bring.{Bring}
use Rattle.run_rules.specs.declared.step.Asked.{Asked}
use Rattle.message_types.specs.declared.message.Body.TheVariants.{Gone}
use Rattle.run_contents.specs.Steps.{HostRun}
use Rattle.run_tokens.proofs.Words.{acts_after, if_host, if_server, own_after}
use Rattle.run_rules.specs.declared.step.Cause.{Cause}
use Rattle.run_rules.specs.declared.step.Cause.TheVariants.{End, Evict, Flushed, Freight, Lapse, Line, Message as Came}
use Rattle.run_rules.specs.declared.step.Cause.TheVariants.{Restart}
use Rattle.run_tokens.proofs.Ships.{once_ships}
use Rattle.run_rules.specs.Doings.{after_sending}
use Rattle.run_rules.specs.declared.step.Step.{Step}

-- a server took this
abbrev pub TookEver : List Doing → HostId → Body → Type 0
TookEver S h b = (e : ℕ) × (n : ℕ) × TookIt S h e n b

-- a server that has welcomed a host was greeted by it
welcome_greeted : (A : List Step) (v : ServerId) → IsWelcome A v → HasGreeted A v
welcome_greeted [] v w = elim w [ ]
welcome_greeted (s ∷ A) v (inl w) = let g = w.0 in (g.0, g.1, inr g.2)
welcome_greeted (s ∷ A) v (inr w) = let g = welcome_greeted A v w in (g.0, g.1, inr g.2)

-- what a server has sent has its cause
pub record HasCauses (S : List Doing) : Type 0 where
  pub byes : (h : HostId) (e n : ℕ) → SentTo S h e n Bye → TookEver S h Bye

module _ (h : HostId) (e n : ℕ) (b : Body) where
  split_sending : (ms : List Message) (S : List Doing) → SentTo (appended (sending ms) S) h e n b
      → SentTo S h e n b ⊎ ((m : Message) × In m ms × (m.host ≡ h) × (m.body ≡ b))
  split_sending [] S o = inl o
  split_sending (m ∷ ms) S o = elim (split_sending ms (Sent m.host m.epoch m.moves m.body ∷ S) o) [
    | inr k ↦ inr (k.0, inr k.1, k.2, k.3)
    | inl one ↦ elim one [
      | inr old ↦ inl old
      | inl q ↦ (
          let host : m.host ≡ h = cc in
          let body : m.body ≡ b = cc in
          inr (m, inl refl, host, body)
          )
    ]
  ]

  cause_back : (c : Cause) (S : List Doing) → SentTo (after_cause c S) h e n b → SentTo S h e n b
  cause_back (Came m) S (inl q) = absurd (let z : Took m.host m.epoch m.moves m.body ≡ Sent h e n b = q in cc)
  cause_back (Came m) S (inr o) = o
  cause_back (Restart line) S (inl q) = absurd (let z : BeginsEpoch (suc (epoch S)) ≡ Sent h e n b = q in cc)
  cause_back (Restart line) S (inr o) = o
  cause_back Flushed S (inl q) = absurd (let z : Flushes ≡ Sent h e n b = q in cc)
  cause_back Flushed S (inr o) = o
  cause_back (Line line) S o = o
  cause_back Lapse S o = o
  cause_back Evict S o = o
  cause_back (Freight freight) S (inl q) = absurd (let z : Gets freight.server freight.moves freight.body ≡ Sent h e n b = q in cc)
  cause_back (Freight freight) S (inr o) = o
  cause_back End S o = o

  sent_split : (s : Step) (S : List Doing) → SentTo (after_step s S) h e n b → SentTo S h e n b ⊎ SentNow s h b
  sent_split s S (inl q) = absurd (let z : Reserves s.reserved ≡ Sent h e n b = q in cc)
  sent_split s S (inr o) = elim (split_sending s.sent (after_admitting s S)
      (once_ships (λ before a. a ≡ Sent h e n b) (λ T to k c q. cc) s.shipped (after_sending s S) o)) [
        | inr k ↦ inr k
        | inl old ↦ inl (cause_back s.cause S
            (back_deciding (λ before a. a ≡ Sent h e n b) (λ before w q. cc) (λ before w q. cc) (λ before w q. cc) s.applied
            (after_cause s.cause S)
            (back_admitting (λ before a. a ≡ Sent h e n b) (λ before g ts q. cc) s.admitted (after_deciding s S) old)))
      ]

-- what a step hears it takes
heard_now : (s : Step) (S : List Doing) (h : HostId) (b : Body) → HeardNow s h b → TookEver (after_cause s.cause S) h b
heard_now s S h b (m, cause, host, body) = (
  m.epoch,
  m.moves,
  subst (λ (c : Cause). TookIt (after_cause c S) h m.epoch m.moves b) (sym cause)
      (inl (λ i. Took (host i) m.epoch m.moves (body i))),
)

after_took : (s : Step) (S : List Doing) (h : HostId) (b : Body) → TookEver (after_deciding s S) h b
    → TookEver (after_step s S) h b
after_took s S h b (e, n, o) = (e, n, on_written (λ before a. a ≡ Took h e n b) s S o)

cause_took : (s : Step) (S : List Doing) (h : HostId) (b : Body) → TookEver (after_cause s.cause S) h b
    → TookEver (after_deciding s S) h b
cause_took s S h b (e, n, o) =
    (e, n, later (λ before a. a ≡ Took h e n b) (deciding s.applied) (after_cause s.cause S) o)

old_took : (s : Step) (S : List Doing) (h : HostId) (b : Body) → TookEver S h b → TookEver (after_step s S) h b
old_took s S h b (e, n, o) = (e, n, step_on (λ before a. a ≡ Took h e n b) s S o)

causes_step : (script : Script) (start : Tree) (v : ServerId) (steps : List Step) (S : List Doing) (s : Step)
    → ServerMay script start v steps S s → HasCauses S → HasCauses (after_step s S)
causes_step script start v steps S s m old = record {
  byes = λ h e n sent. elim (sent_split h e n Bye s S sent) [
    | inl was ↦ old_took s S h Bye (old.byes h e n was)
    | inr now ↦ after_took s S h Bye (cause_took s S h Bye (heard_now s S h Bye (m.answers.bye_only h now).0))
  ];
}

module _ (script : Script) (start : Tree) (firsts : ServerId → ℕ) (real : (v : ServerId) → 0 < firsts v) where
  causes_at : (k : Node) (past : List Step) (s : Step) → StepMeets script start firsts k past s
      → ((v : ServerId) → HasCauses (doings_of (firsts v) v past)) → (v : ServerId)
      → HasCauses (acts_after v k s (doings_of (firsts v) v past))
  causes_at (Host k) past s m old v = old v
  causes_at (Server k) past s m old v =
      if_server HasCauses k v (after_step s (doings_of (firsts v) v past)) (doings_of (firsts v) v past)
      (λ e. subst (λ (w : ServerId). HasCauses (after_step s (doings_of (firsts w) w past))) e
      (causes_step script start k (steps_of_server k past) (doings_of (firsts k) k past) s m.0 (old k))) (old v)

  pub all_causes : (past : List Step) → StepsMeet script start firsts past → (v : ServerId)
      → HasCauses (doings_of (firsts v) v past)
  all_causes [] run v = record {
    byes = λ h e n sent. elim sent [
      | inl q ↦ absurd (let z : BeginsEpoch (firsts v) ≡ Sent h e n Bye = q in cc)
      | inr o ↦ elim o [ ]
    ];
  }
  all_causes (s ∷ past) run v = causes_at s.node past s run.1.0 (all_causes past run.0) v

  module _ (h : HostId) where
    -- of a message that comes to the host
    sent_of : (past : List Step) (s : Step) → StepMeets script start firsts (Host h) past s → (u : ServerId) (e k : ℕ)
        (b : Body) → ComesIn s u e k b → SentTo (doings_of (firsts u) u past) h e k b
    sent_of past s met u e k b (m, cause, server, epoch_is, moves, body) =
        let sent = (met.1 m cause).2 in
        subst (λ (y : ServerId × ℕ × ℕ × Body). SentTo (doings_of (firsts y.0) y.0 past) h y.1 y.2 y.3)
        (λ i. (server i, epoch_is i, moves i, body i)) sent

    says_on : (A : List Step) (s : Step) (v : ServerId) → HasSaid A v Bye → HasSaid (s ∷ A) v Bye
    says_on A s v g = (g.0, g.1, inr g.2)

    -- a server whose Bye has come was said Bye
    bye_at : (k : Node) (past : List Step) (s : Step) → StepsMeet script start firsts past
        → StepMeets script start firsts k past s → (v : ServerId)
        → (HasBye (steps_of_host h past) v → HasSaid (steps_of_host h past) v Bye)
        → HasBye (own_after h k s (steps_of_host h past)) v → HasSaid (own_after h k s (steps_of_host h past)) v Bye
    bye_at (Server k) past s run m v old = old
    bye_at (Host k) past s run m v old =
        if_host (λ L. HasBye L v → HasSaid L v Bye) k h (s ∷ steps_of_host h past) (steps_of_host h past) mine old
      where
        mine : k ≡ h → HasBye (s ∷ steps_of_host h past) v → HasSaid (s ∷ steps_of_host h past) v Bye
        mine same (inr w) = says_on (steps_of_host h past) s v (old w)
        mine same (inl (e, n, comes)) =
            let met = subst (λ (g : HostId). StepMeets script start firsts (Host g) past s) same m in
            let took = (all_causes past run v).byes h e n (sent_of past s met v e n Bye comes) in
            says_on (steps_of_host h past) s v
            (took.0, took.1, heard script start firsts real h took.0 took.1 Bye past run v took.2)

    pub bye_said : (past : List Step) → StepsMeet script start firsts past → (v : ServerId)
        → HasBye (steps_of_host h past) v → HasSaid (steps_of_host h past) v Bye
    bye_said [] run v w = elim w [ ]
    bye_said (s ∷ past) run v w = bye_at s.node past s run.0 run.1.0 v (bye_said past run.0 v) w

    -- what a step makes isn't known as applied
    new_unknown : (past : List Step) (s : Step) → StepsMeet script start firsts past
        → (met : StepMeets script start firsts (Host h) past s) → (g : Give) → In g s.made
        → IsKnown (s ∷ steps_of_host h past) g → ⊥
    new_unknown past s run met g i known = elim known [
      | inl (given, inl about) ↦ fresh (home g.fid.fileset)
          (((whole script start firsts real past run).at (home g.fid.fileset)).served.gones h _ _ (number_of g)
          (sent_of past s met (home g.fid.fileset) (epoch_at (steps_of_host h past) (home g.fid.fileset)) 0
          (Gone (number_of g))
          about))
      | inl (given, inr (u, answer, comes, j)) ↦ fresh u
          (((whole script start firsts real past run).at u).served.reclaimed h _ _ answer (number_of g)
          (sent_of past s met u (epoch_at (steps_of_host h past) u) 0 (Reclaimed answer) comes) j)
      | inr old ↦ fresh (home g.fid.fileset)
          ((((whole script start firsts real past run).at (home g.fid.fileset)).link h).known (number_of g) refl old)
    ]
      where
        fresh : (v : ServerId) → IsApplied v (doings_of (firsts v) v past) h (number_of g) → ⊥
        fresh v at =
            let k = (((whole script start firsts real past run).at v).link h).applied_made (number_of g) at in
            let lt = met.0.tokens.makes_new g k.0 i k.1 k.2 in
            let le = k.3 in
            omega (arith, lt, le)

    ended_at : (k : Node) (past : List Step) (s : Step) → StepsMeet script start firsts past
        → StepMeets script start firsts k past s → (v : ServerId)
        → (HasSaid (steps_of_host h past) v Bye → HasEnded script h (steps_of_host h past))
        → HasSaid (own_after h k s (steps_of_host h past)) v Bye
        → HasEnded script h (own_after h k s (steps_of_host h past))
    ended_at (Server k) past s run m v old = old
    ended_at (Host k) past s run m v old =
        if_host (λ L. HasSaid L v Bye → HasEnded script h L) k h (s ∷ steps_of_host h past) (steps_of_host h past)
        (λ same. (
        let met = subst (λ (g : HostId). StepMeets script start firsts (Host g) past s) same m in
        bye_step script h (steps_of_host h past) s (own_run script start firsts past run h, met.0)
        (new_unknown past s run met) ((whole script start firsts real past run).alone h).bye_held v old
        )) old

    pub bye_ended : (past : List Step) → StepsMeet script start firsts past → (v : ServerId)
        → HasSaid (steps_of_host h past) v Bye → HasEnded script h (steps_of_host h past)
    bye_ended [] run v said = elim said.2 [ ]
    bye_ended (s ∷ past) run v said = ended_at s.node past s run.0 run.1.0 v (bye_ended past run.0 v) said

  -- a give-back that names a token was of one that a server granted
  module _ (h : HostId) where
    uses_welcome : (A : List Step) (s : Step) → HostRun script h A → (w : Bring) → Uses A s w → SomeWelcome script h A
    uses_welcome A s run w (inl (grant, about, is, asking), above, none) =
        asking_welcome script h A run w.fid.fileset w.number asking
    uses_welcome A s run w (inr (done, about, is, changing, lone), above, none) =
        changing_welcome script h A run (stay_of A w.fid.fileset).server done.fileset w.number changing

    held_welcome : (A : List Step) → HostRun script h A → (t : Token) → Held A t → SomeWelcome script h A
    held_welcome [] run t held = elim held [ ]
    held_welcome (s ∷ A) run t held = elim held.0 [
      | inl i ↦ (
          let k = run.1.tokens.takes t i in
          let w = uses_welcome A s run.0 k.0 k.1 in (w.0, inr w.1)
          )
      | inr old ↦ (let w = held_welcome A run.0 t old in (w.0, inr w.1))
    ]

    give_welcome : (A : List Step) → HostRun script h A → (g : Give) (i : TokenId) → Made A g → In i g.ids
        → SomeWelcome script h A
    give_welcome [] run g i made j = elim made [ ]
    give_welcome (s ∷ A) run g i (inr made) j = let w = give_welcome A run.0 g i made j in (w.0, inr w.1)
    give_welcome (s ∷ A) run g i (inl now) j =
        let k = run.1.tokens.makes g i now j in
        elim k.1 [
          | inl taken ↦ (
              let u = run.1.tokens.takes k.0 taken in
              let w = uses_welcome A s run.0 u.0 u.1 in (w.0, inr w.1)
              )
          | inr held ↦ (let w = held_welcome A run.0 k.0 held in (w.0, inr w.1))
        ]

    named_welcome : (A : List Step) → HostRun script h A → (g : Give) → Made A g → (g.ids ≡ [] → ⊥)
        → SomeWelcome script h A
    named_welcome A run g made some = go g.ids refl
      where
        go : (ids : List TokenId) → g.ids ≡ ids → SomeWelcome script h A
        go [] e = absurd (some e)
        go (i ∷ ids) e = give_welcome A run g i made (subst (In i) (sym e) (inl refl))

    -- a host with an open call has been welcomed, or has greeted a server
    open_welcome : (A : List Step) → HostRun script h A → ((g : Give) → Made A g → g.ids ≡ [] → ⊥) → (x : Asked)
        → IsOpen A x → (HasStopped A → ⊥) → SomeWelcome script h A ⊎ ((v : ServerId) × HasGreeted A v)
    open_welcome [] run names x o live = elim o [ ]
    open_welcome (s ∷ A) run names x o live = elim (run.1.asks.asks x o live) [
      | inl asking ↦ inl (asking_welcome script h (s ∷ A) run asking.0 asking.1 asking.2)
      | inr rest ↦ elim rest [
        | inl c ↦ inl (changing_welcome script h (s ∷ A) run c.0 c.1 c.2 c.3)
        | inr more ↦ elim more [
          | inl awaits ↦ elim awaits [
            | inl g ↦ (let k = g.2 in inl (named_welcome (s ∷ A) run k.0 k.1 (names k.0 k.1)))
            | inr g ↦ (let k = g.1 in inl (named_welcome (s ∷ A) run k.0 k.1 (names k.0 k.1)))
          ]
          | inr greeted ↦ inr (greeted.0, greeted.2)
        ]
      ]
    ]

pub ended_runs_leave_none_open : EndedRunsLeaveNoneOpen
ended_runs_leave_none_open script journal run ended host part =
    elim (ended.hosts host part).1 [
      | inl stopped ↦ stopped_none script host (steps_of_host host (past_of journal)) ran stopped
      | inr byes ↦ closed byes
    ]
  where
    ran : HostRun script host (steps_of_host host (past_of journal))
    ran = own_run script run.start (firsts_of journal) (past_of journal) run.steps host

    names : GivesName (past_of journal)
    names = gives_name script run.start (firsts_of journal) (past_of journal) run.steps

    closed : ((v : ServerId) → HasGreeted (steps_of_host host (past_of journal)) v
        → HasBye (steps_of_host host (past_of journal)) v)
        → NoneOpen (steps_of_host host (past_of journal))
    closed byes x o = elim who [
      | inl w ↦ greeted w.0
          (welcome_greeted (steps_of_host host (past_of journal)) w.0 w.1)
      | inr g ↦ greeted g.0 g.1
    ]
      where
        who : SomeWelcome script host (steps_of_host host (past_of journal))
            ⊎ ((v : ServerId) × HasGreeted (steps_of_host host (past_of journal)) v)
        who =
            open_welcome script run.start (firsts_of journal) (λ v. from_one _) host
            (steps_of_host host (past_of journal)) ran
            (names host) x o (λ st. stopped_none script host (steps_of_host host (past_of journal)) ran st x o)

        greeted : (v : ServerId) → HasGreeted (steps_of_host host (past_of journal)) v → ⊥
        greeted v g =
            (bye_ended script run.start (firsts_of journal) (λ v. from_one _) host (past_of journal) run.steps v
            (bye_said script run.start (firsts_of journal) (λ v. from_one _) host (past_of journal) run.steps v
            (byes v g))).0 x o
