-- What a server says by Reclaimed, and what a host has learnt by it: a host that has an epoch at a server waits for the
-- answer to a claim, or a Reclaimed of that epoch has come.
use Rattle.std.proofs.Common.{Bool, List, [], ap, arith, false, inl, inr, refl, subst, sym, true, ℕ}
use Rattle.std.proofs.Common.{◌<◌, ◌∙◌, ◌∷◌, ◌==◌, ◌≡◌, ◌≤◌, ◌⊎◌}
use Rattle.base_types.specs.declared.ids.HostId.{HostId}
use Rattle.base_types.specs.declared.ids.Node.{Node}
use Rattle.base_types.specs.declared.ids.Node.TheVariants.{Host, Server}
use Rattle.base_types.specs.declared.ids.ServerId.{ServerId}
use Rattle.tree_answers.specs.declared.tree.Tree.{Tree}
use Rattle.token_types.specs.declared.token.Token.{Token}
use Rattle.script_lines.specs.declared.script.Script.{Script}
use Rattle.message_types.specs.Soundness.{HasMoves, IsSound}
use Rattle.message_types.specs.declared.giving.Reclaimed.{Reclaimed as ReclaimedOf}
use Rattle.message_types.specs.declared.message.Body.{Body}
use Rattle.message_types.specs.declared.message.Body.TheVariants.{Hello, Reclaimed, Restarted}
use Rattle.message_types.specs.declared.message.Message.{Message}
use Rattle.run_examples.proofs.ServerWords.{listed as is_listed, listed_is, listed_yes}
use Rattle.run_rules.specs.Doings.{Doing, Enlists, GoesAway, HasGoneAway, HasGoneDown, HasReclaimed, IsLive, Listed}
use Rattle.run_rules.specs.Doings.{ListedNow, SentTo, admitting, after_admitting, after_cause, after_deciding}
use Rattle.run_rules.specs.Doings.{after_step, doings_of, epoch}
use Rattle.run_rules.specs.Doings.Doing.{Admits, BeginsEpoch, Reserves, Took}
use Rattle.run_rules.specs.HostDue.{HostDue}
use Rattle.run_rules.specs.HostMay.{AwaitsReclaimed, ClaimsAt}
use Rattle.run_rules.specs.Messages.{Comes, ComesIn, HasGreeted, IsWelcome, epoch_at, epoch_raised, epoch_raised_by}
use Rattle.run_rules.specs.Past.{Always, In, Once, appended}
use Rattle.run_rules.specs.Runs.{CameToHost, StepDue, StepMeets, StepsMeet}
use Rattle.run_rules.specs.ServerMay.{ServerMay}
use Rattle.run_rules.specs.Steps.{steps_of_host, steps_of_server}
use Rattle.run_rules.specs.declared.applied.Admission.{Admission}
use Rattle.run_rules.specs.declared.step.Cause.{Cause}
use Rattle.run_rules.specs.declared.step.Cause.TheVariants.{Message as Came}
use Rattle.run_rules.specs.declared.step.Step.{Step}
use Rattle.run_tokens.proofs.Law.{Whole, always}
use Rattle.run_tokens.proofs.TokenRun.{token_run}
use Rattle.run_tokens.proofs.Words.{acts_after, epoch_grows, if_host, if_server, own_after, raised_cases}
use Rattle.run_goes_on.proofs.Arriving.{from_cause, step_on}
use Rattle.run_goes_on.proofs.Claiming.{IsOnList, acts_later, own_later, told}
use Rattle.run_goes_on.proofs.Doings.{TookIt, above_first, epoch_after_cause, epoch_step, heard, listed_said, sent_so}
use Rattle.run_goes_on.proofs.Doings.{took_admitting, took_deciding}
use Rattle.run_goes_on.proofs.Grown.{ListedBy, admitted_at, caused_on, each_on, in_admitting, in_cause, in_caused}
use Rattle.run_goes_on.proofs.Grown.{in_sending, listed_admitting, listed_by_step, listed_deciding, sent_split}
use Rattle.run_goes_on.proofs.Positions.{always_back, steps_back}
use Rattle.run_tokens.proofs.Ships.{since_shipped}
use Rattle.run_rules.specs.Doings.{after_sending}
use Rattle.run_goes_on.proofs.Telling.{decide}

-- # Words

abbrev Reclaims : HostId → List Doing → Doing → Type 0
Reclaims h S a = ((tokens : List Token) × (a ≡ Admits h tokens)) ⊎ Enlists S a h

-- who came on the list in this epoch has reclaimed in it
pub listed_reclaims : (S : List Doing) (h : HostId) → ListedNow S h → HasReclaimed S h
listed_reclaims [] h x = elim x [ ]
listed_reclaims (a ∷ S) h (inl x) = inl (inr x)
listed_reclaims (a ∷ S) h (inr x) = inr (listed_reclaims S h x.0, x.1)

-- whose claim a step admits has reclaimed after it
admits_in : (cs : List Admission) (S : List Doing) (c : Admission) → In c cs
    → HasReclaimed (appended (admitting cs) S) c.host
admits_in [] S c i = elim i [ ]
admits_in (x ∷ cs) S c (inl q) =
    subst (λ (y : Admission). HasReclaimed (appended (admitting (x ∷ cs)) S) y.host) (sym q)
    (in_admitting (Reclaims x.host) cs (Admits x.host x.tokens ∷ S) (inl (inl (x.tokens, refl))))
admits_in (x ∷ cs) S c (inr i) = admits_in cs (Admits x.host x.tokens ∷ S) c i

-- what raises an epoch is a Restarted or a Reclaimed
raised_kind : (b : Body) (mine : Bool) (told_of now : ℕ) → now < epoch_raised_by b mine told_of now
    → (b ≡ Restarted) ⊎ ((answer : ReclaimedOf) × (b ≡ Reclaimed answer))
raised_kind Restarted mine told_of now lt = inl refl
raised_kind (Reclaimed answer) mine told_of now lt = inr (answer, refl)
raised_kind _ mine told_of now lt = absurd (omega (arith, lt))

-- # What was said by Reclaimed

-- The host said Hello, and came on the list in no later epoch; the message has no moves; and while the host hasn't gone
-- away, it has reclaimed in the epoch.
pub record SaysReclaimed (host : HostId) (S : List Doing) : Type 0 where
  pub greeted : (e n : ℕ) (a : ReclaimedOf) → SentTo S host e n (Reclaimed a) → (i j : ℕ) × TookIt S host i j Hello
  pub moves : (e n : ℕ) (a : ReclaimedOf) → SentTo S host e n (Reclaimed a) → n ≡ 0
  pub above : (e n : ℕ) (a : ReclaimedOf) → SentTo S host e n (Reclaimed a) → 0 < e
  pub listed : (e n : ℕ) (a : ReclaimedOf) → SentTo S host e n (Reclaimed a) → ListedBy S host e
  pub now : (HasGoneAway S host → ⊥) → (e n : ℕ) (a : ReclaimedOf) → SentTo S host e n (Reclaimed a) → e ≡ epoch S
      → HasReclaimed S host

module _ (script : Script) (start : Tree) (host : HostId) (v : ServerId) (steps : List Step) (S : List Doing) (s : Step)
    (may : ServerMay script start v steps S s) (sound : (m : Message) → In m s.sent → IsSound script.roster m)
    (under : (e n : ℕ) (b : Body) → SentTo S host e n b → e ≤ epoch S) (up : 0 < epoch S) (old : SaysReclaimed host S)
  where
    abbrev caused : List Doing
    caused = after_cause s.cause S

    still : (w : Message) → s.cause ≡ Came w → epoch caused ≡ epoch S
    still w cause = ap (λ (c : Cause). epoch (after_cause c S)) cause

    kept : (w : Message) → s.cause ≡ Came w → HasReclaimed S host → HasReclaimed (after_step s S) host
    kept w cause r = in_caused (Reclaims host) s S (in_cause (Reclaims host) s.cause S (still w cause) r)

    yet : (HasGoneAway (after_step s S) host → ⊥) → HasGoneAway S host → ⊥
    yet stays gone = stays (step_on (λ before x. GoesAway before x host) S s gone)

    heard_now : (w : Message) → s.cause ≡ Came w → w.host ≡ host → w.body ≡ Hello
        → TookIt (after_step s S) host w.epoch w.moves Hello
    heard_now w cause h b =
        from_cause (λ before x. x ≡ Took host w.epoch w.moves Hello) S s
        (subst (λ (c : Cause). TookIt (after_cause c S) host w.epoch w.moves Hello) (sym cause)
        (inl (λ i. Took (h i) w.epoch w.moves (b i))))

    of_listed : Listed S host → (i j : ℕ) × TookIt (after_step s S) host i j Hello
    of_listed l =
        let k = listed_said S host l in (k.0, k.1, step_on (λ before x. x ≡ Took host k.0 k.1 Hello) S s k.2)

    of_admitted : (c : Admission) → In c s.admitted → c.host ≡ host → (i j : ℕ) × TookIt (after_step s S) host i j Hello
    of_admitted c i is =
        let front = admitted_at v s.admitted (after_deciding s S) may.tokens.admits c i in
        let k = listed_said (appended (admitting front.0) (after_deciding s S)) host
        (subst (Listed (appended (admitting front.0) (after_deciding s S))) is front.1.live.0) in (
          k.0,
          k.1,
          from_cause (λ before x. x ≡ Took host k.0 k.1 Hello) S s
              (took_deciding host k.0 k.1 Hello s.applied caused
              (took_admitting host k.0 k.1 Hello front.0 (after_deciding s S) k.2)),
        )

    -- a Hello that it answers so puts the host on the list, or the host came on it in this epoch
    by_hello : (HasGoneAway (after_step s S) host → ⊥) → (w : Message) → s.cause ≡ Came w → w.host ≡ host
        → w.body ≡ Hello → (HasGoneDown S host → ⊥) → ((IsLive S host → ⊥) ⊎ ListedNow S host)
        → HasReclaimed (after_step s S) host
    by_hello stays w cause h b up (inr listed) = kept w cause (listed_reclaims S host listed)
    by_hello stays w cause h b up (inl dead) =
        in_caused (Reclaims host) s S
        (subst (λ (c : Cause). HasReclaimed (after_cause c S) host) (sym cause)
        (inl (inr (inl ((w.epoch, w.moves, λ i. Took (h i) w.epoch w.moves (b i)), new, up), new))))
      where
        new : Listed S host → ⊥
        new l = dead (l, yet stays)

    by_claim : (c : Admission) → In c s.admitted → c.host ≡ host → HasReclaimed (after_step s S) host
    by_claim c i is =
        inr (
          since_shipped (Reclaims host) s.shipped (after_sending s S) (in_sending (Reclaims host) s.sent (after_admitting s S)
              (subst (HasReclaimed (after_admitting s S)) is (admits_in s.admitted (after_deciding s S) c i))),
          λ k. (let z : Reserves s.reserved ≡ BeginsEpoch k.0 = k.1 in cc),
        )

    -- it is on the list then
    list_on : Listed S host → Listed (after_step s S) host
    list_on l = each_on (λ (T : List Doing). Listed T host) (λ T a k. inr k) s S l

    list_caused : Listed caused host → Listed (after_step s S) host
    list_caused l = caused_on (λ (T : List Doing). Listed T host) (λ T a k. inr k) s S l

    list_hello : (w : Message) → s.cause ≡ Came w → w.host ≡ host → w.body ≡ Hello → (HasGoneDown S host → ⊥)
        → Listed (after_step s S) host
    list_hello w cause h b not_down = go (is_listed S host) refl
      where
        go : (c : Bool) → is_listed S host ≡ c → Listed (after_step s S) host
        go true e = list_on (listed_yes S host e)
        go false e =
            list_caused (subst (λ (c : Cause). Listed (after_cause c S) host) (sym cause)
            (inl (
              (w.epoch, w.moves, λ i. Took (h i) w.epoch w.moves (b i)),
              (λ l. (let z : true ≡ false = sym (listed_is S host l) ∙ e in cc)),
              not_down,
            )))

    list_admitted : (c : Admission) → In c s.admitted → c.host ≡ host → Listed (after_step s S) host
    list_admitted c i is =
        let front = admitted_at v s.admitted (after_deciding s S) may.tokens.admits c i in
        list_caused (listed_deciding host s.applied caused (listed_admitting host front.0 (after_deciding s S)
        (subst (Listed (appended (admitting front.0) (after_deciding s S))) is front.1.live.0)))

    sent_at : (m : Message) → In m s.sent → (m.epoch ≡ epoch caused)
    sent_at m i = (sent_so v s S may.tokens m i).2

    pub says_step : SaysReclaimed host (after_step s S)
    says_step = record {
      above = λ e n a sent. elim (sent_split host e n (Reclaimed a) s S sent) [
        | inl was ↦ old.above e n a was
        | inr (m, i, at, ep, mv, body) ↦ (
            let is = sent_at m i in
            let grows = epoch_after_cause s S in
            let same : m.epoch ≡ e = ep in
            let above_zero = up in
            omega (arith, is, grows, same, above_zero)
            )
      ];
      listed = λ e n a sent. elim (sent_split host e n (Reclaimed a) s S sent) [
        | inl was ↦ listed_by_step host e s S (old.listed e n a was)
        | inr (m, i, at, ep, mv, body) ↦ (
          elim (may.answers.reclaimed_only host a (m, i, at, body)) [
            | inl x ↦ (let h = x.0 in list_hello h.0 h.1 h.2 h.3 x.1)
            | inr (inl c) ↦ list_admitted c.0 c.1 c.2
            | inr (inr c) ↦ list_on c.2.1.0
          ],
          λ now. (
              let is = sent_at m i in
              let same = epoch_step s S in
              let at_e : m.epoch ≡ e = ep in
              omega (arith, is, same, at_e)
              ),
        )
      ];
      greeted = λ e n a sent. elim (sent_split host e n (Reclaimed a) s S sent) [
        | inl was ↦ (let k = old.greeted e n a was in
            (k.0, k.1, step_on (λ before x. x ≡ Took host k.0 k.1 Hello) S s k.2))
        | inr (m, i, at, ep, mv, body) ↦ elim (may.answers.reclaimed_only host a (m, i, at, body)) [
          | inl x ↦ (let h = x.0 in (h.0.epoch, h.0.moves, heard_now h.0 h.1 h.2 h.3))
          | inr (inl c) ↦ of_admitted c.0 c.1 c.2
          | inr (inr c) ↦ of_listed c.2.1.0
        ]
      ];
      moves = λ e n a sent. elim (sent_split host e n (Reclaimed a) s S sent) [
        | inl was ↦ old.moves e n a was
        | inr (m, i, at, ep, mv, body) ↦ sym mv ∙ subst (λ (b : Body). HasMoves b m.moves) body (sound m i).moves
      ];
      now = λ stays e n a sent is. elim (sent_split host e n (Reclaimed a) s S sent) [
        | inl was ↦ (
            let le = under e n (Reclaimed a) was in
            let same = epoch_step s S in
            let grows = epoch_after_cause s S in
            let steady : epoch caused ≡ epoch S = omega (arith, le, is, same, grows) in
            let at : e ≡ epoch S = omega (arith, is, same, steady) in
            in_caused (Reclaims host) s S
            (in_cause (Reclaims host) s.cause S steady (old.now (yet stays) e n a was at))
            )
        | inr (m, i, at, ep, mv, body) ↦ elim (may.answers.reclaimed_only host a (m, i, at, body)) [
          | inl x ↦ (let h = x.0 in by_hello stays h.0 h.1 h.2 h.3 x.1 x.2)
          | inr (inl c) ↦ by_claim c.0 c.1 c.2
          | inr (inr c) ↦ (let t = c.2.0 in kept t.0 t.1 c.3)
        ]
      ];
    }

-- # What a host has learnt

-- a Reclaimed of this epoch came, which then was the host's, and it had greeted the server
abbrev pub HasComeIn : ServerId → ℕ → List Step → Type 0
HasComeIn v e A =
    Once (λ before s. HasGreeted before v × (epoch_at (s ∷ before) v ≡ e)
    × ((answer : ReclaimedOf) × ComesIn s v e 0 (Reclaimed answer))) A

pub is_welcome : (v : ServerId) (e : ℕ) (A : List Step) → HasComeIn v e A → IsWelcome A v
is_welcome v e [] x = elim x [ ]
is_welcome v e (s ∷ A) (inl (greeted, same, (answer, comes))) =
    inl (greeted, (answer, subst (λ (d : ℕ). ComesIn s v d 0 (Reclaimed answer)) (sym same) comes))
is_welcome v e (s ∷ A) (inr x) = inr (is_welcome v e A x)

module _ (script : Script) (start : Tree) (firsts : ServerId → ℕ) (real : (v : ServerId) → 0 < firsts v)
    (run : List Step) (meets : StepsMeet script start firsts run)
    (due : Always (λ before s. StepDue script start firsts s.node before s) run) (host : HostId) (v : ServerId) where
  abbrev own : List Step → List Step
  own past = steps_of_host host past

  abbrev acts : List Step → List Doing
  acts past = doings_of (firsts v) v past

  met : (l p : List Step) → appended l p ≡ run → StepsMeet script start firsts p
  met l p w = steps_back script start firsts l p w meets

  dues : (l p : List Step) → appended l p ≡ run → Always (λ before s. StepDue script start firsts s.node before s) p
  dues l p w =
      always_back (λ before s. StepDue script start firsts s.node before s) l p
      (subst (Always (λ before s. StepDue script start firsts s.node before s)) (sym w) due)

  whole_at : (l p : List Step) → appended l p ≡ run → Whole (λ h. steps_of_host h p) (λ u. doings_of (firsts u) u p)
  whole_at l p w = always firsts p (token_run script start firsts p real (met l p w))

  says_at : (l p : List Step) (s : Step) (k : Node) → appended (s ∷ l) p ≡ run → StepMeets script start firsts k p s
      → SaysReclaimed host (acts p) → SaysReclaimed host (acts_after v k s (acts p))
  says_at l p s (Host k) w m old = old
  says_at l p s (Server k) w m old =
      if_server (SaysReclaimed host) k v (after_step s (acts p)) (acts p)
      (λ same. says_step script start host v (steps_of_server v p) (acts p) s
      (subst (λ (u : ServerId). ServerMay script start u (steps_of_server u p) (doings_of (firsts u) u p) s) same m.0)
      (λ x i. ((met l (s ∷ p) w).1.3 x i).1)
      (λ e n b o. ((whole_at (s ∷ l) p w).at v).served.sent_epoch host e n b o)
      (above_first script start firsts real p v) old) old

  pub says_reclaimed : (l p : List Step) → appended l p ≡ run → SaysReclaimed host (acts p)
  says_reclaimed l [] w = record {
    greeted = λ e n a sent. absurd (unsent e n a sent);
    moves = λ e n a sent. absurd (unsent e n a sent);
    above = λ e n a sent. absurd (unsent e n a sent);
    listed = λ e n a sent. absurd (unsent e n a sent);
    now = λ stays e n a sent is. absurd (unsent e n a sent);
  }
    where
      unsent : (e n : ℕ) (a : ReclaimedOf) → SentTo (BeginsEpoch (firsts v) ∷ []) host e n (Reclaimed a) → ⊥
      unsent e n a (inl q) = cc
      unsent e n a (inr o) = elim o [ ]
  says_reclaimed l (s ∷ p) w =
      says_at l p s s.node w (met l (s ∷ p) w).1.0 (says_reclaimed (s ∷ l) p w)

  greeted_of : (l p : List Step) → appended l p ≡ run → (i j : ℕ) → TookIt (acts p) host i j Hello
      → HasGreeted (own p) v
  greeted_of l p w i j took = (i, j, heard script start firsts real host i j Hello v p (met l p w) took)

  -- a host that has an epoch waits for the answer to a claim, or has had a Reclaimed of the epoch
  abbrev IsAtZero : List Step → Type 0
  IsAtZero A = (HasComeIn v (epoch_at A v) A → ⊥) → (AwaitsReclaimed A v → ⊥) → epoch_at A v ≡ 0

  module _ (l p : List Step) (s : Step) (w : appended (s ∷ l) p ≡ run) (node : s.node ≡ Host host)
      (came : CameToHost firsts host p s) (old : IsAtZero (own p)) where
    sent : (x : Message) → s.cause ≡ Came x → x.server ≡ v → (b : Body) → x.body ≡ b
        → SentTo (acts p) host x.epoch x.moves b
    sent x cause server b body =
        subst (λ (y : ServerId × Body). SentTo (doings_of (firsts y.0) y.0 p) host x.epoch x.moves y.1)
        (λ i. (server i, body i)) (came x cause).2

    greets : (x : Message) (a : ReclaimedOf) → s.cause ≡ Came x → x.server ≡ v → x.body ≡ Reclaimed a
        → HasGreeted (own p) v
    greets x a cause server body =
        let k = (says_reclaimed (s ∷ l) p w).greeted x.epoch x.moves a (sent x cause server (Reclaimed a) body) in
        greeted_of (s ∷ l) p w k.0 k.1 k.2

    module _ (no : HasComeIn v (epoch_at (s ∷ own p) v) (s ∷ own p) → ⊥) (idle : AwaitsReclaimed (s ∷ own p) v → ⊥)
      where
        stays : epoch_at (s ∷ own p) v ≡ epoch_at (own p) v → epoch_at (s ∷ own p) v ≡ 0
        stays same =
            same ∙ old (λ x. no (inr (subst (λ (e : ℕ). HasComeIn v e (own p)) (sym same) x)))
            (λ aw. idle (inr (aw, λ up. omega (arith, same, up)), comes_not))
          where
            comes_not : (answer : ReclaimedOf) → Comes (own p) s v (Reclaimed answer) → ⊥
            comes_not answer (x, cause, server, at, mv, body) =
                no (inl (
                  greets x answer cause server body,
                  refl,
                  (answer, (x, cause, server, at ∙ sym same, mv, body)),
                ))

        raises : epoch_at (own p) v < epoch_at (s ∷ own p) v → ⊥
        raises up = elim (raised_cases s.cause v (epoch_at (own p) v)) [
          | inl same ↦ absurd (omega (arith, same, up))
          | inr f ↦ elim (raised_kind f.by.body (f.by.server.0 == v.0) f.by.epoch (epoch_at (own p) v)
              (subst (λ (c : Cause). epoch_at (own p) v < epoch_raised c v (epoch_at (own p) v)) f.cause up)) [
                | inl restarted ↦ told_of f.by f.cause f.at restarted
                | inr (answer, body) ↦ no (inl (
                  greets f.by answer f.cause f.at body,
                  refl,
                  (answer, (f.by, f.cause, f.at, sym f.epoch, moves_of f.by answer f.cause f.at body, body)),
                ))
              ]
        ]
          where
            moves_of : (x : Message) (a : ReclaimedOf) → s.cause ≡ Came x → x.server ≡ v → x.body ≡ Reclaimed a
                → x.moves ≡ 0
            moves_of x a cause server body =
                (says_reclaimed (s ∷ l) p w).moves x.epoch x.moves a (sent x cause server (Reclaimed a) body)

            told_of : (x : Message) → s.cause ≡ Came x → x.server ≡ v → x.body ≡ Restarted → ⊥
            told_of x cause server body =
                idle (
                  inl claims,
                  λ answer comes. (
                      let z : Came x ≡ Came comes.0 = sym cause ∙ comes.1 in
                      let one : x ≡ comes.0 = cc in
                      let both : Restarted ≡ Reclaimed answer =
                      sym body ∙ (ap (λ (y : Message). y.body) one ∙ comes.5) in
                      cc
                      ),
                )
              where
                greeted : (i j : ℕ) × TookIt (acts p) host i j Hello
                greeted = listed_said (acts p) host
                    (told script start firsts host v p (met (s ∷ l) p w) (dues (s ∷ l) p w) x.epoch x.moves
                    (sent x cause server Restarted body)).0

                host_due : HostDue script host (own p) s
                host_due =
                    subst (λ (k : Node). StepDue script start firsts k p s) node (dues l (s ∷ p) w).1

                claims : ClaimsAt s v
                claims = host_due.repeats.restarted_claims v (
                  greeted_of (s ∷ l) p w greeted.0 greeted.1 greeted.2,
                  up,
                  (
                    x.epoch,
                    x.moves,
                    (x, cause, server, refl, refl, body),
                  ),
                )

        zero_then : epoch_at (s ∷ own p) v ≡ 0
        zero_then = elim (decide (epoch_at (own p) v) (epoch_at (s ∷ own p) v)) [
          | inl up ↦ absurd (raises up)
          | inr le ↦ stays (let grows = epoch_grows (own p) s v in omega (arith, le, grows))
        ]

  at_zero : (l p : List Step) → appended l p ≡ run → IsAtZero (own p)
  at_zero l [] w = λ no idle. refl
  at_zero l (s ∷ p) w = by s.node refl (met l (s ∷ p) w).1.0 (at_zero (s ∷ l) p w)
    where
      by : (k : Node) → s.node ≡ k → StepMeets script start firsts k p s → IsAtZero (own p)
          → IsAtZero (own_after host k s (own p))
      by (Server k) at m old = old
      by (Host k) at m old =
          if_host IsAtZero k host (s ∷ own p) (own p)
          (λ same no idle. zero_then l p s w (at ∙ ap Host same)
          (subst (λ (h : HostId). CameToHost firsts h p s) same m.1) old no idle) old

  pub zero_at_end : IsAtZero (own run)
  zero_at_end = at_zero [] run refl

  -- a host that is welcome is on the list, and came on it in no later epoch than its own
  welcomed : (l p : List Step) (s : Step) → appended (s ∷ l) p ≡ run → CameToHost firsts host p s
      → (IsWelcome (own p) v → IsOnList host v (own p) (acts p)) → IsWelcome (s ∷ own p) v
      → IsOnList host v (s ∷ own p) (acts p)
  welcomed l p s w came old (inr x) = own_later host v (own p) (acts p) s (old x)
  welcomed l p s w came old (inl (greeted, (answer, (y, cause, server, ep, mv, body)))) =
      let says = says_reclaimed (s ∷ l) p w in
      let above = says.above y.epoch y.moves answer sent in
      record {
        listed = subst (ListedBy (acts p) host) ep (says.listed y.epoch y.moves answer sent);
        above = omega (arith, above, ep);
      }
    where
      sent : SentTo (acts p) host y.epoch y.moves (Reclaimed answer)
      sent =
          subst (λ (z : ServerId × Body). SentTo (doings_of (firsts z.0) z.0 p) host y.epoch y.moves z.1)
          (λ i. (server i, body i)) (came y cause).2

  pub on_list : (l p : List Step) → appended l p ≡ run → IsWelcome (own p) v → IsOnList host v (own p) (acts p)
  on_list l [] w x = elim x [ ]
  on_list l (s ∷ p) w x = by s.node refl (met l (s ∷ p) w).1.0 (on_list (s ∷ l) p w) x
    where
      by : (k : Node) → s.node ≡ k → StepMeets script start firsts k p s
          → (IsWelcome (own p) v → IsOnList host v (own p) (acts p)) → IsWelcome (own_after host k s (own p)) v
          → IsOnList host v (own_after host k s (own p)) (acts_after v k s (acts p))
      by (Server k) at m old y =
          if_server (λ (S : List Doing). IsOnList host v (own p) S) k v (after_step s (acts p)) (acts p)
          (λ same. acts_later host v (own p) (acts p) s (old y)) (old y)
      by (Host k) at m old y =
          if_host (λ (L : List Step). IsWelcome L v → IsOnList host v L (acts p)) k host (s ∷ own p) (own p)
          (λ same z. welcomed l p s w (subst (λ (h : HostId). CameToHost firsts h p s) same m.1) old z) old y
