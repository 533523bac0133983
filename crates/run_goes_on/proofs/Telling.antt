-- A host that is live at a server, and whose epoch there stays as it is from a step on: the server tells it of no
-- restart any more. So it is from the last step on in which the host says something that is outstanding, where each
-- lapse and each restart that it hears of makes it say that again.
use Rattle.std.proofs.Common.{Bool, List, [], ap, arith, false, if◌then◌else◌, inl, inr, length, nat_lt, refl, subst}
use Rattle.std.proofs.Common.{suc, sym, true, zero, ℕ, ◌&&◌, ◌<◌, ◌==◌, ◌∙◌, ◌∷◌, ◌≡◌, ◌≤◌, ◌⊎◌}
use Rattle.std.proofs.lemmas.Bool.{and_parts, eq-eqb, eqb-true, ltb-false, ltb-true}
use Rattle.base_types.specs.declared.ids.HostId.{HostId}
use Rattle.base_types.specs.declared.ids.Node.{Node}
use Rattle.base_types.specs.declared.ids.Node.TheVariants.{Host, Server}
use Rattle.base_types.specs.declared.ids.ServerId.{ServerId}
use Rattle.tree_answers.specs.declared.tree.Tree.{Tree}
use Rattle.script_lines.specs.declared.script.Script.{Script}
use Rattle.message_types.specs.declared.message.Body.{Body}
use Rattle.message_types.specs.declared.message.Body.TheVariants.{Reclaim, Reclaimed, Restarted}
use Rattle.message_types.specs.declared.message.Direction.{Direction}
use Rattle.message_types.specs.declared.message.Direction.TheVariants.{ToHost, ToServer}
use Rattle.message_types.specs.declared.message.Message.{Message}
use Rattle.run_rules.specs.Doings.{Doing, HasReclaimed, IsLive, ListedNow, SentNow, after_cause, doings_of}
use Rattle.run_rules.specs.Doings.{epoch}
use Rattle.run_rules.specs.HostMay.{LearnsRestart}
use Rattle.run_rules.specs.Messages.{HasGreeted, HasStopped, epoch_at, epoch_raised, epoch_raised_by}
use Rattle.run_rules.specs.Past.{Always, In, appended}
use Rattle.run_rules.specs.Plans.{receiver_by, resender, resender_by}
use Rattle.run_rules.specs.Runs.{IsFrom, StepDue, StepMeets, StepsMeet}
use Rattle.run_rules.specs.ServerDue.{ServerDue}
use Rattle.run_rules.specs.ServerMay.{ServerMay}
use Rattle.run_rules.specs.Steps.{steps_of_host, steps_of_server}
use Rattle.run_rules.specs.declared.step.Cause.{Cause}
use Rattle.run_rules.specs.declared.step.Cause.TheVariants.{Lapse, Message as Came}
use Rattle.run_rules.specs.declared.step.Step.{Step}
use Rattle.run_tokens.proofs.Law.{Whole}
use Rattle.run_tokens.proofs.Words.{epoch_grows, if_host, own_after, raised_cases}
use Rattle.run_goes_on.proofs.Arriving.{due_at, meets_at, whole_at}
use Rattle.run_goes_on.proofs.Doings.{Knows, epoch_after_cause, epoch_after_step, epoch_step}
use Rattle.run_goes_on.proofs.Doings.{knows, reclaimed_by, sent_so}
use Rattle.run_goes_on.proofs.Positions.{Cut, cut, doings_on, host_steps, own_on, server_doings}
use Rattle.run_goes_on.proofs.Posted.{comes_of}
use Rattle.run_goes_on.specs.Rest.{AllIsOver, IsStopped, IsTakenIn, LapsesIn, NoneIsHeld}

-- # Words

pub decide : (x y : ℕ) → (x < y) ⊎ (y ≤ x)
decide x y = go (nat_lt x y) refl
  where
    go : (b : Bool) → nat_lt x y ≡ b → (x < y) ⊎ (y ≤ x)
    go true e = inl (ltb-true x y e)
    go false e = inr (ltb-false x y e)

-- what raises an epoch is a Restarted, or it was 0
raised_by : (b : Body) (mine : Bool) (told now : ℕ) → now < epoch_raised_by b mine told now
    → (b ≡ Restarted) ⊎ (now ≡ 0)
raised_by Restarted mine told now lt = inl refl
raised_by (Reclaimed answer) mine told now lt = go (mine && (now == 0)) refl lt
  where
    go : (c : Bool) → (mine && (now == 0)) ≡ c → now < (if c then told else now)
        → (Reclaimed answer ≡ Restarted) ⊎ (now ≡ 0)
    go true e up = inr (eqb-true now 0 (and_parts mine (now == 0) e).1)
    go false e up = absurd (omega (arith, up))
raised_by _ mine told now lt = absurd (omega (arith, lt))

-- a Restarted raises it to its own, at least
restarted_raises : (mine : Bool) (told now : ℕ) → mine ≡ true → told ≤ epoch_raised_by Restarted mine told now
restarted_raises false told now e = absurd (cc)
restarted_raises true told now e = go (nat_lt now told) refl
  where
    go : (c : Bool) → nat_lt now told ≡ c → told ≤ (if c then told else now)
    go true q = omega arith
    go false q = ltb-false now told q

pub restarted_up : (v : ServerId) (A : List Step) (u : Step) (m : Message) → u.cause ≡ Came m → m.server ≡ v
    → m.body ≡ Restarted → m.epoch ≤ epoch_at (u ∷ A) v
restarted_up v A u m cause server body =
    subst (λ (c : Cause). m.epoch ≤ epoch_raised c v (epoch_at A v)) (sym cause)
    (subst (λ (b : Body). m.epoch ≤ epoch_raised_by b (m.server.0 == v.0) m.epoch (epoch_at A v)) (sym body)
    (restarted_raises (m.server.0 == v.0) m.epoch (epoch_at A v)
    (eq-eqb m.server.0 v.0 (ap (λ (y : ServerId). y.0) server))))

-- what raises the epoch of a host that has one is a Restarted
pub learns_by : (A : List Step) (t : Step) (v : ServerId) → HasGreeted A v → 0 < epoch_at A v
    → epoch_at A v < epoch_at (t ∷ A) v → LearnsRestart A t v
learns_by A t v greeted above up = elim (raised_cases t.cause v (epoch_at A v)) [
  | inl same ↦ absurd (omega (arith, same, up))
  | inr f ↦ elim (raised_by f.by.body (f.by.server.0 == v.0) f.by.epoch (epoch_at A v)
      (subst (λ (x : Cause). epoch_at A v < epoch_raised x v (epoch_at A v)) f.cause up)) [
        | inl restarted ↦ (greeted, up, (f.by.epoch, f.by.moves, (f.by, f.cause, f.at, refl, refl, restarted)))
        | inr zero_now ↦ absurd (omega (arith, above, zero_now))
      ]
]

-- # A place in a run, from a step on: at most so many steps come after it; the host's epoch has risen so far, at least;
-- and what is so for good since then is so
pub record After (Mark : List Step → Type 0) (run later : List Step) (e0 : ℕ) (host : HostId) (v : ServerId)
    (l p : List Step) : Type 0 where
  pub whole : appended l p ≡ run
  pub short : length l ≤ length later
  pub above : e0 ≤ epoch_at (steps_of_host host p) v
  pub mark : Mark p
  pub on : (q : List Step) (x : Step) → Mark q → Mark (x ∷ q)

marks : (Mark : List Step → Type 0) → ((q : List Step) (x : Step) → Mark q → Mark (x ∷ q))
    → (between p : List Step) → Mark p → Mark (appended between p)
marks Mark on [] p k = k
marks Mark on (x ∷ between) p k = marks Mark on between (x ∷ p) (on p x k)

module _ {Mark : List Step → Type 0} {run later : List Step} {e0 : ℕ} {host : HostId} {v : ServerId}
    {l p : List Step} (a : After Mark run later e0 host v l p) {t : Step} (c : Cut p l t) where
  pub mark_before : Mark c.before
  mark_before = subst Mark (sym c.grown) (marks Mark a.on c.between p a.mark)

  pub above_before : e0 ≤ epoch_at (steps_of_host host c.before) v
  above_before =
      subst (λ (L : List Step). e0 ≤ epoch_at (steps_of_host host L) v) (sym c.grown)
      (own_on host (λ (L : List Step). e0 ≤ epoch_at L v)
      (λ A x le. (let grows = epoch_grows A x v in omega (arith, le, grows))) c.between p a.above)

  pub whole_cut : appended (t ∷ c.after) c.before ≡ run
  whole_cut = c.whole ∙ a.whole

  pub less : length c.after < length later
  less = let short = c.short in let le = a.short in omega (arith, short, le)

  pub after : After Mark run later e0 host v c.after (t ∷ c.before)
  after = record {
    whole = whole_cut;
    short = (let lt = less in omega (arith, lt));
    above = own_on host (λ (L : List Step). e0 ≤ epoch_at L v)
        (λ A x le. (let grows = epoch_grows A x v in omega (arith, le, grows))) (t ∷ []) c.before above_before;
    mark = a.on c.before t mark_before;
    on = a.on;
  }

abbrev pub here : (l p : List Step) (t : Step) → Cut p (t ∷ l) t
here l p t = record {
  between = [];
  before = p;
  after = l;
  whole = refl;
  grown = refl;
  short = omega arith;
}

module _ (script : Script) (start : Tree) (firsts : ServerId → ℕ) (real : (v : ServerId) → 0 < firsts v)
    (run : List Step) (meets : StepsMeet script start firsts run)
    (due : Always (λ before s. StepDue script start firsts s.node before s) run) (over : AllIsOver script run)
    (none : NoneIsHeld script run) (host : HostId) (live : HasStopped (steps_of_host host run) → ⊥) (v : ServerId) where
  abbrev own : List Step → List Step
  own past = steps_of_host host past

  abbrev acts : List Step → List Doing
  acts past = doings_of (firsts v) v past

  met : (later past : List Step) → appended later past ≡ run → StepsMeet script start firsts past
  met later past e = meets_at script start firsts real run meets due over none later past e

  dues : (past later : List Step) (s : Step) → appended (s ∷ later) past ≡ run
      → StepDue script start firsts s.node past s
  dues past later s e = due_at script start firsts real run meets due over none past later s e

  all : (later past : List Step) → appended later past ≡ run
      → Whole (λ h. steps_of_host h past) (λ u. doings_of (firsts u) u past)
  all later past e = whole_at script start firsts real run meets due over none later past e

  knowing : (later past : List Step) → appended later past ≡ run → Knows v host (acts past)
  knowing later past e = knows script start firsts real past (met later past e) v host

  -- # The server's steps

  pub server_may : (l p : List Step) (t : Step) → appended (t ∷ l) p ≡ run → t.node ≡ Server v
      → ServerMay script start v (steps_of_server v p) (acts p) t
  server_may l p t whole at =
      (subst (λ (k : Node). StepMeets script start firsts k p t) at (met l (t ∷ p) whole).1.0).0

  pub server_due : (l p : List Step) (t : Step) → appended (t ∷ l) p ≡ run → t.node ≡ Server v
      → ServerDue script start v (steps_of_server v p) (acts p) t
  server_due l p t whole at =
      subst (λ (k : Node). StepDue script start firsts k p t) at (dues p l t whole)

  pub server_from : (l p : List Step) (t : Step) → appended (t ∷ l) p ≡ run → t.node ≡ Server v → (m : Message)
      → In m t.sent → (m.server ≡ v) × (m.direction ≡ ToHost)
  server_from l p t whole at m i =
      subst (λ (k : Node). IsFrom k m) at ((met l (t ∷ p) whole).1.3 m i).0

  -- what it sends to the host is taken by the host, or a lapse comes to the node that sends it again
  pub server_sends : (l p : List Step) (t : Step) → appended (t ∷ l) p ≡ run → t.node ≡ Server v → (m : Message)
      → In m t.sent → m.host ≡ host → (again : Node) → resender m ≡ again → (IsStopped run again → ⊥)
      → LapsesIn l again ⊎ ((u : Step) × In u l × (u.cause ≡ Came m) × (u.node ≡ Host host))
  server_sends l p t whole at m i is again re free = elim going [
    | inl lapses ↦ inl (subst (LapsesIn l) re lapses)
    | inr taken ↦ inr (taken.0, taken.1, taken.2, by (cut l (t ∷ p) taken.0 taken.1) taken.2)
  ]
    where
      way : m.direction ≡ ToHost
      way = (server_from l p t whole at m i).1

      going : LapsesIn l (resender m) ⊎ IsTakenIn l m
      going = comes_of script run over none p l t whole m i
          (λ st. live (subst (IsStopped run) (ap (λ (d : Direction). receiver_by d m) way ∙ ap Host is) st))
          (λ st. free (subst (IsStopped run) re st))

      by : {u : Step} → Cut (t ∷ p) l u → u.cause ≡ Came m → u.node ≡ Host host
      by {u = u} c cause = go u.node refl (met c.after (u ∷ c.before) (c.whole ∙ whole)).1.0
        where
          go : (k : Node) → u.node ≡ k → StepMeets script start firsts k c.before u → u.node ≡ Host host
          go (Host k) e m' = e ∙ ap Host (sym (m'.1 m cause).0 ∙ is)
          go (Server k) e m' =
              absurd (let z : ToHost ≡ ToServer = sym way ∙ (m'.1 m cause).1 in cc)

  -- # What is so since then: the host is live; it came on the list in no later epoch than its own
  module _ (Mark : List Step → Type 0) (mark_on : (p : List Step) (x : Step) → Mark p → Mark (x ∷ p))
      (mark_live : (l p : List Step) → appended l p ≡ run → Mark p → IsLive (acts p) host)
      (mark_new : (l p : List Step) → appended l p ≡ run → Mark p → ListedNow (acts p) host
      → epoch (acts p) ≤ epoch_at (own p) v) where
    -- # A step after which the host has no lapse, and none raises its epoch
    module _ (past later : List Step) (s : Step) (e : appended (s ∷ later) past ≡ run) (marked : Mark (s ∷ past))
        (lapse_none : (l p : List Step) (t : Step) → length l < length later → appended (t ∷ l) p ≡ run → Mark p
        → t.node ≡ Host host → t.cause ≡ Lapse → ⊥)
        (raise_none : (l p : List Step) (t : Step) → length l < length later → appended (t ∷ l) p ≡ run → Mark p
        → t.node ≡ Host host → epoch_at (own p) v < epoch_at (t ∷ own p) v → ⊥) where
      abbrev e0 : ℕ
      e0 = epoch_at (own (s ∷ past)) v

      abbrev At : List Step → List Step → Type 0
      At l p = After Mark run later e0 host v l p

      pub first : At later (s ∷ past)
      first = record { whole = e; short = omega arith; above = omega arith; mark = marked; on = mark_on }

      pub no_lapse : (l p : List Step) → At l p → LapsesIn l (Host host) → ⊥
      no_lapse l p a (t, i, at, lapse) =
          let c = cut l p t i in
          lapse_none c.after c.before t (less a c) (whole_cut a c) (mark_before a c) at lapse

      step_raises : (l p : List Step) (t : Step) → At (t ∷ l) p → (n : Node) → t.node ≡ n
          → epoch_at (own p) v < epoch_at (own_after host n t (own p)) v → ⊥
      step_raises l p t a (Server u) at up = absurd (omega (arith, up))
      step_raises l p t a (Host k) at up =
          if_host (λ (L : List Step). epoch_at (own p) v < epoch_at L v → ⊥) k host (t ∷ own p) (own p)
          (λ same lt. raise_none l p t (let q : suc (length l) ≤ length later = a.short in omega
          (arith, q)) a.whole a.mark
          (at ∙ ap Host same) lt) (λ lt. absurd (omega (arith, lt))) up

      raises : (l p : List Step) → At l p → epoch_at (own p) v < epoch_at (own (appended l p)) v → ⊥
      raises [] p a lt = absurd (omega (arith, lt))
      raises (t ∷ l) p a lt = elim (decide (epoch_at (own p) v) (epoch_at (own (t ∷ p)) v)) [
        | inl up ↦ step_raises l p t a t.node refl up
        | inr le ↦ raises l (t ∷ p) (after a (here l p t))
            (let q : epoch_at (own p) v < epoch_at (own (appended l (t ∷ p))) v = lt in omega (arith, le, q))
      ]

      -- so the host's epoch has stayed as it was
      pub still : epoch_at (own run) v ≤ e0
      still = elim (decide e0 (epoch_at (own run) v)) [
        | inl up ↦ absurd (raises later (s ∷ past) first (subst (λ (L : List Step). e0 < epoch_at (own L) v)
            (sym e) up))
        | inr le ↦ le
      ]

      pub below : (l p : List Step) → appended l p ≡ run → epoch_at (own p) v ≤ e0
      below l p whole =
          let grown : epoch_at (own p) v ≤ epoch_at (own run) v =
          subst (λ (L : List Step). epoch_at (own p) v ≤ epoch_at (own L) v) whole
          (own_on host (λ (L : List Step). epoch_at (own p) v ≤ epoch_at L v)
          (λ A x le. (let grows = epoch_grows A x v in omega (arith, le, grows))) l p (omega arith)) in
          let end = still in
          omega (arith, grown, end)

      -- and it has not reclaimed in a later one
      not_reclaimed : (l p : List Step) → appended l p ≡ run → Mark p → e0 < epoch (acts p)
          → HasReclaimed (acts p) host → ⊥
      not_reclaimed l p whole mark up r =
          let le = below l p whole in
          elim (reclaimed_by (acts p) host r) [
            | inl admits ↦ (
                let c = (knowing l p whole).claimed admits in
                let said = (((all l p whole).at v).link host).took c.0 (Reclaim c.1) c.2 in
                let at = ((all l p whole).alone host).said_epoch v (epoch (acts p)) c.0 (Reclaim c.1) said in
                absurd (omega (arith, le, at, up))
                )
            | inr listed ↦ (let at = mark_new l p whole mark listed in absurd (omega (arith, le, at, up)))
          ]

      abbrev pub Tells : List Step → List Step → Step → Type 0
      Tells l p t = At l (t ∷ p) × (t.node ≡ Server v) × SentNow t host Restarted
          × (e0 < epoch (after_cause t.cause (acts p)))

      -- the server can't have told it of a restart
      tells_round : (l p : List Step) (t : Step) → Tells l p t
          → ((k q : List Step) (u : Step) → length k < length l → Tells k q u → ⊥) → ⊥
      tells_round l p t (a, at, (m, i, is, body), up) next =
          elim (server_sends l p t a.whole at m i is (Server m.server) (ap (λ (b : Body). resender_by b m) body)
          (λ st. st)) [
            | inl lapses ↦ lapsing (cut l (t ∷ p) lapses.0 lapses.1) lapses.2 lapses.3
            | inr taken ↦ raising (cut l (t ∷ p) taken.0 taken.1) taken.2 taken.3
          ]
        where
          from : (m.server ≡ v) × (m.direction ≡ ToHost)
          from = server_from l p t a.whole at m i

          is_epoch : m.epoch ≡ epoch (after_cause t.cause (acts p))
          is_epoch = (sent_so v t (acts p) (server_may l p t a.whole at).tokens m i).2

          raising : {u : Step} → Cut (t ∷ p) l u → u.cause ≡ Came m → u.node ≡ Host host → ⊥
          raising {u = u} c cause node_u =
              let ups = restarted_up v (own c.before) u m cause from.0 body in
              let le = subst (λ (L : List Step). epoch_at L v ≤ e0) (host_steps host u c.before node_u)
              (below c.after (u ∷ c.before) (c.whole ∙ a.whole)) in
              let is_e = is_epoch in
              absurd (omega (arith, ups, le, is_e, up))

          lapsing : {u : Step} → Cut (t ∷ p) l u → u.node ≡ Server m.server → u.cause ≡ Lapse → ⊥
          lapsing {u = u} c node_m lapse = next c.after c.before u c.short (after a c, node_u, sent, up_u)
            where
              node_u : u.node ≡ Server v
              node_u = node_m ∙ ap Server from.0

              up_t : e0 < epoch (acts (t ∷ p))
              up_t =
                  subst (λ (S : List Doing). e0 < epoch S) (sym (server_doings (firsts v) v t p at))
                  (let same = epoch_step t (acts p) in omega (arith, same, up))

              up_before : e0 < epoch (acts c.before)
              up_before =
                  subst (λ (L : List Step). e0 < epoch (acts L)) (sym c.grown)
                  (doings_on (firsts v) v (λ (S : List Doing). e0 < epoch S)
                  (λ S x q. (let grows = epoch_after_step x S in omega (arith, q, grows))) c.between (t ∷ p) up_t)

              up_u : e0 < epoch (after_cause u.cause (acts c.before))
              up_u = let grows = epoch_after_cause u (acts c.before) in let q = up_before in omega (arith, q, grows)

              sent : SentNow u host Restarted
              sent =
                  (server_due c.after c.before u (c.whole ∙ a.whole) node_u).answers.restarted_again host lapse
                  (mark_live (u ∷ c.after) c.before (c.whole ∙ a.whole) (mark_before a c))
                  (not_reclaimed (u ∷ c.after) c.before (c.whole ∙ a.whole) (mark_before a c) up_before)

      tells_within : (fuel : ℕ) (l p : List Step) (t : Step) → length l < fuel → Tells l p t → ⊥
      tells_within zero l p t lt tells = absurd (omega (arith, lt))
      tells_within (suc fuel) l p t lt tells =
          tells_round l p t tells
          (λ k q u short more. tells_within fuel k q u
          (let x : length l < suc fuel = lt in omega (arith, short, x)) more)

      pub tells_none : (l p : List Step) (t : Step) → Tells l p t → ⊥
      tells_none l p t tells = tells_within (suc (length l)) l p t (omega arith) tells
