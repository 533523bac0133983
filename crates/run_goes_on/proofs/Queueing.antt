-- The wants of a server: each is made when it doesn't wait, and no two wait that can't. So of those that wait one is
-- the first.
use Rattle.std.proofs.Common.{List, [], ap, inl, inr, refl, subst, suc, sym, ℕ, ◌∙◌, ◌∷◌, ◌≡◌}
use Rattle.base_types.specs.declared.ids.Node.{Node}
use Rattle.base_types.specs.declared.ids.Node.TheVariants.{Host, Server}
use Rattle.base_types.specs.declared.ids.ServerId.{ServerId}
use Rattle.tree_answers.specs.declared.tree.Tree.{Tree}
use Rattle.script_lines.specs.declared.script.Script.{Script}
use Rattle.message_types.specs.declared.message.Message.{Message}
use Rattle.run_rules.specs.Doings.{after_shipping}
use Rattle.run_rules.specs.Doings.{Doing, admitting, after_admitting, after_cause, after_deciding, after_sending}
use Rattle.run_rules.specs.Doings.{after_step, deciding, doings_of, epoch, sending}
use Rattle.run_rules.specs.Doings.Doing.{Gets, Puts}
use Rattle.run_rules.specs.Doings.Doing.{Admits, BeginsEpoch, Flushes, MakesWant, Reserves, Sent, Took, WritesDown}
use Rattle.run_rules.specs.Kept.{filesets_after, filesets_kept, filesets_through}
use Rattle.run_rules.specs.Past.{Always, appended}
use Rattle.run_rules.specs.Runs.{StepMeets, StepsMeet}
use Rattle.run_rules.specs.ServerDecides.{MayDecide, MayDecideAll, by_cause, decisions}
use Rattle.run_rules.specs.ServerMay.{ServerMay}
use Rattle.run_rules.specs.Steps.{steps_of_server}
use Rattle.run_rules.specs.Wants.{CannotBothWait, IsQueued, IsQueuedBefore, Unwants}
use Rattle.run_rules.specs.declared.applied.Admission.{Admission}
use Rattle.run_rules.specs.declared.applied.Applied.{Applied}
use Rattle.run_rules.specs.declared.applied.Applied.TheVariants.{Done as IsDone, IsDown, Replied, Stored}
use Rattle.run_rules.specs.declared.applied.Applied.TheVariants.{Moves as IsMoved, Wants as IsWanted}
use Rattle.run_rules.specs.declared.applied.Request.{Request}
use Rattle.run_rules.specs.declared.applied.Request.TheVariants.{Change as Changes, Fetch as Asks}
use Rattle.run_rules.specs.declared.applied.Wanted.{Wanted}
use Rattle.run_rules.specs.declared.step.Cause.{Cause}
use Rattle.run_rules.specs.declared.step.Cause.TheVariants.{End, Evict, Flushed, Freight, Lapse}
use Rattle.run_rules.specs.declared.step.Cause.TheVariants.{Line, Message as Came, Restart}
use Rattle.run_rules.specs.declared.step.Step.{Step}
use Rattle.run_contents.proofs.Grants.{same_decisions}
use Rattle.run_tokens.proofs.TokenRun.{works_none}
use Rattle.run_tokens.proofs.Ships.{ships_keep}
use Rattle.run_tokens.proofs.Words.{acts_after, if_server}

-- # Which wants can't both wait

one_want : (v w : Wanted) → MakesWant v ≡ MakesWant w → v ≡ w
one_want v w e = cc

pub both_back : (a b : Request) → CannotBothWait a b → CannotBothWait b a
both_back (Asks f) (Asks g) k = (sym k.0, sym k.1)
both_back (Changes c) (Changes d) k = sym k
both_back (Asks f) (Changes d) k = elim k [ ]
both_back (Changes c) (Asks g) k = elim k [ ]

pub both_same : (a : Request) → CannotBothWait a a
both_same (Asks f) = (refl, refl)
both_same (Changes c) = refl

-- so no two of one host wait
pub one_waits : (S : List Doing) (u w : Wanted) → IsQueued S u → IsQueued S w → u.host ≡ w.host
    → CannotBothWait u.request w.request → u ≡ w
one_waits [] u w x y h k = elim x [ ]
one_waits (a ∷ S) u w (inl e) (inl f) h k = one_want u w (sym e ∙ f)
one_waits (a ∷ S) u w (inl e) (inr y) h k = absurd (y.1 (inr (inl (u, e, h, k))))
one_waits (a ∷ S) u w (inr x) (inl f) h k =
    absurd (x.1 (inr (inl (w, f, sym h, both_back u.request w.request k))))
one_waits (a ∷ S) u w (inr x) (inr y) h k = one_waits S u w x.0 y.0 h k

-- # Each want is made when it doesn't wait

abbrev pub NotYet : List Doing → Doing → Type 0
NotYet S a = (w : Wanted) → a ≡ MakesWant w → IsQueued S w → ⊥

abbrev pub MadeNew : List Doing → Type 0
MadeNew S = Always (λ before a. NotYet before a) S

on : (S : List Doing) (a : Doing) → ((w : Wanted) → a ≡ MakesWant w → ⊥) → MadeNew S → MadeNew (a ∷ S)
on S a never old = (old, λ w e x. never w e)

wanted : (v : ServerId) (before : List Doing) (s : Step) (x : Wanted) (tree : Tree) (S : List Doing)
    → MayDecide v tree before S s (IsWanted x) → NotYet S (MakesWant x)
wanted v before s x tree S may w e y = elim may.1 [
  | inl new ↦ new.alone x waits refl (both_same x.request)
  | inr k ↦ (
      let asks : k.0.request ≡ x.request = ap (λ (z : Wanted). z.request) k.1.same in
      let one : k.0 ≡ x =
      one_waits S k.0 x k.1.waits waits (ap (λ (z : Wanted). z.host) k.1.same)
      (subst (λ (r : Request). CannotBothWait k.0.request r) asks (both_same k.0.request)) in
      k.1.other (ap (λ (z : Wanted). z.needs) one)
      )
]
  where
    waits : IsQueued S x
    waits = subst (IsQueued S) (sym (one_want x w e)) y

causes : (c : Cause) (S : List Doing) → MadeNew S → MadeNew (after_cause c S)
causes (Came m) S old = on S (Took m.host m.epoch m.moves m.body) (λ w e. absurd (cc)) old
causes (Restart line) S old = on S (BeginsEpoch (suc (epoch S))) (λ w e. absurd (cc)) old
causes Flushed S old = on S Flushes (λ w e. absurd (cc)) old
causes (Line line) S old = old
causes Lapse S old = old
causes Evict S old = old
causes (Freight freight) S old = on S (Gets freight.server freight.moves freight.body) (λ w e. absurd (cc)) old
causes End S old = old

decides : (v : ServerId) (before : List Doing) (s : Step) (xs : List Applied) (tree : Tree) (S : List Doing)
    → MayDecideAll v tree before S s xs → MadeNew S → MadeNew (appended (deciding xs) S)
decides v before s [] tree S may old = old
decides v before s (IsWanted x ∷ xs) tree S may old =
    decides v before s xs (filesets_after s.cause tree (IsWanted x)) (MakesWant x ∷ S) may.1
    (old, wanted v before s x tree S may.0)
decides v before s (IsDone x ∷ xs) tree S may old =
    decides v before s xs (filesets_after s.cause tree (IsDone x)) (WritesDown x ∷ S) may.1
    (on S (WritesDown x) (λ w e. absurd (cc)) old)
decides v before s (Replied x ∷ xs) tree S may old = elim may.0 [ ]
decides v before s (Stored h f ss n ∷ xs) tree S may old = elim may.0 [ ]
decides v before s (IsDown h ∷ xs) tree S may old = elim may.0 [ ]
decides v before s (IsMoved move ∷ xs) tree S may old = elim may.0 [ ]

admits : (cs : List Admission) (S : List Doing) → MadeNew S → MadeNew (appended (admitting cs) S)
admits [] S old = old
admits (c ∷ cs) S old =
    admits cs (Admits c.host c.tokens ∷ S) (on S (Admits c.host c.tokens) (λ w e. absurd (cc)) old)

sends : (ms : List Message) (S : List Doing) → MadeNew S → MadeNew (appended (sending ms) S)
sends [] S old = old
sends (m ∷ ms) S old =
    sends ms (Sent m.host m.epoch m.moves m.body ∷ S)
    (on S (Sent m.host m.epoch m.moves m.body) (λ w e. absurd (cc)) old)

new_step : (script : Script) (start : Tree) (v : ServerId) (steps : List Step) (S : List Doing) (s : Step)
    → ServerMay script start v steps S s → MadeNew S → MadeNew (after_step s S)
new_step script start v steps S s m old =
    on (after_shipping s S) (Reserves s.reserved) (λ w e. absurd (cc))
    (ships_keep MadeNew (λ T to n b was. on T (Puts to n b) (λ w e. absurd (cc)) was) s.shipped (after_sending s S)
    (sends s.sent (after_admitting s S) (admits s.admitted (after_deciding s S)
    (subst MadeNew (sym (same_decisions s.applied (after_cause s.cause S)
    (works_none v (filesets_kept start v steps) S s m.works.applies)))
    (decides v S s (decisions s.applied) (filesets_through s.cause (by_cause s.applied) (filesets_kept start v steps))
    (after_cause s.cause S) m.works.decides (causes s.cause S old))))))

module _ (script : Script) (start : Tree) (firsts : ServerId → ℕ) (v : ServerId) where
  new_at : (k : Node) (past : List Step) (s : Step) → StepMeets script start firsts k past s
      → MadeNew (doings_of (firsts v) v past) → MadeNew (acts_after v k s (doings_of (firsts v) v past))
  new_at (Host k) past s m old = old
  new_at (Server k) past s m old =
      if_server MadeNew k v (after_step s (doings_of (firsts v) v past)) (doings_of (firsts v) v past)
      (λ e. new_step script start v (steps_of_server v past) (doings_of (firsts v) v past) s
      (subst (λ (w : ServerId). ServerMay script start w (steps_of_server w past) (doings_of (firsts w) w past) s) e
      m.0) old) old

  pub made_new : (past : List Step) → StepsMeet script start firsts past → MadeNew (doings_of (firsts v) v past)
  made_new [] run = (tt, λ w e x. elim x [ ])
  made_new (s ∷ past) run = new_at s.node past s run.1.0 (made_new past run.0)

-- # The first of those that wait

queued_both : (S : List Doing) (u v : Wanted) → IsQueuedBefore S u v → IsQueued S u × IsQueued S v
queued_both [] u v b = elim b [ ]
queued_both (a ∷ S) u v b = (b.1, b.2)

-- of the wants with a property none waits before it
abbrev pub IsFirst : List Doing → (Wanted → Type 0) → Wanted → Type 0
IsFirst S Q v = (u : Wanted) → Q u → IsQueuedBefore S u v → ⊥

abbrev pub NoneFirst : List Doing → (Wanted → Type 0) → Type 0
NoneFirst S Q = (v : Wanted) → IsQueued S v → Q v → IsFirst S Q v → ⊥

abbrev Stays : List Doing → Doing → (Wanted → Type 0) → Wanted → Type 0
Stays S a Q u = Q u × (Unwants S a u → ⊥)

module _ (S : List Doing) (a : Doing) (new : MadeNew (a ∷ S)) (Q : Wanted → Type 0) where
  -- the first of those that stay is the first
  older : NoneFirst (a ∷ S) Q → NoneFirst S (Stays S a Q)
  older none v y is first =
      none v (inr (y, is.1)) is.0
      (λ u u_is b. elim b.0 [
        | inl both ↦ new.1 v both.1 y
        | inr before ↦ elim b.1 [
          | inl made ↦ new.1 u made (queued_both S u v before).0
          | inr stays ↦ first u (u_is, stays.1) before
        ]
      ])

  -- and where none stays one that is made is
  made_first : ((u : Wanted) → IsQueued S u → Stays S a Q u → ⊥) → (w : Wanted) → a ≡ MakesWant w
      → IsFirst (a ∷ S) Q w
  made_first none w made u u_is b = elim b.0 [
    | inl both ↦ elim b.1 [
      | inl other ↦ new.1 u other both.0
      | inr stays ↦ none u both.0 (u_is, stays.1)
    ]
    | inr before ↦ new.1 w made (queued_both S u w before).1
  ]

-- So where none is the first none waits.
pub none_waits : (S : List Doing) → MadeNew S → (Q : Wanted → Type 0) → NoneFirst S Q → (w : Wanted) → IsQueued S w
    → Q w → ⊥
none_waits [] new Q none w x q = elim x [ ]
none_waits (a ∷ S) new Q none w (inr x) q =
    none_waits S new.0 (Stays S a Q) (older S a new Q none) w x.0 (q, x.1)
none_waits (a ∷ S) new Q none w (inl made) q =
    none w (inl made) q
    (made_first S a new Q (λ u y is. none_waits S new.0 (Stays S a Q) (older S a new Q none) u y is) w made)
