-- Steps of a run, each with what was before it and what comes after it.
use Rattle.std.proofs.Common.{Bool, List, [], ap, arith, false, inl, inr, length, refl, subst, sym, true, ℕ}
use Rattle.std.proofs.Common.{if◌then◌else◌, ◌<◌, ◌∙◌, ◌∷◌, ◌≡◌}
use Rattle.std.proofs.lemmas.Bool.{eq-eqb}
use Rattle.base_types.specs.declared.ids.HostId.{HostId}
use Rattle.base_types.specs.declared.ids.Node.{Node}
use Rattle.base_types.specs.declared.ids.Node.TheVariants.{Host, Server}
use Rattle.base_types.specs.declared.ids.ServerId.{ServerId}
use Rattle.tree_answers.specs.declared.tree.Tree.{Tree}
use Rattle.script_lines.specs.declared.script.Script.{Script}
use Rattle.run_rules.specs.Doings.{Doing, after_step, doings_of}
use Rattle.run_rules.specs.HostMay.{HostMay}
use Rattle.run_rules.specs.Past.{Always, In, Once, appended}
use Rattle.run_rules.specs.Runs.{StepMeets, StepsMeet}
use Rattle.run_rules.specs.Steps.{is_node, steps_of_host}
use Rattle.run_rules.specs.declared.step.Step.{Step}
use Rattle.run_tokens.proofs.Words.{acts_after, if_host, own_after}

-- what always was so was so before
pub always_back : {X : Type 0} (P : List X → X → Type 0) (later past : List X) → Always P (appended later past)
    → Always P past
always_back P [] past all = all
always_back P (x ∷ later) past all = (always_back P later (x ∷ past) all).0

-- what once was so is so for good
pub once_on : {X : Type 0} (P : List X → X → Type 0) (later past : List X) → Once P past → Once P (appended later past)
once_on P [] past o = o
once_on P (x ∷ later) past o = once_on P later (x ∷ past) (inr o)

-- where a later step stands
pub record Cut (past later : List Step) (t : Step) : Type 0 where
  pub between : List Step
  pub before : List Step
  pub after : List Step
  pub whole : appended (t ∷ after) before ≡ appended later past
  pub grown : before ≡ appended between past
  pub short : length after < length later

pub cut : (later past : List Step) (t : Step) → In t later → Cut past later t
cut [] past t i = elim i [ ]
cut (x ∷ later) past t (inl e) = record {
  between = [];
  before = past;
  after = later;
  whole = ap (λ (z : Step). appended (z ∷ later) past) e;
  grown = refl;
  short = omega arith;
}
cut (x ∷ later) past t (inr i) =
    let c = cut later (x ∷ past) t i in
    let lt : length c.after < length later = c.short in
    record {
      between = x ∷ c.between;
      before = c.before;
      after = c.after;
      whole = c.whole;
      grown = c.grown;
      short = omega (arith, lt);
    }

-- the steps of a host, and the doings of a server, after a step of one of them
one_node : (b : Bool) {X : Type 0} (new old : X) → b ≡ true → (if b then new else old) ≡ new
one_node true new old e = refl
one_node false new old e = absurd (cc)

same_host : (h : HostId) → is_node (Host h) (Host h) ≡ true
same_host h = eq-eqb h.0 h.0 refl

same_server : (v : ServerId) → is_node (Server v) (Server v) ≡ true
same_server v = eq-eqb v.0 v.0 refl

pub host_steps : (h : HostId) (s : Step) (past : List Step) → s.node ≡ Host h
    → steps_of_host h (s ∷ past) ≡ s ∷ steps_of_host h past
host_steps h s past e =
    ap (λ (n : Node). own_after h n s (steps_of_host h past)) e
    ∙ one_node (is_node (Host h) (Host h)) (s ∷ steps_of_host h past) (steps_of_host h past) (same_host h)

pub server_doings : (first : ℕ) (v : ServerId) (s : Step) (past : List Step) → s.node ≡ Server v
    → doings_of first v (s ∷ past) ≡ after_step s (doings_of first v past)
server_doings first v s past e =
    ap (λ (n : Node). acts_after v n s (doings_of first v past)) e
    ∙ one_node (is_node (Server v) (Server v)) (after_step s (doings_of first v past)) (doings_of first v past)
    (same_server v)

-- what is so of a host for good is so after later steps of the run
either : {X : Type 0} (Q : X → Type 0) (b : Bool) (new old : X) → Q new → Q old → Q (if b then new else old)
either Q true new old n o = n
either Q false new old n o = o

pub own_on : (h : HostId) (Q : List Step → Type 0) → ((A : List Step) (s : Step) → Q A → Q (s ∷ A))
    → (later past : List Step) → Q (steps_of_host h past) → Q (steps_of_host h (appended later past))
own_on h Q one [] past q = q
own_on h Q one (s ∷ later) past q =
    own_on h Q one later (s ∷ past)
    (either Q (is_node s.node (Host h)) (s ∷ steps_of_host h past) (steps_of_host h past)
    (one (steps_of_host h past) s q) q)

pub doings_on : (first : ℕ) (v : ServerId) (Q : List Doing → Type 0)
    → ((S : List Doing) (s : Step) → Q S → Q (after_step s S)) → (later past : List Step) → Q (doings_of first v past)
    → Q (doings_of first v (appended later past))
doings_on first v Q one [] past q = q
doings_on first v Q one (s ∷ later) past q =
    doings_on first v Q one later (s ∷ past)
    (either Q (is_node s.node (Server v)) (after_step s (doings_of first v past)) (doings_of first v past)
    (one (doings_of first v past) s q) q)

module _ (script : Script) (start : Tree) (firsts : ServerId → ℕ) where
  own_step : (n : Node) (past : List Step) (s : Step) (h : HostId) → Always (HostMay script h) (steps_of_host h past)
      → StepMeets script start firsts n past s → Always (HostMay script h) (own_after h n s (steps_of_host h past))
  own_step (Host k) past s h run m =
      if_host (Always (HostMay script h)) k h (s ∷ steps_of_host h past) (steps_of_host h past)
      (λ e. (run, subst (λ (j : HostId). HostMay script j (steps_of_host j past) s) e m.0)) run
  own_step (Server k) past s h run m = run

  -- a host's own steps meet its rules
  pub own_run : (past : List Step) → StepsMeet script start firsts past → (h : HostId)
      → Always (HostMay script h) (steps_of_host h past)
  own_run [] run h = tt
  own_run (s ∷ past) run h = own_step s.node past s h (own_run past run.0 h) run.1.0

  -- the run so far is a run
  pub steps_back : (later past : List Step) {whole : List Step} → appended later past ≡ whole
      → StepsMeet script start firsts whole → StepsMeet script start firsts past
  steps_back later past e run =
      always_back _ later past (subst (StepsMeet script start firsts) (sym e) run)
