-- Give-backs name tokens, and some end calls.
use Rattle.std.proofs.Common.{List, Some, [], ap, inl, inr, subst, sym, ℕ, ◌<◌, ◌∙◌, ◌∷◌, ◌≡◌}
use Rattle.base_types.specs.declared.ids.HostId.{HostId}
use Rattle.base_types.specs.declared.ids.Node.{Node}
use Rattle.base_types.specs.declared.ids.Node.TheVariants.{Host}
use Rattle.base_types.specs.declared.ids.ServerId.{ServerId}
use Rattle.message_types.specs.declared.giving.Ends.{Ends}
use Rattle.message_types.specs.declared.giving.Give.{Give}
use Rattle.script_lines.specs.declared.script.Script.{Script}
use Rattle.token_types.specs.declared.token.TokenId.{TokenId}
use Rattle.tree_answers.specs.declared.tree.Tree.{Tree}
use Rattle.run_contents.proofs.Calls.{one_open}
use Rattle.run_contents.proofs.Runs.{own_run}
use Rattle.run_contents.specs.Steps.{HostRun}
use Rattle.run_history.proofs.Open.{Also, made_ends, none_ends}
use Rattle.run_history.proofs.State.{also, firm_now, host_run}
use Rattle.run_parts.proofs.LabelLaw.{given_ended}
use Rattle.run_rules.specs.Past.{In}
use Rattle.run_rules.specs.Runs.{StepMeets, StepsMeet}
use Rattle.run_rules.specs.Steps.{steps_of_host}
use Rattle.run_rules.specs.Tokens.{HasEndedUse, IsEnding, IsKnown, Made, end_of}
use Rattle.run_rules.specs.declared.applied.Answer.{Answer}
use Rattle.run_rules.specs.declared.step.Asked.{Asked}
use Rattle.run_rules.specs.declared.step.Labelled.{Labelled}
use Rattle.run_rules.specs.declared.step.Step.{Step}

-- a give-back names a token
abbrev pub GivesName : List Step → Type 0
GivesName past = (h : HostId) (g : Give) → Made (steps_of_host h past) g → g.ids ≡ [] → ⊥

made_names : (script : Script) (host : HostId) (A : List Step) → HostRun script host A → (g : Give) → Made A g
    → g.ids ≡ [] → ⊥
made_names script host [] run g made = elim made [ ]
made_names script host (s ∷ A) run g (inl now) = run.1.gives.names g now
made_names script host (s ∷ A) run g (inr made) = made_names script host A run.0 g made

pub gives_name : (script : Script) (start : Tree) (firsts : ServerId → ℕ) (past : List Step)
    → StepsMeet script start firsts past → GivesName past
gives_name script start firsts past meets h =
    made_names script h (steps_of_host h past) (own_run script start firsts past meets h)

-- a token stands in one give-back
once_made : (A : List Step) → Also A → (g k : Give) (i : TokenId) → Made A g → Made A k → In i g.ids → In i k.ids
    → g ≡ k
once_made [] also g k i a b = elim a [ ]
once_made (s ∷ A) also g k i a b = also.2 g k i a b

-- a give-back that ends a call ends the use of a label
pub ends_label : (script : Script) (host : HostId) (A : List Step) → HostRun script host A → (g : Give) (ends : Ends)
    → Made A g → g.ends ≡ Some ends → (u : Labelled) × HasEndedUse A g u × (ends.call ≡ end_of u)
ends_label script host A run g ends made e =
    let k = made_ends script host A run g ends made e in
    (k.u, given_ended A k.u g k.given k.gives, k.call)

module _ (script : Script) (start : Tree) (firsts : ServerId → ℕ) (real : (v : ServerId) → 0 < firsts v) where
  -- two give-backs that end the open call are one
  pub one_given : (past : List Step) → StepsMeet script start firsts past
      → (h : HostId) (g k : Give) (ends other : Ends)
      → Made (steps_of_host h past) g → Made (steps_of_host h past) k → g.ends ≡ Some ends → k.ends ≡ Some other
      → (IsKnown (steps_of_host h past) g → ⊥) → (IsKnown (steps_of_host h past) k → ⊥) → g ≡ k
  one_given past run h g k ends other a b p q x y =
      let f = firm_now script start firsts real past run h in
      let ran = host_run script start firsts real past run h in
      let one = one_open script h (steps_of_host h past) ran (record { k = ends.k; call = ends.call })
      (record { k = other.k; call = other.call }) (f.given_open g ends a p x) (f.given_open k other b q y) in
      let m = made_ends script h (steps_of_host h past) ran g ends a p in
      let n = made_ends script h (steps_of_host h past) ran k other b q in
      let u = f.once m.u n.u (inr (g, m.given, m.gives, x)) (inr (k, n.given, n.gives, y))
      (sym m.call ∙ (ap (λ (z : Asked). z.call) one ∙ n.call)) in
      once_made (steps_of_host h past) (also script start firsts real past run h) g k m.u.token.id a b m.gives.3
      (subst (λ (z : Labelled). In z.token.id k.ids) (sym u) n.gives.3)

  -- in a step that answers no use is on its way to its end
  pub no_ending : (past : List Step) (s : Step) → StepsMeet script start firsts (s ∷ past) → (h : HostId)
      → s.node ≡ Host h → (a : Answer) → In a s.answers → (u : Labelled) → IsEnding (steps_of_host h past) s u → ⊥
  no_ending past s run h e a i u ending =
      none_ends script h (steps_of_host h past) s (
        host_run script start firsts real past run.0 h,
        (subst (λ (n : Node). StepMeets script start firsts n past s) e run.1.0).0,
      )
      (also script start firsts real past run.0 h) a i u ending
