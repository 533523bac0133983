-- What holds of a node's own steps, among the steps of all.
use Rattle.std.proofs.Common.{◌≡◌, ℕ, Bool, true, false, cond, List, [], ◌∷◌, filter, refl, ap, ◌∙◌}
use Rattle.base_types.specs.declared.ids.Node.{Node}
use Rattle.base_types.specs.declared.ids.Node.TheVariants.{Server}
use Rattle.base_types.specs.declared.ids.ServerId.{ServerId}
use Rattle.run_rules.specs.Doings.{after_step, doings_of}
use Rattle.run_rules.specs.Past.{Always, appended}
use Rattle.run_rules.specs.Steps.{is_node, steps_of_server}
use Rattle.run_rules.specs.declared.step.Step.{Step}

-- the steps of a node
abbrev pub mine : Node → List Step → List Step
mine n past = filter (λ (s : Step). is_node s.node n) past

module _ (P : List Step → Step → Type 0) (n : Node) where
  pub own_always : (past : List Step) → Always P (mine n past)
      → Always (λ before s. is_node s.node n ≡ true → P (mine n before) s) past
  own_always [] h = tt
  own_always (s ∷ past) h = by_test (is_node s.node n) refl (own_always past) h
    where
      by_test : (b : Bool) → is_node s.node n ≡ b
          → (Always P (mine n past) → Always (λ before s. is_node s.node n ≡ true → P (mine n before) s) past)
          → Always P (cond b (s ∷ mine n past) (mine n past))
          → Always (λ before s. is_node s.node n ≡ true → P (mine n before) s) (s ∷ past)
      by_test true e again k = (again k.0, λ is. k.1)
      by_test false e again k = (again k, λ is. absurd (cc))

-- a server's doings are in its own steps
pub acts_own : (first : ℕ) (v : ServerId) (past : List Step)
    → doings_of first v (steps_of_server v past) ≡ doings_of first v past
acts_own first v [] = refl
acts_own first v (s ∷ past) = by_test (is_node s.node (Server v)) refl (acts_own first v past)
  where
    by_test : (b : Bool) → is_node s.node (Server v) ≡ b
        → doings_of first v (steps_of_server v past) ≡ doings_of first v past
        → doings_of first v (cond b (s ∷ steps_of_server v past) (steps_of_server v past))
        ≡ cond b (after_step s (doings_of first v past)) (doings_of first v past)
    by_test true e again =
        ap (λ c. cond c (after_step s (doings_of first v (steps_of_server v past)))
        (doings_of first v (steps_of_server v past))) e
        ∙ ap (after_step s) again
    by_test false e again = again

-- what always was so is so without the newest
pub always_before : {A : Type 0} (P : List A → A → Type 0) (xs past : List A) → Always P (appended xs past)
    → Always P past
always_before P [] past h = h
always_before P (x ∷ xs) past h = (always_before P xs (x ∷ past) h).0
