-- In a run each host's own steps meet its rules.
use Rattle.std.proofs.Common.{ℕ, List, [], ◌∷◌, subst}
use Rattle.base_types.specs.declared.ids.HostId.{HostId}
use Rattle.base_types.specs.declared.ids.Node.{Node}
use Rattle.base_types.specs.declared.ids.Node.TheVariants.{Host, Server}
use Rattle.base_types.specs.declared.ids.ServerId.{ServerId}
use Rattle.tree_answers.specs.declared.tree.Tree.{Tree}
use Rattle.script_lines.specs.declared.script.Script.{Script}
use Rattle.run_rules.specs.HostMay.{HostMay}
use Rattle.run_rules.specs.Runs.{StepMeets, StepsMeet, firsts_of, past_of}
use Rattle.run_rules.specs.Steps.{steps_of_host}
use Rattle.run_parts.specs.Contents.{Contents}
use Rattle.run_contents.specs.Laws.{AtNode, EachOwn, HoldsForHosts, HoldsInRuns}
use Rattle.run_contents.specs.Steps.{HostRun, IsOfJournal}
use Rattle.run_tokens.proofs.Words.{own_after, if_host}
use Rattle.run_rules.specs.declared.step.Step.{Step}

module _ (script : Script) (start : Tree) (firsts : ServerId → ℕ) where
  own_step : (n : Node) (past : List Step) (s : Step) (h : HostId) → HostRun script h (steps_of_host h past)
      → StepMeets script start firsts n past s → HostRun script h (own_after h n s (steps_of_host h past))
  own_step (Host k) past s h run m =
      if_host (HostRun script h) k h (s ∷ steps_of_host h past) (steps_of_host h past)
      (λ e. (run, subst (λ (j : HostId). HostMay script j (steps_of_host j past) s) e m.0)) run
  own_step (Server k) past s h run m = run

  pub own_run : (past : List Step) → StepsMeet script start firsts past → (h : HostId) → HostRun script h (steps_of_host h past)
  own_run [] run h = tt
  own_run (s ∷ past) run h = own_step s.node past s h (own_run past run.0 h) run.1.0

  module _ (c : Contents) (same : IsOfJournal c) (Holds : Contents → List Step → Step → Type 0)
      (each : HoldsForHosts Holds) where
    at_node : (n : Node) (past : List Step) (s : Step) → ((h : HostId) → HostRun script h (steps_of_host h past))
        → StepMeets script start firsts n past s → AtNode (Holds c) n past s
    at_node (Host k) past s run m = each c script k (steps_of_host k past) s same (run k) m.0
    at_node (Server k) past s run m = tt

    each_own : (past : List Step) → StepsMeet script start firsts past → EachOwn (Holds c) past
    each_own [] run = tt
    each_own (s ∷ past) run =
        (each_own past run.0, at_node s.node past s (own_run past run.0) run.1.0)

-- what holds in each step that meets a host's rules holds in each run
pub in_runs : (Holds : Contents → List Step → Step → Type 0) → HoldsForHosts Holds → HoldsInRuns Holds
in_runs Holds each c script journal same run =
    each_own script run.start (firsts_of journal) c same Holds each (past_of journal) run.steps
