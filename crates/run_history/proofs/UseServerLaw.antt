-- In every run: what servers take and learn leaves the labels in use those of the run.
use Rattle.std.proofs.Common.{List, ℕ, ◌<◌, ◌∷◌}
use Rattle.std.specs.Prelude.{[]}
use Rattle.base_types.specs.declared.ids.ServerId.{ServerId}
use Rattle.tree_answers.specs.declared.tree.Tree.{Tree}
use Rattle.script_lines.specs.declared.script.Script.{Script}
use Rattle.run_rules.specs.Past.{Always}
use Rattle.run_rules.specs.Runs.{StepsMeet, firsts_of, past_of}
use Rattle.run_rules.specs.declared.step.Step.{Step}
use Rattle.run_history.proofs.UseHostLaw.{from_one}
use Rattle.run_history.proofs.ServerStep.{cause_left, end_legal}
use Rattle.run_history.specs.ServerLaws.{CauseLeavesLabels, EndsAreLegal, EndsLegally, ServersLeaveLabels}

module _ (script : Script) (start : Tree) (firsts : ServerId → ℕ) (real : (v : ServerId) → 0 < firsts v) where
  each_ends : (past : List Step) → StepsMeet script start firsts past → Always (EndsLegally script firsts) past
  each_ends [] run = tt
  each_ends (s ∷ past) run = (
    each_ends past run.0,
    λ v tree node roster stands a i. end_legal script start firsts real past s run v node tree roster stands a i,
  )

  each_leaves : (past : List Step) → StepsMeet script start firsts past
      → Always (CauseLeavesLabels script firsts) past
  each_leaves [] run = tt
  each_leaves (s ∷ past) run = (
    each_leaves past run.0,
    λ v tree node formed roster homes stands.
        cause_left script start firsts real past s run v node tree formed roster homes stands,
  )

pub ends_are_legal : EndsAreLegal
ends_are_legal script journal run =
    each_ends script run.start (firsts_of journal) (λ v. from_one _) (past_of journal) run.steps

pub servers_leave : ServersLeaveLabels
servers_leave script journal run =
    each_leaves script run.start (firsts_of journal) (λ v. from_one _) (past_of journal) run.steps
