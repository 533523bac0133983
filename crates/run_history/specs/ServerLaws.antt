-- What holds in every run of servers and the labels in use. Lists of steps have the newest first.
use Rattle.std.specs.Prelude.{List, flat_map, true, ℕ, ◌∷◌, ◌≡◌}
use Rattle.base_types.specs.declared.ids.Node.TheVariants.{Server}
use Rattle.base_types.specs.declared.ids.ServerId.{ServerId}
use Rattle.tree_answers.specs.Histories.{IsLegal, after_history}
use Rattle.tree_answers.specs.WellFormed.{IsWellFormed}
use Rattle.tree_answers.specs.declared.tree.Tree.{Tree}
use Rattle.script_lines.specs.declared.script.Script.{Script}
use Rattle.run_history.specs.Changes.{are_home}
use Rattle.run_rules.specs.Past.{In}
use Rattle.run_rules.specs.Runs.{call_entry, entries_in}
use Rattle.run_rules.specs.ServerDecides.{by_cause}
use Rattle.run_rules.specs.declared.applied.Applied.TheVariants.{Replied}
use Rattle.run_rules.specs.declared.applied.Answer.{Answer}
use Rattle.run_rules.specs.declared.step.Step.{Step}
use Rattle.run_history.specs.HostLaws.{InEachStep}
use Rattle.run_history.specs.UseStanding.{LabelsStand}

-- the end of a use that a server takes is legal
abbrev pub EndsLegally : Script → (ServerId → ℕ) → List Step → Step → Type 0
EndsLegally script firsts past s =
    (v : ServerId) (tree_is : Tree) → s.node ≡ Server v → tree_is.roster ≡ script.roster
    → LabelsStand firsts past tree_is → (a : Answer) → In (Replied a) s.applied → IsLegal tree_is (call_entry a)

abbrev pub EndsAreLegal : Type 0
EndsAreLegal = InEachStep EndsLegally

-- after what a server stores and learns by the cause of its step the labels stand again
abbrev pub CauseLeavesLabels : Script → (ServerId → ℕ) → List Step → Step → Type 0
CauseLeavesLabels script firsts past s =
    (v : ServerId) (tree_is : Tree) → s.node ≡ Server v → IsWellFormed tree_is → tree_is.roster ≡ script.roster
    → are_home tree_is ≡ true → LabelsStand firsts past tree_is
    → LabelsStand firsts (s ∷ past) (after_history tree_is (flat_map (entries_in v) (by_cause s.applied)))

abbrev pub ServersLeaveLabels : Type 0
ServersLeaveLabels = InEachStep CauseLeavesLabels
