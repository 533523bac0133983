-- What holds in every run of Changes and the labels in use. Lists of steps and doings have the newest first.
use Rattle.std.specs.Prelude.{List, true, ℕ, ◌∷◌, ◌≡◌}
use Rattle.base_types.specs.declared.ids.Node.TheVariants.{Server}
use Rattle.base_types.specs.declared.ids.ServerId.{ServerId}
use Rattle.need_host.specs.Questions.{is_change}
use Rattle.tree_answers.specs.declared.tree.Tree.{Tree}
use Rattle.script_lines.specs.declared.script.Script.{Script}
use Rattle.need_laws.specs.Idle.{minds_uses}
use Rattle.need_laws.specs.Known.{IsAt}
use Rattle.run_rules.specs.Doings.{after_cause, doings_of}
use Rattle.run_rules.specs.Kept.{filesets_kept, filesets_through}
use Rattle.run_rules.specs.Past.{Always, In}
use Rattle.run_rules.specs.Runs.{IsRun, firsts_of, past_of}
use Rattle.run_rules.specs.ServerDecides.{by_cause, decisions}
use Rattle.run_rules.specs.Steps.{steps_of_server}
use Rattle.run_rules.specs.declared.applied.Applied.TheVariants.{Done}
use Rattle.run_history.specs.Changes.{AgreesKept, EachChange, IsLegalChange}
use Rattle.run_rules.specs.declared.journal.Journal.{Journal}
use Rattle.run_rules.specs.declared.applied.Written.{Written}
use Rattle.run_rules.specs.declared.step.Step.{Step}
use Rattle.run_history.specs.HostLaws.{InEachStep}
use Rattle.run_history.specs.Meant.{LabelIsFree, PinnedAreUsed}
use Rattle.run_history.specs.UseStanding.{LabelsStand}

-- a lock or an open that is written down has a label that is free
abbrev pub FindsLabels : Script → (ServerId → ℕ) → List Step → Step → Type 0
FindsLabels script firsts past s =
    (v : ServerId) (tree_is : Tree) → s.node ≡ Server v → LabelsStand firsts (s ∷ past) tree_is
    → (x : Written) → In (Done x) s.applied → LabelIsFree tree_is x.answer.host x.answer.call

abbrev pub DecisionsFindLabels : Type 0
DecisionsFindLabels = InEachStep FindsLabels

-- A Change that looks at what is in use is legal in each tree that agrees with what the server keeps, and in which the
-- labels stand; and what is pinned is in use there.
abbrev pub DecidesUses : Tree → (ServerId → ℕ) → List Step → Step → Type 0
DecidesUses start firsts past s =
    (v : ServerId) → s.node ≡ Server v
    → EachChange (λ before kept_is x. (tree_is : Tree) → LabelsStand firsts (s ∷ past) tree_is
    → PinnedAreUsed v before tree_is
    × (AgreesKept v before kept_is tree_is → is_change x.answer.call ≡ true → IsAt v x.answer.call
    → minds_uses x.answer.call ≡ true → IsLegalChange v s.cause kept_is x tree_is)) s.cause
    (filesets_through s.cause (by_cause s.applied) (filesets_kept start v (steps_of_server v past)))
    (after_cause s.cause (doings_of (firsts v) v past)) (decisions s.applied)

abbrev pub UsesDecideLegally : Type 0
UsesDecideLegally =
    (script : Script) (journal : Journal) (run : IsRun script journal)
    → Always (DecidesUses run.start (firsts_of journal)) (past_of journal)
