-- What holds in every run of hosts and the labels in use. Lists of steps have the newest first.
use Rattle.std.specs.Prelude.{List, [], map, ℕ, ◌∷◌, ◌≡◌}
use Rattle.base_types.specs.declared.ids.HostId.{HostId}
use Rattle.base_types.specs.declared.ids.Node.TheVariants.{Host}
use Rattle.base_types.specs.declared.ids.ServerId.{ServerId}
use Rattle.tree_answers.specs.Histories.{IsLegal, after_history}
use Rattle.tree_answers.specs.declared.tree.Tree.{Tree}
use Rattle.script_lines.specs.declared.script.Script.{Script}
use Rattle.run_rules.specs.Past.{Always, In}
use Rattle.run_rules.specs.Runs.{IsRun, call_entry, firsts_of, past_of}
use Rattle.run_history.specs.Agreement.{AgreesAt}
use Rattle.run_rules.specs.declared.journal.Journal.{Journal}
use Rattle.run_parts.specs.Contents.{Contents}
use Rattle.run_contents.specs.Instance.{IsOfRun}
use Rattle.run_rules.specs.declared.applied.Answer.{Answer}
use Rattle.run_rules.specs.declared.step.Step.{Step}
use Rattle.run_history.specs.UseStanding.{LabelsStand, UsesAt}

-- this hangs on nothing of a tree but what is in use
abbrev pub LabelsAreOfUses : Type 0
LabelsAreOfUses =
    (firsts : ServerId → ℕ) (past : List Step) (a b : Tree) → a.locks ≡ b.locks → a.opens ≡ b.opens
    → LabelsStand firsts past a → LabelsStand firsts past b

abbrev pub LabelsBegin : Type 0
LabelsBegin =
    (script : Script) (journal : Journal) (run : IsRun script journal)
    → LabelsStand (firsts_of journal) [] run.start

-- so it is in each step of every run
abbrev pub InEachStep : (Script → (ServerId → ℕ) → List Step → Step → Type 0) → Type 0
InEachStep Holds =
    (script : Script) (journal : Journal) (run : IsRun script journal)
    → Always (Holds script (firsts_of journal)) (past_of journal)

-- a host that answers a call knows its labels, and nobody's is in the way of one that begins
abbrev pub KnowsLabels : Script → (ServerId → ℕ) → List Step → Step → Type 0
KnowsLabels script firsts past s =
    (h : HostId) (tree_is : Tree) → s.node ≡ Host h → LabelsStand firsts past tree_is
    → (a : Answer) → In a s.answers → UsesAt past h s tree_is

abbrev pub HostsKnowLabels : Type 0
HostsKnowLabels = InEachStep KnowsLabels

-- after what a host answers the labels stand again
abbrev pub LeavesLabels : Contents → Script → (ServerId → ℕ) → List Step → Step → Type 0
LeavesLabels c script firsts past s =
    (h : HostId) (tree_is : Tree) → s.node ≡ Host h → LabelsStand firsts past tree_is
    → ((a : Answer) → In a s.answers → AgreesAt script.roster c past h s tree_is × IsLegal tree_is (call_entry a))
    → LabelsStand firsts (s ∷ past) (after_history tree_is (map call_entry s.answers))

abbrev pub HostsLeaveLabels : Type 0
HostsLeaveLabels =
    (script : Script) (journal : Journal) (run : IsRun script journal) (c : Contents)
    → IsOfRun run.start (firsts_of journal) c
    → Always (LeavesLabels c script (firsts_of journal)) (past_of journal)
