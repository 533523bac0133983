-- In every run each step passes a tree on that agrees with the run. Lists of steps have the newest first.
use Rattle.std.specs.Prelude.{List, [], ℕ, ◌∷◌, ◌≡◌}
use Rattle.base_types.specs.declared.ids.HostId.{HostId}
use Rattle.base_types.specs.declared.ids.Node.TheVariants.{Host, Server}
use Rattle.base_types.specs.declared.ids.ServerId.{ServerId}
use Rattle.tree_answers.specs.declared.tree.Tree.{Tree}
use Rattle.script_lines.specs.declared.script.Script.{Script}
use Rattle.run_rules.specs.Doings.{after_cause, doings_of}
use Rattle.run_rules.specs.Kept.{filesets_kept, filesets_through}
use Rattle.run_rules.specs.Past.{Always}
use Rattle.run_rules.specs.Runs.{IsRun, firsts_of, past_of}
use Rattle.run_rules.specs.ServerDecides.{by_cause, decisions}
use Rattle.run_rules.specs.Steps.{steps_of_server}
use Rattle.run_history.specs.Changes.{AgreesKept, EachChange, IsLegalChange}
use Rattle.run_rules.specs.declared.journal.Journal.{Journal}
use Rattle.run_history.specs.PastStanding.{PassesOn, Stands}
use Rattle.run_parts.specs.Contents.{Contents}
use Rattle.run_contents.specs.Instance.{IsOfRun}
use Rattle.run_rules.specs.declared.step.Step.{Step}
use Rattle.run_history.specs.Names.{NamesStand}
use Rattle.run_history.specs.UseStanding.{LabelsStand}

-- what a host answers
abbrev pub HostPasses : Script → Tree → (ServerId → ℕ) → Contents → List Step → Step → Type 0
HostPasses script start firsts c past s =
    (h : HostId) (t : Tree) → s.node ≡ Host h → Stands script start c past t → LabelsStand firsts past t
    → NamesStand firsts past t → PassesOn script start firsts c past s t

-- each Change that a server's step writes down is legal in each tree that agrees with what the server keeps then, and
-- in which the labels of the run are in use
abbrev pub ChangesAreLegal : Tree → (ServerId → ℕ) → List Step → Step → ServerId → Type 0
ChangesAreLegal start firsts past s v =
    EachChange (λ before kept_is x. (t : Tree) → AgreesKept v before kept_is t → LabelsStand firsts (s ∷ past) t
    → IsLegalChange v s.cause kept_is x t) s.cause
    (filesets_through s.cause (by_cause s.applied) (filesets_kept start v (steps_of_server v past)))
    (after_cause s.cause (doings_of (firsts v) v past)) (decisions s.applied)

-- what a server applies by the cause of its step, and what it then decides
abbrev pub ServerPasses : Script → Tree → (ServerId → ℕ) → Contents → List Step → Step → Type 0
ServerPasses script start firsts c past s =
    (v : ServerId) (t : Tree) → s.node ≡ Server v → Stands script start c past t → LabelsStand firsts past t
    → ChangesAreLegal start firsts past s v → PassesOn script start firsts c past s t

-- so it is in each step of every run
abbrev pub InEachStep : (Script → Tree → (ServerId → ℕ) → Contents → List Step → Step → Type 0) → Type 0
InEachStep Passes =
    (script : Script) (journal : Journal) (run : IsRun script journal) (c : Contents)
    → IsOfRun run.start (firsts_of journal) c
    → Always (Passes script run.start (firsts_of journal) c) (past_of journal)

-- the start tree agrees with the run before any step
abbrev pub StartsStand : Type 0
StartsStand =
    (script : Script) (journal : Journal) (run : IsRun script journal) (c : Contents)
    → IsOfRun run.start (firsts_of journal) c → Stands script run.start c [] run.start
