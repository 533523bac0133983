-- The labels that a host has in use, and those of its locks and open files in the tree. Lists of steps have the newest
-- first.
use Rattle.std.specs.Prelude.{List, ℕ, ◌↔◌, ◌∷◌, ◌≡◌, ◌⊎◌}
use Rattle.base_types.specs.declared.ids.HostId.{HostId}
use Rattle.base_types.specs.declared.ids.Node.TheVariants.{Host}
use Rattle.base_types.specs.declared.ids.ServerId.{ServerId}
use Rattle.tree_answers.specs.declared.tree.LockUse.{LockUse}
use Rattle.tree_answers.specs.declared.tree.OpenUse.{OpenUse}
use Rattle.tree_answers.specs.declared.tree.Tree.{Tree}
use Rattle.script_lines.specs.declared.script.Script.{Script}
use Rattle.run_rules.specs.Messages.{HasStopped}
use Rattle.run_rules.specs.Past.{In, appended}
use Rattle.run_rules.specs.Runs.{IsRun, firsts_of, past_of}
use Rattle.run_tokens.specs.Pasts.{tree_at}
use Rattle.run_rules.specs.Steps.{steps_of_host}
use Rattle.run_rules.specs.Tokens.{IsOpen, LabelInUse, NoneOpen, end_of}
use Rattle.run_rules.specs.Views.{IsLock, IsOpening}
use Rattle.run_rules.specs.declared.journal.Journal.{Journal}
use Rattle.run_parts.specs.Uses.{Locked}
use Rattle.run_rules.specs.declared.applied.Answer.{Answer}
use Rattle.run_rules.specs.declared.step.Labelled.{Labelled}
use Rattle.run_rules.specs.declared.step.Step.{Step}
use Rattle.run_history.specs.HostLaws.{InEachStep}

-- so it is in every run, of each host, at the start and after each step; `more` are the steps that follow
abbrev pub AfterEachStep : (Tree → (ServerId → ℕ) → List Step → HostId → Type 0) → Type 0
AfterEachStep Holds =
    (script : Script) (journal : Journal) (run : IsRun script journal) (past more : List Step)
    → appended more past ≡ past_of journal → (h : HostId) → Holds run.start (firsts_of journal) past h

-- the host hasn't stopped, and no call of it is open
abbrev pub IsIdleHost : List Step → HostId → Type 0
IsIdleHost past h = (HasStopped (steps_of_host h past) → ⊥) × NoneOpen (steps_of_host h past)

-- What a host has in use is locked in the tree of the run, until the host stops. What is locked there the host has in
-- use, or its open call ends it: then the give-back for that may not be applied yet.
pub record LabelsMeet (start : Tree) (firsts : ServerId → ℕ) (past : List Step) (h : HostId) : Type 0 where
  pub locked : (u : Labelled) → LabelInUse (steps_of_host h past) u → (HasStopped (steps_of_host h past) → ⊥)
      → Locked firsts past h u
  pub used : (u : Labelled) → Locked firsts past h u
      → LabelInUse (steps_of_host h past) u
      ⊎ ((k : ℕ) × IsOpen (steps_of_host h past) (record { k = k; call = end_of u }))
  -- so where no call is open the labels are just the same
  pub same : IsIdleHost past h → (u : Labelled) → LabelInUse (steps_of_host h past) u ↔ Locked firsts past h u

abbrev pub LabelsAreTheRuns : Type 0
LabelsAreTheRuns = AfterEachStep LabelsMeet

-- its locks and open files in a tree are just those under the labels that it has in use
pub record HasItsLabels (past : List Step) (h : HostId) (tree_is : Tree) : Type 0 where
  pub locks : (lock : LockUse) → (In lock tree_is.locks × (lock.host ≡ h))
      ↔ ((u : Labelled) × LabelInUse (steps_of_host h past) u × IsLock h lock u)
  pub opens : (opened : OpenUse) → (In opened tree_is.opens × (opened.host ≡ h))
      ↔ ((u : Labelled) × LabelInUse (steps_of_host h past) u × IsOpening h opened u)

-- so they are in the tree of the history where no call is open
abbrev pub IdleHostsHaveLabels : Type 0
IdleHostsHaveLabels =
    AfterEachStep (λ start firsts past h. IsIdleHost past h → HasItsLabels past h (tree_at start past))

-- after each answer of a host no call of it is open, and it hasn't stopped
abbrev pub LeavesIdle : Script → (ServerId → ℕ) → List Step → Step → Type 0
LeavesIdle script firsts past s =
    (h : HostId) (a : Answer) → s.node ≡ Host h → In a s.answers → IsIdleHost (s ∷ past) h

abbrev pub AnswersLeaveIdle : Type 0
AnswersLeaveIdle = InEachStep LeavesIdle
