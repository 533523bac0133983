-- What hosts are told of the names of filesets, and where the names lead. Lists of steps have the newest first.
use Rattle.std.specs.Prelude.{List, Some, [], true, ℕ, ◌∷◌, ◌≡◌}
use Rattle.base_types.specs.declared.ids.FilesetId.{FilesetId}
use Rattle.base_types.specs.declared.ids.HostId.{HostId}
use Rattle.base_types.specs.declared.ids.Node.TheVariants.{Host}
use Rattle.base_types.specs.declared.ids.ServerId.{ServerId}
use Rattle.need_host.specs.Questions.{fileset_of}
use Rattle.tree_answers.specs.declared.tree.Tree.{Tree}
use Rattle.need_server.specs.Kept.{kept_tree}
use Rattle.message_types.specs.declared.asking.Change.{Change as ChangeOf}
use Rattle.message_types.specs.declared.message.Body.TheVariants.{Change, Done}
use Rattle.message_types.specs.declared.telling.Done.{Done as DoneOf}
use Rattle.message_types.specs.declared.telling.DoneIs.TheVariants.{Known}
use Rattle.script_lines.specs.declared.script.Script.{Script}
use Rattle.need_laws.specs.Known.{SameAt}
use Rattle.run_rules.specs.Doings.{SentTo, doings_of}
use Rattle.run_rules.specs.Kept.{filesets_kept}
use Rattle.run_rules.specs.Messages.{Said}
use Rattle.run_rules.specs.Past.{Always}
use Rattle.run_rules.specs.Runs.{IsRun, firsts_of, past_of}
use Rattle.run_rules.specs.Steps.{steps_of_host, steps_of_server}
use Rattle.run_rules.specs.Views.{Entered}
use Rattle.run_history.specs.Agreement.{LeadsTo}
use Rattle.run_rules.specs.declared.journal.Journal.{Journal}
use Rattle.run_rules.specs.declared.step.Step.{Step}

-- The Done answers an entering Change that its host said to the server, and the name by which that asked leads to the
-- fileset.
pub record AnswersName
    (past : List Step) (v : ServerId) (h : HostId) (done : DoneOf) (id : FilesetId) (tree_is : Tree) : Type 0 where
  pub change : ChangeOf
  pub epoch : ℕ
  pub moves : ℕ
  pub said : Said (steps_of_host h past) v epoch moves (Change change)
  pub enters : change.enter ≡ true
  pub fileset : change.fileset ≡ done.fileset
  pub number : change.number ≡ done.bring.number
  pub name : List ℕ
  pub asks : fileset_of change.call ≡ Some (v, name)
  pub leads : LeadsTo tree_is v name id

-- so it is with each Done that a server has sent and that tells a fileset's number
pub record NamesStand (firsts : ServerId → ℕ) (past : List Step) (tree_is : Tree) : Type 0 where
  pub told : (v : ServerId) (h : HostId) (e n : ℕ) (done : DoneOf) (id : FilesetId)
      → SentTo (doings_of (firsts v) v past) h e n (Done done) → done.outcome ≡ Known id
      → AnswersName past v h done id tree_is

-- at the start nothing was told
abbrev pub NamesStartSo : Type 0
NamesStartSo = (firsts : ServerId → ℕ) (tree_is : Tree) → NamesStand firsts [] tree_is

-- then what a host has entered leads there
abbrev pub NamesAreKnown : Type 0
NamesAreKnown =
    (script : Script) (journal : Journal) → IsRun script journal
    → Always (λ past s. (h : HostId) (tree_is : Tree) → s.node ≡ Host h
    → NamesStand (firsts_of journal) past tree_is → (server : ServerId) (name : List ℕ) (id : FilesetId)
    → Entered (s ∷ steps_of_host h past) server name id → LeadsTo tree_is server name id) (past_of journal)

-- and so it stays through a step that leaves names leading on, and a tree with what each server keeps
abbrev pub NamesGoOn : Type 0
NamesGoOn =
    (script : Script) (journal : Journal) (run : IsRun script journal)
    → Always (λ past s. (old new : Tree) → NamesStand (firsts_of journal) past old
    → ((server : ServerId) (name : List ℕ) (id : FilesetId) → LeadsTo old server name id → LeadsTo new server name id)
    → ((v : ServerId) → SameAt v (filesets_kept run.start v (steps_of_server v (s ∷ past))) (kept_tree new))
    → NamesStand (firsts_of journal) (s ∷ past) new) (past_of journal)
