-- When a tree agrees with a run. Lists of steps have the newest first.
use Rattle.std.specs.List.{list_all}
use Rattle.std.specs.Prelude.{List, [], true, ℕ, ◌==◌, ◌∷◌, ◌≡◌}
use Rattle.base_types.specs.declared.ids.Fid.{Fid}
use Rattle.base_types.specs.declared.ids.FilesetId.{FilesetId}
use Rattle.base_types.specs.declared.ids.ServerId.{ServerId}
use Rattle.tree_answers.specs.Histories.{IsHistory, after_history}
use Rattle.tree_answers.specs.WellFormed.{IsWellFormed}
use Rattle.tree_answers.specs.declared.tree.Tree.{Tree}
use Rattle.need_server.specs.Kept.{kept_tree}
use Rattle.script_lines.specs.declared.script.Script.{Script}
use Rattle.need_laws.specs.Known.{SameAt}
use Rattle.tree_laws.specs.Parts.{Part, cell_at}
use Rattle.run_history.specs.Agreement.{LeadsTo}
use Rattle.run_history.specs.Changes.{are_home}
use Rattle.run_rules.specs.Kept.{filesets_kept}
use Rattle.run_rules.specs.Runs.{entries_of}
use Rattle.run_rules.specs.Steps.{steps_of_server}
use Rattle.run_parts.specs.Contents.{Contents}
use Rattle.run_parts.specs.Legal.{Cells, tree}
use Rattle.run_rules.specs.declared.step.Step.{Step}
use Rattle.run_history.specs.UseStanding.{LabelsStand}

-- a server keeps of a tree just that: its filesets, with nothing in use
pub record KeepsAs (v : ServerId) (K t : Tree) : Type 0 where
  pub same : SameAt v K (kept_tree t)
  pub own : list_all (λ fileset. fileset.server.0 == v.0) K.filesets ≡ true
  pub locks : K.locks ≡ []
  pub opens : K.opens ≡ []

-- A tree agrees with what servers keep and with what stands at the parts of objects: it is well formed, with the
-- run's roster, each fileset is where it was made, and what each server keeps is what is kept of it.
pub record Agrees (script : Script) (kept_now : ServerId → Tree) (cells_now : Cells) (t : Tree) : Type 0 where
  pub formed : IsWellFormed t
  pub roster_is : t.roster ≡ script.roster
  pub unmoved : t.away ≡ []
  pub homes : are_home t ≡ true
  pub keeps : (v : ServerId) → KeepsAs v (kept_now v) t
  pub cells : (f : Fid) (p : Part) → cell_at t f p ≡ cells_now f p

-- so it does with a run after some steps
abbrev pub Stands : Script → Tree → Contents → List Step → Tree → Type 0
Stands script start c past t = Agrees script (λ v. filesets_kept start v (steps_of_server v past)) (tree c past) t

-- names lead on from one tree to another
abbrev pub LeadsOn : Tree → Tree → Type 0
LeadsOn old new =
    (server : ServerId) (name : List ℕ) (id : FilesetId) → LeadsTo old server name id → LeadsTo new server name id

-- A step passes a tree on: its entries are legal there, and the tree after them agrees with the run after the step,
-- with the labels in use that the run then has, and with each name still leading to its fileset.
pub record PassesOn
    (script : Script) (start : Tree) (firsts : ServerId → ℕ) (c : Contents) (past : List Step) (s : Step) (t : Tree)
    : Type 0 where
  pub legal : IsHistory t (entries_of s)
  pub stands : Stands script start c (s ∷ past) (after_history t (entries_of s))
  pub labels : LabelsStand firsts (s ∷ past) (after_history t (entries_of s))
  pub leads : LeadsOn t (after_history t (entries_of s))
