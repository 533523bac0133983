-- A tree that agrees with a run at a host's step. Lists of steps have the newest first.
use Rattle.std.specs.Prelude.{List, Ok, Option, if◌then◌else◌, true, ℕ, ◌==◌, ◌∷◌, ◌≡◌, ◌↔◌}
use Rattle.base_types.specs.declared.ids.Fid.{Fid}
use Rattle.base_types.specs.declared.ids.FilesetId.{FilesetId}
use Rattle.base_types.specs.declared.ids.HostId.{HostId}
use Rattle.base_types.specs.declared.ids.Node.TheVariants.{Host, Server}
use Rattle.base_types.specs.declared.ids.ServerId.{ServerId}
use Rattle.base_types.specs.declared.span.Span.{Span}
use Rattle.tree_calls.specs.declared.entry.Entry.TheVariants.{Down, Stored as StoredEntry}
use Rattle.tree_calls.specs.declared.roster.Roster.{Roster}
use Rattle.tree_filesets.specs.declared.fileset.Fileset.{Fileset}
use Rattle.tree_answers.specs.Finding.{fileset_named}
use Rattle.tree_answers.specs.Histories.{IsLegal, after_entry}
use Rattle.tree_answers.specs.WellFormed.{IsWellFormed}
use Rattle.tree_answers.specs.declared.tree.LockUse.{LockUse}
use Rattle.tree_answers.specs.declared.tree.OpenUse.{OpenUse}
use Rattle.tree_answers.specs.declared.tree.Tree.{Tree}
use Rattle.tree_laws.specs.Labels.{UsesAgree}
use Rattle.script_lines.specs.declared.script.Script.{Script}
use Rattle.token_types.specs.Conflicts.{kinds_conflict}
use Rattle.token_types.specs.declared.token.Kind.TheVariants.{Lock as LockToken, Opening}
use Rattle.tree_laws.specs.Parts.{Part, cell_at}
use Rattle.run_rules.specs.Kept.{filesets_kept}
use Rattle.run_rules.specs.Messages.{home}
use Rattle.run_rules.specs.Past.{Always, In}
use Rattle.run_rules.specs.Runs.{IsRun, call_entry, firsts_of, past_of}
use Rattle.run_rules.specs.ServerDecides.{by_cause}
use Rattle.run_rules.specs.Steps.{steps_of_host, steps_of_server}
use Rattle.run_rules.specs.Views.{Entered, HasLabel, IsLock, IsOpening}
use Rattle.run_rules.specs.declared.applied.Applied.TheVariants.{IsDown, Stored}
use Rattle.run_rules.specs.declared.journal.Journal.{Journal}
use Rattle.run_parts.specs.Cells.{cell_after}
use Rattle.run_parts.specs.Contents.{Contents, site}
use Rattle.run_parts.specs.Legal.{Cells, tree}
use Rattle.run_contents.specs.Doing.{does_first}
use Rattle.run_contents.specs.Instance.{IsOfRun}
use Rattle.run_rules.specs.declared.applied.Answer.{Answer}
use Rattle.run_rules.specs.declared.step.Labelled.{Labelled}
use Rattle.run_rules.specs.declared.step.Step.{Step}

-- the cells of a tree are those of the run
abbrev pub CellsAgree : Contents → List Step → Tree → Type 0
CellsAgree c past tree_is = (f : Fid) (p : Part) → cell_at tree_is f p ≡ tree c past f p

-- a name leads to the fileset of this number
abbrev pub LeadsTo : Tree → ServerId → List ℕ → FilesetId → Type 0
LeadsTo tree_is server name id =
    (fileset : Fileset) × (fileset_named tree_is server name ≡ Ok fileset) × (fileset.id ≡ id)

-- A tree agrees with a run where a host takes a step: it is well formed, with the roster of the run and its cells;
-- names lead to the filesets that the host has entered; in use of the host are the labels that it has, and no label of
-- another host conflicts with one that begins in the step.
pub record AgreesAt (roster : Roster) (c : Contents) (past : List Step) (h : HostId) (s : Step) (tree_is : Tree)
    : Type 0 where
  pub formed : IsWellFormed tree_is
  pub uses : UsesAgree tree_is
  pub roster_is : tree_is.roster ≡ roster
  pub cells : CellsAgree c past tree_is
  pub names : (server : ServerId) (name : List ℕ) (id : FilesetId) → Entered (s ∷ steps_of_host h past) server name id
      → LeadsTo tree_is server name id
  pub locks : (lock : LockUse) → (In lock tree_is.locks × (lock.host ≡ h))
      ↔ ((u : Labelled) × HasLabel (steps_of_host h past) s u × IsLock h lock u)
  pub opens : (opened : OpenUse) → (In opened tree_is.opens × (opened.host ≡ h))
      ↔ ((u : Labelled) × HasLabel (steps_of_host h past) s u × IsOpening h opened u)
  pub locks_free : (lock : LockUse) (u : Labelled) → In lock tree_is.locks → (lock.host ≡ h → ⊥) → In u s.begun
      → lock.fid ≡ u.token.fid → kinds_conflict (LockToken lock.writing lock.span) u.token.kind ≡ true → ⊥
  pub opens_free : (opened : OpenUse) (u : Labelled) → In opened tree_is.opens → (opened.host ≡ h → ⊥) → In u s.begun
      → opened.fid ≡ u.token.fid → kinds_conflict (Opening opened.kind) u.token.kind ≡ true → ⊥

-- each call that the step answers is legal then, and leaves the cells of the run after the step
abbrev pub AnswersLegally : Roster → Contents → List Step → Step → Type 0
AnswersLegally roster c past s =
    (h : HostId) (tree_is : Tree) → s.node ≡ Host h → AgreesAt roster c past h s tree_is → (a : Answer) → In a s.answers
    → IsLegal tree_is (call_entry a) × CellsAgree c (s ∷ past) (after_entry tree_is (call_entry a))

abbrev pub HostsAnswerLegally : Type 0
HostsAnswerLegally =
    (script : Script) (journal : Journal) (run : IsRun script journal) (c : Contents)
    → IsOfRun run.start (firsts_of journal) c
    → Always (AnswersLegally script.roster c) (past_of journal)

-- the cells after the cause of a server's step: what it stores, or loses
abbrev pub CausedCells : ServerId → Tree → Step → Cells → Cells
CausedCells v kept_is s cells f p =
    if v.0 == (site f).0 then cell_after p (does_first s.cause kept_is (by_cause s.applied) f p) (cells f p)
    else cells f p

-- each fileset of a tree is where it was made
abbrev pub AreHome : Tree → Type 0
AreHome tree_is = (fileset : Fileset) → In fileset tree_is.filesets → fileset.server ≡ home fileset.id

-- What the step stores of a give-back is legal in a tree with the cells of the run, and leaves those that the cause of
-- the step leaves; so does a Down.
abbrev pub StoresLegally : Tree → Contents → List Step → Step → Type 0
StoresLegally start c past s =
    (v : ServerId) (tree_is : Tree) → s.node ≡ Server v → IsWellFormed tree_is → CellsAgree c past tree_is
    → (h : HostId) (fid : Fid) (spans : List Span) (len : Option ℕ) → In (Stored h fid spans len) s.applied
    → IsLegal tree_is (StoredEntry h fid spans len)
    × ((f : Fid) (p : Part) → cell_at (after_entry tree_is (StoredEntry h fid spans len)) f p
    ≡ CausedCells v (filesets_kept start v (steps_of_server v past)) s (tree c past) f p)

abbrev pub DownsForget : Tree → Contents → List Step → Step → Type 0
DownsForget start c past s =
    (v : ServerId) (tree_is : Tree) → s.node ≡ Server v → IsWellFormed tree_is → AreHome tree_is
    → CellsAgree c past tree_is → (h : HostId) → In (IsDown h) s.applied → (f : Fid) (p : Part)
    → cell_at (after_entry tree_is (Down h v)) f p
    ≡ CausedCells v (filesets_kept start v (steps_of_server v past)) s (tree c past) f p

abbrev pub ServersStoreLegally : (Tree → Contents → List Step → Step → Type 0) → Type 0
ServersStoreLegally Holds =
    (script : Script) (journal : Journal) (run : IsRun script journal) (c : Contents)
    → IsOfRun run.start (firsts_of journal) c
    → Always (Holds run.start c) (past_of journal)
