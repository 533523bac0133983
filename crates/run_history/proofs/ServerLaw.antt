-- In every run servers store legally, and what they lose by a Down is what the tree forgets.
use Rattle.std.proofs.Common.{List, Option, [], subst, ℕ, ◌∷◌, ◌≡◌}
use Rattle.base_types.specs.declared.ids.Fid.{Fid}
use Rattle.base_types.specs.declared.ids.HostId.{HostId}
use Rattle.base_types.specs.declared.ids.Node.{Node}
use Rattle.base_types.specs.declared.ids.Node.TheVariants.{Host, Server}
use Rattle.base_types.specs.declared.ids.ServerId.{ServerId}
use Rattle.base_types.specs.declared.span.Span.{Span}
use Rattle.tree_calls.specs.declared.entry.Entry.TheVariants.{Down, Stored as StoredEntry}
use Rattle.tree_answers.specs.Histories.{IsLegal, after_entry}
use Rattle.tree_answers.specs.WellFormed.{IsWellFormed}
use Rattle.tree_answers.specs.declared.tree.Tree.{Tree}
use Rattle.script_lines.specs.declared.script.Script.{Script}
use Rattle.tree_laws.specs.Parts.{Part, cell_at}
use Rattle.run_rules.specs.Doings.{doings_of}
use Rattle.run_rules.specs.Kept.{filesets_kept}
use Rattle.run_rules.specs.Past.{Always, In}
use Rattle.run_rules.specs.Runs.{IsRun, StepMeets, StepsMeet, firsts_of, past_of}
use Rattle.run_rules.specs.Steps.{steps_of_server}
use Rattle.run_rules.specs.declared.applied.Applied.TheVariants.{IsDown, Stored}
use Rattle.run_tokens.specs.TokenLaws.{IsTokenRun}
use Rattle.run_history.proofs.Causing.{cells_lost, cells_stored, legal_store}
use Rattle.run_history.specs.Agreement.{AreHome, CausedCells, CellsAgree, DownsForget, ServersStoreLegally}
use Rattle.run_history.specs.Agreement.{StoresLegally}
use Rattle.run_rules.specs.declared.journal.Journal.{Journal}
use Rattle.run_parts.proofs.PlaceLaw.{Kept, coherent}
use Rattle.run_parts.specs.Contents.{Contents}
use Rattle.run_parts.specs.Deeds.{acts_in}
use Rattle.run_parts.specs.Legal.{ContentsRun, LegalStep, served as served_deeds, tree}
use Rattle.run_contents.proofs.DeedSteps.{deeds_stand, runs_meet}
use Rattle.run_contents.proofs.Sent.{At}
use Rattle.run_contents.proofs.Uses.{run_tokens}
use Rattle.run_contents.specs.Doing.{deeds_at}
use Rattle.run_contents.specs.Instance.{IsOfRun}
use Rattle.run_rules.specs.declared.step.Step.{Step}

one_server : (a b : ServerId) → Server a ≡ Server b → a ≡ b
one_server a b e = cc

module _ (script : Script) (start : Tree) (firsts : ServerId → ℕ) (c : Contents) (of_run : IsOfRun start firsts c) where
  abbrev Stands_so : List Step → Type 0
  Stands_so past =
      (v : ServerId) → (acts_in (served_deeds c (firsts v) v past) ≡ doings_of (firsts v) v past)
      × At c v (served_deeds c (firsts v) v past) (filesets_kept start v (steps_of_server v past))

  -- what a step does at its server
  abbrev Holds_at : Node → List Step → Step → Type 0
  Holds_at n past s =
      (v : ServerId) (tree_is : Tree) → n ≡ Server v → IsWellFormed tree_is → CellsAgree c past tree_is
      → ((h : HostId) (fid : Fid) (spans : List Span) (len : Option ℕ) → In (Stored h fid spans len) s.applied
      → IsLegal tree_is (StoredEntry h fid spans len)
      × ((f : Fid) (p : Part) → cell_at (after_entry tree_is (StoredEntry h fid spans len)) f p
      ≡ CausedCells v (filesets_kept start v (steps_of_server v past)) s (tree c past) f p))
      × ((h : HostId) → In (IsDown h) s.applied → AreHome tree_is → (f : Fid) (p : Part)
      → cell_at (after_entry tree_is (Down h v)) f p
      ≡ CausedCells v (filesets_kept start v (steps_of_server v past)) s (tree c past) f p)

  at_node : (n : Node) (past : List Step) (s : Step) → StepsMeet script start firsts past
      → StepMeets script start firsts n past s → Kept c firsts past → Stands_so past
      → c.deeds past s ≡ deeds_at start firsts n past s → LegalStep c firsts n s past → Holds_at n past s
  at_node (Host k) past s run m kept_now stands deeds legal v tree_is e formed cells =
      absurd (let q : Host k ≡ Server v = e in cc)
  at_node (Server k) past s run m kept_now stands deeds legal v tree_is e formed cells =
      subst (λ (w : ServerId).
      ((h : HostId) (fid : Fid) (spans : List Span) (len : Option ℕ) → In (Stored h fid spans len) s.applied
      → IsLegal tree_is (StoredEntry h fid spans len)
      × ((f : Fid) (p : Part) → cell_at (after_entry tree_is (StoredEntry h fid spans len)) f p
      ≡ CausedCells w (filesets_kept start w (steps_of_server w past)) s (tree c past) f p))
      × ((h : HostId) → In (IsDown h) s.applied → AreHome tree_is → (f : Fid) (p : Part)
      → cell_at (after_entry tree_is (Down h w)) f p
      ≡ CausedCells w (filesets_kept start w (steps_of_server w past)) s (tree c past) f p)) (let q : Server k ≡ Server v = e in one_server k v q) (
        λ h fid spans len i. (
          legal_store script start firsts c of_run past run k s m kept_now (stands k).0 (stands k).1 deeds legal tree_is
              formed cells h fid spans len i,
          cells_stored script start firsts c of_run past run k s m kept_now (stands k).0 (stands k).1 deeds legal tree_is
              formed cells h fid spans len i,
        ),
        λ h i homes f p. cells_lost script start firsts c of_run past run k s m kept_now (stands k).0 (stands k).1 deeds
            legal tree_is formed cells h i homes f p,
      )

  each_holds : ((past : List Step) → StepsMeet script start firsts past → Stands_so past) → (past : List Step)
      → StepsMeet script start firsts past → IsTokenRun firsts past → ContentsRun c firsts past
      → Always (λ before s. Holds_at s.node before s) past
  each_holds stands [] run tokens rules = tt
  each_holds stands (s ∷ past) run tokens rules = (
    each_holds stands past run.0 tokens.0 rules.0,
    at_node s.node past s run.0 run.1.0 (coherent c firsts past tokens.0 rules.0).0 (stands past run.0)
        (of_run.deeds past s) (coherent c firsts (s ∷ past) tokens rules).1.1,
  )

always_map : {A : Type 0} (P Q : List A → A → Type 0) → ((past : List A) (x : A) → P past x → Q past x)
    → (xs : List A) → Always P xs → Always Q xs
always_map P Q to [] all = tt
always_map P Q to (x ∷ xs) all = (always_map P Q to xs all.0, to xs x all.1)

module _ (script : Script) (journal : Journal) (run : IsRun script journal) (c : Contents)
    (of_run : IsOfRun run.start (firsts_of journal) c) where
  all_hold : Always (λ before s. Holds_at script run.start (firsts_of journal) c of_run s.node before s) (past_of journal)
  all_hold =
      each_holds script run.start (firsts_of journal) c of_run
      (λ past steps v.
      let k = deeds_stand script journal run c of_run past steps v in
      (k.doings_are, k.at)) (past_of journal) run.steps (run_tokens script journal run)
      (runs_meet script journal run c of_run)

pub store_legally : ServersStoreLegally StoresLegally
store_legally script journal run c of_run =
    always_map (λ before s. Holds_at script run.start (firsts_of journal) c of_run s.node before s)
    (StoresLegally run.start c)
    (λ past s all v tree_is e formed cells h fid spans len i. (all v tree_is e formed cells).0 h fid spans len i)
    (past_of journal) (all_hold script journal run c of_run)

pub downs_forget : ServersStoreLegally DownsForget
downs_forget script journal run c of_run =
    always_map (λ before s. Holds_at script run.start (firsts_of journal) c of_run s.node before s)
    (DownsForget run.start c)
    (λ past s all v tree_is e formed homes cells h i. (all v tree_is e formed cells).1 h i homes)
    (past_of journal) (all_hold script journal run c of_run)
