-- What a server's step leaves of the tree, as a whole.
use Rattle.std.proofs.Common.{Bool, List, ap, false, refl, subst, sym, true, ℕ, ◌++◌, ◌==◌, ◌∙◌, ◌∷◌, ◌≡◌}
use Rattle.std.proofs.lemmas.Bool.{eqb-false}
use Rattle.std.specs.List.{flat_map}
use Rattle.std.specs.Prelude.{if◌then◌else◌}
use Rattle.base_types.specs.declared.ids.Fid.{Fid}
use Rattle.base_types.specs.declared.ids.Node.TheVariants.{Server}
use Rattle.base_types.specs.declared.ids.ServerId.{ServerId}
use Rattle.tree_calls.specs.declared.entry.Entry.{Entry}
use Rattle.tree_answers.specs.Histories.{IsHistory, IsLegal, after_history}
use Rattle.tree_answers.specs.declared.tree.Tree.{Tree}
use Rattle.script_lines.specs.declared.script.Script.{Script}
use Rattle.tree_laws.specs.Parts.{Part, cell_at}
use Rattle.run_rules.specs.Doings.{after_cause, doings_of}
use Rattle.run_rules.specs.Kept.{filesets_kept, filesets_through}
use Rattle.run_rules.specs.Past.{In}
use Rattle.run_rules.specs.Runs.{StepMeets, StepsMeet, call_entry, entries_in}
use Rattle.run_rules.specs.ServerDecides.{by_cause, decisions}
use Rattle.run_rules.specs.Steps.{steps_of_server}
use Rattle.run_rules.specs.declared.applied.Applied.TheVariants.{Replied}
use Rattle.run_history.specs.Agreement.{CausedCells}
use Rattle.run_history.specs.Changes.{EachChange}
use Rattle.run_history.proofs.Decisions.{Amid, Fits, all_changes}
use Rattle.run_history.proofs.Passing.{last_else, last_here}
use Rattle.run_history.proofs.Serving.{Before, Known, leaves_caused}
use Rattle.run_history.proofs.Stands.{StandsNext, after_both, both_histories, flat_both, parts_of}
use Rattle.run_history.specs.PastStanding.{KeepsAs, LeadsOn, Stands}
use Rattle.run_parts.specs.Contents.{Contents, site}
use Rattle.run_parts.specs.Legal.{Cells, cells_served, tree}
use Rattle.run_contents.proofs.Bodies.{server_is}
use Rattle.run_contents.proofs.Keeping.{split}
use Rattle.run_contents.specs.Doing.{decided, deeds_at}
use Rattle.run_contents.specs.Instance.{IsOfRun}
use Rattle.run_rules.specs.declared.applied.Answer.{Answer}
use Rattle.run_rules.specs.declared.step.Step.{Step}
use Rattle.run_history.specs.UseGranted.{GrantedThrough}

module _ (script : Script) (start : Tree) (firsts : ServerId → ℕ) (c : Contents) (of_run : IsOfRun start firsts c)
    (past : List Step) (run : StepsMeet script start firsts past) (v : ServerId) (s : Step)
    (m : StepMeets script start firsts (Server v) past s) (node : s.node ≡ Server v)
    (deeds_are : c.deeds past s ≡ deeds_at start firsts (Server v) past s) where
  abbrev K : Tree
  K = filesets_kept start v (steps_of_server v past)

  abbrev caused : Tree
  caused = filesets_through s.cause (by_cause s.applied) K

  abbrev cells_then : Cells
  cells_then = CausedCells v K s (tree c past)

  abbrev K_last : Tree
  K_last = filesets_through s.cause (decisions s.applied) caused

  abbrev cells_last : Cells
  cells_last = cells_served (decided v s.cause caused (decisions s.applied)) cells_then

  -- the last tree of the step agrees with the run after it
  stands_last : (old t : Tree) → Amid script start c past v K_last cells_last old t
      → StandsNext script start c past s (Server v) t
  stands_last old t a = record {
    formed = a.formed;
    roster_is = a.roster_is;
    unmoved = a.unmoved;
    homes = a.homes;
    keeps = λ w. keeps w (v.0 == w.0) refl;
    cells = λ f p. cells f p (v.0 == (site f).0) refl;
  }
    where
      keeps : (w : ServerId) (b : Bool) → (v.0 == w.0) ≡ b
          → KeepsAs w (filesets_kept start w (if b then s ∷ steps_of_server w past else steps_of_server w past)) t
      keeps w true e =
          subst (λ (u : ServerId). KeepsAs u (filesets_kept start u (s ∷ steps_of_server u past)) t) (server_is v w e)
          (subst (λ (k : Tree). KeepsAs v k t) (sym (split s.cause s.applied K)) a.keeps)
      keeps w false e = a.others w (λ q. eqb-false v.0 w.0 e (ap (λ (u : ServerId). u.0) (sym q)))

      cells : (f : Fid) (p : Part) (b : Bool) → (v.0 == (site f).0) ≡ b
          → cell_at t f p ≡ (if v.0 == (site f).0 then cells_served (c.deeds past s)
          (tree c past) f p else tree c past f p)
      cells f p true e =
          let at : site f ≡ v = sym (server_is v (site f) e) in
          a.cells_here f p at
          ∙ sym (last_here script start firsts c of_run past run v s m node deeds_are f p at)
      cells f p false e =
          let other : site f ≡ v → ⊥ = λ q. eqb-false v.0 (site f).0 e (ap (λ (u : ServerId). u.0) (sym q)) in
          a.cells_else f p other
          ∙ sym (last_else script start firsts c of_run past run v s m node deeds_are f p other)

  module _ (Labels Labels_then : Tree → Type 0)
      (labels_same : (a b : Tree) → a.locks ≡ b.locks → a.opens ≡ b.opens → Labels a → Labels b)
      (then_same : (a b : Tree) → a.locks ≡ b.locks → a.opens ≡ b.opens → Labels_then a → Labels_then b)
      (t : Tree) (stands : Stands script start c past t) (labels : Labels t)
      (ends_legal : (now : Tree) → now.roster ≡ script.roster → Labels now → (a : Answer) → In (Replied a) s.applied
      → IsLegal now (call_entry a))
      (labels_caused : Labels_then (after_history t (flat_map (entries_in v) (by_cause s.applied))))
      (known : Known script start firsts c past run v s m node)
      (fits : EachChange (Fits script start c past v s Labels_then then_same) s.cause caused
      (after_cause s.cause (doings_of (firsts v) v past)) (decisions s.applied))
      (granted : GrantedThrough v s.cause caused (after_cause s.cause (doings_of (firsts v) v past)) cells_then
      (decisions s.applied)) where
    abbrev Leaves : List Entry → Type 0
    Leaves xs =
        IsHistory t xs × StandsNext script start c past s (Server v) (after_history t xs)
        × LeadsOn t (after_history t xs) × Labels_then (after_history t xs)

    abbrev first : List Entry
    first = flat_map (entries_in v) (by_cause s.applied)

    abbrev second : List Entry
    second = flat_map (entries_in v) (decisions s.applied)

    before : Before script start firsts c past run v s m node t
    before = record {
      formed = stands.formed;
      roster_is = stands.roster_is;
      unmoved = stands.unmoved;
      homes = stands.homes;
      keeps = stands.keeps;
      cells = stands.cells;
    }

    caused_leaves : IsHistory t first × Amid script start c past v caused cells_then t (after_history t first)
    caused_leaves =
        leaves_caused script start firsts c past run v s m node t before known
        (λ now roster locks opens a i. ends_legal now roster (labels_same t now (sym locks) (sym opens) labels) a i)

    decided_leaves : IsHistory (after_history t first) second
        × Amid script start c past v K_last cells_last t (after_history (after_history t first) second)
        × Labels_then (after_history (after_history t first) second)
    decided_leaves =
        all_changes script start c past v s Labels_then then_same (decisions s.applied)
        (after_cause s.cause (doings_of (firsts v) v past)) caused cells_then t (after_history t first)
        m.0.works.applies.decided fits granted caused_leaves.1 labels_caused

    both_leave : Leaves (first ++ second)
    both_leave =
        let q = after_both t first second in (
          both_histories t first second caused_leaves.0 decided_leaves.0,
          subst (StandsNext script start c past s (Server v)) (sym q)
              (stands_last t (after_history (after_history t first) second) decided_leaves.1),
          subst (LeadsOn t) (sym q) decided_leaves.1.leads,
          subst Labels_then (sym q) decided_leaves.2,
        )

    pub leaves_step : Leaves (flat_map (entries_in v) s.applied)
    leaves_step =
        subst Leaves
        (sym (flat_both (entries_in v) (by_cause s.applied) (decisions s.applied))
        ∙ ap (λ xs. flat_map (entries_in v) xs) (parts_of s.applied)) both_leave
