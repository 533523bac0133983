-- In every run what is unsaved is under granted tokens at each decision.
use Rattle.std.proofs.Common.{List, ap, subst, suc, sym, true, ℕ, ◌++◌, ◌==◌, ◌∙◌, ◌∷◌, ◌≡◌}
use Rattle.std.proofs.lemmas.Bool.{false≢true}
use Rattle.std.specs.List.{list_all}
use Rattle.std.specs.Prelude.{[], if◌then◌else◌}
use Rattle.base_types.specs.declared.ids.Fid.{Fid}
use Rattle.base_types.specs.declared.ids.Node.TheVariants.{Server}
use Rattle.base_types.specs.declared.ids.ServerId.{ServerId}
use Rattle.tree_answers.specs.declared.tree.Tree.{Tree}
use Rattle.message_types.specs.declared.message.Message.{Message}
use Rattle.script_lines.specs.declared.script.Script.{Script}
use Rattle.tree_laws.proofs.Steps.{same_number}
use Rattle.tree_laws.specs.Parts.{Cell, Part, Seen}
use Rattle.run_rules.specs.Doings.{Doing, admitting, after_cause, doings_of, epoch, sending}
use Rattle.run_rules.specs.Doings.Doing.{Gets}
use Rattle.run_rules.specs.Doings.Doing.{BeginsEpoch, Flushes, MakesWant, Moves, Reserves, Took, WritesDown}
use Rattle.run_rules.specs.Kept.{filesets_after, filesets_kept, filesets_through}
use Rattle.run_rules.specs.Past.{Always}
use Rattle.run_rules.specs.Runs.{IsRun, StepMeets, StepsMeet, firsts_of, past_of}
use Rattle.run_rules.specs.ServerDecides.{by_cause, decisions, is_decision}
use Rattle.run_rules.specs.Steps.{steps_of_server}
use Rattle.run_rules.specs.declared.applied.Applied.TheVariants.{Done as IsDone, Moves as IsMoved, Stored}
use Rattle.run_rules.specs.declared.applied.Applied.TheVariants.{Wants as IsWanted}
use Rattle.run_parts.specs.Doings.{doings_cause}
use Rattle.run_history.proofs.Granting.{unsaved_is_granted}
use Rattle.run_history.specs.Agreement.{CausedCells}
use Rattle.run_history.specs.Granted.{EachGranted, GrantedAt}
use Rattle.run_rules.specs.declared.journal.Journal.{Journal}
use Rattle.run_parts.specs.Cells.{Does, cell_after}
use Rattle.run_parts.specs.Cells.Does.{Nothing}
use Rattle.run_parts.specs.Contents.{Contents, site}
use Rattle.run_parts.specs.Deeds.{Deed, acts_in}
use Rattle.run_parts.specs.Legal.{Cells, served as served_deeds, tree}
use Rattle.run_contents.proofs.Caused.{no_message}
use Rattle.run_contents.proofs.DeedSteps.{deeds_stand}
use Rattle.run_contents.specs.Doing.{Effect, at_home, decided, deeds_at, deeds_of, does_first, does_nothing, with_doing}
use Rattle.run_contents.specs.Doing.{writes}
use Rattle.run_contents.specs.Instance.{IsOfRun}
use Rattle.run_rules.specs.declared.applied.Applied.{Applied}
use Rattle.run_rules.specs.declared.step.Cause.{Cause}
use Rattle.run_rules.specs.declared.step.Cause.TheVariants.{End, Evict, Flushed, Freight, Lapse, Line, Message as Came}
use Rattle.run_rules.specs.declared.step.Cause.TheVariants.{Restart}
use Rattle.run_rules.specs.declared.step.Step.{Step}
use Rattle.run_rules.specs.Doings.{shipping}
use Rattle.run_history.specs.UseGranted.{CellsWritten, DecidesGranted, DecisionsAreGranted, GrantedThrough}

module _ (v : ServerId) (cause : Cause) where
  -- only the cells of the server's files count
  abbrev SameCells : Cells → Cells → Type 0
  SameCells a b = (f : Fid) (p : Part) → site f ≡ v → a f p ≡ b f p

  same_granted : (S : List Doing) (a b : Cells) → SameCells a b → GrantedAt v S a → GrantedAt v S b
  same_granted S a b same all grace f p u home e =
      all grace f p u home (ap (λ (z : Cell (Seen p)). z.unsaved) (same f p home) ∙ e)

  same_through : (xs : List Applied) (K : Tree) (S : List Doing) (a b : Cells) → SameCells a b
      → GrantedThrough v cause K S a xs → GrantedThrough v cause K S b xs
  same_through [] K S a b same g = tt
  same_through (IsDone x ∷ xs) K S a b same g = (
    same_granted S a b same g.0,
    same_through xs (filesets_after cause K (IsDone x)) (WritesDown x ∷ S) (CellsWritten v cause K x a)
        (CellsWritten v cause K x b)
        (λ f p at. ap (λ (z : Cell (Seen p)). cell_after p (at_home v (writes cause K x) f p) z) (same f p at)) g.1,
  )
  same_through (IsWanted x ∷ xs) K S a b same g = same_through xs K (MakesWant x ∷ S) a b same g
  same_through (Stored h f ss n ∷ xs) K S a b same g =
      same_through xs (filesets_after cause K (Stored h f ss n)) S a b same g
  same_through (IsMoved move ∷ xs) K S a b same g = same_through xs K (Moves move ∷ S) a b same g
  same_through (_ ∷ xs) K S a b same g = same_through xs K S a b same g

  -- the decisions among the deeds of a step
  through : (xs : List Applied) (rest D : List Deed) (K : Tree) (cells : Cells) → list_all is_decision xs ≡ true
      → EachGranted v (decided v cause K xs ++ rest) D cells → GrantedThrough v cause K (acts_in D) cells xs
  through [] rest D K cells all g = tt
  through (IsDone x ∷ xs) rest D K cells all g = (
    g.0,
    through xs rest (record { act = WritesDown x; does = at_home v (writes cause K x) } ∷ D) (filesets_after cause K (IsDone x))
        (CellsWritten v cause K x cells) all g.1,
  )
  through (IsWanted x ∷ xs) rest D K cells all g =
      through xs rest (record { act = MakesWant x; does = does_nothing } ∷ D) K cells all g.1
  through (_ ∷ xs) rest D K cells all g = absurd (false≢true all)

  abbrev CellsFirst : Effect → Cells → Cells
  CellsFirst does cells f p = cell_after p (does f p) (cells f p)

  -- after the cause: what it does is nothing, where it is no message
  module _ (does : Effect) (K : Tree) (D : List Deed) (cells : Cells) (xs : List Applied) (rest : List Deed)
      (all : list_all is_decision xs ≡ true) where
    abbrev Granting : Cause → Type 0
    Granting x =
        EachGranted v (with_doing does (doings_cause x (acts_in D) []) ++ (decided v cause K xs ++ rest)) D cells
        → (((m : Message) → x ≡ Came m → ⊥) → (f : Fid) (p : Part) → does f p ≡ Nothing)
        → GrantedThrough v cause K (after_cause x (acts_in D)) (CellsFirst does cells) xs

    bare : EachGranted v (decided v cause K xs ++ rest) D cells → ((f : Fid) (p : Part) → does f p ≡ Nothing)
        → GrantedThrough v cause K (acts_in D) (CellsFirst does cells) xs
    bare g none =
        same_through xs K (acts_in D) cells (CellsFirst does cells)
        (λ f p at. ap (λ (d : Does (Seen p)). cell_after p d (cells f p)) (sym (none f p)))
        (through xs rest D K cells all g)

    one : (act : Doing) → EachGranted v (record { act = act; does = does } ∷ (decided v cause K xs ++ rest)) D cells
        → GrantedThrough v cause K (act ∷ acts_in D) (CellsFirst does cells) xs
    one act g = through xs rest (record { act = act; does = does } ∷ D) K (CellsFirst does cells) all g.1

    from_cause : (x : Cause) → Granting x
    from_cause (Came m) g none = one (Took m.host m.epoch m.moves m.body) g
    from_cause (Restart line) g none = one (BeginsEpoch (suc (epoch (acts_in D)))) g
    from_cause Flushed g none = one Flushes g
    from_cause (Line line) g none = bare g (none (λ m q. cc))
    from_cause Lapse g none = bare g (none (λ m q. cc))
    from_cause Evict g none = bare g (none (λ m q. cc))
    from_cause (Freight freight) g none = one (Gets freight.server freight.moves freight.body) g
    from_cause End g none = bare g (none (λ m q. cc))

module _ (script : Script) (journal : Journal) (run : IsRun script journal) (c : Contents)
    (of_run : IsOfRun run.start (firsts_of journal) c) where
  abbrev start : Tree
  start = run.start

  abbrev firsts : ServerId → ℕ
  firsts = firsts_of journal

  abbrev Granted_at : List Step → Step → Type 0
  Granted_at past s =
      (v : ServerId) → s.node ≡ Server v
      → EachGranted v (c.deeds past s) (served_deeds c (firsts v) v past) (tree c past)

  -- a step of a server
  module _ (past : List Step) (s : Step) (steps : StepsMeet script start firsts past) (v : ServerId)
      (e : s.node ≡ Server v) (meets : StepMeets script start firsts s.node past s)
      (granted : EachGranted v (c.deeds past s) (served_deeds c (firsts v) v past) (tree c past)) where
    abbrev K : Tree
    K = filesets_kept start v (steps_of_server v past)

    abbrev K1 : Tree
    K1 = filesets_through s.cause (by_cause s.applied) K

    abbrev S : List Doing
    S = doings_of (firsts v) v past

    abbrev D : List Deed
    D = served_deeds c (firsts v) v past

    abbrev xs : List Applied
    xs = decisions s.applied

    abbrev does : Effect
    does = does_first s.cause K (by_cause s.applied)

    abbrev rest : List Deed
    rest = with_doing does_nothing (admitting s.admitted ++ (sending s.sent ++ (shipping s.shipped ++ (Reserves s.reserved ∷ []))))

    m : StepMeets script start firsts (Server v) past s
    m = subst (λ n. StepMeets script start firsts n past s) e meets

    doings_are : acts_in D ≡ S
    doings_are = (deeds_stand script journal run c of_run past steps v).doings_are

    deeds_are : c.deeds past s ≡ deeds_of v K (acts_in D) s
    deeds_are =
        of_run.deeds past s
        ∙ (ap (λ n. deeds_at start firsts n past s) e ∙ ap (λ T. deeds_of v K T s) (sym doings_are))

    now : GrantedThrough v s.cause K1 (after_cause s.cause S) (CellsFirst v s.cause does (tree c past)) xs
    now =
        subst (λ T. GrantedThrough v s.cause K1 (after_cause s.cause T) (CellsFirst v s.cause does (tree c past)) xs)
        doings_are
        (from_cause v s.cause does K1 D (tree c past) xs rest m.0.works.applies.decided s.cause
        (subst (λ ds. EachGranted v ds D (tree c past)) deeds_are granted)
        (λ none f p. ap (λ a. does_first s.cause K a f p) (no_message v S K s m.0.works.applies none)))

    same : (f : Fid) (p : Part) → site f ≡ v → CellsFirst v s.cause does (tree c past) f p
        ≡ (if v.0 == (site f).0 then cell_after p (does f p) (tree c past f p) else tree c past f p)
    same f p at =
        ap (λ b. if b then cell_after p (does f p) (tree c past f p) else tree c past f p)
        (sym (ap (λ (w : ServerId). v.0 == w.0) at ∙ same_number v.0))

    step : GrantedThrough v s.cause K1 (after_cause s.cause S) (CausedCells v K s (tree c past)) xs
    step =
        same_through v s.cause xs K1 (after_cause s.cause S) (CellsFirst v s.cause does (tree c past))
        (CausedCells v K s (tree c past)) same now

  all_granted : (past : List Step) → StepsMeet script start firsts past → Always Granted_at past
      → Always (DecidesGranted start firsts c) past
  all_granted [] steps g = tt
  all_granted (s ∷ past) steps g = (all_granted past steps.0 g.0, λ v e. step past s steps.0 v e steps.1.0 (g.1 v e))

pub decisions_granted : DecisionsAreGranted
decisions_granted script journal run c of_run =
    all_granted script journal run c of_run (past_of journal) run.steps (unsaved_is_granted script journal run c of_run)
