-- What stands at the parts of objects through a server's step.
use Rattle.std.proofs.Common.{Bool, List, ap, false, refl, subst, sym, true, ℕ, ◌++◌, ◌==◌, ◌∙◌, ◌∷◌, ◌≡◌, suc}
use Rattle.std.proofs.lemmas.Bool.{false≢true}
use Rattle.std.specs.Prelude.{[], if◌then◌else◌, map}
use Rattle.base_types.specs.declared.ids.Fid.{Fid}
use Rattle.base_types.specs.declared.ids.Node.TheVariants.{Server}
use Rattle.base_types.specs.declared.ids.ServerId.{ServerId}
use Rattle.need_host.specs.Looks.{kept_view}
use Rattle.tree_answers.specs.declared.tree.Tree.{Tree}
use Rattle.message_types.specs.declared.message.Message.{Message}
use Rattle.script_lines.specs.declared.script.Script.{Script}
use Rattle.tree_laws.proofs.Steps.{same_number}
use Rattle.tree_laws.specs.Parts.{Cell, Part, Seen}
use Rattle.run_rules.specs.Doings.{Doing, admitting, doings_of, epoch, sending}
use Rattle.run_rules.specs.Doings.Doing.{Gets}
use Rattle.run_rules.specs.Doings.Doing.{BeginsEpoch, Flushes, Reserves, Took}
use Rattle.run_rules.specs.Kept.{filesets_kept, filesets_through}
use Rattle.run_rules.specs.Runs.{StepMeets, StepsMeet}
use Rattle.run_rules.specs.ServerDecides.{ServerApplies, by_cause, decisions}
use Rattle.run_rules.specs.Steps.{steps_of_server}
use Rattle.run_parts.specs.Doings.{doings_cause}
use Rattle.run_history.specs.Agreement.{CausedCells}
use Rattle.run_history.proofs.Serving.{cells_still, not_here}
use Rattle.run_parts.proofs.PlaceLaw.{Kept}
use Rattle.run_parts.specs.Cells.{cell_after}
use Rattle.run_parts.specs.Contents.{Contents, site}
use Rattle.run_parts.specs.Deeds.{Deed, acts_in}
use Rattle.run_parts.specs.Legal.{Cells, KeptIsPresent, LegalDoings, LegalStep, cells_after, cells_served}
use Rattle.run_parts.specs.Legal.{served as served_deeds, tree, tree_after}
use Rattle.run_contents.proofs.Caused.{at_first, no_message}
use Rattle.run_contents.proofs.Sent.{At}
use Rattle.run_contents.specs.Doing.{Effect, decided, deeds_at, does_first, does_nothing, with_doing}
use Rattle.run_contents.specs.Gives.{IsKept}
use Rattle.run_contents.specs.Instance.{IsOfRun}
use Rattle.run_rules.specs.declared.applied.Applied.{Applied}
use Rattle.run_rules.specs.declared.step.Cause.{Cause}
use Rattle.run_rules.specs.declared.step.Cause.TheVariants.{End, Evict, Flushed, Freight, Lapse, Line, Message as Came}
use Rattle.run_rules.specs.declared.step.Cause.TheVariants.{Restart}
use Rattle.run_rules.specs.Doings.{shipping}
use Rattle.run_rules.specs.declared.step.Step.{Step}

-- deeds one after the other
served_both : (xs ys : List Deed) (cells : Cells)
    → cells_served (xs ++ ys) cells ≡ cells_served ys (cells_served xs cells)
served_both [] ys cells = refl
served_both (d ∷ xs) ys cells = served_both xs ys (cells_after d cells)

served_idle : (xs : List Doing) (cells : Cells) → cells_served (with_doing does_nothing xs) cells ≡ cells
served_idle [] cells = refl
served_idle (a ∷ xs) cells = served_idle xs cells

served_at : (ds : List Deed) (a b : Cells) (f : Fid) (p : Part) → a f p ≡ b f p
    → cells_served ds a f p ≡ cells_served ds b f p
served_at [] a b f p e = e
served_at (d ∷ ds) a b f p e =
    served_at ds (cells_after d a) (cells_after d b) f p
    (ap (λ (z : Cell (Seen p)). cell_after p (d.does f p) z) e)

-- lists that end in something
abbrev filled : {X : Type 0} → List X → Bool
filled [] = false
filled (x ∷ xs) = true

filled_last : {X : Type 0} (xs ys : List X) → filled ys ≡ true → filled (xs ++ ys) ≡ true
filled_last [] ys e = e
filled_last (x ∷ xs) ys e = refl

filled_map : {X Y : Type 0} (f : X → Y) (xs : List X) → filled xs ≡ true → filled (map f xs) ≡ true
filled_map f [] e = e
filled_map f (x ∷ xs) e = refl

first_present : (c : Contents) (v : ServerId) (ds D : List Deed) (cells : Cells) → filled ds ≡ true
    → LegalDoings c v ds D cells → KeptIsPresent c v D cells
first_present c v [] D cells e legal = absurd (false≢true e)
first_present c v (d ∷ ds) D cells e legal = legal.1

module _ (script : Script) (start : Tree) (firsts : ServerId → ℕ) (c : Contents) (of_run : IsOfRun start firsts c)
    (past : List Step) (run : StepsMeet script start firsts past) (v : ServerId) (s : Step)
    (m : StepMeets script start firsts (Server v) past s) (node : s.node ≡ Server v)
    (deeds_are : c.deeds past s ≡ deeds_at start firsts (Server v) past s) where
  abbrev K : Tree
  K = filesets_kept start v (steps_of_server v past)

  abbrev caused : Tree
  caused = filesets_through s.cause (by_cause s.applied) K

  abbrev cells_then : Cells
  cells_then = CausedCells v K s (tree c past)

  abbrev S : List Doing
  S = doings_of (firsts v) v past

  abbrev D : List Deed
  D = served_deeds c (firsts v) v past

  abbrev first_does : Effect
  first_does = does_first s.cause K (by_cause s.applied)

  abbrev tail : List Doing
  tail = admitting s.admitted ++ (sending s.sent ++ (shipping s.shipped ++ (Reserves s.reserved ∷ [])))

  abbrev rest : List Deed
  rest = decided v s.cause caused (decisions s.applied) ++ with_doing does_nothing tail

  mine : (f : Fid) → site f ≡ v → (v.0 == (site f).0) ≡ true
  mine f at = ap (λ (w : ServerId). v.0 == w.0) at ∙ same_number v.0

  -- the cells after the cause
  here_then : (f : Fid) (p : Part) → site f ≡ v → cells_then f p ≡ cell_after p (first_does f p) (tree c past f p)
  here_then f p at =
      ap (λ (z : Bool). if z then cell_after p (first_does f p) (tree c past f p) else tree c past f p) (mine f at)

  quiet : ((m : Message) → s.cause ≡ Came m → ⊥) → by_cause s.applied ≡ []
  quiet never = no_message v S K s m.0.works.applies never

  first_cells : (f : Fid) (p : Part) → site f ≡ v
      → cells_served (with_doing first_does (doings_cause s.cause S [])) (tree c past) f p ≡ cells_then f p
  first_cells f p at = go s.cause refl
    where
      one : (a : Doing) → cells_served (with_doing first_does (a ∷ [])) (tree c past) f p ≡ cells_then f p
      one a = sym (here_then f p at)

      none : (x : Cause) → s.cause ≡ x → ((m : Message) → x ≡ Came m → ⊥) → tree c past f p ≡ cells_then f p
      none x e never =
          sym (cells_still script start firsts c past run v s m node [] (quiet (λ m q. never m (sym e ∙ q)))
          (λ f p. refl) f p)

      go : (x : Cause) → s.cause ≡ x
          → cells_served (with_doing first_does (doings_cause x S [])) (tree c past) f p ≡ cells_then f p
      go (Came x) e = one (Took x.host x.epoch x.moves x.body)
      go (Restart line) e = one (BeginsEpoch (suc (epoch S)))
      go Flushed e = one Flushes
      go (Line line) e = none (Line line) e (λ m q. cc)
      go Lapse e = none Lapse e (λ m q. cc)
      go Evict e = none Evict e (λ m q. cc)
      go (Freight freight) e = one (Gets freight.server freight.moves freight.body)
      go End e = none End e (λ m q. cc)

  -- the cells after the step
  abbrev cells_last : Cells
  cells_last = cells_served (decided v s.cause caused (decisions s.applied)) cells_then

  pub last_here : (f : Fid) (p : Part) → site f ≡ v → tree_after c (Server v) s past (tree c past) f p ≡ cells_last f p
  last_here f p at =
      let xs = with_doing first_does (doings_cause s.cause S []) in
      let ys = decided v s.cause caused (decisions s.applied) in
      let zs = with_doing does_nothing tail in
      ap (λ (z : Bool). if z then cells_served (c.deeds past s) (tree c past) f p else tree c past f p) (mine f at)
      ∙ (ap (λ (ds : List Deed). cells_served ds (tree c past) f p) deeds_are
      ∙ (ap (λ (cells : Cells). cells f p) (served_both xs (ys ++ zs) (tree c past))
      ∙ (ap (λ (cells : Cells). cells f p) (served_both ys zs (cells_served xs (tree c past)))
      ∙ (ap (λ (cells : Cells). cells f p) (served_idle tail (cells_served ys (cells_served xs (tree c past))))
      ∙ served_at ys (cells_served xs (tree c past)) cells_then f p (first_cells f p at)))))

  pub last_else : (f : Fid) (p : Part) → (site f ≡ v → ⊥)
      → tree_after c (Server v) s past (tree c past) f p ≡ tree c past f p
  last_else f p other =
      ap (λ (z : Bool). if z then cells_served (c.deeds past s) (tree c past) f p else tree c past f p)
      (not_here v f other)

  -- what is kept after the cause
  module _ (kept_now : Kept c firsts past) (doings_are : acts_in D ≡ S) (at_then : At c v D K)
      (legal : LegalStep c firsts (Server v) s past) (keeps : IsKept caused) where
    module _ (x : Message) (e : s.cause ≡ Came x) where
      abbrev first : Deed
      first = record { act = Took x.host x.epoch x.moves x.body; does = first_does }

      shape : c.deeds past s ≡ first ∷ rest
      shape = deeds_are ∙ ap (λ (y : Cause). with_doing first_does (doings_cause y S []) ++ rest) e

      present : KeptIsPresent c v (first ∷ D) (cells_after first (tree c past))
      present =
          first_present c v rest (first ∷ D) (cells_after first (tree c past))
          (filled_last (decided v s.cause caused (decisions s.applied)) (with_doing does_nothing tail)
          (filled_map _ tail (filled_last (admitting s.admitted) (sending s.sent ++ (shipping s.shipped ++ (Reserves s.reserved ∷ [])))
          (filled_last (sending s.sent) (shipping s.shipped ++ (Reserves s.reserved ∷ []))
          (filled_last (shipping s.shipped) (Reserves s.reserved ∷ []) refl)))))
          (subst (λ ds. LegalDoings c v ds D (tree c past)) shape legal).2

      came : (f : Fid) (p : Part) → site f ≡ v → (cells_then f p).kept ≡ kept_view caused f p
      came f p at =
          ap (λ (z : Cell (Seen p)). z.kept) (here_then f p at)
          ∙ (present.kept f p at
          ∙ (at_first c v D K s of_run.hosts
          (subst (λ T. ServerApplies v K T s) (sym doings_are) m.0.works.applies) at_then x e keeps).shows f p at)

    pub kept_then : (f : Fid) (p : Part) → site f ≡ v → (cells_then f p).kept ≡ kept_view caused f p
    kept_then f p at = go s.cause refl
      where
        none : (x : Cause) → s.cause ≡ x → ((m : Message) → x ≡ Came m → ⊥)
            → (cells_then f p).kept ≡ kept_view caused f p
        none x e never =
            let q = quiet (λ m r. never m (sym e ∙ r)) in
            ap (λ (z : Cell (Seen p)). z.kept)
            (cells_still script start firsts c past run v s m node [] q (λ f p. refl) f p)
            ∙ ((kept_now.at v).treed.kept_is p f at
            ∙ (at_then.shows f p at
            ∙ ap (λ (xs : List Applied). kept_view (filesets_through s.cause xs K) f p) (sym q)))

        go : (x : Cause) → s.cause ≡ x → (cells_then f p).kept ≡ kept_view caused f p
        go (Came x) e = came x e f p at
        go (Restart line) e = none (Restart line) e (λ m q. cc)
        go Flushed e = none Flushed e (λ m q. cc)
        go (Line line) e = none (Line line) e (λ m q. cc)
        go Lapse e = none Lapse e (λ m q. cc)
        go Evict e = none Evict e (λ m q. cc)
        go (Freight freight) e = none (Freight freight) e (λ m q. cc)
        go End e = none End e (λ m q. cc)
