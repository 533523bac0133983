-- In every run each Change that a server's step writes down is legal.
use Rattle.std.proofs.Common.{Bool, List, false, refl, true, ◌≡◌}
use Rattle.base_types.specs.declared.ids.ServerId.{ServerId}
use Rattle.need_host.specs.Questions.{is_change}
use Rattle.tree_answers.specs.declared.tree.Tree.{Tree}
use Rattle.need_laws.specs.Idle.{minds_uses}
use Rattle.need_laws.specs.Known.{IsAt}
use Rattle.run_history.proofs.ChangeLaw.{each_both}
use Rattle.run_history.specs.Changes.{AgreesKept, EachChange, IsLegalChange, IsMeant}
use Rattle.run_history.proofs.Fitting.{each_map, in_decided}
use Rattle.run_rules.specs.Doings.{Doing}
use Rattle.run_rules.specs.Past.{In}
use Rattle.run_rules.specs.ServerDecides.{decisions}
use Rattle.run_rules.specs.declared.applied.Applied.TheVariants.{Done as IsDone}
use Rattle.run_rules.specs.declared.applied.Written.{Written}
use Rattle.run_rules.specs.declared.step.Step.{Step}
use Rattle.run_history.specs.Meant.{LabelIsFree, MeantSo, PinnedAreUsed}
use Rattle.run_history.specs.Meant.MeantSo.{Decides, Refuses}

-- a server's step: `caused` is what the server keeps after the cause, `at` its doings then; `Labels` says that the
-- labels of the run are in use
module _ (v : ServerId) (s : Step) (caused : Tree) (at : List Doing) (Labels : Tree → Type 0) where
  abbrev Each : (List Doing → Tree → Written → Type 0) → Type 0
  Each Holds = EachChange Holds s.cause caused at (decisions s.applied)

  -- a Change that looks at no use
  abbrev Plain : List Doing → Tree → Written → Type 0
  Plain before K x = (t : Tree) → AgreesKept v before K t → IsMeant v x → IsLegalChange v s.cause K x t

  -- one that does
  abbrev Uses : List Doing → Tree → Written → Type 0
  Uses before K x =
      (t : Tree) → Labels t → PinnedAreUsed v before t
      × (AgreesKept v before K t → is_change x.answer.call ≡ true → IsAt v x.answer.call
      → minds_uses x.answer.call ≡ true → IsLegalChange v s.cause K x t)

  abbrev Legal : List Doing → Tree → Written → Type 0
  Legal before K x = (t : Tree) → AgreesKept v before K t → Labels t → IsLegalChange v s.cause K x t

  abbrev All : List Doing → Tree → Written → Type 0
  All before K x = Plain before K x × (MeantSo v s.cause before K x × Uses before K x)

  module _ (free : (t : Tree) → Labels t → (x : Written) → In (IsDone x) s.applied
      → LabelIsFree t x.answer.host x.answer.call) where
    legal_one : (before : List Doing) (K : Tree) (x : Written) → In (IsDone x) s.applied → All before K x
        → Legal before K x
    legal_one before K x i all t agree labels = by all.1.0
      where
        decided : is_change x.answer.call ≡ true → IsAt v x.answer.call → (b : Bool) → minds_uses x.answer.call ≡ b
            → IsLegalChange v s.cause K x t
        decided change here true e = (all.1.1 t labels).1 agree change here e
        decided change here false e = all.0 t agree (record { change = change; minds_none = e; here = here })

        by : MeantSo v s.cause before K x → IsLegalChange v s.cause K x t
        by (Decides change here) = decided change here (minds_uses x.answer.call) refl
        by (Refuses refusal legal) = legal t agree (free t labels x i) (all.1.1 t labels).0

    pub all_legal : Each Plain → Each (MeantSo v s.cause) → Each Uses → Each Legal
    all_legal plain meant uses =
        let xs = decisions s.applied in
        each_map All Legal s.cause s.applied legal_one caused at xs (in_decided s.applied)
        (each_both _ _ s.cause xs caused at plain (each_both _ _ s.cause xs caused at meant uses))
