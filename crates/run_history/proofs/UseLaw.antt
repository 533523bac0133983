-- In every run: each Change that looks at what is in use is decided legally, and each lock or open that is written
-- down has a label that is free.
use Rattle.std.proofs.Common.{List, false, inl, inr, length, refl, subst, true, ℕ, ◌<◌, ◌∷◌, ◌≡◌, ◌≤◌}
use Rattle.std.specs.Prelude.{[]}
use Rattle.base_types.specs.declared.ids.HostId.{HostId}
use Rattle.base_types.specs.declared.ids.Node.TheVariants.{Server}
use Rattle.base_types.specs.declared.ids.ServerId.{ServerId}
use Rattle.tree_calls.specs.declared.call.Call.{Call}
use Rattle.tree_calls.specs.declared.call.Call.TheVariants.{Lock, MoveFileset, OpenFile}
use Rattle.need_host.specs.Questions.{is_change}
use Rattle.tree_answers.specs.declared.tree.Tree.{Tree}
use Rattle.message_types.specs.declared.asking.Change.{Change as ChangeOf}
use Rattle.script_lines.specs.declared.script.Script.{Script}
use Rattle.need_laws.specs.Idle.{minds_uses}
use Rattle.need_laws.specs.Known.{IsAt}
use Rattle.run_rules.specs.Doings.{Doing, after_cause, doings_of}
use Rattle.run_rules.specs.Doings.Doing.{MakesWant, Moves, WritesDown}
use Rattle.run_rules.specs.Kept.{filesets_after, filesets_first, filesets_kept, filesets_through}
use Rattle.run_rules.specs.Past.{Always, In}
use Rattle.run_rules.specs.Runs.{StepsMeet, firsts_of, past_of}
use Rattle.run_rules.specs.ServerDecides.{by_cause, decisions}
use Rattle.run_rules.specs.Steps.{steps_of_server}
use Rattle.run_rules.specs.Wants.{moves_fileset}
use Rattle.run_rules.specs.declared.applied.Applied.TheVariants.{Done as IsDone, IsDown, Replied, Stored}
use Rattle.run_rules.specs.declared.applied.Applied.TheVariants.{Moves as IsMoved, Wants as IsWanted}
use Rattle.run_history.proofs.ChangeLaw.{WrittenAt, each_both, each_map, run_first, run_limit, step_writes}
use Rattle.run_history.specs.Changes.{AgreesKept, EachChange, IsLegalChange}
use Rattle.run_contents.specs.Gives.{IsKept}
use Rattle.run_rules.specs.declared.applied.Applied.{Applied}
use Rattle.run_rules.specs.declared.applied.Written.{Written}
use Rattle.run_rules.specs.declared.step.Cause.{Cause}
use Rattle.run_rules.specs.declared.step.Step.{Step}
use Rattle.run_history.proofs.Free.{TreePasses}
use Rattle.run_history.proofs.UseHostLaw.{from_one}
use Rattle.run_history.proofs.Mid.{Mid, each_mid}
use Rattle.run_history.proofs.Pinning.{passes_now, pinned_used}
use Rattle.run_history.proofs.State.{LockedNow, StandsWith, of_stand}
use Rattle.run_history.proofs.Using.{use_legal}
use Rattle.run_history.specs.Deciding.{DecidesUses, DecisionsFindLabels, FindsLabels, UsesDecideLegally}
use Rattle.run_history.specs.Meant.{LabelIsFree, PinnedAreUsed}
use Rattle.run_history.specs.UseStanding.{LabelsStand}

at_none_moves : (v : ServerId) (c : Call) → IsAt v c → moves_fileset c ≡ false
at_none_moves v (MoveFileset server name to) at = elim at [ ]
at_none_moves v _ at = refl

-- what is said of each Change is so of one
each_in : (P : List Doing → Tree → Written → Type 0) (cause : Cause) (xs : List Applied) (K : Tree) (D : List Doing)
    → EachChange P cause K D xs → (x : Written) → In (IsDone x) xs → (E : List Doing) × (J : Tree) × P E J x
each_in P cause [] K D all x i = elim i [ ]
each_in P cause (IsDone y ∷ xs) K D all x (inl e) =
    let same : y ≡ x = cc in (D, K, subst (λ (z : Written). P D K z) same all.0)
each_in P cause (IsDone y ∷ xs) K D all x (inr i) =
    each_in P cause xs (filesets_after cause K (IsDone y)) (WritesDown y ∷ D) all.1 x i
each_in P cause (IsWanted y ∷ xs) K D all x (inl e) = cc
each_in P cause (IsWanted y ∷ xs) K D all x (inr i) =
    each_in P cause xs (filesets_after cause K (IsWanted y)) (MakesWant y ∷ D) all x i
each_in P cause (Replied y ∷ xs) K D all x (inl e) = cc
each_in P cause (Replied y ∷ xs) K D all x (inr i) = each_in P cause xs (filesets_after cause K (Replied y)) D all x i
each_in P cause (Stored h f ss n ∷ xs) K D all x (inl e) = cc
each_in P cause (Stored h f ss n ∷ xs) K D all x (inr i) =
    each_in P cause xs (filesets_after cause K (Stored h f ss n)) D all x i
each_in P cause (IsDown h ∷ xs) K D all x (inl e) = cc
each_in P cause (IsMoved move ∷ xs) K D all x (inl e) = cc
each_in P cause (IsDown h ∷ xs) K D all x (inr i) = each_in P cause xs (filesets_after cause K (IsDown h)) D all x i
each_in P cause (IsMoved move ∷ xs) K D all x (inr i) =
    each_in P cause xs (filesets_after cause K (IsMoved move)) (Moves move ∷ D) all x i

-- what is written down is decided
done_decided : (x : Written) (xs : List Applied) → In (IsDone x) xs → In (IsDone x) (decisions xs)
done_decided x [] i = elim i [ ]
done_decided x (IsDone y ∷ xs) i = i
done_decided x (IsWanted y ∷ xs) i = i
done_decided x (Replied y ∷ xs) (inl e) = cc
done_decided x (Replied y ∷ xs) (inr i) = done_decided x xs i
done_decided x (Stored h f ss n ∷ xs) (inl e) = cc
done_decided x (Stored h f ss n ∷ xs) (inr i) = done_decided x xs i
done_decided x (IsDown h ∷ xs) (inl e) = cc
done_decided x (IsMoved move ∷ xs) (inl e) = cc
done_decided x (IsDown h ∷ xs) (inr i) = done_decided x xs i
done_decided x (IsMoved move ∷ xs) (inr i) = done_decided x xs i

-- a label that passes is free
label_free : (tree : Tree) (host : HostId) (c : ChangeOf) (call : Call) → TreePasses tree host c call
    → LabelIsFree tree host call
label_free tree host c (Lock label place writing from len) k = (k.0, k.1)
label_free tree host c (OpenFile label place kind) k = (k.0, k.1)
label_free tree host c _ k = tt

module _ (script : Script) (start : Tree) (firsts : ServerId → ℕ) (real : (v : ServerId) → 0 < firsts v)
    (few : length script.roster.hosts ≤ 16) (first : (v : ServerId) → IsKept (filesets_first start v)) where
  module _ (past : List Step) (s : Step) (run : StepsMeet script start firsts (s ∷ past)) (v : ServerId)
      (node : s.node ≡ Server v) where
    abbrev Decides : (List Doing → Tree → Written → Type 0) → Type 0
    Decides Holds =
        EachChange Holds s.cause (filesets_through s.cause (by_cause s.applied) (filesets_kept start v (steps_of_server v past)))
        (after_cause s.cause (doings_of (firsts v) v past)) (decisions s.applied)

    abbrev MidAt : List Doing → Tree → Written → Type 0
    MidAt D K x = Mid script start firsts real past s run v node D

    abbrev At : List Doing → Tree → Written → Type 0
    At D K x = MidAt D K x × WrittenAt v D K x

    each_at : Decides At
    each_at =
        each_both MidAt (WrittenAt v) s.cause (decisions s.applied)
        (filesets_through s.cause (by_cause s.applied) (filesets_kept start v (steps_of_server v past)))
        (after_cause s.cause (doings_of (firsts v) v past)) (each_mid script start firsts real past s run v node)
        (step_writes script start firsts few first past s run v node)

    now : (tree : Tree) → LabelsStand firsts (s ∷ past) tree → StandsWith (LockedNow firsts past s (Server v)) tree
    now tree stands =
        subst (λ n. StandsWith (LockedNow firsts past s n) tree) node (of_stand firsts (s ∷ past) tree stands)

    uses_decided : Decides (λ before K x. (tree_is : Tree) → LabelsStand firsts (s ∷ past) tree_is
        → PinnedAreUsed v before tree_is
        × (AgreesKept v before K tree_is → is_change x.answer.call ≡ true → IsAt v x.answer.call
        → minds_uses x.answer.call ≡ true → IsLegalChange v s.cause K x tree_is))
    uses_decided =
        each_map At (λ before K x. (tree_is : Tree) → LabelsStand firsts (s ∷ past) tree_is
        → PinnedAreUsed v before tree_is
        × (AgreesKept v before K tree_is → is_change x.answer.call ≡ true → IsAt v x.answer.call
        → minds_uses x.answer.call ≡ true → IsLegalChange v s.cause K x tree_is)) s.cause
        (λ D K x y tree stands. (
          λ t p. pinned_used script start firsts real past s run v node D y.0 tree (now tree stands) t p,
          λ agree change here minds.
              use_legal script start firsts real past s run v node D y.0 K x y.1 tree
              (now tree stands) agree change here
              (at_none_moves v x.answer.call here) minds,
        )) (decisions s.applied) (filesets_through s.cause (by_cause s.applied) (filesets_kept start v (steps_of_server v past)))
        (after_cause s.cause (doings_of (firsts v) v past)) each_at

    label_found : (tree : Tree) → LabelsStand firsts (s ∷ past) tree → (x : Written) → In (IsDone x) s.applied
        → LabelIsFree tree x.answer.host x.answer.call
    label_found tree stands x i =
        let at = each_in At s.cause (decisions s.applied)
        (filesets_through s.cause (by_cause s.applied) (filesets_kept start v (steps_of_server v past)))
        (after_cause s.cause (doings_of (firsts v) v past)) each_at x (done_decided x s.applied i) in
        label_free tree x.answer.host at.2.1.so.change x.answer.call
        (passes_now script start firsts real past s run v node at.0 at.2.0 tree (now tree stands) at.1 x at.2.1.so
        at.2.1.taken)

  each_decides : (past : List Step) → StepsMeet script start firsts past → Always (DecidesUses start firsts) past
  each_decides [] run = tt
  each_decides (s ∷ past) run = (each_decides past run.0, λ v node. uses_decided past s run v node)

  each_finds : (past : List Step) → StepsMeet script start firsts past → Always (FindsLabels script firsts) past
  each_finds [] run = tt
  each_finds (s ∷ past) run =
      (each_finds past run.0, λ v tree node stands x i. label_found past s run v node tree stands x i)

pub uses_decide : UsesDecideLegally
uses_decide script journal run =
    each_decides script run.start (firsts_of journal) (λ v. from_one _) (run_limit script journal run)
    (run_first script journal run) (past_of journal) run.steps

pub labels_found : DecisionsFindLabels
labels_found script journal run =
    each_finds script run.start (firsts_of journal) (λ v. from_one _) (run_limit script journal run)
    (run_first script journal run) (past_of journal) run.steps
