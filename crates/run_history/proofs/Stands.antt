-- A tree that agrees with a run, and what is used of labels and names.
use Rattle.std.proofs.Common.{Bool, List, ap, false, refl, sym, true, ◌++◌, ◌∙◌, ◌∷◌, ◌≡◌}
use Rattle.std.specs.List.{flat_map}
use Rattle.std.specs.Prelude.{[], if◌then◌else◌}
use Rattle.base_types.specs.declared.ids.Node.{Node}
use Rattle.base_types.specs.declared.ids.Node.TheVariants.{Server}
use Rattle.tree_calls.specs.declared.entry.Entry.{Entry}
use Rattle.tree_answers.specs.Histories.{IsHistory, after_entry, after_history}
use Rattle.tree_answers.specs.declared.tree.Tree.{Tree}
use Rattle.script_lines.specs.declared.script.Script.{Script}
use Rattle.run_history.specs.PastStanding.{Agrees}
use Rattle.run_parts.specs.Contents.{Contents}
use Rattle.run_parts.specs.Legal.{tree, tree_after}
use Rattle.run_rules.specs.Kept.{filesets_kept}
use Rattle.run_rules.specs.ServerDecides.{by_cause, decisions, is_decision}
use Rattle.run_rules.specs.Steps.{is_node, steps_of_server}
use Rattle.run_rules.specs.declared.applied.Applied.{Applied}
use Rattle.run_rules.specs.declared.step.Step.{Step}

-- and after a step of a node
abbrev pub StandsNext : Script → Tree → Contents → List Step → Step → Node → Tree → Type 0
StandsNext script start c past s n t =
    Agrees script (λ v. filesets_kept start v (if is_node n (Server v) then s ∷ steps_of_server v past else steps_of_server v past))
    (tree_after c n s past (tree c past)) t

-- histories one after the other
pub both_histories : (t : Tree) (xs ys : List Entry) → IsHistory t xs → IsHistory (after_history t xs) ys
    → IsHistory t (xs ++ ys)
both_histories t [] ys a b = b
both_histories t (x ∷ xs) ys a b = (a.0, both_histories (after_entry t x) xs ys a.1 b)

pub after_both : (t : Tree) (xs ys : List Entry) → after_history t (xs ++ ys) ≡ after_history (after_history t xs) ys
after_both t [] ys = refl
after_both t (x ∷ xs) ys = after_both (after_entry t x) xs ys

pub flat_both : {X Y : Type 0} (f : X → List Y) (xs ys : List X)
    → flat_map f (xs ++ ys) ≡ flat_map f xs ++ flat_map f ys
flat_both f [] ys = refl
flat_both f (x ∷ xs) ys = ap (λ zs. f x ++ zs) (flat_both f xs ys) ∙ sym (join (f x) (flat_map f xs) (flat_map f ys))
  where
    join : {Y : Type 0} (a b d : List Y) → (a ++ b) ++ d ≡ a ++ (b ++ d)
    join [] b d = refl
    join (x ∷ a) b d = ap (λ zs. x ∷ zs) (join a b d)

pub none_more : {X : Type 0} (xs : List X) → xs ++ [] ≡ xs
none_more [] = refl
none_more (x ∷ xs) = ap (λ ys. x ∷ ys) (none_more xs)

pub parts_of : (xs : List Applied) → by_cause xs ++ decisions xs ≡ xs
parts_of [] = refl
parts_of (x ∷ xs) = go (is_decision x) (parts_of xs)
  where
    go : (b : Bool) → by_cause xs ++ decisions xs ≡ xs
        → (if b then [] else x ∷ by_cause xs) ++ (if b then x ∷ xs else decisions xs) ≡ x ∷ xs
    go true rest = refl
    go false rest = ap (λ ys. x ∷ ys) rest
