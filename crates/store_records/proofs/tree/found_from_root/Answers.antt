use Rattle.std.proofs.Common.{◌≡◌, ◌++◌, ◌∷◌, [], length, sym, subst, ◌∙◌, ap, arith}
use Rattle.store_records.specs.Tree.{AreFound}
use Rattle.store_records.proofs.Members.{none_got}
use Rattle.store_records.proofs.Trees.{astray_none, few_found, found_first, found_next}
use Rattle.store_records.proofs.tree.found_from_root.Goals as goal

pub loop-next-init : goal.loop-next-init
loop-next-init c = subst (AreFound c.args.anodes.now 0) (sym (c.in_ok-push.ensures.ok ∙ ap (λ xs. xs ++ 1 ∷ []) c.new-found.ensures)) (found_first c.args.anodes.now)

pub returns-in_default-clause-found : goal.returns-in_default-clause-found
returns-in_default-clause-found c =
    let past = none_got c.loop-next.found c.loop-next.next (sym c.at.ensures ∙ sym c.copied.ensures ∙ c.in_default.is) in
    let few = c.loop-next.invariant.few in
    let all : c.loop-next.next ≡ length c.loop-next.found = omega (arith, past, few) in
    subst (λ n. AreFound c.args.anodes.now n c.loop-next.found) all c.loop-next.invariant

pub returns-then-not-branch-clause-none : goal.returns-then-not-branch-clause-none
returns-then-not-branch-clause-none c = astray_none c.args.anodes.now c.loop-next.next c.in-Some.at c.loop-next.found c.requires c.loop-next.invariant
    (sym c.at.ensures ∙ sym c.copied.ensures ∙ c.in-Some.is) (c.in_ok-add_targets_of.ensures.astray c.if-not-branch.true)

pub loop-next-preserved : goal.loop-next-preserved
loop-next-preserved c = found_next c.args.anodes.now c.loop-next.next c.in-Some.at c.loop-next.found c.add_targets_of.new.found c.requires c.loop-next.invariant
    (sym c.at.ensures ∙ sym c.copied.ensures ∙ c.in-Some.is) (c.in_ok-add_targets_of.ensures.on c.if-not-branch.false)

pub returns-clause-none : goal.returns-clause-none
returns-clause-none c = few_found c.args.anodes.now c.loop-next.next c.loop-next.found c.loop-next.invariant (let past = c.loop-next-test.false in omega (arith, past))
