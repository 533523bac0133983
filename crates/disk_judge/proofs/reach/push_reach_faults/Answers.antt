use Rattle.std.proofs.Common.{refl, ◌∙◌, ◌++◌, ◌+◌}
use Rattle.disk_image.specs.Anodes.{unless}
use Rattle.disk_image.specs.Reach.{is_reached_right}
use Rattle.disk_image.proofs.Joined.{pushed_none, pushed_more}
use Rattle.disk_image.specs.declared.fault.Rule.TheVariants as rules
use Rattle.disk_judge.proofs.Reaching.{root_within}
use Rattle.disk_judge.proofs.reach.push_reach_faults.Goals as goal

pub reach-requires-clause-root : goal.reach-requires-clause-root
reach-requires-clause-root c = root_within c.args.links.now

pub loop-i-init : goal.loop-i-init
loop-i-init c = λ image is. pushed_none _ _

pub loop-i-preserved : goal.loop-i-preserved
loop-i-preserved c = λ image is.
    let right = c.is_reached_right-is_right.ensures ∙ (λ j. is_reached_right (is j) (c.loop-i.i + 1) (c.anode.ensures j)) in
    pushed_more _ c.loop-i.i _ _ _ _ refl (c.loop-i.invariant image is)
    (c.in_ok-push_unless.ensures ∙ (λ j. c.loop-i.faults.items ++ unless (right j) (c.page_place.ensures j) rules.Reach))
