use Rattle.std.proofs.Common.{◌<◌, ◌++◌, length}
use Rattle.tree_answers.specs.Histories.{after_history, lost_in}
use Rattle.run_rules.specs.Runs.{history_of}
use Rattle.run_output.proofs.Along.{lost_next, tree_next}
use Rattle.run_output.proofs.follow.follow.Goals as goal

pub loop-step-preserved : goal.loop-step-preserved
loop-step-preserved c =
    let steps = c.args.steps.now in
    let i = c.loop-step.step-index in
    let step = c.step-item.result in
    let tree = c.loop-step.tree in
    let lt : i < length steps = c.loop-step-test.true in
    let came = c.in_ok-follow_step.ensures in
    record {
      losses =
          lost_next tree c.follow_step.new.tree steps i step (c.args.losses.now ++ lost_in c.args.tree.now (history_of steps)) c.loop-step.losses
          c.follow_step.new.losses lt c.step-item.is came.losses came.tree c.loop-step.invariant.losses;
      tree =
          tree_next tree c.follow_step.new.tree steps i step (after_history c.args.tree.now (history_of steps)) lt c.step-item.is came.tree
          c.loop-step.invariant.tree;
    }
