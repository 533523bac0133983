use Rattle.disk_judge.proofs.reach.reach.Goals as goal

pub loop-steps-init : goal.loop-steps-init
loop-steps-init c = c.requires.root

pub loop-steps-preserved : goal.loop-steps-preserved
loop-steps-preserved c = c.step.ensures c.loop-steps._steps c.loop-steps.invariant
