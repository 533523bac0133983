use Rattle.disk_judge.specs.Reach.{AreWithin}
use Rattle.disk_judge.proofs.reach.reach.Given as goal

abbrev pub invariant-loop-steps : goal.invariant-loop-steps
invariant-loop-steps l = AreWithin l.links l._steps l.reached
