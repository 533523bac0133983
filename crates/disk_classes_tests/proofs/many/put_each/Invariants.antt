use Rattle.disk_classes_tests.specs.Ready.{IsReady}
use Rattle.disk_classes_tests.proofs.many.put_each.Given as goal

abbrev pub invariant-loop-place : goal.invariant-loop-place
invariant-loop-place g l = IsReady g.D.Disk.tells g.D.Disk.view l.classes
