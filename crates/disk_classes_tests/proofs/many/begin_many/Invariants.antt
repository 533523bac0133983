use Rattle.disk_classes_tests.specs.Ready.{IsReady}
use Rattle.disk_classes_tests.proofs.many.begin_many.Given as goal

abbrev pub invariant-loop-number : goal.invariant-loop-number
invariant-loop-number g l = IsReady g.D.Disk.tells g.D.Disk.view l.classes
