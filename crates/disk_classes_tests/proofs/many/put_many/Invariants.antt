use Rattle.disk_classes_tests.specs.Ready.{IsReady}
use Rattle.disk_classes_tests.proofs.many.put_many.Given as goal

abbrev pub invariant-loop-put : goal.invariant-loop-put
invariant-loop-put g l = IsReady g.D.Disk.tells g.D.Disk.view l.classes
