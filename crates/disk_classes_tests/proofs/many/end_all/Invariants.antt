use Rattle.disk_classes_tests.specs.Ready.{IsReady}
use Rattle.disk_classes_tests.proofs.many.end_all.Given as goal

abbrev pub invariant-all : goal.invariant-all
invariant-all g l = IsReady g.D.Disk.tells g.D.Disk.view l.classes
