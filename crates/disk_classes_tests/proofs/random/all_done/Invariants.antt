use Rattle.disk_classes_tests.specs.Ready.{IsReady}
use Rattle.disk_classes_tests.proofs.random.all_done.Given as goal

abbrev pub invariant-acts : goal.invariant-acts
invariant-acts g l = IsReady g.D.Disk.tells g.D.Disk.view l.classes
