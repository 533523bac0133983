use Rattle.disk_classes_tests.specs.Ready.{IsReady}
use Rattle.disk_classes_tests.proofs.mounted.all_filled.Given as goal

abbrev pub invariant-loop-page : goal.invariant-loop-page
invariant-loop-page g l = IsReady g.D.Disk.tells g.D.Disk.view l.classes
