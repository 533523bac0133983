use Rattle.disk_tests.specs.Ready.{IsReady}
use Rattle.disk_tests.proofs.logs.batch.Given as goal

abbrev pub invariant-loop-i : goal.invariant-loop-i
invariant-loop-i g l = IsReady g.D.Disk.tells g.D.Disk.view l.log
