use Rattle.disk_tests.specs.Ready.{IsRead}
use Rattle.disk_tests.proofs.looks.filled_with.Given as goal

abbrev pub invariant-loop-i : goal.invariant-loop-i
invariant-loop-i g l = IsRead g.D.Disk.tells g.D.Disk.view l.fn.log l.log
