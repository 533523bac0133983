use Rattle.disk_tests.specs.Ready.{IsReady}
use Rattle.disk_tests.proofs.logs.all.Given as goal

abbrev pub invariant-loop-row : goal.invariant-loop-row
invariant-loop-row g l =
    (goal.iterator-loop-row g).can_next l.row-iterator ×
    (goal.iterator-loop-row g).is_finite l.row-iterator ×
    IsReady g.D.Disk.tells g.D.Disk.view l.log
