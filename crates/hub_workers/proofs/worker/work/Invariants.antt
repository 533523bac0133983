use Rattle.std.proofs.Common.{◌≡◌, ◌++◌}
use Rattle.hub_cell.specs.Lists.{entries}
use Rattle.hub_workers.specs.Rows.{rows}
use Rattle.hub_workers.proofs.worker.work.Given as goal

abbrev pub invariant-loop-number : goal.invariant-loop-number
invariant-loop-number g l =
    (l.pass.cell ≡ l.fn.job.pass.cell) × (l.pass.spare ≡ l.fn.job.pass.spare) ×
    (entries l.pass.made ≡ entries l.fn.job.pass.made ++ rows l.fn.job.worker l.number)
