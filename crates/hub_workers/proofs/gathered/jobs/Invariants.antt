use Rattle.std.proofs.Common.{◌≡◌, ◌+◌, []}
use Rattle.hub_workers.specs.Rows.{AreJobs}
use Rattle.hub_workers.proofs.gathered.jobs.Given as goal

abbrev pub invariant-loop-worker : goal.invariant-loop-worker
invariant-loop-worker l = (l.first.cell ≡ l.cell.id) × (l.first.made ≡ []) × (l.first.spare + l.worker + 1 ≡ l.workers)
    × AreJobs l.cell.id l.worker l.jobs.items
