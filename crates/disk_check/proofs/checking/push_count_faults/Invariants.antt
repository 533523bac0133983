use Rattle.std.proofs.Common.{◌≡◌, ◌+◌, ◌/◌, ◌++◌, length}
use Rattle.disk_image.specs.Joined.{joined}
use Rattle.disk_image.specs.Aggregate.{Aggregate}
use Rattle.disk_image.specs.Counts.{count_fault}
use Rattle.disk_judge.specs.Judged.{AreCountsJudged}
use Rattle.disk_check.proofs.checking.push_count_faults.Given as goal

abbrev pub invariant-loop-p : goal.invariant-loop-p
invariant-loop-p l = (disk : Aggregate) → length l.rights ≡ (disk.blocks + 255) / 256 → AreCountsJudged disk l.rights
    → l.faults.items ≡ l.initial.faults.items ++ joined (count_fault disk) l.p
