use Rattle.std.proofs.Common.{◌≡◌, map, take}
use Rattle.disk_report.specs.Report.{report_of}
use Rattle.disk_report.proofs.Passed.{Passed}
use Rattle.disk_report.proofs.disks.reports_of.Given as goal

abbrev pub invariant-loop-k : goal.invariant-loop-k
invariant-loop-k g l =
    Passed g.D.Disk.view l.k l.initial.disks l.disks
    × (g.D.Disk.tells → l.reports ≡ map (λ disk. report_of (g.D.Disk.view disk).image) (take l.k l.initial.disks))
