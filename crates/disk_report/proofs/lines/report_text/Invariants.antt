use Rattle.std.proofs.Common.{◌≡◌, ◌+◌, ◌++◌, drop}
use Rattle.disk_report.specs.Text.{lines_from}
use Rattle.disk_report.proofs.lines.report_text.Given as goal

abbrev pub invariant-loop-k : goal.invariant-loop-k
invariant-loop-k l = l.text ++ lines_from (l.k + 1) (drop l.k l.reports) ≡ lines_from 1 l.reports
