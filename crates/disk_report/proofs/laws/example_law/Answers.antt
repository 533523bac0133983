use Rattle.std.proofs.Common.{refl}
use Rattle.std.specs.Fmt.{digits}
use Rattle.disk_report.specs.Text.{fault_line, disk_lines, report_text}
use Rattle.disk_report.proofs.laws.example_law.Goals as goal

pub returns : goal.returns
unfolding report_text disk_lines fault_line digits
returns c = refl
