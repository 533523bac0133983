use Rattle.disk_report.proofs.Printed.{in_order, line_tells}
use Rattle.disk_report.proofs.laws.line_law.Goals as goal

pub returns-clause-order : goal.returns-clause-order
returns-clause-order c = in_order

pub returns-clause-tells : goal.returns-clause-tells
returns-clause-tells c = line_tells
