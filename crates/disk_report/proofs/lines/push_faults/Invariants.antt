use Rattle.std.proofs.Common.{◌≡◌, ◌++◌, flat_map, take}
use Rattle.disk_report.specs.Text.{fault_line}
use Rattle.disk_report.proofs.lines.push_faults.Given as goal

abbrev pub invariant-loop-fault : goal.invariant-loop-fault
invariant-loop-fault l = l.text ≡ l.initial.text ++ flat_map (fault_line l.number) (take l.fault-index l.faults)
