use Rattle.std.proofs.Common.{◌≡◌, ◌+◌, length}
use Rattle.script_generator.specs.Workload.{awaits, with_tasks}
use Rattle.script_generator.proofs.lines.add_awaits.Given as goal

abbrev pub invariant-loop-host : goal.invariant-loop-host
invariant-loop-host l = (l.lines ≡ with_tasks l.first l.initial.lines (awaits l.host)) × (length l.lines + 1 ≡ length l.initial.lines + l.host)
