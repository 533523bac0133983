use Rattle.std.proofs.Common.{◌≡◌, ◌+◌, length}
use Rattle.script_generator.specs.Workload.{creates, with_tasks}
use Rattle.script_generator.proofs.lines.add_creates.Given as goal

abbrev pub invariant-loop-h : goal.invariant-loop-h
invariant-loop-h l = (l.lines ≡ with_tasks l.first l.initial.lines (creates l.h)) × (length l.lines ≡ length l.initial.lines + l.h)
