use Rattle.std.proofs.Common.{◌≡◌, drop}
use Rattle.service_run.proofs.Waits.{last_from}
use Rattle.service_run.specs.Lines.{last_gone}
use Rattle.service_run.proofs.lines.last_gone.Given as goal

abbrev pub invariant-loop-line : goal.invariant-loop-line
invariant-loop-line l = last_from l.node l.next l.last (drop l.line-index l.lines) ≡ last_gone l.node l.next l.lines
