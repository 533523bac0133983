use Rattle.std.proofs.Common.{◌≡◌}
use Rattle.script_lines.specs.Ways.{stages}
use Rattle.script_lines.proofs.clones.settled.Given as goal

abbrev pub invariant-loop-round : goal.invariant-loop-round
invariant-loop-round l = l.table ≡ stages l.round l.routes
