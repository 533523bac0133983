use Rattle.std.proofs.Common.{◌≡◌}
use Rattle.script_lines.proofs.Leading.{doubled_to}
use Rattle.script_lines.proofs.leads.doubled.Given as goal

abbrev pub invariant-loop-clone : goal.invariant-loop-clone
invariant-loop-clone l = l.more ≡ doubled_to l.ways l.clone
