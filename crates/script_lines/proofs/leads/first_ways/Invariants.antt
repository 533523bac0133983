use Rattle.std.proofs.Common.{◌≡◌}
use Rattle.script_lines.proofs.Leading.{ways_to}
use Rattle.script_lines.proofs.leads.first_ways.Given as goal

abbrev pub invariant-loop-clone : goal.invariant-loop-clone
invariant-loop-clone l = l.ways ≡ ways_to 0 l.placed l.clones l.clone
