use Rattle.std.proofs.Common.{◌≡◌}
use Rattle.script_lines.specs.Leads.{all_lead, steps_after}
use Rattle.script_lines.proofs.leads.all_ways.Given as goal

abbrev pub invariant-loop-round : goal.invariant-loop-round
invariant-loop-round l = l.ways ≡ all_lead (steps_after l.round) l.placed l.clones
