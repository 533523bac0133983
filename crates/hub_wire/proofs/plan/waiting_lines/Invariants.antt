use Rattle.std.proofs.Common.{◌≡◌, map, take}
use Rattle.hub_wire.specs.Plans.{waiting_at}
use Rattle.hub_wire.proofs.plan.waiting_lines.Given as goal

abbrev pub invariant-loop-line : goal.invariant-loop-line
invariant-loop-line l = l.lines ≡ map waiting_at (take l.line-index l.plan)
