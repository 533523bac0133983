use Rattle.std.proofs.Common.{◌≡◌}
use Rattle.hub_wire.proofs.Mapped.{mapped_first}
use Rattle.hub_wire.specs.Plans.{accepted}
use Rattle.hub_wire.proofs.plan.accept_lines.Given as goal

abbrev pub invariant-loop-place : goal.invariant-loop-place
invariant-loop-place l = l.lines ≡ mapped_first accepted l.place l.fn.lines
