use Rattle.std.proofs.Common.{◌≡◌}
use Rattle.hub_wire.proofs.Mapped.{mapped_first}
use Rattle.hub_wire.specs.Plans.{with_message}
use Rattle.hub_wire.proofs.plan.count_message.Given as goal

abbrev pub invariant-loop-place : goal.invariant-loop-place
invariant-loop-place l = l.lines ≡ mapped_first (with_message l.message) l.place l.fn.lines
