use Rattle.std.proofs.Common.{◌≡◌, map, take}
use Rattle.base_types.specs.declared.ids.Node.TheVariants.{Server}
use Rattle.hub_wire.proofs.wire.first_due.Given as goal

abbrev pub invariant-loop-server : goal.invariant-loop-server
invariant-loop-server l = l.due ≡ map Server (take l.server-index l.rooms)
