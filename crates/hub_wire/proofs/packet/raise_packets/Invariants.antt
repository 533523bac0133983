use Rattle.std.proofs.Common.{◌≡◌}
use Rattle.hub_wire.proofs.Mapped.{mapped_first}
use Rattle.hub_wire.specs.Packets.{raised_packet}
use Rattle.hub_wire.proofs.packet.raise_packets.Given as goal

abbrev pub invariant-loop-place : goal.invariant-loop-place
invariant-loop-place l = l.packets ≡ mapped_first (raised_packet l.flag) l.place l.fn.packets
