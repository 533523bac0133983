use Rattle.hub_wire.proofs.Wires.{raised_view}
use Rattle.hub_wire.proofs.wire.Wire.raised.Goals as goal

pub returns : goal.returns
returns c =
    raised_view c.self.inside c.raise_lines.new.lines c.raise_packets.new.packets c.args.flag.now c.args.self.now
    c.raise_lines.ensures c.raise_packets.ensures c.self.view_is
