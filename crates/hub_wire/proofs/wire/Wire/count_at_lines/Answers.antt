use Rattle.hub_wire.proofs.Wires.{passed_view}
use Rattle.hub_wire.proofs.wire.Wire.count_at_lines.Goals as goal

pub returns : goal.returns
returns c =
    passed_view c.self.inside c.count_message.new.lines c.args.message.now c.args.self.now c.count_message.ensures
    c.self.view_is
