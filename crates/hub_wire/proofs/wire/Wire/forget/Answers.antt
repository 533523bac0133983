use Rattle.hub_wire.proofs.Wires.{forget_view}
use Rattle.hub_wire.proofs.wire.Wire.forget.Goals as goal

pub returns : goal.returns
returns c =
    forget_view c.self.inside c.forget_lines.new.lines c.truncate.new.self c.truncate-2.new.self c.args.self.now
    c.forget_lines.ensures c.truncate.ensures c.truncate-2.ensures c.self.view_is
