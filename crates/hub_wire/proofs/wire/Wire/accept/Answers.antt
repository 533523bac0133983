use Rattle.hub_wire.proofs.Wires.{accept_view}
use Rattle.hub_wire.proofs.wire.Wire.accept.Goals as goal

pub returns : goal.returns
returns c =
    accept_view c.self.inside c.accept_lines.new.lines c.len-self-inside.result c.len-self-inside-2.result
    c.args.self.now
    c.accept_lines.ensures c.len-self-inside.ensures c.len-self-inside-2.ensures c.self.view_is
