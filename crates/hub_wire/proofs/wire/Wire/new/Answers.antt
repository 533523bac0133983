use Rattle.std.proofs.Common.{ap, map, ◌∙◌}
use Rattle.hub_wire.specs.Plans.{waiting_at}
use Rattle.hub_wire.proofs.Wires.{new_view}
use Rattle.hub_wire.proofs.wire.Wire.new.Goals as goal

pub returns : goal.returns
returns c =
    new_view c.args.script.now c.args.rooms.now c.in_ok-lines.lines c.new.result c.in_ok-due.due c.all_left.result
    c.len-due_counted.result (c.in_ok-lines.ensures ∙ ap (map waiting_at) c.as_slice.ensures) c.new.ensures
    c.in_ok-due.ensures
    c.all_left.ensures c.len-due_counted.ensures
