use Rattle.std.proofs.Common.{ap, ◌∙◌}
use Rattle.std.specs.List.{position}
use Rattle.hub_wire.specs.Packets.{is_next}
use Rattle.hub_wire.proofs.Taking.{copy_known}
use Rattle.hub_wire.proofs.wire.Wire.has_copy.Goals as goal

pub returns : goal.returns
returns c =
    c.is_some.ensures
    ∙ copy_known c.self.inside c.args.self.now c.self.view_is c.requires c.args.node c.place_of_next.result
    (c.place_of_next.ensures
    ∙ ap (λ ps. position (is_next ps c.self.inside.counted.steps c.args.node) ps) c.as_slice.ensures)
