use Rattle.std.proofs.Common.{sym, ap, ◌∙◌}
use Rattle.std.specs.List.{position}
use Rattle.hub_wire.specs.Packets.{is_next}
use Rattle.hub_wire.proofs.Taking.{copy_is, no_copy}
use Rattle.hub_wire.proofs.wire.Wire.take_copy.Goals as goal

pub returns-in_err-place-clause-copy : goal.returns-in_err-place-clause-copy
returns-in_err-place-clause-copy c =
    c.from_residual.ensures
    ∙ no_copy c.self.inside c.args.self.now c.self.view_is c.requires c.args.node
    (ap (λ ps. position (is_next ps c.self.inside.counted.steps c.args.node) ps) (sym c.as_slice.ensures)
    ∙ sym c.in_err-place.ensures)

pub returns-clause-copy : goal.returns-clause-copy
returns-clause-copy c =
    copy_is c.self.inside c.args.self.now c.self.view_is c.requires c.args.node c.in_ok-place.place
    c.remove-packet.result
    (ap (λ ps. position (is_next ps c.self.inside.counted.steps c.args.node) ps) (sym c.as_slice.ensures)
    ∙ sym c.in_ok-place.ensures)
    c.remove-packet.ensures.value
