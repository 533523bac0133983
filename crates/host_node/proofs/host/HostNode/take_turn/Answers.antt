use Rattle.std.proofs.Common.{◌∷◌}
use Rattle.hub_laws.specs.Keeping.{Round}
use Rattle.host_node.proofs.Turns.{at_ok, was_given}
use Rattle.host_node.proofs.host.HostNode.take_turn.Goals as goal

pub returns-in-Ok : goal.returns-in-Ok
returns-in-Ok c = λ part past made st to.
    let round : Round = record { steps = made; given = c.args.given } in
    let handed = at_ok c.hand_in-handed.result _ c.in-Ok.ensures.one
    (c.hand_in-handed.ensures part past made c.args.given st) in
    let taken = at_ok c.take_given-taken.result _ c.in-Ok.ensures.other
    (c.take_given-taken.ensures part (round ∷ past) handed to (was_given past made c.args.given)) in
    c.go_on.ensures part (round ∷ past) taken
