use Rattle.std.proofs.Common.{◌≡◌, ◌∙◌, [], Ok, None, ap, rules, arith}
use Rattle.std.proofs.lemmas.Grind.{common_steps}
use Rattle.hub_drive.proofs.Turning.{if_at, through_so}
use Rattle.hub_drive.proofs.seat.turn.Goals as goal

pub returns-else-handed-clause-rests : goal.returns-else-handed-clause-rests
returns-else-handed-clause-rests g c = λ run at idle well.
    let was : c.args.seat.now.fault ≡ None = first_of (search rules, grind (arith, common_steps)) in
    let none : c.args.seat.now.steps.steps ≡ [] = first_of (search rules, grind (arith, common_steps)) in
    if_at c.take_turn.result c.in-Ok.turned _ c.in-Ok.is
    (c.take_turn.ensures.rests run c.was_done-seat.result (at was) none) idle (λ e. c.was_done-seat.ensures e)
    (c.take_turn.ensures.fault ∙ was)

pub returns-else-handed-clause-through : goal.returns-else-handed-clause-through
returns-else-handed-clause-through g c = λ run at e.
    let was : c.args.seat.now.fault ≡ None = first_of (search rules, grind (arith, common_steps)) in
    through_so g.N.Node.tells g.N.Node.stands c.args.hub.now run c.take_turn.new.seat _
    (c.take_turn.ensures.through run (at was) (c.in-Ok.is ∙ ap (λ x. Ok x) e) (c.take_turn.ensures.fault ∙ was))
