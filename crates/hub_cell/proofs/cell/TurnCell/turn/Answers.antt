use Rattle.std.proofs.Common.{ap, sym, ◌∙◌}
use Rattle.hub_cell.proofs.Turning.{rests_again, turned}
use Rattle.hub_cell.proofs.cell.TurnCell.turn.Goals as goal

pub invariant_of-pass : goal.invariant_of-pass
invariant_of-pass g c =
    let was = ap (λ b. b.views) (sym c.replace.ensures.value) ∙ c.into_seat-seat.ensures.2 in
    rests_again g.T.Counted.list _ g.W.Work.does _ _ _ _ _ _ _ c.take.ensures.taken c.work-added.ensures.worked
    c.give.ensures.given _ _ _ c.pass.invariant was c.into_badge.ensures.2

pub returns : goal.returns
returns g c =
    let was = ap (λ b. b.views) (sym c.replace.ensures.value) ∙ c.into_seat-seat.ensures.2 in
    turned g.T.Counted.list _ g.W.Work.does _ _ _ _ _ _ _ c.take.ensures.taken c.work-added.ensures.worked
    c.give.ensures.given _ _ _ _ _ _ c.pass.view_is was c.into_badge.ensures.2
    (c.into_badge.ensures.0 ∙ c.give.ensures.cell ∙ sym c.requires.cell)
