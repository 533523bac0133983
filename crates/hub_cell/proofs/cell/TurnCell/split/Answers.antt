use Rattle.std.proofs.Common.{rules, ap, sym, arith, ◌∙◌}
use Rattle.hub_cell.proofs.Moves.{splits}
use Rattle.hub_cell.proofs.Joining.{seat_spare}
use Rattle.hub_cell.proofs.cell.TurnCell.split.Goals as goal

pub split_seat-new-requires : goal.split_seat-new-requires
split_seat-new-requires g c =
    let was = ap (λ b. b.views) (sym c.replace.ensures.value) ∙ c.into_seat-seat.ensures.2 in
    let some_spare = seat_spare c.pass.inside.badge.views c.pass.inside.spare _ c.pass.invariant was in
    (search rules, search rules, splits g.T.Counted.list _ _ _ _ (omega arith))
