use Rattle.std.proofs.Common.{rules, ap, sym, ◌∙◌}
use Rattle.hub_cell.proofs.Moves.{joins, tells}
use Rattle.hub_cell.proofs.Joining.{seat_idle, joined_rests, joined}
use Rattle.hub_cell.proofs.cell.TurnCell.join.Goals as goal

pub join_seat-requires : goal.join_seat-requires
join_seat-requires g c =
    let was = ap (λ b. b.views) (sym c.replace.ensures.value) ∙ c.into_seat-seat.ensures.2 in
    let was' = c.into_seat.ensures.2 in (
      search rules,
      search rules,
      search rules,
      search rules,
      joins g.T.Counted.list _ _ _ _ _ _ (seat_idle c.pass.inside.badge.views _ _ c.pass.invariant was)
          (seat_idle c.other.inside.badge.views _ _ c.other.invariant was'),
    )

pub load-requires : goal.load-requires
load-requires g c = (search rules, search rules, tells g.T.Counted.list _ _ _ _ _ _)

pub invariant_of-pass : goal.invariant_of-pass
invariant_of-pass g c =
    let was = ap (λ b. b.views) (sym c.replace.ensures.value) ∙ c.into_seat-seat.ensures.2 in
    joined_rests _ _ _ _ _ c.pass.invariant c.other.invariant _ _ _ _ was c.into_seat.ensures.2
    (ap (λ m. m.0) c.join_seat.ensures.2) c.load.ensures.2 c.into_badge.ensures.2

pub returns : goal.returns
returns g c =
    let was = ap (λ b. b.views) (sym c.replace.ensures.value) ∙ c.into_seat-seat.ensures.2 in
    let same = c.into_badge.ensures.0 ∙ c.load.ensures.0 ∙ c.join_seat.ensures.0 ∙ c.into_seat-seat.ensures.0 ∙
    ap (λ b. b.table_id) c.replace.ensures.value in
    joined _ _ _ _ _ c.pass.invariant c.other.invariant _ _ _ _ was c.into_seat.ensures.2
    (ap (λ m. m.0) c.join_seat.ensures.2) c.load.ensures.2 c.into_badge.ensures.2 _ c.other.inside.badge.table_id _
    _ _ same c.pass.view_is c.other.view_is
