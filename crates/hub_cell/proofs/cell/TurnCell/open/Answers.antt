use Rattle.std.proofs.Common.{ap, sym, ◌∙◌, ◌+◌}
use Rattle.hub_cell.specs.Lists.{numbered}
use Rattle.hub_cell.specs.Passes.{the_view}
use mathlib.Core.Option.{some-injective}
use Rattle.hub_cell.proofs.Moves.{closes}
use Rattle.hub_cell.proofs.Joining.{seat_idle, seat_spare}
use Rattle.hub_cell.proofs.Logs.{prefix_along, fits_along}
use Rattle.hub_cell.proofs.cell.TurnCell.open.Goals as goal

pub returns-clause-made : goal.returns-clause-made
returns-clause-made g c =
    let list = g.T.Counted.list in
    let was = c.into_seat.ensures.2 in
    let whole = seat_spare c.all.inside.badge.views c.all.inside.spare _ c.all.invariant was ∙ ap (λ p. p.spare + 1)
    c.all.view_is ∙ c.requires.whole ∙ sym (ap (λ d. d.seats) c.self.view_is) in
    let end = closes list _ _ _ _ _ _ (seat_idle c.all.inside.badge.views _ _ c.all.invariant was) whole
    c.close_with-closed.ensures.values.2 in
    let value = some-injective _ _ (sym end.there ∙ c.take-value.ensures.value) in
    sym (ap (λ p. p.made) c.all.view_is) ∙ ap (λ vs. (the_view vs).made) was ∙ end.made ∙ ap (λ x. numbered 0 (list x))
    value

pub returns-clause-seen : goal.returns-clause-seen
returns-clause-seen g c =
    let list = g.T.Counted.list in
    let was = c.into_seat.ensures.2 in
    let whole = seat_spare c.all.inside.badge.views c.all.inside.spare _ c.all.invariant was ∙ ap (λ p. p.spare + 1)
    c.all.view_is ∙ c.requires.whole ∙ sym (ap (λ d. d.seats) c.self.view_is) in
    let end = closes list _ _ _ _ _ _ (seat_idle c.all.inside.badge.views _ _ c.all.invariant was) whole
    c.close_with-closed.ensures.values.2 in
    let value = some-injective _ _ (sym end.there ∙ c.take-value.ensures.value) in
    let seen = sym (ap (λ vs. (the_view vs).seen) was) ∙ ap (λ p. p.seen) c.all.view_is in
    prefix_along _ _ _ _ seen (ap list value) end.seen

pub returns-clause-stays : goal.returns-clause-stays
returns-clause-stays g c =
    let list = g.T.Counted.list in
    let was = c.into_seat.ensures.2 in
    let whole = seat_spare c.all.inside.badge.views c.all.inside.spare _ c.all.invariant was ∙ ap (λ p. p.spare + 1)
    c.all.view_is ∙ c.requires.whole ∙ sym (ap (λ d. d.seats) c.self.view_is) in
    let end = closes list _ _ _ _ _ _ (seat_idle c.all.inside.badge.views _ _ c.all.invariant was) whole
    c.close_with-closed.ensures.values.2 in
    let value = some-injective _ _ (sym end.there ∙ c.take-value.ensures.value) in
    fits_along g.T.Counted.stays _ _ _ _ (ap (λ d. d.first) c.self.view_is) value end.fits
