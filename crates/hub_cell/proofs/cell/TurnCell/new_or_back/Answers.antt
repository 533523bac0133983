use Rattle.std.proofs.Common.{rules, ◌≡◌, [], ◌∷◌, refl, sym, subst, arith}
use Rattle.atomic_table.specs.Table.{opening}
use Rattle.hub_cell.specs.Lock.{IsKept, first_view}
use Rattle.hub_cell.proofs.Moves.{starts}
use Rattle.hub_cell.proofs.Logs.{fits_along}
use Rattle.hub_cell.proofs.cell.TurnCell.new_or_back.Goals as goal

pub new-requires : goal.new-requires
new-requires g c =
    let slots : c.push.new.self.items ≡ c.args.value ∷ [] = search rules in
    let first = c.of.result.value in
    let stays = fits_along g.T.Counted.stays c.args.value first c.args.value c.args.value (sym c.of.ensures) refl
    c.requires.stays in
    subst (λ l. IsKept g.T.Counted.list (g.T.Counted.stays first) c.args.seats (opening (0 ∷ 0 ∷ 0 ∷ []) l
    (first_view c.args.seats))) (sym slots)
    (starts g.T.Counted.list (g.T.Counted.stays first) c.args.seats c.args.value c.requires.empty stays (omega arith))
