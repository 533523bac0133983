use Rattle.std.proofs.Common.{rules, ap, sym, ◌∙◌}
use Rattle.hub_cell.proofs.Moves.{looks}
use Rattle.hub_cell.proofs.cell.TurnCell.wait.Goals as goal

pub load-ended-requires : goal.load-ended-requires
load-ended-requires g c =
    let same = c.loop.invariant.1 in (
      search rules,
      search rules,
      looks g.T.Counted.list _ _ (λ x h.
          c.requires.fit x (rw (ap (λ d. d.first) (sym c.self.view_is)) h)) _ _ _ _ _ c.requires.drawn.1.ticket
          (ap (λ m. m.0.stage) same ∙ ap (λ v. v.stage) c.requires.drawn.1.view_is),
    )
