use Rattle.std.proofs.Common.{rules, ap, sym, ◌∙◌}
use Rattle.hub_cell.specs.Lock.{held_list}
use Rattle.hub_cell.proofs.Moves.{counts, ends}
use Rattle.hub_cell.proofs.cell.TurnCell.give.Goals as goal

pub fetch_add-requires : goal.fetch_add-requires
fetch_add-requires g c =
    let r = c.requires.grown in
    let list = g.T.Counted.list in (
      search rules,
      search rules,
      counts list _ _ _ _ _ _ r.ticket r.added _ r.stage (ap (held_list list) r.held ∙
          r.grown) r.count (rw (ap (held_list list) r.held) r.small),
    )

pub fetch_add-ended-requires : goal.fetch_add-ended-requires
fetch_add-ended-requires g c =
    let r = c.requires.grown in
    let list = g.T.Counted.list in
    let did = c.fetch_add.ensures.2 in (
      search rules,
      search rules,
      ends list _ _ _ _ _ _ r.value r.ticket (ap (λ v. v.stage) did.1 ∙ r.stage) (did.0 ∙
          r.held) (sym (ap (λ v. v.seen) did.1 ∙ ap (held_list list) r.held)) (rw (ap (λ d. d.first) (c.self.view_is))
          r.fits),
    )
