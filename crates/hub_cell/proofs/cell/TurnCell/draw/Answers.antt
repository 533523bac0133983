use Rattle.std.proofs.Common.{rules}
use Rattle.hub_cell.proofs.Moves.{draws}
use Rattle.hub_cell.proofs.cell.TurnCell.draw.Goals as goal

pub fetch_add-requires : goal.fetch_add-requires
fetch_add-requires g c = (
  search rules,
  search rules,
  draws g.T.Counted.list _ _ _ _ _ _ c.requires.idle.idle
      c.requires.idle.live,
)
