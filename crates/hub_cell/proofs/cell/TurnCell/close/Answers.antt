use Rattle.std.proofs.Common.{ap, ◌∙◌}
use Rattle.hub_cell.specs.Lists.{entries}
use Rattle.hub_cell.proofs.Logs.{entries-numbered}
use Rattle.hub_cell.proofs.Gathering.{closed}
use Rattle.hub_cell.proofs.cell.TurnCell.close.Goals as goal

pub returns : goal.returns
returns g c = (
  c.open.ensures.stays,
  closed _ _ _ _ c.gather-all.ensures (ap entries c.open.ensures.made ∙
      entries-numbered 0 _) c.open.ensures.seen,
)
