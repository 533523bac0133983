use Rattle.std.proofs.Common.{◌≡◌, ◌++◌, length}
use Rattle.hub_cell.specs.Passes.{IsGathered}
use Rattle.hub_cell.proofs.cell.TurnCell.gather.Given as goal

abbrev pub invariant-loop-pass : goal.invariant-loop-pass
invariant-loop-pass g l = (rest : _) × (l.fn.passes.items ≡ l.passes.items ++ rest) × IsGathered l.self l.all rest

abbrev pub decreases-loop-pass : goal.decreases-loop-pass
decreases-loop-pass g l = length l.passes.items
