use Rattle.hub_cell.proofs.cell.TurnCell.take.Given as goal

abbrev pub ghosts-wait : goal.ghosts-wait
ghosts-wait g a = record { fit = g.T.Counted.stays a.self.now.first }
