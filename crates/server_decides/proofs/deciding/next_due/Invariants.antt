use Rattle.std.proofs.Common.{drop}
use Rattle.server_says.specs.Keepers.{HasStayed, IsFit}
use Rattle.server_decides.specs.Deciding.{NoneDue}
use Rattle.server_decides.proofs.deciding.next_due.Given as goal

-- nothing is due of any, where nothing is of those that weren't looked at
abbrev pub invariant-loop-at : goal.invariant-loop-at
invariant-loop-at g l = record {
  fit : IsFit (g.S.Store.view l.keeper.store) l.keeper.left;
  stayed : HasStayed g.S.Store.tells (g.S.Store.view l.initial.keeper.store) (g.S.Store.view l.keeper.store);
  none : g.S.Store.tells
      → NoneDue l.tables (g.S.Store.view l.initial.keeper.store).state l.fresh (drop l.at l.pending-items)
      → NoneDue l.tables (g.S.Store.view l.initial.keeper.store).state l.fresh l.pending-items;
}
