use Rattle.std.proofs.Common.{◌-◌, length}
use Rattle.server_says.specs.Keepers.{HasStayed, IsFit}
use Rattle.server_says.specs.Running.{GoesTo}
use Rattle.server_tables.specs.Sound.{AreSound}
use Rattle.server_decides.specs.Saying.{SaysOn}
use Rattle.server_decides.specs.Serving.{IsServed}
use Rattle.server_decides.specs.Sending.{Sends, looking}
use Rattle.server_decides.proofs.sending.send_all.Given as goal

abbrev pub invariant-loop-at : goal.invariant-loop-at
invariant-loop-at g l = record {
  served : IsServed l.tables (g.S.Store.view l.keeper.store).state;
  fit : IsFit (g.S.Store.view l.keeper.store) l.keeper.left;
  stayed : HasStayed g.S.Store.tells (g.S.Store.view l.initial.keeper.store) (g.S.Store.view l.keeper.store);
  goes : g.S.Store.tells → GoesTo (Sends (g.S.Store.view l.initial.keeper.store).state)
      (looking l.initial.tables l.initial.draft 0) (looking l.tables l.draft l.at);
  says : AreSound l.initial.tables → SaysOn l.initial.tables l.initial.draft l.tables l.draft;
}

abbrev pub decreases-loop-at : goal.decreases-loop-at
decreases-loop-at g l = length l.tables.pending - l.at
