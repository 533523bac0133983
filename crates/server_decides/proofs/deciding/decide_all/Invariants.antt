use Rattle.std.specs.Prelude.{List}
use Rattle.message_types.specs.declared.message.Message.{Message}
use Rattle.server_says.specs.Keepers.{GoesOn, IsFit}
use Rattle.server_says.specs.Running.{GoesTo}
use Rattle.server_decides.specs.Deciding.{Decides}
use Rattle.server_decides.specs.Serving.{AreBrought, IsServed}
use Rattle.server_decides.specs.Running.{making}
use Rattle.server_decides.specs.Saying.{SaysOn}
use Rattle.server_tables.specs.Sound.{AreSound}
use Rattle.server_decides.proofs.Steps.{HasGoneOn}
use Rattle.server_decides.proofs.deciding.decide_all.Given as goal

abbrev pub invariant-loop : goal.invariant-loop
invariant-loop g l = record {
  served : IsServed l.tables (g.S.Store.view l.keeper.store).state;
  fit : IsFit (g.S.Store.view l.keeper.store) l.keeper.left;
  gone : HasGoneOn (g.S.Store.view l.initial.keeper.store) (g.S.Store.view l.keeper.store);
  went : g.S.Store.tells → (came : List Message) → AreBrought came l.initial.tables.pending
      → GoesOn came (g.S.Store.view l.initial.keeper.store) (g.S.Store.view l.keeper.store);
  goes : g.S.Store.tells → GoesTo Decides
      (making l.initial.tables l.initial.draft (g.S.Store.view l.initial.keeper.store).state)
      (making l.tables l.draft (g.S.Store.view l.keeper.store).state);
  says : AreSound l.initial.tables → SaysOn l.initial.tables l.initial.draft l.tables l.draft;
}
