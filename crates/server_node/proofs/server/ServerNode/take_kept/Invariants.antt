use Rattle.std.proofs.Common.{◌≡◌, ◌++◌, List, ℕ, length, true}
use Rattle.hub_laws.specs.Keeping.{Round}
use Rattle.hub_node.specs.Nodes.{Part}
use Rattle.message_types.specs.declared.message.Message.{Message}
use Rattle.message_types.specs.Soundness.{Each}
use Rattle.server_exporter.specs.Gathering.{AreGives}
use Rattle.server_exporter.specs.Keepers.{GoesOn, IsDoneFor}
use Rattle.server_node.proofs.Turns.{Gathers}
use Rattle.server_node.specs.Standing.{AreTheirs, HasAllOf, HasServed, IsReady, StandsSo, latest_first}
use Rattle.server_node.proofs.server.ServerNode.take_kept.Given as goal

abbrev pub invariant-loop-self : goal.invariant-loop-self
invariant-loop-self g l = record {
  ready : IsReady g.S.Store.tells g.S.Store.view l.self;
  rested : l.self.exporter.rested ≡ true;
  theirs : AreTheirs l.self.exporter.tables l.self.inbox;
  gives : AreGives (g.S.Store.view l.self.keeper.store).state l.waiting;
  works : (part : Part) (past : List Round) (came : List Message) (lapses : ℕ)
      → StandsSo g.S.Store.tells g.S.Store.view part l.initial.self past l.initial.steps.steps
      (came ++ latest_first l.initial.self.inbox) lapses
      → Gathers g.S.Store.tells g.S.Store.view part l.initial.self past l.initial.steps.steps l.self l.waiting
      l.steps.steps (came ++ latest_first l.self.inbox) lapses;
  gone : g.S.Store.tells → (came : List Message) → HasAllOf came l.initial.self
      → GoesOn came (g.S.Store.view l.initial.self.keeper.store) (g.S.Store.view l.self.keeper.store)
      × HasAllOf came l.self × Each (IsDoneFor came) l.waiting;
  stays : HasServed g.S.Store.tells g.S.Store.view l.initial.self l.self;
}

abbrev pub decreases-loop-self : goal.decreases-loop-self
decreases-loop-self g l = length l.self.inbox
