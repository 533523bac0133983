use Rattle.hub_laws.specs.Keeping.{Round}
use Rattle.hub_node.specs.Nodes.{Part}
use Rattle.message_types.specs.declared.message.Message.{Message}
use Rattle.std.proofs.Common.{◌≡◌, List, ℕ}
use Rattle.server_exporter.specs.Keepers.{GoesOn}
use Rattle.server_node.specs.Standing.{HasAllOf, HasServed, IsReady, StandsSo}
use Rattle.server_node.proofs.server.ServerNode.settle.Given as goal

abbrev pub invariant-loop : goal.invariant-loop
invariant-loop g l = record {
  ready : IsReady g.S.Store.tells g.S.Store.view l.self;
  works : (part : Part) (past : List Round) (came : List Message) (lapses : ℕ)
      → StandsSo g.S.Store.tells g.S.Store.view part l.initial.self past l.initial.steps.steps came lapses
      → StandsSo g.S.Store.tells g.S.Store.view part l.self past l.steps.steps came lapses;
  inbox : l.self.inbox ≡ l.initial.self.inbox;
  gone : g.S.Store.tells → (came : List Message) → HasAllOf came l.initial.self
      → GoesOn came (g.S.Store.view l.initial.self.keeper.store) (g.S.Store.view l.self.keeper.store)
      × HasAllOf came l.self;
  stays : HasServed g.S.Store.tells g.S.Store.view l.initial.self l.self;
}
