use Rattle.std.proofs.Common.{◌*◌, [], take}
use Rattle.std.specs.Prelude.{Ok}
use Rattle.store_memory.specs.Views.{DoesActs}
use Rattle.store_laws.specs.Moves.{all_parts}
use Rattle.store_state.specs.declared.state.Holding.{Holding}
use Rattle.service_moves.specs.Batches.{batch_wear}
use Rattle.service_moves.specs.Ships.{MaySend}
use Rattle.service_moves.specs.Steps.{Lasts}
use Rattle.service_moves.specs.declared.stopped.RunStopped.{RunStopped}
use Rattle.service_moves.proofs.sending.send.Given as goal

-- what the parts so far left of the two stores
abbrev pub invariant-loop-at : goal.invariant-loop-at
invariant-loop-at g l = record {
  still : g.S.Store.tells → DoesActs {T = Unit {0}} {E = RunStopped} (Ok tt) [] (g.S.Store.view l.fn.sender) (g.S.Store.view l.sender);
  does : g.S.Store.tells → (holding : Holding) → MaySend (g.S.Store.view l.fn.sender).state (g.S.Store.view l.fn.receiver).state holding l.ship l.mover
      → DoesActs {T = Unit {0}} {E = RunStopped} (Ok tt) (take l.at (all_parts holding l.ship.from l.ship.number l.mover)) (g.S.Store.view l.fn.receiver) (g.S.Store.view l.receiver);
  sends : (g.S.Store.view l.sender).ready;
  takes : (g.S.Store.view l.receiver).ready;
  first : Lasts (batch_wear * l.at) (g.S.Store.view l.fn.sender) (g.S.Store.view l.sender);
  second : Lasts (batch_wear * l.at) (g.S.Store.view l.fn.receiver) (g.S.Store.view l.receiver);
}
