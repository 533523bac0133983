use Rattle.std.proofs.Common.{◌≤◌, ◌+◌, ◌*◌, take}
use Rattle.std.specs.Prelude.{Ok}
use Rattle.store_memory.specs.Views.{DoesActs, IsSameStore}
use Rattle.store_memory.specs.declared.store.StoreFault.{StoreFault}
use Rattle.store_acts.specs.Sound.{AllFit}
use Rattle.service_moves.specs.Again.{AreNew}
use Rattle.service_moves.specs.Batches.{batch_wear}
use Rattle.service_moves.proofs.batches.apply_all.Given as goal

-- what the batches so far left
abbrev pub invariant-loop-at : goal.invariant-loop-at
invariant-loop-at g l = record {
  does : g.S.Store.tells → AllFit (g.S.Store.view l.fn.store).state l.acts → AreNew (g.S.Store.view l.fn.store).state l.acts
      → DoesActs {T = Unit {0}} {E = StoreFault} (Ok tt) (take (l.at * 8) l.acts) (g.S.Store.view l.fn.store) (g.S.Store.view l.store);
  same : IsSameStore (g.S.Store.view l.fn.store) (g.S.Store.view l.store);
  ready : (g.S.Store.view l.store).ready;
  mendable : (g.S.Store.view l.store).mendable;
  wear : (g.S.Store.view l.store).wear ≤ (g.S.Store.view l.fn.store).wear + batch_wear * l.at;
  counted : (g.S.Store.view l.fn.store).faults ≤ (g.S.Store.view l.store).faults;
}
