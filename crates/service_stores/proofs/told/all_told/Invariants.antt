use Rattle.std.proofs.Common.{◌≡◌, ◌*◌, [], take, length}
use Rattle.std.specs.Prelude.{Ok}
use Rattle.service_moves.specs.Doing.{DoSteps}
use Rattle.service_moves.specs.declared.stopped.RunStopped.{RunStopped}
use Rattle.service_moves.specs.Batches.{batch_wear}
use Rattle.service_stores.proofs.Lists.{AllAre}
use Rattle.service_stores.proofs.Stores.{Past}
use Rattle.service_stores.proofs.told.all_told.Given as goal
use Rattle.service_stores.specs.Starting.{told_by}

-- those so far have told it
abbrev pub invariant-loop-k : goal.invariant-loop-k
invariant-loop-k g l = record {
  past : AllAre (Past g.S.Store.view g.S.Store.tells 0 (2 * batch_wear) (λ state. state) l.k) l.initial.stores l.stores;
  told : g.S.Store.tells → l.all ≡ take l.k (told_by g.S.Store.view l.disks l.initial.stores);
  count : length l.all ≡ l.k;
  does : g.S.Store.tells → DoSteps {T = Unit {0}} {E = RunStopped} g.S.Store.view (Ok tt) [] l.initial.stores l.stores;
}
