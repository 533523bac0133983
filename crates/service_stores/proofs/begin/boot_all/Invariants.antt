use Rattle.std.proofs.Common.{◌^◌, List}
use Rattle.std.specs.Prelude.{Ok}
use Rattle.service_moves.specs.Doing.{Step, DoSteps}
use Rattle.service_moves.specs.Plans.{states_at}
use Rattle.service_moves.specs.declared.stopped.RunStopped.{RunStopped}
use Rattle.service_stores.specs.Plans.{AreBeginning}
use Rattle.store_acts.specs.Acts.{booted}
use Rattle.service_stores.proofs.Lists.{AllAre}
use Rattle.service_stores.proofs.Stores.{Past}
use Rattle.service_stores.proofs.begin.boot_all.Given as goal

-- those so far have begun the run
abbrev pub invariant-loop-k : goal.invariant-loop-k
invariant-loop-k g l = record {
  past : AllAre (Past g.S.Store.view g.S.Store.tells (2 ^ 32) (2 ^ 40) booted l.k) l.initial.stores l.stores;
  does : g.S.Store.tells → (steps : List Step) × AreBeginning (states_at g.S.Store.view l.initial.stores) steps × DoSteps {T = Unit {0}} {E = RunStopped} g.S.Store.view (Ok tt) steps l.initial.stores l.stores;
}
