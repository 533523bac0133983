use Rattle.std.specs.Prelude.{List, Ok}
use Rattle.message_types.specs.Soundness.{Each}
use Rattle.store_records.specs.Stored.{IsStorable}
use Rattle.service_moves.specs.Doing.{Step, DoSteps}
use Rattle.service_moves.specs.Plans.{states_at}
use Rattle.service_moves.specs.Stores.{states_of}
use Rattle.service_moves.specs.declared.stopped.RunStopped.{RunStopped}
use Rattle.service_stores.specs.Plans.{AreBeginning}
use Rattle.service_stores.proofs.Lists.{AllAre}
use Rattle.service_stores.proofs.Settles.{Settled}
use Rattle.service_stores.proofs.begin.settle_all.Given as goal

-- those so far are settled
abbrev pub invariant-loop-settling : goal.invariant-loop-settling
invariant-loop-settling g l = record {
  all : AllAre (Settled g.S.Store.view g.S.Store.tells l.settlings l.settling-index) l.initial.stores l.stores;
  does : g.S.Store.tells → Each IsStorable (states_of g.S.Store.view l.initial.stores)
      → (steps : List Step) × AreBeginning (states_at g.S.Store.view l.initial.stores) steps × DoSteps {T = Unit {0}} {E = RunStopped} g.S.Store.view (Ok tt) steps l.initial.stores l.stores;
}
