use Rattle.std.proofs.Common.{ℕ}
use Rattle.std.specs.Prelude.{Ok}
use Rattle.base_types.specs.declared.ids.HostId.{HostId}
use Rattle.store_laws.specs.HistoryLaws.{Happens}
use Rattle.store_laws.specs.MoveKeeping.{KeepAll}
use Rattle.service_moves.specs.Doing.{DoSteps}
use Rattle.service_moves.specs.Stores.{states_of}
use Rattle.service_moves.specs.declared.stopped.RunStopped.{RunStopped}
use Rattle.service_stores.proofs.Parts.{did}
use Rattle.service_stores.proofs.Planned.{each_steps, piece_acts}
use Rattle.service_stores.proofs.KeepStores.{Passed}
use Rattle.service_stores.proofs.keeping.keep_quiet.Given as goal

-- the first stores did their acts
abbrev pub invariant-loop-k : goal.invariant-loop-k
invariant-loop-k g l = record {
  passed : Passed (did g.S.Store.tells g.S.Store.view l.tree l.history) l.k l.initial.stores l.stores;
  does : g.S.Store.tells → (next : HostId → ℕ) → Happens next l.tree l.history → KeepAll next l.tree (states_of g.S.Store.view l.initial.stores)
      → DoSteps {T = Unit {0}} {E = RunStopped} g.S.Store.view (Ok tt) (each_steps (piece_acts l.tree l.history) l.k) l.initial.stores l.stores;
}
