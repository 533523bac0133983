-- What steps of moves leave of stores.
use Rattle.std.specs.Prelude.{◌≡◌, ◌≤◌, ⊤, ℕ, ◌+◌, List, length, slice_get, Some, IsTrue, Result, OnOk, IfErr}
use Rattle.base_types.specs.Faults.{RoseBy}
use Rattle.base_types.specs.declared.ids.ServerId.{ServerId}
use Rattle.store_memory.specs.Views.{View, IsSameStore}
use Rattle.service_moves.specs.Stopping.{HasFailed}
use Rattle.service_moves.specs.declared.stopped.RunStopped.{RunStopped}
use Rattle.service_moves.specs.declared.stopped.RunStopped.TheVariants.{Failed, Unfit, Memory}

-- a store is that of the same server as before, may be opened anew, its disk's count of faults didn't fall, and it is
-- worn by so much at most
pub record Lasts (worn : ℕ) (old new : View) : Type 0 where
  pub same : IsSameStore old new
  pub mendable : new.mendable
  pub counted : old.faults ≤ new.faults
  pub wear : new.wear ≤ old.wear + worn

-- why the store of a server stopped a run: its disk failed twice, the second time at its last call; or memory ran out
abbrev pub StopsAt : ServerId → View → View → RunStopped → Type 0
StopsAt server old new (Failed failed) =
    (failed ≡ server) × RoseBy 2 old.faults new.faults × IsTrue new.last_failed
StopsAt server old new (Unfit disk slot) = ⊥
StopsAt server old new Memory = ⊤

-- why one of many stopped it
abbrev pub StopsAmong : {S : Type 0} → (S → View) → List S → List S → RunStopped → Type 0
StopsAmong view old new (Failed server) = HasFailed view old new server.0
StopsAmong view old new (Unfit disk slot) = ⊥
StopsAmong view old new Memory = ⊤

-- what a step leaves of one store
pub record GoesOn {T : Type 0} (worn : ℕ) (result : Result T RunStopped) (old new : View) : Type 0 where
  pub lasts : Lasts worn old new
  pub ready : OnOk result (old.ready → new.ready)

-- and of many
pub record AllGoOn {S T : Type 0} (view : S → View) (worn : ℕ) (result : Result T RunStopped) (old new : List S) :
    Type 0 where
  pub count : length new ≡ length old
  pub each : (k : ℕ) (before after : S) → slice_get old k ≡ Some before → slice_get new k ≡ Some after
      → GoesOn worn result (view before) (view after)
  pub stopped : IfErr result (StopsAmong view old new)
