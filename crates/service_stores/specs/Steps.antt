-- The steps by which a run starts.
use Rattle.std.specs.Prelude.{◌≡◌, ◌≤◌, ⊤, ℕ, List, slice_get, Some}
use Rattle.base_types.specs.declared.ids.ServerId.{ServerId}
use Rattle.store_memory.specs.Views.{View, IsSameStore}
use Rattle.service_starts.specs.Fitting.{IsRefused}
use Rattle.service_starts.specs.declared.fitting.FitRefused.TheVariants as fit
use Rattle.service_starts.specs.declared.told.Told.{Told}
use Rattle.service_moves.specs.declared.stopped.RunStopped.{RunStopped}
use Rattle.service_moves.specs.declared.stopped.RunStopped.TheVariants.{Failed, Unfit, Memory}

-- a store may be asked and opened anew, and is no more worn than so
pub record IsReady (worn : ℕ) (store : View) : Type 0 where
  pub ready : store.ready
  pub mendable : store.mendable
  pub wear : store.wear ≤ worn

-- so it is of all
pub record AreReady {S : Type 0} (view : S → View) (worn : ℕ) (stores : List S) : Type 0 where
  pub each : (k : ℕ) (store : S) → slice_get stores k ≡ Some store → IsReady worn (view store)

-- each may be asked
pub record MayBeAsked {S : Type 0} (view : S → View) (stores : List S) : Type 0 where
  pub each : (k : ℕ) (store : S) → slice_get stores k ≡ Some store → (view store).ready

-- a store is that of the same server as before, may be opened anew, and its disk's count of faults didn't fall
pub record IsStill (old new : View) : Type 0 where
  pub same : IsSameStore old new
  pub mendable : new.mendable
  pub faults : old.faults ≤ new.faults

-- a server is one of so many
pub record IsOneOf (count : ℕ) (server : ServerId) : Type 0 where
  pub least : 1 ≤ server.0
  pub most : server.0 ≤ count

-- why disks that don't fit stop a run
abbrev pub IsUnfit : List Told → RunStopped → Type 0
IsUnfit all (Failed server) = ⊥
IsUnfit all (Unfit disk slot) = IsRefused all (fit.Unfit disk slot)
IsUnfit all Memory = ⊤
