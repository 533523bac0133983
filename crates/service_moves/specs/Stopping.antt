-- Why a run over the stores of servers stops.
use Rattle.std.specs.Prelude.{◌≡◌, ⊤, ℕ, ◌+◌, List, slice_get, Some, IsTrue}
use Rattle.base_types.specs.Faults.{RoseBy}
use Rattle.store_memory.specs.Views.{View}
use Rattle.service_starts.specs.Fitting.{IsRefused}
use Rattle.service_starts.specs.declared.fitting.FitRefused.TheVariants as fit
use Rattle.service_starts.specs.declared.told.Told.{Told}
use Rattle.service_moves.specs.Stores.{states_of}
use Rattle.service_moves.specs.declared.stopped.RunStopped.{RunStopped}
use Rattle.service_moves.specs.declared.stopped.RunStopped.TheVariants.{Failed, Unfit, Memory}

-- the disk of the store of a server failed twice, the second time at its last call
pub record HasFailed {S : Type 0} (view : S → View) (old new : List S) (number : ℕ) : Type 0 where
  pub k : ℕ
  pub numbered : number ≡ k + 1
  pub before : S
  pub after : S
  pub was : slice_get old k ≡ Some before
  pub is : slice_get new k ≡ Some after
  pub twice : RoseBy 2 (view before).faults (view after).faults
  pub last : IsTrue (view after).last_failed

-- why it stopped: a disk failed, or the disks don't fit, of which the first slot is named that doesn't, and then
-- they keep what they kept; or memory ran out
abbrev pub IsStopped : {S : Type 0} → Type 0 → (S → View) → List Told → List S → List S → RunStopped → Type 0
IsStopped tells view all old new (Failed server) = HasFailed view old new server.0
IsStopped tells view all old new (Unfit disk slot) =
    tells → IsRefused all (fit.Unfit disk slot) × (states_of view new ≡ states_of view old)
IsStopped tells view all old new Memory = ⊤
