-- Disks that are checked one after the other.
use Rattle.std.specs.Prelude.{◌≡◌, ◌+◌, ⊤, ℕ, List, length, slice_get, Some, IsTrue}
use Rattle.base_types.specs.Crash.{IsQuiet}
use Rattle.base_types.specs.Faults.{RoseBy}
use Rattle.base_types.specs.View.{View}
use Rattle.disk_report.specs.declared.disks.Stopped.{Stopped}
use Rattle.disk_report.specs.declared.disks.Stopped.TheVariants.{Failed, Memory}

-- no byte of a disk changed
pub record AreQuiet {D : Type 0} (view : D → View) (old new : List D) : Type 0 where
  pub count : length new ≡ length old
  pub each : (k : ℕ) (before after : D)
      → slice_get old k ≡ Some before → slice_get new k ≡ Some after → IsQuiet (view before) (view after)

-- the disk of this number, from 1, failed twice, the second time at its last call
pub record IsFailing {D : Type 0} (view : D → View) (old new : List D) (number : ℕ) : Type 0 where
  pub k : ℕ
  pub numbered : number ≡ k + 1
  pub before : D
  pub after : D
  pub was : slice_get old k ≡ Some before
  pub is : slice_get new k ≡ Some after
  pub twice : RoseBy 2 (view before).faults (view after).faults
  pub last : IsTrue (view after).last_failed

abbrev pub IsStopped : {D : Type 0} → (D → View) → List D → List D → Stopped → Type 0
IsStopped view old new (Failed number) = IsFailing view old new number
IsStopped view old new Memory = ⊤
