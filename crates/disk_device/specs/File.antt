-- A disk over a file, which tells nothing of its bytes.
use Rattle.std.specs.Prelude.{◌≡◌, [], Option, None, is_some, IsTrue, Result, IsErr}
use Rattle.base_types.specs.View.{View}
use Rattle.disk_device.specs.declared.fault.FileFault.{FileFault}
use Rattle.disk_device.specs.declared.file.FileDisk.{FileDisk}

-- why its last call failed
abbrev pub last_fault : FileDisk → Option FileFault
last_fault disk = disk.failed

-- a crash has no outcome that is told
abbrev pub untold_view : FileDisk → View
untold_view disk = record {
  image = [];
  may_leave = λ c. ⊥;
  moment = 0;
  left_since = λ t c. ⊥;
  faults = disk.faults;
  last_failed = is_some (last_fault disk);
  counts_now = λ t c le now. now;
  only_now = λ c left. left;
}

-- a sync failed: what was written since the one before may be lost
abbrev pub IsLost : FileDisk → Type 0
IsLost disk = IsTrue (is_some disk.lost)

-- a disk that has counted no fault, and isn't lost
pub record IsWhole (disk : FileDisk) : Type 0 where
  pub faults : disk.faults ≡ 0
  pub passes : last_fault disk ≡ None
  pub kept : disk.lost ≡ None

-- once lost, every call fails
pub record FailsForGood {T E : Type 0} (result : Result T E) (old new : FileDisk) : Type 0 where
  pub fails : IsLost old → IsErr result
  pub stays : IsLost old → IsLost new
