-- What contracts see of a disk in memory.
use Rattle.std.specs.Prelude.{◌≤◌, ℕ, List, Bool, length, take}
use Rattle.base_outside.specs.declared.calls.Calls.{Calls}
use Rattle.disk_device.specs.declared.act.Act.{Act}
use Rattle.disk_device.specs.declared.memory.MemDisk.{MemDisk}
use Rattle.disk_device.specs.Replay.{State, at_first, state_after, IsOutcome}

-- the bytes as a read gives them
abbrev pub disk_bytes : MemDisk → List ℕ
disk_bytes disk = disk.bytes.items

-- its calls so far
abbrev pub disk_calls : MemDisk → Calls
disk_calls disk = disk.calls

-- what was done to it
abbrev pub disk_acts : MemDisk → List Act
disk_acts disk = disk.acts.items

-- whether its last call failed
abbrev pub is_last_failed : MemDisk → Bool
is_last_failed disk = disk.failed

-- the disk as it was after its first k changes
abbrev pub state_at : MemDisk → ℕ → State
state_at disk k = state_after (at_first disk.start) (take k (disk_acts disk))

-- a crash now may leave this
abbrev pub MayLeave : MemDisk → List ℕ → Type 0
MayLeave disk c = IsOutcome (state_after (at_first disk.start) (disk_acts disk)) c

-- a crash after t or more of its changes might have left this
abbrev pub LeftSince : MemDisk → ℕ → List ℕ → Type 0
LeftSince disk t c = (k : ℕ) × (t ≤ k) × (k ≤ length (disk_acts disk)) × IsOutcome (state_at disk k) c
