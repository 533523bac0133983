-- What a disk in memory owes as a disk.
use Rattle.std.proofs.Common.{◌≤◌, ℕ, List, [], ◌∷◌, length, refl, sym, subst, arith}
use Rattle.std.proofs.lemmas.List.{take_all}
use Rattle.disk_device.specs.declared.act.Act.{Act}
use Rattle.disk_device.specs.declared.act.Act.TheVariants.{Wrote, Tore, Synced}
use Rattle.disk_device.specs.declared.memory.MemDisk.{MemDisk}
use Rattle.disk_device.specs.Replay.{State, at_first, after_act, state_after, IsOutcome}
use Rattle.disk_device.specs.Paste.{is_torn}
use Rattle.disk_device.specs.Memory.{disk_bytes, disk_acts, disk_calls, is_last_failed, MayLeave, LeftSince}
use Rattle.base_types.specs.Image.{AreBytes, Torn}
use Rattle.base_types.specs.View.{View}

-- a range that kept its bytes is one that may be torn
pub torn_none : (at len : ℕ) (image : List ℕ) → Torn at len image image
torn_none at len image =
    record { before = λ k lt. refl; after = λ k le. refl; no_shorter = omega arith; no_longer = omega arith }

-- what a read gives stays an outcome
reads_after : (state : State) (act : Act)
    → IsOutcome state state.reads → IsOutcome (after_act state act) (after_act state act).reads
reads_after state (Wrote at piece) reads = (state.reads, reads, is_torn at piece state.reads)
reads_after state (Tore at len) reads = (state.reads, reads, torn_none at len state.reads)
reads_after state Synced reads = refl

pub reads_outcome : (state : State) (acts : List Act)
    → IsOutcome state state.reads → IsOutcome (state_after state acts) (state_after state acts).reads
reads_outcome state [] reads = reads
reads_outcome state (act ∷ acts) reads = reads_outcome (after_act state act) acts (reads_after state act reads)

pub disk_reads_one : (disk : MemDisk) → MayLeave disk (disk_bytes disk)
disk_reads_one disk =
    subst (MayLeave disk) (sym disk.replayed) (reads_outcome (at_first disk.start) (disk_acts disk) refl)

pub disk_has_bytes : (disk : MemDisk) → AreBytes (disk_bytes disk)
disk_has_bytes disk = disk.bytes_are

pub disk_counts_now : (disk : MemDisk) (t : ℕ) (c : List ℕ)
    → t ≤ length (disk_acts disk) → MayLeave disk c → LeftSince disk t c
disk_counts_now disk t c le now = (
  length (disk_acts disk),
  le,
  omega arith,
  subst (λ (acts : List Act). IsOutcome (state_after (at_first disk.start) acts) c)
      (sym (take_all (length (disk_acts disk)) (disk_acts disk) (omega arith))) now,
)

pub disk_only_now : (disk : MemDisk) (c : List ℕ) → LeftSince disk (length (disk_acts disk)) c → MayLeave disk c
disk_only_now disk c left =
    subst (λ (acts : List Act). IsOutcome (state_after (at_first disk.start) acts) c)
    (take_all left.0 (disk_acts disk) left.1) left.3

-- a disk in memory as a disk
abbrev pub disk_view : MemDisk → View
disk_view disk = record {
  image = disk_bytes disk;
  may_leave = MayLeave disk;
  moment = length (disk_acts disk);
  left_since = LeftSince disk;
  faults = (disk_calls disk).faults;
  last_failed = is_last_failed disk;
  counts_now = disk_counts_now disk;
  only_now = disk_only_now disk;
}
