-- What a batch of acts leaves.
use Rattle.std.specs.Prelude.{◌≤◌, ℕ, List, length}
use Rattle.base_types.specs.Image.{AreBytes}
use Rattle.base_types.specs.View.{View}
use Rattle.store_acts.specs.declared.act.Act.{Act}
use Rattle.store_state.specs.declared.state.StoreState.{StoreState}
use Rattle.disk_acts.specs.Batch.{first_of}
use Rattle.disk_aggregate.specs.Opening.{HasStore}
use Rattle.disk_aggregate.specs.Records.{HasRecord}

-- the bytes of a disk hold what the first acts of a batch made, for one number of them
abbrev pub HasFirst : ℕ → StoreState → List Act → List ℕ → Type 0
HasFirst wear start acts bytes = (k : ℕ) × (k ≤ length acts) × HasStore wear (first_of start acts k) bytes

-- what a crash in a batch leaves, which are bytes, holds that
abbrev pub IsLeftOfBatch : ℕ → StoreState → List Act → List ℕ → Type 0
IsLeftOfBatch wear start acts c = AreBytes c → HasFirst wear start acts c

-- each disk that a crash now leaves has the record
abbrev pub IsDurable : StoreState → View → Type 0
IsDurable state disk = (c : List ℕ) → disk.may_leave c → HasRecord state c
