-- A batch of acts on a disk.
use Rattle.std.specs.Prelude.{◌≡◌, ◌<◌, ◌≤◌, ◌⊎◌, ℕ, ◌+◌, List, length, take, Some, Result, OnOk, IfOk, IfErr}
use Rattle.base_types.specs.Crash.{IsSettled}
use Rattle.base_types.specs.View.{View}
use Rattle.base_outside.specs.Runs.{LeavesOnly}
use Rattle.store_acts.specs.Acts.{state_after}
use Rattle.store_acts.specs.declared.act.Act.{Act}
use Rattle.store_state.specs.State.{held_at}
use Rattle.store_state.specs.declared.state.Holding.{Holding}
use Rattle.store_state.specs.declared.state.Stay.TheVariants.{Clone}
use Rattle.store_state.specs.declared.state.StoreState.{StoreState}
use Rattle.disk_layout.specs.Places.{SameBlocks}
use Rattle.disk_layout.specs.declared.superblock.Superblock.{Superblock}
use Rattle.disk_log.specs.Contents.{contents_of, last_stage, stage_in, IsLeft, KeepsLast}
use Rattle.disk_log.specs.Log.{disk_of, state_of, IsIdle}
use Rattle.disk_log.specs.State.{State, free_in}
use Rattle.disk_log.specs.declared.log.Log.{Log}
use Rattle.disk_anode.specs.Faults.{IsNodeFault}
use Rattle.disk_anode.specs.Room.{free_blocks}
use Rattle.disk_anode.specs.declared.fault.NodeFault.{NodeFault}
use Rattle.disk_objects.specs.Objects.{AreTrimmed}
use Rattle.disk_acts.specs.Records.{HasRecord, HasStage}
use Rattle.disk_acts.specs.Stored.{IsOwn, HoldsStore}

-- what the first k acts of a batch make
abbrev pub first_of : StoreState → List Act → ℕ → StoreState
first_of start acts k = state_after start (take k acts)

-- the bytes of a disk hold what the first acts of a batch make, for one number of them
abbrev pub HoldsFirst : ℕ → StoreState → List Act → List ℕ → Type 0
HoldsFirst most start acts c = (k : ℕ) × (k ≤ length acts) × HoldsStore most (first_of start acts k) c

-- A log rests: no transaction is open, and all that ended is durable. It has the record of a store, and a crash leaves
-- what a read gives.
pub record Rests {D : Type 0}
    (tells : Type 0) (view : D → View) (state : StoreState) (log : Log D) : Type 0 where
  pub idle : IsIdle tells view log
  pub last : last_stage (contents_of view log) ≡ 0
  pub settled : IsSettled (view (disk_of log))
  pub own : tells → IsOwn state (state_of log).superblock
  pub held : tells → HasStage state 0 (contents_of view log)

-- no anode of a clone has pointers past its length
abbrev pub AreClonesTrimmed : StoreState → State → List ℕ → Type 0
AreClonesTrimmed state log image = (slot : ℕ) (holding : Holding) → slot < 16
    → held_at state.slots slot ≡ Some holding → holding.stay ≡ Clone → AreTrimmed slot log image

-- Some pages, over the blocks of an image, hold what the first k acts of a batch make, for a k up to n.
pub record HasSome (start : StoreState) (acts : List Act) (n : ℕ) (superblock : Superblock) (pages : ℕ → List ℕ)
    (image : List ℕ) : Type 0 where
  pub count : ℕ
  pub few : count ≤ n
  pub own : IsOwn (first_of start acts count) superblock
  pub held : HasRecord (first_of start acts count) superblock.blocks pages image

-- A log between two acts of a batch, n of which were done: each of its stages has what some of them made, and so has
-- what a crash now leaves, and what one since the first moment left; the last stage has what all n made.
pub record Goes {D : Type 0} (tells : Type 0) (view : D → View) (most : ℕ) (start : StoreState) (acts : List Act)
    (n : ℕ) (first : View) (log : Log D) : Type 0 where
  pub idle : IsIdle tells view log
  pub stages : tells → (s : ℕ) → s ≤ last_stage (contents_of view log)
      → HasSome start acts n (state_of log).superblock (stage_in (contents_of view log) s) (view (disk_of log)).image
  pub left : tells → (c : List ℕ) → (view (disk_of log)).may_leave c
      → HasSome start acts n (state_of log).superblock (stage_in (contents_of view log) 0) c
  pub last : tells → HasStage (first_of start acts n) (last_stage (contents_of view log)) (contents_of view log)
  pub own : tells → IsOwn (first_of start acts n) (state_of log).superblock
  pub crash : tells → LeavesOnly (HoldsFirst most start acts) first (view (disk_of log))
  pub counted : first.faults ≤ (view (disk_of log)).faults

-- All that ended was made durable, and stands in the last stage alone; the generation rose by one at most.
pub record IsDurable {D : Type 0} (tells : Type 0) (view : D → View) (old new : Log D) : Type 0 where
  pub idle : IsIdle tells view new
  pub superblock : (state_of new).superblock ≡ (state_of old).superblock
  pub generation : (state_of new).half.generation ≤ (state_of old).half.generation + 1
  pub stages : tells → KeepsLast (contents_of view old) (contents_of view new)
  pub blocks : tells
      → SameBlocks (state_of old).half.pages (view (disk_of old)).image (view (disk_of new)).image
  pub settled : IsSettled (view (disk_of new))
  pub none : last_stage (contents_of view new) ≡ 0

-- What a force or a checkpoint does.
pub record Settles {D T : Type 0} (tells : Type 0) (view : D → View) (result : Result T NodeFault) (old new : Log D)
    : Type 0 where
  pub durable : OnOk result (IsDurable tells view old new)
  pub crash : tells → LeavesOnly (IsLeft (contents_of view old) (view (disk_of old))) (view (disk_of old))
      (view (disk_of new))
  pub counted : (view (disk_of old)).faults ≤ (view (disk_of new)).faults
  pub only : IfErr result (λ fault. IsNodeFault fault (view (disk_of old)) (view (disk_of new)))

-- Room for an act that needs so many blocks: the log is as before, or was forced or emptied, and what the act needs is
-- free, beside so many blocks.
pub record MakesRoom {D : Type 0} (tells : Type 0) (view : D → View) (blocks : ℕ) (result : Result ℕ NodeFault)
    (old new : Log D) : Type 0 where
  pub made : (new ≡ old) ⊎ Settles tells view result old new
  pub entries : OnOk result (717 ≤ free_in (state_of new))
  pub free : tells → IfOk result (λ left. left + blocks ≤ free_blocks (state_of new) (view (disk_of new)).image)
  pub only : IfErr result (λ fault. IsNodeFault fault (view (disk_of old)) (view (disk_of new)))

-- The counts that only rise are at most so many more.
pub record Counts {D : Type 0} (n : ℕ) (old new : StoreState) (before after : Log D) : Type 0 where
  pub generation : (state_of after).half.generation ≤ (state_of before).half.generation + n
  pub epoch : new.epoch ≤ old.epoch + n
  pub ship : new.ship ≤ old.ship + n
