-- What a log stands for, and what its calls keep of it.
use Rattle.std.specs.Prelude.{◌≡◌, ◌≤◌, ◌<◌, ℕ, ◌+◌, List, take, drop, Result, if◌then◌else◌}
use Rattle.base_types.specs.Image.{bytes_from}
use Rattle.base_types.specs.View.{View}
use Rattle.base_types.specs.Crash.{IsQuiet}
use Rattle.disk_layout.specs.Places.{block_start}
use Rattle.disk_layout.specs.Pages.{ends_in, stage, HasPages, HasFirst}
use Rattle.disk_log.specs.Blame.{IsBlamed}
use Rattle.disk_log.specs.Log.{disk_of, state_of, IsSoundLog}
use Rattle.disk_log.specs.Puts.{page_of, settled_byte, is_put}
use Rattle.disk_log.specs.State.{State}
use Rattle.disk_log.specs.declared.log.Log.{Log}

-- What a log stands for where its disk is told: what it keeps in memory, over the bytes of the disk.
pub record Contents : Type 0 where
  pub state : State
  pub image : List ℕ

abbrev pub contents_of : {D : Type 0} → (D → View) → Log D → Contents
contents_of view log = record { state = state_of log; image = (view (disk_of log)).image }

-- the same over any bytes
abbrev pub over : {D : Type 0} → List ℕ → Log D → Contents
over image log = record { state = state_of log; image = image }

-- a metadata page with all puts
abbrev pub page_in : Contents → ℕ → List ℕ
page_in told p = page_of told.state.entries told.state.puts told.image p

-- stage k of a page: after the first k of the transactions that ended since the last force
abbrev pub stage_in : Contents → ℕ → ℕ → List ℕ
stage_in told k p =
    stage (take told.state.forced told.state.entries) (drop told.state.forced told.state.entries) told.image k p

-- how many transactions ended since the last force
abbrev pub last_stage : Contents → ℕ
last_stage told = ends_in (drop told.state.forced told.state.entries)

-- byte k of the bitwise or of all stages of a page
abbrev pub settled_in : Contents → ℕ → ℕ → ℕ
settled_in told p k = settled_byte told.state.entries told.state.forced told.image p k

-- the bytes of a block
abbrev pub block_in : Contents → ℕ → List ℕ
block_in told block = bytes_from told.image (block_start told.state.half.pages block) 1024

-- The bytes of a disk are the log in a stage: its pages after redo and undo are those of the stage, and its used half
-- is of the same generation or the next.
abbrev pub IsStage : Contents → ℕ → List ℕ → Type 0
IsStage told k c = HasPages told.state.superblock told.state.half.generation (stage_in told k) c c

-- What a crash in a force leaves, whichever half is used: the log in a stage, and the blocks of an image that a crash
-- could leave before or, from stage 1 on, those that are read.
abbrev pub IsLeft : Contents → View → List ℕ → Type 0
IsLeft told view c =
    let state = told.state in
    HasFirst state.superblock state.half.generation (take state.forced state.entries) (drop state.forced state.entries)
    told.image view.may_leave c

-- What a call that reads keeps: all, and no byte of the disk changed.
pub record Reads {D T E : Type 0}
    (tells : Type 0) (view : D → View) (result : Result T E) (old new : Log D) : Type 0 where
  pub sound : IsSoundLog tells view new
  pub state : state_of new ≡ state_of old
  pub quiet : IsQuiet (view (disk_of old)) (view (disk_of new))
  pub blamed : IsBlamed result (view (disk_of old)) (view (disk_of new))

-- What each call keeps but a force and a checkpoint, in which so many transactions ended: the log is sound, and its
-- stages so far are the same; a crash now leaves stage 0, and nothing of what hasn't been forced.
pub record Keeps {D : Type 0} (tells : Type 0) (view : D → View) (ended : ℕ) (old new : Log D) : Type 0 where
  pub sound : IsSoundLog tells view new
  pub superblock : (state_of new).superblock ≡ (state_of old).superblock
  pub half : (state_of new).half ≡ (state_of old).half
  pub counted : (view (disk_of old)).faults ≤ (view (disk_of new)).faults
  pub last : last_stage (contents_of view new) ≡ last_stage (contents_of view old) + ended
  pub stages : tells → (k p : ℕ) → k ≤ last_stage (contents_of view old) → p < (state_of old).half.pages
      → stage_in (contents_of view new) k p ≡ stage_in (contents_of view old) k p
  pub crash : tells → (c : List ℕ) → (view (disk_of new)).may_leave c → IsStage (contents_of view old) 0 c

-- a transaction ended: in the last stage its pages are as it put them, and the others as before
abbrev pub AppendsStage : ℕ → Contents → Contents → Type 0
AppendsStage slot old new =
    (p : ℕ) → stage_in new (last_stage new) p
    ≡ (if is_put slot p old.state.puts then page_in old p else stage_in old (last_stage old) p)

-- all that ended is durable: the last stage is stage 0, and there is no other
pub record KeepsLast (old new : Contents) : Type 0 where
  pub none : last_stage new ≡ 0
  pub last : (p : ℕ) → p < old.state.half.pages → stage_in new 0 p ≡ stage_in old (last_stage old) p
