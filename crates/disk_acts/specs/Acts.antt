-- What an act asks of a log, and what it leaves.
use Rattle.std.specs.Prelude.{◌≡◌, ◌≤◌, ℕ, ◌+◌, ◌||◌, not, Bool, Result, OnOk, OnErr, IfErr}
use Rattle.base_types.specs.View.{View}
use Rattle.store_acts.specs.declared.act.Act.{Act}
use Rattle.store_acts.specs.declared.act.Act.TheVariants.{Give}
use Rattle.store_state.specs.declared.state.StoreState.{StoreState}
use Rattle.disk_log.specs.Contents.{contents_of, last_stage}
use Rattle.disk_log.specs.Log.{disk_of, state_of, IsIdle}
use Rattle.disk_log.specs.State.{free_in}
use Rattle.disk_log.specs.declared.log.Log.{Log}
use Rattle.disk_anode.specs.Faults.{IsNodeFault}
use Rattle.disk_anode.specs.Room.{free_blocks}
use Rattle.disk_anode.specs.declared.fault.NodeFault.{NodeFault}
use Rattle.disk_objects.specs.Holds.{is_anode}
use Rattle.disk_fileset.specs.Slots.{slot_pages, WroteUnused}
use Rattle.disk_acts.specs.Records.{HasStage}

-- the pages that an act may put: those of the server, of headers and of numbers, those of one slot's anodes, and those
-- of counts
abbrev pub act_pages : ℕ → ℕ → Bool
act_pages slot p = not (is_anode p) || slot_pages slot p

-- how many blocks an act may take
abbrev pub act_blocks : Act → ℕ
act_blocks (Give host number fid pieces given) = 68
act_blocks _ = 144

-- An act may be done: no transaction is open, 717 entries of the log are free, and so many blocks. The log's last stage
-- has the record of the store.
pub record MayAct {D : Type 0} (tells : Type 0) (view : D → View) (blocks : ℕ) (state : StoreState) (log : Log D)
    : Type 0 where
  pub idle : IsIdle tells view log
  pub entries : 717 ≤ free_in (state_of log)
  pub held : tells → HasStage state (last_stage (contents_of view log)) (contents_of view log)
  pub room : tells → blocks ≤ free_blocks (state_of log) (view (disk_of log)).image

-- What an act leaves: the log's stages so far have the records that they had. If it answers Ok the last stage has the
-- next record, in one transaction more at most, and at most so many fewer blocks are free. If not, no transaction
-- ended. The disk was written in blocks alone that no stage names.
pub record DoesAct {D T : Type 0} (tells : Type 0) (view : D → View) (blocks : ℕ) (next : StoreState)
    (result : Result T NodeFault) (old new : Log D) : Type 0 where
  pub idle : IsIdle tells view new
  pub superblock : (state_of new).superblock ≡ (state_of old).superblock
  pub half : (state_of new).half ≡ (state_of old).half
  pub least : last_stage (contents_of view old) ≤ last_stage (contents_of view new)
  pub most : last_stage (contents_of view new) ≤ last_stage (contents_of view old) + 1
  pub none : OnErr result (last_stage (contents_of view new) ≡ last_stage (contents_of view old))
  pub stages : tells → (k : ℕ) (state : StoreState) → k ≤ last_stage (contents_of view old)
      → HasStage state k (contents_of view old) → HasStage state k (contents_of view new)
  pub does : tells → OnOk result (HasStage next (last_stage (contents_of view new)) (contents_of view new))
  pub room : tells → OnOk result (free_blocks (state_of old) (view (disk_of old)).image
      ≤ free_blocks (state_of new) (view (disk_of new)).image + blocks)
  pub wrote : tells → WroteUnused (state_of old) (view (disk_of old)) (view (disk_of new))
  pub counted : (view (disk_of old)).faults ≤ (view (disk_of new)).faults
  pub only : IfErr result (λ fault. IsNodeFault fault (view (disk_of old)) (view (disk_of new)))
