-- What the rows know of a log that they act on.
use Rattle.std.specs.Prelude.{◌≡◌, ℕ}
use Rattle.base_types.specs.View.{View}
use Rattle.disk_log.specs.Log.{state_of, slot_of, IsSoundLog, IsIdle}
use Rattle.disk_log.specs.State.{IsOnly}
use Rattle.disk_log.specs.declared.kept.Tx.{Tx}
use Rattle.disk_log.specs.declared.log.Log.{Log}
use Rattle.disk_anode.specs.Room.{MayPutAll, with_counts}

-- a log without an open transaction, of a disk that tells nothing
pub record IsReady {D : Type 0} (tells : Type 0) (view : D → View) (log : Log D) : Type 0 where
  pub untold : tells → ⊥
  pub idle : IsIdle tells view log

-- one whose only open transaction reserves entries for three pages
pub record IsAlone {D : Type 0} (tells : Type 0) (view : D → View) (log : Log D) (tx : Tx) : Type 0 where
  pub sound : IsSoundLog tells view log
  pub only : IsOnly (state_of log) (slot_of tx) 7

-- and may put an anode's page and those of counts
pub record MayAct {D : Type 0} (tells : Type 0) (view : D → View) (log : Log D) (tx : Tx) (page : ℕ) : Type 0 where
  pub untold : tells → ⊥
  pub sound : IsSoundLog tells view log
  pub only : IsOnly (state_of log) (slot_of tx) 7
  pub may : MayPutAll (with_counts page) (state_of log) (slot_of tx)

-- a log that was read
pub record IsRead {D : Type 0} (tells : Type 0) (view : D → View) (old new : Log D) : Type 0 where
  pub sound : IsSoundLog tells view new
  pub state : state_of new ≡ state_of old
