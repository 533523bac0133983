-- An aggregate that stands.
use Rattle.std.specs.Prelude.{◌≡◌, ◌≤◌, ℕ, ◌+◌, true}
use Rattle.base_types.specs.Crash.{IsSettled}
use Rattle.base_types.specs.View.{View}
use Rattle.store_memory.specs.MapStores.{kept_in}
use Rattle.store_state.specs.declared.state.StoreState.{StoreState}
use Rattle.disk_log.specs.Contents.{contents_of, last_stage}
use Rattle.disk_log.specs.Log.{disk_of, state_of, IsIdle}
use Rattle.disk_log.specs.declared.log.Log.{Log}
use Rattle.disk_records.specs.Loading.{KeepsRecord}
use Rattle.disk_aggregate.specs.declared.aggregate.Aggregate.{Aggregate}

-- what it keeps in memory, and its disk
abbrev pub state_in : {D : Type 0} → Aggregate D → StoreState
state_in aggregate = kept_in aggregate.store

abbrev pub disk_in : {D : Type 0} → Aggregate D → D
disk_in aggregate = disk_of aggregate.log

-- A number that rose by so many since the mount, at most.
abbrev pub IsUnworn : ℕ → ℕ → Type 0
IsUnworn wear number = number ≤ 9223372036854775808 + wear

-- The log of a store's aggregate has no open transaction, and all that ended is durable. Where the disk is told, it
-- holds the record of the store, and a crash leaves what a read gives.
pub record StandsOn {D : Type 0}
    (tells : Type 0) (view : D → View) (state : StoreState) (wear : ℕ) (log : Log D) : Type 0 where
  pub idle : IsIdle tells view log
  pub last : last_stage (contents_of view log) ≡ 0
  pub settled : IsSettled (view (disk_of log))
  pub generation : IsUnworn wear (state_of log).half.generation
  pub epoch : IsUnworn wear state.epoch
  pub ship : IsUnworn wear state.ship
  pub record_held : tells → KeepsRecord view state log
  pub server_is : tells → (state_of log).superblock.server ≡ state.server.0
  pub blocks_are : tells → (state_of log).superblock.blocks ≡ state.capacity + 1024
  pub least : tells → 68 ≤ state.capacity

-- An aggregate may be asked: it is open, and its log holds what it keeps in memory.
abbrev pub Stands : {D : Type 0} → Type 0 → (D → View) → Aggregate D → Type 0
Stands tells view aggregate =
    (aggregate.is_open ≡ true) × StandsOn tells view (state_in aggregate) aggregate.wear aggregate.log
