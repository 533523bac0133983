-- What is seen of an aggregate.
use Rattle.std.specs.Prelude.{◌≡◌, ℕ, List, Option, if◌then◌else◌, unwrap_or}
use Rattle.base_types.specs.Image.{AreBytes}
use Rattle.base_types.specs.View.{View as DiskView}
use Rattle.store_memory.specs.Views.{View}
use Rattle.store_state.specs.declared.state.StoreState.{StoreState}
use Rattle.disk_records.specs.Record.{record_in}
use Rattle.disk_aggregate.specs.Opening.{HoldsStore}
use Rattle.disk_aggregate.specs.Stands.{Stands, state_in, disk_in}
use Rattle.disk_aggregate.specs.declared.aggregate.Aggregate.{Aggregate}

-- the record that the bytes of its disk have of its server's store; what it has in memory, where they have none
abbrev pub disk_record : {D : Type 0} → (D → DiskView) → Aggregate D → StoreState
disk_record view aggregate =
    let known = state_in aggregate in
    unwrap_or (record_in known.roster known.server (view (disk_in aggregate)).image) known

-- what it keeps: while it is open what it has in memory, and after a fault, until it is opened again, what its disk has
abbrev pub kept_state : {D : Type 0} → (D → DiskView) → Aggregate D → StoreState
kept_state view aggregate = if aggregate.is_open then state_in aggregate else disk_record view aggregate

-- what a crash at some moment from one on might have left of its disk, which are bytes, and the record that they have
-- of its server's store
abbrev pub left_of : {D : Type 0} → (D → DiskView) → Aggregate D → ℕ → List ℕ → Type 0
left_of view aggregate moment c = AreBytes c × (view (disk_in aggregate)).left_since moment c

abbrev pub found_of : {D : Type 0} → Aggregate D → List ℕ → Option StoreState
found_of aggregate c = record_in (state_in aggregate).roster (state_in aggregate).server c

-- It may be asked while it stands, and opened again where its disk holds what it keeps.
abbrev pub aggregate_view : {D : Type 0} → Type 0 → (D → DiskView) → Aggregate D → View
aggregate_view tells view aggregate = record {
  state = kept_state view aggregate;
  ready = Stands tells view aggregate;
  mendable = tells → HoldsStore view (kept_state view aggregate) aggregate;
  wear = aggregate.wear;
  faults = (view (disk_in aggregate)).faults;
  last_failed = (view (disk_in aggregate)).last_failed;
  moment = (view (disk_in aggregate)).moment;
  left_since = left_of view aggregate;
  found_on = found_of aggregate;
}

-- An aggregate as it was just formatted or mounted: what it keeps is what it has in memory, it may be asked and opened
-- again, and no number rose since.
pub record IsOpened {D : Type 0} (tells : Type 0) (view : D → DiskView) (aggregate : Aggregate D) : Type 0 where
  pub state : (aggregate_view tells view aggregate).state ≡ state_in aggregate
  pub ready : (aggregate_view tells view aggregate).ready
  pub mendable : (aggregate_view tells view aggregate).mendable
  pub wear : (aggregate_view tells view aggregate).wear ≡ 0
