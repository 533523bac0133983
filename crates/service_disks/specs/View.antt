-- What is seen of a server's store.
use Rattle.std.specs.Prelude.{Option, Some, None}
use Rattle.base_types.specs.View.{View as DiskView}
use Rattle.store_memory.specs.MapStores.{map_view}
use Rattle.store_memory.specs.Views.{View}
use Rattle.disk_aggregate.specs.Stands.{disk_in}
use Rattle.disk_aggregate.specs.StoreView.{aggregate_view}
use Rattle.service_disks.specs.declared.stores.ServerStore.{ServerStore}
use Rattle.service_disks.specs.declared.stores.ServerStore.TheVariants.{Disk, Memory}

abbrev pub store_view : {D : Type 0} → Type 0 → (D → DiskView) → ServerStore D → View
store_view tells view (Disk store) = aggregate_view tells view store
store_view tells view (Memory store) = map_view store

-- the disk of its server, where it has one
abbrev pub disk_under : {D : Type 0} → ServerStore D → Option D
disk_under (Disk store) = Some (disk_in store)
disk_under (Memory store) = None
