-- The stores of a run in their seats.
use Rattle.std.specs.Prelude.{◌≤◌, ◌<◌, ⊤, ℕ, List, [], ◌∷◌, map}
use Rattle.base_types.specs.View.{View as DiskView}
use Rattle.store_memory.specs.MapStores.{kept_in}
use Rattle.store_memory.specs.Views.{View}
use Rattle.disk_aggregate.specs.StoreView.{aggregate_view}
use Rattle.service_disks.specs.View.{store_view}
use Rattle.service_disks.specs.declared.seats.Seat.{Seat}
use Rattle.service_disks.specs.declared.seats.Seat.TheVariants as seats
use Rattle.service_disks.specs.declared.stores.ServerStore.{ServerStore}
use Rattle.service_disks.specs.declared.stores.ServerStore.TheVariants.{Disk, Memory}

-- the store in a seat
abbrev pub store_in : {D C : Type 0} {g : _} {h : _} → Seat D C g h → ServerStore D
store_in (seats.Disk seat) = Disk seat.store
store_in (seats.Memory seat) = Memory seat.store

abbrev pub stores_in : {D C : Type 0} {g : _} {h : _} → List (Seat D C g h) → List (ServerStore D)
stores_in all = map store_in all

-- what is seen of it
abbrev pub seat_view : {D C : Type 0} {g : _} {h : _} → Type 0 → (D → DiskView) → Seat D C g h → View
seat_view tells view seat = store_view tells view (store_in seat)

-- where so many servers have a disk, stores in seats tell what they keep if disks, where there are any, tell their bytes
abbrev pub seat_tells : Type 0 → ℕ → Type 0
seat_tells tells count = 0 < count → tells

-- where so many servers have a disk, those in front, the store of a server is on one exactly where its server has one
abbrev pub IsSeated : {D : Type 0} → Type 0 → (D → DiskView) → ℕ → ServerStore D → Type 0
IsSeated tells view count (Disk store) =
    (0 < count) × ((aggregate_view tells view store).state.server.0 ≤ count)
IsSeated tells view count (Memory store) = count < (kept_in store).server.0

abbrev pub AreSeated : {D : Type 0} → Type 0 → (D → DiskView) → ℕ → List (ServerStore D) → Type 0
AreSeated tells view count [] = ⊤
AreSeated tells view count (store ∷ stores) = IsSeated tells view count store × AreSeated tells view count stores
