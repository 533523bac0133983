-- The stores of a service, and its disks.
use Rattle.std.specs.Prelude.{◌≡◌, ◌≤◌, ◌+◌, ◌++◌, ⊤, ℕ, false, List, [], ◌∷◌, length, Some}
use Rattle.base_types.specs.View.{View as DiskView}
use Rattle.base_types.specs.declared.ids.ServerId.{ServerId}
use Rattle.tree_calls.specs.declared.roster.Roster.{Roster}
use Rattle.store_memory.specs.MapStores.{kept_in}
use Rattle.disk_image.specs.Aggregate.{is_blank}
use Rattle.disk_aggregate.specs.Records.{HasRecord, HasSameRecord}
use Rattle.disk_aggregate.specs.Stands.{disk_in, state_in}
use Rattle.disk_aggregate.specs.StoreView.{IsOpened}
use Rattle.disk_aggregate.specs.declared.aggregate.Aggregate.{Aggregate}
use Rattle.disk_aggregate.specs.declared.refused.MountRefused.{MountRefused}
use Rattle.service_disks.specs.Opening.{new_store, store_on, IsNotOpened, LeavesOpened}
use Rattle.service_disks.specs.declared.disks.StoresRefused.{StoresRefused}
use Rattle.service_disks.specs.declared.disks.StoresRefused.TheVariants as stops
use Rattle.service_disks.specs.declared.stores.ServerStore.{ServerStore}
use Rattle.service_disks.specs.declared.stores.ServerStore.TheVariants.{Disk, Memory}

-- the server of a number, from 1
abbrev pub server_of : ℕ → ServerId
server_of number = record { 0 = number }

-- The store on a server's disk may be asked, and opened again. It is the one that was on the disk as that was handed
-- in, a new one where it was blank, and the disk has its record.
pub record IsOpenOn {D : Type 0} (tells : Type 0) (view : D → DiskView) (roster : Roster) (server : ServerId)
    (disk : D) (store : Aggregate D) : Type 0 where
  pub server_is : (state_in store).server ≡ server
  pub roster_is : (state_in store).roster ≡ roster
  pub opened : IsOpened tells view store
  pub kept : tells → store_on roster server (view disk).image ≡ Some (state_in store)
  pub has_record : tells → HasRecord (state_in store) (view (disk_in store)).image
  pub crash : tells → LeavesOpened roster server (view disk) (view (disk_in store))
  pub counted : (view disk).faults ≤ (view (disk_in store)).faults

-- These are the stores of servers, from this number on: those on these disks, in their order, and behind them new ones
-- in memory.
abbrev pub AreOpen : {D : Type 0} → Type 0 → (D → DiskView) → Roster → ℕ → List D → List (ServerStore D) → Type 0
AreOpen tells view roster number (disk ∷ disks) (Disk store ∷ stores) =
    IsOpenOn tells view roster (server_of number) disk store × AreOpen tells view roster (number + 1) disks stores
AreOpen tells view roster number [] (Memory store ∷ stores) =
    (kept_in store ≡ new_store roster (server_of number)) × AreOpen tells view roster (number + 1) [] stores
AreOpen tells view roster number [] [] = ⊤
AreOpen tells view roster number _ _ = ⊥

-- the disks of stores, in their order
abbrev pub disks_of : {D : Type 0} → List (ServerStore D) → List D
disks_of [] = []
disks_of (Disk store ∷ stores) = disk_in store ∷ disks_of stores
disks_of (Memory store ∷ stores) = disks_of stores

-- A server's disk was handed back: its count of faults didn't fall, and where it wasn't blank it has the same record.
pub record IsBack {D : Type 0} (tells : Type 0) (view : D → DiskView) (roster : Roster) (server : ServerId)
    (old new : D) : Type 0 where
  pub counted : (view old).faults ≤ (view new).faults
  pub same_record : tells → is_blank (view old).image ≡ false
      → HasSameRecord roster server (view old).image (view new).image
  pub crash : tells → LeavesOpened roster server (view old) (view new)

-- all disks were, in their order; the first is that of the server of this number
abbrev pub AreBack : {D : Type 0} → Type 0 → (D → DiskView) → Roster → ℕ → List D → List D → Type 0
AreBack tells view roster number (old ∷ olds) (new ∷ news) =
    IsBack tells view roster (server_of number) old new × AreBack tells view roster (number + 1) olds news
AreBack tells view roster number [] [] = ⊤
AreBack tells view roster number _ _ = ⊥

-- A disk was not opened, and why.
pub record IsRefusedDisk {D : Type 0} (tells : Type 0) (view : D → DiskView) (roster : Roster) (server : ServerId)
    (why : MountRefused) (old new : D) : Type 0 where
  pub back : IsBack tells view roster server old new
  pub cause : IsNotOpened tells roster server why (view old) (view new)

-- The disk of this number, from 1, is the first that was not opened: there was a store on each in front of it. Those
-- behind it are as they were.
pub record IsFirstRefused {D : Type 0} (tells : Type 0) (view : D → DiskView) (roster : Roster) (number : ℕ)
    (why : MountRefused) (old new : List D) : Type 0 where
  pub before : D
  pub after : D
  pub front : List D
  pub stores : List (ServerStore D)
  pub behind : List D
  pub was : old ≡ front ++ before ∷ behind
  pub is : new ≡ disks_of stores ++ after ∷ behind
  pub numbered : number ≡ length front + 1
  pub opened : AreOpen tells view roster 1 front stores
  pub refused : IsRefusedDisk tells view roster (server_of number) why before after

-- why there are no stores
abbrev pub IsStopped : {D : Type 0} → Type 0 → (D → DiskView) → Roster → StoresRefused → List D → List D → Type 0
IsStopped tells view roster (stops.Refused number why) old new =
    IsFirstRefused tells view roster number why old new
IsStopped tells view roster stops.Memory old new = ⊤
