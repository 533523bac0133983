-- The steps in which the disks of a service are opened.
use Rattle.std.specs.Prelude.{◌≡◌, ◌+◌, ◌++◌, List, ◌∷◌, length}
use Rattle.base_types.specs.View.{View as DiskView}
use Rattle.base_types.specs.declared.ids.ServerId.{ServerId}
use Rattle.tree_calls.specs.declared.roster.Roster.{Roster}
use Rattle.disk_aggregate.specs.declared.aggregate.Aggregate.{Aggregate}
use Rattle.disk_aggregate.specs.declared.refused.MountRefused.{MountRefused}
use Rattle.service_disks.specs.Stores.{server_of, AreOpen, IsOpenOn, IsRefusedDisk}
use Rattle.service_disks.specs.declared.disks.StoresRefused.{StoresRefused}
use Rattle.service_disks.specs.declared.disks.StoresRefused.TheVariants.{Refused}
use Rattle.service_disks.specs.declared.stores.ServerStore.{ServerStore}

-- the first of the disks was taken out, and there is a store on it
pub record TakesFirst {D : Type 0} (tells : Type 0) (view : D → DiskView) (roster : Roster) (server : ServerId)
    (store : Aggregate D) (old new : List D) : Type 0 where
  pub disk : D
  pub was : old ≡ disk ∷ new
  pub opened : IsOpenOn tells view roster server disk store

-- the first of the disks was refused, and is the first again
pub record RefusesFirst {D : Type 0} (tells : Type 0) (view : D → DiskView) (roster : Roster) (server : ServerId)
    (why : MountRefused) (old new : List D) : Type 0 where
  pub before : D
  pub after : D
  pub behind : List D
  pub was : old ≡ before ∷ behind
  pub is : new ≡ after ∷ behind
  pub refused : IsRefusedDisk tells view roster server why before after

-- of the disks of servers, from server 1 on, those in front are open, and these are left
pub record AreOpened {D : Type 0} (tells : Type 0) (view : D → DiskView) (roster : Roster)
    (stores : List (ServerStore D)) (old left : List D) : Type 0 where
  pub front : List D
  pub was : old ≡ front ++ left
  pub count : length stores ≡ length front
  pub opened : AreOpen tells view roster 1 front stores

-- and the first of those that were left was refused
pub record StopsAt {D : Type 0} (tells : Type 0) (view : D → DiskView) (roster : Roster) (refused : StoresRefused)
    (stores : List (ServerStore D)) (old new : List D) : Type 0 where
  pub left : List D
  pub why : MountRefused
  pub reached : AreOpened tells view roster stores old left
  pub stop : RefusesFirst tells view roster (server_of (length stores + 1)) why left new
  pub number : refused ≡ Refused (length stores + 1) why
