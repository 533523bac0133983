-- The steps in which an aggregate is opened.
use Rattle.std.specs.Prelude.{◌≡◌, ◌≤◌, ℕ, List}
use Rattle.base_types.specs.View.{View}
use Rattle.base_types.specs.declared.ids.ServerId.{ServerId}
use Rattle.tree_calls.specs.declared.roster.Roster.{Roster}
use Rattle.store_state.specs.declared.state.StoreState.{StoreState}
use Rattle.store_records.specs.Stored.{IsStorable}
use Rattle.disk_layout.specs.Half.{HasLog}
use Rattle.disk_layout.specs.Pages.{HasPages}
use Rattle.disk_layout.specs.declared.half.Half.{Half}
use Rattle.disk_layout.specs.declared.superblock.Superblock.{Superblock}
use Rattle.disk_log.specs.Contents.{contents_of, stage_in}
use Rattle.disk_log.specs.Log.{disk_of, state_of}
use Rattle.disk_log.specs.declared.log.Log.{Log}
use Rattle.disk_records.specs.Loading.{KeepsRecord, IsOf}
use Rattle.disk_records.specs.Reforming.{IsReformedOr, Reforms}
use Rattle.disk_aggregate.specs.Records.{HasRecord}
use Rattle.disk_aggregate.specs.Stands.{IsUnworn, state_in, disk_in}
use Rattle.disk_aggregate.specs.declared.aggregate.Aggregate.{Aggregate}

-- A log that was mounted is in format 2, and a record was read back from it: the one that it keeps for the server of a
-- roster. No number is beyond this one.
pub record Opens {D : Type 0} (tells : Type 0) (view : D → View) (server : ServerId) (roster : Roster) (most : ℕ)
    (state : StoreState) (old new : Log D) : Type 0 where
  pub reforms : Reforms tells view old new
  pub state_is : tells → (kept : StoreState) → KeepsRecord view kept new → IsOf server roster kept new → state ≡ kept
  pub server_is : state.server ≡ server
  pub roster_is : state.roster ≡ roster
  pub generation : (state_of new).half.generation ≤ most
  pub epoch : state.epoch ≤ most
  pub ship : state.ship ≤ most

-- what a crash meanwhile leaves: the log with the pages as they were, or with those of format 2
abbrev pub IsLeftReformed : {D : Type 0} → (D → View) → Log D → List ℕ → Type 0
IsLeftReformed view old c = (pages : ℕ → List ℕ)
    × IsReformedOr (state_of old).half.pages (stage_in (contents_of view old) 0) pages
    × HasPages (state_of old).superblock (state_of old).half.generation pages (view (disk_of old)).image c

-- The bytes of a disk hold a store's record that a disk can have, and no number of it is worn by more than this.
pub record HasStore (wear : ℕ) (state : StoreState) (bytes : List ℕ) : Type 0 where
  pub found : HasRecord state bytes
  pub storable : IsStorable state
  pub generation : (superblock : Superblock) (half : Half) → HasLog superblock half bytes
      → IsUnworn wear half.generation
  pub epoch : IsUnworn wear state.epoch
  pub ship : IsUnworn wear state.ship

-- So does the disk of an aggregate, and the store is of its server and roster.
pub record HoldsStore {D : Type 0} (view : D → View) (state : StoreState) (aggregate : Aggregate D) : Type 0 where
  pub store : HasStore aggregate.wear state (view (disk_in aggregate)).image
  pub server_is : state.server ≡ (state_in aggregate).server
  pub roster_is : state.roster ≡ (state_in aggregate).roster
