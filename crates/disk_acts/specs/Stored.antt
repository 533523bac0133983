-- What the bytes of a disk hold of a store.
use Rattle.std.specs.Prelude.{◌≡◌, ◌≤◌, ℕ, ◌+◌, List}
use Rattle.store_state.specs.declared.state.StoreState.{StoreState}
use Rattle.store_records.specs.Stored.{IsStorable}
use Rattle.disk_layout.specs.Half.{HasLog}
use Rattle.disk_layout.specs.Pages.{pages_in}
use Rattle.disk_layout.specs.declared.half.Half.{Half}
use Rattle.disk_layout.specs.declared.superblock.Superblock.{Superblock}
use Rattle.disk_acts.specs.Records.{HasRecord}

-- a record that a disk with this superblock can have: that of its server, with the capacity of its blocks
pub record IsOwn (state : StoreState) (superblock : Superblock) : Type 0 where
  pub storable : IsStorable state
  pub server : superblock.server ≡ state.server.0
  pub blocks : superblock.blocks ≡ state.capacity + 1024
  pub least : 68 ≤ state.capacity

-- The bytes of a disk hold the record of a store: they are a log, of this generation at most, whose pages after redo
-- and undo say the record, and whose blocks hold its objects.
pub record HoldsStore (most : ℕ) (state : StoreState) (c : List ℕ) : Type 0 where
  pub superblock : Superblock
  pub half : Half
  pub log : HasLog superblock half c
  pub generation : half.generation ≤ most
  pub own : IsOwn state superblock
  pub held : HasRecord state superblock.blocks (λ p. pages_in half c p) c
