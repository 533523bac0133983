-- What a log holds of a store's record.
use Rattle.std.specs.Prelude.{◌≡◌, ◌<◌, ℕ, ◌+◌, List, length}
use Rattle.base_types.specs.declared.limits.TheConstants.{HOSTS_MAX, SERVERS_MAX}
use Rattle.tree_objects.specs.declared.content.Anode.{Anode}
use Rattle.store_acts.specs.Sound.{KeepsLimits}
use Rattle.store_state.specs.declared.state.StoreState.{StoreState}
use Rattle.disk_log.specs.Contents.{Contents, stage_in}
use Rattle.disk_log.specs.Puts.{page_of}
use Rattle.disk_log.specs.State.{State}
use Rattle.disk_objects.specs.Holds.{Holds}
use Rattle.disk_objects.specs.Objects.{kept_anodes, AreKept}
use Rattle.disk_records.specs.Stored.{SaysRecord}

-- Pages and blocks hold the record of a store, where these are the anodes of each slot.
pub record HoldsRecord (state : StoreState)
    (slots : ℕ → List Anode) (blocks : ℕ) (pages : ℕ → List ℕ) (image : List ℕ) : Type 0 where
  pub held : Holds (kept_anodes slots) blocks pages image
  pub each : (slot : ℕ) → slot < 16 → AreKept (slots slot)
  pub says : SaysRecord state slots pages

-- They hold it with some anodes.
abbrev pub HasRecord : StoreState → ℕ → (ℕ → List ℕ) → List ℕ → Type 0
HasRecord state blocks pages image = (slots : ℕ → List Anode) × HoldsRecord state slots blocks pages image

-- stage k of a log has it
abbrev pub HasStage : StoreState → ℕ → Contents → Type 0
HasStage state k told = HasRecord state told.state.superblock.blocks (stage_in told k) told.image

-- and so do the pages of a log under all puts
abbrev pub HasNow : StoreState → State → List ℕ → Type 0
HasNow state log image =
    HasRecord state log.superblock.blocks (λ p. page_of log.entries log.puts image p) image

-- A store's record is of the size that its acts keep: 16 slots, and 17 hosts, and 4 servers.
pub record HasTables (state : StoreState) : Type 0 where
  pub limits : KeepsLimits state
  pub hosts : length state.hosts ≡ HOSTS_MAX + 1
  pub taken : length state.taken ≡ SERVERS_MAX
