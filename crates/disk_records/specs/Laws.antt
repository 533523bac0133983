-- What makes the record of an image believable: nothing that the image says is lost, and a new disk is a new store.
use Rattle.std.specs.Prelude.{◌≡◌, ◌≤◌, ℕ, ◌+◌, ◌-◌, true, List, [], Some}
use Rattle.tree_calls.specs.declared.roster.Roster.{Roster}
use Rattle.store_state.specs.State.{new_state}
use Rattle.tree_objects.specs.declared.content.Anode.{Anode}
use Rattle.store_state.specs.declared.state.Holding.{Holding}
use Rattle.store_state.specs.declared.state.StoreState.{StoreState}
use Rattle.disk_layout.specs.Half.{HasLog}
use Rattle.disk_layout.specs.declared.half.Half.{Half}
use Rattle.disk_layout.specs.declared.superblock.Superblock.{Superblock}
use Rattle.disk_pages.specs.Header.{is_header}
use Rattle.disk_pages.specs.Server.{is_server_page, server_of}
use Rattle.disk_image.specs.Aggregate.{Aggregate, aggregate_of, page_of, server_page, header_page}
use Rattle.disk_image.specs.Image.{slot_image, image_in}
use Rattle.base_types.specs.Image.{byte_at}
use Rattle.disk_image_laws.specs.Fresh.{IsEmpty}
use Rattle.disk_image.specs.Faults.{faults_in}
use Rattle.disk_image_laws.specs.ObjectLaws.{Keeps}
use Rattle.disk_records.specs.Record.{stay_of, holding_of, record_of, record_in}
use Rattle.disk_records.specs.Said.{header_said, facts_said}
use Rattle.store_records.specs.Stored.{IsStorable}
use Rattle.disk_records.specs.Stored.{SaysRecord}

-- a header that is made of a holding says how its fileset stays
abbrev pub StaysAreSaid : Type 0
StaysAreSaid = (holding : Holding) → stay_of (header_said holding) ≡ holding.stay

-- and each header of a fileset in format 2 is that of what is held of it
abbrev pub HeadersAreSaid : Type 0
HeadersAreSaid = (disk : Aggregate) (slot : ℕ) → byte_at (server_page disk) 29 ≡ 2
    → is_header disk.server (server_page disk) (header_page disk slot) ≡ true
    → header_said (holding_of (slot_image disk slot)) ≡ (slot_image disk slot).header

-- so is the server's page that of the record, in format 2
abbrev pub FactsAreSaid : Type 0
FactsAreSaid = (disk : Aggregate) (roster : Roster) → is_server_page (server_page disk) ≡ true
    → facts_said (record_of roster (image_in disk)) ≡ record (server_of (server_page disk)) { format = 2 }

-- What pages say of a record, and slots keep of its anodes, is read as this record.
abbrev pub RecordIsRead : Type 0
RecordIsRead = (disk : Aggregate) (state : StoreState) (slots : ℕ → List Anode) → IsStorable state
    → Keeps slots disk → SaysRecord state slots (page_of disk) → disk.server ≡ state.server.0
    → disk.blocks ≡ state.capacity + 1024 → record_of state.roster (image_in disk) ≡ state

-- And such a disk has no faults.
abbrev pub RecordHasNoFaults : Type 0
RecordHasNoFaults = (disk : Aggregate) (state : StoreState) (slots : ℕ → List Anode) → IsStorable state
    → Keeps slots disk → SaysRecord state slots (page_of disk) → disk.server ≡ state.server.0
    → disk.blocks ≡ state.capacity + 1024 → faults_in disk ≡ []

-- So the bytes of a disk have this record, where its log has such pages.
abbrev pub RecordIsThere : Type 0
RecordIsThere = (bytes : List ℕ) (superblock : Superblock) (half : Half) (state : StoreState) (slots : ℕ → List Anode)
    → HasLog superblock half bytes → IsStorable state → Keeps slots (aggregate_of superblock half bytes)
    → SaysRecord state slots (page_of (aggregate_of superblock half bytes)) → superblock.server ≡ state.server.0
    → superblock.blocks ≡ state.capacity + 1024 → 68 ≤ state.capacity
    → record_in state.roster state.server bytes ≡ Some state

-- an aggregate without filesets is a new store
abbrev pub EmptyIsNew : Type 0
EmptyIsNew = (disk : Aggregate) (roster : Roster) → IsEmpty disk
    → record_of roster (image_in disk) ≡ new_state (record { 0 = disk.server }) (disk.blocks - 1024) roster
