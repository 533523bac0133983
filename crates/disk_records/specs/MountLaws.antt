-- What mounting a disk begins with.
use Rattle.std.specs.Prelude.{◌≡◌, ◌≤◌, ◌<◌, ℕ, true, List, [], length, Some, None}
use Rattle.base_types.specs.Image.{byte_at}
use Rattle.base_types.specs.declared.limits.TheConstants.{SERVERS_MAX}
use Rattle.tree_calls.specs.declared.roster.Roster.{Roster}
use Rattle.base_types.specs.declared.ids.ServerId.{ServerId}
use Rattle.disk_layout.specs.Half.{HasLog}
use Rattle.disk_layout.specs.declared.half.Half.{Half}
use Rattle.disk_layout.specs.declared.superblock.Superblock.{Superblock}
use Rattle.disk_image.specs.Aggregate.{Aggregate, aggregate_of, server_page, page_of}
use Rattle.disk_image.specs.Faults.{faults_in}
use Rattle.disk_image.specs.Image.{image_in}
use Rattle.disk_image.specs.Refused.{is_declared, refused_at}
use Rattle.disk_image_laws.specs.ObjectLaws.{anodes_of}
use Rattle.disk_records.specs.Stored.{SaysRecord}
use Rattle.disk_records.specs.Record.{record_of, record_in}
use Rattle.store_records.specs.Stored.{IsStorable}

-- the other servers that headers name are declared
abbrev pub AreDeclared : Roster → Aggregate → Type 0
AreDeclared roster disk = (slot : ℕ) → slot < 16 → is_declared (length roster.capacity) disk slot ≡ true

-- Where a disk in format 2 has no faults, its record is one that a disk can have.
abbrev pub FaultlessIsStorable : Type 0
FaultlessIsStorable = (disk : Aggregate) (roster : Roster) → faults_in disk ≡ [] → byte_at (server_page disk) 29 ≡ 2
    → 1 ≤ disk.server → disk.server ≤ SERVERS_MAX → length roster.capacity ≤ SERVERS_MAX → AreDeclared roster disk
    → IsStorable (record_of roster (image_in disk))

-- And its pages and the anodes of its image say this record.
abbrev pub FaultlessSays : Type 0
FaultlessSays = (disk : Aggregate) (roster : Roster) → faults_in disk ≡ [] → byte_at (server_page disk) 29 ≡ 2
    → SaysRecord (record_of roster (image_in disk)) (anodes_of disk) (page_of disk)

-- What a mount of these bytes begins with: an aggregate of the server, without faults, whose record they have; and in
-- format 2 it is one that a disk can have.
pub record IsMounted (server : ServerId) (roster : Roster) (bytes : List ℕ) (disk : Aggregate) : Type 0 where
  pub clean : faults_in disk ≡ []
  pub own : disk.server ≡ server.0
  pub declared : AreDeclared roster disk
  pub record_is : record_in roster server bytes ≡ Some (record_of roster (image_in disk))
  pub storable : byte_at (server_page disk) 29 ≡ 2 → length roster.capacity ≤ SERVERS_MAX
      → IsStorable (record_of roster (image_in disk))

-- so it is where a mount isn't refused
abbrev pub UnrefusedIsMounted : Type 0
UnrefusedIsMounted = (server : ServerId) (roster : Roster) (bytes : List ℕ) (superblock : Superblock) (half : Half)
    → HasLog superblock half bytes → refused_at server.0 (length roster.capacity) bytes ≡ None
    → IsMounted server roster bytes (aggregate_of superblock half bytes)
