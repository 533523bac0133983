-- Which disks a mount takes.
use Rattle.std.specs.Prelude.{◌≡◌, ◌≤◌, ◌<◌, ◌↔◌, ℕ, false, List, slice_get, Some, None}
use Rattle.std.specs.List.{AllByRecursion}
use Rattle.disk_layout.specs.Half.{HasLog}
use Rattle.disk_layout.specs.declared.half.Half.{Half}
use Rattle.disk_layout.specs.declared.superblock.Superblock.{Superblock}
use Rattle.disk_image.specs.Aggregate.{superblock_of}
use Rattle.disk_image.specs.Faults.{faults_of}
use Rattle.disk_image.specs.Image.{Image, SlotImage, image_of}
use Rattle.disk_image.specs.Refused.{are_worn, refused_at}
use Rattle.disk_image.specs.declared.fault.Fault.{Fault}

-- An image can be mounted where so many servers are declared: each other server that a header names is one of them, and
-- no number of the server's page is worn.
pub record IsMountable (servers : ℕ) (image : Image) : Type 0 where
  pub declared : AllByRecursion (λ (slot : SlotImage). slot.header.other ≤ servers) image.slots
  pub unworn : are_worn image.facts ≡ false

-- A disk with a log is mounted for a server exactly where it has an image for it that can be mounted, and the log's
-- generation is below 2^63.
abbrev pub MountedIsImage : Type 0
MountedIsImage = (server servers : ℕ) (bytes : List ℕ) (superblock : Superblock) (half : Half)
    → HasLog superblock half bytes → (refused_at server servers bytes ≡ None)
    ↔ ((image : Image) × (image_of server bytes ≡ Some image) × IsMountable servers image
    × (half.generation < 9223372036854775808))

-- a disk that is mounted has a log
abbrev pub MountedHasLog : Type 0
MountedHasLog = (server servers : ℕ) (bytes : List ℕ) → refused_at server servers bytes ≡ None
    → (superblock : Superblock) × (half : Half) × HasLog superblock half bytes × (superblock.server ≡ server)

-- where no other server is named, the place is that of the first fault
abbrev pub FirstFaultIsPlace : Type 0
FirstFaultIsPlace = (server servers : ℕ) (bytes : List ℕ) (fault : Fault)
    → slice_get (faults_of bytes) 0 ≡ Some fault
    → ((superblock : Superblock) → superblock_of bytes ≡ Some superblock → superblock.server ≡ server)
    → refused_at server servers bytes ≡ Some fault.place
