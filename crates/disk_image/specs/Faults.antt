-- The faults of a disk's bytes, in the order of the disk.
use Rattle.std.specs.Prelude.{ℕ, ◌+◌, ◌/◌, List, [], ◌∷◌, ◌++◌, Option, Some, None, if◌then◌else◌}
use Rattle.disk_layout.specs.Half.{used_half}
use Rattle.disk_layout.specs.Places.{page_start, pages_of}
use Rattle.disk_layout.specs.declared.half.Half.{Half}
use Rattle.disk_layout.specs.declared.superblock.Superblock.{Superblock}
use Rattle.disk_pages.specs.Numbers.{is_numbers_page}
use Rattle.disk_pages.specs.Server.{is_server_page}
use Rattle.disk_image.specs.Joined.{joined}
use Rattle.disk_image.specs.Aggregate.{
  Aggregate,
  aggregate_of,
  is_blank,
  superblock_of,
  page_of,
  server_page,
  header_number,
}
use Rattle.disk_image.specs.Slots.{is_slot_header, is_slot_numbers}
use Rattle.disk_image.specs.Anodes.{unless, anode_faults}
use Rattle.disk_image.specs.Reach.{reach_faults}
use Rattle.disk_image.specs.Counts.{count_fault, promise_fault}
use Rattle.disk_image.specs.declared.fault.Fault.{Fault}
use Rattle.disk_image.specs.declared.fault.Rule.{Rule}
use Rattle.disk_image.specs.declared.fault.Rule.TheVariants as rules

-- those of a slot's pages and of the blocks that they name
unfoldable pub slot_faults : Aggregate → ℕ → List Fault
slot_faults disk slot =
    unless (is_slot_header disk slot) (page_start (header_number slot)) rules.SlotHeader
    ++ unless (is_slot_numbers disk slot) (page_start (header_number slot + 1)) rules.CallNumbers
    ++ joined (anode_faults disk slot) 64

-- those of an aggregate behind its log: of the server's pages and of each slot, then of reach, counts and promises
unfoldable pub faults_in : Aggregate → List Fault
faults_in disk =
    unless (is_server_page (server_page disk)) (page_start 0) rules.ServerPage
    ++ unless (is_numbers_page (page_of disk 1)) (page_start 1) rules.CallNumbers
    ++ joined (slot_faults disk) 16
    ++ joined (reach_faults disk) 16
    ++ joined (count_fault disk) ((disk.blocks + 255) / 256)
    ++ promise_fault disk

abbrev pub one_fault : ℕ → Rule → List Fault
one_fault place rule = record { place = place; rule = rule } ∷ []

-- without a half of the log that is used there is nothing to judge
abbrev pub faults_behind : Superblock → Option Half → List ℕ → List Fault
faults_behind superblock None image = one_fault 512 rules.Log
faults_behind superblock (Some half) image = faults_in (aggregate_of superblock half image)

abbrev pub faults_under : Option Superblock → List ℕ → List Fault
faults_under None image = one_fault 0 rules.Superblock
faults_under (Some superblock) image = faults_behind superblock (used_half (pages_of superblock.blocks) image) image

-- The faults of a disk's bytes. A blank disk has none.
unfoldable pub faults_of : List ℕ → List Fault
faults_of image = if is_blank image then [] else faults_under (superblock_of image) image
