-- Where the pages and blocks of an aggregate stand, and its first page.
use Rattle.std.specs.Prelude.{
  ℕ,
  ◌+◌,
  ◌-◌,
  ◌*◌,
  ◌==◌,
  ◌&&◌,
  ◌||◌,
  not,
  nat_le,
  nat_eq,
  Bool,
  List,
  [],
  Option,
  Some,
  None,
  if◌then◌else◌,
}
use Rattle.std.specs.Cmp.Lexicographic.{pointwise}
use Rattle.std.proofs.Common.{get_or}
use Rattle.base_types.specs.Image.{byte_at, bytes_from}
use Rattle.disk_layout.specs.Numbers.{number_at}
use Rattle.disk_layout.specs.Places.{block_start, pages_of}
use Rattle.disk_layout.specs.Pages.{pages_in}
use Rattle.disk_layout.specs.Superblock.{format_end, layout_name}
use Rattle.disk_layout.specs.declared.half.Half.{Half}
use Rattle.disk_layout.specs.declared.superblock.Superblock.{Superblock}
use Rattle.disk_anode.specs.Node.{is_pointer, map_under, node_of}
use Rattle.disk_anode.specs.declared.node.Node.{Node}
use Rattle.disk_pages.specs.Words.{are_zero}
use Rattle.disk_image.specs.Joined.{listed}

-- whether the layout's name stands in the first page
abbrev pub has_layout_name : List ℕ → Bool
has_layout_name image = pointwise nat_eq (bytes_from image 1 8) layout_name

-- whether nobody wrote to the disk, or its format was stopped: all is zero that a format may write, or there is the
-- mark that it writes before all else
unfoldable pub is_blank : List ℕ → Bool
is_blank image = are_zero 0 format_end image || (not (byte_at image 0 == 1) && has_layout_name image)

-- whether the first page is a superblock: its gate, the layout's name, format 1, and nothing unnamed
abbrev pub is_front : List ℕ → Bool
is_front image =
    (byte_at image 0 == 1) && has_layout_name image && (number_at 4 12 image == 1) && are_zero 9 3 image
    && are_zero 21 491 image

-- the superblock of an aggregate: a server from 1 to 4, and 1,092 to 66,560 blocks
unfoldable pub superblock_of : List ℕ → Option Superblock
superblock_of image =
    if is_front image && nat_le 1 (byte_at image 20) && nat_le (byte_at image 20) 4
    && nat_le 1092 (number_at 4 16 image) && nat_le (number_at 4 16 image) 66560
    then Some (record { server = byte_at image 20; blocks = number_at 4 16 image })
    else None

-- What is judged of a disk behind its log: its server, its number of blocks, its metadata pages after redo and
-- undo, and its bytes, of which those of blocks are looked at.
pub record Aggregate : Type 0 where
  pub server : ℕ
  pub blocks : ℕ
  pub pages : List (List ℕ)
  pub image : List ℕ

abbrev pub aggregate_of : Superblock → Half → List ℕ → Aggregate
aggregate_of superblock half image = record {
  server = superblock.server;
  blocks = superblock.blocks;
  pages = listed (pages_in half image) (pages_of superblock.blocks);
  image = image;
}

-- metadata page p; 0 is the server's page, 1 that of its call numbers
abbrev pub page_of : Aggregate → ℕ → List ℕ
page_of disk p = get_or disk.pages p []

abbrev pub server_page : Aggregate → List ℕ
server_page disk = page_of disk 0

-- the pages of a slot: its header, its call numbers, and its 64 anodes, which are counted from 0 here
abbrev pub header_number : ℕ → ℕ
header_number slot = 2 + 66 * slot

abbrev pub anode_number : ℕ → ℕ → ℕ
anode_number slot i = 4 + 66 * slot + i

abbrev pub header_page : Aggregate → ℕ → List ℕ
header_page disk slot = page_of disk (header_number slot)

abbrev pub numbers_page : Aggregate → ℕ → List ℕ
numbers_page disk slot = page_of disk (header_number slot + 1)

abbrev pub anode_page : Aggregate → ℕ → ℕ → List ℕ
anode_page disk slot i = page_of disk (anode_number slot i)

abbrev pub node_at : Aggregate → ℕ → ℕ → Node
node_at disk slot i = node_of disk.blocks disk.image (anode_page disk slot i)

-- the bytes of the block that a pointer names, zero where it names none, and the place of that block
abbrev pub block_under : Aggregate → ℕ → List ℕ
block_under disk pointer = map_under disk.blocks disk.image pointer

abbrev pub block_place : Aggregate → ℕ → ℕ
block_place disk pointer = block_start (pages_of disk.blocks) (pointer - 1)

abbrev pub names_block : Aggregate → ℕ → Bool
names_block disk pointer = is_pointer disk.blocks pointer
