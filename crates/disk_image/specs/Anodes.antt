-- Whether all is well with an anode and the blocks that it names.
use Rattle.std.specs.Prelude.{
  ℕ,
  zero,
  suc,
  ◌+◌,
  ◌*◌,
  ◌/◌,
  ◌==◌,
  ◌&&◌,
  ◌||◌,
  not,
  nat_lt,
  Bool,
  List,
  [],
  ◌∷◌,
  ◌++◌,
  is_some,
  if◌then◌else◌,
}
use Rattle.base_types.specs.Image.{byte_at}
use Rattle.disk_layout.specs.Places.{page_start}
use Rattle.disk_anode.specs.Node.{pointer_of, pointer_at}
use Rattle.disk_pages.specs.Words.{each_below, are_zero}
use Rattle.disk_pages.specs.Anode.{is_object, is_free_page, is_object_page, unique_of, bytes_in}
use Rattle.disk_pages.specs.Blocks.{is_map, is_entry_block, entry_anode, entry_unique}
use Rattle.disk_image.specs.Lists.{list_in}
use Rattle.disk_image.specs.Joined.{joined, listed}
use Rattle.disk_image.specs.Aggregate.{
  Aggregate,
  header_page,
  anode_page,
  anode_number,
  node_at,
  block_under,
  block_place,
  names_block,
}
use Rattle.disk_image.specs.Slots.{state_at, is_slot_free, usable, has_root}
use Rattle.disk_image.specs.declared.fault.Fault.{Fault}
use Rattle.disk_image.specs.declared.fault.Rule.{Rule}
use Rattle.disk_image.specs.declared.fault.Rule.TheVariants as rules
use Rattle.disk_image.specs.declared.found.Link.{Link}

-- the fault of a place where a test fails
abbrev pub unless : Bool → ℕ → Rule → List Fault
unless test place rule = if test then [] else (record { place = place; rule = rule } ∷ [])

-- the fault of the block that a pointer names, where it names one
abbrev pub unless_block : Aggregate → ℕ → Bool → Rule → List Fault
unless_block disk pointer test rule =
    if names_block disk pointer then unless test (block_place disk pointer) rule else []

-- whether an anode is the root of a fileset
abbrev pub is_root_place : Aggregate → ℕ → ℕ → Bool
is_root_place disk slot i = (i == 0) && has_root (state_at disk slot) (header_page disk slot)

-- the root is a directory, in its first use
abbrev pub is_root_page : List ℕ → Bool
is_root_page page = (byte_at page 0 == 1) && (unique_of page == 1)

-- the page of anode i of a slot; in a free slot it is zero
unfoldable pub is_slot_anode : Aggregate → ℕ → ℕ → Bool
is_slot_anode disk slot i =
    let page = anode_page disk slot i in
    if byte_at page 0 == 0
    then (if is_slot_free disk slot then are_zero 0 512 page else is_free_page page)
    && not (is_root_place disk slot i)
    else is_object_page disk.blocks page && nat_lt i (usable (state_at disk slot) (header_page disk slot))
    && (not (is_root_place disk slot i) || is_root_page page)

-- how many entries a directory has by its length, in how many blocks, and the bytes of the first n of these
abbrev pub entries_in : List ℕ → ℕ
entries_in page = if byte_at page 0 == 1 then bytes_in page / 72 else 0

abbrev pub entry_blocks : List ℕ → ℕ
entry_blocks page = (72 * entries_in page + 1023) / 1024

abbrev pub entry_pointer : Aggregate → ℕ → ℕ → ℕ → ℕ
entry_pointer disk slot i n = pointer_of (node_at disk slot i) (pointer_at n)

abbrev pub first_bytes : Aggregate → ℕ → ℕ → ℕ → List ℕ
first_bytes disk slot i n = joined (λ k. block_under disk (entry_pointer disk slot i k)) n

abbrev pub entry_bytes : Aggregate → ℕ → ℕ → List ℕ
entry_bytes disk slot i = first_bytes disk slot i (entry_blocks (anode_page disk slot i))

-- block n of a directory
abbrev pub is_directory_block : Aggregate → ℕ → ℕ → ℕ → Bool
is_directory_block disk slot i n = is_entry_block (entries_in (anode_page disk slot i)) (entry_bytes disk slot i) n

-- the faults of an anode's lists, of its indirect block and of its entries
abbrev pub list_fault : Aggregate → ℕ → ℕ → ℕ → List Fault
list_fault disk slot i w =
    let pointer = pointer_of (node_at disk slot i) w in
    unless_block disk pointer (is_some (list_in (block_under disk pointer))) rules.ListBlock

abbrev pub map_fault : Aggregate → ℕ → ℕ → List Fault
map_fault disk slot i =
    let page = anode_page disk slot i in
    let pointer = pointer_of (node_at disk slot i) 15 in
    unless_block disk pointer (is_map disk.blocks (byte_at page 0 == 1) (bytes_in page) (node_at disk slot i).map)
    rules.IndirectBlock

abbrev pub directory_fault : Aggregate → ℕ → ℕ → ℕ → List Fault
directory_fault disk slot i n =
    unless_block disk (entry_pointer disk slot i n) (is_directory_block disk slot i n) rules.DirectoryBlock

abbrev pub block_faults : Aggregate → ℕ → ℕ → List Fault
block_faults disk slot i =
    joined (list_fault disk slot i) 3 ++ map_fault disk slot i
    ++ joined (directory_fault disk slot i) (entry_blocks (anode_page disk slot i))

-- the faults of anode i of a slot and of its blocks; those of an anode that is no object aren't followed
unfoldable pub anode_faults : Aggregate → ℕ → ℕ → List Fault
anode_faults disk slot i =
    unless (is_slot_anode disk slot i) (page_start (anode_number slot i)) rules.Anode
    ++ (if is_object (anode_page disk slot i) then block_faults disk slot i else [])

-- where a directory's entries lead, where each of its blocks is there and holds what it should
abbrev pub is_readable : Aggregate → ℕ → ℕ → Bool
is_readable disk slot i =
    each_below (λ n. names_block disk (entry_pointer disk slot i n) && is_directory_block disk slot i n)
    (entry_blocks (anode_page disk slot i))

abbrev pub link_of : Aggregate → ℕ → ℕ → ℕ → Link
link_of disk slot i e = record {
  from = i + 1;
  to = entry_anode (entry_bytes disk slot i) e;
  unique = entry_unique (entry_bytes disk slot i) e;
}

unfoldable pub links_at : Aggregate → ℕ → ℕ → List Link
links_at disk slot i =
    if is_readable disk slot i then listed (link_of disk slot i) (entries_in (anode_page disk slot i)) else []
