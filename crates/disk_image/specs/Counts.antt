-- Whether each count of a block is the number of pointers to it, and whether the promises are kept within the
-- capacity.
use Rattle.std.specs.Prelude.{
  ℕ,
  ◌+◌,
  ◌-◌,
  ◌*◌,
  ◌/◌,
  ◌==◌,
  ◌&&◌,
  ◌||◌,
  not,
  nat_le,
  nat_lt,
  Bool,
  true,
  false,
  List,
  [],
  ◌∷◌,
  ◌++◌,
  count_by,
  if◌then◌else◌,
}
use Rattle.std.specs.List.{list_any}
use Rattle.base_types.specs.Image.{byte_at}
use Rattle.tree_filesets.specs.Promises.{new_promise}
use Rattle.disk_layout.specs.Numbers.{number_at}
use Rattle.disk_layout.specs.Places.{page_start}
use Rattle.disk_anode.specs.Node.{pointer_of}
use Rattle.disk_pages.specs.Words.{each_below}
use Rattle.disk_pages.specs.Anode.{is_object, bytes_in}
use Rattle.disk_pages.specs.Header.{is_limit}
use Rattle.disk_pages.specs.declared.header.SlotState.{SlotState}
use Rattle.disk_pages.specs.declared.header.SlotState.TheVariants.{
  Free,
  Writable,
  Clone,
  Leaving,
  Arriving,
  Gone,
  Unknown,
}
use Rattle.disk_image.specs.Joined.{joined, listed, total, some_below}
use Rattle.disk_image.specs.Aggregate.{Aggregate, page_of, header_page, anode_page, node_at, names_block}
use Rattle.disk_image.specs.Slots.{state_at}
use Rattle.disk_image.specs.Anodes.{unless}
use Rattle.disk_image.specs.declared.fault.Fault.{Fault}
use Rattle.disk_image.specs.declared.fault.Rule.TheVariants as rules
use Rattle.disk_image.specs.declared.found.Use.{Use}

abbrev pub pointer_in : Aggregate → ℕ → ℕ → ℕ → ℕ
pointer_in disk slot i w = pointer_of (node_at disk slot i) w

-- whether an anode has an indirect block, and whether one before anode i of a slot has it
abbrev pub has_map : Aggregate → ℕ → ℕ → ℕ → Bool
has_map disk pointer slot i = is_object (anode_page disk slot i) && (pointer_in disk slot i 15 == pointer)

unfoldable pub is_mapped : Aggregate → ℕ → ℕ → ℕ → Bool
is_mapped disk slot i pointer = some_below (λ before. some_below (has_map disk pointer before) 64) slot
    || some_below (has_map disk pointer slot) i

-- the pointers of anode i of a slot: those in its page, and those of its indirect block, which count where no
-- anode before has it
abbrev pub page_use : Aggregate → ℕ → ℕ → ℕ → Use
page_use disk slot i w = record { pointer = pointer_in disk slot i w; slot = slot; is_map = w == 15; is_counted = true }

abbrev pub map_use : Aggregate → ℕ → ℕ → ℕ → Use
map_use disk slot i j = record {
  pointer = pointer_in disk slot i (16 + j);
  slot = slot;
  is_map = false;
  is_counted = not (is_mapped disk slot i (pointer_in disk slot i 15));
}

unfoldable pub uses_at : Aggregate → ℕ → ℕ → List Use
uses_at disk slot i =
    if is_object (anode_page disk slot i)
    then listed (page_use disk slot i) 16
    ++ (if names_block disk (pointer_in disk slot i 15) then listed (map_use disk slot i) 52 else [])
    else []

abbrev pub uses_of : Aggregate → List Use
uses_of disk = joined (λ slot. joined (uses_at disk slot) 64) 16

-- whether a pointer names a block
abbrev pub is_use_of : ℕ → Use → Bool
is_use_of block one = one.pointer == block + 1

-- how many pointers name a block, and how many of them are those of one slot
abbrev pub times_counted : List Use → ℕ → ℕ
times_counted uses block = count_by (λ one. is_use_of block one && one.is_counted) uses

abbrev pub times_in : List Use → ℕ → ℕ → ℕ
times_in uses slot block = count_by (λ one. is_use_of block one && (one.slot == slot)) uses

-- whether a block is named as an indirect block, and as another
abbrev pub is_both : List Use → ℕ → Bool
is_both uses block = list_any (λ one. is_use_of block one && one.is_map) uses
    && list_any (λ one. is_use_of block one && not one.is_map) uses

-- whether all is well with the count of a block
unfoldable pub is_count : List Use → ℕ → ℕ → Bool
is_count uses block count =
    (times_counted uses block == count) && each_below (λ slot. nat_le (times_in uses slot block) 1) 16
    && not (is_both uses block)

-- count k of page p of the counts; those of no block are zero
unfoldable pub is_count_place : Aggregate → ℕ → ℕ → Bool
is_count_place disk p k =
    let count = number_at 2 (2 * k) (page_of disk (1058 + p)) in
    if nat_lt (256 * p + k) disk.blocks then is_count (uses_of disk) (256 * p + k) count else count == 0

unfoldable pub is_count_page : Aggregate → ℕ → Bool
is_count_page disk p = each_below (is_count_place disk p) 256

abbrev pub count_fault : Aggregate → ℕ → List Fault
count_fault disk p = unless (is_count_page disk p) (page_start (1058 + p)) rules.Count

-- the blocks that a clone is promised for an anode: 4 for an object, and 5 more for a directory or one for each
-- block of a file
abbrev pub object_promise : List ℕ → ℕ
object_promise page =
    if byte_at page 0 == 1 then 9 else if byte_at page 0 == 2 then 4 + (bytes_in page + 1023) / 1024 else 0

-- the blocks that a slot is promised; one whose header tells no limit is promised none
abbrev pub limit_promise : List ℕ → ℕ
limit_promise header = if is_limit (number_at 4 8 header) then new_promise (number_at 4 8 header) else 0

abbrev pub promise_by : SlotState → Aggregate → ℕ → ℕ
promise_by Clone disk slot = total (λ i. object_promise (anode_page disk slot i)) 64
promise_by Free disk slot = 0
promise_by Gone disk slot = 0
promise_by Unknown disk slot = 0
promise_by _ disk slot = limit_promise (header_page disk slot)

abbrev pub promises : Aggregate → ℕ
promises disk = total (λ slot. promise_by (state_at disk slot) disk slot) 16

-- 1,024 blocks are spare
abbrev pub capacity_of : Aggregate → ℕ
capacity_of disk = disk.blocks - 1024

abbrev pub promise_fault : Aggregate → List Fault
promise_fault disk = unless (nat_le (promises disk) (capacity_of disk)) 0 rules.Promises
