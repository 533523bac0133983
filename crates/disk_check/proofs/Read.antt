-- The parts of an anode as they were read.
use Rattle.std.proofs.Common.{◌≡◌, ◌<◌, ◌≤◌, ℕ, ◌+◌, ◌-◌, ◌*◌, List, [], ◌∷◌, ◌++◌, sym, ◌∙◌, ap, arith}
use Rattle.std.specs.Prelude.{Bool, true, false, not, is_some, ◌==◌, ◌&&◌, nat_lt}
use Rattle.std.proofs.lemmas.Bool.{cond-true, cond-false, lt-ltb, le-ltb}
use Rattle.base_types.specs.Image.{byte_at}
use Rattle.disk_layout.specs.Numbers.{number_at}
use Rattle.disk_anode.specs.Node.{pointer_of, pointer_at}
use Rattle.disk_anode.specs.declared.node.Node.{Node}
use Rattle.disk_anode.proofs.Pointers.{pointer_front, pointer_back}
use Rattle.disk_pages.specs.Anode.{page_pointer, bytes_in}
use Rattle.disk_pages.specs.Blocks.{is_map, is_entry_block, map_pointer, entry_anode, entry_unique}
use Rattle.disk_image.specs.Lists.{list_in}
use Rattle.disk_image.specs.Aggregate.{Aggregate, node_at, anode_page, block_under, names_block}
use Rattle.disk_image.specs.Anodes.{unless_block, list_fault, map_fault, directory_fault, entries_in, entry_pointer, is_directory_block, link_of}
use Rattle.disk_image.specs.Counts.{page_use, map_use, is_mapped}
use Rattle.disk_image.specs.declared.found.Link.{Link}
use Rattle.disk_image.specs.declared.found.Use.{Use}
use Rattle.disk_image.specs.declared.fault.Rule.TheVariants as rules
use Rattle.disk_check.specs.Parts.{AreParts}
use Rattle.disk_check.specs.declared.parts.Parts.{Parts}

-- a pointer of the page
pub front : (disk : Aggregate) (slot i w : ℕ) (page : List ℕ) → page ≡ anode_page disk slot i → w < 16 → page_pointer w page ≡ pointer_of (node_at disk slot i) w
front disk slot i w page page_is lt = ap (λ (p : List ℕ). page_pointer w p) page_is ∙ sym (pointer_front (node_at disk slot i) w lt)

pub node_is : (disk : Aggregate) (slot i : ℕ) (page map : List ℕ) → page ≡ anode_page disk slot i → map ≡ (node_at disk slot i).map
    → record { blocks = disk.blocks; page = page; map = map } ≡ node_at disk slot i
node_is disk slot i page map page_is map_is = λ j. record { blocks = disk.blocks; page = page_is j; map = map_is j }

-- the pointer of block n of an anode's bytes
pub low_pointer : (node : Node) (n : ℕ) → n < 12 → page_pointer (n + 3) node.page ≡ pointer_of node (pointer_at n)
low_pointer node n lt =
    sym (pointer_front node (n + 3) (omega arith)) ∙ ap (λ w. pointer_of node w) (sym (cond-true (nat_lt n 12) (n + 3) (n + 4) (lt-ltb n 12 lt)))

pub high_pointer : (node : Node) (n : ℕ) → 12 ≤ n → map_pointer (n - 12) node.map ≡ pointer_of node (pointer_at n)
high_pointer node n le =
    (let e : 4 * (n - 12) ≡ 4 * (n + 4 - 16) = omega arith in ap (λ at. number_at 4 at node.map) e)
    ∙ sym (pointer_back node (n + 4) (omega arith)) ∙ ap (λ w. pointer_of node w) (sym (cond-false (nat_lt n 12) (n + 3) (n + 4) (le-ltb n 12 le)))

-- the fault of a list, of the indirect block, of a block of entries
pub list_is : (disk : Aggregate) (slot i w pointer : ℕ) (block : List ℕ) → pointer ≡ pointer_of (node_at disk slot i) w → block ≡ block_under disk (pointer_of (node_at disk slot i) w)
    → unless_block disk pointer (is_some (list_in block)) rules.ListBlock ≡ list_fault disk slot i w
list_is disk slot i w pointer block pointer_is block_is = λ j. unless_block disk (pointer_is j) (is_some (list_in (block_is j))) rules.ListBlock

pub map_is : (disk : Aggregate) (slot i pointer : ℕ) (page map : List ℕ) (test : Bool) → page ≡ anode_page disk slot i → map ≡ (node_at disk slot i).map → pointer ≡ pointer_of (node_at disk slot i) 15
    → test ≡ is_map disk.blocks (byte_at page 0 == 1) (bytes_in page) map → unless_block disk pointer test rules.IndirectBlock ≡ map_fault disk slot i
map_is disk slot i pointer page map test page_is map_at pointer_is test_is =
    let e : test ≡ is_map disk.blocks (byte_at (anode_page disk slot i) 0 == 1) (bytes_in (anode_page disk slot i)) (node_at disk slot i).map =
    test_is ∙ (λ j. is_map disk.blocks (byte_at (page_is j) 0 == 1) (bytes_in (page_is j)) (map_at j)) in
    λ j. unless_block disk (pointer_is j) (e j) rules.IndirectBlock

module _ (disk : Aggregate) (slot i n pointer : ℕ) (page : List ℕ) (parts : Parts) (test : Bool) (page_is : page ≡ anode_page disk slot i) (are : AreParts disk slot i parts)
    (pointer_is : pointer ≡ pointer_of (record { blocks = disk.blocks; page = page; map = parts.map }) (pointer_at n)) (test_is : test ≡ is_entry_block (entries_in page) parts.entries.items n) where
  pub entry_pointer_is : pointer ≡ entry_pointer disk slot i n
  entry_pointer_is = pointer_is ∙ ap (λ (node : Node). pointer_of node (pointer_at n)) (node_is disk slot i page parts.map page_is are.map)

  pub entry_block_is : test ≡ is_directory_block disk slot i n
  entry_block_is = test_is ∙ (λ j. is_entry_block (entries_in (page_is j)) (are.entries j) n)

  pub directory_is : unless_block disk pointer test rules.DirectoryBlock ≡ directory_fault disk slot i n
  directory_is = λ j. unless_block disk (entry_pointer_is j) (entry_block_is j) rules.DirectoryBlock

  pub readable_is : (names_block disk pointer && test) ≡ (names_block disk (entry_pointer disk slot i n) && is_directory_block disk slot i n)
  readable_is = λ j. names_block disk (entry_pointer_is j) && entry_block_is j

-- the pointers of an anode, as they are pushed
pub page_use_is : (disk : Aggregate) (slot i w pointer : ℕ) (page : List ℕ) (uses : List Use) → pointer ≡ page_pointer w page → page ≡ anode_page disk slot i → w < 16
    → uses ++ (record { pointer = pointer; slot = slot; is_map = w == 15; is_counted = true }) ∷ [] ≡ uses ++ page_use disk slot i w ∷ []
page_use_is disk slot i w pointer page uses pointer_is page_is lt =
    λ j. uses ++ (record { pointer = (pointer_is ∙ front disk slot i w page page_is lt) j; slot = slot; is_map = w == 15; is_counted = true }) ∷ []

pub map_use_is : (disk : Aggregate) (slot i k pointer : ℕ) (map : List ℕ) (is_counted : Bool) (uses : List Use) → pointer ≡ map_pointer k map → map ≡ (node_at disk slot i).map
    → is_counted ≡ not (is_mapped disk slot i (pointer_of (node_at disk slot i) 15))
    → uses ++ (record { pointer = pointer; slot = slot; is_map = false; is_counted = is_counted }) ∷ [] ≡ uses ++ map_use disk slot i k ∷ []
map_use_is disk slot i k pointer map is_counted uses pointer_is map_is counted =
    let e : 4 * k ≡ 4 * (16 + k - 16) = omega arith in
    let to : map_pointer k (node_at disk slot i).map ≡ pointer_of (node_at disk slot i) (16 + k) =
    ap (λ at. number_at 4 at (node_at disk slot i).map) e ∙ sym (pointer_back (node_at disk slot i) (16 + k) (omega arith)) in
    λ j. uses ++ (record { pointer = (pointer_is ∙ (λ l. map_pointer k (map_is l)) ∙ to) j; slot = slot; is_map = false; is_counted = counted j }) ∷ []

-- where an entry leads, as it is pushed
pub link_is : (disk : Aggregate) (slot i e : ℕ) (parts : Parts) (to unique : ℕ) (links : List Link) → AreParts disk slot i parts
    → to ≡ entry_anode parts.entries.items e → unique ≡ entry_unique parts.entries.items e
    → links ++ (record { from = i + 1; to = to; unique = unique }) ∷ [] ≡ links ++ link_of disk slot i e ∷ []
link_is disk slot i e parts to unique links are to_is unique_is =
    λ j. links ++ (record { from = i + 1; to = (to_is ∙ (λ k. entry_anode (are.entries k) e)) j; unique = (unique_is ∙ (λ k. entry_unique (are.entries k) e)) j }) ∷ []
