-- What holds of a slot where an aggregate has no faults.
use Rattle.std.proofs.Common.{◌≡◌, ◌<◌, ℕ, zero, suc, ◌+◌, ◌/◌, List, [], ◌∷◌, ◌++◌, inl, inr, refl, sym, ◌∙◌, ap, arith}
use Rattle.std.specs.Prelude.{Bool, true, false, if◌then◌else◌, is_some, ◌==◌}
use Rattle.std.proofs.lemmas.Bool.{cases_eq, cond-true}
use Rattle.disk_layout.specs.Places.{page_start}
use Rattle.base_types.specs.Image.{byte_at}
use Rattle.disk_anode.specs.Node.{pointer_of}
use Rattle.disk_pages.specs.Anode.{is_object, bytes_in}
use Rattle.disk_pages.specs.Blocks.{is_map}
use Rattle.disk_pages.specs.Numbers.{is_numbers_page}
use Rattle.disk_pages.specs.Server.{is_server_page}
use Rattle.disk_image.specs.Joined.{joined}
use Rattle.disk_image.specs.Aggregate.{Aggregate, server_page, page_of, anode_page, node_at, header_number, anode_number, block_place, block_under, names_block}
use Rattle.disk_image.specs.Slots.{state_at, is_whole, is_slot_header, is_slot_numbers}
use Rattle.disk_image.specs.Anodes.{unless, is_slot_anode, list_fault, map_fault, directory_fault, block_faults, anode_faults, entry_pointer, entry_blocks, is_directory_block}
use Rattle.disk_image.specs.Reach.{is_reached_right, links_of, reach_fault, reach_faults}
use Rattle.disk_image.specs.Counts.{is_count_page, count_fault, promise_fault}
use Rattle.disk_image.specs.Lists.{list_in}
use Rattle.disk_image.specs.Faults.{slot_faults, faults_in}
use Rattle.disk_image.specs.declared.fault.Fault.{Fault}
use Rattle.disk_image.specs.declared.fault.Rule.{Rule}
use Rattle.disk_image.specs.declared.fault.Rule.TheVariants as rules

pub append_none : {A : Type 0} (xs ys : List A) → xs ++ ys ≡ [] → (xs ≡ []) × (ys ≡ [])
append_none [] ys none = (refl, none)
append_none (x ∷ xs) ys none = absurd (cc)

pub part_none : {A : Type 0} (part : ℕ → List A) (n k : ℕ) → k < n → joined part n ≡ [] → part k ≡ []
unfolding joined
part_none part zero k lt none = absurd (omega arith)
part_none part (suc n) k lt none =
    let parts = append_none (joined part n) (part n) none in
    elim (cases_eq k n) [
      | inl e ↦ ap part e ∙ parts.1
      | inr apart ↦ part_none part n k (omega (arith, apart)) parts.0
    ]

is_right : (test : Bool) (place : ℕ) (rule : Rule) → unless test place rule ≡ [] → test ≡ true
is_right true place rule none = refl
is_right false place rule none = absurd (cc)

-- A slot without faults but for its numbers and its reach.
pub record IsRightSlot (disk : Aggregate) (slot : ℕ) : Type 0 where
  pub header : is_slot_header disk slot ≡ true
  pub anodes : joined (anode_faults disk slot) 64 ≡ []

module _ (disk : Aggregate) (slot : ℕ) (right_slot : IsRightSlot disk slot) where
  abbrev of_page : ℕ → List Fault
  of_page i = unless (is_slot_anode disk slot i) (page_start (anode_number slot i)) rules.Anode

  anode_none : (i : ℕ) → i < 64 → (of_page i ≡ []) × ((if is_object (anode_page disk slot i) then block_faults disk slot i else []) ≡ [])
  unfolding anode_faults
  anode_none i low = append_none (of_page i) (if is_object (anode_page disk slot i) then block_faults disk slot i else []) (part_none (anode_faults disk slot) 64 i low right_slot.anodes)

  pub anode_right : (i : ℕ) → i < 64 → is_slot_anode disk slot i ≡ true
  anode_right i low = is_right (is_slot_anode disk slot i) (page_start (anode_number slot i)) rules.Anode (anode_none i low).0

  blocks_none : (i : ℕ) → i < 64 → is_object (anode_page disk slot i) ≡ true → block_faults disk slot i ≡ []
  blocks_none i low object = sym (cond-true (is_object (anode_page disk slot i)) (block_faults disk slot i) [] object) ∙ (anode_none i low).1

  -- a block of a directory that is named holds what it should
  pub directory_right : (i n : ℕ) → i < 64 → is_object (anode_page disk slot i) ≡ true → n < entry_blocks (anode_page disk slot i)
      → names_block disk (entry_pointer disk slot i n) ≡ true → is_directory_block disk slot i n ≡ true
  directory_right i n low object below names =
      let all = append_none (joined (list_fault disk slot i) 3 ++ map_fault disk slot i) (joined (directory_fault disk slot i) (entry_blocks (anode_page disk slot i))) (blocks_none i low object) in
      let one = part_none (directory_fault disk slot i) (entry_blocks (anode_page disk slot i)) n below all.1 in
      is_right (is_directory_block disk slot i n) (block_place disk (entry_pointer disk slot i n)) rules.DirectoryBlock
      (sym (cond-true (names_block disk (entry_pointer disk slot i n)) (unless (is_directory_block disk slot i n) (block_place disk (entry_pointer disk slot i n)) rules.DirectoryBlock) [] names) ∙ one)

  -- and so does one that is named as that of a list, or as an indirect one
  pub list_right : (i w : ℕ) → i < 64 → is_object (anode_page disk slot i) ≡ true → w < 3
      → names_block disk (pointer_of (node_at disk slot i) w) ≡ true → is_some (list_in (block_under disk (pointer_of (node_at disk slot i) w))) ≡ true
  list_right i w low object below names =
      let all = append_none (joined (list_fault disk slot i) 3 ++ map_fault disk slot i) (joined (directory_fault disk slot i) (entry_blocks (anode_page disk slot i))) (blocks_none i low object) in
      let lists = append_none (joined (list_fault disk slot i) 3) (map_fault disk slot i) all.0 in
      let pointer : ℕ = pointer_of (node_at disk slot i) w in
      is_right (is_some (list_in (block_under disk pointer))) (block_place disk pointer) rules.ListBlock
      (sym (cond-true (names_block disk pointer) (unless (is_some (list_in (block_under disk pointer))) (block_place disk pointer) rules.ListBlock) [] names) ∙ part_none (list_fault disk slot i) 3 w below lists.0)

  abbrev pub map_test : ℕ → Bool
  map_test i = is_map disk.blocks (byte_at (anode_page disk slot i) 0 == 1) (bytes_in (anode_page disk slot i)) (node_at disk slot i).map

  pub map_right : (i : ℕ) → i < 64 → is_object (anode_page disk slot i) ≡ true → names_block disk (pointer_of (node_at disk slot i) 15) ≡ true → map_test i ≡ true
  map_right i low object names =
      let all = append_none (joined (list_fault disk slot i) 3 ++ map_fault disk slot i) (joined (directory_fault disk slot i) (entry_blocks (anode_page disk slot i))) (blocks_none i low object) in
      let pointer : ℕ = pointer_of (node_at disk slot i) 15 in
      is_right (map_test i) (block_place disk pointer) rules.IndirectBlock
      (sym (cond-true (names_block disk pointer) (unless (map_test i) (block_place disk pointer) rules.IndirectBlock) [] names)
      ∙ (append_none (joined (list_fault disk slot i) 3) (map_fault disk slot i) all.0).1)

module _ (disk : Aggregate) (clean : faults_in disk ≡ []) (slot : ℕ) (lt : slot < 16) where
  abbrev of_server : List Fault
  of_server = unless (is_server_page (server_page disk)) (page_start 0) rules.ServerPage

  abbrev of_numbers : List Fault
  of_numbers = unless (is_numbers_page (page_of disk 1)) (page_start 1) rules.CallNumbers

  abbrev of_slots : List Fault
  of_slots = joined (slot_faults disk) 16

  abbrev of_reach : List Fault
  of_reach = joined (reach_faults disk) 16

  abbrev of_counts : List Fault
  of_counts = joined (count_fault disk) ((disk.blocks + 255) / 256)

  slots_none : (of_slots ≡ []) × (of_reach ≡ [])
  unfolding faults_in
  slots_none =
      let five = append_none ((((of_server ++ of_numbers) ++ of_slots) ++ of_reach) ++ of_counts) (promise_fault disk) clean in
      let four = append_none (((of_server ++ of_numbers) ++ of_slots) ++ of_reach) of_counts five.0 in
      let three = append_none ((of_server ++ of_numbers) ++ of_slots) of_reach four.0 in
      ((append_none (of_server ++ of_numbers) of_slots three.0).1, three.1)

  counts_none : of_counts ≡ []
  unfolding faults_in
  counts_none =
      let five = append_none ((((of_server ++ of_numbers) ++ of_slots) ++ of_reach) ++ of_counts) (promise_fault disk) clean in
      (append_none (((of_server ++ of_numbers) ++ of_slots) ++ of_reach) of_counts five.0).1

  -- each page of counts is right
  pub count_right : (p : ℕ) → p < (disk.blocks + 255) / 256 → is_count_page disk p ≡ true
  count_right p below = is_right (is_count_page disk p) (page_start (1058 + p)) rules.Count (part_none (count_fault disk) ((disk.blocks + 255) / 256) p below counts_none)

  abbrev of_header : List Fault
  of_header = unless (is_slot_header disk slot) (page_start (header_number slot)) rules.SlotHeader

  abbrev of_calls : List Fault
  of_calls = unless (is_slot_numbers disk slot) (page_start (header_number slot + 1)) rules.CallNumbers

  slot_none : ((of_header ++ of_calls) ≡ []) × (joined (anode_faults disk slot) 64 ≡ [])
  unfolding slot_faults
  slot_none = append_none (of_header ++ of_calls) (joined (anode_faults disk slot) 64) (part_none (slot_faults disk) 16 slot lt slots_none.0)

  pub slot_right : IsRightSlot disk slot
  slot_right = record {
    header = is_right (is_slot_header disk slot) (page_start (header_number slot)) rules.SlotHeader (append_none of_header of_calls slot_none.0).0;
    anodes = slot_none.1;
  }

  pub reach_right : (i : ℕ) → i < 64 → is_whole (state_at disk slot) ≡ true → is_reached_right (links_of disk slot) (i + 1) (anode_page disk slot i) ≡ true
  unfolding reach_faults
  reach_right i low whole =
      let all = sym (cond-true (is_whole (state_at disk slot)) (joined (reach_fault disk slot) 64) [] whole) ∙ part_none (reach_faults disk) 16 slot lt slots_none.1 in
      is_right (is_reached_right (links_of disk slot) (i + 1) (anode_page disk slot i)) (page_start (anode_number slot i)) rules.Reach (part_none (reach_fault disk slot) 64 i low all)
