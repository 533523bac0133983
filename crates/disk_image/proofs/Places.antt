-- Each fault lies where its rule says.
use Rattle.std.proofs.Common.{◌≡◌, ◌<◌, ◌≤◌, ℕ, zero, suc, ◌+◌, ◌-◌, ◌*◌, ◌/◌, List, [], ◌∷◌, ◌++◌, inl, inr, refl, sym, ◌∙◌, ap, arith, ◌⊎◌}
use Rattle.std.specs.Prelude.{Bool, true, false, ◌&&◌, ◌==◌, nat_lt, nat_le, is_some, if◌then◌else◌}
use Rattle.std.specs.List.{AllByRecursion}
use Rattle.std.proofs.lemmas.Bool.{and_parts, cases_Bool, ltb-true, leb-true}
use Rattle.base_types.specs.Image.{byte_at}
use Rattle.disk_layout.specs.Places.{page_start, block_start, pages_of}
use Rattle.disk_anode.specs.Node.{pointer_of}
use Rattle.disk_pages.specs.Anode.{is_object, bytes_in}
use Rattle.disk_pages.specs.Blocks.{is_map}
use Rattle.disk_pages.specs.Numbers.{is_numbers_page}
use Rattle.disk_pages.specs.Server.{is_server_page}
use Rattle.disk_image.specs.Lists.{list_in}
use Rattle.disk_image.specs.Joined.{joined}
use Rattle.disk_image.specs.Aggregate.{Aggregate, server_page, page_of, anode_page, node_at, header_number, anode_number, block_under, block_place, names_block}
use Rattle.disk_image.specs.Slots.{state_at, is_whole, is_slot_header, is_slot_numbers}
use Rattle.disk_image.specs.Anodes.{unless, unless_block, is_slot_anode, list_fault, map_fault, directory_fault, block_faults, anode_faults, entry_pointer, entry_blocks, is_directory_block}
use Rattle.disk_image.specs.Reach.{is_reached_right, links_of, reach_fault, reach_faults}
use Rattle.disk_image.specs.Counts.{is_count_page, count_fault, promise_fault, promises, capacity_of}
use Rattle.disk_image.specs.Faults.{slot_faults, faults_in}
use Rattle.disk_image.specs.Laws.{Lies, LiesIn, IsBlockPlace}
use Rattle.disk_image.specs.declared.fault.Fault.{Fault}
use Rattle.disk_image.specs.declared.fault.Rule.{Rule}
use Rattle.disk_image.specs.declared.fault.Rule.TheVariants as rules

both : {A : Type 0} (P : A → Type 0) (xs ys : List A) → AllByRecursion P xs → AllByRecursion P ys → AllByRecursion P (xs ++ ys)
both P [] ys front back = back
both P (x ∷ xs) ys front back = (front.0, both P xs ys front.1 back)

each : {A : Type 0} (P : A → Type 0) (part : ℕ → List A) (n : ℕ) → ((k : ℕ) → k < n → AllByRecursion P (part k)) → AllByRecursion P (joined part n)
unfolding joined
each P part zero all = tt
each P part (suc n) all = both P (joined part n) (part n) (each P part n (λ k lt. all k (omega arith))) (all n (omega arith))

module _ (disk : Aggregate) where
  abbrev All : List Fault → Type 0
  All faults = AllByRecursion (Lies disk.blocks) faults

  at : (test : Bool) (place : ℕ) (rule : Rule) → LiesIn disk.blocks rule place → All (unless test place rule)
  at true place rule lies = tt
  at false place rule lies = (lies, tt)

  is_place : (pointer : ℕ) → names_block disk pointer ≡ true → IsBlockPlace disk.blocks (block_place disk pointer)
  is_place pointer names =
      let parts = and_parts (nat_lt 0 pointer) (nat_le pointer disk.blocks) names in
      let some = ltb-true 0 pointer parts.0 in
      let there = leb-true pointer disk.blocks parts.1 in
      (pointer - 1, omega (arith, some, there), refl)

  at_block : (pointer : ℕ) (test : Bool) (rule : Rule) → ((place : ℕ) → IsBlockPlace disk.blocks place → LiesIn disk.blocks rule place) → All (unless_block disk pointer test rule)
  at_block pointer test rule lies = by (names_block disk pointer) refl
    where
      by : (names : Bool) → names_block disk pointer ≡ names → All (if names then unless test (block_place disk pointer) rule else [])
      by true is = at test (block_place disk pointer) rule (lies (block_place disk pointer) (is_place pointer is))
      by false is = tt

  if_all : (test : Bool) (faults : List Fault) → All faults → All (if test then faults else [])
  if_all true faults all = all
  if_all false faults all = tt

  of_blocks : (slot i : ℕ) → All (block_faults disk slot i)
  of_blocks slot i =
      both (Lies disk.blocks) (joined (list_fault disk slot i) 3 ++ map_fault disk slot i) (joined (directory_fault disk slot i) (entry_blocks (anode_page disk slot i)))
      (both (Lies disk.blocks) (joined (list_fault disk slot i) 3) (map_fault disk slot i)
      (each (Lies disk.blocks) (list_fault disk slot i) 3 (λ w lt. at_block (pointer_of (node_at disk slot i) w) (is_some (list_in (block_under disk (pointer_of (node_at disk slot i) w)))) rules.ListBlock (λ place is. is)))
      (at_block (pointer_of (node_at disk slot i) 15) (is_map disk.blocks (byte_at (anode_page disk slot i) 0 == 1) (bytes_in (anode_page disk slot i)) (node_at disk slot i).map) rules.IndirectBlock (λ place is. is)))
      (each (Lies disk.blocks) (directory_fault disk slot i) (entry_blocks (anode_page disk slot i)) (λ n lt. at_block (entry_pointer disk slot i n) (is_directory_block disk slot i n) rules.DirectoryBlock (λ place is. is)))

  of_anode : (slot i : ℕ) → slot < 16 → i < 64 → All (anode_faults disk slot i)
  unfolding anode_faults
  of_anode slot i there in_slot =
      both (Lies disk.blocks) (unless (is_slot_anode disk slot i) (page_start (anode_number slot i)) rules.Anode) (if is_object (anode_page disk slot i) then block_faults disk slot i else [])
      (at (is_slot_anode disk slot i) (page_start (anode_number slot i)) rules.Anode (slot, i, there, in_slot, refl)) (if_all (is_object (anode_page disk slot i)) (block_faults disk slot i) (of_blocks slot i))

  of_slot : (slot : ℕ) → slot < 16 → All (slot_faults disk slot)
  unfolding slot_faults
  of_slot slot there =
      both (Lies disk.blocks) (unless (is_slot_header disk slot) (page_start (header_number slot)) rules.SlotHeader ++ unless (is_slot_numbers disk slot) (page_start (header_number slot + 1)) rules.CallNumbers) (joined (anode_faults disk slot) 64)
      (both (Lies disk.blocks) (unless (is_slot_header disk slot) (page_start (header_number slot)) rules.SlotHeader) (unless (is_slot_numbers disk slot) (page_start (header_number slot + 1)) rules.CallNumbers)
      (at (is_slot_header disk slot) (page_start (header_number slot)) rules.SlotHeader (slot, there, refl))
      (at (is_slot_numbers disk slot) (page_start (header_number slot + 1)) rules.CallNumbers (inr (slot, there, refl))))
      (each (Lies disk.blocks) (anode_faults disk slot) 64 (λ i lt. of_anode slot i there lt))

  of_reach : (slot : ℕ) → slot < 16 → All (reach_faults disk slot)
  unfolding reach_faults
  of_reach slot there = if_all (is_whole (state_at disk slot)) (joined (reach_fault disk slot) 64)
      (each (Lies disk.blocks) (reach_fault disk slot) 64 (λ i lt. at (is_reached_right (links_of disk slot) (i + 1) (anode_page disk slot i)) (page_start (anode_number slot i)) rules.Reach (slot, i, there, lt, refl)))

  abbrev of_server : List Fault
  of_server = unless (is_server_page (server_page disk)) (page_start 0) rules.ServerPage ++ unless (is_numbers_page (page_of disk 1)) (page_start 1) rules.CallNumbers

  abbrev of_slots : List Fault
  of_slots = of_server ++ joined (slot_faults disk) 16

  abbrev with_reach : List Fault
  with_reach = of_slots ++ joined (reach_faults disk) 16

  abbrev counts : List Fault
  counts = joined (count_fault disk) ((disk.blocks + 255) / 256)

  pub all_lie : All (faults_in disk)
  unfolding faults_in
  all_lie =
      both (Lies disk.blocks) (with_reach ++ counts) (promise_fault disk)
      (both (Lies disk.blocks) with_reach counts
      (both (Lies disk.blocks) of_slots (joined (reach_faults disk) 16)
      (both (Lies disk.blocks) of_server (joined (slot_faults disk) 16)
      (both (Lies disk.blocks) (unless (is_server_page (server_page disk)) (page_start 0) rules.ServerPage) (unless (is_numbers_page (page_of disk 1)) (page_start 1) rules.CallNumbers)
      (at (is_server_page (server_page disk)) (page_start 0) rules.ServerPage refl) (at (is_numbers_page (page_of disk 1)) (page_start 1) rules.CallNumbers (inl refl)))
      (each (Lies disk.blocks) (slot_faults disk) 16 of_slot))
      (each (Lies disk.blocks) (reach_faults disk) 16 of_reach))
      (each (Lies disk.blocks) (count_fault disk) ((disk.blocks + 255) / 256) (λ p lt. at (is_count_page disk p) (page_start (1058 + p)) rules.Count (p, lt, refl))))
      (at (nat_le (promises disk) (capacity_of disk)) 0 rules.Promises refl)
