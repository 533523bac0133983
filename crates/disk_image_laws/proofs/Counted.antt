-- The pointers of an aggregate without faults, as they are judged and as they are kept.
use Rattle.std.proofs.Common.{◌≡◌, ◌≢◌, ◌<◌, ◌≤◌, ◌⊎◌, ℕ, ◌+◌, ◌-◌, ◌*◌, ◌/◌, ◌%◌, List, [], ◌++◌, inl, inr, refl, sym, ◌∙◌, ap, arith}
use Rattle.std.specs.Prelude.{Bool, true, false, ◌==◌, ◌&&◌, ◌||◌, not, if◌then◌else◌, nat_lt, nat_le, count_by}
use Rattle.std.specs.List.{list_any}
use Rattle.std.proofs.lemmas.Bool.{cases_Bool, and_parts, and_from, cond-true, cond-false, false≢true, eqb-true, eq-eqb, ne_eqb, leb-true}
use Rattle.std.proofs.lemmas.Bool.Decides.{nat_tests}
use Rattle.std.proofs.lemmas.List.{get_or-replicate}
use Rattle.base_types.specs.Image.{byte_at}
use Rattle.disk_layout.specs.Numbers.{number_at}
use Rattle.disk_layout.proofs.Bytes.{number-same}
use Rattle.disk_space.specs.Counts.{count_page, count_place}
use Rattle.disk_anode.specs.Node.{pointer_of, is_pointer, map_under, names, names_below, node_of, HasNoBlocks}
use Rattle.disk_anode.specs.Room.{how_many}
use Rattle.disk_anode.specs.declared.node.Node.{Node}
use Rattle.disk_anode.proofs.Cells.{pointer_facts}
use Rattle.disk_anode.proofs.Counting.{same_many, none_many, one_of_many}
use Rattle.disk_anode.proofs.Pointers.{pointer_front, pointer_back}
use Rattle.disk_objects.specs.Holds.{sum_below, is_anode, page_names, indirect_of, map_names, pointers_to}
use Rattle.disk_objects.proofs.Sums.{sum_same, sum_plus}
use Rattle.disk_objects.proofs.Nodes.{map_pointer, names_valid, names_invalid}
use Rattle.disk_pages.specs.Words.{each_below, are_zero}
use Rattle.disk_pages.specs.Anode.{is_object, is_free_page}
use Rattle.disk_image.specs.Joined.{joined, listed, total, some_below}
use Rattle.disk_image.specs.Aggregate.{Aggregate, page_of, anode_page, node_at, names_block}
use Rattle.disk_image.specs.Slots.{is_slot_free}
use Rattle.disk_image.specs.Anodes.{is_slot_anode, is_root_place}
use Rattle.disk_image.specs.Counts.{has_map, is_mapped, page_use, map_use, uses_at, uses_of, is_use_of, times_counted, times_in, is_both, is_count, is_count_place, is_count_page}
use Rattle.disk_image.specs.declared.found.Use.{Use}
use Rattle.disk_image_laws.proofs.Clean.{IsRightSlot, anode_right}
use Rattle.disk_image_laws.proofs.Contents.{object_is, object_page}
use Rattle.disk_image_laws.proofs.Finding.{each_at, some_counted}
use Rattle.disk_image_laws.proofs.Sums.{count_joined, total_one, total_two, joined_one}
use Rattle.disk_image.proofs.Words.{zeros_are}
use Rattle.disk_objects.specs.Objects.{page_for}
use Rattle.disk_objects.proofs.Places.{page_is}
use Rattle.disk_image_laws.proofs.Firsts.{total_sum, count_listed, count_append, some_same, slots_sum, page_at, some_before, is_seen, first_map, maps_sum}

pub number_none : (at : ℕ) (bytes : List ℕ) → ((k : ℕ) → k < 4 → byte_at bytes (at + k) ≡ 0) → number_at 4 at bytes ≡ 0
unfolding number_at
number_none at bytes zeros = number-same 4 at 0 bytes [] zeros ∙ none
  where
    none : number_at 4 0 [] ≡ 0
    none = refl

module _ (disk : Aggregate) (rights : (slot : ℕ) → slot < 16 → IsRightSlot disk slot) where
  abbrev pages : ℕ → List ℕ
  pages p = page_of disk p

  abbrev pub is_free : ℕ → ℕ → Bool
  is_free slot i = byte_at (anode_page disk slot i) 0 == 0

  -- the page of a free anode is zero but for its unique number
  pub free_page : (slot i : ℕ) → slot < 16 → i < 64 → is_free slot i ≡ true → (k : ℕ) → (k < 4) ⊎ (8 ≤ k) → k < 512 → byte_at (anode_page disk slot i) k ≡ 0
  unfolding is_slot_anode is_free_page
  free_page slot i low few free k where_is lt =
      let page : List ℕ = anode_page disk slot i in
      let all = sym (cond-true (is_free slot i) _ _ free) ∙ anode_right disk slot (rights slot low) i few in
      let test = (and_parts (if is_slot_free disk slot then are_zero 0 512 page else (are_zero 0 4 page && are_zero 8 504 page)) (not (is_root_place disk slot i)) all).0 in
      by (is_slot_free disk slot) test where_is
    where
      by : (a : Bool) → (if a then are_zero 0 512 (anode_page disk slot i) else (are_zero 0 4 (anode_page disk slot i) && are_zero 8 504 (anode_page disk slot i))) ≡ true
          → (k < 4) ⊎ (8 ≤ k) → byte_at (anode_page disk slot i) k ≡ 0
      by true zeros either = zeros_are (anode_page disk slot i) 0 512 zeros k (omega arith) (omega (arith, lt))
      by false zeros (inl front) = zeros_are (anode_page disk slot i) 0 4 (and_parts (are_zero 0 4 (anode_page disk slot i)) (are_zero 8 504 (anode_page disk slot i)) zeros).0 k (omega arith) (omega (arith, front))
      by false zeros (inr behind) = zeros_are (anode_page disk slot i) 8 504 (and_parts (are_zero 0 4 (anode_page disk slot i)) (are_zero 8 504 (anode_page disk slot i)) zeros).1 k behind (omega (arith, lt))

  -- and has no pointers
  pub free_map : (slot i : ℕ) → slot < 16 → i < 64 → is_free slot i ≡ true → (k : ℕ) → k < 1024 → byte_at (node_at disk slot i).map k ≡ 0
  free_map slot i low few free k below =
      let zero_pointer : number_at 4 72 (anode_page disk slot i) ≡ 0 = number_none 72 (anode_page disk slot i) (λ j small. free_page slot i low few free (72 + j) (inr (omega arith)) (omega (arith, small))) in
      (λ j. byte_at (map_under disk.blocks disk.image (zero_pointer j)) k) ∙ get_or-replicate 1024 k 0 0 below

  pub free_blocks : (slot i : ℕ) → slot < 16 → i < 64 → is_free slot i ≡ true → HasNoBlocks (node_at disk slot i)
  free_blocks slot i low few free w lt = elim (cases_Bool (nat_lt w 16)) [
    | inl front ↦ at_front w (grind (arith, nat_tests, front))
    | inr back ↦
        let le : 16 ≤ w = grind (arith, nat_tests, back) in
        pointer_back (node_at disk slot i) w le ∙ number_none (4 * (w - 16)) (node_at disk slot i).map (λ k small. free_map slot i low few free (4 * (w - 16) + k) (omega (arith, small, lt, le)))
  ]
    where
      at_front : (w : ℕ) → w < 16 → pointer_of (node_at disk slot i) w ≡ 0
      at_front w below = pointer_front (node_at disk slot i) w below ∙ number_none (12 + 4 * w) (anode_page disk slot i) (λ k small. free_page slot i low few free (12 + 4 * w + k) (inr (omega arith)) (omega (arith, small, below)))

  -- an anode that isn't free is a file or directory
  pub used_object : (slot i : ℕ) → slot < 16 → i < 64 → is_free slot i ≡ false → is_object (anode_page disk slot i) ≡ true
  used_object slot i low few used = (object_page disk slot (rights slot low) i (object_is disk slot (rights slot low) i few used)).object

  free_object : (slot i : ℕ) → is_free slot i ≡ true → is_object (anode_page disk slot i) ≡ false
  free_object slot i free = let e : byte_at (anode_page disk slot i) 0 ≡ 0 = eqb-true (byte_at (anode_page disk slot i) 0) 0 free in λ j. (e j == 1) || (e j == 2)

  pub no_uses : (slot i : ℕ) → is_free slot i ≡ true → uses_at disk slot i ≡ []
  unfolding uses_at
  no_uses slot i free = cond-false (is_object (anode_page disk slot i)) _ [] (free_object slot i free)

  abbrev indirect : ℕ → ℕ
  indirect = indirect_of disk.blocks pages disk.image

  here_is : (slot i : ℕ) → slot < 16 → i < 64 → is_anode (page_at slot i) ≡ true
  here_is slot i low few = (let z : page_at slot i ≡ page_for slot (i + 1) = omega arith in λ j. is_anode (z j)) ∙ page_is slot (i + 1) low (omega arith) (omega (arith, few))

  indirect_at : (slot i : ℕ) → slot < 16 → i < 64 → indirect (page_at slot i) ≡ pointer_of (node_at disk slot i) 15
  indirect_at slot i low few = let on = here_is slot i low few in λ j. if on j then pointer_of (node_at disk slot i) 15 else 0

  -- which indirect blocks are named before
  mapped_is : (slot i pointer : ℕ) → slot < 16 → i < 64 → 1 ≤ pointer → is_mapped disk slot i pointer ≡ is_seen indirect (λ m. 0) disk.blocks pointer (page_at slot i)
  unfolding is_mapped
  mapped_is slot i pointer low few some =
      (λ j. some_same (λ before. some_below (has_map disk pointer before) 64) (λ before. some_below (λ k. indirect (page_at before k) == pointer) 64) slot
      (λ before lt. some_same (has_map disk pointer before) (λ k. indirect (page_at before k) == pointer) 64 (λ k small. same before k (omega (arith, lt, low)) small)) j
      || some_same (has_map disk pointer slot) (λ k. indirect (page_at slot k) == pointer) i (λ k small. same slot k low (omega (arith, small, few))) j)
      ∙ sym (some_before (λ q. indirect q == pointer) off slot i)
    where
      off : (p : ℕ) → is_anode p ≡ false → (indirect p == pointer) ≡ false
      off p e = (let zero_is : (0 == pointer) ≡ false = grind (arith, nat_tests, some) in (λ j. (if e j then pointer_of (node_of disk.blocks disk.image (pages p)) 15 else 0) == pointer) ∙ zero_is)

      same : (before k : ℕ) → before < 16 → k < 64 → has_map disk pointer before k ≡ (indirect (page_at before k) == pointer)
      same before k lt small = elim (cases_Bool (is_free before k)) [
        | inl free ↦
            let none : pointer_of (node_at disk before k) 15 ≡ 0 = free_blocks before k lt small free 15 (omega arith) in
            let zero_is : (0 == pointer) ≡ false = grind (arith, nat_tests, some) in
            (λ j. free_object before k free j && (pointer_of (node_at disk before k) 15 == pointer)) ∙ sym ((λ j. indirect_at before k lt small j == pointer) ∙ (λ j. none j == pointer) ∙ zero_is)
        | inr used ↦ (λ j. used_object before k lt small used j && (pointer_of (node_at disk before k) 15 == pointer)) ∙ sym (λ j. indirect_at before k lt small j == pointer)
      ]

  -- How many uses of an anode pass a test, where it is one of those in its page and one of those in its indirect block.
  module _ (slot i : ℕ) (low : slot < 16) (few : i < 64) (used : is_free slot i ≡ false) where
    abbrev node : Node
    node = node_at disk slot i

    uses_are : uses_at disk slot i ≡ listed (page_use disk slot i) 16 ++ (if names_block disk (pointer_of node 15) then listed (map_use disk slot i) 52 else [])
    unfolding uses_at
    uses_are = cond-true (is_object (anode_page disk slot i)) (listed (page_use disk slot i) 16 ++ (if names_block disk (pointer_of node 15) then listed (map_use disk slot i) 52 else [])) [] (used_object slot i low few used)

    pub count_uses : (test : Use → Bool) → count_by test (uses_at disk slot i)
        ≡ how_many (λ w. test (page_use disk slot i w)) 16 + (if is_pointer disk.blocks (pointer_of node 15) then how_many (λ j. test (map_use disk slot i j)) 52 else 0)
    count_uses test =
        ap (count_by test) uses_are ∙ count_append test (listed (page_use disk slot i) 16) (if names_block disk (pointer_of node 15) then listed (map_use disk slot i) 52 else [])
        ∙ (λ k. count_listed test (page_use disk slot i) 16 k + by (is_pointer disk.blocks (pointer_of node 15)) k)
      where
        by : (a : Bool) → count_by test (if a then listed (map_use disk slot i) 52 else []) ≡ (if a then how_many (λ j. test (map_use disk slot i j)) 52 else 0)
        by true = count_listed test (map_use disk slot i) 52
        by false = refl

    -- the pointers in its page, and in its indirect block
    below_is : (b : ℕ) → how_many (λ w. pointer_of node w == b + 1) 16 ≡ names_below 16 node b
    unfolding names_below
    below_is b = refl

    map_is : (b : ℕ) → is_pointer disk.blocks (pointer_of node 15) ≡ true → how_many (λ j. pointer_of node (16 + j) == b + 1) 52 ≡ map_names disk.blocks disk.image b (pointer_of node 15 - 1)
    map_is b valid =
        let facts = pointer_facts disk.blocks (pointer_of node 15) valid in
        let some = facts.0 in
        let there : pointer_of node 15 ≡ pointer_of node 15 - 1 + 1 = omega (arith, some) in
        same_many (λ j. pointer_of node (16 + j) == b + 1) (λ j. number_at 4 (4 * j) (map_under disk.blocks disk.image (pointer_of node 15 - 1 + 1)) == b + 1) 52
        (λ j lt. (let g = map_pointer disk.blocks disk.image (anode_page disk slot i) (pointer_of node 15 - 1) j there in λ k. sym g k == b + 1))

    -- those that name a block
    pub names_are : (b : ℕ) → names_below 16 node b + (if is_pointer disk.blocks (pointer_of node 15) then how_many (λ j. pointer_of node (16 + j) == b + 1) 52 else 0) ≡ names node b
    names_are b = by (is_pointer disk.blocks (pointer_of node 15)) refl
      where
        by : (a : Bool) → is_pointer disk.blocks (pointer_of node 15) ≡ a → names_below 16 node b + (if a then how_many (λ j. pointer_of node (16 + j) == b + 1) 52 else 0) ≡ names node b
        by true e =
            let facts = pointer_facts disk.blocks (pointer_of node 15) e in
            let some = facts.0 in
            let there : pointer_of node 15 ≡ pointer_of node 15 - 1 + 1 = omega (arith, some) in
            let a = names_valid disk.blocks disk.image (anode_page disk slot i) (pointer_of node 15 - 1) b there in
            let c = map_is b e in
            omega (arith, a, c)
        by false e = let a = names_invalid disk.blocks disk.image (anode_page disk slot i) b e in omega (arith, a)

    -- counted ones
    counted_here : (b : ℕ) → count_by (λ one. is_use_of b one && one.is_counted) (uses_at disk slot i)
        ≡ names_below 16 node b + (if is_pointer disk.blocks (pointer_of node 15) && not (is_mapped disk slot i (pointer_of node 15)) then map_names disk.blocks disk.image b (pointer_of node 15 - 1) else 0)
    counted_here b =
        count_uses (λ one. is_use_of b one && one.is_counted)
        ∙ (λ k. (same_many (λ w. (pointer_of node w == b + 1) && true) (λ w. pointer_of node w == b + 1) 16 (λ w lt. and_true (pointer_of node w == b + 1)) ∙ below_is b) k
        + by (is_pointer disk.blocks (pointer_of node 15)) refl (is_mapped disk slot i (pointer_of node 15)) k)
      where
        and_true : (a : Bool) → (a && true) ≡ a
        and_true true = refl
        and_true false = refl

        and_false : (a : Bool) → (a && false) ≡ false
        and_false true = refl
        and_false false = refl

        by : (a : Bool) → is_pointer disk.blocks (pointer_of node 15) ≡ a → (mapped : Bool)
            → (if a then how_many (λ j. (pointer_of node (16 + j) == b + 1) && not mapped) 52 else 0) ≡ (if a && not mapped then map_names disk.blocks disk.image b (pointer_of node 15 - 1) else 0)
        by true e true = none_many (λ j. (pointer_of node (16 + j) == b + 1) && false) 52 (λ j lt. and_false (pointer_of node (16 + j) == b + 1))
        by true e false = same_many (λ j. (pointer_of node (16 + j) == b + 1) && true) (λ j. pointer_of node (16 + j) == b + 1) 52 (λ j lt. and_true (pointer_of node (16 + j) == b + 1)) ∙ map_is b e
        by false e mapped = refl

    -- those of one slot
    pub slot_here : (b : ℕ) → count_by (λ one. is_use_of b one && (one.slot == slot)) (uses_at disk slot i) ≡ names node b
    slot_here b =
        count_uses (λ one. is_use_of b one && (one.slot == slot))
        ∙ (λ k. (same_many (λ w. (pointer_of node w == b + 1) && (slot == slot)) (λ w. pointer_of node w == b + 1) 16 (λ w lt. own (pointer_of node w == b + 1)) ∙ below_is b) k
        + (if is_pointer disk.blocks (pointer_of node 15) then same_many (λ j. (pointer_of node (16 + j) == b + 1) && (slot == slot)) (λ j. pointer_of node (16 + j) == b + 1) 52 (λ j lt. own (pointer_of node (16 + j) == b + 1)) k else 0))
        ∙ names_are b
      where
        own : (a : Bool) → (a && (slot == slot)) ≡ a
        own a = (λ k. a && eq-eqb slot slot refl k) ∙ by a
          where
            by : (a : Bool) → (a && true) ≡ a
            by true = refl
            by false = refl

  -- The pointers that are counted: in its page those of an anode, and in its indirect block where it is the first to have it.
  abbrev counted_in : ℕ → ℕ → ℕ
  counted_in b p = page_names disk.blocks pages disk.image b p + first_map indirect (map_names disk.blocks disk.image b) disk.blocks p

  counted_at : (b slot i : ℕ) → slot < 16 → i < 64 → count_by (λ one. is_use_of b one && one.is_counted) (uses_at disk slot i) ≡ counted_in b (page_at slot i)
  unfolding uses_at names_below
  counted_at b slot i low few = elim (cases_Bool (is_free slot i)) [
    | inl free ↦ free_here free
    | inr used ↦ used_here used
  ]
    where
      on : is_anode (page_at slot i) ≡ true
      on = here_is slot i low few

      node : Node
      node = node_at disk slot i

      front : page_names disk.blocks pages disk.image b (page_at slot i) ≡ names_below 16 (node_at disk slot i) b
      front = λ k. if on k then names_below 16 (node_at disk slot i) b else 0

      free_here : is_free slot i ≡ true → count_by (λ one. is_use_of b one && one.is_counted) (uses_at disk slot i) ≡ counted_in b (page_at slot i)
      free_here free =
          let none : how_many (λ w. pointer_of (node_at disk slot i) w == b + 1) 16 ≡ 0 = none_many (λ w. pointer_of (node_at disk slot i) w == b + 1) 16
          (λ w lt. (let e = free_blocks slot i low few free w (omega (arith, lt)) in let off : (0 == b + 1) ≡ false = grind (arith, nat_tests) in (λ k. e k == b + 1) ∙ off)) in
          let zero_map : first_map indirect (map_names disk.blocks disk.image b) disk.blocks (page_at slot i) ≡ 0 =
          (let e : indirect (page_at slot i) ≡ 0 = indirect_at slot i low few ∙ free_blocks slot i low few free 15 (omega arith) in
          λ k. if is_pointer disk.blocks (e k) && not (is_seen indirect (map_names disk.blocks disk.image b) disk.blocks (e k) (page_at slot i)) then map_names disk.blocks disk.image b (e k - 1) else 0) in
          ap (count_by (λ one. is_use_of b one && one.is_counted)) (no_uses slot i free) ∙ (let f = front in omega (arith, none, zero_map, f))

      used_here : is_free slot i ≡ false → count_by (λ one. is_use_of b one && one.is_counted) (uses_at disk slot i) ≡ counted_in b (page_at slot i)
      used_here used =
          counted_here slot i low few used b
          ∙ (λ k. sym front k + by (is_pointer disk.blocks (pointer_of (node_at disk slot i) 15)) refl k)
        where
          by : (a : Bool) → is_pointer disk.blocks (pointer_of (node_at disk slot i) 15) ≡ a
              → (if a && not (is_mapped disk slot i (pointer_of (node_at disk slot i) 15)) then map_names disk.blocks disk.image b (pointer_of (node_at disk slot i) 15 - 1) else 0)
              ≡ first_map indirect (map_names disk.blocks disk.image b) disk.blocks (page_at slot i)
          by true e =
              let there = indirect_at slot i low few in
              let facts = pointer_facts disk.blocks (pointer_of (node_at disk slot i) 15) e in
              (λ k. if sym e k && not (mapped_is slot i (pointer_of (node_at disk slot i) 15) low few facts.0 k) then map_names disk.blocks disk.image b (pointer_of (node_at disk slot i) 15 - 1) else 0)
              ∙ (λ k. if is_pointer disk.blocks (sym there k) && not (is_seen indirect (map_names disk.blocks disk.image b) disk.blocks (sym there k) (page_at slot i)) then map_names disk.blocks disk.image b (sym there k - 1) else 0)
          by false e =
              let there = indirect_at slot i low few in
              sym ((λ k. if is_pointer disk.blocks (there k) && not (is_seen indirect (map_names disk.blocks disk.image b) disk.blocks (there k) (page_at slot i)) then map_names disk.blocks disk.image b (there k - 1) else 0)
              ∙ (λ k. if e k && not (is_seen indirect (map_names disk.blocks disk.image b) disk.blocks (pointer_of (node_at disk slot i) 15) (page_at slot i)) then map_names disk.blocks disk.image b (pointer_of (node_at disk slot i) 15 - 1) else 0))

  -- As many pointers to a block are counted as there are.
  pub counted_are : (b : ℕ) → times_counted (uses_of disk) b ≡ pointers_to disk.blocks pages disk.image b
  counted_are b =
      let test : Use → Bool = λ one. is_use_of b one && one.is_counted in
      count_joined test (λ slot. joined (uses_at disk slot) 64) 16
      ∙ total_sum (λ slot. count_by test (joined (uses_at disk slot) 64)) 16
      ∙ sum_same (λ slot. count_by test (joined (uses_at disk slot) 64)) (λ slot. sum_below (λ i. counted_in b (page_at slot i)) 64) 16
      (λ slot low. count_joined test (uses_at disk slot) 64 ∙ total_sum (λ i. count_by test (uses_at disk slot i)) 64
      ∙ sum_same (λ i. count_by test (uses_at disk slot i)) (λ i. counted_in b (page_at slot i)) 64 (λ i few. counted_at b slot i low few))
      ∙ sym (slots_sum (counted_in b) off 16)
      ∙ sum_plus (page_names disk.blocks pages disk.image b) (first_map indirect (map_names disk.blocks disk.image b) disk.blocks) 1058
      ∙ (λ k. sum_below (page_names disk.blocks pages disk.image b) 1058 + sym (maps_sum indirect (map_names disk.blocks disk.image b) disk.blocks) k)
    where
      off : (p : ℕ) → is_anode p ≡ false → counted_in b p ≡ 0
      off p e =
          let front : page_names disk.blocks pages disk.image b p ≡ 0 = (λ k. if e k then names_below 16 (node_of disk.blocks disk.image (pages p)) b else 0) in
          let none : indirect p ≡ 0 = (λ k. if e k then pointer_of (node_of disk.blocks disk.image (pages p)) 15 else 0) in
          let map : first_map indirect (map_names disk.blocks disk.image b) disk.blocks p ≡ 0 =
          (λ k. if is_pointer disk.blocks (none k) && not (is_seen indirect (map_names disk.blocks disk.image b) disk.blocks (none k) p) then map_names disk.blocks disk.image b (none k - 1) else 0) in
          omega (arith, front, map)

  -- where the pages of counts are right
  module _ (right : (p : ℕ) → p < (disk.blocks + 255) / 256 → is_count_page disk p ≡ true) where
    -- the count of a block
    count_facts : (b : ℕ) → b < disk.blocks → is_count (uses_of disk) b (number_at 2 (count_place b) (page_of disk (count_page b))) ≡ true
    unfolding is_count_page is_count_place
    count_facts b lt =
        let p : ℕ = b / 256 in
        let k : ℕ = b % 256 in
        let z : 256 * p + k ≡ b = omega arith in
        let inside : nat_lt (256 * p + k) disk.blocks ≡ true = (let le : 256 * p + k < disk.blocks = omega (arith, z, lt) in grind (arith, nat_tests, le)) in
        let one = each_at (is_count_place disk p) 256 k (right p (omega (arith, lt))) (omega arith) in
        (λ j. is_count (uses_of disk) (sym z j) (number_at 2 (2 * k) (page_of disk (1058 + p)))) ∙ sym (cond-true (nat_lt (256 * p + k) disk.blocks) (is_count (uses_of disk) (256 * p + k) (number_at 2 (2 * k) (page_of disk (1058 + p)))) _ inside) ∙ one

    record IsCounted (b : ℕ) : Type 0 where
      pub counted : times_counted (uses_of disk) b ≡ number_at 2 (count_place b) (page_of disk (count_page b))
      pub once : (slot : ℕ) → slot < 16 → times_in (uses_of disk) slot b ≤ 1
      pub apart : is_both (uses_of disk) b ≡ false

    facts_of : (b : ℕ) → b < disk.blocks → IsCounted b
    unfolding is_count
    facts_of b lt =
        let count : ℕ = number_at 2 (count_place b) (page_of disk (count_page b)) in
        let a = and_parts ((times_counted (uses_of disk) b == count) && each_below (λ slot. nat_le (times_in (uses_of disk) slot b) 1) 16) (not (is_both (uses_of disk) b)) (count_facts b lt) in
        let c = and_parts (times_counted (uses_of disk) b == count) (each_below (λ slot. nat_le (times_in (uses_of disk) slot b) 1) 16) a.0 in
        record {
          counted = eqb-true (times_counted (uses_of disk) b) count c.0;
          once = λ slot low. leb-true (times_in (uses_of disk) slot b) 1 (each_at (λ slot. nat_le (times_in (uses_of disk) slot b) 1) 16 slot c.1 low);
          apart = not_so (is_both (uses_of disk) b) a.1;
        }
      where
        not_so : (a : Bool) → not a ≡ true → a ≡ false
        not_so true e = absurd (false≢true e)
        not_so false e = refl

    -- counts are those of the pointers
    pub counts_hold : (b : ℕ) → b < disk.blocks → number_at 2 (count_place b) (pages (count_page b)) ≡ pointers_to disk.blocks pages disk.image b
    counts_hold b lt = sym (facts_of b lt).counted ∙ counted_are b

    -- no two pointers of a slot name one block
    in_slot : (slot b : ℕ) → slot < 16 → total (λ i. count_by (λ one. is_use_of b one && (one.slot == slot)) (uses_at disk slot i)) 64 ≤ times_in (uses_of disk) slot b
    in_slot slot b low =
        let test : Use → Bool = λ one. is_use_of b one && (one.slot == slot) in
        let e = count_joined test (uses_at disk slot) 64 in
        joined_one test (λ s. joined (uses_at disk s) 64) 16 slot (total (λ i. count_by test (uses_at disk slot i)) 64) low (omega (arith, e))

    names_here : (slot i b : ℕ) → slot < 16 → i < 64 → names (node_at disk slot i) b ≤ count_by (λ one. is_use_of b one && (one.slot == slot)) (uses_at disk slot i)
    unfolding names
    names_here slot i b low few = elim (cases_Bool (is_free slot i)) [
      | inl free ↦ (let none = no_names (node_at disk slot i) (free_blocks slot i low few free) in omega (arith, none))
      | inr used ↦ (let e = slot_here slot i low few used b in omega (arith, e))
    ]
      where
        no_names : (node : Node) → HasNoBlocks node → names node b ≡ 0
        no_names node none = none_many (λ w. pointer_of node w == b + 1) 68 (λ w lt. (let e = none w lt in let off : (0 == b + 1) ≡ false = grind (arith, nat_tests) in (λ k. e k == b + 1) ∙ off))

    pub once_holds : (slot i b : ℕ) → slot < 16 → i < 64 → b < disk.blocks → names (node_at disk slot i) b ≤ 1
    once_holds slot i b low few lt =
        let a = names_here slot i b low few in
        let c = total_one (λ k. count_by (λ one. is_use_of b one && (one.slot == slot)) (uses_at disk slot k)) 64 i few in
        let d = in_slot slot b low in
        let e = (facts_of b lt).once slot low in
        omega (arith, a, c, d, e)

    -- nor two anodes of one
    pub slot_apart : (slot i j b : ℕ) → slot < 16 → i < 64 → j < 64 → i ≢ j → b < disk.blocks → names (node_at disk slot i) b + names (node_at disk slot j) b ≤ 1
    slot_apart slot i j b low few few_j apart lt =
        let a = names_here slot i b low few in
        let f = names_here slot j b low few_j in
        let c = total_two (λ k. count_by (λ one. is_use_of b one && (one.slot == slot)) (uses_at disk slot k)) 64 i j few few_j apart in
        let d = in_slot slot b low in
        let e = (facts_of b lt).once slot low in
        omega (arith, a, f, c, d, e)

    -- an indirect block is none else
    some_use : (test : Use → Bool) (slot i : ℕ) → slot < 16 → i < 64 → 1 ≤ count_by test (uses_at disk slot i) → list_any test (uses_of disk) ≡ true
    some_use test slot i low few some =
        some_counted test (uses_of disk) (joined_one test (λ s. joined (uses_at disk s) 64) 16 slot 1 low (joined_one test (uses_at disk slot) 64 i 1 few some))

    used_pointer : (slot i w b : ℕ) → slot < 16 → i < 64 → w < 68 → pointer_of (node_at disk slot i) w ≡ b + 1 → is_free slot i ≡ false
    used_pointer slot i w b low few lt is = elim (cases_Bool (is_free slot i)) [
      | inl free ↦ absurd (let none = free_blocks slot i low few free w lt in omega (arith, none, is))
      | inr used ↦ used
    ]

    pub apart_holds : (s i t j w b : ℕ) → s < 16 → i < 64 → t < 16 → j < 64 → b < disk.blocks → pointer_of (node_at disk s i) 15 ≡ b + 1
        → w < 68 → w ≢ 15 → pointer_of (node_at disk t j) w ≡ b + 1 → ⊥
    apart_holds s i t j w b low few low_t few_j lt map_is below other is =
        false≢true (sym (facts_of b lt).apart ∙ and_from (list_any (λ one. is_use_of b one && one.is_map) (uses_of disk)) (list_any (λ one. is_use_of b one && not one.is_map) (uses_of disk)) as_map as_other)
      where
        as_map : list_any (λ one. is_use_of b one && one.is_map) (uses_of disk) ≡ true
        as_map =
            let test : Use → Bool = λ one. is_use_of b one && one.is_map in
            let e = count_uses s i low few (used_pointer s i 15 b low few (omega arith) map_is) test in
            let on : (pointer_of (node_at disk s i) 15 == b + 1) ≡ true = eq-eqb (pointer_of (node_at disk s i) 15) (b + 1) map_is in
            let f = one_of_many (λ v. test (page_use disk s i v)) 15 16 (omega arith) (λ k. on k && (15 == 15)) in
            some_use test s i low few (omega (arith, e, f))

        as_other : list_any (λ one. is_use_of b one && not one.is_map) (uses_of disk) ≡ true
        as_other =
            let test : Use → Bool = λ one. is_use_of b one && not one.is_map in
            let e = count_uses t j low_t few_j (used_pointer t j w b low_t few_j below is) test in
            elim (cases_Bool (nat_lt w 16)) [
              | inl front ↦
                  let under : w < 16 = grind (arith, nat_tests, front) in
                  let on : (pointer_of (node_at disk t j) w == b + 1) ≡ true = eq-eqb (pointer_of (node_at disk t j) w) (b + 1) is in
                  let off : (w == 15) ≡ false = ne_eqb w 15 other in
                  let f = one_of_many (λ v. test (page_use disk t j v)) w 16 under (λ k. on k && not (off k)) in
                  some_use test t j low_t few_j (omega (arith, e, f))
              | inr back ↦
                  let le : 16 ≤ w = grind (arith, nat_tests, back) in
                  let on : (pointer_of (node_at disk t j) (16 + (w - 16)) == b + 1) ≡ true = eq-eqb (pointer_of (node_at disk t j) (16 + (w - 16))) (b + 1) ((let z : 16 + (w - 16) ≡ w = omega (arith, le) in ap (pointer_of (node_at disk t j)) z) ∙ is) in
                  let f = one_of_many (λ v. test (map_use disk t j v)) (w - 16) 52 (omega (arith, below, le)) (λ k. on k && true) in
                  let valid = map_there le in
                  let g : (if is_pointer disk.blocks (pointer_of (node_at disk t j) 15) then how_many (λ v. test (map_use disk t j v)) 52 else 0) ≡ how_many (λ v. test (map_use disk t j v)) 52 = (λ k. if valid k then how_many (λ v. test (map_use disk t j v)) 52 else 0) in
                  some_use test t j low_t few_j (omega (arith, e, f, g))
            ]
          where
            map_there : 16 ≤ w → is_pointer disk.blocks (pointer_of (node_at disk t j) 15) ≡ true
            map_there le = elim (cases_Bool (is_pointer disk.blocks (pointer_of (node_at disk t j) 15))) [
              | inl valid ↦ valid
              | inr off ↦
                  let front : number_at 4 72 (anode_page disk t j) ≡ pointer_of (node_at disk t j) 15 = sym (pointer_front (node_at disk t j) 15 (omega arith)) in
                  let none : pointer_of (node_at disk t j) w ≡ 0 = pointer_back (node_at disk t j) w le ∙ number_none (4 * (w - 16)) (node_at disk t j).map
                  (λ k small. (λ m. byte_at (map_under disk.blocks disk.image (front m)) (4 * (w - 16) + k)) ∙ zeros (pointer_of (node_at disk t j) 15) off (4 * (w - 16) + k) (omega (arith, small, below, le))) in
                  absurd (omega (arith, none, is))
            ]
              where
                zeros : (pointer : ℕ) → is_pointer disk.blocks pointer ≡ false → (k : ℕ) → k < 1024 → byte_at (map_under disk.blocks disk.image pointer) k ≡ 0
                zeros pointer off k small = ap (λ (l : List ℕ). byte_at l k) (cond-false (is_pointer disk.blocks pointer) _ _ off) ∙ get_or-replicate 1024 k 0 0 small

    -- counts of no block are zero
    pub tail_holds : (b : ℕ) → disk.blocks ≤ b → b < 256 * ((disk.blocks + 255) / 256) → number_at 2 (count_place b) (page_of disk (count_page b)) ≡ 0
    unfolding is_count_page is_count_place
    tail_holds b past lt =
        let p : ℕ = b / 256 in
        let k : ℕ = b % 256 in
        let z : 256 * p + k ≡ b = omega arith in
        let outside : nat_lt (256 * p + k) disk.blocks ≡ false = (let le : disk.blocks ≤ 256 * p + k = omega (arith, z, past) in grind (arith, nat_tests, le)) in
        let one = each_at (is_count_place disk p) 256 k (right p (omega (arith, lt))) (omega arith) in
        eqb-true (number_at 2 (2 * k) (page_of disk (1058 + p))) 0 (sym (cond-false (nat_lt (256 * p + k) disk.blocks) (is_count (uses_of disk) (256 * p + k) (number_at 2 (2 * k) (page_of disk (1058 + p)))) _ outside) ∙ one)
