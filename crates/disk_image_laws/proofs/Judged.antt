-- Anodes that are kept have no faults.
use Rattle.std.proofs.Common.{◌≡◌, ◌<◌, ◌≤◌, ◌⊎◌, ℕ, zero, suc, ◌+◌, ◌-◌, ◌*◌, ◌/◌, ◌%◌, List, [], ◌∷◌, ◌++◌, length, get_or, inl, inr, refl, sym, subst, ◌∙◌, ap, arith}
use Rattle.std.specs.Prelude.{Bool, true, false, IsTrue, ◌==◌, ◌&&◌, ◌||◌, not, if◌then◌else◌, nat_lt, nat_le, min, Option, Some, None, IfSome, is_some, slice_get}
use Rattle.std.specs.Option.{option_map_or}
use Rattle.std.specs.List.{list_all}
use Rattle.std.proofs.lemmas.Bool.{cases_Bool, cases_eq, cases_lt, and_parts, and_from, cond-true, cond-false, false≢true, eqb-true, eq-eqb, leb-true, le-leb, lt-ltb}
use Rattle.std.proofs.lemmas.Bool.Decides.{nat_tests}
use Rattle.std.proofs.lemmas.List.{get_or-drop}
use Rattle.base_types.specs.Image.{byte_at}
use Rattle.base_types.specs.Name.{is_name, is_before}
use Rattle.base_types.specs.declared.access.AccessEntry.{AccessEntry}
use Rattle.tree_calls.specs.declared.part.DirEntry.{DirEntry}
use Rattle.base_outside.proofs.Image.{length-bytes_from}
use Rattle.tree_objects.specs.Objects.{is_dir}
use Rattle.tree_objects.specs.declared.content.Anode.{Anode}
use Rattle.tree_objects.specs.declared.content.Content.{Content}
use Rattle.tree_objects.specs.declared.content.Content.TheVariants.{Dir, File}
use Rattle.tree_objects.specs.declared.content.Object.{Object}
use Rattle.tree_filesets.specs.Laws.{lists_in}
use Rattle.disk_layout.specs.Numbers.{number_at}
use Rattle.disk_layout.specs.Places.{page_start}
use Rattle.disk_anode.specs.Anode.{anode_of as kept_at, text_at, IsTidy}
use Rattle.disk_anode.specs.Node.{pointer_of, pointer_at, is_pointer, cell, HasNoBlocks}
use Rattle.disk_anode.specs.declared.node.Node.{Node}
use Rattle.disk_anode.proofs.Cells.{cell_none}
use Rattle.disk_anode.proofs.Pointers.{pointer_front, pointer_back}
use Rattle.disk_lists.specs.Entries.{bytes_of, entry_bytes as one_bytes, EachFits, name_in}
use Rattle.disk_lists.proofs.Laid.{name_short, short_entry, all_at}
use Rattle.disk_lists.proofs.Places.{rise_in, some_at}
use Rattle.disk_objects.specs.Holds.{is_anode, no_anode}
use Rattle.disk_pages.specs.Words.{each_below, are_zero, name_at, is_name_at}
use Rattle.disk_pages.specs.Anode.{is_object, is_object_page, is_free_page, is_length, are_lists, has_no_hole, page_pointer, bytes_in}
use Rattle.disk_pages.specs.Blocks.{map_pointer, is_map, is_entry, is_entry_block, entry_name, entry_anode, entry_of}
use Rattle.disk_image.specs.Joined.{joined}
use Rattle.disk_image.specs.Aggregate.{Aggregate, anode_page, anode_number, node_at, header_page, block_under, block_place, names_block}
use Rattle.disk_image.specs.Anodes.{unless, unless_block, is_root_place, is_root_page, is_slot_anode, entries_in, entry_blocks, entry_pointer, entry_bytes, is_directory_block, list_fault, map_fault, directory_fault, block_faults, anode_faults}
use Rattle.disk_image.specs.Slots.{state_at, is_slot_free, usable}
use Rattle.disk_image.specs.Lists.{list_in}
use Rattle.disk_image.specs.declared.fault.Rule.{Rule}
use Rattle.disk_image.specs.declared.fault.Rule.TheVariants as rules
use Rattle.disk_image.proofs.Words.{zeros_pass}
use Rattle.disk_image_laws.proofs.Finding.{each_all}
use Rattle.disk_image_laws.proofs.Treed.{nothing_joined}
use Rattle.disk_objects.specs.Objects.{object_kept, kept_of, page_for, anode_at, FitsList, FitsObject}
use Rattle.disk_objects.proofs.Places.{page_is}
use Rattle.disk_image_laws.proofs.Orderly.{kept_in_order}
use Rattle.disk_image_laws.specs.ObjectLaws.{Keeps, IsInOrder, FitsPlace, leads_within, AnodesAreRight}
use Rattle.disk_image_laws.proofs.Parts.{empty_list, name_read, under_cell, under_size, joined_byte, entry_read}
use Rattle.disk_image_laws.proofs.Read as read
use Rattle.disk_image_laws.proofs.Counted.{number_none}
use Rattle.disk_image_laws.proofs.Firsts.{page_at}
use Rattle.disk_image_laws.proofs.Spelled.{byte_of_entry, fill_of_entry}

-- the bytes of a number that is zero
number_bytes : (at : ℕ) (page : List ℕ) → number_at 4 at page ≡ 0 → (k : ℕ) → k < 4 → byte_at page (at + k) ≡ 0
unfolding number_at
number_bytes at page none k lt = by k lt
  where
    by : (k : ℕ) → k < 4 → byte_at page (at + k) ≡ 0
    by zero lt = (let z : at + 0 ≡ at = omega arith in ap (byte_at page) z) ∙ omega (arith, none)
    by (suc zero) lt = (let z : at + 1 ≡ suc at = omega arith in ap (byte_at page) z) ∙ omega (arith, none)
    by (suc (suc zero)) lt = (let z : at + 2 ≡ suc (suc at) = omega arith in ap (byte_at page) z) ∙ omega (arith, none)
    by (suc (suc (suc zero))) lt = (let z : at + 3 ≡ suc (suc (suc at)) = omega arith in ap (byte_at page) z) ∙ omega (arith, none)
    by (suc (suc (suc (suc k)))) lt = absurd (omega (arith, lt))

-- a name in a page
name_stands : (at : ℕ) (page name : List ℕ) → text_at page at ≡ name → IsTrue (is_name name) → ((k : ℕ) → at + 1 + byte_at page at ≤ k → k < at + 61 → byte_at page k ≡ 0) → is_name_at at page ≡ true
unfolding is_name_at
name_stands at page name is named zeros =
    let few = name_short name named in
    let size : byte_at page at ≡ length name = sym (length-bytes_from page (at + 1) (byte_at page at)) ∙ ap length is in
    and_from (nat_le (byte_at page at) 60 && is_name (name_at at page)) (are_zero (at + 1 + byte_at page at) (60 - byte_at page at) page)
    (and_from (nat_le (byte_at page at) 60) (is_name (name_at at page)) (le-leb (byte_at page at) 60 (omega (arith, size, few))) (ap is_name (name_read page at name is few) ∙ named))
    (zeros_pass page (at + 1 + byte_at page at) (60 - byte_at page at) (λ k low high. zeros k low (omega (arith, high, size, few))))

no_fault : (test : Bool) (place : ℕ) (rule : Rule) → test ≡ true → unless test place rule ≡ []
no_fault test place rule is = cond-true test [] _ is

no_block_fault : (disk : Aggregate) (pointer : ℕ) (test : Bool) (rule : Rule) → (names_block disk pointer ≡ true → test ≡ true) → unless_block disk pointer test rule ≡ []
no_block_fault disk pointer test rule passes = elim (cases_Bool (names_block disk pointer)) [
  | inl on ↦ cond-true (names_block disk pointer) _ [] on ∙ no_fault test (block_place disk pointer) rule (passes on)
  | inr off ↦ cond-false (names_block disk pointer) _ [] off
]

name_of : (entries : List DirEntry) (i : ℕ) (other : DirEntry) → i < length entries → name_in entries i ≡ (get_or entries i other).name
name_of [] i other lt = absurd (omega (arith, lt))
name_of (x ∷ entries) zero other lt = refl
name_of (x ∷ entries) (suc i) other lt = name_of entries i other (omega (arith, lt))

within_at : (entries : List DirEntry) (i : ℕ) (other : DirEntry) → i < length entries → list_all (λ (entry : DirEntry). nat_le 1 entry.anode && nat_le entry.anode 64) entries ≡ true
    → (1 ≤ (get_or entries i other).anode) × ((get_or entries i other).anode ≤ 64)
within_at [] i other lt all = absurd (omega (arith, lt))
within_at (x ∷ entries) zero other lt all =
    let one = (and_parts (nat_le 1 x.anode && nat_le x.anode 64) _ all).0 in
    let two = and_parts (nat_le 1 x.anode) (nat_le x.anode 64) one in
    (leb-true 1 x.anode two.0, leb-true x.anode 64 two.1)
within_at (x ∷ entries) (suc i) other lt all = within_at entries i other (omega (arith, lt)) (and_parts (nat_le 1 x.anode && nat_le x.anode 64) _ all).1

module _ (disk : Aggregate) (slots : ℕ → List Anode) (keeps : Keeps slots disk) (order : IsInOrder disk) (slot i : ℕ) (low : slot < 16) (few : i < 64) where
  abbrev page : List ℕ
  page = anode_page disk slot i

  abbrev node : Node
  node = node_at disk slot i

  abbrev anode : Anode
  anode = anode_at (slots slot) (i + 1)

  kept : kept_at disk.image (node_at disk slot i) ≡ kept_of anode
  kept = (let z : i ≡ i + 1 - 1 = omega arith in λ j. kept_at disk.image (node_at disk slot (z j))) ∙ read.kept_is disk slots keeps slot (i + 1) low (omega arith) (omega (arith, few))

  here_is : is_anode (page_at slot i) ≡ true
  here_is = (let z : page_at slot i ≡ page_for slot (i + 1) = omega arith in λ j. is_anode (z j)) ∙ page_is slot (i + 1) low (omega arith) (omega (arith, few))

  tidy : IsTidy disk.image node
  tidy = keeps.held.tidy (page_at slot i) here_is

  pointer_few : (w : ℕ) → w < 16 → page_pointer w page ≤ disk.blocks
  pointer_few w lt = let e = pointer_front node w lt in let f = order.range slot i w low few (omega (arith, lt)) in omega (arith, e, f)

  -- a free anode
  module _ (unique : ℕ) (is : kept_at disk.image (node_at disk slot i) ≡ record no_anode { unique = unique }) where
    free_kind : byte_at page 0 ≡ 0
    free_kind = λ j. (is j).kind

    bare : HasNoBlocks node
    bare = keeps.held.bare (page_at slot i) here_is (sym (λ j. (keeps.held.anode (page_at slot i) here_is j).kind) ∙ free_kind)

    free_size : (at : ℕ) → text_at page at ≡ [] → byte_at page at ≡ 0
    free_size at none = sym (length-bytes_from page (at + 1) (byte_at page at)) ∙ ap length none

    free_byte : (k : ℕ) → (k < 4) ⊎ (8 ≤ k) → k < 512 → byte_at page k ≡ 0
    free_byte k (inl front) lt = elim (cases_eq k 0) [
      | inl zero_k ↦ ap (byte_at page) zero_k ∙ free_kind
      | inr other ↦ tidy.first k (omega (arith, other)) front
    ]
    free_byte k (inr behind) lt = elim (cases_lt k 12) [
      | inl in_length ↦ (let z : 8 + (k - 8) ≡ k = omega (arith, behind) in ap (byte_at page) (sym z)) ∙ number_bytes 8 page (λ j. (is j).length) (k - 8) (omega (arith, in_length, behind))
      | inr past ↦ elim (cases_lt k 76) [
        | inl in_pointers ↦
            let w : ℕ = (k - 12) / 4 in
            let z : 12 + 4 * w + (k - 12) % 4 ≡ k = omega (arith, past) in
            let none : number_at 4 (12 + 4 * w) page ≡ 0 = sym (pointer_front node w (omega (arith, in_pointers))) ∙ bare w (omega (arith, in_pointers)) in
            ap (byte_at page) (sym z) ∙ number_bytes (12 + 4 * w) page none ((k - 12) % 4) (omega arith)
        | inr names ↦ elim (cases_lt k 137) [
          | inl in_owner ↦
              let size = free_size 76 (λ j. (is j).owner) in
              elim (cases_eq k 76) [
                | inl e ↦ ap (byte_at page) e ∙ size
                | inr apart ↦ tidy.owner k (omega (arith, size, names, apart)) in_owner
              ]
          | inr in_group ↦
              let size = free_size 137 (λ j. (is j).group) in
              elim (cases_eq k 137) [
                | inl e ↦ ap (byte_at page) e ∙ size
                | inr apart ↦ tidy.group k (omega (arith, size, in_group, apart)) lt
              ]
        ]
      ]
    ]

    free_is_page : is_free_page page ≡ true
    unfolding is_free_page
    free_is_page =
        and_from (are_zero 0 4 page) (are_zero 8 504 page) (zeros_pass page 0 4 (λ k from to. free_byte k (inl to) (omega (arith, to))))
        (zeros_pass page 8 504 (λ k from to. free_byte k (inr from) (omega (arith, to))))

    all_zero : unique ≡ 0 → are_zero 0 512 page ≡ true
    all_zero none = zeros_pass page 0 512 (λ k from to. elim (cases_lt k 4) [
      | inl front ↦ free_byte k (inl front) to
      | inr rest ↦ elim (cases_lt k 8) [
        | inl in_unique ↦ (let z : 4 + (k - 4) ≡ k = omega (arith, rest) in ap (byte_at page) (sym z)) ∙ number_bytes 4 page ((λ j. (is j).unique) ∙ none) (k - 4) (omega (arith, rest, in_unique))
        | inr behind ↦ free_byte k (inr behind) to
      ]
    ])

    free_right : (is_slot_free disk slot ≡ true → unique ≡ 0) → is_root_place disk slot i ≡ false → anode_faults disk slot i ≡ []
    unfolding anode_faults is_slot_anode
    free_right unused no_root =
        let zero_kind : (byte_at page 0 == 0) ≡ true = eq-eqb (byte_at page 0) 0 free_kind in
        let test : (if is_slot_free disk slot then are_zero 0 512 page else is_free_page page) ≡ true = by (is_slot_free disk slot) refl in
        let right : is_slot_anode disk slot i ≡ true = cond-true (byte_at page 0 == 0) _ _ zero_kind ∙ and_from (if is_slot_free disk slot then are_zero 0 512 page else is_free_page page) (not (is_root_place disk slot i)) test (λ j. not (no_root j)) in
        let other : is_object page ≡ false = (λ j. (free_kind j == 1) || (free_kind j == 2)) in
        (λ j. no_fault (is_slot_anode disk slot i) (page_start (anode_number slot i)) rules.Anode right j ++ cond-false (is_object page) (block_faults disk slot i) [] other j)
      where
        by : (a : Bool) → is_slot_free disk slot ≡ a → (if a then are_zero 0 512 page else is_free_page page) ≡ true
        by true e = all_zero (unused e)
        by false e = free_is_page

  -- an object
  module _ (unique : ℕ) (object : Object) (fits : FitsObject object) (is : kept_at disk.image (node_at disk slot i) ≡ object_kept unique object) where
    kind_is : byte_at page 0 ≡ (if is_dir object.content then 1 else 2)
    kind_is = λ j. (is j).kind

    used : is_object page ≡ true
    used = by (is_dir object.content) kind_is
      where
        by : (dir : Bool) → byte_at page 0 ≡ (if dir then 1 else 2) → is_object page ≡ true
        by true e = (λ j. (e j == 1) || (e j == 2))
        by false e = (λ j. (e j == 1) || (e j == 2))

    not_free : (byte_at page 0 == 0) ≡ false
    not_free = by (is_dir object.content) kind_is
      where
        by : (dir : Bool) → byte_at page 0 ≡ (if dir then 1 else 2) → (byte_at page 0 == 0) ≡ false
        by true e = ap (λ k. k == 0) e
        by false e = ap (λ k. k == 0) e

    owner_stands : is_name_at 76 page ≡ true
    owner_stands = name_stands 76 page object.owner (λ j. (is j).owner) fits.owner (λ k low_k high. tidy.owner k low_k (omega (arith, high)))

    group_stands : is_name_at 137 page ≡ true
    group_stands = name_stands 137 page object.group (λ j. (is j).group) fits.group (λ k low_k high. tidy.group k low_k (omega (arith, high)))

    group_small : byte_at page 137 ≤ 60
    group_small =
        let few_bytes = name_short object.group fits.group in
        let size : byte_at page 137 ≡ length object.group = sym (length-bytes_from page 138 (byte_at page 137)) ∙ ap length (λ j. (is j).group) in
        omega (arith, few_bytes, size)

    -- a list that is there has a block
    some_list : (w : ℕ) (list : List AccessEntry) → w < 3 → slice_get (lists_in object.content) w ≡ Some list → FitsList list → (page_pointer w page == 0) ≡ false
    some_list w list lt there list_fits = elim (cases_Bool (page_pointer w page == 0)) [
      | inr some ↦ some
      | inl none ↦
          let z : i ≡ i + 1 - 1 = omega arith in
          let first = read.list_cell disk slots keeps slot (i + 1) low (omega arith) (omega (arith, few)) unique object.owner object.group object.content ((λ j. kept_at disk.image (node_at disk slot (sym z j))) ∙ is) w list lt there in
          let empty = cell_none disk.image node w 0 (pointer_front node w (omega (arith, lt)) ∙ eqb-true (page_pointer w page) 0 none) in
          absurd (empty_list list list_fits (sym first ∙ (λ j. cell disk.image (node_at disk slot (sym z j)) w 0) ∙ empty))
    ]

    list_right : (w : ℕ) (list : List AccessEntry) → w < 3 → slice_get (lists_in object.content) w ≡ Some list → FitsList list → list_fault disk slot i w ≡ []
    list_right w list lt there list_fits =
        let z : i ≡ i + 1 - 1 = omega arith in
        let found = read.block_read disk slots keeps slot (i + 1) low (omega arith) (omega (arith, few)) unique object.owner object.group object.content ((λ j. kept_at disk.image (node_at disk slot (sym z j))) ∙ is) w list lt there list_fits in
        no_block_fault disk (pointer_of node w) (is_some (list_in (block_under disk (pointer_of node w)))) rules.ListBlock
        (λ on. (λ j. is_some (list_in (block_under disk (pointer_of (node_at disk slot (z j)) w)))) ∙ ap (λ (o : Option (List AccessEntry)). is_some o) found)

    no_list : (w : ℕ) → pointer_of node w ≡ 0 → list_fault disk slot i w ≡ []
    no_list w none = no_block_fault disk (pointer_of node w) (is_some (list_in (block_under disk (pointer_of node w)))) rules.ListBlock
        (λ on. absurd (false≢true (sym (λ j. is_pointer disk.blocks (none j)) ∙ on)))

    -- its page, where its length, lists and holes are right
    page_right : is_length page ≡ true → are_lists page ≡ true → has_no_hole page ≡ true → is_object_page disk.blocks page ≡ true
    unfolding is_object_page
    page_right size lists holes =
        and_from _ (are_zero 198 314 page) (and_from _ (is_name_at 137 page) (and_from _ (is_name_at 76 page) (and_from _ (has_no_hole page) (and_from _ (are_lists page)
        (and_from _ (each_below (λ w. nat_le (page_pointer w page) disk.blocks) 16) (and_from _ (is_length page) (and_from (is_object page) (are_zero 1 3 page) used
        (zeros_pass page 1 3 (λ k from to. tidy.first k from (omega (arith, to))))) size)
        (each_all (λ w. nat_le (page_pointer w page) disk.blocks) 16 (λ w lt. le-leb (page_pointer w page) disk.blocks (pointer_few w lt)))) lists) holes) owner_stands) group_stands)
        (zeros_pass page 198 314 (λ k from to. (let small = group_small in tidy.group k (omega (arith, small, from)) (omega (arith, to)))))

    -- its indirect block
    map_right : (byte_at page 0 ≡ 1 → bytes_in page ≤ 12288) → map_fault disk slot i ≡ []
    unfolding is_map
    map_right short =
        no_block_fault disk (pointer_of node 15) (is_map disk.blocks (byte_at page 0 == 1) (bytes_in page) node.map) rules.IndirectBlock
        (λ on. and_from _ (are_zero 208 816 node.map)
        (each_all (λ j. nat_le (map_pointer j node.map) disk.blocks && (not (byte_at page 0 == 1) || nat_le (bytes_in page) (1024 * (12 + j)) || not (map_pointer j node.map == 0))) 52
        (λ j lt. and_from (nat_le (map_pointer j node.map) disk.blocks) _ (le-leb (map_pointer j node.map) disk.blocks (in_map j lt)) (at j)))
        (zeros_pass node.map 208 816 (λ k from to. tidy.behind k from (omega (arith, to)))))
      where
        in_map : (j : ℕ) → j < 52 → map_pointer j node.map ≤ disk.blocks
        in_map j lt =
            let z : 4 * (16 + j - 16) ≡ 4 * j = omega arith in
            let e : pointer_of node (16 + j) ≡ map_pointer j node.map = pointer_back node (16 + j) (omega arith) ∙ (λ k. number_at 4 (z k) node.map) in
            let f = order.range slot i (16 + j) low few (omega (arith, lt)) in
            omega (arith, e, f)

        at : (j : ℕ) → (not (byte_at page 0 == 1) || nat_le (bytes_in page) (1024 * (12 + j)) || not (map_pointer j node.map == 0)) ≡ true
        at j = elim (cases_Bool (byte_at page 0 == 1)) [
          | inl dir ↦ (let le = short (eqb-true (byte_at page 0) 1 dir) in let e = le-leb (bytes_in page) (1024 * (12 + j)) (omega (arith, le)) in (λ k. not (dir k) || e k || not (map_pointer j node.map == 0)))
          | inr other ↦ (λ k. not (other k) || nat_le (bytes_in page) (1024 * (12 + j)) || not (map_pointer j node.map == 0))
        ]

    -- put together
    all_right : FitsPlace disk slot i anode → anode.object ≡ Some object → anode.unique ≡ unique → is_object_page disk.blocks page ≡ true
        → joined (list_fault disk slot i) 3 ≡ [] → map_fault disk slot i ≡ [] → joined (directory_fault disk slot i) (entry_blocks page) ≡ [] → anode_faults disk slot i ≡ []
    unfolding anode_faults is_slot_anode
    all_right place there same good lists map directory =
        let below = place.below (ap (λ (o : Option Object). is_some o) there) in
        let right : is_slot_anode disk slot i ≡ true =
        cond-false (byte_at page 0 == 0) _ _ not_free
        ∙ and_from (is_object_page disk.blocks page && nat_lt i (usable (state_at disk slot) (header_page disk slot))) (not (is_root_place disk slot i) || is_root_page page)
        (and_from (is_object_page disk.blocks page) (nat_lt i (usable (state_at disk slot) (header_page disk slot))) good (lt-ltb i (usable (state_at disk slot) (header_page disk slot)) below)) root in
        (λ j. no_fault (is_slot_anode disk slot i) (page_start (anode_number slot i)) rules.Anode right j
        ++ (cond-true (is_object page) (block_faults disk slot i) [] used ∙ (λ k. (lists k ++ map k) ++ directory k)) j)
      where
        root : (not (is_root_place disk slot i) || is_root_page page) ≡ true
        root = elim (cases_Bool (is_root_place disk slot i)) [
          | inr other ↦ (λ j. not (other j) || is_root_page page)
          | inl on ↦
              let two = place.root on in
              let dir : is_dir object.content ≡ true = sym (ap (λ (o : Option Object). option_map_or (λ found. is_dir found.content) o false) there) ∙ two.1 in
              let kind : byte_at page 0 ≡ 1 = kind_is ∙ (λ j. if dir j then 1 else 2) in
              let first : number_at 4 4 page ≡ 1 = (λ j. (is j).unique) ∙ sym same ∙ two.0 in
              (λ j. not (on j) || and_from (byte_at page 0 == 1) (number_at 4 4 page == 1) (eq-eqb (byte_at page 0) 1 kind) (eq-eqb (number_at 4 4 page) 1 first) j)
        ]

  -- a file
  file_right : (unique : ℕ) (owner group : List ℕ) (list : List AccessEntry) (data_kept : List ℕ) → FitsObject (record { owner = owner; group = group; content = File list data_kept [] None })
      → kept_at disk.image (node_at disk slot i) ≡ object_kept unique (record { owner = owner; group = group; content = File list data_kept [] None })
      → FitsPlace disk slot i anode → anode.object ≡ Some (record { owner = owner; group = group; content = File list data_kept [] None }) → anode.unique ≡ unique → anode_faults disk slot i ≡ []
  unfolding joined
  file_right unique owner group list data_kept fits is place there same =
      let object : Object = record { owner = owner; group = group; content = File list data_kept [] None } in
      let kind : byte_at page 0 ≡ 2 = kind_is unique object fits is in
      let no_dir : (byte_at page 0 == 1) ≡ false = ap (λ k. k == 1) kind in
      let none = order.files slot i low few kind in
      let small = fits.content.0 in
      let size : number_at 4 8 page ≡ length data_kept = (λ j. (is j).length) in
      let list_fits : FitsList list = fits.content.3 in
      let own = some_list unique object fits is 0 list (omega arith) refl list_fits in
      let second : (page_pointer 1 page == 0) ≡ true = eq-eqb (page_pointer 1 page) 0 (sym (pointer_front node 1 (omega arith)) ∙ none.0) in
      let third : (page_pointer 2 page == 0) ≡ true = eq-eqb (page_pointer 2 page) 0 (sym (pointer_front node 2 (omega arith)) ∙ none.1) in
      let lists : are_lists page ≡ true = and_from (not (page_pointer 0 page == 0)) _ (λ j. not (own j)) (cond-false (byte_at page 0 == 1) _ ((page_pointer 1 page == 0) && (page_pointer 2 page == 0)) no_dir ∙ and_from (page_pointer 1 page == 0) (page_pointer 2 page == 0) second third) in
      let length_right : is_length page ≡ true = cond-false (byte_at page 0 == 1) _ (nat_le (number_at 4 8 page) 65536) no_dir ∙ le-leb (number_at 4 8 page) 65536 (omega (arith, size, small)) in
      let holes : has_no_hole page ≡ true = each_all (λ k. not (byte_at page 0 == 1) || nat_le (bytes_in page) (1024 * k) || not (page_pointer (3 + k) page == 0)) 12 (λ k lt. (λ j. not (no_dir j) || nat_le (bytes_in page) (1024 * k) || not (page_pointer (3 + k) page == 0))) in
      let no_entries : entry_blocks page ≡ 0 = (λ j. (72 * (if no_dir j then bytes_in page / 72 else 0) + 1023) / 1024) ∙ omega arith in
      all_right unique object fits is place there same (page_right unique object fits is length_right lists holes)
      (λ j. ((list_right unique object fits is 0 list (omega arith) refl list_fits j) ++ no_list unique object fits is 1 none.0 j) ++ no_list unique object fits is 2 none.1 j)
      (map_right unique object fits is (λ e. absurd (omega (arith, e, kind))))
      (ap (joined (directory_fault disk slot i)) no_entries)

  -- a directory
  module _ (unique : ℕ) (owner group : List ℕ) (entries : List DirEntry) (own files dirs : List AccessEntry) (fits : FitsObject (record { owner = owner; group = group; content = Dir entries (own ∷ files ∷ dirs ∷ []) }))
      (is : kept_at disk.image (node_at disk slot i) ≡ object_kept unique (record { owner = owner; group = group; content = Dir entries (own ∷ files ∷ dirs ∷ []) }))
      (within : list_all (λ (entry : DirEntry). nat_le 1 entry.anode && nat_le entry.anode 64) entries ≡ true) where
    abbrev object : Object
    object = record { owner = owner; group = group; content = Dir entries (own ∷ files ∷ dirs ∷ []) }

    dir_kind : byte_at page 0 ≡ 1
    dir_kind = kind_is unique object fits is

    dir : (byte_at page 0 == 1) ≡ true
    dir = ap (λ k. k == 1) dir_kind

    count_few : length entries ≤ 64
    count_few = fits.content.0

    each_entry : EachFits entries
    each_entry = fits.content.1

    size_is : number_at 4 8 page ≡ length entries
    size_is = λ j. (is j).length

    bytes_are : bytes_in page ≡ 72 * length entries
    bytes_are = let le = count_few in (λ j. min (if dir j then 72 * size_is j else size_is j) 65536) ∙ omega (arith, le)

    count_is : entries_in page ≡ length entries
    count_is = (λ j. if dir j then bytes_are j / 72 else 0) ∙ omega arith

    abbrev raw : List ℕ
    raw = entry_bytes disk slot i

    raw_byte : (k : ℕ) → k < 72 * length entries → byte_at raw k ≡ get_or (bytes_of entries) k 0
    raw_byte k lt =
        let z : i ≡ i + 1 - 1 = omega arith in
        (λ j. byte_at (entry_bytes disk slot (z j)) k)
        ∙ read.entry_byte disk slots keeps slot (i + 1) low (omega arith) (omega (arith, few)) unique owner group entries (own ∷ files ∷ dirs ∷ []) fits.content ((λ j. kept_at disk.image (node_at disk slot (sym z j))) ∙ is) k lt

    raw_cell : (k : ℕ) → k < 1024 * entry_blocks page → byte_at raw k ≡ cell disk.image node (pointer_at (k / 1024)) (k % 1024)
    raw_cell k lt =
        joined_byte (λ j. block_under disk (pointer_of node (pointer_at j))) (entry_blocks page) k (λ j. under_size disk.blocks disk.image (pointer_of node (pointer_at j))) lt
        ∙ under_cell disk.image node (pointer_at (k / 1024)) (k % 1024) (omega arith)

    -- an entry
    module _ (e : ℕ) (other : DirEntry) (below : e < length entries) where
      entry_is : entry_of raw e ≡ get_or entries e other
      entry_is = entry_read entries raw e other each_entry fits.content.2 below raw_byte

      short : length (get_or entries e other).name ≤ 60
      short =
          let found = some_at e entries below in
          let first : found.0 ≡ get_or entries e other = ap (λ (xs : List DirEntry). get_or xs 0 other) (sym found.2) ∙ get_or-drop e entries 0 other ∙ (let z : e + 0 ≡ e = omega arith in ap (λ k. get_or entries k other) z) in
          subst (λ (d : DirEntry). length d.name ≤ 60) first (short_entry found.0 (all_at e entries found.0 found.1 each_entry found.2))

      name_fits : is_name (entry_name raw e) ≡ true
      name_fits =
          let found = some_at e entries below in
          let first : found.0 ≡ get_or entries e other = ap (λ (xs : List DirEntry). get_or xs 0 other) (sym found.2) ∙ get_or-drop e entries 0 other ∙ (let z : e + 0 ≡ e = omega arith in ap (λ k. get_or entries k other) z) in
          ap (λ (d : DirEntry). is_name d.name) (entry_is ∙ sym first) ∙ (all_at e entries found.0 found.1 each_entry found.2).name

      entry_raw : (j : ℕ) → j < 72 → byte_at raw (72 * e + j) ≡ get_or (one_bytes (get_or entries e other)) j 0
      entry_raw j lt = raw_byte (72 * e + j) (omega (arith, below, lt)) ∙ byte_of_entry entries e j other each_entry below lt

      size_raw : byte_at raw (72 * e) ≡ length (get_or entries e other).name
      size_raw = (let z : 72 * e ≡ 72 * e + 0 = omega arith in ap (byte_at raw) z) ∙ entry_raw 0 (omega arith)

      zero_raw : (k : ℕ) → 72 * e + length (get_or entries e other).name < k → k < 72 * e + 64 → byte_at raw k ≡ 0
      zero_raw k high lt =
          let z : 72 * e + (k - 72 * e) ≡ k = omega (arith, high) in
          ap (byte_at raw) (sym z) ∙ entry_raw (k - 72 * e) (omega (arith, lt)) ∙ fill_of_entry (get_or entries e other) (k - 72 * e) short (omega (arith, high)) (omega (arith, lt, high))

      anode_within : (1 ≤ entry_anode raw e) × (entry_anode raw e ≤ 64)
      anode_within =
          let two = within_at entries e other below within in
          let same : entry_anode raw e ≡ (get_or entries e other).anode = ap (λ (d : DirEntry). d.anode) entry_is in
          let a = two.0 in
          let b = two.1 in
          (omega (arith, a, same), omega (arith, b, same))

    no_entry : DirEntry
    no_entry = record { name = []; anode = 0; unique = 0 }

    name_is : (e : ℕ) → e < length entries → entry_name raw e ≡ name_in entries e
    name_is e below = ap (λ (d : DirEntry). d.name) (entry_is e no_entry below) ∙ sym (name_of entries e no_entry below)

    entry_right : (e : ℕ) → e < length entries → is_entry raw e ≡ true
    unfolding is_entry is_name_at
    entry_right e below =
        let within_here = anode_within e no_entry below in
        let size = size_raw e no_entry below in
        let few_bytes = short e no_entry below in
        and_from _ ((e == 0) || is_before (entry_name raw (e - 1)) (entry_name raw e)) (and_from _ (nat_le (entry_anode raw e) 64) (and_from _ (nat_le 1 (entry_anode raw e)) (and_from _ (are_zero (72 * e + 61) 3 raw)
        (and_from _ (are_zero (72 * e + 1 + byte_at raw (72 * e)) (60 - byte_at raw (72 * e)) raw) (and_from (nat_le (byte_at raw (72 * e)) 60) (is_name (name_at (72 * e) raw)) (le-leb (byte_at raw (72 * e)) 60 (omega (arith, size, few_bytes))) (name_fits e no_entry below))
        (zeros_pass raw (72 * e + 1 + byte_at raw (72 * e)) (60 - byte_at raw (72 * e)) (λ k from to. zero_raw e no_entry below k (omega (arith, from, size)) (omega (arith, to, size, few_bytes)))))
        (zeros_pass raw (72 * e + 61) 3 (λ k from to. zero_raw e no_entry below k (omega (arith, from, few_bytes)) (omega (arith, to)))))
        (le-leb 1 (entry_anode raw e) within_here.0)) (le-leb (entry_anode raw e) 64 within_here.1)) (rises e below)
      where
        rises : (e : ℕ) → e < length entries → ((e == 0) || is_before (entry_name raw (e - 1)) (entry_name raw e)) ≡ true
        rises zero below = refl
        rises (suc e) below =
            let z : suc e - 1 ≡ e = omega arith in
            let rise = rise_in entries e (suc e) fits.content.2 (omega arith) below in
            (λ j. (suc e == 0) || is_before (entry_name raw (z j)) (entry_name raw (suc e)))
            ∙ (λ j. (suc e == 0) || is_before (name_is e (omega (arith, below)) j) (name_is (suc e) below j)) ∙ by_or (suc e == 0) (is_before (name_in entries e) (name_in entries (suc e))) rise
          where
            by_or : (a b : Bool) → b ≡ true → (a || b) ≡ true
            by_or true b r = refl
            by_or false b r = r

    -- behind the entries all is zero
    behind_right : (n k : ℕ) → n < entry_blocks page → k < 1024 → 72 * length entries ≤ 1024 * n + k → byte_at raw (1024 * n + k) ≡ 0
    behind_right n k block lt high =
        let count = count_is in
        let bytes = bytes_are in
        let le = count_few in
        let place : (1024 * n + k) / 1024 ≡ n = omega (arith, lt) in
        raw_cell (1024 * n + k) (omega (arith, block, lt))
        ∙ tidy.past dir_kind (1024 * n + k) (omega (arith, bytes, high)) (omega (arith, block, count, le, lt)) (omega (arith, place, bytes, block, count))

    block_right : (n : ℕ) → n < entry_blocks page → is_directory_block disk slot i n ≡ true
    unfolding is_entry_block
    block_right n block =
        and_from (each_below (λ e. not (72 * e / 1024 == n) || is_entry raw e) (entries_in page)) _
        (each_all (λ e. not (72 * e / 1024 == n) || is_entry raw e) (entries_in page) (λ e lt. or_right_true (not (72 * e / 1024 == n)) (is_entry raw e) (entry_right e (let count = count_is in omega (arith, lt, count)))))
        (each_all (λ k. nat_lt (1024 * n + k) (72 * entries_in page) || (byte_at raw (1024 * n + k) == 0)) 1024 (λ k lt. tail k lt))
      where
        or_right_true : (a b : Bool) → b ≡ true → (a || b) ≡ true
        or_right_true true b r = refl
        or_right_true false b r = r

        tail : (k : ℕ) → k < 1024 → (nat_lt (1024 * n + k) (72 * entries_in page) || (byte_at raw (1024 * n + k) == 0)) ≡ true
        tail k lt = elim (cases_Bool (nat_lt (1024 * n + k) (72 * entries_in page))) [
          | inl inside ↦ (λ j. inside j || (byte_at raw (1024 * n + k) == 0))
          | inr outside ↦
              let le : 72 * entries_in page ≤ 1024 * n + k = grind (arith, nat_tests, outside) in
              let count = count_is in
              (λ j. outside j || (byte_at raw (1024 * n + k) == 0)) ∙ eq-eqb (byte_at raw (1024 * n + k)) 0 (behind_right n k block lt (omega (arith, le, count)))
        ]

    -- a block in which an entry has its anode is there
    no_hole_at : (b e : ℕ) → e < length entries → 1024 * b ≤ 72 * e + 64 → 72 * e + 64 < 1024 * b + 1024 → b < 12 → (page_pointer (3 + b) page == 0) ≡ false
    no_hole_at b e below from to small = elim (cases_Bool (page_pointer (3 + b) page == 0)) [
      | inr some ↦ some
      | inl none ↦
          let within_here = (anode_within e no_entry below).0 in
          let zero_anode : entry_anode raw e ≡ 0 = no_number (72 * e + 64) (λ k lt. zero_at (72 * e + 64 + k) (omega (arith, from)) (omega (arith, to, lt)) (omega (arith, below, lt)) (eqb-true (page_pointer (3 + b) page) 0 none)) in
          absurd (omega (arith, within_here, zero_anode))
    ]
      where
        no_number : (at : ℕ) → ((k : ℕ) → k < 4 → byte_at raw (at + k) ≡ 0) → number_at 4 at raw ≡ 0
        no_number at zeros = number_none at raw zeros

        zero_at : (k : ℕ) → 1024 * b ≤ k → k < 1024 * b + 1024 → k < 72 * length entries → page_pointer (3 + b) page ≡ 0 → byte_at raw k ≡ 0
        zero_at k low_k high_k inside none =
            let count = count_is in
            let place : k / 1024 ≡ b = omega (arith, low_k, high_k) in
            let front : nat_lt b 12 ≡ true = lt-ltb b 12 small in
            let at : pointer_at b ≡ b + 3 = cond-true (nat_lt b 12) (b + 3) (b + 4) front in
            let z : 12 + 4 * (b + 3) ≡ 12 + 4 * (3 + b) = omega arith in
            let none_there : pointer_of node (pointer_at (k / 1024)) ≡ 0 = (λ j. pointer_of node (pointer_at (place j))) ∙ (λ j. pointer_of node (at j)) ∙ pointer_front node (b + 3) (omega (arith, small)) ∙ (λ j. number_at 4 (z j) page) ∙ none in
            raw_cell k (omega (arith, inside, count)) ∙ cell_none disk.image node (pointer_at (k / 1024)) (k % 1024) none_there

    holes_right : has_no_hole page ≡ true
    holes_right = each_all (λ b. not (byte_at page 0 == 1) || nat_le (bytes_in page) (1024 * b) || not (page_pointer (3 + b) page == 0)) 12 (λ b lt. at b lt)
      where
        at : (b : ℕ) → b < 12 → (not (byte_at page 0 == 1) || nat_le (bytes_in page) (1024 * b) || not (page_pointer (3 + b) page == 0)) ≡ true
        at b lt = elim (cases_lt (1024 * b) (72 * length entries)) [
          | inr past ↦ (let bytes = bytes_are in let e = le-leb (bytes_in page) (1024 * b) (omega (arith, bytes, past)) in middle (not (byte_at page 0 == 1)) (nat_le (bytes_in page) (1024 * b)) (not (page_pointer (3 + b) page == 0)) e)
          | inl inside ↦ last (not (byte_at page 0 == 1)) (nat_le (bytes_in page) (1024 * b)) (not (page_pointer (3 + b) page == 0)) (λ j. not (some b lt inside j))
        ]
          where
            middle : (x y z : Bool) → y ≡ true → (x || y || z) ≡ true
            middle true y z e = refl
            middle false true z e = refl
            middle false false z e = absurd (false≢true e)

            last : (x y z : Bool) → z ≡ true → (x || y || z) ≡ true
            last true y z e = refl
            last false true z e = refl
            last false false z e = e

            some : (b : ℕ) → b < 12 → 1024 * b < 72 * length entries → (page_pointer (3 + b) page == 0) ≡ false
            some b small inside = elim (cases_lt ((1024 * b + 959) / 72) (length entries)) [
              | inl there ↦ no_hole_at b ((1024 * b + 959) / 72) there (omega arith) (omega arith) small
              | inr beyond ↦ no_hole_at b (length entries - 1) (omega (arith, inside)) (omega (arith, inside)) (omega (arith, beyond, inside)) small
            ]

    lists_right : are_lists page ≡ true
    lists_right =
        let fit = fits.content.4 in
        let a = some_list unique object fits is 0 own (omega arith) refl fit.0 in
        let b = some_list unique object fits is 1 files (omega arith) refl fit.1.0 in
        let c = some_list unique object fits is 2 dirs (omega arith) refl fit.1.1.0 in
        and_from (not (page_pointer 0 page == 0)) _ (λ j. not (a j))
        (cond-true (byte_at page 0 == 1) (not (page_pointer 1 page == 0) && not (page_pointer 2 page == 0)) _ dir ∙ and_from (not (page_pointer 1 page == 0)) (not (page_pointer 2 page == 0)) (λ j. not (b j)) (λ j. not (c j)))

    length_right : is_length page ≡ true
    length_right = let size = size_is in let le = count_few in cond-true (byte_at page 0 == 1) (nat_le (number_at 4 8 page) 64) _ dir ∙ le-leb (number_at 4 8 page) 64 (omega (arith, size, le))

    dir_right : FitsPlace disk slot i anode → anode.object ≡ Some object → anode.unique ≡ unique → anode_faults disk slot i ≡ []
    unfolding joined
    dir_right place there same =
        let fit = fits.content.4 in
        let bytes = bytes_are in
        let le = count_few in
        all_right unique object fits is place there same (page_right unique object fits is length_right lists_right holes_right)
        (λ j. (list_right unique object fits is 0 own (omega arith) refl fit.0 j ++ list_right unique object fits is 1 files (omega arith) refl fit.1.0 j) ++ list_right unique object fits is 2 dirs (omega arith) refl fit.1.1.0 j)
        (map_right unique object fits is (λ e. omega (arith, bytes, le)))
        (nothing_joined (directory_fault disk slot i) (entry_blocks page) (λ n block. no_block_fault disk (entry_pointer disk slot i n) (is_directory_block disk slot i n) rules.DirectoryBlock (λ on. block_right n block)))

  -- each of them
  pub right : FitsPlace disk slot i anode → anode_faults disk slot i ≡ []
  right place = by anode.unique anode.object refl refl ((keeps.each slot low).each (i + 1) (omega arith) (omega (arith, few))) kept
    where
      by_content : (unique : ℕ) (owner group : List ℕ) (content : Content) → anode.unique ≡ unique → anode.object ≡ Some (record { owner = owner; group = group; content = content })
          → FitsObject (record { owner = owner; group = group; content = content }) → kept_at disk.image (node_at disk slot i) ≡ object_kept unique (record { owner = owner; group = group; content = content })
          → anode_faults disk slot i ≡ []
      by_content unique owner group (Dir entries (a ∷ b ∷ c ∷ [])) same there fits is =
          let within : list_all (λ (entry : DirEntry). nat_le 1 entry.anode && nat_le entry.anode 64) entries ≡ true = sym (ap (λ (o : Option Object). option_map_or (λ found. leads_within found.content) o true) there) ∙ place.within in
          dir_right unique owner group entries a b c fits is within place there same
      by_content unique owner group (Dir entries []) same there fits is = absurd (let three = fits.content.3 in omega (arith, three))
      by_content unique owner group (Dir entries (a ∷ [])) same there fits is = absurd (let three = fits.content.3 in omega (arith, three))
      by_content unique owner group (Dir entries (a ∷ b ∷ [])) same there fits is = absurd (let three = fits.content.3 in omega (arith, three))
      by_content unique owner group (Dir entries (a ∷ b ∷ c ∷ d ∷ lists)) same there fits is = absurd (let three = fits.content.3 in omega (arith, three))
      by_content unique owner group (File list data_kept [] None) same there fits is = file_right unique owner group list data_kept fits is place there same
      by_content unique owner group (File list data_kept unsaved len) same there fits is =
          let none : unsaved ≡ [] = fits.content.1 in
          let no_length : len ≡ None = fits.content.2 in
          let at : File list data_kept unsaved len ≡ File list data_kept [] None = (λ j. File list data_kept (none j) (no_length j)) in
          file_right unique owner group list data_kept (subst (λ (c : Content). FitsObject (record { owner = owner; group = group; content = c })) at fits)
          (is ∙ (λ j. object_kept unique (record { owner = owner; group = group; content = at j }))) place (there ∙ (λ j. Some (record { owner = owner; group = group; content = at j }))) same

      by : (unique : ℕ) (o : Option Object) → anode.unique ≡ unique → anode.object ≡ o → IfSome o FitsObject
          → kept_at disk.image (node_at disk slot i) ≡ option_map_or (object_kept unique) o (record no_anode { unique = unique }) → anode_faults disk slot i ≡ []
      by unique None same there fits is =
          free_right unique is (λ free. sym same ∙ ap (λ (a : Anode). a.unique) (place.unused free)) (elim (cases_Bool (is_root_place disk slot i)) [
            | inr other ↦ other
            | inl on ↦ absurd (false≢true (sym (ap (λ (o : Option Object). option_map_or (λ found. is_dir found.content) o false) there) ∙ (place.root on).1))
          ])
      by unique (Some object) same there fits is = by_content unique object.owner object.group object.content same there fits is

pub anodes_are_right : AnodesAreRight
anodes_are_right disk slots keeps slot low places =
    nothing_joined (anode_faults disk slot) 64 (λ i few. right disk slots keeps (kept_in_order disk slots keeps) slot i low few (places i few))
