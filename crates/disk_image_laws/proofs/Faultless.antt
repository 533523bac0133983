-- An aggregate without faults keeps the anodes of its image.
use Rattle.std.proofs.Common.{◌≡◌, ◌<◌, ◌≤◌, ℕ, zero, suc, ◌+◌, ◌-◌, ◌*◌, ◌/◌, ◌%◌, List, [], ◌∷◌, length, get_or, inl, inr, refl, sym, subst, ◌∙◌, ap, arith}
use Rattle.std.specs.Prelude.{Bool, true, false, IsTrue, ◌==◌, ◌&&◌, ◌||◌, not, if◌then◌else◌, nat_lt, nat_le, min, Option, Some, None, IfSome, is_some, slice_get, unwrap_or}
use Rattle.std.specs.Option.{option_map_or}
use Rattle.std.proofs.lemmas.Bool.{cases_Bool, cases_lt, and_parts, and_from, cond-true, cond-false, false≢true, eqb-true, leb-true}
use Rattle.std.proofs.lemmas.Bool.Decides.{nat_tests}
use Rattle.std.proofs.lemmas.List.{get_or_past, get_or-replicate}
use Rattle.std.proofs.lemmas.Option.{unwrap_or-slice_get}
use Rattle.base_types.specs.Image.{byte_at, bytes_from}
use Rattle.base_types.specs.Name.{is_name}
use Rattle.base_types.specs.declared.access.AccessEntry.{AccessEntry}
use Rattle.tree_calls.specs.declared.part.DirEntry.{DirEntry}
use Rattle.tree_objects.specs.Objects.{is_dir}
use Rattle.tree_objects.specs.declared.content.Anode.{Anode}
use Rattle.tree_objects.specs.declared.content.Content.{Content}
use Rattle.tree_objects.specs.declared.content.Content.TheVariants.{Dir, File}
use Rattle.tree_objects.specs.declared.content.Object.{Object}
use Rattle.tree_filesets.specs.Founding.{unused_anode}
use Rattle.tree_filesets.specs.Laws.{lists_in}
use Rattle.disk_layout.specs.Numbers.{number_at}
use Rattle.disk_anode.specs.Anode.{anode_of as kept_at, content_at, bytes_of as size_of, byte_length, text_at, IsTidy}
use Rattle.disk_anode.specs.Node.{pointer_of, pointer_at, is_pointer, names, cell, node_of, HasNoBlocks}
use Rattle.disk_anode.specs.declared.node.Node.{Node}
use Rattle.disk_anode.proofs.Cells.{cell_none}
use Rattle.disk_anode.proofs.Pointers.{pointer_front, pointer_back}
use Rattle.disk_lists.specs.Lists.{list_bytes, HoldsList}
use Rattle.disk_lists.specs.Entries.{bytes_of}
use Rattle.disk_lists.proofs.Laid.{length-bytes_of}
use Rattle.disk_objects.specs.Holds.{is_anode, no_anode, Holds}
use Rattle.disk_pages.specs.Words.{each_below, are_zero, name_at, is_name_at}
use Rattle.disk_pages.specs.Anode.{unique_of, page_pointer, bytes_in}
use Rattle.disk_pages.specs.Blocks.{map_pointer, is_map, is_entry, is_entry_block, entry_of}
use Rattle.disk_image.specs.Aggregate.{Aggregate, page_of, anode_page, node_at, block_under, names_block}
use Rattle.disk_image.specs.Anodes.{entries_in, entry_blocks, entry_bytes}
use Rattle.disk_image.specs.Counts.{is_count_page}
use Rattle.disk_image.specs.Image.{list_of, file_bytes, entries_of, content_of, anode_of}
use Rattle.disk_image.specs.Lists.{list_in}
use Rattle.disk_image.proofs.Joined.{length-listed, get_or-listed}
use Rattle.disk_image_laws.proofs.Clean.{IsRightSlot, slot_right, count_right, directory_right, list_right, map_right}
use Rattle.disk_image_laws.proofs.Contents.{IsObjectPage, object_is, object_page, few_entries, dir_bytes, entries_are, named_block, entry_right, names_rise_at}
use Rattle.disk_image_laws.proofs.Finding.{each_at}
use Rattle.disk_image_laws.proofs.Formed.{rise_all}
use Rattle.disk_image_laws.proofs.Lists.{read_is_saved}
use Rattle.disk_image.proofs.Words.{zeros_are}
use Rattle.disk_objects.specs.Objects.{list_byte, bytes_kept, length_kept, object_kept, kept_of, page_for, anode_at, kept_anodes, FitsList, FitsContent, FitsObject}
use Rattle.disk_objects.proofs.Places.{kept_here, anode_here}
use Rattle.disk_image_laws.specs.ObjectLaws.{Keeps, anodes_of, IsInOrder, FaultlessKeeps, FaultlessIsInOrder}
use Rattle.disk_image_laws.proofs.Parts.{empty_list, under_cell, under_size, under_bytes, joined_size, joined_byte}
use Rattle.disk_image_laws.proofs.Spelled.{each_fits, bytes_spelled}
use Rattle.disk_image_laws.proofs.Firsts.{page_at}
use Rattle.disk_image_laws.proofs.Counted.{free_page, free_map, free_blocks, number_none, counts_hold, once_holds, apart_holds, slot_apart, tail_holds}

-- a name in a page
record IsNamed (at : ℕ) (page : List ℕ) : Type 0 where
  pub name : IsTrue (is_name (name_at at page))
  pub text : text_at page at ≡ name_at at page
  pub fill : (k : ℕ) → at + 1 + byte_at page at ≤ k → k < at + 61 → byte_at page k ≡ 0

named : (at : ℕ) (page : List ℕ) → is_name_at at page ≡ true → IsNamed at page
unfolding is_name_at name_at
named at page is =
    let a = and_parts _ (are_zero (at + 1 + byte_at page at) (60 - byte_at page at) page) is in
    let c = and_parts (nat_le (byte_at page at) 60) _ a.0 in
    let few = leb-true (byte_at page at) 60 c.0 in
    let least : min (byte_at page at) 60 ≡ byte_at page at = omega (arith, few) in
    record {
      name = c.1;
      text = λ j. bytes_from page (at + 1) (sym least j);
      fill = λ k low high. zeros_are page (at + 1 + byte_at page at) (60 - byte_at page at) a.1 k low (omega (arith, high, few));
    }

zero_or : (a : Bool) (x : ℕ) → a ≡ false → (a || (x == 0)) ≡ true → x ≡ 0
zero_or true x off is = absurd (false≢true (sym off))
zero_or false x off is = eqb-true x 0 is

some_is : {X : Type 0} (o : Option (List X)) → is_some o ≡ true → o ≡ Some (unwrap_or o [])
some_is (Some xs) is = refl
some_is None is = absurd (false≢true is)

module _ (disk : Aggregate) (rights : (slot : ℕ) → slot < 16 → IsRightSlot disk slot) (order : IsInOrder disk) (bytes : (k : ℕ) → byte_at disk.image k < 256) (slot i : ℕ) (low : slot < 16) (few : i < 64) where
  abbrev page : List ℕ
  page = anode_page disk slot i

  abbrev node : Node
  node = node_at disk slot i

  -- a free anode
  module _ (free : (byte_at (anode_page disk slot i) 0 == 0) ≡ true) where
    zero_byte : (k : ℕ) → 8 ≤ k → k < 512 → byte_at page k ≡ 0
    zero_byte k le lt = free_page disk rights slot i low few free k (inr le) lt

    free_kind : byte_at page 0 ≡ 0
    free_kind = eqb-true (byte_at page 0) 0 free

    free_length : number_at 4 8 page ≡ 0
    free_length = number_none 8 page (λ k lt. zero_byte (8 + k) (omega arith) (omega (arith, lt)))

    free_text : (at : ℕ) → 8 ≤ at → at < 512 → text_at page at ≡ []
    unfolding bytes_from
    free_text at le lt = let e = zero_byte at le lt in λ j. bytes_from page (at + 1) (e j)

    free_size : size_of node ≡ 0
    free_size = (λ j. byte_length (free_kind j) (free_length j)) ∙ omega arith

    free_list : (which k : ℕ) → (if nat_lt which 3 && nat_lt k 1024 then cell disk.image node which k else 0) ≡ 0
    free_list which k = by (nat_lt which 3) (nat_lt k 1024) refl
      where
        by : (a b : Bool) → nat_lt which 3 ≡ a → (if a && b then cell disk.image node which k else 0) ≡ 0
        by true true e = let lt : which < 3 = grind (arith, nat_tests, e) in cell_none disk.image node which k (free_blocks disk rights slot i low few free which (omega (arith, lt)))
        by true false e = refl
        by false b e = refl

    free_content : (k : ℕ) → content_at disk.image node (size_of node) k ≡ 0
    free_content k =
        let off : nat_lt k 0 ≡ false = grind (arith, nat_tests) in
        (λ j. content_at disk.image node (free_size j) k) ∙ (λ j. if off j then cell disk.image node (pointer_at (k / 1024)) (k % 1024) else 0)

    kept_free : kept_at disk.image node ≡ record no_anode { unique = unique_of page }
    kept_free = λ j. record {
      kind = free_kind j;
      unique = unique_of page;
      length = free_length j;
      owner = free_text 76 (omega arith) (omega arith) j;
      group = free_text 137 (omega arith) (omega arith) j;
      lists = λ which k. free_list which k j;
      content = λ k. free_content k j;
    }

    tidy_free : IsTidy disk.image node
    tidy_free = record {
      first = λ k some lt. free_page disk rights slot i low few free k (inl lt) (omega (arith, lt));
      owner = λ k le lt. zero_byte k (omega (arith, le)) (omega (arith, lt));
      group = λ k le lt. zero_byte k (omega (arith, le)) lt;
      behind = λ k le lt. free_map disk rights slot i low few free k lt;
      past = λ dir k le lt inside. (let none = free_kind in absurd (omega (arith, dir, none)));
      range = λ w lt. order.range slot i w low few lt;
      lists = λ w lt empty. free_blocks disk rights slot i low few free w (omega (arith, lt));
    }

  -- a file or directory
  module _ (used : (byte_at (anode_page disk slot i) 0 == 0) ≡ false) where
    facts : IsObjectPage disk slot (rights slot low) i
    facts = object_page disk slot (rights slot low) i (object_is disk slot (rights slot low) i few used)

    owner_named : IsNamed 76 page
    owner_named = named 76 page facts.owner

    group_named : IsNamed 137 page
    group_named = named 137 page facts.group

    -- its indirect block has zeros behind the pointers
    map_zero : (k : ℕ) → 208 ≤ k → k < 1024 → byte_at node.map k ≡ 0
    unfolding is_map
    map_zero k le lt = by (is_pointer disk.blocks (number_at 4 72 page)) refl
      where
        by : (a : Bool) → is_pointer disk.blocks (number_at 4 72 page) ≡ a → byte_at node.map k ≡ 0
        by true e =
            let valid : names_block disk (pointer_of node 15) ≡ true = (λ j. is_pointer disk.blocks (pointer_front node 15 (omega arith) j)) ∙ e in
            let all = map_right disk slot (rights slot low) i few facts.object valid in
            zeros_are node.map 208 816 (and_parts _ (are_zero 208 816 node.map) all).1 k le (omega (arith, lt))
        by false e = ap (λ (l : List ℕ). byte_at l k) (cond-false (is_pointer disk.blocks (number_at 4 72 page)) _ _ e) ∙ get_or-replicate 1024 k 0 0 lt

    -- the list that a pointer names
    holds_list : (w : ℕ) → w < 3 → (page_pointer w page == 0) ≡ false → HoldsList (list_of disk slot i w) (byte_at (block_under disk (pointer_of node w)))
    holds_list w lt some =
        let pointer : ℕ = pointer_of node w in
        let is : pointer ≡ page_pointer w page = pointer_front node w (omega (arith, lt)) in
        let most = leb-true (page_pointer w page) disk.blocks (each_at (λ v. nat_le (page_pointer v page) disk.blocks) 16 w facts.pointers (omega (arith, lt))) in
        let least : 0 < page_pointer w page = grind (arith, nat_tests, some) in
        let valid : names_block disk pointer ≡ true = (let a : 0 < pointer = omega (arith, is, least) in let b : pointer ≤ disk.blocks = omega (arith, is, most) in and_from (nat_lt 0 pointer) (nat_le pointer disk.blocks) (grind (arith, nat_tests, a)) (grind (arith, nat_tests, b))) in
        let there = list_right disk slot (rights slot low) i w few facts.object lt valid in
        read_is_saved (list_of disk slot i w) (block_under disk pointer) (under_size disk.blocks disk.image pointer) (under_bytes disk.blocks disk.image pointer bytes)
        (some_is (list_in (block_under disk pointer)) there)

    fits_list : (w : ℕ) → w < 3 → (page_pointer w page == 0) ≡ false → FitsList (list_of disk slot i w)
    fits_list w lt some = let is = holds_list w lt some in (is.list, is.each)

    list_cell : (w k : ℕ) → w < 3 → (page_pointer w page == 0) ≡ false → k < 1024 → cell disk.image node w k ≡ get_or (list_bytes (list_of disk slot i w)) k 0
    list_cell w k lt some small = sym (under_cell disk.image node w k small) ∙ (holds_list w lt some).bytes k small

    no_list_cell : (w k : ℕ) → w < 16 → (page_pointer w page == 0) ≡ true → cell disk.image node w k ≡ 0
    no_list_cell w k lt none = cell_none disk.image node w k (pointer_front node w lt ∙ eqb-true (page_pointer w page) 0 none)

    -- a list that is zero
    no_list : (w : ℕ) → w < 3 → ((k : ℕ) → k < 1024 → cell disk.image node w k ≡ 0) → (page_pointer w page == 0) ≡ true
    no_list w lt empty = elim (cases_Bool (page_pointer w page == 0)) [
      | inl none ↦ none
      | inr some ↦ absurd (empty_list (list_of disk slot i w) (fits_list w lt some) (sym (list_cell w 0 lt some (omega arith)) ∙ empty 0 (omega arith)))
    ]

    -- behind the entries of a directory its blocks are zero
    dir_past : byte_at page 0 ≡ 1 → (k : ℕ) → size_of node ≤ k → 1024 * (k / 1024) < size_of node → cell disk.image node (pointer_at (k / 1024)) (k % 1024) ≡ 0
    unfolding is_entry_block
    dir_past kind k le inside =
        let dir : (byte_at page 0 == 1) ≡ true = grind (arith, nat_tests, kind) in
        let raw : List ℕ = entry_bytes disk slot i in
        let n : ℕ = k / 1024 in
        let count = entries_are disk slot (rights slot low) i few dir in
        let size : size_of node ≡ 72 * number_at 4 8 page = dir_bytes disk slot (rights slot low) i few dir in
        let below : n < entry_blocks page = omega (arith, inside, size, count) in
        let right = directory_right disk slot (rights slot low) i n few facts.object below (named_block disk slot (rights slot low) i few dir n below) in
        let behind = (and_parts _ (each_below (λ j. nat_lt (1024 * n + j) (72 * entries_in page) || (byte_at raw (1024 * n + j) == 0)) 1024) right).1 in
        let here = each_at (λ j. nat_lt (1024 * n + j) (72 * entries_in page) || (byte_at raw (1024 * n + j) == 0)) 1024 (k % 1024) behind (omega arith) in
        let whole : 1024 * n + k % 1024 ≡ k = omega arith in
        let off : nat_lt (1024 * n + k % 1024) (72 * entries_in page) ≡ false = (let high : 72 * entries_in page ≤ 1024 * n + k % 1024 = omega (arith, le, size, count) in grind (arith, nat_tests, high)) in
        sym (under_cell disk.image node (pointer_at (k / 1024)) (k % 1024) (omega arith))
        ∙ sym (joined_byte (λ j. block_under disk (pointer_of node (pointer_at j))) (entry_blocks page) k (λ j. under_size disk.blocks disk.image (pointer_of node (pointer_at j))) (omega (arith, below)))
        ∙ (λ j. byte_at raw (sym whole j)) ∙ zero_or (nat_lt (1024 * n + k % 1024) (72 * entries_in page)) (byte_at raw (1024 * n + k % 1024)) off here

    tidy_used : IsTidy disk.image node
    tidy_used = record {
      first = λ k some lt. zeros_are page 1 3 facts.first k some (omega (arith, lt));
      owner = λ k le lt. owner_named.fill k le (omega (arith, lt));
      group = λ k le lt. elim (cases_lt k 198) [
        | inl front ↦ group_named.fill k le (omega (arith, front))
        | inr back ↦ zeros_are page 198 314 facts.rest k back (omega (arith, lt))
      ];
      behind = map_zero;
      past = λ dir k le lt inside. dir_past dir k le inside;
      range = λ w lt. order.range slot i w low few lt;
      lists = λ w lt empty. pointer_front node w (omega (arith, lt)) ∙ eqb-true (page_pointer w page) 0 (no_list w lt empty);
    }

    -- its lists, where each that there is was read
    lists_are : (lists : List (List AccessEntry))
        → ((which k : ℕ) → k < 1024 → (if nat_lt which 3 then cell disk.image node which k else 0) ≡ get_or (option_map_or list_bytes (slice_get lists which) []) k 0)
        → (which k : ℕ) → (if nat_lt which 3 && nat_lt k 1024 then cell disk.image node which k else 0) ≡ list_byte lists which k
    lists_are lists same which k = by (nat_lt k 1024) refl
      where
        and_true : (a : Bool) (x : ℕ) → (if a && true then x else 0) ≡ (if a then x else 0)
        and_true true x = refl
        and_true false x = refl

        and_false : (a : Bool) (x : ℕ) → (if a && false then x else 0) ≡ 0
        and_false true x = refl
        and_false false x = refl

        by : (b : Bool) → nat_lt k 1024 ≡ b → (if nat_lt which 3 && b then cell disk.image node which k else 0) ≡ (if b then get_or (option_map_or list_bytes (slice_get lists which) []) k 0 else 0)
        by true e = let lt : k < 1024 = grind (arith, nat_tests, e) in and_true (nat_lt which 3) (cell disk.image node which k) ∙ same which k lt
        by false e = and_false (nat_lt which 3) (cell disk.image node which k)

    -- as an object, once it is known which
    module _ (content : Content) (kind : byte_at page 0 ≡ (if is_dir content then 1 else 2)) (size : number_at 4 8 page ≡ length_kept content)
        (lists : (which k : ℕ) → k < 1024 → (if nat_lt which 3 then cell disk.image node which k else 0) ≡ get_or (option_map_or list_bytes (slice_get (lists_in content) which) []) k 0)
        (same : (k : ℕ) → content_at disk.image node (size_of node) k ≡ get_or (bytes_kept content) k 0) where
      abbrev object : Object
      object = record { owner = name_at 76 page; group = name_at 137 page; content = content }

      object_is_kept : kept_at disk.image node ≡ object_kept (unique_of page) object
      object_is_kept = λ j. record {
        kind = kind j;
        unique = unique_of page;
        length = size j;
        owner = owner_named.text j;
        group = group_named.text j;
        lists = λ which k. lists_are (lists_in content) lists which k j;
        content = λ k. same k j;
      }

    -- what is known of its content
    record IsKeptAs (content : Content) : Type 0 where
      pub is : content_of disk slot i ≡ content
      pub kept : kept_at disk.image node ≡ object_kept (unique_of page) (record { owner = name_at 76 page; group = name_at 137 page; content = content })
      pub fits : FitsContent content

    lists_test : not (page_pointer 0 page == 0) && (if byte_at page 0 == 1 then not (page_pointer 1 page == 0) && not (page_pointer 2 page == 0) else (page_pointer 1 page == 0) && (page_pointer 2 page == 0)) ≡ true
    lists_test = facts.lists

    not_so : (a : Bool) → not a ≡ true → a ≡ false
    not_so true e = absurd (false≢true e)
    not_so false e = refl

    own_there : (page_pointer 0 page == 0) ≡ false
    own_there = not_so (page_pointer 0 page == 0) (and_parts (not (page_pointer 0 page == 0)) _ lists_test).0

    other_lists : (if byte_at page 0 == 1 then not (page_pointer 1 page == 0) && not (page_pointer 2 page == 0) else (page_pointer 1 page == 0) && (page_pointer 2 page == 0)) ≡ true
    other_lists = (and_parts (not (page_pointer 0 page == 0)) _ lists_test).1

    -- a directory
    module _ (dir : (byte_at (anode_page disk slot i) 0 == 1) ≡ true) where
      abbrev entries : List DirEntry
      entries = entries_of disk slot i

      abbrev count : ℕ
      count = entries_in page

      abbrev raw : List ℕ
      raw = entry_bytes disk slot i

      count_is : number_at 4 8 page ≡ count
      count_is = sym (entries_are disk slot (rights slot low) i few dir)

      few_here : count ≤ 64
      few_here = let e = count_is in let f = few_entries disk slot (rights slot low) i few dir in omega (arith, e, f)

      size_here : size_of node ≡ 72 * count
      size_here = let e = count_is in let f = dir_bytes disk slot (rights slot low) i few dir in f ∙ omega (arith, e)

      entries_size : length entries ≡ count
      entries_size = length-listed (entry_of raw) count

      block_size : (j : ℕ) → length (block_under disk (pointer_of node (pointer_at j))) ≡ 1024
      block_size j = under_size disk.blocks disk.image (pointer_of node (pointer_at j))

      raw_byte : (k : ℕ) → k < 1024 * entry_blocks page → byte_at raw k ≡ byte_at (block_under disk (pointer_of node (pointer_at (k / 1024)))) (k % 1024)
      raw_byte k lt = joined_byte (λ j. block_under disk (pointer_of node (pointer_at j))) (entry_blocks page) k block_size lt

      raw_bytes : (k : ℕ) → byte_at raw k < 256
      raw_bytes k = elim (cases_lt k (1024 * entry_blocks page)) [
        | inl lt ↦
            let e = raw_byte k lt in
            let f = under_bytes disk.blocks disk.image (pointer_of node (pointer_at (k / 1024))) bytes (k % 1024) in
            omega (arith, e, f)
        | inr le ↦
            let size = joined_size (λ j. block_under disk (pointer_of node (pointer_at j))) 1024 (entry_blocks page) block_size in
            let e = get_or_past raw k 0 (omega (arith, size, le)) in
            omega (arith, e)
      ]

      raw_cell : (k : ℕ) → k < 72 * count → cell disk.image node (pointer_at (k / 1024)) (k % 1024) ≡ byte_at raw k
      raw_cell k lt =
          let small = few_here in
          sym (under_cell disk.image node (pointer_at (k / 1024)) (k % 1024) (omega arith)) ∙ sym (raw_byte k (omega (arith, lt, small)))

      right_entries : (e : ℕ) → e < count → is_entry raw e ≡ true
      right_entries e lt = entry_right disk slot (rights slot low) i few dir e lt

      dir_content : (k : ℕ) → content_at disk.image node (size_of node) k ≡ get_or (bytes_of entries) k 0
      dir_content k = (λ j. content_at disk.image node (size_here j) k) ∙ by (nat_lt k (72 * count)) refl
        where
          full : length (bytes_of entries) ≡ 72 * count
          full = let e = length-bytes_of entries (each_fits raw count raw_bytes right_entries) in let f = entries_size in omega (arith, e, f)

          by : (a : Bool) → nat_lt k (72 * count) ≡ a → (if a then cell disk.image node (pointer_at (k / 1024)) (k % 1024) else 0) ≡ get_or (bytes_of entries) k 0
          by true e = let lt : k < 72 * count = grind (arith, nat_tests, e) in raw_cell k lt ∙ sym (bytes_spelled raw count raw_bytes right_entries k lt)
          by false e = let le : 72 * count ≤ k = grind (arith, nat_tests, e) in sym (get_or_past (bytes_of entries) k 0 (let f = full in omega (arith, f, le)))

      abbrev own : List AccessEntry
      own = list_of disk slot i 0

      abbrev files : List AccessEntry
      files = list_of disk slot i 1

      abbrev dirs : List AccessEntry
      dirs = list_of disk slot i 2

      both_there : not (page_pointer 1 page == 0) && not (page_pointer 2 page == 0) ≡ true
      both_there = sym (cond-true (byte_at page 0 == 1) (not (page_pointer 1 page == 0) && not (page_pointer 2 page == 0)) _ dir) ∙ other_lists

      files_there : (page_pointer 1 page == 0) ≡ false
      files_there = not_so (page_pointer 1 page == 0) (and_parts (not (page_pointer 1 page == 0)) (not (page_pointer 2 page == 0)) both_there).0

      dirs_there : (page_pointer 2 page == 0) ≡ false
      dirs_there = not_so (page_pointer 2 page == 0) (and_parts (not (page_pointer 1 page == 0)) (not (page_pointer 2 page == 0)) both_there).1

      dir_lists : (which k : ℕ) → k < 1024 → (if nat_lt which 3 then cell disk.image node which k else 0) ≡ get_or (option_map_or list_bytes (slice_get (own ∷ files ∷ dirs ∷ []) which) []) k 0
      dir_lists zero k lt = list_cell 0 k (omega arith) own_there lt
      dir_lists (suc zero) k lt = list_cell 1 k (omega arith) files_there lt
      dir_lists (suc (suc zero)) k lt = list_cell 2 k (omega arith) dirs_there lt
      dir_lists (suc (suc (suc w))) k lt = let off : nat_lt (suc (suc (suc w))) 3 ≡ false = grind (arith, nat_tests) in λ j. if off j then cell disk.image node (suc (suc (suc w))) k else 0

      as_dir : IsKeptAs (Dir entries (own ∷ files ∷ dirs ∷ []))
      as_dir = record {
        is = cond-true (byte_at page 0 == 1) (Dir entries (own ∷ files ∷ dirs ∷ [])) (File own (file_bytes disk slot i) [] None) dir;
        kept = object_is_kept (Dir entries (own ∷ files ∷ dirs ∷ [])) (eqb-true (byte_at page 0) 1 dir) (count_is ∙ sym entries_size) dir_lists dir_content;
        fits = (
          (let e = entries_size in let f = few_here in omega (arith, e, f)),
          each_fits raw count raw_bytes right_entries,
          rise_all (entry_of raw) count (names_rise_at disk slot (rights slot low) i few dir),
          refl,
          (fits_list 0 (omega arith) own_there, (fits_list 1 (omega arith) files_there, (fits_list 2 (omega arith) dirs_there, tt))),
        );
      }

    -- a file
    module _ (no_dir : (byte_at (anode_page disk slot i) 0 == 1) ≡ false) where
      abbrev file_own : List AccessEntry
      file_own = list_of disk slot i 0

      abbrev written : List ℕ
      written = file_bytes disk slot i

      file_kind : byte_at page 0 ≡ 2
      file_kind = by (byte_at page 0 == 1) (byte_at page 0 == 2) refl no_dir facts.object
        where
          by : (a b : Bool) → (byte_at page 0 == 2) ≡ b → a ≡ false → (a || b) ≡ true → byte_at page 0 ≡ 2
          by true b e off is = absurd (false≢true (sym off))
          by false true e off is = eqb-true (byte_at page 0) 2 e
          by false false e off is = absurd (false≢true is)

      small : number_at 4 8 page ≤ 65536
      small = leb-true (number_at 4 8 page) 65536 (sym (cond-false (byte_at page 0 == 1) (nat_le (number_at 4 8 page) 64) _ no_dir) ∙ facts.length_is)

      file_size : size_of node ≡ number_at 4 8 page
      file_size = let le = small in (λ j. min (if no_dir j then 72 * number_at 4 8 page else number_at 4 8 page) 65536) ∙ omega (arith, le)

      data_size : length written ≡ number_at 4 8 page
      data_size = length-listed (content_at disk.image node (bytes_in page)) (bytes_in page) ∙ file_size

      file_content : (k : ℕ) → content_at disk.image node (size_of node) k ≡ get_or written k 0
      file_content k = elim (cases_lt k (size_of node)) [
        | inl lt ↦ sym (get_or-listed (content_at disk.image node (bytes_in page)) (bytes_in page) k 0 lt)
        | inr le ↦
            let off : nat_lt k (size_of node) ≡ false = grind (arith, nat_tests, le) in
            (λ j. if off j then cell disk.image node (pointer_at (k / 1024)) (k % 1024) else 0) ∙ sym (get_or_past written k 0 (let e = length-listed (content_at disk.image node (bytes_in page)) (bytes_in page) in omega (arith, e, le)))
      ]

      none_there : (page_pointer 1 page == 0) && (page_pointer 2 page == 0) ≡ true
      none_there = sym (cond-false (byte_at page 0 == 1) _ ((page_pointer 1 page == 0) && (page_pointer 2 page == 0)) no_dir) ∙ other_lists

      file_lists : (which k : ℕ) → k < 1024 → (if nat_lt which 3 then cell disk.image node which k else 0) ≡ get_or (option_map_or list_bytes (slice_get (file_own ∷ []) which) []) k 0
      file_lists zero k lt = list_cell 0 k (omega arith) own_there lt
      file_lists (suc zero) k lt = no_list_cell 1 k (omega arith) (and_parts (page_pointer 1 page == 0) (page_pointer 2 page == 0) none_there).0
      file_lists (suc (suc zero)) k lt = no_list_cell 2 k (omega arith) (and_parts (page_pointer 1 page == 0) (page_pointer 2 page == 0) none_there).1
      file_lists (suc (suc (suc w))) k lt = let off : nat_lt (suc (suc (suc w))) 3 ≡ false = grind (arith, nat_tests) in λ j. if off j then cell disk.image node (suc (suc (suc w))) k else 0

      as_file : IsKeptAs (File file_own written [] None)
      as_file = record {
        is = cond-false (byte_at page 0 == 1) (Dir (entries_of disk slot i) (list_of disk slot i 0 ∷ list_of disk slot i 1 ∷ list_of disk slot i 2 ∷ [])) (File file_own written [] None) no_dir;
        kept = object_is_kept (File file_own written [] None) file_kind (sym data_size) file_lists file_content;
        fits = ((let e = data_size in let f = small in omega (arith, e, f)), refl, refl, fits_list 0 (omega arith) own_there);
      }

    as_object : (content : Content) × IsKeptAs content
    as_object = elim (cases_Bool (byte_at page 0 == 1)) [
      | inl dir ↦ (Dir (entries_of disk slot i) (list_of disk slot i 0 ∷ list_of disk slot i 1 ∷ list_of disk slot i 2 ∷ []), as_dir dir)
      | inr no_dir ↦ (File (list_of disk slot i 0) (file_bytes disk slot i) [] None, as_file no_dir)
    ]

  -- the anode as the image has it
  pub record IsKeptHere : Type 0 where
    pub kept : kept_at disk.image node ≡ kept_of (anode_of disk slot i)
    pub fits : IfSome (anode_of disk slot i).object FitsObject
    pub tidy : IsTidy disk.image node

  pub here : IsKeptHere
  here = elim (cases_Bool (byte_at page 0 == 0)) [
    | inl free ↦
        let none : (anode_of disk slot i).object ≡ None = cond-true (byte_at page 0 == 0) None _ free in
        record {
          kept = kept_free free ∙ (λ j. option_map_or (object_kept (unique_of page)) (sym none j) (record no_anode { unique = unique_of page }));
          fits = subst (λ (o : Option Object). IfSome o FitsObject) (sym none) tt;
          tidy = tidy_free free;
        }
    | inr used ↦
        let found = as_object used in
        let is = found.1 in
        let there : (anode_of disk slot i).object ≡ Some (record { owner = name_at 76 page; group = name_at 137 page; content = found.0 }) =
        cond-false (byte_at page 0 == 0) None (Some (record { owner = name_at 76 page; group = name_at 137 page; content = content_of disk slot i })) used
        ∙ (λ j. Some (record { owner = name_at 76 page; group = name_at 137 page; content = is.is j })) in
        record {
          kept = is.kept ∙ (λ j. option_map_or (object_kept (unique_of page)) (sym there j) (record no_anode { unique = unique_of page }));
          fits = subst (λ (o : Option Object). IfSome o FitsObject) (sym there) (record { owner = (owner_named used).name; group = (group_named used).name; content = is.fits });
          tidy = tidy_used used;
        }
  ]

-- all of them
module _ (disk : Aggregate) (rights : (slot : ℕ) → slot < 16 → IsRightSlot disk slot) (right : (p : ℕ) → p < (disk.blocks + 255) / 256 → is_count_page disk p ≡ true) (order : IsInOrder disk) (bytes : (k : ℕ) → byte_at disk.image k < 256) where
  -- the place of a page
  place : (p : ℕ) → is_anode p ≡ true → (slot : ℕ) × (i : ℕ) × (slot < 16) × (i < 64) × (p ≡ page_at slot i)
  place p is =
      let at = anode_here p is in
      let low = at.0 in
      let some = at.1 in
      let few = at.2 in
      let eq = at.3 in
      ((p - 2) / 66, (p - 2) % 66 - 1 - 1, low, omega (arith, some, few), eq ∙ omega (arith, some))

  listed_at : (slot n : ℕ) → 1 ≤ n → n ≤ 64 → anode_at (anodes_of disk slot) n ≡ anode_of disk slot (n - 1)
  listed_at slot n some few = unwrap_or-slice_get (anodes_of disk slot) (n - 1) unused_anode ∙ get_or-listed (anode_of disk slot) 64 (n - 1) unused_anode (omega (arith, some, few))

  kept_page : (p : ℕ) → is_anode p ≡ true → kept_at disk.image (node_of disk.blocks disk.image (page_of disk p)) ≡ kept_anodes (anodes_of disk) p
  kept_page p is =
      let at = place p is in
      let slot : ℕ = at.0 in
      let i : ℕ = at.1 in
      let low = at.2 in
      let few = at.3 in
      let eq = at.4 in
      let z : page_at slot i ≡ page_for slot (i + 1) = omega arith in
      let back : i + 1 - 1 ≡ i = omega arith in
      (λ j. kept_at disk.image (node_of disk.blocks disk.image (page_of disk (eq j))))
      ∙ (here disk rights order bytes slot i low few).kept
      ∙ (λ j. kept_of (anode_of disk slot (sym back j)))
      ∙ (λ j. kept_of (sym (listed_at slot (i + 1) (omega arith) (omega (arith, few))) j))
      ∙ sym (kept_here (anodes_of disk) slot (i + 1) low (omega arith) (omega (arith, few)))
      ∙ (λ j. kept_anodes (anodes_of disk) (sym z j)) ∙ (λ j. kept_anodes (anodes_of disk) (sym eq j))

  pub holds : Holds (kept_anodes (anodes_of disk)) disk.blocks (page_of disk) disk.image
  holds = record {
    anode = kept_page;
    counts = counts_hold disk rights right;
    once = λ p b is lt. (let at = place p is in subst (λ (q : ℕ). names (node_of disk.blocks disk.image (page_of disk q)) b ≤ 1) (sym at.4) (once_holds disk rights right at.0 at.1 b at.2 at.3 lt));
    apart = λ p q w b is_p is_q lt map_is below other is.
        let s = place p is_p in
        let t = place q is_q in
        let e = s.4 in
        let f = t.4 in
        apart_holds disk rights right s.0 s.1 t.0 t.1 w b s.2 s.3 t.2 t.3 lt ((λ j. pointer_of (node_of disk.blocks disk.image (page_of disk (sym e j))) 15) ∙ map_is) below other
        ((λ j. pointer_of (node_of disk.blocks disk.image (page_of disk (sym f j))) w) ∙ is);
    tidy = λ p is. (let at = place p is in subst (λ (q : ℕ). IsTidy disk.image (node_of disk.blocks disk.image (page_of disk q))) (sym at.4) (here disk rights order bytes at.0 at.1 at.2 at.3).tidy);
    tail = λ b spare. order.tail b spare.0 spare.1;
    slots = λ p q b is_p is_q apart same lt.
        let s = place p is_p in
        let t = place q is_q in
        let e = s.4 in
        let f = t.4 in
        let few_s = s.3 in
        let few_t = t.3 in
        let one_slot : t.0 ≡ s.0 = omega (arith, e, f, same, few_s, few_t) in
        let g : q ≡ page_at s.0 t.1 = f ∙ (λ j. page_at (one_slot j) t.1) in
        let both = order.apart s.0 s.1 t.1 b s.2 s.3 t.3 (λ is. apart (e ∙ (λ j. page_at s.0 (is j)) ∙ sym g)) lt in
        subst (λ (x : ℕ). names (node_of disk.blocks disk.image (page_of disk x)) b + names (node_of disk.blocks disk.image (page_of disk q)) b ≤ 1) (sym e)
        (subst (λ (x : ℕ). names (node_of disk.blocks disk.image (page_of disk (page_at s.0 s.1))) b + names (node_of disk.blocks disk.image (page_of disk x)) b ≤ 1) (sym g) both);
    bare = λ p is kind.
        let at = place p is in
        let e = at.4 in
        let none : byte_at (anode_page disk at.0 at.1) 0 ≡ 0 = (λ j. byte_at (page_of disk (sym e j)) 0) ∙ (λ j. (kept_page p is j).kind) ∙ kind in
        subst (λ (q : ℕ). HasNoBlocks (node_of disk.blocks disk.image (page_of disk q))) (sym e) (free_blocks disk rights at.0 at.1 at.2 at.3 (grind (arith, nat_tests, none)));
  }

  pub kept : Keeps (anodes_of disk) disk
  kept = record {
    held = holds;
    each = λ slot low. record {
      count = length-listed (anode_of disk slot) 64;
      each = λ n some few. subst (λ (a : Anode). IfSome a.object FitsObject) (sym (listed_at slot n some few)) (here disk rights order bytes slot (n - 1) low (omega (arith, some, few))).fits;
    };
    bytes = bytes;
  }

-- pointers in their range
module _ (disk : Aggregate) (rights : (slot : ℕ) → slot < 16 → IsRightSlot disk slot) (slot i : ℕ) (low : slot < 16) (few : i < 64) where
  in_page : (used : (byte_at (anode_page disk slot i) 0 == 0) ≡ false) → (w : ℕ) → w < 16 → page_pointer w (anode_page disk slot i) ≤ disk.blocks
  in_page used w lt =
      let facts = object_page disk slot (rights slot low) i (object_is disk slot (rights slot low) i few used) in
      leb-true (page_pointer w (anode_page disk slot i)) disk.blocks (each_at (λ v. nat_le (page_pointer v (anode_page disk slot i)) disk.blocks) 16 w facts.pointers lt)

  in_map : (used : (byte_at (anode_page disk slot i) 0 == 0) ≡ false) → (j : ℕ) → j < 52 → map_pointer j (node_at disk slot i).map ≤ disk.blocks
  unfolding is_map
  in_map used j lt = by (is_pointer disk.blocks (number_at 4 72 (anode_page disk slot i))) refl
    where
      by : (a : Bool) → is_pointer disk.blocks (number_at 4 72 (anode_page disk slot i)) ≡ a → map_pointer j (node_at disk slot i).map ≤ disk.blocks
      by true e =
          let facts = object_page disk slot (rights slot low) i (object_is disk slot (rights slot low) i few used) in
          let valid : names_block disk (pointer_of (node_at disk slot i) 15) ≡ true = (λ k. is_pointer disk.blocks (pointer_front (node_at disk slot i) 15 (omega arith) k)) ∙ e in
          let all = (and_parts _ (are_zero 208 816 (node_at disk slot i).map) (map_right disk slot (rights slot low) i few facts.object valid)).0 in
          let test : ℕ → Bool = λ k. nat_le (map_pointer k (node_at disk slot i).map) disk.blocks && (not (byte_at (anode_page disk slot i) 0 == 1) || nat_le (bytes_in (anode_page disk slot i)) (1024 * (12 + k)) || not (map_pointer k (node_at disk slot i).map == 0)) in
          leb-true (map_pointer j (node_at disk slot i).map) disk.blocks (and_parts (nat_le (map_pointer j (node_at disk slot i).map) disk.blocks) _ (each_at test 52 j all lt)).0
      by false e =
          let none = number_none (4 * j) (node_at disk slot i).map (λ k small. ap (λ (l : List ℕ). byte_at l (4 * j + k)) (cond-false (is_pointer disk.blocks (number_at 4 72 (anode_page disk slot i))) _ _ e) ∙ get_or-replicate 1024 (4 * j + k) 0 0 (omega (arith, lt, small))) in
          omega (arith, none)

  pub range_holds : (w : ℕ) → w < 68 → pointer_of (node_at disk slot i) w ≤ disk.blocks
  range_holds w lt = elim (cases_Bool (byte_at (anode_page disk slot i) 0 == 0)) [
    | inl free ↦ (let none = free_blocks disk rights slot i low few free w lt in omega (arith, none))
    | inr used ↦ elim (cases_lt w 16) [
      | inl front ↦ (let e = pointer_front (node_at disk slot i) w front in let f = in_page used w front in omega (arith, e, f))
      | inr back ↦ (let e = pointer_back (node_at disk slot i) w back in let f = in_map used (w - 16) (omega (arith, lt, back)) in omega (arith, e, f))
    ]
  ]

  -- a file has one list
  pub files_hold : byte_at (anode_page disk slot i) 0 ≡ 2 → (pointer_of (node_at disk slot i) 1 ≡ 0) × (pointer_of (node_at disk slot i) 2 ≡ 0)
  files_hold kind =
      let used : (byte_at (anode_page disk slot i) 0 == 0) ≡ false = ap (λ k. k == 0) kind in
      let no_dir : (byte_at (anode_page disk slot i) 0 == 1) ≡ false = ap (λ k. k == 1) kind in
      let facts = object_page disk slot (rights slot low) i (object_is disk slot (rights slot low) i few used) in
      let page : List ℕ = anode_page disk slot i in
      let lists = (and_parts (not (page_pointer 0 page == 0)) (if byte_at page 0 == 1 then not (page_pointer 1 page == 0) && not (page_pointer 2 page == 0) else (page_pointer 1 page == 0) && (page_pointer 2 page == 0)) facts.lists).1 in
      let two = and_parts (page_pointer 1 page == 0) (page_pointer 2 page == 0) (sym (cond-false (byte_at page 0 == 1) _ ((page_pointer 1 page == 0) && (page_pointer 2 page == 0)) no_dir) ∙ lists) in (
        pointer_front (node_at disk slot i) 1 (omega arith) ∙ eqb-true (page_pointer 1 page) 0 two.0,
        pointer_front (node_at disk slot i) 2 (omega arith) ∙ eqb-true (page_pointer 2 page) 0 two.1,
      )

pub faultless_in_order : FaultlessIsInOrder
faultless_in_order disk clean =
    let rights : (slot : ℕ) → slot < 16 → IsRightSlot disk slot = (λ slot low. slot_right disk clean slot low) in
    let right : (p : ℕ) → p < (disk.blocks + 255) / 256 → is_count_page disk p ≡ true = (λ p below. count_right disk clean 0 (omega arith) p below) in
    record {
      range = λ slot i w low few lt. range_holds disk rights slot i low few w lt;
      files = λ slot i low few kind. files_hold disk rights slot i low few kind;
      apart = λ slot i j b low few few_j apart lt. slot_apart disk rights right slot i j b low few few_j apart lt;
      tail = λ b past lt. tail_holds disk rights right b past lt;
    }

pub faultless_keeps : FaultlessKeeps
faultless_keeps disk clean bytes = kept disk (λ slot low. slot_right disk clean slot low) (λ p below. count_right disk clean 0 (omega arith) p below) (faultless_in_order disk clean) bytes
