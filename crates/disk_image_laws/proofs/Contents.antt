-- What the pages of a slot say where an aggregate has no faults.
use Rattle.std.proofs.Common.{◌≡◌, ◌<◌, ◌≤◌, ℕ, zero, suc, ◌+◌, ◌-◌, ◌*◌, ◌/◌, List, [], inl, inr, refl, sym, subst, ◌∙◌, ap, arith}
use Rattle.std.specs.Prelude.{Bool, true, false, not, min, nat_le, nat_lt, ◌&&◌, ◌||◌, ◌==◌, if◌then◌else◌}
use Rattle.std.specs.List.{AllByRecursion}
use Rattle.std.proofs.lemmas.Bool.{cases_Bool, cases_eq, and_parts, and_from, or_cases, cond-true, cond-false, cond_both, false≢true, ltb-true, leb-true, lt-ltb, eqb-true, eq-eqb, ne_eqb}
use Rattle.base_types.specs.Image.{byte_at}
use Rattle.base_types.specs.Name.{is_before}
use Rattle.tree_objects.proofs.Rising.{before_trans}
use Rattle.disk_layout.specs.Numbers.{number_at}
use Rattle.disk_anode.specs.Node.{pointer_of, pointer_at}
use Rattle.disk_anode.proofs.Pointers.{pointer_front}
use Rattle.disk_pages.specs.Words.{each_below, are_zero, is_name_at}
use Rattle.disk_pages.specs.Anode.{is_object, is_object_page, is_length, are_lists, has_no_hole, page_pointer, bytes_in}
use Rattle.disk_pages.specs.Blocks.{is_entry, is_entry_block, entry_name, entry_anode}
use Rattle.disk_pages.specs.Header.{is_header, is_limit}
use Rattle.disk_pages.specs.declared.header.SlotState.{SlotState}
use Rattle.disk_pages.specs.declared.header.SlotState.TheVariants.{Free, Writable, Clone, Leaving, Arriving, Gone, Unknown}
use Rattle.disk_image.specs.Joined.{joined, listed}
use Rattle.disk_image.specs.Aggregate.{Aggregate, server_page, header_page, anode_page, node_at, names_block}
use Rattle.disk_image.specs.Slots.{state_at, is_whole, is_slot_free, is_slot_header, is_first, limit_of, usable, has_root}
use Rattle.disk_image.specs.Anodes.{is_slot_anode, is_root_place, is_root_page, entries_in, entry_blocks, entry_pointer, entry_bytes, is_directory_block, is_readable, link_of, links_at}
use Rattle.disk_image.specs.Reach.{links_of}
use Rattle.disk_image.specs.declared.found.Link.{Link}
use Rattle.disk_image_laws.proofs.Clean.{IsRightSlot, anode_right, directory_right}
use Rattle.disk_image_laws.proofs.Finding.{each_at, each_all, all_joined, all_listed}

whole_usable : (state : SlotState) (header : List ℕ) → is_whole state ≡ true → usable state header ≡ limit_of header
whole_usable Free header whole = absurd (false≢true whole)
whole_usable Writable header whole = refl
whole_usable Clone header whole = refl
whole_usable Leaving header whole = refl
whole_usable Arriving header whole = absurd (false≢true whole)
whole_usable Gone header whole = absurd (false≢true whole)
whole_usable Unknown header whole = absurd (false≢true whole)

whole_root : (state : SlotState) (header : List ℕ) → is_whole state ≡ true → has_root state header ≡ true
whole_root Free header whole = absurd (false≢true whole)
whole_root Writable header whole = refl
whole_root Clone header whole = refl
whole_root Leaving header whole = refl
whole_root Arriving header whole = absurd (false≢true whole)
whole_root Gone header whole = absurd (false≢true whole)
whole_root Unknown header whole = absurd (false≢true whole)

module _ (disk : Aggregate) (slot : ℕ) (right : IsRightSlot disk slot) where
  abbrev pub page : ℕ → List ℕ
  page i = anode_page disk slot i

  -- the page of an anode that isn't free is that of a file or directory
  pub object_is : (i : ℕ) → i < 64 → (byte_at (page i) 0 == 0) ≡ false → is_object_page disk.blocks (page i) ≡ true
  unfolding is_slot_anode
  object_is i low kind =
      let all = sym (cond-false (byte_at (page i) 0 == 0) _ _ kind) ∙ anode_right disk slot right i low in
      let two = and_parts (is_object_page disk.blocks (page i) && nat_lt i (usable (state_at disk slot) (header_page disk slot))) (not (is_root_place disk slot i) || is_root_page (page i)) all in
      (and_parts (is_object_page disk.blocks (page i)) (nat_lt i (usable (state_at disk slot) (header_page disk slot))) two.0).0

  -- a file or directory
  pub record IsObjectPage (i : ℕ) : Type 0 where
    pub object : is_object (page i) ≡ true
    pub first : are_zero 1 3 (page i) ≡ true
    pub length_is : is_length (page i) ≡ true
    pub pointers : each_below (λ w. nat_le (page_pointer w (page i)) disk.blocks) 16 ≡ true
    pub lists : are_lists (page i) ≡ true
    pub holes : has_no_hole (page i) ≡ true
    pub owner : is_name_at 76 (page i) ≡ true
    pub group : is_name_at 137 (page i) ≡ true
    pub rest : are_zero 198 314 (page i) ≡ true

  pub object_page : (i : ℕ) → is_object_page disk.blocks (page i) ≡ true → IsObjectPage i
  unfolding is_object_page
  object_page i is =
      let g = and_parts _ (are_zero 198 314 (page i)) is in
      let h = and_parts _ (is_name_at 137 (page i)) g.0 in
      let o = and_parts _ (is_name_at 76 (page i)) h.0 in
      let b = and_parts _ (has_no_hole (page i)) o.0 in
      let c = and_parts _ (are_lists (page i)) b.0 in
      let d = and_parts _ (each_below (λ w. nat_le (page_pointer w (page i)) disk.blocks) 16) c.0 in
      let e = and_parts _ (is_length (page i)) d.0 in
      let f = and_parts (is_object (page i)) (are_zero 1 3 (page i)) e.0 in
      record {
        object = f.0;
        first = f.1;
        length_is = e.1;
        pointers = d.1;
        lists = c.1;
        holes = b.1;
        owner = o.1;
        group = h.1;
        rest = g.1;
      }

  -- a directory
  module _ (i : ℕ) (low : i < 64) (dir : (byte_at (page i) 0 == 1) ≡ true) where
    kind : (byte_at (page i) 0 == 0) ≡ false
    kind = ap (λ b. b == 0) (eqb-true (byte_at (page i) 0) 1 dir)

    pub dir_page : IsObjectPage i
    dir_page = object_page i (object_is i low kind)

    abbrev size : ℕ
    size = number_at 4 8 (page i)

    pub few_entries : size ≤ 64
    few_entries = leb-true size 64 (sym (cond-true (byte_at (page i) 0 == 1) (nat_le size 64) _ dir) ∙ dir_page.length_is)

    pub dir_bytes : bytes_in (page i) ≡ 72 * size
    dir_bytes = (λ j. min (cond-true (byte_at (page i) 0 == 1) (72 * size) size dir j) 65536) ∙ (let few = few_entries in omega (arith, few))

    pub entries_are : entries_in (page i) ≡ size
    entries_are = cond-true (byte_at (page i) 0 == 1) (bytes_in (page i) / 72) 0 dir ∙ (let e = dir_bytes in omega (arith, e))

    pub named_block : (n : ℕ) → n < entry_blocks (page i) → names_block disk (entry_pointer disk slot i n) ≡ true
    named_block n below =
        let few = few_entries in
        let count = entries_are in
        let bytes = dir_bytes in
        let low_n : n < 12 = omega (arith, few, count, below) in
        let inside : 1024 * n < bytes_in (page i) = omega (arith, bytes, count, below) in
        let at : pointer_of (node_at disk slot i) (pointer_at n) ≡ page_pointer (3 + n) (page i) =
        ap (pointer_of (node_at disk slot i)) (cond-true (nat_lt n 12) (n + 3) (n + 4) (lt-ltb n 12 low_n))
        ∙ pointer_front (node_at disk slot i) (n + 3) (omega (arith, low_n)) ∙ (let e : 12 + 4 * (n + 3) ≡ 12 + 4 * (3 + n) = omega arith in ap (λ k. number_at 4 k (page i)) e) in
        let there = each_at (λ w. nat_le (page_pointer w (page i)) disk.blocks) 16 (3 + n) dir_page.pointers (omega (arith, low_n)) in
        let hole = each_at (λ k. not (byte_at (page i) 0 == 1) || nat_le (bytes_in (page i)) (1024 * k) || not (page_pointer (3 + k) (page i) == 0)) 12 n dir_page.holes low_n in
        (λ j. nat_lt 0 (at j) && nat_le (at j) disk.blocks)
        ∙ and_from (nat_lt 0 (page_pointer (3 + n) (page i))) (nat_le (page_pointer (3 + n) (page i)) disk.blocks) (some n inside hole) there
      where
        some : (n : ℕ) → 1024 * n < bytes_in (page i) → (not (byte_at (page i) 0 == 1) || nat_le (bytes_in (page i)) (1024 * n) || not (page_pointer (3 + n) (page i) == 0)) ≡ true
            → nat_lt 0 (page_pointer (3 + n) (page i)) ≡ true
        some n inside hole = elim (or_cases (not (byte_at (page i) 0 == 1) || nat_le (bytes_in (page i)) (1024 * n)) (not (page_pointer (3 + n) (page i) == 0)) hole) [
          | inl rest ↦ elim (or_cases (not (byte_at (page i) 0 == 1)) (nat_le (bytes_in (page i)) (1024 * n)) rest) [
            | inl no_dir ↦ absurd (false≢true (sym (λ j. not (dir j)) ∙ no_dir))
            | inr short ↦ let le = leb-true (bytes_in (page i)) (1024 * n) short in absurd (omega (arith, le, inside))
          ]
          | inr not_zero ↦ elim (cases_eq (page_pointer (3 + n) (page i)) 0) [
            | inl e ↦ absurd (false≢true (sym (λ j. not (eq-eqb (page_pointer (3 + n) (page i)) 0 e j)) ∙ not_zero))
            | inr apart ↦ lt-ltb 0 (page_pointer (3 + n) (page i)) (omega (arith, apart))
          ]
        ]

    block_right : (n : ℕ) → n < entry_blocks (page i) → is_directory_block disk slot i n ≡ true
    block_right n below = directory_right disk slot right i n low dir_page.object below (named_block n below)

    readable : is_readable disk slot i ≡ true
    readable = each_all (λ n. names_block disk (entry_pointer disk slot i n) && is_directory_block disk slot i n) (entry_blocks (page i)) (λ n below. and_from (names_block disk (entry_pointer disk slot i n)) (is_directory_block disk slot i n) (named_block n below) (block_right n below))

    pub links_are : links_at disk slot i ≡ listed (link_of disk slot i) (entries_in (page i))
    unfolding links_at
    links_are = cond-true (is_readable disk slot i) (listed (link_of disk slot i) (entries_in (page i))) [] readable

    -- each entry is one
    abbrev pub bytes : List ℕ
    bytes = entry_bytes disk slot i

    pub entry_right : (e : ℕ) → e < entries_in (page i) → is_entry bytes e ≡ true
    unfolding is_entry_block
    entry_right e below =
        let n : ℕ = 72 * e / 1024 in
        let block = (and_parts (each_below (λ k. not (72 * k / 1024 == n) || is_entry bytes k) (entries_in (page i))) _ (block_right n (omega (arith, below)))).0 in
        let one = each_at (λ k. not (72 * k / 1024 == n) || is_entry bytes k) (entries_in (page i)) e block below in
        sym (λ j. not (eq-eqb n n refl j) || is_entry bytes e) ∙ one

    pub record IsEntryAt (e : ℕ) : Type 0 where
      pub some : 1 ≤ entry_anode bytes e
      pub few : entry_anode bytes e ≤ 64
      pub rises : ((e == 0) || is_before (entry_name bytes (e - 1)) (entry_name bytes e)) ≡ true

    pub entry_facts : (e : ℕ) → e < entries_in (page i) → IsEntryAt e
    unfolding is_entry
    entry_facts e below =
        let a = and_parts _ ((e == 0) || is_before (entry_name bytes (e - 1)) (entry_name bytes e)) (entry_right e below) in
        let b = and_parts _ (nat_le (entry_anode bytes e) 64) a.0 in
        let d = and_parts _ (nat_le 1 (entry_anode bytes e)) b.0 in
        record { some = leb-true 1 (entry_anode bytes e) d.1; few = leb-true (entry_anode bytes e) 64 b.1; rises = a.1 }

    -- names rise
    pub names_rise_at : (j k : ℕ) → j < k → k < entries_in (page i) → is_before (entry_name bytes j) (entry_name bytes k) ≡ true
    names_rise_at j zero less below = absurd (omega arith)
    names_rise_at j (suc k) less below =
        let e : suc k - 1 ≡ k = omega arith in
        let none : (suc k == 0) ≡ false = ne_eqb (suc k) 0 (λ z. absurd (omega (arith, z))) in
        let one : is_before (entry_name bytes (suc k - 1)) (entry_name bytes (suc k)) ≡ true = (λ j. sym none j || is_before (entry_name bytes (suc k - 1)) (entry_name bytes (suc k))) ∙ (entry_facts (suc k) below).rises in
        let step : is_before (entry_name bytes k) (entry_name bytes (suc k)) ≡ true = ap (λ m. is_before (entry_name bytes m) (entry_name bytes (suc k))) (sym e) ∙ one in
        elim (cases_eq j k) [
          | inl same ↦ ap (λ m. is_before (entry_name bytes m) (entry_name bytes (suc k))) same ∙ step
          | inr apart ↦ before_trans (entry_name bytes j) (entry_name bytes k) (entry_name bytes (suc k)) (names_rise_at j k (omega (arith, apart)) (omega arith)) step
        ]

  -- an anode that is no directory has no entries
  pub no_links : (i : ℕ) → (byte_at (page i) 0 == 1) ≡ false → links_at disk slot i ≡ []
  unfolding links_at joined
  no_links i no_dir =
      let none : entries_in (page i) ≡ 0 = cond-false (byte_at (page i) 0 == 1) (bytes_in (page i) / 72) 0 no_dir in
      (λ j. if is_readable disk slot i then listed (link_of disk slot i) (none j) else [])
      ∙ cond_both (is_readable disk slot i) [] [] (λ l. l ≡ []) (λ e. refl) (λ e. refl)

  -- where a link stands: entry j of the directory at anode i
  pub record IsLinkAt (i j : ℕ) (link : Link) : Type 0 where
    pub low : i < 64
    pub dir : (byte_at (page i) 0 == 1) ≡ true
    pub below : j < entries_in (page i)
    pub is : link ≡ link_of disk slot i j

  abbrev pub IsLink : Link → Type 0
  IsLink link = (i : ℕ) × (j : ℕ) × IsLinkAt i j link

  links_in : (i : ℕ) → i < 64 → AllByRecursion IsLink (links_at disk slot i)
  links_in i low = elim (cases_Bool (byte_at (page i) 0 == 1)) [
    | inl dir ↦ over (listed (link_of disk slot i) (entries_in (page i))) (links_are i low dir) (all_listed IsLink (link_of disk slot i) (entries_in (page i)) (λ j below. (i, j, record { low = low; dir = dir; below = below; is = refl })))
    | inr no_dir ↦ over [] (no_links i no_dir) tt
  ]
    where
      over : (links : List Link) → links_at disk slot i ≡ links → AllByRecursion IsLink links → AllByRecursion IsLink (links_at disk slot i)
      over links is all = let P : List Link → Type 0 = λ l. AllByRecursion IsLink l in subst P (sym is) all

  pub links_known : AllByRecursion IsLink (links_of disk slot)
  links_known = all_joined IsLink (links_at disk slot) 64 links_in

module _ (disk : Aggregate) (slot : ℕ) (right : IsRightSlot disk slot) (whole : is_whole (state_at disk slot) ≡ true) where
  abbrev pub header : List ℕ
  header = header_page disk slot

  abbrev pub objects : ℕ
  objects = number_at 4 8 header

  used : is_slot_free disk slot ≡ false
  used = elim (cases_Bool (is_slot_free disk slot)) [
    | inl is ↦
        let free : state_at disk slot ≡ Free = cond-true (is_slot_free disk slot) Free _ is in
        absurd (false≢true (ap is_whole (sym free) ∙ whole))
    | inr not_so ↦ not_so
  ]

  header_is : is_header disk.server (server_page disk) header ≡ true
  unfolding is_slot_header
  header_is = (and_parts (is_header disk.server (server_page disk) header) (is_first disk slot) (sym (cond-false (is_slot_free disk slot) _ _ used) ∙ right.header)).0

  limit_is : is_limit objects ≡ true
  unfolding is_header
  limit_is = (and_parts _ _ (and_parts _ _ (and_parts _ _ header_is).0).0).1

  pub few_objects : (1 ≤ objects) × (objects ≤ 64)
  few_objects = let parts = and_parts (nat_le 1 objects) (nat_le objects 64) limit_is in (leb-true 1 objects parts.0, leb-true objects 64 parts.1)

  usable_is : usable (state_at disk slot) header ≡ objects
  usable_is = whole_usable (state_at disk slot) header whole ∙ cond-true (is_limit objects) objects 64 limit_is

  -- the page of an anode that isn't free
  pub record IsUsedPage (i : ℕ) : Type 0 where
    pub object : is_object_page disk.blocks (anode_page disk slot i) ≡ true
    pub below : i < objects
    pub root : is_root_place disk slot i ≡ true → is_root_page (anode_page disk slot i) ≡ true

  root_or : (a b : Bool) → (not a || b) ≡ true → a ≡ true → b ≡ true
  root_or a b either is = sym (λ j. not (is j) || b) ∙ either

  pub used_page : (i : ℕ) → i < 64 → (byte_at (anode_page disk slot i) 0 == 0) ≡ false → IsUsedPage i
  unfolding is_slot_anode
  used_page i low kind =
      let all = sym (cond-false (byte_at (anode_page disk slot i) 0 == 0) _ _ kind) ∙ anode_right disk slot right i low in
      let two = and_parts (is_object_page disk.blocks (anode_page disk slot i) && nat_lt i (usable (state_at disk slot) header)) (not (is_root_place disk slot i) || is_root_page (anode_page disk slot i)) all in
      let one = and_parts (is_object_page disk.blocks (anode_page disk slot i)) (nat_lt i (usable (state_at disk slot) header)) two.0 in
      record {
        object = one.0;
        below = ltb-true i objects (sym (λ j. nat_lt i (usable_is j)) ∙ one.1);
        root = root_or (is_root_place disk slot i) (is_root_page (anode_page disk slot i)) two.1;
      }

  root_place : is_root_place disk slot 0 ≡ true
  root_place = whole_root (state_at disk slot) header whole

  -- the root
  pub root_kind : (byte_at (anode_page disk slot 0) 0 == 0) ≡ false
  unfolding is_slot_anode
  root_kind = elim (cases_Bool (byte_at (anode_page disk slot 0) 0 == 0)) [
    | inl is ↦
        let all = sym (cond-true (byte_at (anode_page disk slot 0) 0 == 0) _ _ is) ∙ anode_right disk slot right 0 (omega arith) in
        absurd (false≢true (sym (λ j. not (root_place j)) ∙ (and_parts _ (not (is_root_place disk slot 0)) all).1))
    | inr not_so ↦ not_so
  ]

  pub root_page : is_root_page (anode_page disk slot 0) ≡ true
  root_page = (used_page 0 (omega arith) root_kind).root root_place
