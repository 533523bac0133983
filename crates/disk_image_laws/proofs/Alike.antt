-- An aggregate over other pages that say the same, and other bytes with the same blocks.
use Rattle.std.proofs.Common.{◌≡◌, ◌<◌, ◌≤◌, ℕ, zero, suc, ◌+◌, ◌-◌, ◌*◌, ◌/◌, ◌%◌, List, [], ◌∷◌, ◌++◌, refl, sym, ◌∙◌, arith, get_or}
use Rattle.std.specs.Prelude.{Bool, true, false, ◌==◌, ◌&&◌, ◌||◌, not, nat_lt, nat_le, replicate, if◌then◌else◌, is_some, Some, None, unwrap_or}
use Rattle.std.proofs.lemmas.Bool.{eq-eqb, false≢true}
use Rattle.base_types.specs.Image.{byte_at, bytes_from}
use Rattle.base_types.specs.Name.{same_name}
use Rattle.tree_objects.specs.declared.content.Content.TheVariants.{Dir, File}
use Rattle.base_outside.proofs.Image.{bytes_from-same}
use Rattle.disk_layout.specs.Numbers.{number_at}
use Rattle.disk_layout.specs.Places.{block_start, page_start, pages_of, SameBlocks}
use Rattle.disk_anode.specs.Anode.{content_at}
use Rattle.disk_anode.specs.Node.{is_pointer, pointer_of, pointer_at, cell, byte_under, node_of}
use Rattle.disk_pages.specs.Anode.{bytes_in, is_free_page, is_object, is_object_page, unique_of}
use Rattle.disk_pages.specs.Blocks.{entry_anode, entry_of, entry_unique, is_entry_block, is_map}
use Rattle.disk_pages.specs.Header.{header_of, id_of, is_header, is_leaving, is_taken_slot, state_of}
use Rattle.disk_pages.specs.Numbers.{is_numbers_page}
use Rattle.disk_pages.specs.Server.{is_server_page, server_of}
use Rattle.disk_pages.specs.Words.{are_zero, each_below, name_at}
use Rattle.disk_pages.specs.declared.header.SlotState.{SlotState}
use Rattle.disk_pages.specs.declared.header.SlotState.TheVariants.{Free, Writable, Clone, Leaving, Arriving, Gone, Unknown}
use Rattle.disk_image.specs.Joined.{joined, listed, some_below, total}
use Rattle.disk_image.specs.Aggregate.{Aggregate, anode_page, header_page, numbers_page, page_of, server_page, anode_number, header_number, node_at, block_under}
use Rattle.disk_image.specs.Anodes as anodes
use Rattle.disk_image.specs.Anodes.{is_root_page, is_slot_anode, block_faults, anode_faults, links_at, entries_in, entry_blocks, entry_bytes, unless, unless_block}
use Rattle.disk_image.specs.Counts.{uses_at, uses_of, is_mapped, is_count, is_count_place, is_count_page, promise_by, promises, capacity_of, object_promise, limit_promise}
use Rattle.disk_image.specs.Faults.{slot_faults, faults_in}
use Rattle.disk_image.specs.Image.{anode_of, content_of, file_bytes, is_clone, list_of, records_of, slot_image, slots_of, image_in}
use Rattle.disk_image.specs.Lists.{list_in}
use Rattle.disk_image.specs.Reach.{is_reached_right, reach_faults}
use Rattle.disk_image.specs.Slots.{are_alike, has_root, is_first, is_slot_header, is_slot_numbers, is_whole, state_at, usable}
use Rattle.disk_image.specs.declared.fault.Rule.TheVariants as rules

pub joined_same : {A : Type 0} (f g : ℕ → List A) (n : ℕ) → ((k : ℕ) → k < n → f k ≡ g k) → joined f n ≡ joined g n
unfolding joined
joined_same f g zero each = refl
joined_same f g (suc n) each = λ j. joined_same f g n (λ k lt. each k (omega arith)) j ++ each n (omega arith) j

total_same : (f g : ℕ → ℕ) (n : ℕ) → ((k : ℕ) → k < n → f k ≡ g k) → total f n ≡ total g n
unfolding total
total_same f g zero each = refl
total_same f g (suc n) each = λ j. total_same f g n (λ k lt. each k (omega arith)) j + each n (omega arith) j

below_same : (f g : ℕ → Bool) (n : ℕ) → ((k : ℕ) → k < n → f k ≡ g k) → each_below f n ≡ each_below g n
unfolding each_below
below_same f g zero each = refl
below_same f g (suc n) each = λ j. below_same f g n (λ k lt. each k (omega arith)) j && each n (omega arith) j

-- What the pages of an aggregate have in common with others: all but the server's, what this one says of the states of
-- slots, and that headers are headers.
pub record SaysSame (disk : Aggregate) (pages : List (List ℕ)) : Type 0 where
  pub page : (p : ℕ) → 1 ≤ p → get_or pages p [] ≡ page_of disk p
  pub state : (slot : ℕ) → slot < 16 → state_of (get_or pages 0 []) (header_page disk slot) ≡ state_at disk slot
  pub header : (slot : ℕ) → slot < 16 → (byte_at (header_page disk slot) 0 ≡ 0 → ⊥)
      → is_header disk.server (get_or pages 0 []) (header_page disk slot) ≡ is_header disk.server (server_page disk) (header_page disk slot)

module _ (disk : Aggregate) (pages : List (List ℕ)) (c : List ℕ) (says : SaysSame disk pages) (same : SameBlocks (pages_of disk.blocks) disk.image c) where
  abbrev new : Aggregate
  new = record disk { pages = pages; image = c }

  anode : (slot i : ℕ) → anode_page new slot i ≡ anode_page disk slot i
  anode slot i = says.page (anode_number slot i) (omega arith)

  header : (slot : ℕ) → header_page new slot ≡ header_page disk slot
  header slot = says.page (header_number slot) (omega arith)

  numbers : (slot : ℕ) → numbers_page new slot ≡ numbers_page disk slot
  numbers slot = says.page (header_number slot + 1) (omega arith)

  state : (slot : ℕ) → slot < 16 → state_at new slot ≡ state_at disk slot
  state slot low = (λ j. state_of (server_page new) (header slot j)) ∙ says.state slot low

  -- the bytes under a pointer
  under : (pointer : ℕ) → block_under new pointer ≡ block_under disk pointer
  under pointer = by (is_pointer disk.blocks pointer)
    where
      by : (a : Bool) → (if a then bytes_from c (block_start (pages_of disk.blocks) (pointer - 1)) 1024 else replicate 1024 0)
          ≡ (if a then bytes_from disk.image (block_start (pages_of disk.blocks) (pointer - 1)) 1024 else replicate 1024 0)
      by true = bytes_from-same c disk.image (block_start (pages_of disk.blocks) (pointer - 1)) 1024 (λ k from below. same k (omega (arith, from)))
      by false = refl

  node : (slot i : ℕ) → node_at new slot i ≡ node_at disk slot i
  node slot i =
      (λ j. node_of disk.blocks c (anode slot i j))
      ∙ (λ j. record { blocks = disk.blocks; page = anode_page disk slot i; map = under (number_at 4 72 (anode_page disk slot i)) j })

  byte_same : (pointer k : ℕ) → byte_under disk.blocks c pointer k ≡ byte_under disk.blocks disk.image pointer k
  byte_same pointer k = by (is_pointer disk.blocks pointer)
    where
      by : (a : Bool) → (if a then byte_at c (block_start (pages_of disk.blocks) (pointer - 1) + k) else 0)
          ≡ (if a then byte_at disk.image (block_start (pages_of disk.blocks) (pointer - 1) + k) else 0)
      by true = same (block_start (pages_of disk.blocks) (pointer - 1) + k) (omega arith)
      by false = refl

  cell_same : (slot i w k : ℕ) → cell c (node_at new slot i) w k ≡ cell disk.image (node_at disk slot i) w k
  unfolding cell
  cell_same slot i w k = (λ j. byte_under (node slot i j).blocks c (pointer_of (node slot i j) w) k) ∙ byte_same (pointer_of (node_at disk slot i) w) k

  -- the faults of an anode and of its blocks
  page_same : (slot i : ℕ) → slot < 16 → is_slot_anode new slot i ≡ is_slot_anode disk slot i
  unfolding is_slot_anode
  page_same slot i low = λ j.
      let page = anode slot i j in
      let root = (i == 0) && has_root (state slot low j) (header slot j) in
      if byte_at page 0 == 0
      then (if byte_at (header slot j) 0 == 0 then are_zero 0 512 page else is_free_page page) && not root
      else is_object_page disk.blocks page && nat_lt i (usable (state slot low j) (header slot j)) && (not root || is_root_page page)

  entry_same : (slot i : ℕ) → entry_bytes new slot i ≡ entry_bytes disk slot i
  entry_same slot i = λ j. joined (λ k. under (pointer_of (node slot i j) (pointer_at k)) j) (entry_blocks (anode slot i j))

  list_same : (slot i w : ℕ) → anodes.list_fault new slot i w ≡ anodes.list_fault disk slot i w
  list_same slot i w = λ j. unless_block disk (pointer_of (node slot i j) w) (is_some (list_in (under (pointer_of (node slot i j) w) j))) rules.ListBlock

  map_same : (slot i : ℕ) → anodes.map_fault new slot i ≡ anodes.map_fault disk slot i
  map_same slot i = λ j.
      unless_block disk (pointer_of (node slot i j) 15) (is_map disk.blocks (byte_at (anode slot i j) 0 == 1) (bytes_in (anode slot i j)) (node slot i j).map) rules.IndirectBlock

  dir_same : (slot i n : ℕ) → anodes.directory_fault new slot i n ≡ anodes.directory_fault disk slot i n
  dir_same slot i n = λ j.
      unless_block disk (pointer_of (node slot i j) (pointer_at n)) (is_entry_block (entries_in (anode slot i j)) (entry_same slot i j) n) rules.DirectoryBlock

  faults_same : (slot i : ℕ) → block_faults new slot i ≡ block_faults disk slot i
  faults_same slot i = λ j.
      joined (λ w. list_same slot i w j) 3 ++ map_same slot i j ++ joined (λ n. dir_same slot i n j) (entry_blocks (anode slot i j))

  anode_same : (slot i : ℕ) → slot < 16 → anode_faults new slot i ≡ anode_faults disk slot i
  unfolding anode_faults
  anode_same slot i low = λ j.
      unless (page_same slot i low j) (page_start (anode_number slot i)) rules.Anode ++ (if is_object (anode slot i j) then faults_same slot i j else [])

  -- headers
  first_same : (slot : ℕ) → slot < 16 → is_first new slot ≡ is_first disk slot
  first_same slot low =
      below_same (λ earlier. not (is_taken_slot (state_at new earlier)) || not (are_alike new earlier slot)) (λ earlier. not (is_taken_slot (state_at disk earlier)) || not (are_alike disk earlier slot)) slot
      (λ k lt. (let small : k < 16 = omega arith in λ j.
      not (is_taken_slot (state k small j))
      || not ((id_of (header k j) == id_of (header slot j)) || same_name (name_at 12 (header k j)) (name_at 12 (header slot j)) || (is_leaving (state k small j) && is_leaving (state slot low j)))))

  header_same : (slot : ℕ) → slot < 16 → is_slot_header new slot ≡ is_slot_header disk slot
  unfolding is_slot_header
  header_same slot low =
      (λ j. if byte_at (header slot j) 0 == 0 then are_zero 0 512 (header slot j) else is_header disk.server (server_page new) (header slot j) && first_same slot low j)
      ∙ by (byte_at (header_page disk slot) 0 == 0) refl
    where
      by : (a : Bool) → (byte_at (header_page disk slot) 0 == 0) ≡ a
          → (if a then are_zero 0 512 (header_page disk slot) else is_header disk.server (server_page new) (header_page disk slot) && is_first disk slot)
          ≡ (if a then are_zero 0 512 (header_page disk slot) else is_header disk.server (server_page disk) (header_page disk slot) && is_first disk slot)
      by true is = refl
      by false is = λ j. says.header slot low (λ zero. false≢true (sym is ∙ eq-eqb (byte_at (header_page disk slot) 0) 0 zero)) j && is_first disk slot

  numbers_same : (slot : ℕ) → is_slot_numbers new slot ≡ is_slot_numbers disk slot
  unfolding is_slot_numbers
  numbers_same slot = λ j. if byte_at (header slot j) 0 == 0 then are_zero 0 512 (numbers slot j) else is_numbers_page (numbers slot j)

  slot_same : (slot : ℕ) → slot < 16 → slot_faults new slot ≡ slot_faults disk slot
  unfolding slot_faults
  slot_same slot low = λ j.
      unless (header_same slot low j) (page_start (header_number slot)) rules.SlotHeader
      ++ unless (numbers_same slot j) (page_start (header_number slot + 1)) rules.CallNumbers ++ joined (λ i. anode_same slot i low j) 64

  -- reach
  link_same : (slot i : ℕ) → links_at new slot i ≡ links_at disk slot i
  unfolding links_at
  link_same slot i = λ j.
      if each_below (λ n. is_pointer disk.blocks (pointer_of (node slot i j) (pointer_at n)) && is_entry_block (entries_in (anode slot i j)) (entry_same slot i j) n) (entry_blocks (anode slot i j))
      then listed (λ e. record { from = i + 1; to = entry_anode (entry_same slot i j) e; unique = entry_unique (entry_same slot i j) e }) (entries_in (anode slot i j))
      else []

  reach_same : (slot : ℕ) → slot < 16 → reach_faults new slot ≡ reach_faults disk slot
  unfolding reach_faults
  reach_same slot low = λ j.
      if is_whole (state slot low j)
      then joined (λ i. unless (is_reached_right (joined (λ k. link_same slot k j) 64) (i + 1) (anode slot i j)) (page_start (anode_number slot i)) rules.Reach) 64
      else []

  -- counts
  mapped_same : (slot i pointer : ℕ) → is_mapped new slot i pointer ≡ is_mapped disk slot i pointer
  unfolding is_mapped
  mapped_same slot i pointer = λ j.
      some_below (λ before. some_below (λ k. is_object (anode before k j) && (pointer_of (node before k j) 15 == pointer)) 64) slot
      || some_below (λ k. is_object (anode slot k j) && (pointer_of (node slot k j) 15 == pointer)) i

  use_same : (slot i : ℕ) → uses_at new slot i ≡ uses_at disk slot i
  unfolding uses_at
  use_same slot i = λ j.
      if is_object (anode slot i j)
      then listed (λ w. record { pointer = pointer_of (node slot i j) w; slot = slot; is_map = w == 15; is_counted = true }) 16
      ++ (if is_pointer disk.blocks (pointer_of (node slot i j) 15)
      then listed (λ k. record { pointer = pointer_of (node slot i j) (16 + k); slot = slot; is_map = false; is_counted = not (mapped_same slot i (pointer_of (node slot i j) 15) j) }) 52
      else [])
      else []

  uses_same : uses_of new ≡ uses_of disk
  uses_same = λ j. joined (λ slot. joined (λ i. use_same slot i j) 64) 16

  place_same : (p k : ℕ) → is_count_place new p k ≡ is_count_place disk p k
  unfolding is_count_place
  place_same p k = (let page = says.page (1058 + p) (omega arith) in λ j.
      if nat_lt (256 * p + k) disk.blocks then is_count (uses_same j) (256 * p + k) (number_at 2 (2 * k) (page j)) else number_at 2 (2 * k) (page j) == 0)

  count_same : (p : ℕ) → is_count_page new p ≡ is_count_page disk p
  unfolding is_count_page
  count_same p = λ j. each_below (λ k. place_same p k j) 256

  promised_by : (state : SlotState) (slot : ℕ) → promise_by state new slot ≡ promise_by state disk slot
  promised_by Free slot = refl
  promised_by Writable slot = λ j. limit_promise (header slot j)
  promised_by Clone slot = λ j. total (λ i. object_promise (anode slot i j)) 64
  promised_by Leaving slot = λ j. limit_promise (header slot j)
  promised_by Arriving slot = λ j. limit_promise (header slot j)
  promised_by Gone slot = refl
  promised_by Unknown slot = refl

  promised_same : promises new ≡ promises disk
  promised_same =
      total_same (λ slot. promise_by (state_at new slot) new slot) (λ slot. promise_by (state_at disk slot) disk slot) 16
      (λ slot low. (λ j. promise_by (state slot low j) new slot) ∙ promised_by (state_at disk slot) slot)

  pub faults_are : is_server_page (server_page new) ≡ is_server_page (server_page disk) → faults_in new ≡ faults_in disk
  unfolding faults_in
  faults_are server = (let one = says.page 1 (omega arith) in
      let slots = joined_same (slot_faults new) (slot_faults disk) 16 slot_same in
      let reach = joined_same (reach_faults new) (reach_faults disk) 16 reach_same in λ j.
      unless (server j) (page_start 0) rules.ServerPage ++ unless (is_numbers_page (one j)) (page_start 1) rules.CallNumbers
      ++ slots j ++ reach j ++ joined (λ p. unless (count_same p j) (page_start (1058 + p)) rules.Count) ((disk.blocks + 255) / 256)
      ++ unless (nat_le (promised_same j) (capacity_of disk)) 0 rules.Promises)

  -- what the anodes hold
  file_same : (slot i : ℕ) → file_bytes new slot i ≡ file_bytes disk slot i
  file_same slot i =
      (λ j. listed (λ k. content_at c (node_at new slot i) (bytes_in (anode slot i j)) k) (bytes_in (anode slot i j)))
      ∙ (λ j. listed (λ k. byte k j) (bytes_in (anode_page disk slot i)))
    where
      byte : (k : ℕ) → content_at c (node_at new slot i) (bytes_in (anode_page disk slot i)) k ≡ content_at disk.image (node_at disk slot i) (bytes_in (anode_page disk slot i)) k
      byte k = λ j. if nat_lt k (bytes_in (anode_page disk slot i)) then cell_same slot i (pointer_at (k / 1024)) (k % 1024) j else 0

  own_list : (slot i w : ℕ) → list_of new slot i w ≡ list_of disk slot i w
  own_list slot i w = λ j. unwrap_or (list_in (under (pointer_of (node slot i j) w) j)) []

  content_same : (slot i : ℕ) → content_of new slot i ≡ content_of disk slot i
  content_same slot i = λ j.
      if byte_at (anode slot i j) 0 == 1
      then Dir (listed (entry_of (entry_same slot i j)) (entries_in (anode slot i j))) (own_list slot i 0 j ∷ own_list slot i 1 j ∷ own_list slot i 2 j ∷ [])
      else File (own_list slot i 0 j) (file_same slot i j) [] None

  pub anode_is : (slot i : ℕ) → anode_of new slot i ≡ anode_of disk slot i
  anode_is slot i = λ j. record {
    unique = unique_of (anode slot i j);
    object = if byte_at (anode slot i j) 0 == 0 then None
        else Some (record { owner = name_at 76 (anode slot i j); group = name_at 137 (anode slot i j); content = content_same slot i j });
  }

  slot_is : (slot : ℕ) → slot < 16 → slot_image new slot ≡ slot_image disk slot
  unfolding header_of
  slot_is slot low = λ j. record {
    slot = slot;
    header = record {
      state = state slot low j;
      id = record { 0 = id_of (header slot j) };
      objects = number_at 4 8 (header slot j);
      name = name_at 12 (header slot j);
      other = byte_at (header slot j) 73;
      moves = number_at 4 76 (header slot j);
      ship = number_at 8 80 (header slot j);
      parts = number_at 4 88 (header slot j);
    };
    numbers = records_of (numbers slot j);
    fileset = record {
      server = record { 0 = disk.server };
      id = record { 0 = id_of (header slot j) };
      name = name_at 12 (header slot j);
      read_only = is_clone (state slot low j);
      objects = number_at 4 8 (header slot j);
      moves = number_at 4 76 (header slot j);
      anodes = listed (λ i. anode_is slot i j) (number_at 4 8 (header slot j));
    };
  }

  slots_are : slots_of new ≡ slots_of disk
  slots_are =
      joined_same (λ slot. if is_taken_slot (state_at new slot) then slot_image new slot ∷ [] else []) (λ slot. if is_taken_slot (state_at disk slot) then slot_image disk slot ∷ [] else []) 16
      (λ slot low. (λ j. if is_taken_slot (state slot low j) then slot_is slot low j ∷ [] else []))

  pub image_is : image_in new ≡ record (image_in disk) { facts = server_of (server_page new) }
  image_is = (let one = says.page 1 (omega arith) in let slots = slots_are in λ j. record {
    server = disk.server;
    facts = server_of (server_page new);
    numbers = records_of (one j);
    slots = slots j;
    promised = promised_same j;
    capacity = capacity_of disk;
  })
