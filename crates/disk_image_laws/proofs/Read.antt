-- Anodes that are kept, as the image of a disk has them.
use Rattle.std.proofs.Common.{◌≡◌, ◌<◌, ◌≤◌, ℕ, ◌+◌, ◌-◌, ◌*◌, ◌/◌, ◌%◌, List, [], ◌∷◌, length, take, get_or, refl, sym, ◌∙◌, subst, arith}
use Rattle.std.specs.Prelude.{Bool, true, false, IsTrue, ◌==◌, ◌&&◌, if◌then◌else◌, nat_lt, min, Option, Some, None, IfSome, slice_get, unwrap_or}
use Rattle.std.specs.Option.{option_map_or}
use Rattle.std.proofs.lemmas.Bool.Decides.{nat_tests}
use Rattle.std.proofs.lemmas.List.{get_or-take, length-take-le}
use Rattle.std.proofs.lemmas.Option.{unwrap_or-slice_get}
use Rattle.base_types.specs.Image.{byte_at}
use Rattle.base_types.specs.declared.access.AccessEntry.{AccessEntry}
use Rattle.tree_calls.specs.declared.part.DirEntry.{DirEntry}
use Rattle.tree_objects.specs.declared.content.Anode.{Anode}
use Rattle.tree_objects.specs.declared.content.Content.{Content}
use Rattle.tree_objects.specs.declared.content.Content.TheVariants.{Dir, File}
use Rattle.tree_objects.specs.declared.content.Object.{Object}
use Rattle.tree_filesets.specs.Founding.{unused_anode}
use Rattle.tree_filesets.specs.Laws.{lists_in}
use Rattle.disk_layout.specs.Numbers.{number_at}
use Rattle.disk_anode.specs.Anode.{anode_of as kept_at, content_at}
use Rattle.disk_anode.specs.Node.{pointer_of, pointer_at, cell, node_of}
use Rattle.disk_lists.specs.Lists.{list_bytes}
use Rattle.disk_lists.specs.Entries.{bytes_of}
use Rattle.disk_lists.proofs.Laid.{name_short}
use Rattle.disk_objects.specs.Holds.{no_anode}
use Rattle.disk_pages.specs.Words.{name_at}
use Rattle.disk_pages.specs.Anode.{unique_of, bytes_in}
use Rattle.disk_pages.specs.Blocks.{entry_of}
use Rattle.disk_image.specs.Aggregate.{Aggregate, page_of, header_page, anode_page, anode_number, node_at, block_under}
use Rattle.disk_image.specs.Anodes.{entries_in, entry_blocks, entry_bytes}
use Rattle.disk_image.specs.Lists.{list_in}
use Rattle.disk_image.specs.Image.{list_of, file_bytes, entries_of, content_of, anode_of, fileset_of}
use Rattle.disk_image_laws.proofs.Lists.{saved_is_read}
use Rattle.base_types.specs.Name.{is_name}
use Rattle.tree_objects.specs.Objects.{is_dir}
use Rattle.disk_objects.specs.Objects.{bytes_kept, length_kept, object_kept, kept_of, page_for, anode_at, FitsList, FitsContent, FitsObject}
use Rattle.disk_objects.proofs.Places.{page_is, kept_here}
use Rattle.disk_image_laws.specs.ObjectLaws.{Keeps}
use Rattle.disk_image_laws.proofs.Parts.{listed_is, name_read, under_cell, under_size, under_bytes, joined_byte, entry_read}

no_entry : DirEntry
no_entry = record { name = []; anode = 0; unique = 0 }

module _ (disk : Aggregate) (slots : ℕ → List Anode) (keeps : Keeps slots disk) (slot n : ℕ) (low : slot < 16) (some : 1 ≤ n) (few : n ≤ 64) where
  -- what the anode's page and blocks hold
  pub kept_is : kept_at disk.image (node_at disk slot (n - 1)) ≡ kept_of (anode_at (slots slot) n)
  kept_is =
      let at : anode_number slot (n - 1) ≡ page_for slot n = omega (arith, some) in
      (λ i. kept_at disk.image (node_of disk.blocks disk.image (page_of disk (at i))))
      ∙ keeps.held.anode (page_for slot n) (page_is slot n low some few) ∙ kept_here slots slot n low some few

  -- an object there
  module _ (unique : ℕ) (owner group : List ℕ) (content : Content)
      (is : kept_at disk.image (node_at disk slot (n - 1)) ≡ object_kept unique (record { owner = owner; group = group; content = content })) where
    -- the block of a list is read as it
    pub block_read : (w : ℕ) (list : List AccessEntry) → w < 3 → slice_get (lists_in content) w ≡ Some list → FitsList list → list_in (block_under disk (pointer_of (node_at disk slot (n - 1)) w)) ≡ Some list
    block_read w list lt there fits =
        let block : List ℕ = block_under disk (pointer_of (node_at disk slot (n - 1)) w) in
        let size = under_size disk.blocks disk.image (pointer_of (node_at disk slot (n - 1)) w) in
        saved_is_read list block size bytes_here (record { bytes = same; list = fits.0; each = fits.1 })
      where
        cell_is : (k : ℕ) → k < 1024 → cell disk.image (node_at disk slot (n - 1)) w k ≡ get_or (list_bytes list) k 0
        cell_is k low_k =
            let a : nat_lt w 3 ≡ true = grind (arith, nat_tests, lt) in
            let b : nat_lt k 1024 ≡ true = grind (arith, nat_tests, low_k) in
            (λ i. if sym a i && sym b i then cell disk.image (node_at disk slot (n - 1)) w k else 0)
            ∙ (λ i. (is i).lists w k)
            ∙ (λ i. if b i then get_or (option_map_or list_bytes (slice_get (lists_in content) w) []) k 0 else 0)
            ∙ (λ i. get_or (option_map_or list_bytes (there i) []) k 0)

        same : (k : ℕ) → k < 1024 → byte_at (block_under disk (pointer_of (node_at disk slot (n - 1)) w)) k ≡ get_or (list_bytes list) k 0
        same k low_k = under_cell disk.image (node_at disk slot (n - 1)) w k low_k ∙ cell_is k low_k

        bytes_here : (k : ℕ) → byte_at (block_under disk (pointer_of (node_at disk slot (n - 1)) w)) k < 256
        bytes_here k = under_bytes disk.blocks disk.image (pointer_of (node_at disk slot (n - 1)) w) keeps.bytes k

    list_read : (w : ℕ) (list : List AccessEntry) → w < 3 → slice_get (lists_in content) w ≡ Some list → FitsList list → list_of disk slot (n - 1) w ≡ list
    list_read w list lt there fits = let read = block_read w list lt there fits in λ i. unwrap_or (read i) []

    -- and its first byte is how many entries it has
    pub list_cell : (w : ℕ) (list : List AccessEntry) → w < 3 → slice_get (lists_in content) w ≡ Some list → cell disk.image (node_at disk slot (n - 1)) w 0 ≡ length list
    list_cell w list lt there =
        let a : nat_lt w 3 ≡ true = grind (arith, nat_tests, lt) in
        (λ i. if sym a i && true then cell disk.image (node_at disk slot (n - 1)) w 0 else 0)
        ∙ (λ i. (is i).lists w 0) ∙ (λ i. get_or (option_map_or list_bytes (there i) []) 0 0)

    unique_read : unique_of (anode_page disk slot (n - 1)) ≡ unique
    unique_read = λ i. (is i).unique

    pub owner_read : IsTrue (is_name owner) → name_at 76 (anode_page disk slot (n - 1)) ≡ owner
    owner_read name = name_read (anode_page disk slot (n - 1)) 76 owner (λ i. (is i).owner) (name_short owner name)

    pub group_read : IsTrue (is_name group) → name_at 137 (anode_page disk slot (n - 1)) ≡ group
    group_read name = name_read (anode_page disk slot (n - 1)) 137 group (λ i. (is i).group) (name_short group name)

    -- a byte below the end of its content
    byte_read : (k : ℕ) → k < bytes_in (anode_page disk slot (n - 1)) → cell disk.image (node_at disk slot (n - 1)) (pointer_at (k / 1024)) (k % 1024) ≡ get_or (bytes_kept content) k 0
    byte_read k lt =
        let a : nat_lt k (bytes_in (anode_page disk slot (n - 1))) ≡ true = grind (arith, nat_tests, lt) in
        (λ i. if sym a i then cell disk.image (node_at disk slot (n - 1)) (pointer_at (k / 1024)) (k % 1024) else 0) ∙ (λ i. (is i).content k)

    pub kind_read : byte_at (anode_page disk slot (n - 1)) 0 ≡ (if is_dir content then 1 else 2)
    kind_read = λ i. (is i).kind

    pub length_read : number_at 4 8 (anode_page disk slot (n - 1)) ≡ length_kept content
    length_read = λ i. (is i).length

  -- a directory
  module _ (unique : ℕ) (owner group : List ℕ) (entries : List DirEntry) (lists : List (List AccessEntry)) (fits : FitsContent (Dir entries lists))
      (is : kept_at disk.image (node_at disk slot (n - 1)) ≡ object_kept unique (record { owner = owner; group = group; content = Dir entries lists })) where
    pub dir_kind : byte_at (anode_page disk slot (n - 1)) 0 ≡ 1
    dir_kind = kind_read unique owner group (Dir entries lists) is

    pub dir_length : number_at 4 8 (anode_page disk slot (n - 1)) ≡ length entries
    dir_length = length_read unique owner group (Dir entries lists) is

    pub one_test : (byte_at (anode_page disk slot (n - 1)) 0 == 1) ≡ true
    one_test = let e = dir_kind in grind (arith, nat_tests, e)

    pub dir_bytes : bytes_in (anode_page disk slot (n - 1)) ≡ 72 * length entries
    dir_bytes =
        let e = one_test in
        let f = dir_length in
        let le = fits.0 in
        (λ i. min (if e i then 72 * number_at 4 8 (anode_page disk slot (n - 1)) else number_at 4 8 (anode_page disk slot (n - 1))) 65536)
        ∙ (λ i. min (72 * f i) 65536) ∙ omega (arith, le)

    pub dir_count : entries_in (anode_page disk slot (n - 1)) ≡ length entries
    dir_count =
        let e = one_test in
        let f = dir_bytes in
        (λ i. if e i then f i / 72 else 0) ∙ omega arith

    pub entry_byte : (k : ℕ) → k < 72 * length entries → byte_at (entry_bytes disk slot (n - 1)) k ≡ get_or (bytes_of entries) k 0
    entry_byte k lt =
        let count = dir_count in
        let size = dir_bytes in
        joined_byte (λ j. block_under disk (pointer_of (node_at disk slot (n - 1)) (pointer_at j))) (entry_blocks (anode_page disk slot (n - 1))) k
        (λ j. under_size disk.blocks disk.image (pointer_of (node_at disk slot (n - 1)) (pointer_at j))) (omega (arith, count, lt))
        ∙ under_cell disk.image (node_at disk slot (n - 1)) (pointer_at (k / 1024)) (k % 1024) (omega arith)
        ∙ byte_read unique owner group (Dir entries lists) is k (omega (arith, size, lt))

    pub entries_read : entries_of disk slot (n - 1) ≡ entries
    entries_read =
        listed_is (entry_of (entry_bytes disk slot (n - 1))) entries (entries_in (anode_page disk slot (n - 1))) no_entry (sym dir_count)
        (λ e lt. (let count = dir_count in entry_read entries (entry_bytes disk slot (n - 1)) e no_entry fits.1 fits.2 (omega (arith, count, lt)) entry_byte))

    dir_read : content_of disk slot (n - 1) ≡ Dir entries lists
    dir_read = by lists fits is
      where
        by : (lists : List (List AccessEntry)) → FitsContent (Dir entries lists)
            → kept_at disk.image (node_at disk slot (n - 1)) ≡ object_kept unique (record { owner = owner; group = group; content = Dir entries lists })
            → content_of disk slot (n - 1) ≡ Dir entries lists
        by (a ∷ b ∷ c ∷ []) fits is =
            let e = one_test in
            let all = entries_read in
            let first = fits.4 in
            let second = first.1 in
            let third = second.1 in
            let own = list_read unique owner group (Dir entries (a ∷ b ∷ c ∷ [])) is 0 a (omega arith) refl first.0 in
            let files = list_read unique owner group (Dir entries (a ∷ b ∷ c ∷ [])) is 1 b (omega arith) refl second.0 in
            let dirs = list_read unique owner group (Dir entries (a ∷ b ∷ c ∷ [])) is 2 c (omega arith) refl third.0 in
            (λ i. if e i then Dir (entries_of disk slot (n - 1)) (list_of disk slot (n - 1) 0 ∷ list_of disk slot (n - 1) 1 ∷ list_of disk slot (n - 1) 2 ∷ []) else File (list_of disk slot (n - 1) 0) (file_bytes disk slot (n - 1)) [] None)
            ∙ (λ i. Dir (all i) (own i ∷ files i ∷ dirs i ∷ []))
        by [] fits is = absurd (let three = fits.3 in omega (arith, three))
        by (a ∷ []) fits is = absurd (let three = fits.3 in omega (arith, three))
        by (a ∷ b ∷ []) fits is = absurd (let three = fits.3 in omega (arith, three))
        by (a ∷ b ∷ c ∷ d ∷ lists) fits is = absurd (let three = fits.3 in omega (arith, three))

  -- a file
  module _ (unique : ℕ) (owner group : List ℕ) (list : List AccessEntry) (kept : List ℕ) (fits : FitsContent (File list kept [] None))
      (is : kept_at disk.image (node_at disk slot (n - 1)) ≡ object_kept unique (record { owner = owner; group = group; content = File list kept [] None })) where
    pub file_kind : byte_at (anode_page disk slot (n - 1)) 0 ≡ 2
    file_kind = kind_read unique owner group (File list kept [] None) is

    pub not_one : (byte_at (anode_page disk slot (n - 1)) 0 == 1) ≡ false
    not_one = let e = file_kind in grind (arith, nat_tests, e)

    pub file_size : bytes_in (anode_page disk slot (n - 1)) ≡ length kept
    file_size =
        let e = not_one in
        let f = length_read unique owner group (File list kept [] None) is in
        let le = fits.0 in
        (λ i. min (if e i then 72 * number_at 4 8 (anode_page disk slot (n - 1)) else number_at 4 8 (anode_page disk slot (n - 1))) 65536)
        ∙ (λ i. min (f i) 65536) ∙ omega (arith, le)

    kept_read : file_bytes disk slot (n - 1) ≡ kept
    kept_read = listed_is (content_at disk.image (node_at disk slot (n - 1)) (bytes_in (anode_page disk slot (n - 1)))) kept (bytes_in (anode_page disk slot (n - 1))) 0 (sym file_size)
        (λ k lt. (λ i. (is i).content k))

    file_read : content_of disk slot (n - 1) ≡ File list kept [] None
    file_read =
        let e = not_one in
        let own = list_read unique owner group (File list kept [] None) is 0 list (omega arith) refl fits.3 in
        let bytes = kept_read in
        (λ i. if e i then Dir (entries_of disk slot (n - 1)) (list_of disk slot (n - 1) 0 ∷ list_of disk slot (n - 1) 1 ∷ list_of disk slot (n - 1) 2 ∷ []) else File (list_of disk slot (n - 1) 0) (file_bytes disk slot (n - 1)) [] None)
        ∙ (λ i. File (own i) (bytes i) [] None)

  content_read : (unique : ℕ) (owner group : List ℕ) (content : Content) → FitsContent content
      → kept_at disk.image (node_at disk slot (n - 1)) ≡ object_kept unique (record { owner = owner; group = group; content = content })
      → content_of disk slot (n - 1) ≡ content
  content_read unique owner group (Dir entries lists) fits is = dir_read unique owner group entries lists fits is
  content_read unique owner group (File list kept unsaved len) fits is =
      let none : unsaved ≡ [] = fits.1 in
      let same : len ≡ None = fits.2 in
      let at : File list kept unsaved len ≡ File list kept [] None = (λ i. File list kept (none i) (same i)) in
      file_read unique owner group list kept (subst (λ (c : Content). FitsContent c) at fits)
      (is ∙ (λ i. object_kept unique (record { owner = owner; group = group; content = at i }))) ∙ sym at

  -- the anode
  pub anode_is : anode_of disk slot (n - 1) ≡ anode_at (slots slot) n
  anode_is = by (anode_at (slots slot) n).unique (anode_at (slots slot) n).object ((keeps.each slot low).each n some few) kept_is
    where
      by : (unique : ℕ) (o : Option Object) → IfSome o FitsObject
          → kept_at disk.image (node_at disk slot (n - 1)) ≡ option_map_or (object_kept unique) o (record no_anode { unique = unique })
          → anode_of disk slot (n - 1) ≡ record { unique = unique; object = o }
      by unique None fits is =
          let kind : byte_at (anode_page disk slot (n - 1)) 0 ≡ 0 = (λ i. (is i).kind) in
          let e : (byte_at (anode_page disk slot (n - 1)) 0 == 0) ≡ true = grind (arith, nat_tests, kind) in
          λ i. record {
            unique = (is i).unique;
            object = if e i then None
                else Some (record { owner = name_at 76 (anode_page disk slot (n - 1)); group = name_at 137 (anode_page disk slot (n - 1)); content = content_of disk slot (n - 1) });
          }
      by unique (Some object) fits is =
          let e = some_kind unique object is in
          let owner = owner_read unique object.owner object.group object.content is fits.owner in
          let group = group_read unique object.owner object.group object.content is fits.group in
          let content = content_read unique object.owner object.group object.content fits.content is in
          (λ i. record {
            unique = (is i).unique;
            object = if e i then None
                else Some (record { owner = name_at 76 (anode_page disk slot (n - 1)); group = name_at 137 (anode_page disk slot (n - 1)); content = content_of disk slot (n - 1) });
          })
          ∙ (λ i. record { unique = unique; object = Some (record { owner = owner i; group = group i; content = content i }) })
        where
          some_kind : (unique : ℕ) (object : Object) → kept_at disk.image (node_at disk slot (n - 1)) ≡ object_kept unique object → (byte_at (anode_page disk slot (n - 1)) 0 == 0) ≡ false
          some_kind unique object is = at (is_dir object.content) (λ i. (is i).kind)
            where
              at : (dir : Bool) → byte_at (anode_page disk slot (n - 1)) 0 ≡ (if dir then 1 else 2) → (byte_at (anode_page disk slot (n - 1)) 0 == 0) ≡ false
              at true e = grind (arith, nat_tests, e)
              at false e = grind (arith, nat_tests, e)

pub anode_read : (disk : Aggregate) (slots : ℕ → List Anode) → Keeps slots disk → (slot n : ℕ) → slot < 16 → 1 ≤ n → n ≤ 64 → anode_of disk slot (n - 1) ≡ anode_at (slots slot) n
anode_read disk slots keeps slot n low some few = anode_is disk slots keeps slot n low some few

pub fileset_read : (disk : Aggregate) (slots : ℕ → List Anode) → Keeps slots disk → (slot : ℕ) → slot < 16 → number_at 4 8 (header_page disk slot) ≤ 64
    → (fileset_of disk slot).anodes ≡ take (number_at 4 8 (header_page disk slot)) (slots slot)
fileset_read disk slots keeps slot low few =
    let full = (keeps.each slot low).count in
    let size : length (take (number_at 4 8 (header_page disk slot)) (slots slot)) ≡ number_at 4 8 (header_page disk slot) = length-take-le (number_at 4 8 (header_page disk slot)) (slots slot) (omega (arith, full, few)) in
    listed_is (anode_of disk slot) (take (number_at 4 8 (header_page disk slot)) (slots slot)) (number_at 4 8 (header_page disk slot)) unused_anode size
    (λ k lt. (let e : k + 1 - 1 ≡ k = omega arith in
    (λ i. anode_of disk slot (sym e i)) ∙ anode_read disk slots keeps slot (k + 1) low (omega arith) (omega (arith, lt, few))
    ∙ (λ i. unwrap_or (slice_get (slots slot) (e i)) unused_anode) ∙ unwrap_or-slice_get (slots slot) k unused_anode
    ∙ sym (get_or-take (number_at 4 8 (header_page disk slot)) (slots slot) k unused_anode lt)))
