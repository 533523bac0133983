-- Parts of pages and blocks, as they are read.
use Rattle.std.proofs.Common.{◌≡◌, ◌<◌, ◌≤◌, ◌⊎◌, ℕ, zero, suc, ◌+◌, ◌-◌, ◌*◌, ◌/◌, ◌%◌, List, [], ◌∷◌, length, take, drop, get_or, refl, sym, ◌∙◌, ap, inl, inr, arith}
use Rattle.std.specs.Prelude.{Bool, true, false, if◌then◌else◌, min, replicate}
use Rattle.std.specs.Int.{w32, from_be_bytes}
use Rattle.std.proofs.lemmas.Bool.{cases_lt, false≢true}
use Rattle.std.proofs.lemmas.List.{length-append, get_or_append_left, get_or-append_right, get_or_past, get_or-replicate, get_or-drop, get_or-take, length-replicate, length-drop, length-take-le}
use Rattle.byteorder.specs.Endian.{big_number}
use Rattle.base_types.specs.Image.{byte_at, bytes_from}
use Rattle.base_types.specs.declared.access.AccessEntry.{AccessEntry}
use Rattle.tree_calls.specs.declared.part.DirEntry.{DirEntry}
use Rattle.base_outside.proofs.Image.{length-bytes_from, get_or-bytes_from, bytes_from-same}
use Rattle.disk_layout.specs.Numbers.{number_at}
use Rattle.disk_layout.specs.Places.{block_start, pages_of}
use Rattle.disk_layout.proofs.Bytes.{number-same, number-read}
use Rattle.disk_anode.specs.Anode.{text_at}
use Rattle.disk_anode.specs.Node.{pointer_of, is_pointer, cell, map_under}
use Rattle.disk_anode.specs.declared.node.Node.{Node}
use Rattle.disk_lists.specs.Entries.{bytes_of, EachFits, AreEntries}
use Rattle.disk_lists.proofs.Laid.{length-bytes_of, size_there, name_there, anode_there, unique_there, short_at}
use Rattle.disk_lists.proofs.Places.{some_at}
use Rattle.tree_objects.specs.Sound.{names_rise}
use Rattle.disk_objects.specs.Objects.{FitsList}
use Rattle.disk_pages.specs.Words.{name_at}
use Rattle.disk_pages.specs.Blocks.{entry_of}
use Rattle.disk_image.specs.Joined.{joined, listed}
use Rattle.disk_image.proofs.Joined.{joined_more, joined_none, length-listed, get_or-listed}

-- lists with the same elements are the same
pub same_list : {A : Type 0} (a b : List A) (other : A) → length a ≡ length b → ((k : ℕ) → k < length a → get_or a k other ≡ get_or b k other) → a ≡ b
same_list [] [] other size each = refl
same_list [] (y ∷ b) other size each = absurd (omega (arith, size))
same_list (x ∷ a) [] other size each = absurd (omega (arith, size))
same_list (x ∷ a) (y ∷ b) other size each =
    let first = each 0 (omega arith) in
    let rest = same_list a b other (omega (arith, size)) (λ k lt. each (suc k) (omega (arith, lt))) in
    λ i. first i ∷ rest i

pub listed_is : {A : Type 0} (value : ℕ → A) (xs : List A) (n : ℕ) (other : A) → length xs ≡ n → ((k : ℕ) → k < n → value k ≡ get_or xs k other) → listed value n ≡ xs
listed_is value xs n other size each =
    let full = length-listed value n in
    same_list (listed value n) xs other (full ∙ sym size)
    (λ k lt. get_or-listed value n k other (omega (arith, lt, full)) ∙ each k (omega (arith, lt, full)))

-- a name behind its length
pub name_read : (page : List ℕ) (at : ℕ) (name : List ℕ) → text_at page at ≡ name → length name ≤ 60 → name_at at page ≡ name
unfolding name_at
name_read page at name is few =
    let size : byte_at page at ≡ length name = sym (length-bytes_from page (at + 1) (byte_at page at)) ∙ ap length is in
    let least : min (byte_at page at) 60 ≡ byte_at page at = omega (arith, size, few) in
    (λ i. bytes_from page (at + 1) (least i)) ∙ is

-- a byte of the block under a pointer
pub under_cell : (image : List ℕ) (node : Node) (w k : ℕ) → k < 1024 → byte_at (map_under node.blocks image (pointer_of node w)) k ≡ cell image node w k
unfolding cell
under_cell image node w k lt = by (is_pointer node.blocks (pointer_of node w))
  where
    by : (a : Bool) → byte_at (if a then bytes_from image (block_start (pages_of node.blocks) (pointer_of node w - 1)) 1024 else replicate 1024 0) k
        ≡ (if a then byte_at image (block_start (pages_of node.blocks) (pointer_of node w - 1) + k) else 0)
    by true = get_or-bytes_from image (block_start (pages_of node.blocks) (pointer_of node w - 1)) 1024 k lt
    by false = get_or-replicate 1024 k 0 0 lt

pub under_size : (blocks : ℕ) (image : List ℕ) (pointer : ℕ) → length (map_under blocks image pointer) ≡ 1024
under_size blocks image pointer = by (is_pointer blocks pointer)
  where
    by : (a : Bool) → length (if a then bytes_from image (block_start (pages_of blocks) (pointer - 1)) 1024 else replicate 1024 0) ≡ 1024
    by true = length-bytes_from image (block_start (pages_of blocks) (pointer - 1)) 1024
    by false = length-replicate {A = ℕ} 1024 0

pub under_bytes : (blocks : ℕ) (image : List ℕ) (pointer : ℕ) → ((k : ℕ) → byte_at image k < 256) → (k : ℕ) → byte_at (map_under blocks image pointer) k < 256
under_bytes blocks image pointer bytes k = by (is_pointer blocks pointer) (cases_lt k 1024)
  where
    by : (a : Bool) → (k < 1024) ⊎ (1024 ≤ k) → byte_at (if a then bytes_from image (block_start (pages_of blocks) (pointer - 1)) 1024 else replicate 1024 0) k < 256
    by true (inl lt) =
        let e = get_or-bytes_from image (block_start (pages_of blocks) (pointer - 1)) 1024 k lt in
        let f = bytes (block_start (pages_of blocks) (pointer - 1) + k) in
        omega (arith, e, f)
    by true (inr le) =
        let size = length-bytes_from image (block_start (pages_of blocks) (pointer - 1)) 1024 in
        let e = get_or_past (bytes_from image (block_start (pages_of blocks) (pointer - 1)) 1024) k 0 (omega (arith, size, le)) in
        omega (arith, e)
    by false (inl lt) = let e = get_or-replicate {A = ℕ} 1024 k 0 0 lt in omega (arith, e)
    by false (inr le) =
        let size = length-replicate {A = ℕ} 1024 0 in
        let e = get_or_past {X = ℕ} (replicate 1024 0) k 0 (omega (arith, size, le)) in
        omega (arith, e)

-- a byte of parts of one length, put together
pub joined_size : (part : ℕ → List ℕ) (m n : ℕ) → ((k : ℕ) → length (part k) ≡ m) → length (joined part n) ≡ m * n
joined_size part m zero size = (λ i. length (joined_none part i)) ∙ omega arith
joined_size part m (suc n) size =
    let rest = joined_size part m n size in
    let last = size n in
    let e : suc n ≡ n + 1 = omega arith in
    (λ i. length (joined_more part n (suc n) e i)) ∙ length-append (joined part n) (part n) ∙ (λ i. rest i + last i) ∙ more m n
  where
    more : (m n : ℕ) → m * n + m ≡ m * suc n
    more m n = grind arith

pub joined_byte : (part : ℕ → List ℕ) (n k : ℕ) → ((j : ℕ) → length (part j) ≡ 1024) → k < 1024 * n → byte_at (joined part n) k ≡ byte_at (part (k / 1024)) (k % 1024)
joined_byte part zero k size lt = absurd (omega (arith, lt))
joined_byte part (suc n) k size lt = by (cases_lt k (1024 * n)) (λ low. joined_byte part n k size low)
  where
    e : suc n ≡ n + 1
    e = omega arith

    full : length (joined part n) ≡ 1024 * n
    full = joined_size part 1024 n size

    by : (k < 1024 * n) ⊎ (1024 * n ≤ k) → (k < 1024 * n → byte_at (joined part n) k ≡ byte_at (part (k / 1024)) (k % 1024))
        → byte_at (joined part (suc n)) k ≡ byte_at (part (k / 1024)) (k % 1024)
    by (inl low) rest = (λ i. byte_at (joined_more part n (suc n) e i) k) ∙ get_or_append_left (joined part n) (part n) 0 k (omega (arith, full, low)) ∙ rest low
    by (inr high) rest =
        let q : n ≡ k / 1024 = omega (arith, high, lt) in
        let r : k - 1024 * n ≡ k % 1024 = omega (arith, high, lt) in
        (λ i. byte_at (joined_more part n (suc n) e i) k) ∙ get_or-append_right (joined part n) (part n) (1024 * n) k 0 full high ∙ (λ i. byte_at (part (q i)) (r i))

-- an entry among the bytes of some
big_is : (bytes : List ℕ) (at : ℕ) → number_at 4 at bytes ≡ from_be_bytes w32 (take 4 (drop at bytes))
big_is bytes at =
    let xs : List ℕ = take 4 (drop at bytes) in
    let same : from_be_bytes w32 xs ≡ big_number 4 xs = omega arith in
    sym (number-read 4 at 4 bytes (omega arith)) ∙ sym same

bytes_there : (bytes : List ℕ) (at n : ℕ) → at + n ≤ length bytes → bytes_from bytes at n ≡ take n (drop at bytes)
bytes_there bytes at n le =
    same_list (bytes_from bytes at n) (take n (drop at bytes)) 0 (length-bytes_from bytes at n ∙ sym (size bytes at n le))
    (λ k lt. (let full = length-bytes_from bytes at n in let low : k < n = omega (arith, lt, full) in
    get_or-bytes_from bytes at n k low ∙ sym (get_or-take n (drop at bytes) k 0 low ∙ get_or-drop at bytes k 0)))
  where
    size : (bytes : List ℕ) (at n : ℕ) → at + n ≤ length bytes → length (take n (drop at bytes)) ≡ n
    size bytes at n le = length-take-le n (drop at bytes) (let e = length-drop at bytes in omega (arith, e, le))

module _ (entries : List DirEntry) (bytes : List ℕ) (e : ℕ) (each : EachFits entries) (rise : names_rise entries ≡ true) (lt : e < length entries)
    (same : (k : ℕ) → k < 72 * length entries → byte_at bytes k ≡ get_or (bytes_of entries) k 0)
    (entry : DirEntry) (rest : List DirEntry) (there : drop e entries ≡ entry ∷ rest) where
  are : AreEntries entries (bytes_of entries)
  are = record { laid = refl; each = each; rise = rise }

  full : length (bytes_of entries) ≡ 72 * length entries
  full = length-bytes_of entries each

  short : length entry.name ≤ 60
  short = short_at entries entry rest (bytes_of entries) e are there

  name_there_too : name_at (72 * e) bytes ≡ entry.name
  unfolding name_at
  name_there_too =
      let size : byte_at bytes (72 * e) ≡ length entry.name = same (72 * e) (omega (arith, lt)) ∙ size_there entries entry rest (bytes_of entries) e are there in
      let few = short in
      let all = full in
      let least : min (byte_at bytes (72 * e)) 60 ≡ length entry.name = omega (arith, size, few) in
      (λ i. bytes_from bytes (72 * e + 1) (least i))
      ∙ bytes_from-same bytes (bytes_of entries) (72 * e + 1) (length entry.name) (λ k from to. same k (omega (arith, to, few, lt)))
      ∙ bytes_there (bytes_of entries) (72 * e + 1) (length entry.name) (omega (arith, all, few, lt))
      ∙ name_there entries entry rest (bytes_of entries) e are there

  number_too : (k : ℕ) → k + 4 ≤ 72 → number_at 4 (72 * e + k) bytes ≡ from_be_bytes w32 (take 4 (drop (72 * e + k) (bytes_of entries)))
  number_too k le = number-same 4 (72 * e + k) (72 * e + k) bytes (bytes_of entries) (λ j low. same (72 * e + k + j) (omega (arith, low, le, lt))) ∙ big_is (bytes_of entries) (72 * e + k)

  pub entry_is : entry_of bytes e ≡ entry
  entry_is =
      let name = name_there_too in
      let anode = number_too 64 (omega arith) ∙ anode_there entries entry rest (bytes_of entries) e are there in
      let unique = number_too 68 (omega arith) ∙ unique_there entries entry rest (bytes_of entries) e are there in
      λ i. record { name = name i; anode = anode i; unique = unique i }

pub entry_read : (entries : List DirEntry) (bytes : List ℕ) (e : ℕ) (other : DirEntry) → EachFits entries → names_rise entries ≡ true → e < length entries
    → ((k : ℕ) → k < 72 * length entries → byte_at bytes k ≡ get_or (bytes_of entries) k 0) → entry_of bytes e ≡ get_or entries e other
entry_read entries bytes e other each rise lt same =
    let found = some_at e entries lt in
    let is : get_or entries e other ≡ found.0 = (let z : e ≡ e + 0 = omega arith in ap (λ j. get_or entries j other) z) ∙ sym (get_or-drop e entries 0 other) ∙ ap (λ (xs : List DirEntry). get_or xs 0 other) found.2 in
    entry_is entries bytes e each rise lt same found.0 found.1 found.2 ∙ sym is

-- an access list has entries
pub empty_list : (list : List AccessEntry) → FitsList list → length list ≡ 0 → ⊥
empty_list [] fits e = false≢true fits.0
empty_list (x ∷ list) fits e = omega (arith, e)
