-- The words of an entry, and of a superblock, as they are read and written.
use Rattle.std.proofs.Common.{◌≡◌, ◌≢◌, ◌<◌, ◌≤◌, ◌⊎◌, ℕ, zero, suc, ◌+◌, List, [], ◌∷◌, length, take, drop, replicate, get_or, inl, inr, ⊎_elim, refl, sym, ◌∙◌, ap, arith, Some, None}
use Rattle.std.specs.Prelude.{Bool, true, false, ◌==◌, ◌&&◌, ◌||◌, if◌then◌else◌, nat_lt}
use Rattle.std.proofs.lemmas.Bool.Decides.{nat_tests}
use Rattle.std.proofs.lemmas.List.{get_or-take, get_or-drop}
use Rattle.base_types.specs.Image.{byte_at, bytes_from, Torn, Holds}
use Rattle.base_outside.proofs.Image.{bytes_from-is, bytes_from-before, bytes_from-same, get_or-bytes_from}
use Rattle.disk_layout.specs.declared.entry.Entry.{Entry}
use Rattle.disk_layout.specs.declared.entry.Entry.TheVariants.{Update, End}
use Rattle.disk_layout.specs.declared.half.Half.{Half}
use Rattle.disk_layout.specs.declared.superblock.Superblock.{Superblock}
use Rattle.disk_layout.specs.Numbers.{number_at}
use Rattle.disk_layout.specs.Places.{SameFront}
use Rattle.disk_layout.specs.declared.half.Header.{Header}
use Rattle.disk_layout.specs.Half.{header_from}
use Rattle.disk_layout.specs.Superblock.{layout_name, IsSuperblock, IsMarked, IsBlank}
use Rattle.disk_layout.specs.Entry.{entry_of, Spells, Fits, kind_of, page_named, transaction_of, old_of, new_of}
use Rattle.disk_layout.proofs.Bytes.{number-same}

-- a piece of a list is its bytes there
pub piece_bytes : (xs piece : List ℕ) (at n m : ℕ) → piece ≡ take m (drop at xs) → length piece ≡ n → n ≤ m → piece ≡ bytes_from xs at n
piece_bytes xs piece at n m is size le =
    sym (bytes_from-is xs piece at (λ j lt. sym (ap (λ (l : List ℕ). get_or l j 0) is ∙ get_or-take m (drop at xs) j 0 (omega arith) ∙ get_or-drop at xs j 0)))
    ∙ ap (bytes_from xs at) size

and_false : (b : Bool) → (b && false) ≡ false
and_false true = refl
and_false false = refl

module _ (half : Half) (bytes : List ℕ) where
  pub end_of : byte_at bytes 0 ≡ 1 → number_at 8 8 bytes ≡ half.generation → byte_at bytes 1 ≡ 2 → entry_of half bytes ≡ Some (End (number_at 8 16 bytes))
  unfolding entry_of
  end_of gate generation kind =
      let g : (byte_at bytes 0 == 1) ≡ true = grind (arith, nat_tests) in
      let n : (number_at 8 8 bytes == half.generation) ≡ true = grind (arith, nat_tests) in
      let k : (byte_at bytes 1 == 2) ≡ true = grind (arith, nat_tests) in
      λ j.
      if g j && (n j && (k j || ((byte_at bytes 1 == 1) && nat_lt (number_at 4 4 bytes) half.pages)))
      then Some (if k j then End (number_at 8 16 bytes) else Update (number_at 8 16 bytes) (number_at 4 4 bytes) (bytes_from bytes 512 512) (bytes_from bytes 1024 512))
      else None

  pub update_of : byte_at bytes 0 ≡ 1 → number_at 8 8 bytes ≡ half.generation → byte_at bytes 1 ≡ 1 → number_at 4 4 bytes < half.pages
      → entry_of half bytes ≡ Some (Update (number_at 8 16 bytes) (number_at 4 4 bytes) (bytes_from bytes 512 512) (bytes_from bytes 1024 512))
  unfolding entry_of
  update_of gate generation kind lt =
      let g : (byte_at bytes 0 == 1) ≡ true = grind (arith, nat_tests) in
      let n : (number_at 8 8 bytes == half.generation) ≡ true = grind (arith, nat_tests) in
      let k : (byte_at bytes 1 == 2) ≡ false = grind (arith, nat_tests) in
      let u : (byte_at bytes 1 == 1) ≡ true = grind (arith, nat_tests) in
      let p : nat_lt (number_at 4 4 bytes) half.pages ≡ true = grind (arith, nat_tests) in
      λ j.
      if g j && (n j && (k j || (u j && p j)))
      then Some (if k j then End (number_at 8 16 bytes) else Update (number_at 8 16 bytes) (number_at 4 4 bytes) (bytes_from bytes 512 512) (bytes_from bytes 1024 512))
      else None

  abbrev value : Entry
  value = if byte_at bytes 1 == 2 then End (number_at 8 16 bytes) else Update (number_at 8 16 bytes) (number_at 4 4 bytes) (bytes_from bytes 512 512) (bytes_from bytes 1024 512)

  pub closed_of : byte_at bytes 0 ≢ 1 → entry_of half bytes ≡ None
  unfolding entry_of
  closed_of shut =
      let g : (byte_at bytes 0 == 1) ≡ false = grind (arith, nat_tests) in
      λ j. if g j && ((number_at 8 8 bytes == half.generation) && ((byte_at bytes 1 == 2) || ((byte_at bytes 1 == 1) && nat_lt (number_at 4 4 bytes) half.pages))) then Some value else None

  pub old_of_half : number_at 8 8 bytes ≢ half.generation → entry_of half bytes ≡ None
  unfolding entry_of
  old_of_half other =
      let n : (number_at 8 8 bytes == half.generation) ≡ false = grind (arith, nat_tests) in
      (λ j. if (byte_at bytes 0 == 1) && (n j && ((byte_at bytes 1 == 2) || ((byte_at bytes 1 == 1) && nat_lt (number_at 4 4 bytes) half.pages))) then Some value else None)
      ∙ (λ j. if and_false (byte_at bytes 0 == 1) j then Some value else None)

  pub kindless_of : byte_at bytes 1 ≢ 2 → (byte_at bytes 1 ≢ 1) ⊎ (half.pages ≤ number_at 4 4 bytes) → entry_of half bytes ≡ None
  unfolding entry_of
  kindless_of not_end other =
      let k : (byte_at bytes 1 == 2) ≡ false = grind (arith, nat_tests) in
      (λ j. if (byte_at bytes 0 == 1) && ((number_at 8 8 bytes == half.generation) && (k j || unnamed other j)) then Some value else None)
      ∙ (λ j. if (byte_at bytes 0 == 1) && and_false (number_at 8 8 bytes == half.generation) j then Some value else None)
      ∙ (λ j. if and_false (byte_at bytes 0 == 1) j then Some value else None)
    where
      unnamed : (byte_at bytes 1 ≢ 1) ⊎ (half.pages ≤ number_at 4 4 bytes) → ((byte_at bytes 1 == 1) && nat_lt (number_at 4 4 bytes) half.pages) ≡ false
      unnamed (inl other_kind) = let u : (byte_at bytes 1 == 1) ≡ false = grind (arith, nat_tests) in λ j. u j && nat_lt (number_at 4 4 bytes) half.pages
      unnamed (inr le) = let p : nat_lt (number_at 4 4 bytes) half.pages ≡ false = grind (arith, nat_tests) in (λ j. (byte_at bytes 1 == 1) && p j) ∙ and_false (byte_at bytes 1 == 1)

-- what is written as an entry is read as it
pub spelled_entry : (half : Half) (entry : Entry) (bytes : List ℕ) → Fits half entry → Spells entry half.generation bytes → entry_of half bytes ≡ Some entry
spelled_entry half (Update transaction page old new) bytes fits spells =
    update_of half bytes spells.gate spells.generation_is spells.kind (let e = spells.page in omega (arith, e, fits))
    ∙ (λ j. Some (Update (spells.transaction j) (spells.page j) (spells.old j) (spells.new j)))
spelled_entry half (End transaction) bytes fits spells =
    end_of half bytes spells.gate spells.generation_is spells.kind ∙ (λ j. Some (End (spells.transaction j)))

-- the first bytes that hold a piece
pub first_byte : (at a : ℕ) (rest xs : List ℕ) → Holds at (a ∷ rest) xs → byte_at xs at ≡ a
first_byte at a rest xs holds =
    let e : at ≡ at + 0 = omega arith in
    ap (byte_at xs) e ∙ sym (get_or-bytes_from xs at (length (a ∷ rest)) 0 (omega arith)) ∙ ap (λ (l : List ℕ). get_or l 0 0) holds.inside

second_byte : (at a b : ℕ) (rest xs : List ℕ) → Holds at (a ∷ b ∷ rest) xs → byte_at xs (at + 1) ≡ b
second_byte at a b rest xs holds =
    sym (get_or-bytes_from xs at (length (a ∷ b ∷ rest)) 1 (omega arith)) ∙ ap (λ (l : List ℕ). get_or l 1 0) holds.inside

-- zeros are zero everywhere
pub no_byte : (n k : ℕ) → byte_at (replicate n zero) k ≡ zero
no_byte zero k = refl
no_byte (suc n) zero = refl
no_byte (suc n) (suc k) = no_byte n k

module _ (entry : Entry) (kind page transaction generation : ℕ) (kind_is : kind ≡ kind_of entry) (page_is : page ≡ page_named entry) (transaction_is : transaction ≡ transaction_of entry)
    (zeros a b c d e f : List ℕ) (blank : (k : ℕ) → byte_at zeros k ≡ 0)
    (a_torn : Torn 0 2 zeros a) (a_is : Holds 0 (1 ∷ kind ∷ []) a)
    (b_torn : Torn 4 4 a b) (b_is : number_at 4 4 b ≡ page)
    (c_torn : Torn 8 8 b c) (c_is : number_at 8 8 c ≡ generation)
    (d_torn : Torn 16 8 c d) (d_is : number_at 8 16 d ≡ transaction)
    (old new : List ℕ) (old_is : old ≡ old_of entry) (new_is : new ≡ new_of entry) (old_size : length old ≡ 512) (new_size : length new ≡ 512)
    (e_torn : Torn 512 (length old) d e) (e_is : Holds 512 old e) (f_torn : Torn 1024 (length new) e f) (f_is : Holds 1024 new f) where
  from_d : (k : ℕ) → k < 512 → byte_at f k ≡ byte_at d k
  from_d k lt = f_torn.before k (omega arith) ∙ e_torn.before k lt

  from_c : (k : ℕ) → k < 16 → byte_at f k ≡ byte_at c k
  from_c k lt = from_d k (omega arith) ∙ d_torn.before k lt

  from_b : (k : ℕ) → k < 8 → byte_at f k ≡ byte_at b k
  from_b k lt = from_c k (omega arith) ∙ c_torn.before k lt

  from_a : (k : ℕ) → k < 4 → byte_at f k ≡ byte_at a k
  from_a k lt = from_b k (omega arith) ∙ b_torn.before k lt

  pub spelled : Spells entry generation f
  spelled = record {
    gate = from_a 0 (omega arith) ∙ first_byte 0 1 (kind ∷ []) a a_is;
    kind = from_a 1 (omega arith) ∙ second_byte 0 1 kind [] a a_is ∙ kind_is;
    page = number-same 4 4 4 f b (λ j lt. from_b (4 + j) (omega arith)) ∙ b_is ∙ page_is;
    generation_is = number-same 8 8 8 f c (λ j lt. from_c (8 + j) (omega arith)) ∙ c_is;
    transaction = number-same 8 16 16 f d (λ j lt. from_d (16 + j) (omega arith)) ∙ d_is ∙ transaction_is;
    old = bytes_from-before 1024 (length new) e f 512 512 f_torn (omega arith) ∙ ap (bytes_from e 512) (sym old_size) ∙ e_is.inside ∙ old_is;
    new = ap (bytes_from f 1024) (sym new_size) ∙ f_is.inside ∙ new_is;
    unnamed = λ k free. ⊎_elim
        (λ low. from_a k (omega arith) ∙ a_torn.after k (omega arith) ∙ blank k)
        (λ high. from_d k (omega arith) ∙ d_torn.after k (omega arith) ∙ c_torn.after k (omega arith) ∙ b_torn.after k (omega arith) ∙ a_torn.after k (omega arith) ∙ blank k) free;
  }

-- a superblock that is written word by word
pub spelled_superblock : (superblock : Superblock) (zeros a b c d e : List ℕ) → ((k : ℕ) → byte_at zeros k ≡ 0)
    → Torn 0 1 zeros a → Holds 0 (1 ∷ []) a → Torn 1 8 a b → Holds 1 layout_name b → Torn 12 4 b c → number_at 4 12 c ≡ 1
    → Torn 16 4 c d → number_at 4 16 d ≡ superblock.blocks → Torn 20 1 d e → Holds 20 (superblock.server ∷ []) e
    → 1 ≤ superblock.blocks → superblock.blocks ≤ 66560 → IsSuperblock superblock e
spelled_superblock superblock zeros a b c d e blank a_torn a_is b_torn b_is c_torn c_is d_torn d_is e_torn e_is some few = record {
  named = record {
    gate = e_torn.before 0 (omega arith) ∙ d_torn.before 0 (omega arith) ∙ c_torn.before 0 (omega arith) ∙ b_torn.before 0 (omega arith) ∙ first_byte 0 1 [] a a_is;
    name = bytes_from-before 20 1 d e 1 8 e_torn (omega arith) ∙ bytes_from-before 16 4 c d 1 8 d_torn (omega arith) ∙ bytes_from-before 12 4 b c 1 8 c_torn (omega arith) ∙ b_is.inside;
    format = number-same 4 12 12 e c (λ j lt. e_torn.before (12 + j) (omega arith) ∙ d_torn.before (12 + j) (omega arith)) ∙ c_is;
  };
  blocks = number-same 4 16 16 e d (λ j lt. e_torn.before (16 + j) (omega arith)) ∙ d_is;
  some_blocks = some;
  few_blocks = few;
  server = first_byte 20 superblock.server [] e e_is;
  unnamed = λ k free. ⊎_elim
      (λ low. e_torn.before k (omega arith) ∙ d_torn.before k (omega arith) ∙ c_torn.before k (omega arith) ∙ b_torn.after k (omega arith) ∙ a_torn.after k (omega arith) ∙ blank k)
      (λ high. e_torn.after k (omega arith) ∙ d_torn.after k (omega arith) ∙ c_torn.after k (omega arith) ∙ b_torn.after k (omega arith) ∙ a_torn.after k (omega arith) ∙ blank k) free;
}

-- a number in bytes that were read
pub number_in : (n at from m : ℕ) (image : List ℕ) → at + n ≤ m → number_at n at (bytes_from image from m) ≡ number_at n (from + at) image
number_in n at from m image le = number-same n at (from + at) (bytes_from image from m) image (λ j lt. get_or-bytes_from image from m (at + j) (omega arith) ∙ (let e : from + (at + j) ≡ from + at + j = omega arith in ap (byte_at image) e))

-- the superblock is all in the first page
pub superblock_same : (superblock : Superblock) (old new : List ℕ) → SameFront old new → IsSuperblock superblock old → IsSuperblock superblock new
superblock_same superblock old new same is = record {
  named = record {
    gate = same 0 (omega arith) ∙ is.named.gate;
    name = bytes_from-same new old 1 8 (λ k from below. same k (omega arith)) ∙ is.named.name;
    format = number-same 4 12 12 new old (λ j lt. same (12 + j) (omega arith)) ∙ is.named.format;
  };
  blocks = number-same 4 16 16 new old (λ j lt. same (16 + j) (omega arith)) ∙ is.blocks;
  some_blocks = is.some_blocks;
  few_blocks = is.few_blocks;
  server = same 20 (omega arith) ∙ is.server;
  unnamed = λ k free. same k (⊎_elim (λ low. omega (arith, low)) (λ high. omega (arith, high)) free) ∙ is.unnamed k free;
}

-- the first page as it is read
pub front_read : (superblock : Superblock) (image : List ℕ) → IsSuperblock superblock (bytes_from image 0 512) → IsSuperblock superblock image
front_read superblock image is = superblock_same superblock (bytes_from image 0 512) image (λ k lt. let e : 0 + k ≡ k = omega arith in ap (byte_at image) (sym e) ∙ sym (get_or-bytes_from image 0 512 k lt)) is

pub front_reads : (superblock : Superblock) (image : List ℕ) → IsSuperblock superblock image → IsSuperblock superblock (bytes_from image 0 512)
front_reads superblock image is = superblock_same superblock image (bytes_from image 0 512) (λ k lt. let e : 0 + k ≡ k = omega arith in get_or-bytes_from image 0 512 k lt ∙ ap (byte_at image) e) is

-- a header as it is read
pub header_read : (header : Header) (image : List ℕ) (start : ℕ) → header.is_open ≡ (byte_at (bytes_from image start 16) 0 == 1) → header.generation ≡ number_at 8 8 (bytes_from image start 16) → header ≡ header_from image start
header_read header image start opened generation =
    let gate : byte_at (bytes_from image start 16) 0 ≡ byte_at image start = get_or-bytes_from image start 16 0 (omega arith) ∙ (let e : start + 0 ≡ start = omega arith in ap (byte_at image) e) in
    let number = number_in 8 8 start 16 image (omega arith) in
    λ j. record { is_open = (opened ∙ (λ i. gate i == 1)) j; generation = (generation ∙ number) j }

-- a disk whose gate is open isn't blank
pub not_blank : (image : List ℕ) → byte_at image 0 ≡ 1 → IsBlank image → ⊥
not_blank image gate (inl zeros) = let e = zeros 0 (omega arith) in omega (arith, gate, e)
not_blank image gate (inr marked) = marked.0 gate

-- a mark as it is read, and where it stands
pub marked_same : (old new : List ℕ) → SameFront old new → IsMarked old → IsMarked new
marked_same old new same marked =
    (λ is. marked.0 (sym (same 0 (omega arith)) ∙ is), bytes_from-same new old 1 8 (λ k from below. same k (omega arith)) ∙ marked.1)

pub marked_read : (image : List ℕ) → IsMarked (bytes_from image 0 512) → IsMarked image
marked_read image is = marked_same (bytes_from image 0 512) image (λ k lt. let e : 0 + k ≡ k = omega arith in ap (byte_at image) (sym e) ∙ sym (get_or-bytes_from image 0 512 k lt)) is

pub marked_reads : (image : List ℕ) → IsMarked image → IsMarked (bytes_from image 0 512)
marked_reads image is = marked_same image (bytes_from image 0 512) (λ k lt. let e : 0 + k ≡ k = omega arith in get_or-bytes_from image 0 512 k lt ∙ ap (byte_at image) e) is
