-- The bytes of a directory, as they are read, are those that its entries are kept in.
use Rattle.std.proofs.Common.{◌≡◌, ◌<◌, ◌≤◌, ◌⊎◌, ℕ, zero, suc, ◌+◌, ◌-◌, ◌*◌, ◌/◌, ◌%◌, ◌^◌, List, [], ◌∷◌, ◌++◌, length, drop, get_or, inl, inr, refl, sym, ◌∙◌, ap, arith}
use Rattle.std.specs.Prelude.{true, IsTrue, min, replicate}
use Rattle.std.specs.Int.{w32, to_be_bytes, from_be_bytes}
use Rattle.std.proofs.lemmas.Bool.{cases_lt, and_parts, leb-true}
use Rattle.std.proofs.lemmas.List.{length-append, get_or_append_left, get_or-append_right, get_or-replicate, length-replicate, get_or-drop}
use Rattle.std.proofs.lemmas.Nat.{be_bytes_4}
use Rattle.byteorder.specs.Numbers.{big_from-lt}
use Rattle.base_types.specs.Image.{AreBytes, byte_at, bytes_from}
use Rattle.base_types.specs.Name.{is_name}
use Rattle.tree_calls.specs.declared.part.DirEntry.{DirEntry}
use Rattle.base_outside.proofs.Image.{length-bytes_from, get_or-bytes_from}
use Rattle.disk_layout.specs.Numbers.{number_at}
use Rattle.disk_layout.proofs.Bytes.{number-same}
use Rattle.disk_lists.specs.Entries.{entry_bytes, bytes_of, IsEntry, EachFits}
use Rattle.disk_lists.proofs.Laid.{length-entry_bytes, short_entry, drop-bytes_of, all_at}
use Rattle.disk_lists.proofs.Places.{some_at}
use Rattle.disk_pages.specs.Words.{are_zero, name_at, is_name_at}
use Rattle.disk_pages.specs.Blocks.{is_entry, entry_of}
use Rattle.disk_image.specs.Joined.{joined, listed}
use Rattle.disk_image.proofs.Joined.{length-listed, get_or-listed}
use Rattle.disk_image.proofs.Words.{zeros_are}

-- a byte of an entry among those of all
pub byte_of_entry : (entries : List DirEntry) (e j : ℕ) (other : DirEntry) → EachFits entries → e < length entries → j < 72
    → get_or (bytes_of entries) (72 * e + j) 0 ≡ get_or (entry_bytes (get_or entries e other)) j 0
byte_of_entry entries e j other each lt low =
    let found = some_at e entries lt in
    let first : found.0 ≡ get_or entries e other = ap (λ (xs : List DirEntry). get_or xs 0 other) (sym found.2) ∙ get_or-drop e entries 0 other
    ∙ (let z : e + 0 ≡ e = omega arith in ap (λ k. get_or entries k other) z) in
    let fits = all_at e entries found.0 found.1 each found.2 in
    let full = length-entry_bytes found.0 (short_entry found.0 fits) in
    let whole : drop (72 * e) (bytes_of entries) ≡ entry_bytes found.0 ++ bytes_of found.1 = drop-bytes_of e entries each ∙ ap bytes_of found.2 in
    sym (get_or-drop (72 * e) (bytes_of entries) j 0) ∙ ap (λ (l : List ℕ). get_or l j 0) whole
    ∙ get_or_append_left (entry_bytes found.0) (bytes_of found.1) 0 j (omega (arith, full, low)) ∙ ap (λ (d : DirEntry). get_or (entry_bytes d) j 0) first

-- behind its name an entry is zero up to its numbers
pub fill_of_entry : (entry : DirEntry) (k : ℕ) → length entry.name ≤ 60 → length entry.name < k → k < 64 → get_or (entry_bytes entry) k 0 ≡ 0
fill_of_entry entry zero few high lt = absurd (omega (arith, high))
fill_of_entry entry (suc k) few high lt =
    let fill : List ℕ = replicate (63 - length entry.name) 0 in
    let size = length-replicate {A = ℕ} (63 - length entry.name) 0 in
    let a = length-append (length entry.name ∷ entry.name) fill in
    let b = length-append ((length entry.name ∷ entry.name) ++ fill) (to_be_bytes w32 entry.anode) in
    get_or_append_left (((length entry.name ∷ entry.name) ++ fill) ++ to_be_bytes w32 entry.anode) (to_be_bytes w32 entry.unique) 0 (suc k) (omega (arith, a, b, size, few, lt))
    ∙ get_or_append_left ((length entry.name ∷ entry.name) ++ fill) (to_be_bytes w32 entry.anode) 0 (suc k) (omega (arith, a, size, few, lt))
    ∙ get_or-append_right entry.name fill (length entry.name) k 0 refl (omega (arith, high))
    ∙ get_or-replicate (63 - length entry.name) (k - length entry.name) 0 0 (omega (arith, high, few, lt))

-- a number that was read is spelled as it stands there
number_spelled : (bytes : List ℕ) (at : ℕ) → AreBytes bytes → to_be_bytes w32 (number_at 4 at bytes) ≡ bytes_from bytes at 4
unfolding number_at
number_spelled bytes at are =
    let piece : List ℕ = bytes_from bytes at 4 in
    let size = length-bytes_from bytes at 4 in
    be_bytes_4 piece (number_at 4 at bytes) size low
    (number-same 4 at 0 bytes piece (λ j lt. (let z : j ≡ 0 + j = omega arith in sym (get_or-bytes_from bytes at 4 j lt) ∙ (λ i. byte_at piece (z i)))) ∙ read piece)
  where
    low : (i : ℕ) → get_or (bytes_from bytes at 4) i 0 < 256
    low i = elim (cases_lt i 4) [
      | inl lt ↦ let e = get_or-bytes_from bytes at 4 i lt in let f = are (at + i) in omega (arith, e, f)
      | inr le ↦ let e : get_or (bytes_from bytes at 4) i 0 ≡ 0 = past (bytes_from bytes at 4) i (let size = length-bytes_from bytes at 4 in omega (arith, size, le)) in omega (arith, e)
    ]
      where
        past : (xs : List ℕ) (k : ℕ) → length xs ≤ k → get_or xs k 0 ≡ 0
        past [] k le = refl
        past (x ∷ xs) zero le = absurd (omega (arith, le))
        past (x ∷ xs) (suc k) le = past xs k (omega (arith, le))

    read : (piece : List ℕ) → number_at 4 0 piece ≡ from_be_bytes w32 piece
    read piece = omega arith

-- an entry that was read, as it is kept
module _ (bytes : List ℕ) (e : ℕ) (are : AreBytes bytes) (is : is_entry bytes e ≡ true) where
  abbrev entry : DirEntry
  entry = entry_of bytes e

  record IsSpelled : Type 0 where
    pub few : byte_at bytes (72 * e) ≤ 60
    pub name : IsTrue (is_name entry.name)
    pub fill : (k : ℕ) → byte_at bytes (72 * e) < k → k < 61 → byte_at bytes (72 * e + k) ≡ 0
    pub gap : (k : ℕ) → 61 ≤ k → k < 64 → byte_at bytes (72 * e + k) ≡ 0

  spelled : IsSpelled
  unfolding is_entry is_name_at
  spelled =
      let b = and_parts (is_name_at (72 * e) bytes) (are_zero (72 * e + 61) 3 bytes) (and_parts _ _ (and_parts _ _ (and_parts _ _ is).0).0).0 in
      let c = and_parts _ (are_zero (72 * e + 1 + byte_at bytes (72 * e)) (60 - byte_at bytes (72 * e)) bytes) b.0 in
      let d = and_parts _ (is_name (name_at (72 * e) bytes)) c.0 in
      let few = leb-true (byte_at bytes (72 * e)) 60 d.0 in
      record {
        few = few;
        name = d.1;
        fill = λ k low high. zeros_are bytes (72 * e + 1 + byte_at bytes (72 * e)) (60 - byte_at bytes (72 * e)) c.1 (72 * e + k) (omega (arith, low)) (omega (arith, low, high, few));
        gap = λ k low high. zeros_are bytes (72 * e + 61) 3 b.1 (72 * e + k) (omega (arith, low)) (omega (arith, low, high));
      }

  pub name_size : length entry.name ≡ byte_at bytes (72 * e)
  unfolding name_at
  name_size = let few = spelled.few in length-bytes_from bytes (72 * e + 1) (min (byte_at bytes (72 * e)) 60) ∙ omega (arith, few)

  name_byte : (k : ℕ) → k < byte_at bytes (72 * e) → get_or entry.name k 0 ≡ byte_at bytes (72 * e + 1 + k)
  unfolding name_at
  name_byte k lt = let few = spelled.few in get_or-bytes_from bytes (72 * e + 1) (min (byte_at bytes (72 * e)) 60) k (omega (arith, few, lt))

  low_number : (at : ℕ) → number_at 4 at bytes < 2 ^ 32
  unfolding number_at
  low_number at = let low = big_from-lt at 4 bytes are in omega (arith, low)

  pub fits : IsEntry entry
  fits = record { name = spelled.name; anode = low_number (72 * e + 64); unique = low_number (72 * e + 68) }

  -- its bytes
  abbrev front : List ℕ
  front = (length entry.name ∷ entry.name) ++ replicate (63 - length entry.name) 0

  front_size : length front ≡ 64
  front_size =
      let few = spelled.few in
      let size = name_size in
      let a = length-append (length entry.name ∷ entry.name) (replicate {A = ℕ} (63 - length entry.name) 0) in
      let b = length-replicate {A = ℕ} (63 - length entry.name) 0 in
      omega (arith, few, size, a, b)

  front_byte : (k : ℕ) → k < 64 → get_or front k 0 ≡ byte_at bytes (72 * e + k)
  front_byte zero lt = name_size ∙ (let z : 72 * e ≡ 72 * e + 0 = omega arith in ap (byte_at bytes) z)
  front_byte (suc k) lt = elim (cases_lt k (byte_at bytes (72 * e))) [
    | inl low ↦
        let size = name_size in
        let z : 72 * e + 1 + k ≡ 72 * e + suc k = omega arith in
        get_or_append_left entry.name (replicate (63 - length entry.name) 0) 0 k (omega (arith, low, size)) ∙ name_byte k low ∙ ap (byte_at bytes) z
    | inr high ↦
        let size = name_size in
        let few = spelled.few in
        get_or-append_right entry.name (replicate (63 - length entry.name) 0) (length entry.name) k 0 refl (omega (arith, high, size))
        ∙ get_or-replicate (63 - length entry.name) (k - length entry.name) 0 0 (omega (arith, high, size, few, lt)) ∙ sym (behind (cases_lt (suc k) 61) high)
  ]
    where
      behind : ((suc k < 61) ⊎ (61 ≤ suc k)) → byte_at bytes (72 * e) ≤ k → byte_at bytes (72 * e + suc k) ≡ 0
      behind (inl low) high = spelled.fill (suc k) (omega (arith, high)) low
      behind (inr past) high = spelled.gap (suc k) past lt

  pub entry_byte : (k : ℕ) → k < 72 → get_or (entry_bytes entry) k 0 ≡ byte_at bytes (72 * e + k)
  entry_byte k lt = by (cases_lt k 64) (cases_lt k 68)
    where
      anode_is : to_be_bytes w32 entry.anode ≡ bytes_from bytes (72 * e + 64) 4
      anode_is = number_spelled bytes (72 * e + 64) are

      unique_is : to_be_bytes w32 entry.unique ≡ bytes_from bytes (72 * e + 68) 4
      unique_is = number_spelled bytes (72 * e + 68) are

      two_size : length (front ++ to_be_bytes w32 entry.anode) ≡ 68
      two_size =
          let a = length-append front (to_be_bytes w32 entry.anode) in
          let b = ap length anode_is ∙ length-bytes_from bytes (72 * e + 64) 4 in
          let c = front_size in
          a ∙ omega (arith, b, c)

      by : (k < 64) ⊎ (64 ≤ k) → (k < 68) ⊎ (68 ≤ k) → get_or (entry_bytes entry) k 0 ≡ byte_at bytes (72 * e + k)
      by (inl low) either =
          let a = front_size in
          let b = two_size in
          get_or_append_left (front ++ to_be_bytes w32 entry.anode) (to_be_bytes w32 entry.unique) 0 k (omega (arith, b, low))
          ∙ get_or_append_left front (to_be_bytes w32 entry.anode) 0 k (omega (arith, a, low)) ∙ front_byte k low
      by (inr high) (inl low) =
          let b = two_size in
          let z : 72 * e + 64 + (k - 64) ≡ 72 * e + k = omega (arith, high) in
          get_or_append_left (front ++ to_be_bytes w32 entry.anode) (to_be_bytes w32 entry.unique) 0 k (omega (arith, b, low))
          ∙ get_or-append_right front (to_be_bytes w32 entry.anode) 64 k 0 front_size high
          ∙ ap (λ (l : List ℕ). get_or l (k - 64) 0) anode_is ∙ get_or-bytes_from bytes (72 * e + 64) 4 (k - 64) (omega (arith, high, low)) ∙ ap (byte_at bytes) z
      by (inr high) (inr past) =
          let z : 72 * e + 68 + (k - 68) ≡ 72 * e + k = omega (arith, past) in
          get_or-append_right (front ++ to_be_bytes w32 entry.anode) (to_be_bytes w32 entry.unique) 68 k 0 two_size past
          ∙ ap (λ (l : List ℕ). get_or l (k - 68) 0) unique_is ∙ get_or-bytes_from bytes (72 * e + 68) 4 (k - 68) (omega (arith, past, lt)) ∙ ap (byte_at bytes) z

-- what holds of each value holds of the list
each_listed : (value : ℕ → DirEntry) (n : ℕ) → ((e : ℕ) → e < n → IsEntry (value e)) → EachFits (listed value n)
unfolding joined
each_listed value zero each = tt
each_listed value (suc n) each = both (listed value n) (value n ∷ []) (each_listed value n (λ e lt. each e (omega arith))) (each n (omega arith), tt)
  where
    both : (xs ys : List DirEntry) → EachFits xs → EachFits ys → EachFits (xs ++ ys)
    both [] ys front back = back
    both (x ∷ xs) ys front back = (front.0, both xs ys front.1 back)

-- all of them
module _ (bytes : List ℕ) (n : ℕ) (are : AreBytes bytes) (each : (e : ℕ) → e < n → is_entry bytes e ≡ true) where
  abbrev entries : List DirEntry
  entries = listed (entry_of bytes) n

  pub each_fits : EachFits entries
  each_fits = each_listed (entry_of bytes) n (λ e lt. fits bytes e are (each e lt))

  -- a byte of entry e
  byte_here : (e j : ℕ) → e < n → j < 72 → get_or (bytes_of entries) (72 * e + j) 0 ≡ byte_at bytes (72 * e + j)
  byte_here e j lt low =
      let size = length-listed (entry_of bytes) n in
      byte_of_entry entries e j (entry_of bytes e) each_fits (omega (arith, size, lt)) low
      ∙ ap (λ (d : DirEntry). get_or (entry_bytes d) j 0) (get_or-listed (entry_of bytes) n e (entry_of bytes e) lt) ∙ entry_byte bytes e are (each e lt) j low

  pub bytes_spelled : (k : ℕ) → k < 72 * n → get_or (bytes_of entries) k 0 ≡ byte_at bytes k
  bytes_spelled k lt =
      let z : 72 * (k / 72) + k % 72 ≡ k = omega arith in
      ap (λ m. get_or (bytes_of entries) m 0) (sym z) ∙ byte_here (k / 72) (k % 72) (omega (arith, lt)) (omega arith) ∙ ap (byte_at bytes) z
