-- The bytes of entries, one after another.
use Rattle.std.proofs.Common.{◌≡◌, ◌≤◌, ℕ, zero, suc, ◌+◌, ◌-◌, ◌*◌, List, [], ◌∷◌, ◌++◌, length, take, drop, get_or, refl, sym, ◌∙◌, ap, subst, arith, add-zero}
use Rattle.std.specs.Prelude.{Bool, true, false, ◌&&◌, IsTrue, nat_le, replicate}
use Rattle.std.specs.Int.{w32, to_be_bytes, from_be_bytes}
use Rattle.std.proofs.Math.Seq.{drop-append_seam, take-append_seam, drop-append-add, take-append-add, drop-nil}
use Rattle.std.proofs.lemmas.List.{length-append, length-replicate, append_assoc, drop-drop, get_or-drop, length-drop, take_all}
use Rattle.std.proofs.lemmas.Nat.{from_be_bytes-to_be_bytes_4}
use Rattle.std.proofs.lemmas.Bool.Decides.{nat_tests}
use Rattle.base_types.specs.Name.{is_name}
use Rattle.tree_calls.specs.declared.part.DirEntry.{DirEntry}
use Rattle.disk_lists.specs.Entries.{entry_bytes, bytes_of, IsEntry, EachFits, AreEntries}

-- a name has at most 60 bytes
both_left : (a b c : Bool) → (a && b && c) ≡ true → b ≡ true
both_left true true c is = refl
both_left true false c is = absurd (grind (arith, is))
both_left false b c is = absurd (grind (arith, is))

pub name_short : (name : List ℕ) → IsTrue (is_name name) → length name ≤ 60
name_short name is = by (nat_le (length name) 60) refl (both_left _ _ _ is)
  where
    by : (b : Bool) → nat_le (length name) 60 ≡ b → b ≡ true → length name ≤ 60
    by true e f = grind (arith, nat_tests)
    by false e f = absurd (grind (arith, f))

length-number : (n : ℕ) → length (to_be_bytes w32 n) ≡ 4
length-number n = refl

-- an entry has 72 bytes: a front of 64, and two numbers
front_of : DirEntry → List ℕ
front_of entry = length entry.name ∷ entry.name ++ replicate (63 - length entry.name) 0

length-front : (entry : DirEntry) → length entry.name ≤ 60 → length (front_of entry) ≡ 64
unfolding front_of
length-front entry le = let a = length-append entry.name (replicate (63 - length entry.name) 0) in let b = length-replicate {A = ℕ} (63 - length entry.name) 0 in omega (arith, a, b)

pub length-entry_bytes : (entry : DirEntry) → length entry.name ≤ 60 → length (entry_bytes entry) ≡ 72
unfolding front_of
length-entry_bytes entry le =
    let a = length-front entry le in
    let b = length-append (front_of entry) (to_be_bytes w32 entry.anode) in
    let c = length-append (front_of entry ++ to_be_bytes w32 entry.anode) (to_be_bytes w32 entry.unique) in
    let d = length-number entry.anode in
    let e = length-number entry.unique in
    c ∙ omega (arith, a, b, d, e)

pub short_entry : (entry : DirEntry) → IsEntry entry → length entry.name ≤ 60
short_entry entry is = name_short entry.name is.name

pub length-bytes_of : (entries : List DirEntry) → EachFits entries → length (bytes_of entries) ≡ 72 * length entries
length-bytes_of [] each = refl
length-bytes_of (entry ∷ entries) each =
    let a = length-entry_bytes entry (short_entry entry each.0) in
    let b = length-bytes_of entries each.1 in
    length-append (entry_bytes entry) (bytes_of entries) ∙ omega (arith, a, b)

-- these bytes are so many
pub length-laid : (entries : List DirEntry) (bytes : List ℕ) → AreEntries entries bytes → length bytes ≡ 72 * length entries
length-laid entries bytes are = ap length are.laid ∙ length-bytes_of entries are.each

take-nil : (n : ℕ) → take {A = ℕ} n [] ≡ []
take-nil zero = refl
take-nil (suc n) = refl

-- the front of two lists
pub take_front : (n : ℕ) (xs ys : List ℕ) → length xs ≡ n → take n (xs ++ ys) ≡ xs
take_front n xs ys size = (λ j. take (sym size j) (xs ++ ys)) ∙ take-append_seam xs ys

-- all behind a place
pub take_behind : (at : ℕ) (xs : List ℕ) → take (length xs - at) (drop at xs) ≡ drop at xs
take_behind at xs = take_all (length xs - at) (drop at xs) (let size = length-drop at xs in omega (arith, size))

-- from one place on, and before it
pub drop-bytes_of : (i : ℕ) (entries : List DirEntry) → EachFits entries → drop (72 * i) (bytes_of entries) ≡ bytes_of (drop i entries)
drop-bytes_of zero entries each = refl
drop-bytes_of (suc i) [] each = drop-nil (72 * suc i)
drop-bytes_of (suc i) (entry ∷ entries) each =
    let size = length-entry_bytes entry (short_entry entry each.0) in
    let at : 72 * suc i ≡ length (entry_bytes entry) + 72 * i = omega (arith, size) in
    (λ j. drop (at j) (entry_bytes entry ++ bytes_of entries)) ∙ drop-append-add (entry_bytes entry) (bytes_of entries) (72 * i) ∙ drop-bytes_of i entries each.1

pub take-bytes_of : (i : ℕ) (entries : List DirEntry) → EachFits entries → take (72 * i) (bytes_of entries) ≡ bytes_of (take i entries)
take-bytes_of zero entries each = refl
take-bytes_of (suc i) [] each = take-nil (72 * suc i)
take-bytes_of (suc i) (entry ∷ entries) each =
    let size = length-entry_bytes entry (short_entry entry each.0) in
    let at : 72 * suc i ≡ length (entry_bytes entry) + 72 * i = omega (arith, size) in
    let rest = take-bytes_of i entries each.1 in
    (λ j. take (at j) (entry_bytes entry ++ bytes_of entries)) ∙ take-append-add (entry_bytes entry) (bytes_of entries) (72 * i) ∙ (λ j. entry_bytes entry ++ rest j)

pub bytes_of-append : (a b : List DirEntry) → bytes_of (a ++ b) ≡ bytes_of a ++ bytes_of b
bytes_of-append [] b = refl
bytes_of-append (entry ∷ a) b = (let rest = bytes_of-append a b in λ j. entry_bytes entry ++ rest j) ∙ sym (append_assoc (entry_bytes entry) (bytes_of a) (bytes_of b))

-- the entry at a place
pub all_at : (i : ℕ) (entries : List DirEntry) (entry : DirEntry) (rest : List DirEntry) → EachFits entries → drop i entries ≡ entry ∷ rest → IsEntry entry
all_at i entries entry rest each is = (subst (λ (xs : List DirEntry). EachFits xs) is (all_drop i entries each)).0
  where
    all_drop : (i : ℕ) (entries : List DirEntry) → EachFits entries → EachFits (drop i entries)
    all_drop zero entries each = each
    all_drop (suc i) [] each = each
    all_drop (suc i) (entry ∷ entries) each = all_drop i entries each.1

module _ (entries : List DirEntry) (entry : DirEntry) (rest : List DirEntry) (bytes : List ℕ) (i : ℕ) (are : AreEntries entries bytes) (is : drop i entries ≡ entry ∷ rest) where
  valid : IsEntry entry
  valid = all_at i entries entry rest are.each is

  pub short_at : length entry.name ≤ 60
  short_at = short_entry entry valid

  from_here : drop (72 * i) bytes ≡ entry_bytes entry ++ bytes_of rest
  from_here = ap (drop (72 * i)) are.laid ∙ drop-bytes_of i entries are.each ∙ ap bytes_of is

  further : (k : ℕ) → drop (72 * i + k) bytes ≡ drop k (entry_bytes entry ++ bytes_of rest)
  further k = sym (drop-drop k (72 * i) bytes) ∙ ap (drop k) from_here

  -- its name
  abbrev tail : List ℕ
  tail = replicate (63 - length entry.name) 0 ++ to_be_bytes w32 entry.anode ++ to_be_bytes w32 entry.unique ++ bytes_of rest

  name_first : entry_bytes entry ++ bytes_of rest ≡ (length entry.name ∷ entry.name) ++ tail
  name_first =
      append_assoc ((length entry.name ∷ entry.name) ++ replicate (63 - length entry.name) 0 ++ to_be_bytes w32 entry.anode) (to_be_bytes w32 entry.unique) (bytes_of rest)
      ∙ append_assoc ((length entry.name ∷ entry.name) ++ replicate (63 - length entry.name) 0) (to_be_bytes w32 entry.anode) (to_be_bytes w32 entry.unique ++ bytes_of rest)
      ∙ append_assoc (length entry.name ∷ entry.name) (replicate (63 - length entry.name) 0) (to_be_bytes w32 entry.anode ++ (to_be_bytes w32 entry.unique ++ bytes_of rest))
      ∙ (λ j. (length entry.name ∷ entry.name) ++ regroup j)
    where
      regroup : replicate (63 - length entry.name) 0 ++ (to_be_bytes w32 entry.anode ++ (to_be_bytes w32 entry.unique ++ bytes_of rest)) ≡ replicate (63 - length entry.name) 0 ++ to_be_bytes w32 entry.anode ++ to_be_bytes w32 entry.unique ++ bytes_of rest
      regroup = sym (append_assoc (replicate (63 - length entry.name) 0 ++ to_be_bytes w32 entry.anode) (to_be_bytes w32 entry.unique) (bytes_of rest)
          ∙ append_assoc (replicate (63 - length entry.name) 0) (to_be_bytes w32 entry.anode) (to_be_bytes w32 entry.unique ++ bytes_of rest))

  pub size_there : get_or bytes (72 * i) 0 ≡ length entry.name
  size_there = sym (get_or-drop (72 * i) bytes 0 0 ∙ (λ j. get_or bytes (add-zero (72 * i) j) 0)) ∙ ap (λ (l : List ℕ). get_or l 0 0) (from_here ∙ name_first)

  pub name_there : take (length entry.name) (drop (72 * i + 1) bytes) ≡ entry.name
  name_there = ap (take (length entry.name)) (further 1 ∙ ap (drop 1) name_first) ∙ take-append_seam entry.name tail

  -- and its numbers
  numbers_first : entry_bytes entry ++ bytes_of rest ≡ front_of entry ++ (to_be_bytes w32 entry.anode ++ (to_be_bytes w32 entry.unique ++ bytes_of rest))
  unfolding front_of
  numbers_first =
      append_assoc (front_of entry ++ to_be_bytes w32 entry.anode) (to_be_bytes w32 entry.unique) (bytes_of rest)
      ∙ append_assoc (front_of entry) (to_be_bytes w32 entry.anode) (to_be_bytes w32 entry.unique ++ bytes_of rest)

  front_size : length (front_of entry) ≡ 64
  front_size = length-front entry (short_entry entry valid)

  pub anode_there : from_be_bytes w32 (take 4 (drop (72 * i + 64) bytes)) ≡ entry.anode
  anode_there =
      ap (λ (l : List ℕ). from_be_bytes w32 (take 4 l)) (further 64 ∙ (λ j. drop (sym front_size j) (numbers_first j)) ∙ drop-append_seam (front_of entry) (to_be_bytes w32 entry.anode ++ (to_be_bytes w32 entry.unique ++ bytes_of rest)))
      ∙ ap (from_be_bytes w32) (take-append_seam (to_be_bytes w32 entry.anode) (to_be_bytes w32 entry.unique ++ bytes_of rest))
      ∙ from_be_bytes-to_be_bytes_4 entry.anode valid.anode

  pub unique_there : from_be_bytes w32 (take 4 (drop (72 * i + 68) bytes)) ≡ entry.unique
  unique_there =
      let after : List ℕ = to_be_bytes w32 entry.unique ++ bytes_of rest in
      let at : 68 ≡ length (front_of entry) + 4 = omega (arith, front_size) in
      ap (λ (l : List ℕ). from_be_bytes w32 (take 4 l)) (further 68 ∙ (λ j. drop (at j) (numbers_first j)) ∙ drop-append-add (front_of entry) (to_be_bytes w32 entry.anode ++ after) 4 ∙ drop-append_seam (to_be_bytes w32 entry.anode) after)
      ∙ ap (from_be_bytes w32) (take-append_seam (to_be_bytes w32 entry.unique) (bytes_of rest))
      ∙ from_be_bytes-to_be_bytes_4 entry.unique valid.unique
