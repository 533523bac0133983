-- Numbers and pieces in pages.
use Rattle.std.proofs.Common.{◌≡◌, ◌<◌, ◌≤◌, ℕ, zero, suc, ◌+◌, ◌-◌, ◌*◌, ◌^◌, List, [], ◌++◌, length, take, drop, get_or, refl, sym, ◌∙◌, ap, arith}
use Rattle.std.proofs.lemmas.List.{append-nil, length-take-le, length-drop, length-append, get_or_append_left, get_or-append_right, get_or-take, get_or-drop}
use borrow.Rule.Slice.PartMut.{put_mid}
use Rattle.byteorder.specs.Endian.{big_from, big_number, big_bytes}
use Rattle.byteorder.specs.Numbers.{big_number-reads_back}
use Rattle.base_types.specs.Image.{byte_at, Torn, Holds}
use Rattle.base_outside.proofs.Image.{bytes_from-is, get_or-bytes_from}
use Rattle.disk_layout.specs.Numbers.{number_at}

same_number : (n i k : ℕ) (xs ys : List ℕ) → ((j : ℕ) → j < n → get_or xs (i + j) 0 ≡ get_or ys (k + j) 0) → big_from i n xs ≡ big_from k n ys
same_number zero i k xs ys same = refl
same_number (suc n) i k xs ys same =
    let here : get_or xs i 0 ≡ get_or ys k 0 =
    (let e : i ≡ i + 0 = omega arith in ap (λ (m : ℕ). get_or xs m 0) e) ∙ same 0 (omega arith) ∙ (let e : k + 0 ≡ k = omega arith in ap (λ (m : ℕ). get_or ys m 0) e) in
    let rest = same_number n (suc i) (suc k) xs ys (λ j lt.
    (let e : suc i + j ≡ i + suc j = omega arith in ap (λ (m : ℕ). get_or xs m 0) e) ∙ same (suc j) (omega arith) ∙ (let e : k + suc j ≡ suc k + j = omega arith in ap (λ (m : ℕ). get_or ys m 0) e)) in
    λ i. here i * 256 ^ n + rest i

-- the same bytes, here and there, make the same number
pub number-same : (n at there : ℕ) (xs ys : List ℕ) → ((j : ℕ) → j < n → byte_at xs (at + j) ≡ byte_at ys (there + j)) → number_at n at xs ≡ number_at n there ys
unfolding number_at
number-same n at there xs ys same = same_number n at there xs ys same

-- the number that the first bytes of a piece make
pub number-read : (n at m : ℕ) (xs : List ℕ) → n ≤ m → big_number n (take m (drop at xs)) ≡ number_at n at xs
unfolding number_at
number-read n at m xs le = same_number n 0 at (take m (drop at xs)) xs (λ j lt. let e : 0 + j ≡ j = omega arith in ap (λ (k : ℕ). get_or (take m (drop at xs)) k 0) e ∙ get_or-take m (drop at xs) j 0 (omega arith) ∙ get_or-drop at xs j 0)

-- a number that was written
pub number-written : (n at number : ℕ) (piece xs : List ℕ) → piece ≡ big_bytes n number → length piece ≡ n → number < 256 ^ n → Holds at piece xs → number_at n at xs ≡ number
unfolding number_at
number-written n at number piece xs is size fits holds =
    same_number n at 0 xs piece (λ j lt. sym (get_or-bytes_from xs at (length piece) j (omega arith)) ∙ ap (λ (l : List ℕ). get_or l j 0) holds.inside ∙ (let e : j ≡ 0 + j = omega arith in ap (λ (k : ℕ). get_or piece k 0) e))
    ∙ ap (big_number n) is ∙ one
  where
    one : big_number n (big_bytes n number) ≡ number
    one = ap (big_number n) (sym (append-nil (big_bytes n number))) ∙ big_number-reads_back n number [] fits

module _ (at : ℕ) (piece old : List ℕ) (fits : at + length piece ≤ length old) where
  abbrev written : List ℕ
  written = take at old ++ (piece ++ drop (length piece) (drop at old))

  front : length (take at old) ≡ at
  front = length-take-le at old (omega arith)

  before : (k : ℕ) → k < at → byte_at written k ≡ byte_at old k
  before k lt = get_or_append_left (take at old) (piece ++ drop (length piece) (drop at old)) 0 k (omega (arith, front)) ∙ get_or-take at old k 0 lt

  after : (k : ℕ) → at + length piece ≤ k → byte_at written k ≡ byte_at old k
  after k le =
      let n = length piece in
      let e : at + (n + (k - at - n)) ≡ k = omega arith in
      get_or-append_right (take at old) (piece ++ drop n (drop at old)) at k 0 front (omega arith)
      ∙ get_or-append_right piece (drop n (drop at old)) n (k - at) 0 refl (omega arith)
      ∙ get_or-drop n (drop at old) (k - at - n) 0 ∙ get_or-drop at old (n + (k - at - n)) 0 ∙ ap (byte_at old) e

  inside : (j : ℕ) → j < length piece → byte_at written (at + j) ≡ get_or piece j 0
  inside j lt =
      let e : at + j - at ≡ j = omega arith in
      get_or-append_right (take at old) (piece ++ drop (length piece) (drop at old)) at (at + j) 0 front (omega arith)
      ∙ ap (byte_at (piece ++ drop (length piece) (drop at old))) e ∙ get_or_append_left piece (drop (length piece) (drop at old)) 0 j lt

  size : length written ≡ length old
  size =
      omega (arith, front, length-append (take at old) (piece ++ drop (length piece) (drop at old)), length-append piece (drop (length piece) (drop at old)), length-drop (length piece) (drop at old), length-drop at old)

  -- a piece that was written
  pub piece_torn : Torn at (length piece) old written
  piece_torn = record { before = before; after = after; no_shorter = omega (arith, size); no_longer = omega (arith, size) }

  pub piece_held : Holds at piece written
  piece_held = record { inside = bytes_from-is written piece at inside; reached = λ some. omega (arith, size) }

  -- the list that a copy into a range makes
  pub piece_is : (m : ℕ) (new : List ℕ) → m ≡ length piece → new ≡ piece → put_mid at m old new ≡ written
  piece_is m new many same = λ j. put_mid at (many j) old (same j)
