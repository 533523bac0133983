-- Numbers of which each byte may be any, as byteorder reads and writes them.
use Rattle.std.proofs.Common.{◌≡◌, ℕ, zero, suc, ◌+◌, ◌-◌, ◌*◌, ◌/◌, ◌%◌, ◌^◌, ◌<◌, ◌≤◌, true, List, [], ◌∷◌, ◌++◌, length, Ok, Err, refl, sym, ◌∙◌, ap, arith, take, drop, append-nil, slice_index}
use Rattle.std.specs.Prelude.{nat_le}
use Rattle.std.specs.Int.{byte_at as digit_of, bytes_high_first}
use Rattle.std.proofs.lemmas.Bool.{and_from, le-leb}
use Rattle.std.proofs.lemmas.List.{take_all}
use Rattle.std.proofs.lemmas.Nat.{le-div}
use Rattle.std.proofs.Math.Nat.{div-one, div-le_self, mul-le-mul_right, pow-suc}
use Rattle.byteorder.specs.Endian.{big_from}
use Rattle.byteorder.specs.Numbers.{big_from-cons, big_from-take, big_from-lt}
use Rattle.message_parts.specs.Spelled.{big_endian}
use Rattle.message_parts.specs.Reading.{begins_number, number_from, number_at}
use Rattle.message_parts.proofs.Numbers.{unit_above}
use Rattle.message_parts.proofs.Right.{AreBytes}

-- one more digit leaves room for those that lack
more_room : (k most front b : ℕ) → b < 256 → (front + 1) * 256 ^ suc k ≤ most + 1 → (256 * front + b + 1) * 256 ^ k ≤ most + 1
more_room k most front b lt room =
    let h : (front + 1) * (256 ^ k * 256) ≤ most + 1 = rw (pow-suc 256 k) at room in
    let m : (b + 1) * 256 ^ k ≤ 256 * 256 ^ k = mul-le-mul_right (256 ^ k) (omega (arith, lt)) in
    omega (arith, h, m)

any_digit : (k most front b : ℕ) → b < 256 → (front + 1) * 256 ^ suc k ≤ most + 1 → begins_number k 0 most (256 * front + b) ≡ true
any_digit k most front b lt room =
    let n : ℕ = 256 * front + b in
    let h : (n + 1) * 256 ^ k ≤ most + 1 = more_room k most front b lt room in
    let pos = unit_above k in
    let z : 0 / 256 ^ k ≤ 0 = div-le_self 0 (256 ^ k) in
    and_from (nat_le (0 / 256 ^ k) n) (nat_le n (most / 256 ^ k)) (le-leb (0 / 256 ^ k) n (omega (arith, z)))
    (le-leb n (most / 256 ^ k) (le-div n most (256 ^ k) pos (omega (arith, h, pos))))

pub whole_short : (k most front : ℕ) (bytes : List ℕ) → AreBytes bytes → (front + 1) * 256 ^ k ≤ most + 1 → length bytes < k → number_from k 0 most front bytes ≡ Err 0
whole_short zero most front bytes are room h = absurd (omega (arith, h))
whole_short (suc k) most front [] are room h = refl
whole_short (suc k) most front (b ∷ bs) are room h =
    let again = whole_short k most (256 * front + b) bs are.1 (more_room k most front b are.0 room) (omega (arith, h)) in
    rw (any_digit k most front b are.0 room) again

pub whole_read : (k most front : ℕ) (bytes : List ℕ) → AreBytes bytes → (front + 1) * 256 ^ k ≤ most + 1 → k ≤ length bytes
    → number_from k 0 most front bytes ≡ Ok (front * 256 ^ k + big_from 0 k bytes, drop k bytes)
whole_read zero most front bytes are room h = let e : front ≡ front * 256 ^ 0 + 0 = omega arith in ap (λ v. Ok (v, bytes)) e
whole_read (suc k) most front [] are room h = absurd (omega (arith, h))
whole_read (suc k) most front (b ∷ bs) are room h =
    let again = whole_read k most (256 * front + b) bs are.1 (more_room k most front b are.0 room) (omega (arith, h)) in
    let c = big_from-cons 0 k b bs in
    let e : (256 * front + b) * 256 ^ k + big_from 0 k bs ≡ front * 256 ^ suc k + (b * 256 ^ k + big_from 1 k (b ∷ bs)) =
    rw (pow-suc 256 k, c) (omega arith) in
    rw (any_digit k most front b are.0 room) (again ∙ ap (λ v. Ok (v, drop k bs)) e)

-- the digits of a number are its bytes
digit_is : (k n : ℕ) → digit_of k n ≡ n / 256 ^ k % 256
digit_is zero n = ap (λ v. v % 256) (sym (div-one n))
digit_is (suc k) n = refl

pub digits_are : (k n : ℕ) → bytes_high_first k n ≡ big_endian k n
digits_are zero n = refl
digits_are (suc k) n = rw (digit_is k n) (ap (λ v. (n / 256 ^ k % 256) ∷ v) (digits_are k n))

digit_count : (k n : ℕ) → length (big_endian k n) ≡ k
digit_count zero n = refl
digit_count (suc k) n = let e = digit_count k n in omega (arith, e)

-- the last of more digits
pub last_digits : (more k n : ℕ) → drop more (big_endian (more + k) n) ≡ big_endian k n
last_digits zero k n = ap (λ v. big_endian v n) (omega arith)
last_digits (suc more) k n =
    let e : suc more + k ≡ suc (more + k) = omega arith in
    rw e (last_digits more k n)

-- all of a number's range
pub whole_room : (k : ℕ) → (0 + 1) * 256 ^ k ≤ 256 ^ k - 1 + 1
whole_room k = let pos = unit_above k in omega (arith, pos)

pub number_short : (k : ℕ) (bytes : List ℕ) → AreBytes bytes → length bytes < k → number_at k 0 (256 ^ k - 1) bytes ≡ Err 0
unfolding number_at
number_short k bytes are h = whole_short k (256 ^ k - 1) 0 bytes are (whole_room k) h

pub number_whole : (k : ℕ) (bytes : List ℕ) → AreBytes bytes → k ≤ length bytes → number_at k 0 (256 ^ k - 1) bytes ≡ Ok (big_from 0 k (take k bytes), drop k bytes)
unfolding number_at
number_whole k bytes are h =
    whole_read k (256 ^ k - 1) 0 bytes are (whole_room k) h
    ∙ ap (λ v. Ok (v, drop k bytes)) (let e = big_from-take 0 k k bytes (omega arith) in omega (arith, e))

pub last_written : (width n : ℕ) → width ≤ 8 → drop (8 - width) (bytes_high_first 8 n ++ []) ≡ big_endian width n
last_written width n h =
    let e : 8 - width + width ≡ 8 = omega (arith, h) in
    ap (λ v. drop (8 - width) v) (append-nil (bytes_high_first 8 n) ∙ digits_are 8 n ∙ ap (λ v. big_endian v n) (sym e))
    ∙ last_digits (8 - width) width n

pub last_taken : (width n : ℕ) (buf : List ℕ) → buf ≡ bytes_high_first 8 n ++ [] → width ≤ 8 → take (8 - (8 - width)) (drop (8 - width) buf) ≡ big_endian width n
last_taken width n buf e h =
    let d : drop (8 - width) buf ≡ big_endian width n = ap (λ v. drop (8 - width) v) e ∙ last_written width n h in
    let l : length (big_endian width n) ≤ 8 - (8 - width) = omega (arith, digit_count width n, h) in
    ap (λ v. take (8 - (8 - width)) v) d ∙ take_all (8 - (8 - width)) (big_endian width n) l

pub below_whole : (k : ℕ) (bytes : List ℕ) → ((i : ℕ) → slice_index bytes i < 256) → big_from 0 k (take k bytes) < 256 ^ k
below_whole k bytes h =
    let e = big_from-take 0 k k bytes (omega arith) in
    let l = big_from-lt 0 k bytes h in
    omega (arith, e, l)
