-- Reading a number in a range is right.
use Rattle.std.proofs.Common.{◌≡◌, ℕ, zero, suc, ◌+◌, ◌-◌, ◌*◌, ◌/◌, ◌%◌, ◌^◌, ◌<◌, ◌≤◌, Bool, true, ◌&&◌, refl, sym, ◌∙◌, arith}
use Rattle.std.specs.Prelude.{nat_lt, nat_le}
use Rattle.std.proofs.lemmas.Bool.{and_parts, and_from, lt-ltb, ltb-true, le-leb, leb-true}
use Rattle.std.proofs.Math.Nat.{div-div-eq-div-mul, pow-suc, div-one, div-mul-le_self, div-eq_of_lt}
use Rattle.std.proofs.lemmas.Nat.{le-div}
use Rattle.message_parts.specs.Spelled.{Spelled, ◌&◌, one_byte, big_endian, number}
use Rattle.message_parts.specs.Reading.{byte_at, begins_number, number_from, number_at}
use Rattle.message_parts.proofs.More.{more_right}
use Rattle.message_parts.proofs.Parts.{moved, end_right, byte_right}
use Rattle.message_parts.proofs.Right.{Right, Any, same, IsRight}

pub unit_above : (k : ℕ) → 0 < 256 ^ k
unit_above zero = omega arith
unit_above (suc k) = let h = unit_above k in rw (pow-suc 256 k) (omega (arith, h))

pub digit : (n k : ℕ) → n / 256 ^ suc k ≡ n / 256 ^ k / 256
digit n k = rw (pow-suc 256 k) (sym (div-div-eq-div-mul n (256 ^ k) 256))

pub div_le : (a b k : ℕ) → 0 < k → a ≤ b → a / k ≤ b / k
div_le a b k pos h = let e = div-mul-le_self a k in le-div (a / k) b k pos (omega (arith, e, h))

module _ (least most : ℕ) (order : least ≤ most) where
  abbrev pub within : ℕ → Bool
  within n = nat_le least n && nat_le n most

  pub within_bounds : (n : ℕ) → within n ≡ true → (least ≤ n) × (n ≤ most)
  within_bounds n h =
      let p = and_parts (nat_le least n) (nat_le n most) h in
      (leb-true least n p.0, leb-true n most p.1)

  pub bounds_within : (n : ℕ) → least ≤ n → n ≤ most → within n ≡ true
  bounds_within n low high = and_from (nat_le least n) (nat_le n most) (le-leb least n low) (le-leb n most high)

  abbrev pub digits : ℕ → ℕ → Spelled
  digits k n = record { fits = within n; bytes = big_endian k n }

  abbrev pub begins_with : ℕ → ℕ → ℕ → Type 0
  begins_with k v n = n / 256 ^ k ≡ v

  abbrev pub next_digit : ℕ → ℕ → ℕ → Bool
  next_digit k v byte = begins_number k least most (256 * v + byte)

  pub is_next : (k v n : ℕ) → within n ≡ true → n / 256 ^ suc k ≡ v
      → (nat_lt (n / 256 ^ k % 256) 256 && next_digit k v (n / 256 ^ k % 256)) ≡ true
  is_next k v n fits e =
      let b = within_bounds n fits in
      let q : ℕ = n / 256 ^ k in
      let h : q / 256 ≡ v = sym (digit n k) ∙ e in
      let j : 256 * v + q % 256 ≡ q = omega (arith, h) in
      let low = div_le least n (256 ^ k) (unit_above k) b.0 in
      let high = div_le n most (256 ^ k) (unit_above k) b.1 in
      and_from (nat_lt (q % 256) 256) (next_digit k v (q % 256)) (lt-ltb (q % 256) 256 (omega arith))
      (and_from (nat_le (least / 256 ^ k) (256 * v + q % 256)) (nat_le (256 * v + q % 256) (most / 256 ^ k))
      (le-leb (least / 256 ^ k) (256 * v + q % 256) (rw j low)) (le-leb (256 * v + q % 256) (most / 256 ^ k) (rw j high)))

  pub next_bounds : (k v a : ℕ) → (nat_lt a 256 && next_digit k v a) ≡ true → (a < 256) × (least / 256 ^ k ≤ 256 * v + a) × (256 * v + a ≤ most / 256 ^ k)
  next_bounds k v a h =
      let p = and_parts (nat_lt a 256) (next_digit k v a) h in
      let q = and_parts (nat_le (least / 256 ^ k) (256 * v + a)) (nat_le (256 * v + a) (most / 256 ^ k)) p.1 in
      (ltb-true a 256 p.0, leb-true (least / 256 ^ k) (256 * v + a) q.0, leb-true (256 * v + a) (most / 256 ^ k) q.1)

  -- with one digit more
  pub joined : (n k v a : ℕ) → n / 256 ^ suc k ≡ v → n / 256 ^ k % 256 ≡ a → n / 256 ^ k ≡ 256 * v + a
  joined n k v a e f = let h = digit n k in omega (arith, h, e, f)

  pub parted : (n k v a : ℕ) → a < 256 → n / 256 ^ k ≡ 256 * v + a → (n / 256 ^ suc k ≡ v) × (n / 256 ^ k % 256 ≡ a)
  parted n k v a lt e = let h = digit n k in (omega (arith, h, e, lt), omega (arith, h, e, lt))

  pub from_right : (k v : ℕ) → least / 256 ^ k ≤ v → v ≤ most / 256 ^ k → Right (begins_with k v) (digits k) same (number_from k least most v)
  from_right zero v low high =
      let l : least ≤ v = rw (← div-one least) low in
      let h : v ≤ most = rw (← div-one most) high in
      end_right (begins_with 0 v) (digits 0) same v v (div-one v) (bounds_within v l h) (λ u e f. (sym (div-one u) ∙ e, refl))
  from_right (suc k) v low high =
      let m : least / 256 ^ k ≤ most / 256 ^ k = div_le least most (256 ^ k) (unit_above k) order in
      let l : least / 256 ^ k / 256 ≤ v = rw (← digit least k) low in
      let h : v ≤ most / 256 ^ k / 256 = rw (← digit most k) high in
      let first : ℕ = least / 256 ^ k - 256 * v in
      let below : first < 256 = omega (arith, l) in
      let passes : next_digit k v first ≡ true =
      and_from (nat_le (least / 256 ^ k) (256 * v + first)) (nat_le (256 * v + first) (most / 256 ^ k))
      (le-leb (least / 256 ^ k) (256 * v + first) (omega arith)) (le-leb (256 * v + first) (most / 256 ^ k) (omega (arith, m, h, l))) in
      moved (begins_with (suc k) v) (λ n. one_byte (next_digit k v) (n / 256 ^ k % 256) & digits k n) same
      (begins_with (suc k) v) (digits (suc k)) same (number_from (suc k) least most v)
      (λ n bytes s. (n, record { chosen = s.chosen; fits = (and_parts (nat_lt (n / 256 ^ k % 256) 256 && next_digit k v (n / 256 ^ k % 256)) (within n) s.fits).1; whole = s.whole }, refl))
      (λ n bytes s. (n, record { chosen = s.chosen; fits = and_from (nat_lt (n / 256 ^ k % 256) 256 && next_digit k v (n / 256 ^ k % 256)) (within n) (is_next k v n s.fits s.chosen) s.fits; whole = s.whole }, refl))
      (more_right (begins_with (suc k) v) (one_byte (next_digit k v)) (digits k) (λ n. n / 256 ^ k % 256) same
      (byte_at (next_digit k v)) (λ a rest. number_from k least most (256 * v + a) rest)
      (byte_right (next_digit k v) first below passes)
      (λ a fits.
      let b = next_bounds k v a fits in
      moved (begins_with k (256 * v + a)) (digits k) same (λ n. begins_with (suc k) v n × (n / 256 ^ k % 256 ≡ a)) (digits k) same
      (number_from k least most (256 * v + a))
      (λ n bytes s. (n, record { chosen = parted n k v a b.0 s.chosen; fits = s.fits; whole = s.whole }, refl))
      (λ n bytes s. (n, record { chosen = joined n k v a s.chosen.0 s.chosen.1; fits = s.fits; whole = s.whole }, refl))
      (from_right k (256 * v + a) b.1 b.2)))

  pub number_right : (width : ℕ) → most < 256 ^ width → IsRight (number width least most) (number_at width least most)
  unfolding number number_at
  number_right width top =
      moved (begins_with width 0) (digits width) same Any (number width least most) same (number_from width least most 0)
      (λ n bytes s. (n, record { chosen = tt; fits = s.fits; whole = s.whole }, refl))
      (λ n bytes s. (n, record { chosen = div-eq_of_lt (omega (arith, top, within_bounds n s.fits)); fits = s.fits; whole = s.whole }, refl))
      (from_right width 0 (let h : least / 256 ^ width ≡ 0 = div-eq_of_lt (omega (arith, top, order)) in rw h (omega arith)) (omega arith))
