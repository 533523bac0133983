-- Zeros in pages.
use Rattle.std.proofs.Common.{◌≡◌, ◌<◌, ◌≤◌, ℕ, zero, suc, ◌+◌, ◌*◌, ◌^◌, List, inl, inr, refl, sym, ◌∙◌, ap, arith}
use Rattle.std.specs.Prelude.{Bool, true, ◌==◌, ◌&&◌}
use Rattle.std.specs.List.{list_all}
use Rattle.std.proofs.Math.Nat.{one-le-pow, mul-le-mul_left}
use Rattle.std.proofs.lemmas.Bool.{and_parts, and_from, and_left, cases_eq, eqb-true, eq-eqb, ne_eqb}
use Rattle.base_types.specs.Image.{byte_at, bytes_from}
use Rattle.disk_layout.specs.Numbers.{number_at}
use Rattle.base_outside.proofs.Image.{bytes_from-same}
use Rattle.disk_pages.specs.Words.{are_zero}
use Rattle.disk_pages.proofs.Tests.{and_assoc}

pub zeros_at : (at n : ℕ) (page : List ℕ) → ((k : ℕ) → at ≤ k → k < at + n → byte_at page k ≡ 0)
    → are_zero at n page ≡ true
unfolding are_zero bytes_from
zeros_at at zero page zeros = refl
zeros_at at (suc n) page zeros =
    and_from (byte_at page at == 0) (are_zero (suc at) n page)
    (eq-eqb (byte_at page at) 0 (zeros at (omega arith) (omega arith)))
    (zeros_at (suc at) n page (λ k from below. zeros k (omega arith) (omega arith)))

pub zero_in : (at n : ℕ) (page : List ℕ) → are_zero at n page ≡ true → (k : ℕ) → at ≤ k → k < at + n
    → byte_at page k ≡ 0
unfolding are_zero bytes_from
zero_in at zero page all k from below = absurd (omega arith)
zero_in at (suc n) page all k from below =
    let parts = and_parts (byte_at page at == 0) (are_zero (suc at) n page) all in
    elim (cases_eq at k) [
      | inl e ↦ ap (byte_at page) (sym e) ∙ eqb-true (byte_at page at) 0 parts.0
      | inr apart ↦ zero_in (suc at) n page parts.1 k (omega (arith, apart)) (omega arith)
    ]

-- zeros of two ranges, one behind the other
pub zeros_split : (at n m : ℕ) (page : List ℕ)
    → are_zero at (n + m) page ≡ (are_zero at n page && are_zero (at + n) m page)
unfolding are_zero bytes_from
zeros_split at zero m page =
    (let e : zero + m ≡ m = omega arith in ap (λ (k : ℕ). are_zero at k page) e)
    ∙ (let e : at ≡ at + zero = omega arith in ap (λ (k : ℕ). are_zero k m page) e)
zeros_split at (suc n) m page =
    let here = byte_at page at == 0 in
    (let e : suc n + m ≡ suc (n + m) = omega arith in ap (λ (k : ℕ). are_zero at k page) e)
    ∙ ap (λ (b : Bool). here && b) (zeros_split (suc at) n m page)
    ∙ sym (and_assoc here (are_zero (suc at) n page) (are_zero (suc at + n) m page))
    ∙ (let e : suc at + n ≡ at + suc n = omega arith in
    ap (λ (k : ℕ). (here && are_zero (suc at) n page) && are_zero k m page) e)

-- a number is zero where its bytes are
sum_zero : (a b p : ℕ) → 1 ≤ p → ((a == 0) && (b == 0)) ≡ (a * p + b == 0)
sum_zero a b p some = elim (cases_eq a 0) [
  | inl is ↦
      let t : (a == 0) ≡ true = eq-eqb a 0 is in
      let none : a * p ≡ 0 * p = λ i. is i * p in
      let e : b ≡ a * p + b = omega (arith, none) in
      (λ i. t i && (b == 0)) ∙ ap (λ (n : ℕ). n == 0) e
  | inr apart ↦
      let le : a * 1 ≤ a * p = mul-le-mul_left a some in
      and_left (a == 0) (b == 0) (ne_eqb a 0 apart)
      ∙ sym (ne_eqb (a * p + b) 0 (λ e. apart (omega (arith, e, le))))
]

pub zero_number : (n at : ℕ) (page : List ℕ) → are_zero at n page ≡ (number_at n at page == 0)
unfolding are_zero bytes_from number_at
zero_number zero at page = refl
zero_number (suc n) at page =
    ap (λ (b : Bool). (byte_at page at == 0) && b) (zero_number n (suc at) page)
    ∙ sum_zero (byte_at page at) (number_at n (suc at) page) (256 ^ n) (one-le-pow n 256 (omega arith))

pub zeros_same : (at n : ℕ) (a b : List ℕ) → ((k : ℕ) → at ≤ k → k < at + n → byte_at b k ≡ byte_at a k)
    → are_zero at n b ≡ are_zero at n a
unfolding are_zero
zeros_same at n a b same = ap (list_all (λ (byte : ℕ). byte == 0)) (bytes_from-same b a at n same)
