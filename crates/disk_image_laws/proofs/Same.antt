-- Pages that say the same are the same.
use Rattle.std.proofs.Common.{◌≡◌, ◌<◌, ◌≤◌, ℕ, zero, suc, ◌+◌, ◌-◌, ◌*◌, ◌^◌, List, get_or, ◌/◌, inl, inr, refl, sym, ◌∙◌, ap, subst, arith}
use Rattle.std.specs.Prelude.{true, min, ◌==◌}
use Rattle.std.proofs.lemmas.Bool.{and_parts, cases_eq, cases_lt, eqb-true, leb-true}
use Rattle.std.proofs.lemmas.Nat.{div-mul-add}
use Rattle.byteorder.specs.Endian.{big_from}
use Rattle.byteorder.specs.Numbers.{big_from-lt}
use Rattle.base_types.specs.Image.{AreBytes, byte_at, bytes_from}
use Rattle.base_outside.proofs.Image.{get_or-bytes_from}
use Rattle.disk_layout.specs.Numbers.{number_at}
use Rattle.disk_pages.specs.Words.{are_zero, name_at, is_name_at}

-- equal bytes from a place on up to another
abbrev pub SameIn : List ℕ → List ℕ → ℕ → ℕ → Type 0
SameIn a b from to = (k : ℕ) → from ≤ k → k < to → byte_at a k ≡ byte_at b k

pub then_same : (a b : List ℕ) (from mid to : ℕ) → SameIn a b from mid → SameIn a b mid to → SameIn a b from to
then_same a b from mid to low high k le lt = elim (cases_lt k mid) [
  | inl below ↦ low k le below
  | inr above ↦ high k above lt
]

pub one_same : (a b : List ℕ) (at : ℕ) → byte_at a at ≡ byte_at b at → SameIn a b at (at + 1)
one_same a b at e k le lt = let is : k ≡ at = omega arith in ap (byte_at a) is ∙ e ∙ ap (byte_at b) (sym is)

-- zeros
zero_in : (bytes : List ℕ) (at n : ℕ) → are_zero at n bytes ≡ true → (k : ℕ) → at ≤ k → k < at + n → byte_at bytes k ≡ 0
unfolding are_zero bytes_from
zero_in bytes at zero all k from below = absurd (omega arith)
zero_in bytes at (suc n) all k from below =
    let parts = and_parts (byte_at bytes at == 0) (are_zero (suc at) n bytes) all in
    elim (cases_eq at k) [
      | inl e ↦ ap (byte_at bytes) (sym e) ∙ eqb-true (byte_at bytes at) 0 parts.0
      | inr apart ↦ zero_in bytes (suc at) n parts.1 k (omega (arith, apart)) (omega arith)
    ]

pub zeros_same : (a b : List ℕ) (at n to : ℕ) → to ≡ at + n → are_zero at n a ≡ true → are_zero at n b ≡ true → SameIn a b at to
zeros_same a b at n to is za zb k le lt = zero_in a at n za k le (omega (arith, is)) ∙ sym (zero_in b at n zb k le (omega (arith, is)))

-- bytes
pub bytes_same : (a b : List ℕ) (at n to : ℕ) → to ≡ at + n → bytes_from a at n ≡ bytes_from b at n → SameIn a b at to
bytes_same a b at n to is e k le lt =
    let there : at + (k - at) ≡ k = omega arith in
    ap (byte_at a) (sym there) ∙ sym (get_or-bytes_from a at n (k - at) (omega (arith, is))) ∙ ap (λ (l : List ℕ). get_or l (k - at) 0) e ∙ get_or-bytes_from b at n (k - at) (omega (arith, is)) ∙ ap (byte_at b) there

-- numbers
big_same : (a b : List ℕ) (i n : ℕ) → AreBytes a → AreBytes b → big_from i n a ≡ big_from i n b → (k : ℕ) → i ≤ k → k < i + n → byte_at a k ≡ byte_at b k
big_same a b i zero of_a of_b e k le lt = absurd (omega arith)
big_same a b i (suc n) of_a of_b e k le lt =
    let low_a = big_from-lt (suc i) n a of_a in
    let low_b = big_from-lt (suc i) n b of_b in
    let first : byte_at a i ≡ byte_at b i =
    sym (div-mul-add (byte_at a i) (256 ^ n) (big_from (suc i) n a) low_a) ∙ ap (λ m. m / 256 ^ n) e ∙ div-mul-add (byte_at b i) (256 ^ n) (big_from (suc i) n b) low_b in
    let high : byte_at a i * 256 ^ n ≡ byte_at b i * 256 ^ n = λ j. first j * 256 ^ n in
    let rest : big_from (suc i) n a ≡ big_from (suc i) n b = omega (arith, e, high) in
    elim (cases_eq k i) [
      | inl is ↦ ap (byte_at a) is ∙ first ∙ ap (byte_at b) (sym is)
      | inr apart ↦ big_same a b (suc i) n of_a of_b rest k (omega (arith, apart)) (omega arith)
    ]

pub number_same : (a b : List ℕ) (n at to : ℕ) → to ≡ at + n → AreBytes a → AreBytes b → number_at n at a ≡ number_at n at b → SameIn a b at to
unfolding number_at
number_same a b n at to is of_a of_b e k le lt = big_same a b at n of_a of_b e k le (omega (arith, is))

-- names
pub name_same : (a b : List ℕ) (at to : ℕ) → to ≡ at + 61 → is_name_at at a ≡ true → is_name_at at b ≡ true → byte_at a at ≡ byte_at b at → name_at at a ≡ name_at at b → SameIn a b at to
unfolding is_name_at name_at
name_same a b at to is of_a of_b size name =
    let parts_a = and_parts _ _ of_a in
    let parts_b = and_parts _ _ of_b in
    let short = leb-true (byte_at a at) 60 (and_parts _ _ parts_a.0).0 in
    let whole : min (byte_at a at) 60 ≡ byte_at a at = omega (arith, short) in
    let whole_b : min (byte_at b at) 60 ≡ byte_at a at = omega (arith, short, size) in
    let e : bytes_from a (at + 1) (byte_at a at) ≡ bytes_from b (at + 1) (byte_at a at) = ap (bytes_from a (at + 1)) (sym whole) ∙ name ∙ ap (bytes_from b (at + 1)) whole_b in
    then_same a b at (at + 1) to (one_same a b at size)
    (then_same a b (at + 1) (at + 1 + byte_at a at) to (bytes_same a b (at + 1) (byte_at a at) (at + 1 + byte_at a at) refl e)
    (zeros_same a b (at + 1 + byte_at a at) (60 - byte_at a at) to (omega (arith, is, short)) parts_a.1 (subst (λ n. are_zero (at + 1 + n) (60 - n) b ≡ true) (sym size) parts_b.1)))
