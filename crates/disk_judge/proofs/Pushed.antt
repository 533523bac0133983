-- One test more behind those of the first places.
use Rattle.std.proofs.Common.{◌≡◌, ◌<◌, ℕ, ◌+◌, ◌-◌, ◌*◌, ◌/◌, ◌%◌, List, [], ◌∷◌, ◌++◌, length, get_or, inl, inr, sym, ◌∙◌, ap, arith}
use Rattle.std.specs.Prelude.{Bool, false}
use Rattle.std.proofs.lemmas.Bool.{cases_eq}
use Rattle.std.proofs.lemmas.List.{get_or_append_left, get_or-append_right}

-- the last one, and those before it
pub last_is : (tests : List Bool) (test : Bool) (n : ℕ) → length tests ≡ n → get_or (tests ++ test ∷ []) n false ≡ test
last_is tests test n size = get_or-append_right tests (test ∷ []) n n false size (omega (arith, size)) ∙ (let e : n - n ≡ 0 = omega arith in ap (λ k. get_or (test ∷ []) k false) e)

pub earlier_is : (tests : List Bool) (test : Bool) (n k : ℕ) → length tests ≡ n → k < n → get_or (tests ++ test ∷ []) k false ≡ get_or tests k false
earlier_is tests test n k size lt = get_or_append_left tests (test ∷ []) false k (omega (arith, size))

-- by number
pub pushed_test : (value : ℕ → Bool) (tests next : List Bool) (test : Bool) (n : ℕ) → length tests ≡ n
    → ((q : ℕ) → q < n → get_or tests q false ≡ value q) → test ≡ value n → next ≡ tests ++ test ∷ []
    → (q : ℕ) → q < n + 1 → get_or next q false ≡ value q
pushed_test value tests next test n size before is next_is q lt = (λ i. get_or (next_is i) q false) ∙ elim (cases_eq q n) [
  | inl e ↦ ap (λ k. get_or (tests ++ test ∷ []) k false) e ∙ last_is tests test n size ∙ is ∙ ap value (sym e)
  | inr apart ↦ earlier_is tests test n q size (omega (arith, apart)) ∙ before q (omega (arith, apart))
]

-- by slot and anode
pub pushed_pair : (value : ℕ → ℕ → Bool) (tests next : List Bool) (test : Bool) (n : ℕ) → length tests ≡ n
    → ((slot i : ℕ) → 64 * slot + i < n → i < 64 → get_or tests (64 * slot + i) false ≡ value slot i)
    → test ≡ value (n / 64) (n % 64) → next ≡ tests ++ test ∷ []
    → (slot i : ℕ) → 64 * slot + i < n + 1 → i < 64 → get_or next (64 * slot + i) false ≡ value slot i
pushed_pair value tests next test n size before is next_is slot i lt low = (λ j. get_or (next_is j) (64 * slot + i) false) ∙ elim (cases_eq (64 * slot + i) n) [
  | inl e ↦
      let a : n / 64 ≡ slot = omega (arith, e, low) in
      let b : n % 64 ≡ i = omega (arith, e, low) in
      ap (λ k. get_or (tests ++ test ∷ []) k false) e ∙ last_is tests test n size ∙ is ∙ (λ j. value (a j) (b j))
  | inr apart ↦ earlier_is tests test n (64 * slot + i) size (omega (arith, apart)) ∙ before slot i (omega (arith, apart)) low
]
