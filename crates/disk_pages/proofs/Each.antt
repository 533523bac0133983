-- Tests of all numbers below one.
use Rattle.std.proofs.Common.{◌≡◌, ◌<◌, ◌+◌, ℕ, zero, suc, inl, inr, refl, sym, ◌∙◌, ap, arith}
use Rattle.std.specs.Prelude.{Bool, true, false, ◌&&◌}
use Rattle.std.proofs.lemmas.Bool.{and_left, and_right, and_from, and_parts, cases_eq}
use Rattle.disk_pages.specs.Words.{each_below}

-- one more number
pub each_more : (test : ℕ → Bool) (n m : ℕ) → m ≡ n + 1 → each_below test n ≡ true → test n ≡ true → each_below test m ≡ true
unfolding each_below
each_more test n zero is all here = absurd (omega (arith, is))
each_more test n (suc m) is all here =
    let e : m ≡ n = omega (arith, is) in
    and_from (each_below test m) (test m) (ap (λ k. each_below test k) e ∙ all) (ap test e ∙ here)

-- a number below that fails
pub each_fails : (test : ℕ → Bool) (k n : ℕ) → k < n → test k ≡ false → each_below test n ≡ false
unfolding each_below
each_fails test k zero lt fails = absurd (omega arith)
each_fails test k (suc n) lt fails = elim (cases_eq k n) [
  | inl e ↦ and_right (each_below test n) (test n) (ap test (sym e) ∙ fails)
  | inr apart ↦ and_left (each_below test n) (test n) (each_fails test k n (omega (arith, apart)) fails)
]

-- no number is below 0
pub each_none : (test : ℕ → Bool) → each_below test 0 ≡ true
unfolding each_below
each_none test = refl
