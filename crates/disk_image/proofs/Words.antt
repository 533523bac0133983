-- Zeros and names as tests and as facts.
use Rattle.std.proofs.Common.{◌≡◌, ◌≢◌, ◌<◌, ◌≤◌, ℕ, zero, suc, ◌+◌, List, [], ◌∷◌, length, get_or, inl, inr, refl, sym, ◌∙◌, ap, arith, ◌⊎◌}
use Rattle.std.specs.Prelude.{Bool, true, false, ◌&&◌, ◌==◌, nat_eq}
use Rattle.std.specs.Cmp.Lexicographic.{pointwise}
use Rattle.std.proofs.lemmas.Bool.{and_parts, and_from, eq-eqb, eqb-true, cases_eq, false≢true}
use Rattle.base_types.specs.Image.{byte_at, bytes_from}
use Rattle.disk_pages.specs.Words.{are_zero}

-- bytes that are zero pass, and what passes is zero
pub zeros_pass : (bytes : List ℕ) (at n : ℕ) → ((k : ℕ) → at ≤ k → k < at + n → byte_at bytes k ≡ 0) → are_zero at n bytes ≡ true
unfolding are_zero bytes_from
zeros_pass bytes at zero each = refl
zeros_pass bytes at (suc n) each = and_from (byte_at bytes at == 0) (are_zero (suc at) n bytes) (eq-eqb (byte_at bytes at) 0 (each at (omega arith) (omega arith))) (zeros_pass bytes (suc at) n (λ k from below. each k (omega arith) (omega arith)))

pub zeros_are : (bytes : List ℕ) (at n : ℕ) → are_zero at n bytes ≡ true → (k : ℕ) → at ≤ k → k < at + n → byte_at bytes k ≡ 0
unfolding are_zero bytes_from
zeros_are bytes at zero all k from below = absurd (omega arith)
zeros_are bytes at (suc n) all k from below =
    let parts = and_parts (byte_at bytes at == 0) (are_zero (suc at) n bytes) all in
    elim (cases_eq at k) [
      | inl e ↦ ap (byte_at bytes) (sym e) ∙ eqb-true (byte_at bytes at) 0 parts.0
      | inr apart ↦ zeros_are bytes (suc at) n parts.1 k (omega (arith, apart)) (omega arith)
    ]

-- equal lists of numbers
pub same_pass : (a b : List ℕ) → a ≡ b → pointwise nat_eq a b ≡ true
same_pass a b e = ap (pointwise nat_eq a) (sym e) ∙ self a
  where
    self : (xs : List ℕ) → pointwise nat_eq xs xs ≡ true
    self [] = refl
    self (x ∷ xs) = and_from (x == x) (pointwise nat_eq xs xs) (eq-eqb x x refl) (self xs)

pub pass_same : (a b : List ℕ) → pointwise nat_eq a b ≡ true → a ≡ b
pass_same [] [] all = refl
pass_same [] (y ∷ ys) all = absurd (false≢true all)
pass_same (x ∷ xs) [] all = absurd (false≢true all)
pass_same (x ∷ xs) (y ∷ ys) all =
    let parts = and_parts (x == y) (pointwise nat_eq xs ys) all in
    λ i. eqb-true x y parts.0 i ∷ pass_same xs ys parts.1 i
