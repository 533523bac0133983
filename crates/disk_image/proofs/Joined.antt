-- Parts put together.
use Rattle.std.proofs.Common.{◌≡◌, ◌<◌, ◌≤◌, ℕ, zero, suc, ◌+◌, ◌-◌, List, [], ◌∷◌, ◌++◌, length, get_or, inl, inr, refl, sym, ◌∙◌, ap, append_assoc, arith, ◌⊎◌}
use Rattle.std.specs.Prelude.{Bool, true, false, ◌||◌}
use Rattle.std.proofs.lemmas.Bool.{cases_eq, or_left, or_right}
use Rattle.std.proofs.lemmas.List.{length-append, get_or_append_left, get_or-append_right, append-nil}
use Rattle.disk_image.specs.Joined.{joined, listed, some_below, total}

pub joined_none : {A : Type 0} (part : ℕ → List A) → joined part 0 ≡ []
unfolding joined
joined_none part = refl

-- one part more
pub joined_more : {A : Type 0} (part : ℕ → List A) (n m : ℕ) → m ≡ n + 1 → joined part m ≡ joined part n ++ part n
unfolding joined
joined_more part n zero is = absurd (omega (arith, is))
joined_more part n (suc m) is = let e : m ≡ n = omega (arith, is) in λ i. joined part (e i) ++ part (e i)

-- what is put behind a list, part by part
pub pushed_more : {A : Type 0} (part : ℕ → List A) (n m : ℕ) (start now next : List A) → m ≡ n + 1
    → now ≡ start ++ joined part n → next ≡ now ++ part n → next ≡ start ++ joined part m
pushed_more part n m start now next is so here =
    here ∙ (λ i. so i ++ part n) ∙ append_assoc start (joined part n) (part n) ∙ (λ i. start ++ sym (joined_more part n m is) i)

pub pushed_none : {A : Type 0} (part : ℕ → List A) (start : List A) → start ≡ start ++ joined part 0
pushed_none part start = sym (append-nil start) ∙ (λ i. start ++ sym (joined_none part) i)

-- values, one by one
pub length-listed : {A : Type 0} (value : ℕ → A) (n : ℕ) → length (listed value n) ≡ n
unfolding joined
length-listed value zero = refl
length-listed value (suc n) = length-append (listed value n) (value n ∷ []) ∙ (λ i. length-listed value n i + 1) ∙ omega arith

pub get_or-listed : {A : Type 0} (value : ℕ → A) (n k : ℕ) (other : A) → k < n → get_or (listed value n) k other ≡ value k
unfolding joined
get_or-listed value zero k other lt = absurd (omega arith)
get_or-listed value (suc n) k other lt = elim (cases_eq k n) [
  | inl e ↦ get_or-append_right (listed value n) (value n ∷ []) n k other (length-listed value n) (omega (arith, e)) ∙ (let z : k - n ≡ 0 = omega (arith, e) in ap (λ j. get_or (value n ∷ []) j other) z) ∙ ap value (sym e)
  | inr apart ↦ get_or_append_left (listed value n) (value n ∷ []) other k (let e = length-listed value n in omega (arith, e, apart)) ∙ get_or-listed value n k other (omega (arith, apart))
]

pub some_none : (test : ℕ → Bool) → some_below test 0 ≡ false
unfolding some_below
some_none test = refl

pub some_more : (test : ℕ → Bool) (n m : ℕ) → m ≡ n + 1 → some_below test m ≡ (some_below test n || test n)
unfolding some_below
some_more test n zero is = absurd (omega (arith, is))
some_more test n (suc m) is = let e : m ≡ n = omega (arith, is) in λ i. some_below test (e i) || test (e i)

pub total_none : (number : ℕ → ℕ) → total number 0 ≡ 0
unfolding total
total_none number = refl

pub total_more : (number : ℕ → ℕ) (n m : ℕ) → m ≡ n + 1 → total number m ≡ total number n + number n
unfolding total
total_more number n zero is = absurd (omega (arith, is))
total_more number n (suc m) is = let e : m ≡ n = omega (arith, is) in λ i. total number (e i) + number (e i)
