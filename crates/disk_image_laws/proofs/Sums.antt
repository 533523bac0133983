-- Sums and counts over parts put together.
use Rattle.std.proofs.Common.{◌≡◌, ◌≢◌, ◌<◌, ◌≤◌, ℕ, zero, suc, ◌+◌, List, [], ◌∷◌, inl, inr, refl, ◌∙◌, ap, arith}
use Rattle.std.specs.Prelude.{Bool, true, cond, count_by}
use Rattle.std.proofs.lemmas.Bool.{cases_eq}
use Rattle.std.proofs.lemmas.List.Sums.{sum_by-append}
use Rattle.disk_image.specs.Joined.{joined, listed, total}

-- one number of a sum, and two
pub total_one : (number : ℕ → ℕ) (n k : ℕ) → k < n → number k ≤ total number n
unfolding total
total_one number zero k lt = absurd (omega arith)
total_one number (suc n) k lt = elim (cases_eq k n) [
  | inl e ↦ let same : number k ≡ number n = ap number e in omega (arith, same)
  | inr apart ↦ let rest = total_one number n k (omega (arith, apart)) in omega (arith, rest)
]

pub total_two : (number : ℕ → ℕ) (n a b : ℕ) → a < n → b < n → a ≢ b → number a + number b ≤ total number n
unfolding total
total_two number zero a b low_a low_b apart = absurd (omega arith)
total_two number (suc n) a b low_a low_b apart = elim (cases_eq a n) [
  | inl e ↦
      let same : number a ≡ number n = ap number e in
      let rest = total_one number n b (omega (arith, e, apart)) in
      omega (arith, same, rest)
  | inr not_a ↦ elim (cases_eq b n) [
    | inl e ↦
        let same : number b ≡ number n = ap number e in
        let rest = total_one number n a (omega (arith, not_a)) in
        omega (arith, same, rest)
    | inr not_b ↦
        let rest = total_two number n a b (omega (arith, not_a)) (omega (arith, not_b)) apart in
        omega (arith, rest)
  ]
]

-- sums of numbers that are no greater, and of one that is less
pub total_le : (a b : ℕ → ℕ) (n : ℕ) → ((k : ℕ) → a k ≤ b k) → total a n ≤ total b n
unfolding total
total_le a b zero le = omega arith
total_le a b (suc n) le = let rest = total_le a b n le in let here = le n in omega (arith, rest, here)

pub total_less : (a b : ℕ → ℕ) (n k : ℕ) → ((i : ℕ) → a i ≤ b i) → k < n → a k + 1 ≤ b k → total a n + 1 ≤ total b n
unfolding total
total_less a b zero k le lt less = absurd (omega arith)
total_less a b (suc n) k le lt less = elim (cases_eq k n) [
  | inl e ↦
      let here : a n + 1 ≤ b n = let p = ap a e in let q = ap b e in omega (arith, p, q, less) in
      let rest = total_le a b n le in
      omega (arith, rest, here)
  | inr apart ↦
      let rest = total_less a b n k le (omega (arith, apart)) less in
      let here = le n in
      omega (arith, rest, here)
]

pub total_most : (a : ℕ → ℕ) (n : ℕ) → ((k : ℕ) → a k ≤ 1) → total a n ≤ n
unfolding total
total_most a zero few = omega arith
total_most a (suc n) few = let rest = total_most a n few in let here = few n in omega (arith, rest, here)

-- how many of the elements of parts pass a test
pub count_joined : {X : Type 0} (test : X → Bool) (part : ℕ → List X) (n : ℕ)
    → count_by test (joined part n) ≡ total (λ k. count_by test (part k)) n
unfolding joined total
count_joined test part zero = refl
count_joined test part (suc n) =
    sum_by-append (λ y. cond (test y) 1 0) (joined part n) (part n)
    ∙ (λ i. count_joined test part n i + count_by test (part n))

-- one element more
pub count_cons : {X : Type 0} (test : X → Bool) (x : X) (xs : List X) → count_by test (x ∷ xs) ≡ 0 + cond (test x) 1 0 + count_by test xs
count_cons test x xs = sum_by-append (λ y. cond (test y) 1 0) (x ∷ []) xs

one_is : {X : Type 0} (test : X → Bool) (x : X) → test x ≡ true → 1 ≤ count_by test (x ∷ [])
one_is test x is =
    let e : cond {A = ℕ} (test x) 1 0 ≡ 1 = ap (λ b. cond b 1 0) is in
    let sum : 1 ≤ 0 + cond (test x) 1 0 = omega (arith, e) in
    sum

module _ {X : Type 0} (test : X → Bool) where
  -- of one value, and of two at different places
  pub listed_one : (value : ℕ → X) (n k : ℕ) → k < n → test (value k) ≡ true → 1 ≤ count_by test (listed value n)
  listed_one value n k lt is =
      let e = count_joined test (λ j. value j ∷ []) n in
      let a = total_one (λ j. count_by test (value j ∷ [])) n k lt in
      let b = one_is test (value k) is in
      omega (arith, e, a, b)

  pub listed_two : (value : ℕ → X) (n j k : ℕ) → j < n → k < n → j ≢ k → test (value j) ≡ true → test (value k) ≡ true
      → 2 ≤ count_by test (listed value n)
  listed_two value n j k low_j low_k apart is_j is_k =
      let e = count_joined test (λ i. value i ∷ []) n in
      let a = total_two (λ i. count_by test (value i ∷ [])) n j k low_j low_k apart in
      let b = one_is test (value j) is_j in
      let c = one_is test (value k) is_k in
      omega (arith, e, a, b, c)

  -- of one part, and of two
  pub joined_one : (part : ℕ → List X) (n k m : ℕ) → k < n → m ≤ count_by test (part k) → m ≤ count_by test (joined part n)
  joined_one part n k m lt le =
      let e = count_joined test part n in
      let a = total_one (λ i. count_by test (part i)) n k lt in
      omega (arith, e, a, le)

  pub joined_two : (part : ℕ → List X) (n j k : ℕ) → j < n → k < n → j ≢ k → 1 ≤ count_by test (part j)
      → 1 ≤ count_by test (part k) → 2 ≤ count_by test (joined part n)
  joined_two part n j k low_j low_k apart some_j some_k =
      let e = count_joined test part n in
      let a = total_two (λ i. count_by test (part i)) n j k low_j low_k apart in
      omega (arith, e, a, some_j, some_k)
