-- Sums over the numbers below one.
use Rattle.std.proofs.Common.{◌≡◌, ◌≢◌, ◌<◌, ◌≤◌, ◌⊎◌, ℕ, zero, suc, ◌+◌, refl, sym, ◌∙◌, arith, inl, inr}
use Rattle.std.specs.Prelude.{Bool, true, false, ◌==◌, if◌then◌else◌}
use Rattle.std.proofs.lemmas.Bool.{cases_eq}
use Rattle.std.proofs.lemmas.Bool.Decides.{nat_tests}
use Rattle.disk_anode.specs.Room.{one, how_many}
use Rattle.disk_anode.proofs.Counting.{many_but, one_of_many}
use Rattle.disk_objects.specs.Holds.{sum_below}

pub sum_same : (f g : ℕ → ℕ) (n : ℕ) → ((j : ℕ) → j < n → f j ≡ g j) → sum_below f n ≡ sum_below g n
unfolding sum_below
sum_same f g zero same = refl
sum_same f g (suc n) same = let rest = sum_same f g n (λ j lt. same j (omega arith)) in let here = same n (omega arith) in λ i. rest i + here i

-- that differ at one number
pub sum_but : (f g : ℕ → ℕ) (i n : ℕ) → i < n → ((j : ℕ) → j < n → j ≢ i → f j ≡ g j) → sum_below g n + f i ≡ sum_below f n + g i
unfolding sum_below
sum_but f g i zero lt same = absurd (omega arith)
sum_but f g i (suc n) lt same = by (cases_eq i n) (λ below. sum_but f g i n below (λ j lt differs. same j (omega arith) differs))
  where
    by : (i ≡ n) ⊎ (i ≢ n) → (i < n → sum_below g n + f i ≡ sum_below f n + g i) → sum_below g n + g n + f i ≡ sum_below f n + f n + g i
    by (inl here) later =
        let e = sum_same f g n (λ j below. same j (omega arith) (omega arith)) in
        let a : f i ≡ f n = λ k. f (here k) in
        let b : g i ≡ g n = λ k. g (here k) in
        omega (arith, e, a, b)
    by (inr other) later =
        let e = later (omega arith) in
        let a : f n ≡ g n = same n (omega arith) (λ is. other (sym is)) in
        omega (arith, e, a)

pub sum_le : (f g : ℕ → ℕ) (n : ℕ) → ((j : ℕ) → j < n → f j ≤ g j) → sum_below f n ≤ sum_below g n
unfolding sum_below
sum_le f g zero le = omega arith
sum_le f g (suc n) le = let rest = sum_le f g n (λ j lt. le j (omega arith)) in let here = le n (omega arith) in omega (arith, rest, here)

-- one of them
pub sum_one : (f : ℕ → ℕ) (i n : ℕ) → i < n → f i ≤ sum_below f n
unfolding sum_below
sum_one f i zero lt = absurd (omega arith)
sum_one f i (suc n) lt = by (cases_eq i n) (λ below. sum_one f i n below)
  where
    by : (i ≡ n) ⊎ (i ≢ n) → (i < n → f i ≤ sum_below f n) → f i ≤ sum_below f n + f n
    by (inl here) later = let a : f i ≡ f n = (λ k. f (here k)) in omega (arith, a)
    by (inr other) later = let e = later (omega arith) in omega (arith, e)

pub sum_zero : (f : ℕ → ℕ) (n : ℕ) → ((j : ℕ) → j < n → f j ≡ 0) → sum_below f n ≡ 0
unfolding sum_below
sum_zero f zero none = refl
sum_zero f (suc n) none = let rest = sum_zero f n (λ j lt. none j (omega arith)) in let here = none n (omega arith) in omega (arith, rest, here)

pub sum_ones : (f : ℕ → ℕ) (n : ℕ) → ((j : ℕ) → j < n → f j ≤ 1) → sum_below f n ≤ n
unfolding sum_below
sum_ones f zero few = omega arith
sum_ones f (suc n) few = let rest = sum_ones f n (λ j lt. few j (omega arith)) in let here = few n (omega arith) in omega (arith, rest, here)

pub sum_plus : (f g : ℕ → ℕ) (n : ℕ) → sum_below (λ j. f j + g j) n ≡ sum_below f n + sum_below g n
unfolding sum_below
sum_plus f g zero = refl
sum_plus f g (suc n) = let rest = sum_plus f g n in omega (arith, rest)

pub sum_swap : (f : ℕ → ℕ → ℕ) (m n : ℕ) → sum_below (λ i. sum_below (f i) n) m ≡ sum_below (λ j. sum_below (λ i. f i j) m) n
unfolding sum_below
sum_swap f zero n = sym (sum_zero (λ j. 0) n (λ j lt. refl))
sum_swap f (suc m) n =
    let rest = sum_swap f m n in
    let e = sum_plus (λ j. sum_below (λ i. f i j) m) (f m) n in
    omega (arith, rest, e)

pub many_sum : (t : ℕ → Bool) (n : ℕ) → how_many t n ≡ sum_below (λ j. one (t j)) n
unfolding how_many sum_below
many_sum t zero = refl
many_sum t (suc n) = let rest = many_sum t n in λ i. rest i + one (t n)

-- a number that passes a test
pub many_some : (t : ℕ → Bool) (n : ℕ) → 0 < how_many t n → (i : ℕ) × (i < n) × (t i ≡ true)
unfolding how_many
many_some t zero some = absurd (omega (arith, some))
many_some t (suc n) some = by (t n) refl (λ rest. many_some t n rest) some
  where
    by : (b : Bool) → t n ≡ b → (0 < how_many t n → (i : ℕ) × (i < n) × (t i ≡ true)) → 0 < how_many t n + one b → (i : ℕ) × (i < suc n) × (t i ≡ true)
    by true e later lt = (n, omega arith, e)
    by false e later lt =
        let found = later (omega (arith, lt)) in
        let low = found.1 in
        (found.0, omega (arith, low), found.2)

-- two that do
pub many_two : (t : ℕ → Bool) (i j n : ℕ) → i < n → j < n → i ≢ j → t i ≡ true → t j ≡ true → 2 ≤ how_many t n
many_two t i j n low high apart here there =
    let but = many_but t (λ k. if k == i then false else t k) i n low (λ k below other. (let e : (k == i) ≡ false = grind (arith, nat_tests) in λ x. if sym e x then false else t k)) in
    let off : (j == i) ≡ false = grind (arith, nat_tests) in
    let on : (i == i) ≡ true = grind (arith, nat_tests) in
    let some = one_of_many (λ k. if k == i then false else t k) j n high ((λ x. if off x then false else t j) ∙ there) in
    let a : one (t i) ≡ 1 = (λ x. one (here x)) in
    let b : one (if i == i then false else t i) ≡ 0 = (λ x. one (if on x then false else t i)) in
    omega (arith, but, some, a, b)

-- the tests behind some
pub many_split : (t : ℕ → Bool) (m n : ℕ) → how_many t (m + n) ≡ how_many t m + how_many (λ j. t (m + j)) n
unfolding how_many
many_split t m zero = (let e : m + 0 ≡ m = omega arith in λ i. how_many t (e i)) ∙ omega arith
many_split t m (suc n) =
    let rest = many_split t m n in
    let e : m + suc n ≡ suc (m + n) = omega arith in
    let here : how_many t (m + suc n) ≡ how_many t (m + n) + one (t (m + n)) = (λ i. how_many t (e i)) in
    omega (arith, rest, here)
