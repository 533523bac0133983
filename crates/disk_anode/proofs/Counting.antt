-- How many numbers pass a test.
use Rattle.std.proofs.Common.{◌≡◌, ◌≢◌, ◌<◌, ◌≤◌, ◌⊎◌, ℕ, zero, suc, ◌+◌, ◌-◌, refl, sym, ◌∙◌, subst, arith, inl, inr}
use Rattle.std.proofs.Math.Numerals.{add-one}
use Rattle.std.specs.Prelude.{Bool, true, false, ◌==◌, ◌||◌, nat_le}
use Rattle.std.proofs.lemmas.Bool.{cases_eq, cases_lt}
use Rattle.std.proofs.lemmas.Bool.Decides.{nat_tests}
use Rattle.disk_anode.specs.Room.{one, how_many}

pub same_many : (f g : ℕ → Bool) (n : ℕ) → ((j : ℕ) → j < n → f j ≡ g j) → how_many f n ≡ how_many g n
unfolding how_many
same_many f g zero same = refl
same_many f g (suc n) same = let rest = same_many f g n (λ j lt. same j (omega arith)) in let here = same n (omega arith) in λ i. rest i + one (here i)

-- tests that differ at one number
pub many_but : (f g : ℕ → Bool) (i n : ℕ) → i < n → ((j : ℕ) → j < n → j ≢ i → f j ≡ g j) → how_many g n + one (f i) ≡ how_many f n + one (g i)
unfolding how_many
many_but f g i zero lt same = absurd (omega arith)
many_but f g i (suc n) lt same = by (cases_eq i n) (λ below. many_but f g i n below (λ j lt differs. same j (omega arith) differs))
  where
    by : (i ≡ n) ⊎ (i ≢ n) → (i < n → how_many g n + one (f i) ≡ how_many f n + one (g i)) → how_many g n + one (g n) + one (f i) ≡ how_many f n + one (f n) + one (g i)
    by (inl here) later =
        let e = same_many f g n (λ j below. same j (omega arith) (omega arith)) in
        let a : one (f i) ≡ one (f n) = λ k. one (f (here k)) in
        let b : one (g i) ≡ one (g n) = λ k. one (g (here k)) in
        omega (arith, e, a, b)
    by (inr other) later =
        let e = later (omega arith) in
        let a : one (f n) ≡ one (g n) = (let s = same n (omega arith) (λ is. other (sym is)) in λ k. one (s k)) in
        omega (arith, e, a)

-- a wider test
one_le : (a b : Bool) → (a ≡ true → b ≡ true) → one a ≤ one b
one_le true true wider = omega arith
one_le true false wider = let no : false ≡ true = wider refl in absurd (grind (arith, no))
one_le false b wider = omega arith

pub many_le : (f g : ℕ → Bool) (n : ℕ) → ((j : ℕ) → j < n → f j ≡ true → g j ≡ true) → how_many f n ≤ how_many g n
unfolding how_many
many_le f g zero wider = omega arith
many_le f g (suc n) wider = let rest = many_le f g n (λ j lt. wider j (omega arith)) in let here = one_le (f n) (g n) (wider n (omega arith)) in omega arith

-- one that passes
pub one_of_many : (f : ℕ → Bool) (i n : ℕ) → i < n → f i ≡ true → 1 ≤ how_many f n
unfolding how_many
one_of_many f i zero lt is = absurd (omega arith)
one_of_many f i (suc n) lt is = by (cases_eq i n) (λ below. one_of_many f i n below is)
  where
    by : (i ≡ n) ⊎ (i ≢ n) → (i < n → 1 ≤ how_many f n) → 1 ≤ how_many f n + one (f n)
    by (inl here) later = let a : one (f n) ≡ 1 = (λ k. one (f (sym here k))) ∙ (λ k. one (is k)) in omega (arith, a)
    by (inr other) later = let rest = later (omega arith) in omega (arith, rest)

-- none that passes
pub none_many : (f : ℕ → Bool) (n : ℕ) → ((j : ℕ) → j < n → f j ≡ false) → how_many f n ≡ 0
unfolding how_many
none_many f zero none = refl
none_many f (suc n) none = let rest = none_many f n (λ j lt. none j (omega arith)) in let here : one (f n) ≡ 0 = (let e = none n (omega arith) in λ i. one (e i)) in omega (arith, rest, here)

-- tests of which one passes at most, and those of two tests
pub single_many : (i n : ℕ) → how_many (λ j. j == i) n ≤ 1
single_many i n = by (cases_lt i n)
  where
    off : (j : ℕ) → (j ≡ i → ⊥) → (j == i) ≡ false
    off j apart = grind (arith, nat_tests)

    by : (i < n) ⊎ (n ≤ i) → how_many (λ j. j == i) n ≤ 1
    by (inl lt) =
        let but = many_but (λ j. j == i) (λ j. false) i n lt (λ j below apart. off j apart) in
        let none = none_many (λ j. false) n (λ j below. refl) in
        let on : one (i == i) ≡ 1 = (let e : (i == i) ≡ true = grind (arith, nat_tests) in λ k. one (e k)) in
        omega (arith, but, none, on)
    by (inr le) = let none = none_many (λ j. j == i) n (λ j below. off j (omega arith)) in omega (arith, none)

one_or : (a b : Bool) → one (a || b) ≤ one a + one b
one_or true b = omega arith
one_or false b = omega arith

pub or_many : (f g : ℕ → Bool) (n : ℕ) → how_many (λ j. f j || g j) n ≤ how_many f n + how_many g n
unfolding how_many
or_many f g zero = omega arith
or_many f g (suc n) = let rest = or_many f g n in let here = one_or (f n) (g n) in omega (arith, rest, here)

pub above_many : (from n : ℕ) → how_many (λ j. nat_le from j) n ≤ n - from
unfolding how_many
above_many from zero = omega arith
above_many from (suc n) = by (nat_le from n) refl (above_many from n)
  where
    by : (above : Bool) → nat_le from n ≡ above → how_many (λ j. nat_le from j) n ≤ n - from → how_many (λ j. nat_le from j) n + one above ≤ suc n - from
    by true e rest = let le : from ≤ n = grind (arith, nat_tests) in omega (arith, rest)
    by false e rest = omega (arith, rest)

-- the first numbers of more
pub many_upto : (f : ℕ → Bool) (m n : ℕ) → m ≤ n → how_many f m ≤ how_many f n
unfolding how_many
many_upto f m zero le = let e : m ≡ 0 = omega arith in subst (λ (x : ℕ). how_many f x ≤ 0) (sym e) (omega arith)
many_upto f m (suc n) le = by (cases_eq m (suc n)) (λ below. many_upto f m n below)
  where
    by : (m ≡ suc n) ⊎ (m ≢ suc n) → (m ≤ n → how_many f m ≤ how_many f n) → how_many f m ≤ how_many f n + one (f n)
    by (inl e) later = subst (λ (x : ℕ). how_many f x ≤ how_many f n + one (f n)) (sym e) (omega arith)
    by (inr apart) later = let rest = later (omega arith) in omega (arith, rest)

pub many_next : (f : ℕ → Bool) (m : ℕ) → how_many f (m + 1) ≡ how_many f m + one (f m)
unfolding how_many
many_next f m = (λ i. how_many f (add-one m i)) ∙ refl

-- of which none behind some passes
pub many_rest : (f : ℕ → Bool) (m n : ℕ) → m ≤ n → ((j : ℕ) → m ≤ j → j < n → f j ≡ false) → how_many f n ≡ how_many f m
unfolding how_many
many_rest f m zero le none = let e : m ≡ 0 = omega arith in subst (λ (x : ℕ). 0 ≡ how_many f x) (sym e) refl
many_rest f m (suc n) le none = by (cases_eq m (suc n)) (λ below. many_rest f m n below (λ j low lt. none j low (omega arith)))
  where
    by : (m ≡ suc n) ⊎ (m ≢ suc n) → (m ≤ n → how_many f n ≡ how_many f m) → how_many f n + one (f n) ≡ how_many f m
    by (inl e) later = subst (λ (x : ℕ). how_many f n + one (f n) ≡ how_many f x) (sym e) refl
    by (inr apart) later =
        let rest = later (omega arith) in
        let here : one (f n) ≡ 0 = (let e = none n (omega arith) (omega arith) in λ i. one (e i)) in
        omega (arith, rest, here)

-- none of which passes
pub many_none : (f : ℕ → Bool) (i n : ℕ) → how_many f n ≡ 0 → i < n → f i ≡ false
many_none f i n none lt = by (f i) refl
  where
    by : (is : Bool) → f i ≡ is → f i ≡ false
    by true e = let some = one_of_many f i n lt e in absurd (omega (arith, some, none))
    by false e = e
