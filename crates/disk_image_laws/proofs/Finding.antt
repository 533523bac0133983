-- What is found in values one by one, and tests of all numbers below one.
use Rattle.std.proofs.Common.{◌≡◌, ◌<◌, ◌≤◌, ℕ, zero, suc, ◌+◌, List, [], ◌∷◌, ◌++◌, length, inl, inr, refl, sym, ◌∙◌, ap, arith, ◌⊎◌}
use Rattle.std.specs.Prelude.{Bool, true, false, cond, count_by, Some, None, slice_get, ◌||◌}
use Rattle.std.specs.List.{find, list_any, AllByRecursion}
use Rattle.std.proofs.lemmas.Bool.{cases_eq, cases_Bool, and_from, false≢true}
use Rattle.std.proofs.lemmas.Option.{slice_get-get_or}
use Rattle.disk_pages.specs.Words.{each_below}
use Rattle.disk_pages.proofs.Each.{each_fails}
use Rattle.disk_image.specs.Joined.{joined, listed}
use Rattle.disk_image_laws.proofs.Sums.{count_cons}
use Rattle.disk_image.proofs.Joined.{length-listed, get_or-listed}

-- a test of each number below one
pub each_at : (test : ℕ → Bool) (n k : ℕ) → each_below test n ≡ true → k < n → test k ≡ true
each_at test n k all lt = elim (cases_Bool (test k)) [
  | inl is ↦ is
  | inr not_so ↦ absurd (false≢true (sym (each_fails test k n lt not_so) ∙ all))
]

pub each_all : (test : ℕ → Bool) (n : ℕ) → ((k : ℕ) → k < n → test k ≡ true) → each_below test n ≡ true
unfolding each_below
each_all test zero all = refl
each_all test (suc n) all = and_from (each_below test n) (test n) (each_all test n (λ k lt. all k (omega arith))) (all n (omega arith))

module _ {X : Type 0} (value : ℕ → X) where
  pub get_listed : (n k : ℕ) → k < n → slice_get (listed value n) k ≡ Some (value k)
  get_listed n k lt =
      slice_get-get_or (listed value n) k (value k) (let e = length-listed value n in omega (arith, e, lt))
      ∙ ap Some (get_or-listed value n k (value k) lt)

  past : (xs : List X) (k : ℕ) → length xs ≤ k → slice_get xs k ≡ None
  past [] k le = refl
  past (x ∷ xs) zero le = absurd (omega arith)
  past (x ∷ xs) (suc k) le = past xs k (omega arith)

  pub get_past : (n k : ℕ) → n ≤ k → slice_get (listed value n) k ≡ None
  get_past n k le = past (listed value n) k (let e = length-listed value n in omega (arith, e, le))

module _ {X : Type 0} (p : X → Bool) where
  some_is : (a b : X) → Some a ≡ Some b → a ≡ b
  some_is a b e = cc

  -- in a list with one element more
  found_more : (xs : List X) (y x : X) → find p (xs ++ y ∷ []) ≡ Some x → (find p xs ≡ Some x) ⊎ ((y ≡ x) × (p y ≡ true))
  found_more [] y x is = by (p y) refl is
    where
      by : (b : Bool) → p y ≡ b → cond b (Some y) None ≡ Some x → (None ≡ Some x) ⊎ ((y ≡ x) × (p y ≡ true))
      by true e h = inr (some_is y x h, e)
      by false e h = inl h
  found_more (z ∷ zs) y x is = by (p z) (found_more zs y x) is
    where
      by : (b : Bool) → (find p (zs ++ y ∷ []) ≡ Some x → (find p zs ≡ Some x) ⊎ ((y ≡ x) × (p y ≡ true)))
          → cond b (Some z) (find p (zs ++ y ∷ [])) ≡ Some x → (cond b (Some z) (find p zs) ≡ Some x) ⊎ ((y ≡ x) × (p y ≡ true))
      by true rest h = inl h
      by false rest h = rest h

  pub find_back : (xs ys : List X) → find p xs ≡ None → find p (xs ++ ys) ≡ find p ys
  find_back [] ys none = refl
  find_back (z ∷ zs) ys none = by (p z) (find_back zs ys) none
    where
      by : (b : Bool) → (find p zs ≡ None → find p (zs ++ ys) ≡ find p ys) → cond b (Some z) (find p zs) ≡ None → cond b (Some z) (find p (zs ++ ys)) ≡ find p ys
      by true rest h = absurd (cc)
      by false rest h = rest h

  pub find_front : (xs ys : List X) (x : X) → find p xs ≡ Some x → find p (xs ++ ys) ≡ Some x
  find_front [] ys x is = absurd (cc)
  find_front (z ∷ zs) ys x is = by (p z) (find_front zs ys x) is
    where
      by : (b : Bool) → (find p zs ≡ Some x → find p (zs ++ ys) ≡ Some x) → cond b (Some z) (find p zs) ≡ Some x → cond b (Some z) (find p (zs ++ ys)) ≡ Some x
      by true rest h = h
      by false rest h = rest h

  module _ (value : ℕ → X) where
    -- what is found is one of the values, which passes
    pub found_at : (n : ℕ) (x : X) → find p (listed value n) ≡ Some x → (j : ℕ) × (j < n) × (x ≡ value j) × (p (value j) ≡ true)
    unfolding joined
    found_at zero x is = absurd (cc)
    found_at (suc n) x is = elim (found_more (listed value n) (value n) x is) [
      | inl before ↦ let one = found_at n x before in (one.0, omega (arith, one.1), one.2, one.3)
      | inr now ↦ (n, omega arith, sym now.0, now.1)
    ]

    none_found : (n : ℕ) → ((k : ℕ) → k < n → p (value k) ≡ false) → find p (listed value n) ≡ None
    unfolding joined
    none_found zero none = refl
    none_found (suc n) none =
        find_back (listed value n) (value n ∷ []) (none_found n (λ k lt. none k (omega arith)))
        ∙ ap (λ b. cond b (Some (value n)) None) (none n (omega arith))

    -- the first that passes is found
    pub first_found : (n j : ℕ) → j < n → p (value j) ≡ true → ((k : ℕ) → k < j → p (value k) ≡ false) → find p (listed value n) ≡ Some (value j)
    unfolding joined
    first_found zero j lt passes none = absurd (omega arith)
    first_found (suc n) j lt passes none = elim (cases_eq j n) [
      | inl e ↦
          let n_passes : p (value n) ≡ true = ap (λ k. p (value k)) (sym e) ∙ passes in
          find_back (listed value n) (value n ∷ []) (none_found n (λ k low. none k (omega (arith, e, low))))
          ∙ ap (λ b. cond b (Some (value n)) None) n_passes ∙ ap (λ k. Some (value k)) (sym e)
      | inr apart ↦ find_front (listed value n) (value n ∷ []) (value j) (first_found n j (omega (arith, apart)) passes none)
    ]

-- what holds of the elements of each part
both : {A : Type 0} (P : A → Type 0) (xs ys : List A) → AllByRecursion P xs → AllByRecursion P ys → AllByRecursion P (xs ++ ys)
both P [] ys front back = back
both P (x ∷ xs) ys front back = (front.0, both P xs ys front.1 back)

pub all_joined : {A : Type 0} (P : A → Type 0) (part : ℕ → List A) (n : ℕ) → ((k : ℕ) → k < n → AllByRecursion P (part k)) → AllByRecursion P (joined part n)
unfolding joined
all_joined P part zero all = tt
all_joined P part (suc n) all = both P (joined part n) (part n) (all_joined P part n (λ k lt. all k (omega arith))) (all n (omega arith))

pub all_listed : {A : Type 0} (P : A → Type 0) (value : ℕ → A) (n : ℕ) → ((k : ℕ) → k < n → P (value k)) → AllByRecursion P (listed value n)
all_listed P value n all = all_joined P (λ k. value k ∷ []) n (λ k lt. (all k lt, tt))

pub all_follow : {A : Type 0} (P Q : A → Type 0) (xs : List A) → ((x : A) → P x → Q x) → AllByRecursion P xs → AllByRecursion Q xs
all_follow P Q [] step all = tt
all_follow P Q (x ∷ xs) step all = (step x all.0, all_follow P Q xs step all.1)

-- what is counted is there
pub some_counted : {A : Type 0} (test : A → Bool) (xs : List A) → 1 ≤ count_by test xs → list_any test xs ≡ true
some_counted test [] some = absurd (omega arith)
some_counted test (x ∷ xs) some = by (test x) (some_counted test xs) (let sum = count_cons test x xs in omega (arith, sum, some))
  where
    by : (b : Bool) → (1 ≤ count_by test xs → list_any test xs ≡ true) → 1 ≤ 0 + cond b 1 0 + count_by test xs → (b || list_any test xs) ≡ true
    by true rest h = refl
    by false rest h = rest (omega (arith, h))
