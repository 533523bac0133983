-- Values up to the first that is missing.
use Rattle.std.proofs.Common.{◌≡◌, ◌<◌, ◌≤◌, ◌⊎◌, ℕ, zero, suc, ◌+◌, List, [], ◌∷◌, ◌++◌, length, take, get_or, inl, inr, refl, ◌∙◌, ap, arith, Option, Some, None}
use Rattle.disk_layout.specs.Until.{after, until_none}

module _ {A : Type 0} (at : ℕ → Option A) where
  one_more : (i t : ℕ) (x : A) → at i ≡ Some x → until_none at i (suc t) ≡ x ∷ until_none at (suc i) t
  unfolding until_none
  one_more i t x is = λ j. after (is j) (until_none at (suc i) t)

  stops : (i t : ℕ) → at i ≡ None → until_none at i (suc t) ≡ []
  unfolding until_none
  stops i t missing = λ j. after (missing j) (until_none at (suc i) t)

  -- none is there
  pub until_none-none : (i t : ℕ) → (0 < t → at i ≡ None) → until_none at i t ≡ []
  unfolding until_none
  until_none-none i zero missing = refl
  until_none-none i (suc t) missing = stops i t (missing (omega arith))

  -- behind known values they go on
  pub until_none-known : (known : List A) (default : A) (i m t : ℕ) → t ≡ length known + m → ((k : ℕ) → k < length known → at (i + k) ≡ Some (get_or known k default))
      → until_none at i t ≡ known ++ until_none at (i + length known) m
  until_none-known [] default i m t is all = λ j. until_none at ((let e : i ≡ i + 0 = omega arith in e) j) ((let e : t ≡ m = omega arith in e) j)
  until_none-known (x ∷ known) default i m zero is all = absurd (omega arith)
  until_none-known (x ∷ known) default i m (suc t) is all =
      let e : suc i + length known ≡ i + suc (length known) = omega arith in
      one_more i t x ((let f : i ≡ i + 0 = omega arith in ap at f) ∙ all 0 (omega arith))
      ∙ ap (λ (l : List A). x ∷ l)
      (until_none-known known default (suc i) m t (omega arith) (λ k lt. (let f : suc i + k ≡ i + suc k = omega arith in ap at f) ∙ all (suc k) (omega arith))
      ∙ ap (λ (p : ℕ). known ++ until_none at p m) e)

  -- of known values, any of which may be missing, the first are there
  pub until_none-some : (known : List A) (default : A) (i t : ℕ) → length known ≤ t → (length known < t → at (i + length known) ≡ None)
      → ((k : ℕ) → k < length known → (at (i + k) ≡ Some (get_or known k default)) ⊎ (at (i + k) ≡ None))
      → (n : ℕ) × (n ≤ length known) × (until_none at i t ≡ take n known)
  until_none-some [] default i t le shut each = (0, omega arith, until_none-none i t (λ lt. let e : i ≡ i + 0 = omega arith in ap at e ∙ shut lt))
  until_none-some (x ∷ known) default i zero le shut each = absurd (omega arith)
  until_none-some (x ∷ known) default i (suc t) le shut each =
      let rest = until_none-some known default (suc i) t (omega arith)
      (λ lt. let e : suc i + length known ≡ i + suc (length known) = omega arith in ap at e ∙ shut (omega arith))
      (λ k lt. let e : suc i + k ≡ i + suc k = omega arith in moved k e (each (suc k) (omega arith))) in
      by rest.0 rest.1 rest.2 (each 0 (omega arith))
    where
      moved : (k : ℕ) → suc i + k ≡ i + suc k → (at (i + suc k) ≡ Some (get_or known k default)) ⊎ (at (i + suc k) ≡ None) → (at (suc i + k) ≡ Some (get_or known k default)) ⊎ (at (suc i + k) ≡ None)
      moved k e (inl there) = inl (ap at e ∙ there)
      moved k e (inr missing) = inr (ap at e ∙ missing)

      by : (m : ℕ) → m ≤ length known → until_none at (suc i) t ≡ take m known → (at (i + 0) ≡ Some x) ⊎ (at (i + 0) ≡ None)
          → (n : ℕ) × (n ≤ suc (length known)) × (until_none at i (suc t) ≡ take n (x ∷ known))
      by m up_to rest (inl there) = (suc m, omega arith, one_more i t x ((let f : i ≡ i + 0 = omega arith in ap at f) ∙ there) ∙ ap (λ (l : List A). x ∷ l) rest)
      by m up_to rest (inr missing) = (0, omega arith, stops i t ((let f : i ≡ i + 0 = omega arith in ap at f) ∙ missing))

-- the same values one by one are the same list
pub until_none-same : {A : Type 0} (at there : ℕ → Option A) (i t : ℕ) → ((k : ℕ) → i ≤ k → k < i + t → at k ≡ there k) → until_none at i t ≡ until_none there i t
unfolding until_none
until_none-same at there i zero same = refl
until_none-same at there i (suc t) same =
    let rest = until_none-same at there (suc i) t (λ k from below. same k (omega arith) (omega arith)) in
    let here = same i (omega arith) (omega arith) in
    λ j. after (here j) (rest j)
