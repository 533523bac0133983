-- What is in a list, and tests of numbers.
use Rattle.std.proofs.Common.{◌≡◌, ◌≢◌, ◌⊎◌, ℕ, zero, suc, List, [], ◌∷◌, refl, subst, inl, inr, arith}
use Rattle.std.specs.Prelude.{Contains, true, false, ◌==◌}
use Rattle.std.proofs.lemmas.Bool.{cases_eq}
use Rattle.std.proofs.lemmas.Bool.Decides.{nat_tests}

pub test_same : (a b : ℕ) → (a == b) ≡ true → a ≡ b
test_same a b is = grind (arith, nat_tests)

pub test_other : (a b : ℕ) → (a == b) ≡ false → a ≢ b
test_other a b is = λ e. absurd (grind (arith, nat_tests, is, e))

pub contains_head : {X : Type 0} (x : X) (xs : List X) → Contains (x ∷ xs) x
contains_head x xs = (0, omega arith, refl)

pub contains_tail : {X : Type 0} (x y : X) (xs : List X) → Contains xs y → Contains (x ∷ xs) y
contains_tail x y xs (k, lt, e) = (suc k, omega (arith, lt), e)

pub contains_nil : {X : Type 0} (x : X) → Contains [] x → ⊥
contains_nil x (k, lt, e) = absurd (omega (arith, lt))

pub contains_cons : {X : Type 0} (x y : X) (xs : List X) → Contains (x ∷ xs) y → (x ≡ y) ⊎ Contains xs y
contains_cons x y xs (zero, lt, e) = inl e
contains_cons x y xs (suc k, lt, e) = inr (k, omega (arith, lt), e)

neither : (x y : ℕ) (xs : List ℕ) → (y ≡ x → ⊥) → (Contains xs x → ⊥) → (y ≡ x) ⊎ Contains xs x → ⊥
neither x y xs ne absent (inl e) = ne e
neither x y xs ne absent (inr there) = absent there

pub contains_or_not : (xs : List ℕ) (x : ℕ) → Contains xs x ⊎ (Contains xs x → ⊥)
contains_or_not [] x = inr (contains_nil x)
contains_or_not (y ∷ xs) x = by (cases_eq y x) (contains_or_not xs x)
  where
    by : (y ≡ x) ⊎ (y ≡ x → ⊥) → Contains xs x ⊎ (Contains xs x → ⊥) → Contains (y ∷ xs) x ⊎ (Contains (y ∷ xs) x → ⊥)
    by (inl e) rest = inl (subst (λ (z : ℕ). Contains (y ∷ xs) z) e (contains_head y xs))
    by (inr ne) (inl there) = inl (contains_tail y x xs there)
    by (inr ne) (inr absent) = inr (λ h. neither x y xs ne absent (contains_cons y x xs h))

pub contains_one : {X : Type 0} (x y : X) → Contains (x ∷ []) y → x ≡ y
contains_one x y h = by (contains_cons x y [] h)
  where
    by : (x ≡ y) ⊎ Contains [] y → x ≡ y
    by (inl e) = e
    by (inr none) = absurd (contains_nil y none)
