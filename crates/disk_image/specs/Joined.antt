-- Lists put together from parts by number, and sums.
use Rattle.std.specs.Prelude.{ℕ, zero, suc, ◌+◌, ◌||◌, Bool, false, List, [], ◌∷◌, ◌++◌}

-- n parts, one after another
unfoldable pub joined : {A : Type 0} → (ℕ → List A) → ℕ → List A
joined part zero = []
joined part (suc n) = joined part n ++ part n

-- n values
abbrev pub listed : {A : Type 0} → (ℕ → A) → ℕ → List A
listed value n = joined (λ k. value k ∷ []) n

-- the sum of n numbers
unfoldable pub total : (ℕ → ℕ) → ℕ → ℕ
total number zero = 0
total number (suc n) = total number n + number n

-- whether some number below one passes a test
unfoldable pub some_below : (ℕ → Bool) → ℕ → Bool
some_below test zero = false
some_below test (suc n) = some_below test n || test n
