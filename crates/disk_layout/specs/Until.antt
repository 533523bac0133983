-- The values from a number on up to the first that is missing.
use Rattle.std.specs.Prelude.{ℕ, zero, suc, List, [], ◌∷◌, Option, Some, None}

-- a value and those behind it, or none
abbrev pub after : {A : Type 0} → Option A → List A → List A
after None rest = []
after (Some x) rest = x ∷ rest

-- of n values from i on those before the first that is missing
unfoldable pub until_none : {A : Type 0} → (ℕ → Option A) → ℕ → ℕ → List A
until_none at i zero = []
until_none at i (suc n) = after (at i) (until_none at (suc i) n)
