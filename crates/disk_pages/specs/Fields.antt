-- Parts of pages.
use Rattle.std.specs.Prelude.{◌≡◌, ◌≤◌, ℕ, List}
use Rattle.base_types.specs.Image.{byte_at}

-- from a place on all bytes are zero
abbrev pub IsZeroFrom : ℕ → List ℕ → Type 0
IsZeroFrom at page = (k : ℕ) → at ≤ k → byte_at page k ≡ 0
