-- Inputs and outputs that were cut short.
use Rattle.std.specs.Prelude.{◌≡◌, ◌≤◌, ℕ, List, ◌++◌, take, length}

-- a part of the piece was appended, from its front
abbrev pub IsAppendedInPart : List ℕ → List ℕ → List ℕ → Type 0
IsAppendedInPart old piece new = (n : ℕ) × (n ≤ length piece) × (new ≡ old ++ take n piece)

-- what is left of an input after some bytes of its front
abbrev pub IsRestOf : List ℕ → List ℕ → Type 0
IsRestOf old new = (moved : List ℕ) × (old ≡ moved ++ new)
